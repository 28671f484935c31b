-- One gate after the other is read.
use Rattle.std.proofs.Common.{◌≡◌, ◌≢◌, ℕ, zero, suc, ◌+◌, ◌-◌, ◌^◌, ◌<◌, ◌≤◌, ◌==◌, nat_le, Bool, true, false, not, cond, List, [], ◌∷◌, ◌++◌, length, take, drop, find, Option, Some, None, option_map, refl, sym, ◌∙◌, ap, arith, length-drop, length-take, take-append-drop}
use Rattle.std.proofs.lemmas.List.{drop-drop, drop-take, take-take}
use Rattle.std.proofs.lemmas.Bool.{eq-eqb, eqb-true, le-leb, leb-true}
use Rattle.newt_spec_image.specs.Records.{length_bytes, length_at, payloads_after, with_first}
use Rattle.newt_spec_image.specs.Pages.{is_change}
use Rattle.newt_journal.specs.Scan.{between}
use Rattle.newt_journal.proofs.Records.{length_at-length_bytes}
use Rattle.newt_spec_graph.proofs.Lists.{none-some, some-same}
use Rattle.newt_spec_check.specs.Damage.{Gate, gates_after, first_gate, leaves_bank, is_unformed}
use Rattle.newt_check.specs.Gates.{first_from}

gates-skip : (at skip : ℕ) (bytes : List ℕ) → gates_after at skip bytes ≡ gates_after (at + skip) 0 (drop skip bytes)
gates-skip at zero bytes = let e : at ≡ at + 0 = omega arith in ap (λ n. gates_after n 0 bytes) e
gates-skip at (suc skip) [] = refl
gates-skip at (suc skip) (byte ∷ rest) = let e : suc at + skip ≡ at + suc skip = omega arith in gates-skip (suc at) skip rest ∙ ap (λ n. gates_after n 0 (drop skip rest)) e

payloads-skip : (skip : ℕ) (bytes : List ℕ) → payloads_after skip bytes ≡ payloads_after 0 (drop skip bytes)
payloads-skip zero bytes = refl
payloads-skip (suc skip) [] = refl
payloads-skip (suc skip) (byte ∷ rest) = payloads-skip skip rest

split-first : (rest : List ℕ) (byte : ℕ) → take 1 rest ≡ byte ∷ [] → rest ≡ byte ∷ drop 1 rest
split-first [] byte is = cc
split-first (x ∷ []) byte is = cc
split-first (x ∷ y ∷ rest) byte is = let same : x ≡ byte = cc in ap (λ (b : ℕ). b ∷ y ∷ rest) same

pub past : (test : List ℕ → Bool) (image : List ℕ) (at limit : ℕ) → limit ≤ at → first_from test at limit image ≡ None
past test image at limit h = let e : limit - at ≡ 0 = omega (arith, h) in ap (λ n. first_gate test (gates_after at 0 (take n (drop at image)))) e

-- ---- records, by the bytes that are read

module _ (image : List ℕ) (at limit byte : ℕ) (inside : limit ≤ length image) (more : at < limit) (is : take 1 (drop at image) ≡ byte ∷ []) where
  abbrev pub after : List ℕ
  after = between (at + 1) limit image

  begun : between at limit image ≡ byte ∷ after
  begun =
      let k : limit - at ≡ suc (limit - (at + 1)) = omega (arith, more) in
      ap (λ n. take n (drop at image)) k ∙ ap (take (suc (limit - (at + 1)))) (split-first (drop at image) byte is ∙ ap (λ (l : List ℕ). byte ∷ l) (drop-drop 1 at image))

  gates-are : gates_after at 0 (between at limit image) ≡ cond (byte == 0) ((at, after) ∷ gates_after (suc at) (4 + length_at after) after) []
  gates-are = ap (gates_after at 0) begun

  pub shut : (test : List ℕ → Bool) → byte ≢ 0 → first_from test at limit image ≡ None
  shut test h = ap (first_gate test) (gates-are ∙ ap (λ b. cond b ((at, after) ∷ gates_after (suc at) (4 + length_at after) after) []) (no byte h))
    where
      no : (b : ℕ) → b ≢ 0 → (b == 0) ≡ false
      no b h = go (b == 0) refl
        where
          go : (t : Bool) → (b == 0) ≡ t → t ≡ false
          go true e = absurd (h (eqb-true b 0 e))
          go false e = refl

  module _ (open_gate : byte ≡ 0) where
    gated : gates_after at 0 (between at limit image) ≡ (at, after) ∷ gates_after (suc at) (4 + length_at after) after
    gated = gates-are ∙ ap (λ b. cond b ((at, after) ∷ gates_after (suc at) (4 + length_at after) after) []) (eq-eqb byte 0 open_gate)

    passes : (test : List ℕ → Bool) → test after ≡ true → first_from test at limit image ≡ Some at
    passes test h = ap (first_gate test) gated ∙ ap (λ b. option_map (λ (g : Gate). g.0) (cond b (Some (at, after)) (find (λ (g : Gate). test g.1) (gates_after (suc at) (4 + length_at after) after)))) h

    skips : (test : List ℕ → Bool) → test after ≡ false → first_from test at limit image ≡ first_gate test (gates_after (suc at) (4 + length_at after) after)
    skips test h = ap (first_gate test) gated ∙ ap (λ b. option_map (λ (g : Gate). g.0) (cond b (Some (at, after)) (find (λ (g : Gate). test g.1) (gates_after (suc at) (4 + length_at after) after)))) h

    long_after : length after ≡ limit - (at + 1)
    long_after = omega (arith, length-take (limit - (at + 1)) (drop (at + 1) image), length-drop (at + 1) image, inside, more)

    leaves : length after < 4 + length_at after → leaves_bank after ≡ true
    leaves h = go (nat_le (4 + length_at after) (length after)) refl
      where
        go : (b : Bool) → nat_le (4 + length_at after) (length after) ≡ b → not b ≡ true
        go true e = absurd (omega (arith, h, leb-true (4 + length_at after) (length after) e))
        go false e = refl

    pub cut_short : limit - at < 5 → first_from leaves_bank at limit image ≡ Some at
    cut_short short = passes leaves_bank (leaves (omega (arith, long_after, short)))

    module _ (n : ℕ) (fits : at + 5 ≤ limit) (number : length_bytes n ≡ take 4 (drop (at + 1) image)) (n_small : n < 2 ^ 32) where
      four : take 4 after ≡ length_bytes n
      four = take-take 4 (limit - (at + 1)) (drop (at + 1) image) (omega (arith, fits)) ∙ sym number

      spells : length_at after ≡ n
      spells = ap length_at (sym (take-append-drop 4 after) ∙ ap (λ (l : List ℕ). l ++ drop 4 after) four) ∙ length_at-length_bytes n (drop 4 after) n_small

      pub too_long : limit - at - 5 < n → first_from leaves_bank at limit image ≡ Some at
      too_long long = passes leaves_bank (leaves (omega (arith, long_after, spells, long, fits)))

      pub one_more : n ≤ limit - at - 5 → first_from leaves_bank at limit image ≡ first_from leaves_bank (at + (5 + n)) limit image
      one_more whole =
          let a : suc at + (4 + n) ≡ at + (5 + n) = omega arith in
          let k : limit - (at + 1) ≡ (4 + n) + (limit - (at + (5 + n))) = omega (arith, whole, fits) in
          let d : at + 1 + (4 + n) ≡ at + (5 + n) = omega arith in
          let stays : leaves_bank after ≡ false = ap not (le-leb (4 + length_at after) (length after) (omega (arith, long_after, spells, whole, fits))) in
          skips leaves_bank stays ∙ ap (first_gate leaves_bank)
          (ap (λ m. gates_after (suc at) (4 + m) after) spells ∙ gates-skip (suc at) (4 + n) after
          ∙ ap (λ m. gates_after m 0 (drop (4 + n) after)) a
          ∙ ap (λ (l : List ℕ). gates_after (at + (5 + n)) 0 l)
          (ap (λ m. drop (4 + n) (take m (drop (at + 1) image))) k ∙ drop-take (4 + n) (limit - (at + (5 + n))) (drop (at + 1) image)
          ∙ ap (take (limit - (at + (5 + n)))) (drop-drop (4 + n) (at + 1) image ∙ ap (λ m. drop m image) d)))

-- ---- payloads, by the records that are walked

-- the gate of the first record of some bytes: its payload stands after it, and then the other gates
pub record FirstGate (at : ℕ) (bytes payload : List ℕ) : Type 0 where
  pub rest : List ℕ
  pub are : gates_after at 0 bytes ≡ (at, rest) ∷ gates_after (at + (5 + length payload)) 0 (drop (5 + length payload) bytes)
  pub payload_is : take (length_at rest) (drop 4 rest) ≡ payload
  pub long : 5 + length payload ≤ length bytes

pub first-of : (at : ℕ) (bytes payload : List ℕ) (payloads : List (List ℕ)) → payloads_after 0 bytes ≡ Some (payload ∷ payloads) → FirstGate at bytes payload
first-of at [] payload payloads h = absurd (cons (some-same [] (payload ∷ payloads) h))
  where
    cons : {X : Type 0} {x : X} {xs : List X} → [] ≡ x ∷ xs → ⊥
    cons e = cc
first-of at (gate ∷ rest) payload payloads h = go (gate == 0) refl (nat_le (4 + length_at rest) (length rest)) refl h
  where
    first : (o : Option (List (List ℕ))) → with_first (take (length_at rest) (drop 4 rest)) o ≡ Some (payload ∷ payloads) → take (length_at rest) (drop 4 rest) ≡ payload
    first None e = absurd (none-some (payload ∷ payloads) e)
    first (Some ps) e = let same = some-same (take (length_at rest) (drop 4 rest) ∷ ps) (payload ∷ payloads) e in cc

    go : (b : Bool) → (gate == 0) ≡ b → (c : Bool) → nat_le (4 + length_at rest) (length rest) ≡ c
        → cond b (cond c (with_first (take (length_at rest) (drop 4 rest)) (payloads_after (4 + length_at rest) rest)) None) (Some []) ≡ Some (payload ∷ payloads) → FirstGate at (gate ∷ rest) payload
    go false e c f k = absurd (cons (some-same [] (payload ∷ payloads) k))
      where
        cons : {X : Type 0} {x : X} {xs : List X} → [] ≡ x ∷ xs → ⊥
        cons e = cc
    go true e false f k = absurd (none-some (payload ∷ payloads) k)
    go true e true f k =
        let fits = leb-true (4 + length_at rest) (length rest) f in
        let is = first (payloads_after (4 + length_at rest) rest) k in
        let size : length payload ≡ length_at rest = sym (ap length is) ∙ whole (length_at rest) fits in
        let a : suc at + (4 + length_at rest) ≡ at + (5 + length payload) = omega (arith, size) in
        record {
          rest = rest;
          are = ap (λ b. cond b ((at, rest) ∷ gates_after (suc at) (4 + length_at rest) rest) []) e
              ∙ ap (λ (gs : List Gate). (at, rest) ∷ gs) (gates-skip (suc at) (4 + length_at rest) rest ∙ ap (λ m. gates_after m 0 (drop (4 + length_at rest) rest)) a
              ∙ ap (λ m. gates_after (at + (5 + length payload)) 0 (drop (4 + m) rest)) (sym size)
              ∙ ap (λ m. gates_after (at + (5 + length payload)) 0 (drop m (gate ∷ rest))) (let more : suc (4 + length payload) ≡ 5 + length payload = omega arith in more));
          payload_is = is;
          long = omega (arith, size, fits);
        }
      where
        whole : (n : ℕ) → 4 + n ≤ length rest → length (take n (drop 4 rest)) ≡ n
        whole n fits = omega (arith, length-take n (drop 4 rest), length-drop 4 rest, fits)

-- what is after the first record
pub after-first : (at limit : ℕ) (image payload : List ℕ) → 5 + length payload ≤ length (between at limit image)
    → drop (5 + length payload) (between at limit image) ≡ between (at + (5 + length payload)) limit image
after-first at limit image payload long =
    let n = 5 + length payload in
    let some : length (between at limit image) ≤ limit - at = omega (arith, length-take (limit - at) (drop at image)) in
    let k : limit - at ≡ n + (limit - (at + n)) = omega (arith, some, long) in
    ap (λ m. drop n (take m (drop at image))) k ∙ drop-take n (limit - (at + n)) (drop at image) ∙ ap (take (limit - (at + n))) (drop-drop n at image)

module _ (at limit : ℕ) (image payload : List ℕ) (payloads : List (List ℕ)) (h : payloads_after 0 (between at limit image) ≡ Some (payload ∷ payloads)) where
  first : FirstGate at (between at limit image) payload
  first = first-of at (between at limit image) payload payloads h

  found : (b : Bool) → is_change payload ≡ b → first_from is_unformed at limit image ≡ option_map (λ (g : Gate). g.0) (cond (not b) (Some (at, first.rest)) (find (λ (g : Gate). is_unformed g.1) (gates_after (at + (5 + length payload)) 0 (drop (5 + length payload) (between at limit image)))))
  found b e = ap (first_gate is_unformed) first.are
      ∙ ap (λ c. option_map (λ (g : Gate). g.0) (cond (not c) (Some (at, first.rest)) (find (λ (g : Gate). is_unformed g.1) (gates_after (at + (5 + length payload)) 0 (drop (5 + length payload) (between at limit image))))))
      (ap is_change first.payload_is ∙ e)

  pub unformed : is_change payload ≡ false → first_from is_unformed at limit image ≡ Some at
  unformed e = found false e

  pub formed : is_change payload ≡ true → first_from is_unformed at limit image ≡ first_from is_unformed (at + (5 + length payload)) limit image
  formed e = found true e ∙ ap (λ (l : List ℕ). first_gate is_unformed (gates_after (at + (5 + length payload)) 0 l)) (after-first at limit image payload first.long)

-- where no record stands there is no gate
pub none-left : (at : ℕ) (bytes : List ℕ) → payloads_after 0 bytes ≡ Some [] → gates_after at 0 bytes ≡ []
none-left at [] h = refl
none-left at (gate ∷ rest) h = go (gate == 0) (nat_le (4 + length_at rest) (length rest)) h
  where
    no : (o : Option (List (List ℕ))) → with_first (take (length_at rest) (drop 4 rest)) o ≡ Some [] → ⊥
    no None e = none-some [] e
    no (Some ps) e = let same = some-same (take (length_at rest) (drop 4 rest) ∷ ps) [] e in cc

    go : (b c : Bool) → cond b (cond c (with_first (take (length_at rest) (drop 4 rest)) (payloads_after (4 + length_at rest) rest)) None) (Some []) ≡ Some []
        → cond b ((at, rest) ∷ gates_after (suc at) (4 + length_at rest) rest) [] ≡ []
    go false c k = refl
    go true false k = absurd (none-some [] k)
    go true true k = absurd (no (payloads_after (4 + length_at rest) rest) k)

pub ended : (at limit : ℕ) (image : List ℕ) → payloads_after 0 (between at limit image) ≡ Some [] → first_from is_unformed at limit image ≡ None
ended at limit image h = ap (first_gate is_unformed) (none-left at (between at limit image) h)
