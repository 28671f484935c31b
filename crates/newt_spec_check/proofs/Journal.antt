-- The rows of votes, headers, records and payloads hold where an image has no pages.
use Rattle.std.proofs.Common.{arith, ◌≡◌, refl, ap, sym, ◌∙◌, subst, ℕ, zero, suc, ◌+◌, ◌/◌, ◌==◌, nat_le, List, [], ◌∷◌, true, false, Bool, not, cond, length, take, drop, map, find, Option, Some, None, option_map, option_and_then}
use Rattle.std.specs.FinMap as map
use Rattle.std.specs.Option.{unwrap_or}
use Rattle.newt_spec_image.specs.Records.{and_then, body, chosen_bank, has_banks, length_at, payloads_after, records, with_first}
use Rattle.newt_spec_image.specs.Pages.{Pages, Change, pages, pages_after, is_change, said_by, change_in, after}
use Rattle.newt_spec_graph.proofs.Lists.{none-some, some-same}
use Rattle.newt_spec_check.specs.Damage.{Gate, start_of, versioned_in, gates_after, bank_gates, gates, first_gate, leaves_bank, is_unformed, if_missing, no_bank, no_header, long_record, bad_payload}
use Rattle.newt_spec_check.proofs.Finds.{map-none, missing-none}

-- the payload after a gate
abbrev pub payload_of : Gate → List ℕ
payload_of g = take (length_at g.1) (drop 4 g.1)

-- payloads, where nothing else was found
abbrev unless : {X : Type 0} → Option Gate → X → Option X
unless None x = Some x
unless (Some g) x = None

first-unless : (p : List ℕ) (o : Option Gate) (ps : List (List ℕ)) → with_first p (unless o ps) ≡ unless o (p ∷ ps)
first-unless p None ps = refl
first-unless p (Some g) ps = refl

abbrev pub long_in : List Gate → Option Gate
long_in gs = find (λ g. leaves_bank g.1) gs

abbrev pub bad_in : List Gate → Option Gate
bad_in gs = find (λ g. is_unformed g.1) gs

-- a gate and those after it
abbrev begun : Bool → Gate → List Gate → List Gate
begun b g gs = cond b (g ∷ gs) []

one-gate : (g : Gate) (gs : List Gate) (b c : Bool) (ps : Option (List (List ℕ))) → leaves_bank g.1 ≡ not c → ps ≡ unless (long_in gs) (map payload_of gs)
    → cond b (cond c (with_first (payload_of g) ps) None) (Some []) ≡ unless (long_in (begun b g gs)) (map payload_of (begun b g gs))
one-gate g gs false c ps e h = refl
one-gate g gs true true ps e h = ap (with_first (payload_of g)) h ∙ first-unless (payload_of g) (long_in gs) (map payload_of gs)
    ∙ ap (λ t. unless (cond t (Some g) (long_in gs)) (map payload_of (g ∷ gs))) (sym e)
one-gate g gs true false ps e h = ap (λ t. unless (cond t (Some g) (long_in gs)) (map payload_of (g ∷ gs))) (sym e)

-- the payloads of records are those after their gates, where none leaves the bank
pub payloads-gates : (at skip : ℕ) (bytes : List ℕ) → payloads_after skip bytes ≡ unless (long_in (gates_after at skip bytes)) (map payload_of (gates_after at skip bytes))
payloads-gates at zero [] = refl
payloads-gates at (suc skip) [] = refl
payloads-gates at (suc skip) (byte ∷ rest) = payloads-gates (suc at) skip rest
payloads-gates at zero (gate ∷ rest) =
    one-gate (at, rest) (gates_after (suc at) (4 + length_at rest) rest) (gate == 0) (nat_le (4 + length_at rest) (length rest)) (payloads_after (4 + length_at rest) rest) refl
    (payloads-gates (suc at) (4 + length_at rest) rest)

-- ---- pages

-- the pages of payloads, where one has not its form there are none
pub pages-formed : (gs : List Gate) (live : Pages) → bad_in gs ≡ None → (after : Pages) × (pages_after (map payload_of gs) live ≡ Some after)
pages-formed [] live h = (live, refl)
pages-formed (g ∷ gs) live h = go (λ live. pages-formed gs live) (is_change (payload_of g)) refl h
  where
    go : ((live : Pages) → bad_in gs ≡ None → (after : Pages) × (pages_after (map payload_of gs) live ≡ Some after))
        → (b : Bool) → is_change (payload_of g) ≡ b → cond (not b) (Some g) (bad_in gs) ≡ None → (after : Pages) × (pages_after (map payload_of (g ∷ gs)) live ≡ Some after)
    go more true e k =
        let r = more (after (said_by (payload_of g)) live) k in
        (r.0, ap (λ b. and_then (cond b (Some (said_by (payload_of g))) None) (λ (change : Change). pages_after (map payload_of gs) (after change live))) e ∙ r.1)
    go more false e k = absurd (none-some g (sym k))

pub pages-unformed : (gs : List Gate) (live all : Pages) → pages_after (map payload_of gs) live ≡ Some all → bad_in gs ≡ None
pages-unformed [] live all h = refl
pages-unformed (g ∷ gs) live all h = go (λ live. pages-unformed gs live all) (is_change (payload_of g)) refl h
  where
    go : ((live : Pages) → pages_after (map payload_of gs) live ≡ Some all → bad_in gs ≡ None)
        → (b : Bool) → is_change (payload_of g) ≡ b
        → and_then (cond b (Some (said_by (payload_of g))) None) (λ (change : Change). pages_after (map payload_of gs) (after change live)) ≡ Some all → bad_in (g ∷ gs) ≡ None
    go more true e k = ap (λ b. cond (not b) (Some g) (bad_in gs)) e ∙ more (after (said_by (payload_of g)) live) k
    go more false e k = absurd (none-some all k)

-- ---- the four rows

-- none of the first four rows holds
pub record IsWhole (image : List ℕ) : Type 0 where
  pub votes : no_bank image ≡ None
  pub header_is : no_header image ≡ None
  pub record_is : long_record image ≡ None
  pub payload : bad_payload image ≡ None

-- the gates of a bank, by the bank that is chosen and the bytes after the header of each
abbrev gates_of : (ℕ → ℕ) → Option ℕ → Option (List ℕ) → List Gate
gates_of start bank bytes = unwrap_or (option_and_then (λ bank. option_map (bank_gates (start bank)) bytes) bank) []

-- the bytes after a header, without its version
abbrev bytes_of : Option (ℕ × List ℕ) → Option (List ℕ)
bytes_of found = and_then found (λ f. Some f.1)

abbrev pages_of : Option ℕ → (ℕ → Option (ℕ × List ℕ)) → Option Pages
pages_of bank found = and_then (and_then (bytes_of (and_then bank found)) (payloads_after 0)) (λ payloads. pages_after payloads map.empty)

unless-some : {X : Type 0} (o : Option Gate) (x y : X) → unless o x ≡ Some y → (o ≡ None) × (x ≡ y)
unless-some None x y h = (refl, some-same x y h)
unless-some (Some g) x y h = absurd (none-some y h)

then-some : {A B : Type 0} (o : Option A) (f : A → Option B) (b : B) → and_then o f ≡ Some b → (a : A) × (o ≡ Some a) × (f a ≡ Some b)
then-some None f b h = absurd (none-some b h)
then-some (Some a) f b h = (a, refl, h)

some-pages : (start : ℕ → ℕ) (bank : Option ℕ) (found : ℕ → Option (ℕ × List ℕ)) → if_missing 0 bank ≡ None → option_and_then (λ bank. if_missing (start bank) (found bank)) bank ≡ None
    → first_gate leaves_bank (gates_of start bank (bytes_of (and_then bank found))) ≡ None → first_gate is_unformed (gates_of start bank (bytes_of (and_then bank found))) ≡ None
    → (live : Pages) × (pages_of bank found ≡ Some live)
some-pages start None found v h r p = absurd (none-some 0 (sym v))
some-pages start (Some bank) found v h r p = go (found bank) h r p
  where
    go : (o : Option (ℕ × List ℕ)) → if_missing (start bank) o ≡ None → first_gate leaves_bank (gates_of start (Some bank) (bytes_of o)) ≡ None
        → first_gate is_unformed (gates_of start (Some bank) (bytes_of o)) ≡ None
        → (live : Pages) × (and_then (and_then (bytes_of o) (payloads_after 0)) (λ payloads. pages_after payloads map.empty) ≡ Some live)
    go None h r p = absurd (none-some (start bank) (sym h))
    go (Some (version, all)) h r p =
        let gs = gates_after (start bank + 16) 0 all in
        let f = pages-formed gs map.empty (map-none (λ (g : Gate). g.0) (bad_in gs) p) in (
          f.0,
          ap (λ o. and_then o (λ payloads. pages_after payloads map.empty))
              (payloads-gates (start bank + 16) 0 all ∙ ap (λ o. unless o (map payload_of gs)) (map-none (λ (g : Gate). g.0) (long_in gs) r)) ∙ f.1,
        )

has-body : (image : List ℕ) → has_banks image ≡ true → body image ≡ bytes_of (and_then (chosen_bank image) (versioned_in image))
has-body image h = ap (λ b. bytes_of (cond b (and_then (chosen_bank image) (versioned_in image)) None)) h

-- the four rows of a bank, what it holds after its header, and the bytes of that
abbrev AreNone : (ℕ → ℕ) → Option ℕ → (ℕ → Option (ℕ × List ℕ)) → Option (List ℕ) → Type 0
AreNone start bank found body = (if_missing 0 bank ≡ None) × (option_and_then (λ bank. if_missing (start bank) (found bank)) bank ≡ None)
    × (first_gate leaves_bank (gates_of start bank body) ≡ None) × (first_gate is_unformed (gates_of start bank body) ≡ None)

some-none : (start : ℕ → ℕ) (bank : Option ℕ) (found : ℕ → Option (ℕ × List ℕ)) (live : Pages) → pages_of bank found ≡ Some live → AreNone start bank found (bytes_of (and_then bank found))
some-none start None found live h = absurd (none-some live h)
some-none start (Some bank) found live h = go (found bank) h
  where
    go : (o : Option (ℕ × List ℕ)) → and_then (and_then (bytes_of o) (payloads_after 0)) (λ payloads. pages_after payloads map.empty) ≡ Some live
        → ◌≡◌ {A = Option ℕ} None None × (if_missing (start bank) o ≡ None) × (first_gate leaves_bank (gates_of start (Some bank) (bytes_of o)) ≡ None)
        × (first_gate is_unformed (gates_of start (Some bank) (bytes_of o)) ≡ None)
    go None h = absurd (none-some live h)
    go (Some (version, all)) h =
        let gs = gates_after (start bank + 16) 0 all in
        let t = then-some (payloads_after 0 all) (λ payloads. pages_after payloads map.empty) live h in
        let u = unless-some (long_in gs) (map payload_of gs) t.0 (sym (payloads-gates (start bank + 16) 0 all) ∙ t.1) in
        let f = pages-unformed gs map.empty live (ap (λ payloads. pages_after payloads map.empty) u.1 ∙ t.2) in
        (refl, refl, ap (option_map (λ (g : Gate). g.0)) u.0, ap (option_map (λ (g : Gate). g.0)) f)

some-records : (start : ℕ → ℕ) (bank : Option ℕ) (found : ℕ → Option (ℕ × List ℕ)) → if_missing 0 bank ≡ None → option_and_then (λ bank. if_missing (start bank) (found bank)) bank ≡ None
    → first_gate leaves_bank (gates_of start bank (bytes_of (and_then bank found))) ≡ None → (ps : List (List ℕ)) × (and_then (bytes_of (and_then bank found)) (payloads_after 0) ≡ Some ps)
some-records start None found v h r = absurd (none-some 0 (sym v))
some-records start (Some bank) found v h r = go (found bank) h r
  where
    go : (o : Option (ℕ × List ℕ)) → if_missing (start bank) o ≡ None → first_gate leaves_bank (gates_of start (Some bank) (bytes_of o)) ≡ None
        → (ps : List (List ℕ)) × (and_then (bytes_of o) (payloads_after 0) ≡ Some ps)
    go None h r = absurd (none-some (start bank) (sym h))
    go (Some (version, all)) h r =
        let gs = gates_after (start bank + 16) 0 all in
        (map payload_of gs, payloads-gates (start bank + 16) 0 all ∙ ap (λ o. unless o (map payload_of gs)) (map-none (λ (g : Gate). g.0) (long_in gs) r))

-- where none of the first three rows holds, the image has records
pub whole-records : (image : List ℕ) → has_banks image ≡ true → no_bank image ≡ None → no_header image ≡ None → long_record image ≡ None → (ps : List (List ℕ)) × (records image ≡ Some ps)
whole-records image h v k r =
    let b = has-body image h in
    let s = some-records (start_of image) (chosen_bank image) (versioned_in image) v k (ap (λ o. first_gate leaves_bank (gates_of (start_of image) (chosen_bank image) o)) (sym b) ∙ r) in
    (s.0, ap (λ o. and_then o (payloads_after 0)) b ∙ s.1)

-- where none of the first four rows holds, the image has pages
pub whole-pages : (image : List ℕ) → has_banks image ≡ true → IsWhole image → (live : Pages) × (pages image ≡ Some live)
whole-pages image h w =
    let b = has-body image h in
    let r = some-pages (start_of image) (chosen_bank image) (versioned_in image) w.votes w.header_is
    (ap (λ o. first_gate leaves_bank (gates_of (start_of image) (chosen_bank image) o)) (sym b) ∙ w.record_is)
    (ap (λ o. first_gate is_unformed (gates_of (start_of image) (chosen_bank image) o)) (sym b) ∙ w.payload) in
    (r.0, ap (λ o. and_then (and_then o (payloads_after 0)) (λ payloads. pages_after payloads map.empty)) b ∙ r.1)

-- and where it has pages, none of them holds
pub pages-whole : (image : List ℕ) (live : Pages) → pages image ≡ Some live → IsWhole image
pages-whole image live h = go (has_banks image) refl
  where
    go : (b : Bool) → has_banks image ≡ b → IsWhole image
    go false e = absurd (none-some live (ap (λ b. and_then (and_then (bytes_of (cond b (and_then (chosen_bank image) (versioned_in image)) None)) (payloads_after 0)) (λ payloads. pages_after payloads map.empty)) (sym e) ∙ h))
    go true e =
        let b = has-body image e in
        let r = some-none (start_of image) (chosen_bank image) (versioned_in image) live (ap (λ o. and_then (and_then o (payloads_after 0)) (λ payloads. pages_after payloads map.empty)) (sym b) ∙ h) in
        record {
          votes = r.0;
          header_is = r.1;
          record_is = ap (λ o. first_gate leaves_bank (gates_of (start_of image) (chosen_bank image) o)) b ∙ r.2;
          payload = ap (λ o. first_gate is_unformed (gates_of (start_of image) (chosen_bank image) o)) b ∙ r.3;
        }
