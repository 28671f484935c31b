-- The objects of an image of bytes are bytes.
use Rattle.std.proofs.Common.{◌≡◌, refl, ap, sym, ◌∙◌, subst, ℕ, zero, suc, ◌+◌, ◌*◌, ◌/◌, ◌<◌, ◌==◌, nat_le, List, [], ◌∷◌, ◌++◌, true, false, Bool, cond, length, take, drop, flat_map, Option, Some, None, option_map}
use Rattle.std.specs.FinMap as map
use Rattle.std.specs.Option.{unwrap_or}
use Rattle.std.specs.Ordering.{nat_cmp, eq_by_cmp}
use Rattle.std.specs.Cmp.{nat_cmp_total}
use Rattle.std.proofs.lemmas.List.Elements.{All-take, All-drop, All-append, All-tail, All-nil}
use Rattle.newt_spec_image.specs.Records.{and_then, bank_bytes, after_header, body, chosen_bank, has_banks, header, length_at, payloads_after, records, versioned, versioned_body, with_first, without}
use Rattle.newt_spec_image.specs.Pages.{Pages, Put, Change, pages, pages_after, is_change, said_by, change_in, after, puts_from, with_puts, without_numbers, short_at}
use Rattle.newt_spec_image.specs.Objects.{Objects, AreObjectsOf, Extent, joined, data_at}
use Rattle.newt_spec_nsof.specs.Text.{AreBytes}
use Rattle.newt_spec_graph.specs.Lists.{Each}
use Rattle.newt_spec_graph.proofs.Lists.{none-some, some-same}

taken : (n : ℕ) (bytes : List ℕ) → AreBytes bytes → AreBytes (take n bytes)
taken n bytes h = All-take (λ b. b < 256) n bytes h

dropped : (n : ℕ) (bytes : List ℕ) → AreBytes bytes → AreBytes (drop n bytes)
dropped n bytes h = All-drop (λ b. b < 256) n bytes h

none : AreBytes []
none = All-nil (λ b. b < 256)

without-bytes : (front bytes rest : List ℕ) → AreBytes bytes → without front bytes ≡ Some rest → AreBytes rest
without-bytes [] bytes rest h e = subst AreBytes (some-same bytes rest e) h
without-bytes (x ∷ front) [] rest h e = absurd (none-some rest e)
without-bytes (x ∷ front) (y ∷ bytes) rest h e = go (x == y) e (without-bytes front bytes rest (All-tail (λ b. b < 256) y bytes h))
  where
    go : (b : Bool) → cond b (without front bytes) None ≡ Some rest → (without front bytes ≡ Some rest → AreBytes rest) → AreBytes rest
    go true e more = more e
    go false e more = absurd (none-some rest e)

then-some : {A B : Type 0} (o : Option A) (f : A → Option B) (b : B) → and_then o f ≡ Some b → (a : A) × (o ≡ Some a) × (f a ≡ Some b)
then-some None f b h = absurd (none-some b h)
then-some (Some a) f b h = (a, refl, h)

first-some : (p : List ℕ) (o : Option (List (List ℕ))) (ps : List (List ℕ)) → with_first p o ≡ Some ps → (rest : List (List ℕ)) × (o ≡ Some rest) × (p ∷ rest ≡ ps)
first-some p None ps h = absurd (none-some ps h)
first-some p (Some rest) ps h = (rest, refl, some-same (p ∷ rest) ps h)

payloads-bytes : (skip : ℕ) (bytes : List ℕ) (ps : List (List ℕ)) → AreBytes bytes → payloads_after skip bytes ≡ Some ps → Each AreBytes ps
payloads-bytes zero [] ps h e = subst (Each AreBytes) (some-same [] ps e) tt
payloads-bytes (suc skip) [] ps h e = subst (Each AreBytes) (some-same [] ps e) tt
payloads-bytes (suc skip) (byte ∷ rest) ps h e = payloads-bytes skip rest ps (All-tail (λ b. b < 256) byte rest h) e
payloads-bytes zero (gate ∷ rest) ps h e = go (gate == 0) (nat_le (4 + length_at rest) (length rest)) e (λ ps. payloads-bytes (4 + length_at rest) rest ps (All-tail (λ b. b < 256) gate rest h))
  where
    go : (b c : Bool) → cond b (cond c (with_first (take (length_at rest) (drop 4 rest)) (payloads_after (4 + length_at rest) rest)) None) (Some []) ≡ Some ps
        → ((ps : List (List ℕ)) → payloads_after (4 + length_at rest) rest ≡ Some ps → Each AreBytes ps) → Each AreBytes ps
    go false c e more = subst (Each AreBytes) (some-same [] ps e) tt
    go true false e more = absurd (none-some ps e)
    go true true e more =
        let f = first-some (take (length_at rest) (drop 4 rest)) (payloads_after (4 + length_at rest) rest) ps e in
        subst (Each AreBytes) f.2 (taken (length_at rest) (drop 4 rest) (dropped 4 rest (All-tail (λ b. b < 256) gate rest h)), more f.0 f.1)

puts-bytes : (n : ℕ) (bytes : List ℕ) → AreBytes bytes → Each (λ (put : Put). AreBytes put.1) (puts_from n bytes)
puts-bytes zero bytes h = tt
puts-bytes (suc n) bytes h = (taken 512 (drop 4 bytes) (dropped 4 bytes h), puts-bytes n (drop 516 bytes) (dropped 516 bytes h))

-- each page is of bytes
abbrev pub Whole : Pages → Type 0
Whole live = (number : ℕ) (page : List ℕ) → map.get live number ≡ Some page → AreBytes page

put-whole : (live : Pages) (number : ℕ) (page : List ℕ) → AreBytes page → Whole live → Whole (map.insert live number page)
put-whole live number page h w q p e = go (eq_by_cmp nat_cmp q number) (sym (map.get-insert nat_cmp_total live number page q) ∙ e)
  where
    go : (b : Bool) → cond b (Some page) (map.get live q) ≡ Some p → AreBytes p
    go true e = subst AreBytes (some-same page p e) h
    go false e = w q p e

gone-whole : (live : Pages) (number : ℕ) → Whole live → Whole (map.remove live number)
gone-whole live number w q p e = go (eq_by_cmp nat_cmp q number) (sym (map.get-remove nat_cmp_total live number q) ∙ e)
  where
    go : (b : Bool) → cond b None (map.get live q) ≡ Some p → AreBytes p
    go true e = absurd (none-some p e)
    go false e = w q p e

puts-whole : (puts : List Put) (live : Pages) → Each (λ (put : Put). AreBytes put.1) puts → Whole live → Whole (with_puts puts live)
puts-whole [] live h w = w
puts-whole (put ∷ puts) live h w = puts-whole puts (map.insert live put.0 put.1) h.1 (put-whole live put.0 put.1 h.0 w)

deletes-whole : (numbers : List ℕ) (live : Pages) → Whole live → Whole (without_numbers numbers live)
deletes-whole [] live w = w
deletes-whole (n ∷ numbers) live w = deletes-whole numbers (map.remove live n) (gone-whole live n w)

after-whole : (payloads : List (List ℕ)) (live all : Pages) → Each AreBytes payloads → Whole live → pages_after payloads live ≡ Some all → Whole all
after-whole [] live all h w e = subst Whole (some-same live all e) w
after-whole (payload ∷ payloads) live all h w e = go (is_change payload) e (λ live. after-whole payloads live all h.1)
  where
    go : (b : Bool) → and_then (cond b (Some (said_by payload)) None) (λ (change : Change). pages_after payloads (after change live)) ≡ Some all
        → ((live : Pages) → Whole live → pages_after payloads live ≡ Some all → Whole all) → Whole all
    go true e more = more (after (said_by payload) live)
        (deletes-whole (said_by payload).deletes (with_puts (said_by payload).puts live) (puts-whole (said_by payload).puts live (puts-bytes (short_at 0 payload) (drop 4 payload) (dropped 4 payload h.0)) w)) e
    go false e more = absurd (none-some all e)

empty-whole : Whole map.empty
empty-whole q p e = absurd (none-some p (sym (map.get-empty nat_cmp q) ∙ e))

after-bytes : (version : ℕ) (bytes : List ℕ) (found : ℕ × List ℕ) → AreBytes bytes → after_header version bytes ≡ Some found → AreBytes found.1
after-bytes version bytes found h e =
    let r = then-some (without (header version) bytes) (λ rest. Some (version, rest)) found e in
    subst (λ (found : ℕ × List ℕ). AreBytes found.1) (some-same (version, r.0) found r.2) (without-bytes (header version) bytes r.0 h r.1)

versioned-bytes : (bytes : List ℕ) (found : ℕ × List ℕ) → AreBytes bytes → versioned bytes ≡ Some found → AreBytes found.1
versioned-bytes bytes found h e = go (after_header 1 bytes) refl e
  where
    go : (o : Option (ℕ × List ℕ)) → after_header 1 bytes ≡ o → elim o [ Some old ↦ Some old | None ↦ after_header 2 bytes ] ≡ Some found → AreBytes found.1
    go None k e = after-bytes 2 bytes found h e
    go (Some old) k e = subst (λ (found : ℕ × List ℕ). AreBytes found.1) (some-same old found e) (after-bytes 1 bytes old h k)

pub pages-bytes : (image : List ℕ) (live : Pages) → AreBytes image → pages image ≡ Some live → Whole live
pages-bytes image live h e =
    let r = then-some (records image) (λ payloads. pages_after payloads map.empty) live e in
    let b = then-some (body image) (payloads_after 0) r.0 r.1 in
    let f = then-some (versioned_body image) (λ found. Some found.1) b.0 b.1 in
    let all = subst AreBytes (some-same f.0.1 b.0 f.2) (bank (has_banks image) f.0 f.1) in
    after-whole r.0 map.empty live (payloads-bytes 0 b.0 r.0 all b.2) empty-whole r.2
  where
    bank : (b : Bool) (found : ℕ × List ℕ) → cond b (and_then (chosen_bank image) (λ bank. versioned (bank_bytes (length image / 4096) bank image))) None ≡ Some found → AreBytes found.1
    bank false found k = absurd (none-some found k)
    bank true found k =
        let c = then-some (chosen_bank image) (λ bank. versioned (bank_bytes (length image / 4096) bank image)) found k in
        versioned-bytes _ found (taken _ _ (dropped _ image h)) c.2

data-bytes : (live : Pages) (number : ℕ) → Whole live → AreBytes (data_at live number)
data-bytes live number w = dropped 12 (unwrap_or (map.get live number) []) (go (map.get live number) refl)
  where
    go : (o : Option (List ℕ)) → map.get live number ≡ o → AreBytes (unwrap_or o [])
    go None e = none
    go (Some page) e = w number page e

flat-bytes : (live : Pages) (numbers : List ℕ) → Whole live → AreBytes (flat_map (data_at live) numbers)
flat-bytes live [] w = none
flat-bytes live (n ∷ numbers) w = All-append (λ b. b < 256) (data_at live n) (flat_map (data_at live) numbers) (data-bytes live n w) (flat-bytes live numbers w)

pub objects-bytes : (image : List ℕ) (live : Pages) (objects : Objects) → AreBytes image → pages image ≡ Some live → AreObjectsOf live objects → (id : ℕ) (bytes : List ℕ) → map.get objects id ≡ Some bytes → AreBytes bytes
objects-bytes image live objects h e are id bytes at = go (are.table id) (sym (are.each id) ∙ at)
  where
    go : (o : Option Extent) → option_map (joined live) o ≡ Some bytes → AreBytes bytes
    go None k = absurd (none-some bytes k)
    go (Some x) k = subst AreBytes (some-same (joined live x) bytes k) (taken x.length (flat_map (data_at live) x.numbers) (flat-bytes live x.numbers (pages-bytes image live h e)))
