-- The map's walk is the list's.
use Rattle.std.proofs.Common.{◌≡◌, ℕ, Bool, true, false, not, ◌&&◌, cond, List, [], ◌∷◌, ◌++◌, map, filter, Option, Some, None, option_map, refl, sym, ◌∙◌, ap, subst, zero, suc, arith, ◌<◌, ◌≤◌, ◌^◌}
use Rattle.std.specs.Cmp.{nat_cmp_is}
use Rattle.std.proofs.lemmas.Cmp.{ranked, by_ranked}
use Rattle.std.specs.Borrow.{Bor}
use Rattle.std.specs.declared.cmp.Ordering.{Ordering}
use Rattle.std.specs.declared.cmp.Ordering.TheVariants.{Less, Equal, Greater}
use Rattle.std.specs.Ordering.{nat_cmp, ordering_then, ordering_reverse, is_lt, is_le, is_gt}
use Rattle.std.specs.Cmp.Lexicographic.{slice_cmp}
use Rattle.std.specs.Map.Iter.{TakesFirst, TakesLast, deref_pair}
use Rattle.std.proofs.lemmas.List.Elements.{All-head, All-tail}
use Rattle.newt_spec_store.specs.Keys.{Key, IndexSpec, key_cmp}
use Rattle.newt_keys.proofs.KeyLaw.{bytes_order}
use Rattle.newt_keys.proofs.OrderLaws.{turns}
use Rattle.newt_index.specs.declared.search.Slot.{Slot}
use Rattle.newt_index.specs.Pairs.{Pair, Sorted, parts_of, pair_cmp, first, last, after, before, at_or_after, at_or_before}
use Rattle.newt_index.specs.Kept.{Entry, pair_of, IsKept, AreKept, IsProbeOf, slot_cmp, lent}

-- the order of the map is that of the pairs
pub kept_cmp : (spec : Option IndexSpec) (a : Slot) (k : Key) (e : Entry) → IsProbeOf spec k a.bytes → IsKept spec e
    → slot_cmp a e.0 ≡ pair_cmp (parts_of spec) (k, a.uid) (pair_of e)
kept_cmp spec a k e ha he =
    (λ i. ordering_then (slice_cmp nat_cmp (ha.same i) (he.bytes i)) (nat_cmp a.uid e.0.uid))
    ∙ ap (λ o. ordering_then o (nat_cmp a.uid e.0.uid)) (bytes_order (parts_of spec) k e.1 ha.is_key he.is_key)

filtered : (spec : Option IndexSpec) (p : Entry → Bool) (q : Pair → Bool) (es : List Entry)
    → ((e : Entry) → IsKept spec e → p e ≡ q (pair_of e)) → AreKept spec es → map pair_of (filter p es) ≡ filter q (map pair_of es)
filtered spec p q [] same kept = refl
filtered spec p q (e ∷ es) same kept =
    let rest = filtered spec p q es same (All-tail (IsKept spec) e es kept) in
    by (p e) (q (pair_of e)) (same e (All-head (IsKept spec) e es kept)) rest
  where
    by : (s t : Bool) → s ≡ t → map pair_of (filter p es) ≡ filter q (map pair_of es)
        → map pair_of (cond s (e ∷ filter p es) (filter p es)) ≡ cond t (pair_of e ∷ filter q (map pair_of es)) (filter q (map pair_of es))
    by true true h r = ap (λ xs. pair_of e ∷ xs) r
    by false false h r = r
    by true false h r = cc
    by false true h r = cc

pub first_taken : (es rest : List Entry) (found : Option (Bor Slot × Bor Key)) → TakesFirst deref_pair es found rest
    → option_map lent found ≡ first (map pair_of es)
first_taken es rest None h = ap (λ xs. first (map pair_of xs)) (sym h.0)
first_taken es rest (Some x) h = ap (λ xs. first (map pair_of xs)) (sym h)

last_of : (es : List Entry) (x : Slot × Key) → last (map pair_of (es ++ x ∷ [])) ≡ Some (pair_of x)
last_of [] x = refl
last_of (e ∷ []) x = refl
last_of (e ∷ f ∷ es) x = last_of (f ∷ es) x

pub last_taken : (es rest : List Entry) (found : Option (Bor Slot × Bor Key)) → TakesLast deref_pair es found rest
    → option_map lent found ≡ last (map pair_of es)
last_taken es rest None h = ap (λ xs. last (map pair_of xs)) (sym h.0)
last_taken es rest (Some x) h = sym (ap (λ xs. last (map pair_of xs)) h ∙ last_of rest (deref_pair x))

and_true : (b : Bool) → (b && true) ≡ b
and_true true = refl
and_true false = refl

not_le : (o : Ordering) → not (is_le o) ≡ is_gt o
not_le Less = refl
not_le Equal = refl
not_le Greater = refl

pub after_is : (spec : Option IndexSpec) (es walk rest : List Entry) (a : Slot) (k : Key) (found : Option (Bor Slot × Bor Key))
    → AreKept spec es → IsProbeOf spec k a.bytes → walk ≡ filter (λ e. is_lt (slot_cmp a e.0) && not false) es → TakesFirst deref_pair walk found rest
    → option_map lent found ≡ after (parts_of spec) (map pair_of es) (k, a.uid)
after_is spec es walk rest a k found kept probe w t =
    first_taken walk rest found t
    ∙ ap (λ xs. first (map pair_of xs)) w
    ∙ ap first (filtered spec (λ e. is_lt (slot_cmp a e.0) && not false) (λ q. is_lt (pair_cmp (parts_of spec) (k, a.uid) q)) es
    (λ e he. and_true (is_lt (slot_cmp a e.0)) ∙ ap is_lt (kept_cmp spec a k e probe he)) kept)

pub before_is : (spec : Option IndexSpec) (es walk rest : List Entry) (a : Slot) (k : Key) (found : Option (Bor Slot × Bor Key))
    → AreKept spec es → IsProbeOf spec k a.bytes → walk ≡ filter (λ e. true && not (is_le (slot_cmp a e.0))) es → TakesLast deref_pair walk found rest
    → option_map lent found ≡ before (parts_of spec) (map pair_of es) (k, a.uid)
before_is spec es walk rest a k found kept probe w t =
    last_taken walk rest found t
    ∙ ap (λ xs. last (map pair_of xs)) w
    ∙ ap last (filtered spec (λ e. true && not (is_le (slot_cmp a e.0))) (λ q. is_gt (pair_cmp (parts_of spec) (k, a.uid) q)) es
    (λ e he. not_le (slot_cmp a e.0) ∙ ap is_gt (kept_cmp spec a k e probe he)) kept)

-- from the least id on, only the keys decide
from_least : (o : Ordering) (n : ℕ) → is_le (ordering_then o (nat_cmp 0 n)) ≡ not (is_lt (ordering_reverse o))
from_least Less n = refl
from_least Greater n = refl
from_least Equal zero = refl
from_least Equal (suc n) = ap is_le (sym (nat_cmp_is 0 (suc n) Less (omega arith)))

pub at_is : (spec : Option IndexSpec) (es walk rest : List Entry) (a : Slot) (k : Key) (found : Option (Bor Slot × Bor Key))
    → AreKept spec es → IsProbeOf spec k a.bytes → a.uid ≡ 0 → walk ≡ filter (λ e. is_le (slot_cmp a e.0) && not false) es → TakesFirst deref_pair walk found rest
    → option_map lent found ≡ at_or_after (parts_of spec) (map pair_of es) k
at_is spec es walk rest a k found kept probe z w t =
    first_taken walk rest found t
    ∙ ap (λ xs. first (map pair_of xs)) w
    ∙ ap first (filtered spec (λ e. is_le (slot_cmp a e.0) && not false) (λ q. not (is_lt (key_cmp (parts_of spec) q.0 k))) es
    (λ e he. and_true (is_le (slot_cmp a e.0))
    ∙ ap is_le (kept_cmp spec a k e probe he)
    ∙ ap (λ u. is_le (ordering_then (key_cmp (parts_of spec) k e.1) (nat_cmp u e.0.uid))) z
    ∙ from_least (key_cmp (parts_of spec) k e.1) e.0.uid
    ∙ ap (λ o. not (is_lt o)) (sym (turns (parts_of spec) e.1 k he.is_key probe.is_key))) kept)

-- up to the greatest id, only the keys decide
to_greatest : (o : Ordering) (n : ℕ) → n < 2 ^ 32 → not (is_lt (ordering_then o (nat_cmp 4294967295 n))) ≡ not (is_gt (ordering_reverse o))
to_greatest Less n h = refl
to_greatest Greater n h = refl
to_greatest Equal n h = upto (4294967295) n (omega (arith, h))
  where
    upto : (m n : ℕ) → n ≤ m → not (is_lt (nat_cmp m n)) ≡ true
    upto m n h = by_ranked (m < n) (m ≡ n) (n < m) (nat_cmp m n) (ranked m n (nat_cmp m n) refl)
        (λ e g. absurd (omega (arith, h, g)))
        (λ e g. ap (λ o. not (is_lt o)) e)
        (λ e g. ap (λ o. not (is_lt o)) e)

pub back_is : (spec : Option IndexSpec) (es walk rest : List Entry) (a : Slot) (k : Key) (found : Option (Bor Slot × Bor Key))
    → AreKept spec es → IsProbeOf spec k a.bytes → a.uid ≡ 4294967295 → walk ≡ filter (λ e. true && not (is_lt (slot_cmp a e.0))) es → TakesLast deref_pair walk found rest
    → option_map lent found ≡ at_or_before (parts_of spec) (map pair_of es) k
back_is spec es walk rest a k found kept probe z w t =
    last_taken walk rest found t
    ∙ ap (λ xs. last (map pair_of xs)) w
    ∙ ap last (filtered spec (λ e. true && not (is_lt (slot_cmp a e.0))) (λ q. not (is_gt (key_cmp (parts_of spec) q.0 k))) es
    (λ e he.
    ap (λ o. not (is_lt o)) (kept_cmp spec a k e probe he)
    ∙ ap (λ u. not (is_lt (ordering_then (key_cmp (parts_of spec) k e.1) (nat_cmp u e.0.uid)))) z
    ∙ to_greatest (key_cmp (parts_of spec) k e.1) e.0.uid he.uid
    ∙ ap (λ o. not (is_gt o)) (sym (turns (parts_of spec) e.1 k he.is_key probe.is_key))) kept)

-- ---- the same over the value that a caller sees

-- the entries are those of an index
pub record Holds (v : Sorted) (spec : Option IndexSpec) (es : List Entry) : Type 0 where
  pub seen : record { spec = spec; pairs = map pair_of es } ≡ v
  pub kept : AreKept spec es

-- entries that are lent
pub lent_holds : (v : Sorted) (spec : Option IndexSpec) (slots es : List Entry) → es ≡ slots → record { spec = spec; pairs = map pair_of slots } ≡ v → AreKept spec slots → Holds v spec es
lent_holds v spec slots es same seen kept =
    subst (λ (l : List Entry). Holds v spec l) (sym same) (record { seen = seen; kept = kept })

pub after_seen : (v : Sorted) (bytes : List ℕ) (spec : Option IndexSpec) (es walk rest : List Entry) (a : Slot) (k : Key) (found : Option (Bor Slot × Bor Key))
    → Holds v spec es → a.bytes ≡ bytes → IsProbeOf v.spec k bytes → walk ≡ filter (λ e. is_lt (slot_cmp a e.0) && not false) es → TakesFirst deref_pair walk found rest
    → option_map lent found ≡ after (parts_of v.spec) v.pairs (k, a.uid)
after_seen v bytes spec es walk rest a k found holds held probe w t =
    let Q : Sorted → Type 0 = λ u. IsProbeOf u.spec k a.bytes → option_map lent found ≡ after (parts_of u.spec) u.pairs (k, a.uid) in
    let R : List ℕ → Type 0 = λ bs. IsProbeOf v.spec k bs in
    subst Q holds.seen (λ p. after_is spec es walk rest a k found holds.kept p w t) (subst R (sym held) probe)

pub before_seen : (v : Sorted) (bytes : List ℕ) (spec : Option IndexSpec) (es walk rest : List Entry) (a : Slot) (k : Key) (found : Option (Bor Slot × Bor Key))
    → Holds v spec es → a.bytes ≡ bytes → IsProbeOf v.spec k bytes → walk ≡ filter (λ e. true && not (is_le (slot_cmp a e.0))) es → TakesLast deref_pair walk found rest
    → option_map lent found ≡ before (parts_of v.spec) v.pairs (k, a.uid)
before_seen v bytes spec es walk rest a k found holds held probe w t =
    let Q : Sorted → Type 0 = λ u. IsProbeOf u.spec k a.bytes → option_map lent found ≡ before (parts_of u.spec) u.pairs (k, a.uid) in
    let R : List ℕ → Type 0 = λ bs. IsProbeOf v.spec k bs in
    subst Q holds.seen (λ p. before_is spec es walk rest a k found holds.kept p w t) (subst R (sym held) probe)

pub at_seen : (v : Sorted) (bytes : List ℕ) (spec : Option IndexSpec) (es walk rest : List Entry) (a : Slot) (k : Key) (found : Option (Bor Slot × Bor Key))
    → Holds v spec es → a.bytes ≡ bytes → IsProbeOf v.spec k bytes → a.uid ≡ 0 → walk ≡ filter (λ e. is_le (slot_cmp a e.0) && not false) es → TakesFirst deref_pair walk found rest
    → option_map lent found ≡ at_or_after (parts_of v.spec) v.pairs k
at_seen v bytes spec es walk rest a k found holds held probe z w t =
    let Q : Sorted → Type 0 = λ u. IsProbeOf u.spec k a.bytes → option_map lent found ≡ at_or_after (parts_of u.spec) u.pairs k in
    let R : List ℕ → Type 0 = λ bs. IsProbeOf v.spec k bs in
    subst Q holds.seen (λ p. at_is spec es walk rest a k found holds.kept p z w t) (subst R (sym held) probe)

pub back_seen : (v : Sorted) (bytes : List ℕ) (spec : Option IndexSpec) (es walk rest : List Entry) (a : Slot) (k : Key) (found : Option (Bor Slot × Bor Key))
    → Holds v spec es → a.bytes ≡ bytes → IsProbeOf v.spec k bytes → a.uid ≡ 4294967295 → walk ≡ filter (λ e. true && not (is_lt (slot_cmp a e.0))) es → TakesLast deref_pair walk found rest
    → option_map lent found ≡ at_or_before (parts_of v.spec) v.pairs k
back_seen v bytes spec es walk rest a k found holds held probe z w t =
    let Q : Sorted → Type 0 = λ u. IsProbeOf u.spec k a.bytes → option_map lent found ≡ at_or_before (parts_of u.spec) u.pairs k in
    let R : List ℕ → Type 0 = λ bs. IsProbeOf v.spec k bs in
    subst Q holds.seen (λ p. back_is spec es walk rest a k found holds.kept p z w t) (subst R (sym held) probe)
