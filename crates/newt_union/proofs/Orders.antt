-- What a hit's order says of the pairs of one member.
use Rattle.std.proofs.Common.{◌≡◌, refl, sym, ap, subst, ℕ, false, not, ◌<◌, ◌^◌, [], ◌∷◌, ◌++◌, arith}
use Rattle.std.specs.declared.cmp.Ordering.{Ordering}
use Rattle.std.specs.declared.cmp.Ordering.TheVariants.{Less, Equal, Greater}
use Rattle.std.specs.FinMap.{nat_cmp-IsAntisymmetric}
use Rattle.std.specs.Ordering.{nat_cmp, ordering_then, ordering_reverse, is_lt, is_gt}
use Rattle.std.proofs.lemmas.Cmp.{nat_cmp_total, tied_itself, ranked, by_ranked}
use Rattle.newt_spec_store.specs.Keys.{Key, IndexSpec, key_cmp, part_cmp}
use Rattle.newt_spec_query.specs.Hits.{Hit, hit_cmp}
use Rattle.newt_spec_query.proofs.Order.{key_total}
use Rattle.newt_keys.specs.KeyForm.{IsKeyOf, AreParts, IsPartOf, key_bytes, part_bytes}
use Rattle.newt_keys.proofs.OrderLaws.{equal_keys, tied}
use Rattle.newt_index.specs.Pairs.{Pair, parts_of, pair_cmp}
use Rattle.newt_union.specs.Merged.{Member, hit, Agree}
use Rattle.newt_union.specs.Candidates.{side}

-- ---- declarations that agree

pub same_order : (a b : IndexSpec) → Agree a b → (k l : Key) → key_cmp a k l ≡ key_cmp b k l
same_order [] [] h k l = refl
same_order [] (q ∷ qs) h k l = absurd h
same_order (p ∷ ps) [] h k l = absurd h
same_order (p ∷ ps) (q ∷ qs) h [] [] = refl
same_order (p ∷ ps) (q ∷ qs) h [] (y ∷ l) = refl
same_order (p ∷ ps) (q ∷ qs) h (x ∷ k) [] = refl
same_order (p ∷ ps) (q ∷ qs) h (x ∷ k) (y ∷ l) = λ i. ordering_then (part_cmp (h.1 i) x y) (same_order ps qs h.2 k l i)

same_parts : (a b : IndexSpec) → Agree a b → (k : Key) → AreParts b k → AreParts a k
same_parts [] [] h k f = f
same_parts [] (q ∷ qs) h k f = absurd h
same_parts (p ∷ ps) [] h k f = absurd h
same_parts (p ∷ ps) (q ∷ qs) h [] f = absurd f
same_parts (p ∷ ps) (q ∷ qs) h (x ∷ k) f = (subst (λ t. IsPartOf t x) (sym h.0) f.0, same_parts ps qs h.2 k f.1)

pub same_keys : (a b : IndexSpec) → Agree a b → (k : Key) → IsKeyOf b k → IsKeyOf a k
same_keys a b h k f = (same_parts a b h k f.0, f.1)

-- and their keys have the same bytes
pub same_bytes : (a b : IndexSpec) → Agree a b → (k : Key) → key_bytes a k ≡ key_bytes b k
same_bytes [] [] h k = refl
same_bytes [] (q ∷ qs) h k = absurd h
same_bytes (p ∷ ps) [] h k = absurd h
same_bytes (p ∷ ps) (q ∷ qs) h [] = refl
same_bytes (p ∷ ps) (q ∷ qs) h (x ∷ k) = λ i. part_bytes (h.1 i) x ++ same_bytes ps qs h.2 k i

pub same_hit_order : (a b : IndexSpec) → Agree a b → (g h : Hit) → hit_cmp a g h ≡ hit_cmp b g h
same_hit_order a b s g h =
    ap (λ o. ordering_then o (ordering_then (nat_cmp g.store h.store) (ordering_then (nat_cmp g.soup h.soup) (nat_cmp g.uid h.uid)))) (same_order a b s g.key h.key)

-- hits of one declaration that tie are one
pub tied_hits : (spec : IndexSpec) (g h : Hit) → IsKeyOf spec g.key → IsKeyOf spec h.key → hit_cmp spec g h ≡ Equal → g ≡ h
tied_hits spec g h f k e =
    let t = tied (key_cmp spec g.key h.key) (ordering_then (nat_cmp g.store h.store) (ordering_then (nat_cmp g.soup h.soup) (nat_cmp g.uid h.uid))) e in
    let u = tied (nat_cmp g.store h.store) (ordering_then (nat_cmp g.soup h.soup) (nat_cmp g.uid h.uid)) t.1 in
    let v = tied (nat_cmp g.soup h.soup) (nat_cmp g.uid h.uid) u.1 in
    λ i. record {
      key = equal_keys spec g.key h.key f k t.0 i;
      store = nat_cmp-IsAntisymmetric g.store h.store u.0 i;
      soup = nat_cmp-IsAntisymmetric g.soup h.soup v.0 i;
      uid = nat_cmp-IsAntisymmetric g.uid h.uid v.1 i;
    }

-- ---- a hit and the pairs of a member

then_assoc : (o p r : Ordering) → ordering_then o (ordering_then p r) ≡ ordering_then (ordering_then o p) r
then_assoc Less p r = refl
then_assoc Equal p r = refl
then_assoc Greater p r = refl

-- the order of a hit and one of a member's: by key, then by their sides, then by id
pub sided : (spec : IndexSpec) (h : Hit) (m : Member) (p : Pair) → Agree spec (parts_of m.range.spec)
    → hit_cmp spec h (hit m p) ≡ ordering_then (key_cmp (parts_of m.range.spec) h.key p.0) (ordering_then (side h m) (nat_cmp h.uid p.1))
sided spec h m p s = λ i. ordering_then (same_order spec (parts_of m.range.spec) s h.key p.0 i) (then_assoc (nat_cmp h.store m.store) (nat_cmp h.soup m.soup) (nat_cmp h.uid p.1) i)

-- two hits of one member are in the order of their pairs
pub own_order : (spec : IndexSpec) (m : Member) (p q : Pair) → Agree spec (parts_of m.range.spec)
    → hit_cmp spec (hit m p) (hit m q) ≡ pair_cmp (parts_of m.range.spec) p q
own_order spec m p q s = λ i. ordering_then (same_order spec (parts_of m.range.spec) s p.0 q.0 i)
    (ordering_then (tied_itself nat_cmp_total m.store i) (ordering_then (tied_itself nat_cmp_total m.soup i) (nat_cmp p.1 q.1)))

-- ---- sides

-- a spot whose store and soup come before: from its key on
pub from_key : (o r : Ordering) → o ≡ ordering_reverse r → is_lt (ordering_then o Less) ≡ not (is_lt r)
from_key o Less e = ap (λ v. is_lt (ordering_then v Less)) e
from_key o Equal e = ap (λ v. is_lt (ordering_then v Less)) e
from_key o Greater e = ap (λ v. is_lt (ordering_then v Less)) e

-- a spot whose store and soup come after: up to its key
pub to_key : (o r : Ordering) → o ≡ ordering_reverse r → is_gt (ordering_then o Greater) ≡ not (is_gt r)
to_key o Less e = ap (λ v. is_gt (ordering_then v Greater)) e
to_key o Equal e = ap (λ v. is_gt (ordering_then v Greater)) e
to_key o Greater e = ap (λ v. is_gt (ordering_then v Greater)) e

-- no id is above the greatest, and none is below the least
above_none : (n : ℕ) → n < 2 ^ 32 → is_lt (nat_cmp 4294967295 n) ≡ false
above_none n h = by_ranked (4294967295 < n) (4294967295 ≡ n) (n < 4294967295) (nat_cmp 4294967295 n) (ranked 4294967295 n (nat_cmp 4294967295 n) refl)
    (λ e g. absurd (omega (arith, h, g)))
    (λ e g. ap is_lt e)
    (λ e g. ap is_lt e)

below_none : (n : ℕ) → is_gt (nat_cmp 0 n) ≡ false
below_none n = by_ranked (0 < n) (0 ≡ n) (n < 0) (nat_cmp 0 n) (ranked 0 n (nat_cmp 0 n) refl)
    (λ e g. ap is_gt e)
    (λ e g. ap is_gt e)
    (λ e g. absurd (omega (arith, g)))

pub past_key : (o : Ordering) (n : ℕ) → n < 2 ^ 32 → is_lt (ordering_then o Greater) ≡ is_lt (ordering_then o (nat_cmp 4294967295 n))
past_key Less n h = refl
past_key Equal n h = sym (above_none n h)
past_key Greater n h = refl

pub short_of_key : (o : Ordering) (n : ℕ) → is_gt (ordering_then o Less) ≡ is_gt (ordering_then o (nat_cmp 0 n))
short_of_key Less n = refl
short_of_key Equal n = sym (below_none n)
short_of_key Greater n = refl

pub turns : (spec : IndexSpec) (k l : Key) → key_cmp spec k l ≡ ordering_reverse (key_cmp spec l k)
turns spec k l = (key_total spec).antisymm k l
