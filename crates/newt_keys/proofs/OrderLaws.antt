-- The order of the keys of a declaration is total, and no key's bytes begin another's.
use Rattle.std.proofs.Common.{◌≡◌, ℕ, List, [], ◌∷◌, ◌++◌, refl, sym, ◌∙◌, ap, append-nil}
use Rattle.std.specs.declared.cmp.Ordering.{Ordering}
use Rattle.std.specs.declared.cmp.Ordering.TheVariants.{Less, Equal, Greater}
use Rattle.std.specs.Ordering.{nat_cmp, ordering_then, ordering_reverse}
use Rattle.std.specs.Cmp.Lexicographic.{slice_cmp}
use Rattle.std.specs.FinMap.{nat_cmp-IsAntisymmetric, int_cmp-IsAntisymmetric, slice_cmp-IsAntisymmetric}
use Rattle.std.proofs.lemmas.Cmp.{nat_list_cmp_total, tied_itself}
use Rattle.newt_spec_store.specs.Keys.{Key, IndexSpec, Part, missing, words, whole, letter, name, in_direction, part_cmp, key_cmp}
use Rattle.newt_spec_store.specs.declared.Kind.{Kind}
use Rattle.newt_spec_store.specs.declared.Kind.TheVariants as kind
use Rattle.newt_spec_store.specs.declared.Order.{Order}
use Rattle.newt_spec_store.specs.declared.Order.TheVariants as order
use Rattle.newt_keys.specs.KeyForm.{IsPartOf, AreParts, IsKeyOf, key_bytes, OrderAsKeys}
use Rattle.newt_keys.proofs.KeyLaw.{bytes_order, key_law}

undirected : (d : Order) (o : Ordering) → in_direction d o ≡ Equal → o ≡ Equal
undirected order.Ascend o e = e
undirected order.Descend Less e = cc
undirected order.Descend Equal e = refl
undirected order.Descend Greater e = cc

pub tied : (o p : Ordering) → ordering_then o p ≡ Equal → (o ≡ Equal) × (p ≡ Equal)
tied Less p e = cc
tied Equal p e = (refl, e)
tied Greater p e = cc

part_equal : (d : Order) (k : Kind) (a b : Part) → IsPartOf k a → IsPartOf k b → part_cmp d a b ≡ Equal → a ≡ b
part_equal d kind.Text (words a) (words b) ha hb e = ap words (slice_cmp-IsAntisymmetric nat_cmp-IsAntisymmetric a b (undirected d _ e))
part_equal d kind.Symbol (name a) (name b) ha hb e = ap name (slice_cmp-IsAntisymmetric nat_cmp-IsAntisymmetric a b (undirected d _ e))
part_equal d kind.Int (whole a) (whole b) ha hb e = ap whole (int_cmp-IsAntisymmetric a b (undirected d _ e))
part_equal d kind.Char (letter a) (letter b) ha hb e = ap letter (nat_cmp-IsAntisymmetric a b (undirected d _ e))
part_equal d k missing missing ha hb e = refl
part_equal d k missing b ha hb e = cc
part_equal d k a missing ha hb e = cc
part_equal d k a b ha hb e = absurd (assumption)

parts_equal : (spec : IndexSpec) (a b : Key) → AreParts spec a → AreParts spec b → key_cmp spec a b ≡ Equal → a ≡ b
parts_equal [] [] [] ha hb e = refl
parts_equal [] [] (b ∷ bs) ha hb e = absurd hb
parts_equal [] (a ∷ as') b ha hb e = absurd ha
parts_equal (p ∷ ps) [] b ha hb e = absurd ha
parts_equal (p ∷ ps) (a ∷ as') [] ha hb e = absurd hb
parts_equal (p ∷ ps) (a ∷ as') (b ∷ bs) ha hb e =
    let h = tied (part_cmp p.direction a b) (key_cmp ps as' bs) e in
    λ i. part_equal p.direction p.kind a b ha.0 hb.0 h.0 i ∷ parts_equal ps as' bs ha.1 hb.1 h.1 i

-- only equal keys tie
pub equal_keys : (spec : IndexSpec) (a b : Key) → IsKeyOf spec a → IsKeyOf spec b → key_cmp spec a b ≡ Equal → a ≡ b
equal_keys spec a b ha hb e = parts_equal spec a b ha.0 hb.0 e

-- the laws of a total order, on the keys of a declaration

pub turns : (spec : IndexSpec) (a b : Key) → IsKeyOf spec a → IsKeyOf spec b → key_cmp spec a b ≡ ordering_reverse (key_cmp spec b a)
turns spec a b ha hb =
    sym (bytes_order spec a b ha hb) ∙ nat_list_cmp_total.antisymm (key_bytes spec a) (key_bytes spec b) ∙ ap ordering_reverse (bytes_order spec b a hb ha)

-- the bytes of a key begin those of no other key
pub no_prefix : (spec : IndexSpec) (a b : Key) (t : List ℕ) → IsKeyOf spec a → IsKeyOf spec b → key_bytes spec a ++ t ≡ key_bytes spec b → a ≡ b
no_prefix spec a b t ha hb e =
    equal_keys spec a b ha hb (tied (key_cmp spec a b) (slice_cmp nat_cmp t [])
    (sym (key_law spec a b t [] ha.0 hb.0)
    ∙ (λ i. slice_cmp nat_cmp (e i) (append-nil (key_bytes spec b) i))
    ∙ tied_itself nat_list_cmp_total (key_bytes spec b))).0

-- the whole law
pub order_as_keys : (spec : IndexSpec) → OrderAsKeys spec
order_as_keys spec a b ha hb = (bytes_order spec a b ha hb, λ after e. no_prefix spec a b after ha hb e)
