use Rattle.std.proofs.Common.{◌≡◌, ℕ, ◌+◌, ◌∙◌, List, cond, is_some, sym, ap, subst, [], ◌∷◌, ◌++◌, map, Option, refl}
use Rattle.std.specs.declared.ops.Bound.TheVariants.{Excluded, Unbounded}
use Rattle.std.specs.Ordering.{nat_cmp}
use Rattle.std.specs.Map.Iter.{deref_pair}
use Rattle.std.specs.BTreeMap.Range.{entries_between}
use Rattle.std.proofs.lemmas.List.{map-append}
use Rattle.std.proofs.lemmas.Map.Iter.{iter_end}
use Rattle.newt_spec_image.specs.Objects.{Extent}
use Rattle.newt_objects.specs.Headers.{held_in}
use Rattle.newt_objects.specs.Listed.{AreNexts}
use Rattle.newt_objects.proofs.Nexts.{Entries}
use Rattle.newt_objects.proofs.Listed.{ids_of, ids-push, rows-nexts}
use Rattle.newt_objects.proofs.rows.rows_after.Goals as goal

pub loop-id-preserved : goal.loop-id-preserved
loop-id-preserved c =
    let done : Entries = map deref_pair c.loop-id.yielded in
    let id : ℕ = c.in-Some.id.now in
    let row : Option Extent = c.in-Some.row.now in
    c.in_ok-list_row.ensures ∙ ap (λ (l : List ℕ). l ++ cond (is_some row) (id ∷ []) []) c.loop-id.invariant ∙ sym (ids-push done (id, row))
    ∙ ap ids_of (sym (map-append deref_pair c.loop-id.yielded ((c.in-Some.id, c.in-Some.row) ∷ [])))

pub returns : goal.returns
returns c =
    let r = c.range-id-items.ensures in
    let s : Entries = c.into_iter-id-iterator.result in
    let start : s ≡ entries_between nat_cmp (Excluded c.args.above) Unbounded c.args.rows.now.entries = c.into_iter-id-iterator.ensures.into_iter_gives ∙ r.between tt in
    let end : map deref_pair c.loop-id.yielded ≡ s = (iter_end deref_pair s c.loop-id.yielded s c.loop-id.id-iterator c.next.new.self c.next.result refl c.loop-id.yielded_by c.in-None.is c.next.ensures.steps).0 in
    subst (AreNexts (held_in c.args.rows.now) (c.args.above + 1)) (sym (c.loop-id.invariant ∙ ap ids_of (end ∙ start))) (rows-nexts c.args.rows.now c.args.above r.ordered)
