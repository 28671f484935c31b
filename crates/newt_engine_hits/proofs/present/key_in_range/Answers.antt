-- The range has the key.
use Rattle.std.proofs.Common.{◌≡◌, ◌∙◌, ap, sym, true, false}
use Rattle.newt_index_ranges.specs.Range.{range_in}
use Rattle.newt_engine_hits.specs.Searched.{agrees}
use Rattle.newt_engine_hits.proofs.Searching.{agrees-agree, range-agrees}
use Rattle.newt_engine_hits.proofs.Ranged.{key-in-range, no-range, key-of-index}
use Rattle.newt_engine_hits.proofs.present.key_in_range.Goals as goal

pub returns-in_default-clause-found : goal.returns-in_default-clause-found
returns-in_default-clause-found g c outside s stands is carried =
    no-range c.args.query.now.spec c.args.soup c.args.uid s carried (c.in_default.ensures.stands outside s stands is ∙ ap (λ i. range_in c.args.soup i s) c.index_of.ensures)

pub returns-then-agrees-clause-key : goal.returns-then-agrees-clause-key
returns-then-agrees-clause-key g c =
    key-of-index c.args.query.now.spec.index c.in-Some.range.now c.args.uid c.if-agrees.ensures.sorted
    (agrees-agree c.in-Some.range.now.spec c.args.query.now.spec.index (sym (c.if-agrees.ensures.same ∙ ap (agrees c.in-Some.range.now.spec) c.index_of-2.ensures)))
    c.key_of.result c.key_of.ensures

pub returns-then-agrees-clause-found : goal.returns-then-agrees-clause-found
returns-then-agrees-clause-found g c outside s stands is carried =
    c.key_of.ensures ∙ key-in-range c.args.query.now.spec c.args.soup c.args.uid s c.in-Some.range.now (g.met.C.Card.formed _ s is)
    (sym (c.in-Some.ensures.stands outside s stands is ∙ ap (λ i. range_in c.args.soup i s) c.index_of.ensures))

pub returns-else-agrees-clause-found : goal.returns-else-agrees-clause-found
returns-else-agrees-clause-found g c outside s stands is carried =
    let found = c.in-Some.ensures.stands outside s stands is ∙ ap (λ i. range_in c.args.soup i s) c.index_of.ensures in
    let yes = range-agrees c.args.soup c.args.query.now.spec.index s c.in-Some.range.now (sym found) in
    absurd (no-true (c.if-agrees.ensures.same ∙ ap (agrees c.in-Some.range.now.spec) c.index_of-2.ensures ∙ yes))
  where
    no-true : false ≡ true → ⊥
    no-true e = cc
