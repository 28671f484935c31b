use Rattle.std.proofs.Common.{◌∙◌, ap, get_or, arith, rules}
use Rattle.std.specs.Prelude.{slice_set}
use Rattle.std.proofs.lemmas.List.{get_or_default, take_all, drop_all}
use Rattle.std.proofs.lemmas.List.Edits.{map_over_more}
use Rattle.newt_index.specs.Pairs.{Sorted}
use Rattle.newt_index_ranges.specs.Rows.{without_entry}
use Rattle.newt_index_ranges.proofs.indexes.remove_from_all.Goals as goal

pub loop-i-preserved : goal.loop-i-preserved
loop-i-preserved c =
    let ranges = c.loop-i.ranges in
    let i = c.loop-i.i in
    let old = get_or ranges i c.index-ranges-i.result in
    ap (λ (v : Sorted). slice_set ranges i v) c.forget.ensures
    ∙ map_over_more (without_entry c.args.uid) c.args.ranges.now ranges i old (omega arith) c.loop-i.invariant (get_or_default ranges i c.index-ranges-i.result old (omega arith))

pub returns : goal.returns
returns c = search (rules, take_all, drop_all)
