use Rattle.std.proofs.Common.{◌==◌, ◌∙◌, sym, ap}
use Rattle.std.specs.Prelude.{slice_set}
use Rattle.newt_index_ranges.specs.declared.rows.SoupRanges.{SoupRanges}
use Rattle.newt_index_ranges.specs.Rows.{with_range}
use Rattle.newt_index_ranges.proofs.Places.{place_changed, none_changed}
use Rattle.newt_index_ranges.proofs.ranges.declare_in.Goals as goal

pub returns-in_default-clause-ok : goal.returns-in_default-clause-ok
returns-in_default-clause-ok c = sym (none_changed (λ (r : SoupRanges). r.sig == c.args.sig) (with_range c.args.range) c.args.rows.now 0 (sym c.in_default.ensures.place))

pub returns-clause-ok : goal.returns-clause-ok
returns-clause-ok c =
    ap (λ (r : SoupRanges). slice_set c.args.rows.now c.in-Some.at r) c.in_ok-declare.ensures.ok
    ∙ place_changed (λ (r : SoupRanges). r.sig == c.args.sig) (with_range c.args.range) c.args.rows.now c.in-Some.at c.index-rows-at.result (sym c.in-Some.ensures.place)
