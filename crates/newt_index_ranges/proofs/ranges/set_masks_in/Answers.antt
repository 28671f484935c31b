use Rattle.std.proofs.Common.{◌==◌, ◌∙◌, sym, ap}
use Rattle.std.specs.Prelude.{slice_set}
use Rattle.newt_index_ranges.specs.declared.rows.SoupRanges.{SoupRanges}
use Rattle.newt_index_ranges.specs.Rows.{with_masks}
use Rattle.newt_index_ranges.proofs.Places.{place_changed, none_changed}
use Rattle.newt_index_ranges.proofs.ranges.set_masks_in.Goals as goal

pub returns-in_default : goal.returns-in_default
returns-in_default c = sym (none_changed (λ (r : SoupRanges). r.sig == c.args.sig) (with_masks c.args.masks) c.args.rows.now 0 (sym c.in_default.ensures.place))

pub returns : goal.returns
returns c =
    ap (λ (r : SoupRanges). slice_set c.args.rows.now c.in-Some.at r) c.set_masks.ensures
    ∙ place_changed (λ (r : SoupRanges). r.sig == c.args.sig) (with_masks c.args.masks) c.args.rows.now c.in-Some.at c.index-rows-at.result (sym c.in-Some.ensures.place)
