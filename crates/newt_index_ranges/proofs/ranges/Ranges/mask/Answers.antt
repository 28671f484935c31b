use Rattle.std.proofs.Common.{List, ap, ◌∙◌}
use Rattle.newt_index_ranges.specs.declared.rows.SoupRanges.{SoupRanges}
use Rattle.newt_index_ranges.specs.Rows.{mask_found}
use Rattle.newt_index_ranges.proofs.Found.{mask_is_found}
use Rattle.newt_index_ranges.proofs.ranges.Ranges.mask.Goals as goal

pub returns-clause-stands : goal.returns-clause-stands
returns-clause-stands c = λ s are.
    c.find_mask_in.ensures ∙ ap (λ (rows : List SoupRanges). mask_found c.args.soup c.args.uid rows) (c.deref.ensures.value ∙ c.self.view_is)
    ∙ mask_is_found s c.args.self.now c.args.soup c.args.uid are
