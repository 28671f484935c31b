use Rattle.std.proofs.Common.{◌≡◌, ◌∙◌, List, ap, option_map}
use Rattle.newt_index_ranges.specs.declared.rows.SoupRanges.{SoupRanges}
use Rattle.newt_index_ranges.specs.Rows.{range_found}
use Rattle.newt_index_ranges.proofs.Found.{is_found, lent_sorted}
use Rattle.newt_index_ranges.proofs.ranges.Ranges.range_of.Goals as goal

pub returns-clause-stands : goal.returns-clause-stands
returns-clause-stands c = λ s formed are.
    let spec = option_map (λ s. s.now) c.args.spec in
    let found : option_map (λ v. v.now) c.find_in.result ≡ range_found c.args.soup spec c.args.self.now =
    c.find_in.ensures.found ∙ ap (λ (rows : List SoupRanges). range_found c.args.soup spec rows) (c.deref.ensures.value ∙ c.self.view_is) in
    found ∙ is_found s c.args.self.now c.args.soup spec formed are (lent_sorted c.find_in.result (range_found c.args.soup spec c.args.self.now) found c.find_in.ensures.sorted)
