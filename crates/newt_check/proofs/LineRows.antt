-- Lines of reports, worked by hand.
use Rattle.std.proofs.Common.{◌≡◌, refl, [], ◌∷◌, ◌++◌, codes}
use Rattle.newt_check.specs.declared.report.Report.TheVariants.{Clean, Damaged}
use Rattle.newt_spec_check.specs.declared.Layer.TheVariants as layer
use Rattle.newt_check.specs.Lines.{clean_line, damaged_line, report_line}

a_clean_image : report_line (Clean 1 2 31) ≡ codes "ok clean 1 2 31" ++ 10 ∷ []
unfolding clean_line
a_clean_image = refl

a_long_record : report_line (Damaged layer.RecordPlace 12304) ≡ codes "ok damaged record 12304" ++ 10 ∷ []
unfolding damaged_line
a_long_record = refl
