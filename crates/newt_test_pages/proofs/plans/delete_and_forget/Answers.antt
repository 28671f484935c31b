use Rattle.std.proofs.Common.{◌∙◌}
use Rattle.newt_test_pages.proofs.plans.delete_and_forget.Goals as goal

pub returns : goal.returns
returns g c = record { kept = λ id. c.forget.ensures.kept id ∙ c.delete_plan.ensures.kept id; none = c.forget.ensures.no_plans }
