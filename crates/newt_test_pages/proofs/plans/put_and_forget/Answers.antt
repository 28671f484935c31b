use Rattle.std.proofs.Common.{◌∙◌}
use Rattle.newt_test_pages.proofs.plans.put_and_forget.Goals as goal

pub returns : goal.returns
returns c = record { kept = λ id. c.forget.ensures.kept id ∙ c.put_plan.ensures.kept id; none = c.forget.ensures.no_plans }
