use Rattle.std.proofs.Common.{◌∙◌, refl}
use Rattle.newt_test_pages.proofs.Carried.{still_at_rest}
use Rattle.newt_test_pages.proofs.plans.plan_and_forget.Goals as goal

pub returns : goal.returns
returns g c = λ numbers unit outside rest.
    let first = c.in_ok-put_and_forget.ensures in
    let second = c.in_ok-put_and_forget-2.ensures in
    let last = c.in_ok-delete_and_forget.ensures in
    still_at_rest c.args.objects.now c.delete_and_forget.new.objects numbers numbers unit outside outside (λ id. last.kept id ∙ second.kept id ∙ first.kept id) last.none refl refl rest
