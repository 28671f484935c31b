use Rattle.std.specs.FinMap as map
use Rattle.newt_spec_image.specs.Objects.{Objects}
use Rattle.newt_test_pages.proofs.Carried.{planned_alone}
use Rattle.newt_test_pages.proofs.changes.put_plan.Goals as goal

pub returns-clause-plan : goal.returns-clause-plan
returns-clause-plan c = planned_alone c.args.objects.now c.plan_put.new.self c.new-batch.result c.plan_put.new.batch (λ (texts : Objects). map.insert texts c.args.id c.args.bytes.now) c.new-batch.ensures c.requires.none
    c.in_ok-plan_put.ensures.kept c.in_ok-plan_put.ensures.plans.under_way
