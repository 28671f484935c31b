use Rattle.std.proofs.Common.{ap}
use Rattle.newt_spec_world.specs.World.{World}
use Rattle.newt_spec_world.specs.Answer.{fields}
use Rattle.newt_laws_world.proofs.Fewer.{row-settled, wf-from}
use Rattle.newt_laws_hits.proofs.identity.few_commands_settle.Goals as goal

pub returns : goal.returns
returns c = λ w k valid apart settled few. ap (λ (v : World). (v, fields w v k)) (row-settled w k (wf-from w valid) apart settled few)
