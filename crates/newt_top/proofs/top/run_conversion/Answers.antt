use Rattle.newt_top.proofs.Halting.{ends_halted, ends_ok}
use Rattle.newt_top.proofs.top.run_conversion.Goals as goal

pub returns-in-Ok-clause-ends : goal.returns-in-Ok-clause-ends
returns-in-Ok-clause-ends g c = ends_ok _ _ _ c.in-Ok.ensures.call.faults.no_fault c.in-Ok.ensures.call.faults.later

pub returns-in-Err-clause-ends : goal.returns-in-Err-clause-ends
returns-in-Err-clause-ends g c = rw c.halted.ensures (ends_halted _ _ _ c.in-Err.halt (λ same. same) c.in-Err.ensures.call.faults)

pub returns-in-Ok-clause-devices : goal.returns-in-Ok-clause-devices
returns-in-Ok-clause-devices g c = c.convert_input.ensures.call.devices

pub returns-in-Err-clause-devices : goal.returns-in-Err-clause-devices
returns-in-Err-clause-devices g c = c.convert_input.ensures.call.devices
