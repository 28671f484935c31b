use Rattle.std.proofs.Common.{Ok, Err, map, Global, string_bytes, refl, arith}
use Rattle.std.proofs.lemmas.List.{length-map}
use Rattle.newt_top.proofs.Halting.{ends_halted, ends_ok}
use Rattle.newt_top.proofs.Naming.{few_names, distinct_names}
use Rattle.newt_top.proofs.top.run_on_devices.Goals as goal

pub run_named-requires-clause-few : goal.run_named-requires-clause-few
run_named-requires-clause-few g c =
    let few = few_names (map (string_bytes {Z = Global}) c.args.names.now) c.requires.may.names in
    omega (arith, few, length-map c.args.names.now (string_bytes {Z = Global}))

pub run_named-requires-clause-distinct : goal.run_named-requires-clause-distinct
run_named-requires-clause-distinct g c = distinct_names (map (string_bytes {Z = Global}) c.args.names.now) c.requires.may.names

pub returns-in-Ok-clause-ran : goal.returns-in-Ok-clause-ran
returns-in-Ok-clause-ran g c = λ told. record { result = Ok tt; ends = refl; ran = c.in-Ok.ensures.ran told }

pub returns-in-Err-clause-ran : goal.returns-in-Err-clause-ran
returns-in-Err-clause-ran g c = λ told. record { result = Err c.in-Err.halt; ends = c.halted.ensures; ran = c.in-Err.ensures.ran told }

pub returns-in-Ok-clause-ends : goal.returns-in-Ok-clause-ends
returns-in-Ok-clause-ends g c = ends_ok _ _ _ c.in-Ok.ensures.faults.no_fault c.in-Ok.ensures.faults.later

pub returns-in-Err-clause-ends : goal.returns-in-Err-clause-ends
returns-in-Err-clause-ends g c = rw c.halted.ensures (ends_halted _ _ _ c.in-Err.halt (λ same. same) c.in-Err.ensures.faults)
