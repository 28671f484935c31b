use Rattle.std.proofs.Common.{Some, Global, map, string_bytes, sym, ◌∙◌, subst}
use Rattle.newt_spec_script.specs.Generator.{gen_script}
use Rattle.newt_top.specs.Calls.{RunEnds}
use Rattle.newt_top.specs.Modes.{IsPlain, LeavesDevices, Ran, RanCounted, RanScript}
use Rattle.newt_top.specs.declared.status.Mode.{Mode}
use Rattle.newt_top.specs.declared.status.Status.{Status}
use Rattle.newt_top.proofs.Plain.{plain_counted, plain_script}
use Rattle.newt_top.proofs.top.run_mode.Goals as goal

pub returns-in-Run-clause-ran : goal.returns-in-Run-clause-ran
returns-in-Run-clause-ran g c = λ told.
    let P : Mode → Type 0 = λ mode. Ran (Some mode) (map (string_bytes {Z = Global}) c.args.names.now) c.args.limit c.run_on_devices.result (g.H.Host.outside c.args.host.now) (g.H.Host.outside c.run_on_devices.new.host) in
    subst P (sym c.in-Run.is) (c.run_on_devices.ensures.ran told)

pub returns-in-Generate-clause-ran : goal.returns-in-Generate-clause-ran
returns-in-Generate-clause-ran g c = λ told.
    let P : Mode → Type 0 = λ mode. Ran (Some mode) (map (string_bytes {Z = Global}) c.args.names.now) c.args.limit c.run_generated.result (g.H.Host.outside c.args.host.now) (g.H.Host.outside c.run_generated.new.host) in
    subst P (sym c.in-Generate.is) (c.run_generated.ensures.left, c.run_generated.ensures.ran told)

pub returns-in-Read-clause-ran : goal.returns-in-Read-clause-ran
returns-in-Read-clause-ran g c = λ told.
    let P : Mode → Type 0 = λ mode. Ran (Some mode) (map (string_bytes {Z = Global}) c.args.names.now) c.args.limit c.run_reading.result (g.H.Host.outside c.args.host.now) (g.H.Host.outside c.run_reading.new.host) in
    subst P (sym c.in-Read.is) (c.run_reading.ensures.ran told)

-- ---- where no device failed

pub returns-in-Run-clause-plain : goal.returns-in-Run-clause-plain
returns-in-Run-clause-plain g c = λ told ok none.
    let names = map (string_bytes {Z = Global}) c.args.names.now in
    let before = g.H.Host.outside c.args.host.now in
    let after = g.H.Host.outside c.run_on_devices.new.host in
    let R : Status → Type 0 = λ status. RanScript names c.args.limit status before after in
    let P : Mode → Type 0 = λ mode. IsPlain (Some mode) names before after in
    subst P (sym c.in-Run.is) (plain_script names before after none c.args.limit (subst R ok (c.run_on_devices.ensures.ran told)))

pub returns-in-Convert-clause-plain : goal.returns-in-Convert-clause-plain
returns-in-Convert-clause-plain g c = λ told ok none.
    let P : Mode → Type 0 = λ mode. IsPlain (Some mode) (map (string_bytes {Z = Global}) c.args.names.now) (g.H.Host.outside c.args.host.now) (g.H.Host.outside c.run_conversion.new.host) in
    subst P (sym c.in-Convert.is) tt

pub returns-in-Generate-clause-plain : goal.returns-in-Generate-clause-plain
returns-in-Generate-clause-plain g c = λ told ok none.
    let names = map (string_bytes {Z = Global}) c.args.names.now in
    let script = gen_script c.in-Generate.seed c.in-Generate.count in
    let before = g.H.Host.outside c.args.host.now in
    let after = g.H.Host.outside c.run_generated.new.host in
    let R : Status → Type 0 = λ status. RanCounted script names status before after in
    let P : Mode → Type 0 = λ mode. IsPlain (Some mode) names before after in
    subst P (sym c.in-Generate.is) (plain_counted names before after none script (subst R ok (c.run_generated.ensures.ran told)))

pub returns-in-Read-clause-plain : goal.returns-in-Read-clause-plain
returns-in-Read-clause-plain g c = λ told ok none.
    let P : Mode → Type 0 = λ mode. IsPlain (Some mode) (map (string_bytes {Z = Global}) c.args.names.now) (g.H.Host.outside c.args.host.now) (g.H.Host.outside c.run_reading.new.host) in
    subst P (sym c.in-Read.is) tt

-- ---- devices

pub returns-in-Run-clause-devices : goal.returns-in-Run-clause-devices
returns-in-Run-clause-devices g c =
    let P : Mode → Type 0 = λ mode. LeavesDevices g.H.Host.told (Some mode) (g.H.Host.outside c.args.host.now) (g.H.Host.outside c.run_on_devices.new.host) in
    subst P (sym c.in-Run.is) tt

pub returns-in-Generate-clause-devices : goal.returns-in-Generate-clause-devices
returns-in-Generate-clause-devices g c =
    let P : Mode → Type 0 = λ mode. LeavesDevices g.H.Host.told (Some mode) (g.H.Host.outside c.args.host.now) (g.H.Host.outside c.run_generated.new.host) in
    subst P (sym c.in-Generate.is) tt

pub returns-in-Convert-clause-devices : goal.returns-in-Convert-clause-devices
returns-in-Convert-clause-devices g c =
    let P : Mode → Type 0 = λ mode. LeavesDevices g.H.Host.told (Some mode) (g.H.Host.outside c.args.host.now) (g.H.Host.outside c.run_conversion.new.host) in
    subst P (sym c.in-Convert.is) c.run_conversion.ensures.devices

pub returns-in-Read-clause-devices : goal.returns-in-Read-clause-devices
returns-in-Read-clause-devices g c =
    let P : Mode → Type 0 = λ mode. LeavesDevices g.H.Host.told (Some mode) (g.H.Host.outside c.args.host.now) (g.H.Host.outside c.run_reading.new.host) in
    subst P (sym c.in-Read.is) c.run_reading.ensures.devices

pub returns-in-Restore-clause-devices : goal.returns-in-Restore-clause-devices
returns-in-Restore-clause-devices g c =
    let P : Mode → Type 0 = λ mode. LeavesDevices g.H.Host.told (Some mode) (g.H.Host.outside c.args.host.now) (g.H.Host.outside c.run_restore.new.host) in
    subst P (sym c.in-Restore.is) c.run_restore.ensures.one

-- ---- how it ends

pub returns-in-Run-clause-ends : goal.returns-in-Run-clause-ends
returns-in-Run-clause-ends g c =
    let P : Mode → Type 0 = λ mode. RunEnds mode c.run_on_devices.result (g.H.Host.outside c.args.host.now) (g.H.Host.outside c.run_on_devices.new.host) in
    subst P (sym c.in-Run.is) c.run_on_devices.ensures.ends

pub returns-in-Convert-clause-ends : goal.returns-in-Convert-clause-ends
returns-in-Convert-clause-ends g c =
    let P : Mode → Type 0 = λ mode. RunEnds mode c.run_conversion.result (g.H.Host.outside c.args.host.now) (g.H.Host.outside c.run_conversion.new.host) in
    subst P (sym c.in-Convert.is) c.run_conversion.ensures.ends

pub returns-in-Generate-clause-ends : goal.returns-in-Generate-clause-ends
returns-in-Generate-clause-ends g c =
    let P : Mode → Type 0 = λ mode. RunEnds mode c.run_generated.result (g.H.Host.outside c.args.host.now) (g.H.Host.outside c.run_generated.new.host) in
    subst P (sym c.in-Generate.is) c.run_generated.ensures.ends

pub returns-in-Read-clause-ends : goal.returns-in-Read-clause-ends
returns-in-Read-clause-ends g c =
    let P : Mode → Type 0 = λ mode. RunEnds mode c.run_reading.result (g.H.Host.outside c.args.host.now) (g.H.Host.outside c.run_reading.new.host) in
    subst P (sym c.in-Read.is) c.run_reading.ensures.ends

-- ---- what is attached

pub returns-in-Convert-clause-named : goal.returns-in-Convert-clause-named
returns-in-Convert-clause-named g c unit name is = let none = c.run_conversion.ensures.devices.cards.card unit ∙ c.requires.may.free unit in absurd (cc)
