use Rattle.std.proofs.Common.{◌≤◌, ◌∙◌, Bool, ℕ, List, length, map, Global, string_bytes, sym, subst}
use Rattle.newt_laws_steps.specs.Devices.{SameDevices}
use Rattle.newt_top.specs.Restoring.{RanRestored, RanRestoring}
use Rattle.newt_top.specs.declared.status.Status.{Status}
use Rattle.newt_top.proofs.Making.{writes-after, writes-none}
use Rattle.newt_top.proofs.Restored.{halted-restoring, read-restoring}
use Rattle.newt_top.proofs.restoring.run_restore.Goals as goal

pub returns-in-Err-clause-ran : goal.returns-in-Err-clause-ran
returns-in-Err-clause-ran g c = λ told.
    let old = g.H.Host.outside c.args.host.now in
    let new = g.H.Host.outside c.whole_input.new.host in
    let names = map (string_bytes {Z = Global}) c.args.names.now in
    let same = subst (λ (t : Bool). SameDevices t old new) told c.in-Err.ensures.call.devices in
    subst (λ (s : Status). RanRestoring names c.args.limit s old new) (sym c.halted.ensures)
    (halted-restoring names c.args.limit c.in-Err.halt old new c.in-Err.ensures.call.faults.cause (c.in-Err.ensures.too_long told) (c.in-Err.ensures.quiet told) same
    (λ unit. g.met.H.Host.untouched c.args.host.now unit told (c.requires.may.free unit)))

pub returns-in-Ok-clause-ran : goal.returns-in-Ok-clause-ran
returns-in-Ok-clause-ran g c = λ told.
    let old = g.H.Host.outside c.args.host.now in
    let mid = g.H.Host.outside c.whole_input.new.host in
    let new = g.H.Host.outside c.restore_input.new.host in
    let names = map (string_bytes {Z = Global}) c.args.names.now in
    let same = subst (λ (t : Bool). SameDevices t old mid) told c.in-Ok.ensures.call.devices in
    let ran = subst (λ (input : List ℕ). RanRestored names input c.restore_input.result mid new) (c.in-Ok.ensures.input told) (c.restore_input.ensures.ran told) in
    read-restoring names old mid new (c.in-Ok.ensures.quiet told) same c.args.limit c.restore_input.result ran (c.restore_input.ensures.left ∙ c.in-Ok.ensures.left told)
    (subst (λ (input : List ℕ). length input ≤ c.args.limit) (c.in-Ok.ensures.input told) c.in-Ok.ensures.within)

-- ---- what was done to devices

pub returns-in-Err-clause-one : goal.returns-in-Err-clause-one
returns-in-Err-clause-one g c =
    let o = g.H.Host.outside in
    writes-none (o c.args.host.now) (o c.whole_input.new.host) c.in-Err.ensures.call.devices

pub returns-in-Ok-clause-one : goal.returns-in-Ok-clause-one
returns-in-Ok-clause-one g c =
    let o = g.H.Host.outside in
    writes-after (o c.args.host.now) (o c.whole_input.new.host) (o c.restore_input.new.host) c.in-Ok.ensures.call.devices.counts c.restore_input.ensures.one

-- ---- what is attached

pub returns-in-Err-clause-named : goal.returns-in-Err-clause-named
returns-in-Err-clause-named g c unit name is = let none = c.in-Err.ensures.call.devices.cards.card unit ∙ c.requires.may.free unit in absurd (cc)
