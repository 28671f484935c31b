use Rattle.std.proofs.Common.{Bool, List, ℕ, Option, map, Global, string_bytes, sym, ◌∙◌, subst, arith}
use Rattle.std.proofs.lemmas.List.{length-map}
use Rattle.newt_host_attach.specs.Named.{AreAttached}
use Rattle.newt_host.proofs.Outside.{Broke-rose, NoFault-append, SameWork-refl}
use Rattle.newt_script_session.specs.Calls.{OutputFailed, WriteCall}
use Rattle.newt_script_session.specs.Named.{held_by}
use Rattle.newt_script_session.proofs.Beginning.{attached_faultless}
use Rattle.newt_host.specs.Meanings.{device_on}
use Rattle.newt_top.specs.Reading.{IsSaid}
use Rattle.newt_top.specs.declared.status.Status.TheVariants.{Memory, Device}
use Rattle.newt_top.proofs.Looking.{device-held, durable-held, ran-put, ran-unput, only-read, free-read, none-attached, ends-memory, ends-device, ends-put}
use Rattle.newt_top.proofs.Naming.{few_names, distinct_names}
use Rattle.newt_top.proofs.reading.run_reading.Goals as goal

pub attach_names-attached-requires-clause-few : goal.attach_names-attached-requires-clause-few
attach_names-attached-requires-clause-few g c =
    let few = few_names (map (string_bytes {Z = Global}) c.args.names.now) c.requires.may.names in
    omega (arith, few, length-map c.args.names.now (string_bytes {Z = Global}))

pub attach_names-attached-requires-clause-distinct : goal.attach_names-attached-requires-clause-distinct
attach_names-attached-requires-clause-distinct g c = distinct_names (map (string_bytes {Z = Global}) c.args.names.now) c.requires.may.names

pub said-requires-clause-at_rest : goal.said-requires-clause-at_rest
said-requires-clause-at_rest g c = λ told.
    let o = g.H.Host.outside in
    let names = map (string_bytes {Z = Global}) c.args.names.now in
    let a = subst (λ (t : Bool). AreAttached t names (o c.args.host.now) (o c.attach_names-attached.new.host)) told c.attach_names-attached.ensures.attached in
    durable-held names (o c.args.host.now) (o c.attach_names-attached.new.host) a 0 (λ none. g.met.H.Host.untouched c.attach_names-attached.new.host 0 told none)

-- ---- nothing was put out

pub returns-in-Err-Memory-clause-ran : goal.returns-in-Err-Memory-clause-ran
returns-in-Err-Memory-clause-ran g c = λ told.
    let o = g.H.Host.outside in
    let names = map (string_bytes {Z = Global}) c.args.names.now in
    let a = subst (λ (t : Bool). AreAttached t names (o c.args.host.now) (o c.attach_names-attached.new.host)) told c.attach_names-attached.ensures.attached in
    ran-unput c.args.reading names (o c.args.host.now) (o c.attach_names-attached.new.host) (o c.said.new.host) a c.said.ensures.looks
    (λ unit. g.met.H.Host.untouched c.args.host.now unit told (c.requires.may.free unit)) (λ unit none. g.met.H.Host.untouched c.attach_names-attached.new.host unit told none)
    (λ unit none. g.met.H.Host.untouched c.said.new.host unit told none) (λ unit some. g.met.H.Host.history c.said.new.host unit told some)
    Memory (λ same. same)

pub returns-in-Err-Memory-clause-devices : goal.returns-in-Err-Memory-clause-devices
returns-in-Err-Memory-clause-devices g c = λ unit.
    let o = g.H.Host.outside in
    let looked = o c.said.new.host in
    only-read (o c.args.host.now) (o c.attach_names-attached.new.host) looked looked unit (c.attach_names-attached.ensures.attached.counts.work unit) c.said.ensures.looks (SameWork-refl unit looked)

pub returns-in-Err-Memory-clause-ends : goal.returns-in-Err-Memory-clause-ends
returns-in-Err-Memory-clause-ends g c =
    let o = g.H.Host.outside in
    let mid = o c.attach_names-attached.new.host in
    let free = free-read (o c.args.host.now) mid (o c.said.new.host) (attached_faultless _ _ _ _ c.attach_names-attached.ensures.attached) c.said.ensures.looks in
    ends-memory c.args.reading (o c.args.host.now) (o c.said.new.host) free
    (NoFault-append (none-attached _ _ _ _ c.attach_names-attached.ensures.attached) (rw c.in-Err-Memory.field-0-is at c.in-Err-Memory.ensures.ends.cause))

pub returns-in-Err-Device-clause-ran : goal.returns-in-Err-Device-clause-ran
returns-in-Err-Device-clause-ran g c = λ told.
    let o = g.H.Host.outside in
    let names = map (string_bytes {Z = Global}) c.args.names.now in
    let a = subst (λ (t : Bool). AreAttached t names (o c.args.host.now) (o c.attach_names-attached.new.host)) told c.attach_names-attached.ensures.attached in
    ran-unput c.args.reading names (o c.args.host.now) (o c.attach_names-attached.new.host) (o c.said.new.host) a c.said.ensures.looks
    (λ unit. g.met.H.Host.untouched c.args.host.now unit told (c.requires.may.free unit)) (λ unit none. g.met.H.Host.untouched c.attach_names-attached.new.host unit told none)
    (λ unit none. g.met.H.Host.untouched c.said.new.host unit told none) (λ unit some. g.met.H.Host.history c.said.new.host unit told some)
    (Device 0) (λ same. same)

pub returns-in-Err-Device-clause-devices : goal.returns-in-Err-Device-clause-devices
returns-in-Err-Device-clause-devices g c = λ unit.
    let o = g.H.Host.outside in
    let looked = o c.said.new.host in
    only-read (o c.args.host.now) (o c.attach_names-attached.new.host) looked looked unit (c.attach_names-attached.ensures.attached.counts.work unit) c.said.ensures.looks (SameWork-refl unit looked)

pub returns-in-Err-Device-clause-ends : goal.returns-in-Err-Device-clause-ends
returns-in-Err-Device-clause-ends g c =
    let o = g.H.Host.outside in
    let mid = o c.attach_names-attached.new.host in
    let free = free-read (o c.args.host.now) mid (o c.said.new.host) (attached_faultless _ _ _ _ c.attach_names-attached.ensures.attached) c.said.ensures.looks in
    let at = rw c.in-Err-Device.field-0-is at c.in-Err-Device.ensures.ends.cause in
    ends-device c.args.reading (o c.args.host.now) mid (o c.said.new.host) free (c.attach_names-attached.ensures.attached.counts.dev_faults 0) (Broke-rose at.1)

-- ---- the text was put out, or the output failed

pub returns-then-is_err-clause-ran : goal.returns-then-is_err-clause-ran
returns-then-is_err-clause-ran g c = λ told.
    let o = g.H.Host.outside in
    let names = map (string_bytes {Z = Global}) c.args.names.now in
    let mid = o c.attach_names-attached.new.host in
    let looked = o c.said.new.host in
    let new = o c.write_all.new.host in
    let a = subst (λ (t : Bool). AreAttached t names (o c.args.host.now) mid) told c.attach_names-attached.ensures.attached in
    let text : IsSaid c.args.reading (held_by names (o c.args.host.now) 0) c.deref.result.now =
    subst (λ (d : Option (List ℕ)). IsSaid c.args.reading d c.deref.result.now) (device-held names (o c.args.host.now) mid a 0)
    (subst (λ (t : List ℕ). IsSaid c.args.reading (device_on 0 mid) t) (sym c.deref.ensures.value) (c.in-Ok.ensures.text told)) in
    let call = subst (λ (t : Bool). WriteCall t OutputFailed c.write_all.result looked new) told c.write_all.ensures.call in
    (ran-put c.args.reading names (o c.args.host.now) mid looked a c.said.ensures.looks (λ unit. g.met.H.Host.untouched c.args.host.now unit told (c.requires.may.free unit)) (λ unit none. g.met.H.Host.untouched c.attach_names-attached.new.host unit told none)
    new (λ unit none. g.met.H.Host.untouched c.write_all.new.host unit told none) (λ unit some. g.met.H.Host.history c.write_all.new.host unit told some)
    c.write_all.result c.deref.result.now text (c.write_all.ensures.puts told) call).0 (sym c.is_err.ensures.value ∙ c.if-is_err.true)

pub returns-then-is_err-clause-devices : goal.returns-then-is_err-clause-devices
returns-then-is_err-clause-devices g c = λ unit.
    let o = g.H.Host.outside in
    only-read (o c.args.host.now) (o c.attach_names-attached.new.host) (o c.said.new.host) (o c.write_all.new.host) unit
    (c.attach_names-attached.ensures.attached.counts.work unit) c.said.ensures.looks (c.write_all.ensures.call.devices.counts.work unit)

pub returns-then-is_err-clause-ends : goal.returns-then-is_err-clause-ends
returns-then-is_err-clause-ends g c =
    let o = g.H.Host.outside in
    let mid = o c.attach_names-attached.new.host in
    let free = free-read (o c.args.host.now) mid (o c.said.new.host) (attached_faultless _ _ _ _ c.attach_names-attached.ensures.attached) c.said.ensures.looks in
    (ends-put c.args.reading g.H.Host.told c.write_all.result (o c.args.host.now) (o c.said.new.host) (o c.write_all.new.host) free (NoFault-append (none-attached _ _ _ _ c.attach_names-attached.ensures.attached) c.in-Ok.ensures.ends.no_fault) c.write_all.ensures.call).0 (sym c.is_err.ensures.value ∙ c.if-is_err.true)

pub returns-clause-ran : goal.returns-clause-ran
returns-clause-ran g c = λ told.
    let o = g.H.Host.outside in
    let names = map (string_bytes {Z = Global}) c.args.names.now in
    let mid = o c.attach_names-attached.new.host in
    let looked = o c.said.new.host in
    let new = o c.write_all.new.host in
    let a = subst (λ (t : Bool). AreAttached t names (o c.args.host.now) mid) told c.attach_names-attached.ensures.attached in
    let text : IsSaid c.args.reading (held_by names (o c.args.host.now) 0) c.deref.result.now =
    subst (λ (d : Option (List ℕ)). IsSaid c.args.reading d c.deref.result.now) (device-held names (o c.args.host.now) mid a 0)
    (subst (λ (t : List ℕ). IsSaid c.args.reading (device_on 0 mid) t) (sym c.deref.ensures.value) (c.in-Ok.ensures.text told)) in
    let call = subst (λ (t : Bool). WriteCall t OutputFailed c.write_all.result looked new) told c.write_all.ensures.call in
    (ran-put c.args.reading names (o c.args.host.now) mid looked a c.said.ensures.looks (λ unit. g.met.H.Host.untouched c.args.host.now unit told (c.requires.may.free unit)) (λ unit none. g.met.H.Host.untouched c.attach_names-attached.new.host unit told none)
    new (λ unit none. g.met.H.Host.untouched c.write_all.new.host unit told none) (λ unit some. g.met.H.Host.history c.write_all.new.host unit told some)
    c.write_all.result c.deref.result.now text (c.write_all.ensures.puts told) call).1 (sym c.is_err.ensures.value ∙ c.if-is_err.false)

pub returns-clause-devices : goal.returns-clause-devices
returns-clause-devices g c = λ unit.
    let o = g.H.Host.outside in
    only-read (o c.args.host.now) (o c.attach_names-attached.new.host) (o c.said.new.host) (o c.write_all.new.host) unit
    (c.attach_names-attached.ensures.attached.counts.work unit) c.said.ensures.looks (c.write_all.ensures.call.devices.counts.work unit)

pub returns-clause-ends : goal.returns-clause-ends
returns-clause-ends g c =
    let o = g.H.Host.outside in
    let mid = o c.attach_names-attached.new.host in
    let free = free-read (o c.args.host.now) mid (o c.said.new.host) (attached_faultless _ _ _ _ c.attach_names-attached.ensures.attached) c.said.ensures.looks in
    (ends-put c.args.reading g.H.Host.told c.write_all.result (o c.args.host.now) (o c.said.new.host) (o c.write_all.new.host) free (NoFault-append (none-attached _ _ _ _ c.attach_names-attached.ensures.attached) c.in-Ok.ensures.ends.no_fault) c.write_all.ensures.call).1 (sym c.is_err.ensures.value ∙ c.if-is_err.false)

-- ---- what is attached

pub returns-in-Err-Memory-clause-named : goal.returns-in-Err-Memory-clause-named
returns-in-Err-Memory-clause-named g c unit name is = c.attach_names-attached.ensures.attached.own unit name (sym (c.said.ensures.looks.alone.cards.card unit) ∙ is)

pub returns-in-Err-Device-clause-named : goal.returns-in-Err-Device-clause-named
returns-in-Err-Device-clause-named g c unit name is = c.attach_names-attached.ensures.attached.own unit name (sym (c.said.ensures.looks.alone.cards.card unit) ∙ is)

pub returns-then-is_err-clause-named : goal.returns-then-is_err-clause-named
returns-then-is_err-clause-named g c unit name is =
    c.attach_names-attached.ensures.attached.own unit name (sym (c.write_all.ensures.call.devices.cards.card unit ∙ c.said.ensures.looks.alone.cards.card unit) ∙ is)

pub returns-clause-named : goal.returns-clause-named
returns-clause-named g c unit name is =
    c.attach_names-attached.ensures.attached.own unit name (sym (c.write_all.ensures.call.devices.cards.card unit ∙ c.said.ensures.looks.alone.cards.card unit) ∙ is)
