use Rattle.std.proofs.Common.{Bool, List, ℕ, Err, map, Global, string_bytes, sym, ap, ◌∙◌, subst}
use Rattle.newt_host_attach.specs.Named.{AreAttached}
use Rattle.newt_script_session.specs.Calls.{OutputFailed, WriteCall}
use Rattle.newt_store_backup.specs.Restored.{IsDone, Restores}
use Rattle.newt_top.proofs.Making.{ran-failed, ran-replied, ran-short, writes-after, writes-before, writes-restored}
use Rattle.newt_top.proofs.Naming.{distinct_names}
use Rattle.newt_top.proofs.restoring.restore_input.Goals as goal

pub attach_names-attached-requires-clause-distinct : goal.attach_names-attached-requires-clause-distinct
attach_names-attached-requires-clause-distinct g c = distinct_names (map (string_bytes {Z = Global}) c.args.names.now) c.requires.may.names

-- ---- nothing was put out

pub returns-in-Err-Memory-clause-ran : goal.returns-in-Err-Memory-clause-ran
returns-in-Err-Memory-clause-ran g c = λ told.
    let o = g.H.Host.outside in
    let names = map (string_bytes {Z = Global}) c.args.names.now in
    let input = c.args.input.items in
    let old = o c.args.host.now in
    let mid = o c.attach_names-attached.new.host in
    let done = o c.restore_text.new.host in
    let a = subst (λ (t : Bool). AreAttached t names old mid) told c.attach_names-attached.ensures.attached in
    let restores = subst (λ (t : Bool). Restores t 0 input mid done c.restore_text.result) told c.restore_text.ensures.restores in
    ran-short names input old mid done c.restore_text.result (λ unit. g.met.H.Host.untouched c.args.host.now unit told (c.requires.may.free unit)) (λ unit none. g.met.H.Host.untouched c.attach_names-attached.new.host unit told none) a restores
    (record { untouched = λ unit none. g.met.H.Host.untouched c.restore_text.new.host unit told none; history = λ unit some. g.met.H.Host.history c.restore_text.new.host unit told some })
    (restores.unchanged (c.in-Err-Memory.is ∙ ap Err c.in-Err-Memory.field-0-is))

pub returns-in-Err-Device-clause-ran : goal.returns-in-Err-Device-clause-ran
returns-in-Err-Device-clause-ran g c = λ told.
    let o = g.H.Host.outside in
    let names = map (string_bytes {Z = Global}) c.args.names.now in
    let input = c.args.input.items in
    let old = o c.args.host.now in
    let mid = o c.attach_names-attached.new.host in
    let done = o c.restore_text.new.host in
    let a = subst (λ (t : Bool). AreAttached t names old mid) told c.attach_names-attached.ensures.attached in
    let restores = subst (λ (t : Bool). Restores t 0 input mid done c.restore_text.result) told c.restore_text.ensures.restores in
    ran-failed names input old mid done c.restore_text.result (λ unit. g.met.H.Host.untouched c.args.host.now unit told (c.requires.may.free unit)) (λ unit none. g.met.H.Host.untouched c.attach_names-attached.new.host unit told none) a restores
    (record { untouched = λ unit none. g.met.H.Host.untouched c.restore_text.new.host unit told none; history = λ unit some. g.met.H.Host.history c.restore_text.new.host unit told some }) 0

-- ---- the reply was put out, or the output failed

pub returns-then-is_err-clause-ran : goal.returns-then-is_err-clause-ran
returns-then-is_err-clause-ran g c = λ told.
    let o = g.H.Host.outside in
    let names = map (string_bytes {Z = Global}) c.args.names.now in
    let input = c.args.input.items in
    let old = o c.args.host.now in
    let mid = o c.attach_names-attached.new.host in
    let done = o c.restore_text.new.host in
    let a = subst (λ (t : Bool). AreAttached t names old mid) told c.attach_names-attached.ensures.attached in
    let restores = subst (λ (t : Bool). Restores t 0 input mid done c.restore_text.result) told c.restore_text.ensures.restores in
    let new = o c.write_all.new.host in
    let text : IsDone input 0 mid done c.deref.result.now = subst (λ (t : List ℕ). IsDone input 0 mid done t) (sym c.deref.ensures.value) (c.in-Ok.ensures.done told) in
    let call = subst (λ (t : Bool). WriteCall t OutputFailed c.write_all.result done new) told c.write_all.ensures.call in
    (ran-replied names input old mid done c.restore_text.result (λ unit. g.met.H.Host.untouched c.args.host.now unit told (c.requires.may.free unit)) (λ unit none. g.met.H.Host.untouched c.attach_names-attached.new.host unit told none) a restores
    new (record { untouched = λ unit none. g.met.H.Host.untouched c.write_all.new.host unit told none; history = λ unit some. g.met.H.Host.history c.write_all.new.host unit told some })
    c.deref.result.now c.write_all.result text (c.write_all.ensures.puts told) call).0 (sym c.is_err.ensures.value ∙ c.if-is_err.true)

pub returns-clause-ran : goal.returns-clause-ran
returns-clause-ran g c = λ told.
    let o = g.H.Host.outside in
    let names = map (string_bytes {Z = Global}) c.args.names.now in
    let input = c.args.input.items in
    let old = o c.args.host.now in
    let mid = o c.attach_names-attached.new.host in
    let done = o c.restore_text.new.host in
    let a = subst (λ (t : Bool). AreAttached t names old mid) told c.attach_names-attached.ensures.attached in
    let restores = subst (λ (t : Bool). Restores t 0 input mid done c.restore_text.result) told c.restore_text.ensures.restores in
    let new = o c.write_all.new.host in
    let text : IsDone input 0 mid done c.deref.result.now = subst (λ (t : List ℕ). IsDone input 0 mid done t) (sym c.deref.ensures.value) (c.in-Ok.ensures.done told) in
    let call = subst (λ (t : Bool). WriteCall t OutputFailed c.write_all.result done new) told c.write_all.ensures.call in
    (ran-replied names input old mid done c.restore_text.result (λ unit. g.met.H.Host.untouched c.args.host.now unit told (c.requires.may.free unit)) (λ unit none. g.met.H.Host.untouched c.attach_names-attached.new.host unit told none) a restores
    new (record { untouched = λ unit none. g.met.H.Host.untouched c.write_all.new.host unit told none; history = λ unit some. g.met.H.Host.history c.write_all.new.host unit told some })
    c.deref.result.now c.write_all.result text (c.write_all.ensures.puts told) call).1 (sym c.is_err.ensures.value ∙ c.if-is_err.false)

-- ---- what was done to devices

pub returns-in-Err-Memory-clause-one : goal.returns-in-Err-Memory-clause-one
returns-in-Err-Memory-clause-one g c =
    let o = g.H.Host.outside in
    let mid = o c.attach_names-attached.new.host in
    let done = o c.restore_text.new.host in
    writes-after (o c.args.host.now) mid done c.attach_names-attached.ensures.attached.counts (writes-restored g.H.Host.told c.args.input.items mid done c.restore_text.result c.restore_text.ensures.restores)

pub returns-in-Err-Device-clause-one : goal.returns-in-Err-Device-clause-one
returns-in-Err-Device-clause-one g c =
    let o = g.H.Host.outside in
    let mid = o c.attach_names-attached.new.host in
    let done = o c.restore_text.new.host in
    writes-after (o c.args.host.now) mid done c.attach_names-attached.ensures.attached.counts (writes-restored g.H.Host.told c.args.input.items mid done c.restore_text.result c.restore_text.ensures.restores)

pub returns-then-is_err-clause-one : goal.returns-then-is_err-clause-one
returns-then-is_err-clause-one g c =
    let o = g.H.Host.outside in
    let mid = o c.attach_names-attached.new.host in
    let done = o c.restore_text.new.host in
    let made = writes-restored g.H.Host.told c.args.input.items mid done c.restore_text.result c.restore_text.ensures.restores in
    writes-before (o c.args.host.now) done (o c.write_all.new.host) (writes-after (o c.args.host.now) mid done c.attach_names-attached.ensures.attached.counts made) c.write_all.ensures.call.devices

pub returns-clause-one : goal.returns-clause-one
returns-clause-one g c =
    let o = g.H.Host.outside in
    let mid = o c.attach_names-attached.new.host in
    let done = o c.restore_text.new.host in
    let made = writes-restored g.H.Host.told c.args.input.items mid done c.restore_text.result c.restore_text.ensures.restores in
    writes-before (o c.args.host.now) done (o c.write_all.new.host) (writes-after (o c.args.host.now) mid done c.attach_names-attached.ensures.attached.counts made) c.write_all.ensures.call.devices

-- ---- what is attached

pub returns-in-Err-Memory-clause-named : goal.returns-in-Err-Memory-clause-named
returns-in-Err-Memory-clause-named g c unit name is = c.attach_names-attached.ensures.attached.own unit name (sym (c.restore_text.ensures.restores.alone.cards.card unit) ∙ is)

pub returns-in-Err-Device-clause-named : goal.returns-in-Err-Device-clause-named
returns-in-Err-Device-clause-named g c unit name is = c.attach_names-attached.ensures.attached.own unit name (sym (c.restore_text.ensures.restores.alone.cards.card unit) ∙ is)

pub returns-then-is_err-clause-named : goal.returns-then-is_err-clause-named
returns-then-is_err-clause-named g c unit name is =
    c.attach_names-attached.ensures.attached.own unit name (sym (c.write_all.ensures.call.devices.cards.card unit ∙ c.restore_text.ensures.restores.alone.cards.card unit) ∙ is)

pub returns-clause-named : goal.returns-clause-named
returns-clause-named g c unit name is =
    c.attach_names-attached.ensures.attached.own unit name (sym (c.write_all.ensures.call.devices.cards.card unit ∙ c.restore_text.ensures.restores.alone.cards.card unit) ∙ is)
