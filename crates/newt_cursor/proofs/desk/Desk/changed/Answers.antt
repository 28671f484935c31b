-- Who stands on an entry does not depend on its key.
use Rattle.std.proofs.Common.{arith, ◌<◌, ap, ◌∙◌, length, Option, option_map}
use Rattle.newt_cursor.specs.declared.desk.Cursor.{Cursor}
use Rattle.newt_cursor.specs.Desk.{keyed}
use Rattle.newt_cursor.specs.Seen.{cursor_of}
use Rattle.newt_cursor.proofs.Seats.{keyed_same}
use Rattle.newt_cursor.proofs.desk.Desk.changed.Goals as goal

pub invariant_of-self : goal.invariant_of-self
invariant_of-self c =
    let t = c.if-from-len.true in
    let l = c.len.ensures in
    let f = c.from.ensures in
    let i = c.from-then-from-len.ensures in
    let lt : c.from-then-from-len.result < length c.self.inside.cursors.items = omega (arith, t, l, f, i) in
    keyed_same c.args.key c.self.inside.cursors.items c.from-then-from-len.result c.key_at.new.cursor _ c.self.inside.rows.items lt
    (c.key_at.ensures ∙ ap (λ (o : Option Cursor). option_map (keyed c.args.key) (option_map cursor_of o)) c.index_mut.ensures.value) c.self.invariant
