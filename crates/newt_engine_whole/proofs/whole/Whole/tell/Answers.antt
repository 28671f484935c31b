-- A refused command has no notes, and one in which a device failed has its own.
use Rattle.std.proofs.Common.{ap, sym}
use Rattle.newt_reply.specs.Said.{said}
use Rattle.newt_reply.specs.declared.reply.Reply.{Reply}
use Rattle.newt_engine_whole.specs.Told.{due_told}
use Rattle.newt_engine_whole.proofs.Told.{done-told, nothing-told, tells-as}
use Rattle.newt_engine_whole.proofs.whole.Whole.tell.Goals as goal

pub returns-in-Refused : goal.returns-in-Refused
returns-in-Refused g c = nothing-told (ap (λ (r : Reply). due_told g.C.Card.soups c.args.self.now.world.units c.args.due.now (said r)) c.in-Refused.is)

pub returns-in-Thrown : goal.returns-in-Thrown
returns-in-Thrown g c =
    tells-as (sym (ap (λ (r : Reply). due_told g.C.Card.soups c.args.self.now.world.units c.args.due.now (said r)) c.in-Thrown.is)) c.tell_halfway.ensures

pub returns-in_default : goal.returns-in_default
returns-in_default g c =
    let d = c.in_default in
    tells-as (sym (done-told g.C.Card.soups c.args.self.now.world.units c.args.due.now c.args.reply.now d.not-Refused d.not-Thrown)) c.tell_done.ensures
