-- The add of a move is told where it was done.
use Rattle.std.proofs.Common.{sym, ◌∙◌}
use Rattle.newt_engine_whole.proofs.Told.{first-told, no-two, none-told, nothing-told, tells-as}
use Rattle.newt_engine_whole.proofs.whole.Whole.tell_halfway.Goals as goal

pub returns-in_default : goal.returns-in_default
returns-in_default g c = nothing-told (no-two g.C.Card.soups c.args.self.now.world.units c.args.due.now c.args.failed c.in_default.not-Two)

pub returns-then-is_halfway : goal.returns-then-is_halfway
returns-then-is_halfway g c =
    tells-as (first-told g.C.Card.soups c.args.self.now.world.units c.args.due.now c.in-Two.first c.in-Two.second c.args.failed c.in-Two.is
    (sym c.is_halfway.ensures ∙ c.if-is_halfway.true)) c.tell_one.ensures

pub returns-else-is_halfway : goal.returns-else-is_halfway
returns-else-is_halfway g c =
    nothing-told (none-told g.C.Card.soups c.args.self.now.world.units c.args.due.now c.in-Two.first c.in-Two.second c.args.failed c.in-Two.is
    (sym c.is_halfway.ensures ∙ c.if-is_halfway.false))
