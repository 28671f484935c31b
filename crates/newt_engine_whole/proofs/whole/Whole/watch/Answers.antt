-- A watch is made where there is a place.
use Rattle.std.proofs.Common.{ℕ, List, Option, Ok, Err, ap, refl, subst, sym}
use Rattle.newt_notify.specs.Watch.{Kept}
use Rattle.newt_spec_world.specs.declared.command.Command.TheVariants as command
use Rattle.newt_reply.specs.declared.reply.Reply.TheVariants as reply
use Rattle.newt_engine_whole.specs.Calls.{AnsweredApart}
use Rattle.newt_engine_whole.proofs.Noticed.{apart-memory, no-place, watch-made}
use Rattle.newt_engine_whole.proofs.whole.Whole.watch.Goals as goal

pub returns-in-Ok : goal.returns-in-Ok
returns-in-Ok g c =
    let e = c.in-Ok.ensures in
    let it = c.args.self.now in
    subst (λ (n : ℕ). AnsweredApart g.C.Card.reads (command.Watch c.args.name c.args.most) it (record it { watches = c.watch.new.self }) (Ok (reply.Number n))) (sym c.from.ensures)
    (watch-made c.args.name c.args.most c.in-Ok.number refl refl e.number e.ok)

pub returns-in-Err-Limit : goal.returns-in-Err-Limit
returns-in-Err-Limit g c =
    let e = c.in-Err-Limit.ensures in
    no-place c.args.name c.args.most (ap (λ (ws : List (Option Kept)). record c.args.self.now { watches = ws }) e.err) (e.limit.0 (ap Err c.in-Err-Limit.field-0-is))

pub returns-in-Err-Memory : goal.returns-in-Err-Memory
returns-in-Err-Memory g c =
    apart-memory (command.Watch c.args.name c.args.most) _ refl (ap (λ (ws : List (Option Kept)). record c.args.self.now { watches = ws }) c.in-Err-Memory.ensures.err)
