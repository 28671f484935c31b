-- The draft of a copy that is there is shown.
use Rattle.std.proofs.Common.{refl, subst, sym, ◌∙◌}
use Rattle.std.specs.Prelude.{Ok, Result}
use Rattle.std.specs.declared.alloc.AllocError.{AllocError}
use Rattle.std.proofs.lemmas.Result.{err_from_is_err_and}
use Rattle.newt_graph.specs.Graph.{RawGraph}
use Rattle.newt_reply.specs.declared.reply.Reply.{Reply}
use Rattle.newt_reply.specs.declared.reply.Reply.TheVariants as reply
use Rattle.newt_spec_world.specs.declared.command.Command.TheVariants as command
use Rattle.newt_engine_whole.specs.Calls.{AnsweredApart}
use Rattle.newt_engine_whole.proofs.Drafted.{none-shown, shown}
use Rattle.newt_engine_whole.proofs.Noticed.{apart-memory}
use Rattle.newt_engine_whole.proofs.whole.Whole.draft.Goals as goal

pub returns-in_ok-copy-in-Some : goal.returns-in_ok-copy-in-Some
returns-in_ok-copy-in-Some g c =
    let a = c.args.self.now in
    subst (λ (x : RawGraph). AnsweredApart g.C.Card.reads (command.Draft c.args.number) a a (Ok (reply.Literal x)))
    (sym (c.in_ok-copy-in-Some.ensures ∙ c.draft.ensures)) (shown c.args.number c.in-Some.work.now c.in-Some.ensures refl)

pub returns-in_err-copy-in-Some : goal.returns-in_err-copy-in-Some
returns-in_err-copy-in-Some g c =
    let a = c.args.self.now in
    let memory = err_from_is_err_and c.from_residual.result c.from_residual.ensures.1 in
    subst (λ (r : Result Reply AllocError). AnsweredApart g.C.Card.reads (command.Draft c.args.number) a a r) (sym memory.1) (apart-memory (command.Draft c.args.number) memory.0 refl refl)

pub returns-in-None : goal.returns-in-None
returns-in-None g c = none-shown c.args.number refl (sym c.in-None.ensures)
