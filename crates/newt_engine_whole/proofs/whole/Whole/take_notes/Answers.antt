-- The notes of a watch that is there are taken.
use Rattle.std.proofs.Common.{List, Option, ap, refl, subst, sym, ◌∙◌}
use Rattle.std.specs.Prelude.{Result}
use Rattle.std.specs.declared.alloc.AllocError.{AllocError}
use Rattle.std.proofs.lemmas.Result.{err_from_is_err_and}
use Rattle.newt_notify.specs.Watch.{Kept}
use Rattle.newt_reply.specs.declared.reply.Reply.{Reply}
use Rattle.newt_spec_world.specs.declared.command.Command.TheVariants as command
use Rattle.newt_engine_whole.specs.Calls.{AnsweredApart}
use Rattle.newt_engine_whole.proofs.Noticed.{apart-memory, no-notes, notes-taken}
use Rattle.newt_engine_whole.proofs.whole.Whole.take_notes.Goals as goal

pub returns-then-not-has : goal.returns-then-not-has
returns-then-not-has g c = no-notes c.args.number refl (sym c.has.ensures ∙ c.if-not-has.true)

pub take-requires : goal.take-requires
take-requires g c = sym c.has.ensures ∙ c.if-not-has.false

pub returns : goal.returns
returns g c =
    let e = c.in_ok-take.ensures in
    notes-taken c.args.number c.in_ok-take.field-0 refl refl e.lost e.last e.empty

pub returns-in_err-take : goal.returns-in_err-take
returns-in_err-take g c =
    let memory = err_from_is_err_and c.from_residual.result c.from_residual.ensures.1 in
    let same = ap (λ (ws : List (Option Kept)). record c.args.self.now { watches = ws }) c.in_err-take.ensures.err in
    subst (λ (r : Result Reply AllocError). AnsweredApart g.C.Card.reads (command.Notes c.args.number) c.args.self.now (record c.args.self.now { watches = c.take.new.self }) r) (sym memory.1)
    (apart-memory (command.Notes c.args.number) memory.0 refl same)
