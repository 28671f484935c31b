use Rattle.std.proofs.Common.{rules, ◌∙◌, refl, sym, ap, List, ℕ, take}
use Rattle.std.proofs.lemmas.Result.{err_from_is_err_and}
use Rattle.newt_graph.specs.declared.node.Node.TheVariants.{Symbol}
use Rattle.newt_graph.specs.Names.{number_of}
use Rattle.newt_graph.proofs.Known.{knows_kept, knows_next, knows_pass}
use Rattle.newt_graph.proofs.names.Names.note_all.Goals as goal
use Rattle.newt_graph.proofs.names.Names.note_all.Goals.{in-Symbol+in_ok-key+in_ok-note, in_default}

pub returns-in_err-key-clause-kept : goal.returns-in_err-key-clause-kept
returns-in_err-key-clause-kept c =
    let p = err_from_is_err_and c.from_residual.result c.from_residual.ensures.1 in
    rw p.1 (knows_kept c.loop-i.self.numbers c.loop-i.self.numbers c.args.old.now (take c.loop-i.i c.args.new.now) refl c.loop-i.invariant)

pub returns-in_err-note-clause-kept : goal.returns-in_err-note-clause-kept
returns-in_err-note-clause-kept c =
    let p = err_from_is_err_and c.from_residual-in_err-note.result c.from_residual-in_err-note.ensures.1 in
    rw p.1 (knows_kept c.loop-i.self.numbers c.note.new.self.numbers c.args.old.now (take c.loop-i.i c.args.new.now) c.in_err-note.ensures.kept c.loop-i.invariant)

pub loop-i-preserved : goal.loop-i-preserved
loop-i-preserved c = elim c.match-node.branch [
  | in-Symbol+in_ok-key+in_ok-note w ↦
      rw w.self-is (knows_next (number_of c.loop-i.self.numbers) (number_of w.note.new.self.numbers) c.args.old.now c.args.new.now c.loop-i.i _ c.index-new-i.result w.list.result.now c.loop-i-test.true (search rules)
      (sym c.index-new-i.is ∙ w.in-Symbol.is ∙ ap (λ (x : List ℕ). Symbol x) (sym w.list.ensures)) c.requires.once (w.in_ok-note.ensures.noted w.list.result.now w.in_ok-key.ensures) c.loop-i.invariant)
  | in_default w ↦
      rw w.self-is (knows_pass (number_of c.loop-i.self.numbers) c.args.old.now c.args.new.now c.loop-i.i c.index-new-i.result c.loop-i-test.true (λ name e. w.in_default.not-Symbol name (c.index-new-i.is ∙ e)) c.loop-i.invariant)
]
