use Rattle.std.proofs.Common.{◌≡◌, ◌++◌, [], ◌∷◌, Bool, Err, refl, sym, ◌∙◌, ap, subst, arith}
use Rattle.std.proofs.lemmas.Grind.{common_steps}
use Rattle.std.proofs.lemmas.Result.{err_from_is_err_and}
use Rattle.newt_script_session.specs.Causes.{flow_of}
use Rattle.newt_script_session.specs.Lines.{ended_lines}
use Rattle.newt_script_session.specs.Script.{commands_of, has_quit}
use Rattle.newt_script_session.proofs.Counting.{answer_err, answer_memory, answer_ok, quiet-refl, quiet_then}
use Rattle.newt_script_session.proofs.Crashing.{at_rest}
use Rattle.newt_script_session.proofs.Cutting.{left_none}
use Rattle.newt_script_session.proofs.Feeding.{go_is, quit_is, line_then_none, line_then_some, line_then_more, no_command, quit_line, left_line, has_last, quit_no_more}
use Rattle.newt_script_session.proofs.Progress.{progress_start, progress_more, ran_all, ran_memory, ran_part}
use Rattle.newt_script_session.proofs.feed.feed.Goals as goal

pub loop-ended-init : goal.loop-ended-init
loop-ended-init g c =
    let it = g.I.Interpreter in
    let before = g.H.Host.outside c.args.host.now in
    record {
      stands = c.requires.stands;
      progress = λ told w means.
          let stands = subst (λ (t : Bool). it.stands t c.args.interpreter.now before) told c.requires.stands in
          let its = at_rest it.store_of_image w before.now (g.met.I.Interpreter.leaves c.args.interpreter.now before w stands means) in
          progress_start it.step g.S.Sink.shows it.store_of_image w _ (commands_of (ended_lines c.args.line.now.items c.args.piece.now)) _ before.now before.dev_faults means its;
      flow = refl;
      line = refl;
      quiet = quiet-refl _;
    }

-- ---- memory was refused

pub returns-then-is_err-clause-ran : goal.returns-then-is_err-clause-ran
returns-then-is_err-clause-ran g c = λ told w means. ran_memory g.I.Interpreter.step g.S.Sink.shows g.I.Interpreter.store_of_image _ _ _ _ _ _ _ _ _ _ (c.loop-ended.invariant.progress told w means) _ _

pub returns-then-is_err-clause-call : goal.returns-then-is_err-clause-call
returns-then-is_err-clause-call g c = answer_memory c.loop-ended.invariant.quiet

pub returns-then-is_err-2-clause-ran : goal.returns-then-is_err-2-clause-ran
returns-then-is_err-2-clause-ran g c = λ told w means. ran_memory g.I.Interpreter.step g.S.Sink.shows g.I.Interpreter.store_of_image _ _ _ _ _ _ _ _ _ _ (c.loop-ended.invariant.progress told w means) _ _

pub returns-then-is_err-2-clause-call : goal.returns-then-is_err-2-clause-call
returns-then-is_err-2-clause-call g c = answer_memory c.loop-ended.invariant.quiet

-- ---- a line was not answered

pub returns-in_err-turn-clause-ran : goal.returns-in_err-turn-clause-ran
returns-in_err-turn-clause-ran g c = λ told w means.
    let p = err_from_is_err_and c.from_residual.result c.from_residual.ensures.1 in
    let grown : c.deref.result.now ≡ c.loop-ended.line.items ++ c.in-Some.ended.now = grind (arith, common_steps) in
    let some = line_then_some c.loop-ended.line.items c.loop-ended.rest.now c.in-Some.ended.now c.in-Some.more.now c.deref.result.now c.in-Some.ensures grown in
    ran_part g.I.Interpreter.step g.S.Sink.shows g.I.Interpreter.store_of_image _ _ _ _ _ _ _ _ _ _ (c.loop-ended.invariant.progress told w means) (commands_of (c.deref.result.now ∷ [])) some.0 some.1
    _ c.in_err-turn.field-0.0 _ _ _ _ _ _ (p.1 ∙ ap Err p.2) (c.in_err-turn.ensures.ran told _ (c.loop-ended.invariant.progress told w means).answered.stands_for)

pub returns-in_err-turn-clause-call : goal.returns-in_err-turn-clause-call
returns-in_err-turn-clause-call g c =
    let p = err_from_is_err_and c.from_residual.result c.from_residual.ensures.1 in
    answer_err _ c.in_err-turn.field-0.0 (p.1 ∙ ap Err p.2) c.loop-ended.invariant.quiet c.in_err-turn.ensures.call

-- ---- a line quits

pub returns-in-Quit-clause-fed : goal.returns-in-Quit-clause-fed
returns-in-Quit-clause-fed g c =
    let grown : c.deref.result.now ≡ c.loop-ended.line.items ++ c.in-Some.ended.now = grind (arith, common_steps) in
    let stop = quit_is (has_quit (c.deref.result.now ∷ [])) (sym c.in-Quit.is ∙ c.in_ok-turn.ensures.flow) in
    record {
      quits = ap flow_of (sym (has_last c.loop-ended.line.items c.loop-ended.rest.now c.in-Some.ended.now c.in-Some.more.now c.deref.result.now c.in-Some.ensures grown stop) ∙ c.loop-ended.invariant.flow);
      line_is = λ go. absurd (cc);
    }

pub returns-in-Quit-clause-ran : goal.returns-in-Quit-clause-ran
returns-in-Quit-clause-ran g c = λ told w means.
    let it = g.I.Interpreter in
    let grown : c.deref.result.now ≡ c.loop-ended.line.items ++ c.in-Some.ended.now = grind (arith, common_steps) in
    let stop = quit_is (has_quit (c.deref.result.now ∷ [])) (sym c.in-Quit.is ∙ c.in_ok-turn.ensures.flow) in
    let last = line_then_none c.loop-ended.line.items c.loop-ended.rest.now c.in-Some.ended.now c.in-Some.more.now c.deref.result.now c.in-Some.ensures grown stop in
    ran_all it.step g.S.Sink.shows it.store_of_image _ _ _ [] _ _ _ _ _ _
    (progress_more it.step g.S.Sink.shows it.store_of_image _ _ _ _ _ _ _ _ _ _ (c.loop-ended.invariant.progress told w means) (commands_of (c.deref.result.now ∷ [])) [] last _ _ _ _ (c.in_ok-turn.ensures.ran told _ (c.loop-ended.invariant.progress told w means).answered.stands_for)) _ refl

pub returns-in-Quit-clause-call : goal.returns-in-Quit-clause-call
returns-in-Quit-clause-call g c = answer_ok (quiet_then c.loop-ended.invariant.quiet c.in_ok-turn.ensures.call)

-- ---- it does not

pub loop-ended-preserved : goal.loop-ended-preserved
loop-ended-preserved g c =
    let it = g.I.Interpreter in
    let grown : c.deref.result.now ≡ c.loop-ended.line.items ++ c.in-Some.ended.now = grind (arith, common_steps) in
    let go = go_is (has_quit (c.deref.result.now ∷ [])) (sym c.in-Go.is ∙ c.in_ok-turn.ensures.flow) in
    record {
      stands = c.in_ok-turn.ensures.stands;
      progress = λ told w means.
          progress_more it.step g.S.Sink.shows it.store_of_image _ _ _ _ _ _ _ _ _ _ (c.loop-ended.invariant.progress told w means) (commands_of (c.deref.result.now ∷ [])) _
          (line_then_more c.loop-ended.line.items c.loop-ended.rest.now c.in-Some.ended.now c.in-Some.more.now c.deref.result.now c.clear.new.self.items c.in-Some.ensures grown c.clear.ensures.items go)
          _ _ _ _ (c.in_ok-turn.ensures.ran told _ (c.loop-ended.invariant.progress told w means).answered.stands_for);
      flow = quit_line c.loop-ended.line.items c.loop-ended.rest.now c.in-Some.ended.now c.in-Some.more.now c.deref.result.now c.clear.new.self.items c.in-Some.ensures grown c.clear.ensures.items go
          ∙ c.loop-ended.invariant.flow;
      line = left_line c.loop-ended.line.items c.loop-ended.rest.now c.in-Some.ended.now c.in-Some.more.now c.clear.new.self.items c.in-Some.ensures c.clear.ensures.items ∙ c.loop-ended.invariant.line;
      quiet = quiet_then c.loop-ended.invariant.quiet c.in_ok-turn.ensures.call;
    }

-- ---- no line ends in what is left

pub returns-clause-fed : goal.returns-clause-fed
returns-clause-fed g c =
    let grown : c.extend_from_slice-2.new.self.items ≡ c.loop-ended.line.items ++ c.loop-ended.rest.now = grind (arith, common_steps) in
    record {
      quits = ap flow_of (sym (quit_no_more c.loop-ended.line.items c.loop-ended.rest.now c.in_default.ensures) ∙ c.loop-ended.invariant.flow);
      line_is = λ go. grown ∙ (sym (left_none c.loop-ended.line.items c.loop-ended.rest.now c.in_default.ensures) ∙ c.loop-ended.invariant.line);
    }

pub returns-clause-ran : goal.returns-clause-ran
returns-clause-ran g c = λ told w means.
    ran_all g.I.Interpreter.step g.S.Sink.shows g.I.Interpreter.store_of_image _ _ _ _ _ _ _ _ _ _ (c.loop-ended.invariant.progress told w means) _
    (no_command c.loop-ended.line.items c.loop-ended.rest.now c.in_default.ensures)

pub returns-clause-call : goal.returns-clause-call
returns-clause-call g c = answer_ok c.loop-ended.invariant.quiet
