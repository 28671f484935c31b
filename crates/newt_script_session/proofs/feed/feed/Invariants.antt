use Rattle.std.proofs.Common.{IsTrue, ◌≡◌, length}
use Rattle.newt_spec_whole.specs.Whole.{Whole}
use Rattle.newt_script_session.specs.Calls.{Quiet}
use Rattle.newt_script_session.specs.Lines.{ended_lines, unended}
use Rattle.newt_script_session.specs.Script.{commands_of, has_quit}
use Rattle.newt_script_session.proofs.Progress.{Progress}
use Rattle.newt_script_session.proofs.feed.feed.Given as goal

-- the lines before what is left were answered
abbrev pub invariant-loop-ended : goal.invariant-loop-ended
invariant-loop-ended g l =
    let it = g.I.Interpreter in
    let before = g.H.Host.outside l.fn.host in
    let now = g.H.Host.outside l.host in
    let rest = ended_lines l.line.items l.rest in
    let all = ended_lines l.fn.line.items l.fn.piece in
    record {
      stands : it.stands g.H.Host.told l.interpreter now;
      progress : IsTrue g.H.Host.told → (world : Whole) → it.means l.fn.interpreter before world
          → Progress it.step g.S.Sink.shows it.store_of_image world (commands_of all) (it.means l.interpreter now) (commands_of rest)
          (g.S.Sink.has l.fn.sink) (g.S.Sink.has l.sink) before.now now.now before.dev_faults now.dev_faults;
      flow : has_quit rest ≡ has_quit all;
      line : unended l.line.items l.rest ≡ unended l.fn.line.items l.fn.piece;
      quiet : Quiet g.H.Host.told before now;
    }

abbrev pub decreases-loop-ended : goal.decreases-loop-ended
decreases-loop-ended g l = length l.rest
