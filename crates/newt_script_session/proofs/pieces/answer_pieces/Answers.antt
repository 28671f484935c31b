use Rattle.std.proofs.Common.{◌≡◌, ◌++◌, ◌≤◌, ◌<◌, ◌+◌, ℕ, Bool, Err, List, [], length, take, refl, sym, ◌∙◌, ap, subst, append_assoc, arith}
use Rattle.std.proofs.lemmas.List.{append-nil, length-append, length-take-le}
use Rattle.std.proofs.lemmas.Result.{err_from_is_err_and, on_ok_weaker}
use Rattle.newt_host.specs.Moments.{Moment, taken as taken_by}
use Rattle.newt_host.proofs.Moments.{Always-last}
use Rattle.newt_spec_whole.specs.Whole.{Whole}
use Rattle.newt_laws_steps.specs.Devices.{SameDevices}
use Rattle.newt_script_session.specs.Lines.{ended_lines, last_line}
use Rattle.newt_script_session.specs.Run.{IsReadThrough}
use Rattle.newt_script_session.specs.Script.{commands_of, has_quit}
use Rattle.newt_script_session.specs.declared.halt.Halt.TheVariants.{Source, TooLong}
use Rattle.newt_script_session.proofs.Counting.{run_answer, run_long, run_ok, run_unanswered, run_unread, running-refl, running_answer, running_read}
use Rattle.newt_script_session.proofs.Crashing.{at_rest}
use Rattle.newt_script_session.proofs.Feeding.{go_is, quit_is}
use Rattle.newt_script_session.proofs.Going.{Going, piece_then_some, piece_then_none, last_commands, going_start, going_moved, going_took, going_more, going_too_long, session_halted, session_last, session_part, session_whole, through_end, through_quit, answered_taken}
use Rattle.newt_script_session.proofs.Halting.{none_left}
use Rattle.newt_script_session.proofs.pieces.answer_pieces.Goals as goal

pub pieces-init : goal.pieces-init
pieces-init g c =
    let it = g.I.Interpreter in
    let before = g.H.Host.outside c.args.host.now in
    record {
      stands = c.requires.stands;
      going = λ told w means.
          let stands = subst (λ (t : Bool). it.stands t c.args.interpreter.now before) told c.requires.stands in
          let its = at_rest it.store_of_image w before.now (g.met.I.Interpreter.leaves c.args.interpreter.now before w stands means) in
          ([], refl, sym (append-nil _), going_start it.step it.store_of_image w _ before.input c.args.line.now.items (λ texts. Unit {0}) before.now before.dev_faults means its c.requires.empty);
      within = omega arith;
      running = running-refl _;
    }

pub feed-requires : goal.feed-requires
feed-requires g c = record { stands = g.met.I.Interpreter.kept g.H.Host.told c.pieces.interpreter (g.H.Host.outside c.pieces.host) (g.H.Host.outside c.read_piece.new.host) c.read_piece.ensures.call.devices c.pieces.invariant.stands }

pub finish-requires : goal.finish-requires
finish-requires g c = record { stands = g.met.I.Interpreter.kept g.H.Host.told c.pieces.interpreter (g.H.Host.outside c.pieces.host) (g.H.Host.outside c.read_piece.new.host) c.read_piece.ensures.call.devices c.pieces.invariant.stands }

-- ---- a read failed

pub returns-in_err-moved-clause-session : goal.returns-in_err-moved-clause-session
returns-in_err-moved-clause-session g c = λ told w means.
    let it = g.I.Interpreter in
    let mid = g.H.Host.outside c.read_piece.new.host in
    let p = err_from_is_err_and c.from_residual.result c.from_residual.ensures.1 in
    let v = c.pieces.invariant.going told w means in
    let devices = subst (λ (t : Bool). SameDevices t (g.H.Host.outside c.pieces.host) mid) told c.read_piece.ensures.call.devices in
    let counts = c.read_piece.ensures.call.devices.counts.dev_faults in
    let same = λ (u : Whole) (stood : it.means c.pieces.interpreter (g.H.Host.outside c.pieces.host) u).
    g.met.I.Interpreter.same_worlds c.pieces.interpreter (g.H.Host.outside c.pieces.host) mid u devices stood in
    let going = going_moved it.step it.store_of_image _ _ v.0 _ _ _ _ _ _ _ _ mid.now _ _ mid.dev_faults c.in_err-moved.ensures.failed.1 same counts v.3 in
    session_halted it.step it.store_of_image c.args.limit _ _ (g.H.Host.outside c.args.host.now) mid v.0 _ _ _ _ _ going Source (p.1 ∙ ap Err (p.2 ∙ c.in_err-moved.ensures.call.faults.cause.0))
    (answered_taken it.step it.store_of_image _ _ v.0 _ _ _ _ _ _ mid.now _ mid.dev_faults going mid.input c.in_err-moved.ensures.failed.0)

pub returns-in_err-moved-clause-call : goal.returns-in_err-moved-clause-call
returns-in_err-moved-clause-call g c =
    let p = err_from_is_err_and c.from_residual.result c.from_residual.ensures.1 in
    run_unread _ c.in_err-moved.field-0.0 (p.1 ∙ ap Err p.2) c.pieces.invariant.running c.in_err-moved.ensures.call

-- ---- more bytes come than are read

pub returns-then-taken-limit-clause-session : goal.returns-then-taken-limit-clause-session
returns-then-taken-limit-clause-session g c = λ told w means.
    let it = g.I.Interpreter in
    let mid = g.H.Host.outside c.read_piece.new.host in
    let v = c.pieces.invariant.going told w means in
    let devices = subst (λ (t : Bool). SameDevices t (g.H.Host.outside c.pieces.host) mid) told c.read_piece.ensures.call.devices in
    let counts = c.read_piece.ensures.call.devices.counts.dev_faults in
    let same = λ (u : Whole) (stood : it.means c.pieces.interpreter (g.H.Host.outside c.pieces.host) u).
    g.met.I.Interpreter.same_worlds c.pieces.interpreter (g.H.Host.outside c.pieces.host) mid u devices stood in
    let going = going_took it.step it.store_of_image _ _ v.0 _ _ _ _ _ _ _ _ _ mid.now _ _ mid.dev_faults (c.in_ok-moved.ensures.took told).moment same counts v.2 v.3 in
    let buffer = c.read_piece.new.buffer in
    let within : c.in_ok-moved.moved ≤ c.min-most.result = c.in_ok-moved.ensures.within in
    let fits : c.in_ok-moved.moved ≤ length buffer = omega arith in
    let size = length-take-le c.in_ok-moved.moved buffer fits in
    let some : 0 < length (take c.in_ok-moved.moved buffer) = omega arith in
    let taken = v.1 in
    let full : length v.0 ≡ c.args.limit = omega arith in
    session_halted it.step it.store_of_image c.args.limit _ _ (g.H.Host.outside c.args.host.now) mid v.0 _ _ _ _ _ going TooLong refl
    (going_too_long it.step it.store_of_image _ _ v.0 _ _ _ _ _ _ mid.now _ mid.dev_faults going (take c.in_ok-moved.moved buffer) _ c.args.limit full ((c.in_ok-moved.ensures.took told).input) some)

pub returns-then-taken-limit-clause-call : goal.returns-then-taken-limit-clause-call
returns-then-taken-limit-clause-call g c = run_long (running_read c.pieces.invariant.running c.in_ok-moved.ensures.call)

-- ---- a piece was not answered

pub returns-in_err-feed-clause-session : goal.returns-in_err-feed-clause-session
returns-in_err-feed-clause-session g c = λ told w means.
    let it = g.I.Interpreter in
    let mid = g.H.Host.outside c.read_piece.new.host in
    let new = g.H.Host.outside c.feed.new.host in
    let p = err_from_is_err_and c.from_residual-in_err-feed.result c.from_residual-in_err-feed.ensures.1 in
    let v = c.pieces.invariant.going told w means in
    let devices = subst (λ (t : Bool). SameDevices t (g.H.Host.outside c.pieces.host) mid) told c.read_piece.ensures.call.devices in
    let counts = c.read_piece.ensures.call.devices.counts.dev_faults in
    let same = λ (u : Whole) (stood : it.means c.pieces.interpreter (g.H.Host.outside c.pieces.host) u).
    g.met.I.Interpreter.same_worlds c.pieces.interpreter (g.H.Host.outside c.pieces.host) mid u devices stood in
    let going = going_took it.step it.store_of_image _ _ v.0 _ _ _ _ _ _ _ _ _ mid.now _ _ mid.dev_faults (c.in_ok-moved.ensures.took told).moment same counts v.2 v.3 in
    let piece = take c.in_ok-moved.moved c.read_piece.new.buffer in
    let some = piece_then_some c.pieces.line.items (g.H.Host.outside c.pieces.host).input piece mid.input ((c.in_ok-moved.ensures.took told).input) in
    session_part it.step it.store_of_image c.args.limit _ (g.H.Host.outside c.args.host.now) new v.0 _ _ _ _ _ mid.now mid.dev_faults going (commands_of (ended_lines c.pieces.line.items piece)) some.0 some.1
    (it.means c.feed.new.interpreter new) (λ texts. Unit {0}) (c.in_err-feed.ensures.call.unread.moments told) _ c.in_err-feed.field-0.0 (p.1 ∙ ap Err p.2) (c.in_err-feed.ensures.ran told _ going.answered.stands_for)

pub returns-in_err-feed-clause-call : goal.returns-in_err-feed-clause-call
returns-in_err-feed-clause-call g c =
    let p = err_from_is_err_and c.from_residual-in_err-feed.result c.from_residual-in_err-feed.ensures.1 in
    run_unanswered _ c.in_err-feed.field-0.0 (p.1 ∙ ap Err p.2) (running_read c.pieces.invariant.running c.in_ok-moved.ensures.call) c.in_err-feed.ensures.call

-- ---- a line quits

pub returns-in-Quit-clause-session : goal.returns-in-Quit-clause-session
returns-in-Quit-clause-session g c = λ told w means.
    let it = g.I.Interpreter in
    let mid = g.H.Host.outside c.read_piece.new.host in
    let new = g.H.Host.outside c.feed.new.host in
    let v = c.pieces.invariant.going told w means in
    let devices = subst (λ (t : Bool). SameDevices t (g.H.Host.outside c.pieces.host) mid) told c.read_piece.ensures.call.devices in
    let counts = c.read_piece.ensures.call.devices.counts.dev_faults in
    let same = λ (u : Whole) (stood : it.means c.pieces.interpreter (g.H.Host.outside c.pieces.host) u).
    g.met.I.Interpreter.same_worlds c.pieces.interpreter (g.H.Host.outside c.pieces.host) mid u devices stood in
    let going = going_took it.step it.store_of_image _ _ v.0 _ _ _ _ _ _ _ _ _ mid.now _ _ mid.dev_faults (c.in_ok-moved.ensures.took told).moment same counts v.2 v.3 in
    let buffer = c.read_piece.new.buffer in
    let piece = take c.in_ok-moved.moved buffer in
    let stop = quit_is (has_quit (ended_lines c.pieces.line.items piece)) (sym c.in-Quit.is ∙ c.in_ok-feed.ensures.fed.quits) in
    let within : c.in_ok-moved.moved ≤ c.min-most.result = c.in_ok-moved.ensures.within in
    let fits : c.in_ok-moved.moved ≤ length buffer = omega arith in
    let size = length-take-le c.in_ok-moved.moved buffer fits in
    let taken = v.1 in
    let P : List ℕ → Type 0 = λ left. IsReadThrough c.args.limit (g.H.Host.outside c.args.host.now).input left in
    let last = piece_then_none c.pieces.line.items (g.H.Host.outside c.pieces.host).input piece mid.input ((c.in_ok-moved.ensures.took told).input) stop in
    session_whole it.step it.store_of_image c.args.limit _ (g.H.Host.outside c.args.host.now) new v.0 _ _ _ _ _ mid.now mid.dev_faults going (commands_of (ended_lines c.pieces.line.items piece)) [] last
    (it.means c.feed.new.interpreter new) (λ texts. Unit {0}) (c.in_ok-feed.ensures.call.unread.moments told) refl (c.in_ok-feed.ensures.ran told _ going.answered.stands_for)
    (subst P (sym c.feed.ensures.call.unread.input)
    (through_quit it.step it.store_of_image _ _ v.0 _ _ _ _ _ _ mid.now _ mid.dev_faults going piece mid.input c.args.limit ((c.in_ok-moved.ensures.took told).input) stop (omega arith)))

pub returns-in-Quit-clause-call : goal.returns-in-Quit-clause-call
returns-in-Quit-clause-call g c = run_ok (running_answer (running_read c.pieces.invariant.running c.in_ok-moved.ensures.call) c.in_ok-feed.ensures.call)

-- ---- it does not

pub pieces-preserved : goal.pieces-preserved
pieces-preserved g c =
    let it = g.I.Interpreter in
    let before = g.H.Host.outside c.args.host.now in
    let mid = g.H.Host.outside c.read_piece.new.host in
    let new = g.H.Host.outside c.feed.new.host in
    let buffer = c.read_piece.new.buffer in
    let piece = take c.in_ok-moved.moved buffer in
    let go = go_is (has_quit (ended_lines c.pieces.line.items piece)) (sym c.in-Go.is ∙ c.in_ok-feed.ensures.fed.quits) in
    let within : c.in_ok-moved.moved ≤ c.min-most.result = c.in_ok-moved.ensures.within in
    let fits : c.in_ok-moved.moved ≤ length buffer = omega arith in
    let size = length-take-le c.in_ok-moved.moved buffer fits in
    record {
      stands = c.in_ok-feed.ensures.stands;
      going = λ told w means.
          let v = c.pieces.invariant.going told w means in
          let devices = subst (λ (t : Bool). SameDevices t (g.H.Host.outside c.pieces.host) mid) told c.read_piece.ensures.call.devices in
          let counts = c.read_piece.ensures.call.devices.counts.dev_faults in
          let same = λ (u : Whole) (stood : it.means c.pieces.interpreter (g.H.Host.outside c.pieces.host) u).
          g.met.I.Interpreter.same_worlds c.pieces.interpreter (g.H.Host.outside c.pieces.host) mid u devices stood in
          let going = going_took it.step it.store_of_image _ _ v.0 _ _ _ _ _ _ _ _ _ mid.now _ _ mid.dev_faults (c.in_ok-moved.ensures.took told).moment same counts v.2 v.3 in
          let unread = c.in_ok-feed.ensures.call.unread.moments told in
          let grown : taken_by new.now ≡ taken_by before.now ++ (v.0 ++ piece) =
          Always-last unread ∙ (ap (λ (m : Moment). taken_by m) (c.in_ok-moved.ensures.took told).moment
          ∙ (ap (λ t. t ++ piece) v.2 ∙ append_assoc (taken_by before.now) v.0 piece)) in
          let P : List ℕ → Type 0 = λ left. Going it.step it.store_of_image w before.input (v.0 ++ piece) left (it.means c.feed.new.interpreter new) c.feed.new.line.items
          (λ texts. Unit {0}) (λ texts. Unit {0}) before.now new.now before.dev_faults new.dev_faults in (
            v.0 ++ piece,
            (length-append v.0 piece ∙ (ap (λ n. n + length piece) v.1 ∙ ap (λ n. c.pieces.taken + n) size)),
            grown,
            subst P (sym c.feed.ensures.call.unread.input)
                (going_more it.step it.store_of_image _ _ v.0 _ _ _ _ _ _ mid.now _ mid.dev_faults going piece mid.input _ _ _ _ new.dev_faults unread ((c.in_ok-moved.ensures.took told).input) go (c.in_ok-feed.ensures.fed.line_is c.in-Go.is) (c.in_ok-feed.ensures.ran told _ going.answered.stands_for)),
          );
      within = omega arith;
      running = running_answer (running_read c.pieces.invariant.running c.in_ok-moved.ensures.call) c.in_ok-feed.ensures.call;
    }

-- ---- the end of the input

pub returns-clause-session : goal.returns-clause-session
returns-clause-session g c = λ told w means.
    let it = g.I.Interpreter in
    let mid = g.H.Host.outside c.read_piece.new.host in
    let new = g.H.Host.outside c.finish.new.host in
    let v = c.pieces.invariant.going told w means in
    let devices = subst (λ (t : Bool). SameDevices t (g.H.Host.outside c.pieces.host) mid) told c.read_piece.ensures.call.devices in
    let counts = c.read_piece.ensures.call.devices.counts.dev_faults in
    let same = λ (u : Whole) (stood : it.means c.pieces.interpreter (g.H.Host.outside c.pieces.host) u).
    g.met.I.Interpreter.same_worlds c.pieces.interpreter (g.H.Host.outside c.pieces.host) mid u devices stood in
    let going = going_took it.step it.store_of_image _ _ v.0 _ _ _ _ _ _ _ _ _ mid.now _ _ mid.dev_faults (c.in_ok-moved.ensures.took told).moment same counts v.2 v.3 in
    let end : (g.H.Host.outside c.pieces.host).input ≡ [] = c.in_ok-moved.ensures.end told (omega arith) (omega arith) in
    let none = none_left c.in_ok-moved.moved c.read_piece.new.buffer _ _ (omega arith) ((c.in_ok-moved.ensures.took told).input) end in
    let ran = c.finish.ensures.ran told _ going.answered.stands_for in
    session_last it.step it.store_of_image c.args.limit _ (g.H.Host.outside c.args.host.now) new v.0 _ _ _ _ _ mid.now mid.dev_faults going (commands_of (last_line c.deref.result.now)) []
    (last_commands c.pieces.line.items (g.H.Host.outside c.pieces.host).input c.deref.result.now end c.deref.ensures.value)
    (it.means c.finish.new.interpreter new) (λ texts. Unit {0}) (c.finish.ensures.call.unread.moments told) c.finish.result refl ran
    (on_ok_weaker c.finish.result (λ d. through_end it.step it.store_of_image _ _ v.0 _ _ _ _ _ _ mid.now _ mid.dev_faults going new.input c.args.limit (omega arith) end (c.finish.ensures.call.unread.input ∙ none)) ran.done)

pub returns-clause-call : goal.returns-clause-call
returns-clause-call g c = run_answer c.finish.result (running_read c.pieces.invariant.running c.in_ok-moved.ensures.call) c.finish.ensures.call
