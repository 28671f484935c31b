use Rattle.std.proofs.Common.{IsTrue, ◌≡◌, ◌≤◌, ◌-◌, ◌++◌, List, ℕ, length}
use Rattle.newt_host.specs.Moments.{taken as taken_by}
use Rattle.newt_spec_whole.specs.Whole.{Whole}
use Rattle.newt_script_session.proofs.Counting.{Running}
use Rattle.newt_script_session.proofs.Going.{Going}
use Rattle.newt_script_session.proofs.pieces.answer_pieces.Given as goal

abbrev pub invariant-pieces : goal.invariant-pieces
invariant-pieces g l =
    let it = g.I.Interpreter in
    let before = g.H.Host.outside l.fn.host in
    let now = g.H.Host.outside l.host in
    record {
      stands : it.stands g.H.Host.told l.interpreter now;
      going : IsTrue g.H.Host.told → (world : Whole) → it.means l.fn.interpreter before world
          → (taken : List ℕ) × (length taken ≡ l.taken) × (taken_by now.now ≡ taken_by before.now ++ taken)
          × Going it.step it.store_of_image world before.input taken now.input (it.means l.interpreter now) l.line.items
          (λ texts. Unit {0}) (λ texts. Unit {0}) before.now now.now before.dev_faults now.dev_faults;
      within : l.taken ≤ l.limit;
      running : Running before now;
    }

abbrev pub decreases-pieces : goal.decreases-pieces
decreases-pieces g l = l.limit - l.taken
