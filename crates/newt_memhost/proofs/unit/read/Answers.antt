use Rattle.std.proofs.Common.{◌≡◌, inl, inr, Some, length, refl, sym, ◌∙◌}
use Rattle.newt_memhost.specs.Log.{now_of}
use Rattle.newt_memhost.proofs.Calls.{part-same}
use Rattle.newt_memhost.proofs.Keeping.{keeps-as, same-le}
use Rattle.newt_memhost.proofs.unit.read.Goals as goal

pub returns-then-is_err : goal.returns-then-is_err
returns-then-is_err c =
    let moment : now_of c.keep.new.log ≡ now_of c.args.log.now = elim c.keep.ensures.event [
      | inl is ↦ is
      | inr is ↦ is
    ] in
    record {
      bytes = tt;
      moment = moment;
      held = refl;
      kept = keeps-as c.args.waiting 0 (Some c.args.unit) c.args.fails c.keep.result _ _ _ (sym c.if-is_err.true ∙ c.is_err.ensures.value) c.keep.ensures.kept;
      card = record { attached = refl; name = refl; first = refl; faults = c.count.ensures.later; faults_are = c.count.ensures.one; programmed = same-le _; programmed_is = refl; fetched = same-le _; fetched_is = refl; erased = same-le _; erased_is = refl; synced = same-le _; synced_is = refl; broken_is = refl };
    }

pub invariant_of-card : goal.invariant_of-card
invariant_of-card c = record { size = c.args.card.now.size; whole = c.args.card.now.whole; few = c.args.card.now.few }

pub returns-clause-bytes : goal.returns-clause-bytes
returns-clause-bytes c = c.copy_from_slice.ensures.after ∙ part-same c.args.at (length c.args.buf.now) c.deref.result.now c.args.card.now.held.items c.deref.ensures.value

pub returns-clause-moment : goal.returns-clause-moment
returns-clause-moment c =
    elim c.keep.ensures.event [
      | inl is ↦ is
      | inr is ↦ is
    ]

pub returns-clause-held : goal.returns-clause-held
returns-clause-held c = refl

pub returns-clause-kept : goal.returns-clause-kept
returns-clause-kept c = keeps-as c.args.waiting 0 (Some c.args.unit) c.args.fails c.keep.result _ _ _ (sym c.if-is_err.false ∙ c.is_err.ensures.value) c.keep.ensures.kept
