use Rattle.std.proofs.Common.{◌≡◌, [], drop, arith}
use Rattle.std.proofs.lemmas.Grind.{common_steps}
use Rattle.std.proofs.lemmas.Result.{err_from_is_err_and}
use Rattle.newt_script_session.proofs.Counting.{still-refl, still_then, write_failed, write_ok}
use Rattle.newt_script_session.proofs.Writing.{printing_start, printing_some, printing_more, puts_err, puts_ok}
use Rattle.newt_script_session.proofs.write.write_all.Goals as goal

pub loop-rest-init : goal.loop-rest-init
loop-rest-init g c = record { printing = λ told. printing_start _ _; still = still-refl _ _ }

pub returns-in_err-moved-clause-puts : goal.returns-in_err-moved-clause-puts
returns-in_err-moved-clause-puts g c = λ told.
    let p = err_from_is_err_and c.from_residual.result c.from_residual.ensures.1 in
    puts_err _ p.0 _ _ _ p.1 (printing_some _ _ _ _ _ (c.loop-rest.invariant.printing told) (c.write_part.ensures.prints told))

pub returns-in_err-moved-clause-call : goal.returns-in_err-moved-clause-call
returns-in_err-moved-clause-call g c =
    let p = err_from_is_err_and c.from_residual.result c.from_residual.ensures.1 in
    write_failed _ _ p.0 p.1 c.loop-rest.invariant.still c.in_err-moved.ensures.call

pub loop-rest-preserved : goal.loop-rest-preserved
loop-rest-preserved g c =
    let rest_is : c.split_at.result.1.now ≡ drop c.in_ok-moved.moved c.loop-rest.rest.now = grind (arith, common_steps) in
    record {
      printing = λ told. printing_more c.in_ok-moved.moved _ _ _ _ _ _ rest_is (c.loop-rest.invariant.printing told) (c.in_ok-moved.ensures.grown told);
      still = still_then c.loop-rest.invariant.still c.in_ok-moved.ensures.call;
    }

pub returns-clause-puts : goal.returns-clause-puts
returns-clause-puts g c = λ told.
    let none : c.loop-rest.rest.now ≡ [] = grind (arith, common_steps) in
    puts_ok _ _ _ _ _ (c.loop-rest.invariant.printing told) none

pub returns-clause-call : goal.returns-clause-call
returns-clause-call g c = write_ok c.loop-rest.invariant.still
