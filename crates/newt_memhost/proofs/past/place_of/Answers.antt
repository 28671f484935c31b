use Rattle.std.proofs.Common.{◌≡◌, ℕ, ◌+◌, ◌<◌, ◌≤◌, List, ◌∷◌, Some, length, drop, refl, sym, ◌∙◌, ap, arith}
use Rattle.std.proofs.lemmas.Bool.Decides.{nat_tests}
use Rattle.std.proofs.lemmas.List.{at_drop_more}
use Rattle.std.proofs.lemmas.Option.{slice_get_read, slice_get_past}
use Rattle.std.proofs.Math.Seq.{drop-length}
use Rattle.newt_memhost.specs.Happened.{counts}
use Rattle.newt_memhost.specs.Past.{call_at}
use Rattle.newt_memhost.specs.declared.happened.Happened.{Happened}
use Rattle.newt_memhost.proofs.past.place_of.Goals as goal

call_here : (left : ℕ) (h : Happened) (rest : List Happened) → left < counts h → call_at left (h ∷ rest) ≡ Some h
call_here left h rest low = grind (arith, nat_tests)

pub returns-then-left-one-clause-there : goal.returns-then-left-one-clause-there
returns-then-left-one-clause-there c =
    let log = c.args.log.now in
    let place = c.loop-place.place in
    let here = c.index-log-place.result in
    slice_get_read log (length log) place here refl c.loop-place-test.true c.index-log-place.is
    ∙ sym (at_drop_more (call_at c.loop-place.left) log place here c.loop-place-test.true
    ∙ ap (λ (h : Happened). call_at c.loop-place.left (h ∷ drop (place + 1) log)) (sym c.index-log-place.is)
    ∙ call_here c.loop-place.left here (drop (place + 1) log) (omega (arith, c.if-left-one.true, c.counts-one.ensures)))
    ∙ c.loop-place.invariant.rest

pub returns-clause-there : goal.returns-clause-there
returns-clause-there c =
    let log = c.args.log.now in
    let end : length log ≤ length log = omega arith in
    slice_get_past log (length log) end
    ∙ ap (λ (l : List Happened). call_at c.loop-place.left l) (sym (drop-length log))
    ∙ ap (λ (k : ℕ). call_at c.loop-place.left (drop k log)) (omega (arith, c.loop-place-test.false, c.loop-place.auto.place-end)) ∙ c.loop-place.invariant.rest
