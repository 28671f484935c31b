use Rattle.std.proofs.Common.{◌≡◌, ◌+◌, ◌*◌, ◌<◌, ℕ, false, None, is_some, sym, option_map, refl, ◌∙◌, ap, subst, arith, ⊎_elim}
use Rattle.std.proofs.lemmas.Bool.{false≢true}
use Rattle.std.proofs.Math.Nat.{eq-or-lt_of_le}
use Rattle.newt_objects.specs.Held.{held}
use Rattle.newt_store.proofs.plan.free_from.Goals as goal

pub loop-half-init : goal.loop-half-init
loop-half-init c k low below = absurd (omega (arith, low, below))

pub returns-then-is_none-clause-least : goal.returns-then-is_none-clause-least
returns-then-is_none-clause-least c k low fits free =
    let later : (k < c.loop-half.half → ⊥) = λ below. c.loop-half.invariant k low below free in
    (refl, omega (arith, later))

pub loop-half-preserved : goal.loop-half-preserved
loop-half-preserved c k low below free =
    let n = c.loop-half.half in
    ⊎_elim
    (λ (e : k ≡ n).
    let gone : held c.args.objects.now (2 * n + c.args.parity) ≡ None = subst (λ (k : ℕ). held c.args.objects.now (2 * k + c.args.parity) ≡ None) e free in
    let none : is_some c.length.result ≡ false = ap is_some (c.length.ensures ∙ ap (option_map (λ x. x.length)) gone) in
    absurd (false≢true (sym none ∙ c.if-is_none.ensures)))
    (λ (l : k < n). c.loop-half.invariant k low l free)
    (eq-or-lt_of_le (omega (arith, below)))

pub returns-clause-least : goal.returns-clause-least
returns-clause-least c k low fits free = absurd (c.loop-half.invariant k low (omega (arith, fits, c.loop-half-test.false)) free)
