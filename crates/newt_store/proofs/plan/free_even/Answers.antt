use Rattle.std.proofs.Common.{◌≡◌, ◌+◌, ◌*◌, ◌≤◌, ℕ, None, IsSome, IfSome, sym, arith, subst}
use Rattle.newt_objects.specs.Held.{held}
use Rattle.newt_store.proofs.plan.free_even.Goals as goal

pub returns-clause-least : goal.returns-clause-least
returns-clause-least c half low fits free =
    let same : 2 * half ≡ 2 * half + 0 = omega arith in
    subst (λ (most : ℕ). IsSome c.free_from.result × IfSome c.free_from.result (λ id. id ≤ most)) (sym same)
    (c.free_from.ensures.least half (omega (arith, low)) fits (subst (λ (id : ℕ). held c.args.objects.now id ≡ None) same free))
