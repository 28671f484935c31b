use Rattle.std.proofs.Common.{◌≡◌, ℕ, ◌≤◌, Option, Some, None, IsSome, length, refl}
use Rattle.newt_host.specs.Moments.{attached_at}
use Rattle.newt_host.proofs.Histories.{attached-early, history-attached, history-leaves, untouched-attached}
use Rattle.newt_host.proofs.laws.image_may_be_left.Goals as goal

some_early : (o : Option ℕ) (most : ℕ) → IsSome o → ((t : ℕ) → o ≡ Some t → t ≤ most) → (t : ℕ) × (o ≡ Some t) × (t ≤ most)
some_early None most some early = absurd (let no = some in cc)
some_early (Some t) most some early = (t, refl, early t refl)

pub returns-clause-leaves : goal.returns-clause-leaves
returns-clause-leaves g c told some = history-leaves _ _ (g.met.H.Host.history c.args.host.now c.args.unit told some)

pub returns-clause-since : goal.returns-clause-since
returns-clause-since g c told some =
    let now = (g.H.Host.outside c.args.host.now).now in
    some_early (attached_at c.args.unit now) (length now) (history-attached _ c.args.unit now (g.met.H.Host.history c.args.host.now c.args.unit told some)) (λ t is. attached-early c.args.unit t now is)

pub returns-clause-never : goal.returns-clause-never
returns-clause-never g c told none = untouched-attached c.args.unit (g.H.Host.outside c.args.host.now).now (g.met.H.Host.untouched c.args.host.now c.args.unit told none)
