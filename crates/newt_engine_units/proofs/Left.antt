-- What a crash may leave of a unit, as before.
use Rattle.std.proofs.Common.{◌≡◌, ap, ◌∙◌, subst, ℕ}
use Rattle.newt_host.specs.Moments.{LeftBy, Moment, bytes_after, changes}
use Rattle.newt_engine_units.specs.Breaks.{IsLeftAs}

pub left-same : (u : ℕ) (a b : Moment) → changes u b ≡ changes u a → IsLeftAs u a b
left-same u a b same = record { image = ap bytes_after same; left = λ left may. subst (λ c. LeftBy c left) same may }

pub left-after : {u : ℕ} {a b c : Moment} → IsLeftAs u a b → IsLeftAs u b c → IsLeftAs u a c
left-after first second = record { image = second.image ∙ first.image; left = λ left may. first.left left (second.left left may) }
