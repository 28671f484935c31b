-- What the units stand for has one proof at most.
use Rattle.std.specs.Prelude.{ℕ, Bool, true, false, List, [], ◌∷◌, length, Option, Some, None, slice_get}
use Rattle.std.specs.Coded.{Coded-set, coded_list, coded_ℕ, ×_prop, Π_prop, le_prop}
use Rattle.std.proofs.Common.{ap}
use Rattle.std.proofs.Math.Nat.{ℕ_set}
use Rattle.newt_host.specs.Moments.{Change, Attached, Wrote, Synced, Moment, bytes_after, changes, IsHistory}
use Rattle.newt_memhost.specs.Cards.{IsTold, Stands, StandsAs}
use Rattle.newt_memhost.specs.declared.card.Card.{Card}

IsHistory-prop : (size : ℕ) (done : List Change) → IsProp (IsHistory size done)
IsHistory-prop size [] = λ a b. absurd a
IsHistory-prop size (Attached bytes ∷ before) = ×_prop (ℕ_set (length bytes) size) (ℕ_set (length before) 0)
IsHistory-prop size (Wrote at now ∷ before) = ×_prop (IsHistory-prop size before) le_prop
IsHistory-prop size (Synced ∷ before) = IsHistory-prop size before

StandsAs-prop : (b : Bool) (c : Card) (done : List Change) → IsProp (StandsAs b c done)
StandsAs-prop true c done = ×_prop (Coded-set (coded_list coded_ℕ) (bytes_after done) c.held.items) (IsHistory-prop (length c.first.items) done)
StandsAs-prop false c done = ×_prop (ℕ_set (length done) 0) (ℕ_set (length c.first.items) 0)

Stands-prop : (o : Option Card) (done : List Change) → IsProp (Stands o done)
Stands-prop None done = ℕ_set (length done) 0
Stands-prop (Some c) done = StandsAs-prop c.attached c done

pub IsTold-prop : (cards : List Card) (now : Moment) → IsProp (IsTold cards now)
IsTold-prop cards now a b =
    let one : IsProp ((u : ℕ) → Stands (slice_get cards u) (changes u now)) = Π_prop (λ (u : ℕ). Stands-prop (slice_get cards u) (changes u now)) in
    ap (λ (e : (u : ℕ) → Stands (slice_get cards u) (changes u now)). record { each = e }) (one a.each b.each)
