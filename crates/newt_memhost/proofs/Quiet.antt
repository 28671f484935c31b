-- What stays where no card changes.
use Rattle.std.proofs.Common.{◌≡◌, ℕ, List, refl, ap}
use Rattle.std.specs.Prelude.{slice_get}
use Rattle.newt_host.specs.Moments.{Moment}
use Rattle.newt_host.specs.Outside.{SameCounts, SameCards}
use Rattle.newt_memhost.specs.Cards.{name_of, faults_of, programmed_of, fetched_of, erased_of, synced_of, broken_of}
use Rattle.newt_memhost.specs.Log.{SamePast}
use Rattle.newt_memhost.specs.Room.{SetsUp}
use Rattle.newt_memhost.specs.declared.card.Card.{Card}
use Rattle.newt_memhost.specs.declared.card.Device.{Device}
use Rattle.newt_memhost.specs.declared.host.MemHost.{MemHost}
use Rattle.newt_memhost.proofs.Cards.{told-by}

-- no count of a unit moved
pub same-counts : (cards : List Card) (shelf rest : List Device) {old now : Moment} {input left : List ℕ} {i j o p : ℕ} → SameCounts (told-by cards old input shelf i o) (told-by cards now left rest j p)
same-counts cards shelf rest = record { dev_faults = λ u. refl; work = λ u. record { programmed = refl; fetched = refl; erased = refl; synced = refl; broken = refl } }

-- nor did a device
pub same-cards : (cards : List Card) (shelf : List Device) {old now : Moment} {input left : List ℕ} {i j o p : ℕ} → SameCards (told-by cards old input shelf i o) (told-by cards now left shelf j p)
same-cards cards shelf = record { devices = λ name. refl; card = λ u. refl; blocks = λ u. refl }

-- a call that sets the host up, and leaves its past
pub sets-up : (old new : MemHost) → SamePast old.log new.log → new.cards ≡ old.cards → new.in_faults ≡ old.in_faults → new.out_faults ≡ old.out_faults → SetsUp old new
sets-up old new past same in_same out_same = record {
  entries = past.entries;
  bytes = past.store;
  moment = past.moment;
  units = λ u. ap (λ (cs : List Card). name_of (slice_get cs u)) same;
  counts = record {
    dev_faults = λ u. ap (λ (cs : List Card). faults_of (slice_get cs u)) same;
    work = λ u. record {
      programmed = ap (λ (cs : List Card). programmed_of (slice_get cs u)) same;
      fetched = ap (λ (cs : List Card). fetched_of (slice_get cs u)) same;
      erased = ap (λ (cs : List Card). erased_of (slice_get cs u)) same;
      synced = ap (λ (cs : List Card). synced_of (slice_get cs u)) same;
      broken = ap (λ (cs : List Card). broken_of (slice_get cs u)) same;
    };
  };
  in_faults = in_same;
  out_faults = out_same;
}

pub same-past : (old : MemHost) → SamePast old.log old.log
same-past old = record { entries = refl; store = refl; calls = refl; moment = refl }
