-- What a crash leaves of a store on a card, and what else is told of one. All of it is this project's own.
pub use Rattle.newt_index_ranges.specs.Range.{mask_at}
use Rattle.std.specs.Prelude.{◌≡◌, ◌⊎◌, ℕ, List, length, map, Option, Some, None}
use Rattle.newt_base.specs.Refusals.{Checks, first_of}
use Rattle.newt_host.specs.Moments.{Moment, changes}
use Rattle.newt_spec_store.specs.Store.{Store}

-- an image is read as one store, or, where the tests are passed, as another
abbrev pub LeavesEither : (List ℕ → Option Store) → Checks → Store → Store → List ℕ → Type 0
LeavesEither reads tests before after left = (reads left ≡ Some before) ⊎ ((first_of tests ≡ None) × (reads left ≡ Some after))

-- no other unit is other than it was
abbrev pub OthersSame : ℕ → Moment → Moment → Type 0
OthersSame unit old new = (u : ℕ) → (u ≡ unit → ⊥) → changes u new ≡ changes u old

-- the lines of the soups of a store
abbrev pub soup_rows : Store → List (List ℕ × ℕ × ℕ)
soup_rows s = map (λ p. (p.name, p.sig, length p.entries)) s.soups
