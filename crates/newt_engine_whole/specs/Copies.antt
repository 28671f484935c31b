-- What the calls on working copies promise. All of it is this project's own.
use Rattle.std.specs.Prelude.{◌≡◌, ℕ, List, [], ◌∷◌, Option, Some, Result, Ok, Err, MatchOption}
use Rattle.std.specs.Prelude.{is_none, slice_set}
use Rattle.std.specs.List.{position}
use Rattle.newt_base.specs.Refusals.{first_of}
use Rattle.newt_base.specs.declared.Refusal.{Refusal}
use Rattle.newt_base.specs.declared.Refusal.TheVariants.{Limit}
use Rattle.newt_graph.specs.Graph.{RawGraph}
use Rattle.newt_notify.specs.declared.note.Kind.TheVariants.{Change}
use Rattle.newt_work.specs.Work.{Copy}
use Rattle.newt_spec_world.specs.Alias.{Spot}
use Rattle.newt_spec_world.specs.Reply.{Reply}
use Rattle.newt_spec_whole.specs.Events.{Event}
use Rattle.newt_spec_whole.specs.Refused.{entry_gone, no_copy}
use Rattle.newt_spec_whole.specs.Whole.{Whole, copy, living}
use Rattle.newt_engine_whole.specs.declared.saves.Place.{Place}

-- The entry of a copy is at this place.
pub record IsAt (h : Whole) (n : ℕ) (place : Place) : Type 0 where
  pub of : Copy
  pub there : copy h n ≡ Some of
  pub spot : Spot
  pub lives : living h of ≡ Some spot
  pub unit : place.unit ≡ spot.unit
  pub name : place.name ≡ spot.soup.name
  pub soup : place.soup ≡ spot.soup.sig
  pub uid : place.uid ≡ spot.entry.uid

-- it is found, or why there is none
abbrev pub FindsLiving : Whole → ℕ → Result Place Refusal → Type 0
FindsLiving h n (Ok place) = IsAt h n place
FindsLiving h n (Err refusal) = first_of (no_copy h n ∷ entry_gone h n ∷ []) ≡ Some refusal

-- The same, and the entry has this time and this graph.
pub record IsRead (h : Whole) (n : ℕ) (place : Place) (time : ℕ) (graph : RawGraph) : Type 0 where
  pub at : IsAt h n place
  pub timed : at.spot.entry.time ≡ time
  pub shows : at.spot.entry.graph ≡ graph

-- a copy is put at the least free place, whose number is replied; or all sixteen are there
abbrev pub PutsCopy : (old new : List (Option Copy)) → Copy → Reply → Type 0
PutsCopy old new k reply = MatchOption (position is_none old)
    ((reply ≡ Reply.refused Limit) × (new ≡ old))
    (λ n. (reply ≡ Reply.number n) × (new ≡ slice_set old n (Some k)))

-- the note that the entry at a place was changed
abbrev pub saved_event : Place → Event
saved_event place = (
  place.name,
  record { kind = Change; unit = place.unit; soup = place.soup; uid = place.uid },
)
