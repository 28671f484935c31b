-- What the calls on cursors promise. All of it is this project's own.
use Rattle.std.specs.Prelude.{◌≡◌, ◌*◌, ℕ, Bool, true, IsTrue, List, Option, Result, Ok, Err, IfErr, OnOk}
use Rattle.newt_host.specs.Outside.{Outside, NoFault}
use Rattle.newt_pagebook.specs.Stops.{HasStopCause}
use Rattle.newt_pagebook.specs.declared.book.Stop.{Stop}
use Rattle.newt_spec_query.specs.Cursor.{Cursor}
use Rattle.newt_spec_store.specs.Store.{Store}
use Rattle.newt_spec_world.specs.Answer.{answer}
use Rattle.newt_spec_world.specs.Reply.{Reply}
use Rattle.newt_spec_world.specs.World.{World}
use Rattle.newt_spec_world.specs.declared.command.Command.{Command}
use Rattle.newt_laws_world.specs.Settled.{IsSettled, MountedApart}
use Rattle.newt_laws_answers.specs.Fetched.{pages_shown}
use Rattle.newt_store_change.specs.Faults.{GoesOn, HasFaultCause, IsRefused}
use Rattle.newt_store_change.specs.declared.fault.StoreFault.{StoreFault}
use Rattle.newt_store_change.specs.declared.fault.StoreFault.TheVariants.{Refused, Stop as Ends}
use Rattle.newt_engine_card.specs.Bounds.{FetchesAtMost}
use Rattle.newt_engine_units.specs.Answers.{Answers}
use Rattle.newt_engine_units.specs.Breaks.{AtDevice, AtStop, FailsAlone}
use Rattle.newt_engine_units.specs.Calls.{AreRead}
use Rattle.newt_engine_units.specs.declared.units.Units.{Units}
use Rattle.newt_engine_cursors.specs.Fits.{DeskFits}
use Rattle.newt_engine_cursors.specs.Replies.{shown_at, shown_reply}
use Rattle.newt_engine_cursors.specs.Unread.{steps_unread, walks_unread}
use Rattle.newt_engine_cursors.specs.World.{world_with}
use Rattle.newt_engine_cursors.specs.declared.show.Shown.{Shown}

-- A world is this one, and what a cursor shows there is shown.
pub record Shows (w v : World) (n : ℕ) (answer : Shown) : Type 0 where
  pub world : v ≡ w
  pub shown : shown_reply answer ≡ shown_at w n

-- 512 bytes at most were fetched for each page of the entry that a reply shows, and nothing where
-- it shows none
abbrev pub FetchesShown : Reply → Outside → Outside → Type 0
FetchesShown reply before after = FetchesAtMost (λ u. 512 * pages_shown reply u) before after

-- the same by what is answered; where the run ends nothing is said
abbrev pub FetchesAnswered : {T : Type 0} → (T → Reply) → Result T StoreFault
    → Outside → Outside → Type 0
FetchesAnswered reply (Ok it) before after = FetchesShown (reply it) before after
FetchesAnswered reply (Err (Refused refusal)) before after =
    FetchesShown (Reply.refused refusal) before after
FetchesAnswered reply (Err (Ends stop)) before after = Unit {0}

module _ {C : Type 0} (reads : List ℕ → Option Store) (place : C → ℕ) (standing : Bool → C → Outside → Type 0) where
  -- A call that settles the cursors `was`, which are then `is`. The units are read alone and the places fit; the world with its cursors has become what is
  -- said of it; an end of the run has its cause; a device that fails is the only one, and leaves the cursors as they were; and where there is an answer, no
  -- fault was counted.
  pub record Settles {T : Type 0} (told : Bool) (becomes : World → World → Type 0) (old new : Units C) (was is : List (Option Cursor)) (before after : Outside)
      (result : Result T Stop) : Type 0 where
    pub read : AreRead reads place standing told old new before after
    pub desk : DeskFits is
    pub settled : IsTrue told → let w = world_with reads old was before in MountedApart w → becomes w (world_with reads new is after)
    pub cause : IfErr result (λ stop. HasStopCause stop before after)
    pub failed : IfErr result (AtStop (FailsAlone before after))
    pub kept : IfErr result (AtStop (λ u. is ≡ was))
    pub no_fault : OnOk result (NoFault before after)

  -- A call that turns the world with its cursors into another. The units are read alone and the places fit; an end of the run has its cause; a device that
  -- fails is the only one, and leaves the cursors as they were, as a refusal does; and where the run goes on, no fault was counted.
  pub record Turns {T : Type 0} (told : Bool) (becomes : World → World → Type 0) (old new : Units C) (was is : List (Option Cursor)) (before after : Outside)
      (result : Result T StoreFault) : Type 0 where
    pub read : AreRead reads place standing told old new before after
    pub desk : DeskFits is
    pub turned : IsTrue told → let w = world_with reads old was before in MountedApart w → becomes w (world_with reads new is after)
    pub cause : IfErr result (λ fault. HasFaultCause fault before after)
    pub failed : IfErr result (AtDevice (FailsAlone before after))
    pub kept : IfErr result (AtDevice (λ u. is ≡ was))
    pub refused : IsRefused result → is ≡ was
    pub no_fault : GoesOn result → NoFault before after

  -- A command of cursors, in a world whose cursors are settled. It is answered as that world answers it, and the units are read alone; one that opens, shows,
  -- moves or counts a cursor whose query asks for no words or texts
  -- fetches the entry that is shown and nothing else, whatever its result is, and where the host
  -- tells no bytes, by what it answers; a device that fails is the only one, and leaves the cursors
  -- as they were, as a refusal does.
  pub record Walks {T : Type 0} (told : Bool) (command : Command) (reply : T → Reply) (old new : Units C) (was is : List (Option Cursor)) (before after : Outside)
      (result : Result T StoreFault) : Type 0 where
    pub read : AreRead reads place standing told old new before after
    pub desk : DeskFits is
    pub answered : IsTrue told → let w = world_with reads old was before in MountedApart w → IsSettled w → Answers w (world_with reads new is after) command reply result
    pub fetches : IsTrue told → let w = world_with reads old was before in MountedApart w → IsSettled w → steps_unread w command ≡ true
        → FetchesAtMost (λ u. 512 * pages_shown (answer w command).1 u) before after
    pub shown : walks_unread was command ≡ true → FetchesAnswered reply result before after
    pub cause : IfErr result (λ fault. HasFaultCause fault before after)
    pub failed : IfErr result (AtDevice (FailsAlone before after))
    pub kept : IfErr result (AtDevice (λ u. is ≡ was))
    pub refused : IsRefused result → is ≡ was
    pub no_fault : GoesOn result → NoFault before after
