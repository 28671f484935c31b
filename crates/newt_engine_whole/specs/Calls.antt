-- What the whole promises of a command. All of it is this project's own.
use Rattle.std.specs.Prelude.{◌≡◌, ◌≢◌, ℕ, ◌≤◌, Bool, true, false, IsTrue, List, Option, Result}
use Rattle.std.specs.Prelude.{IfOk, IsOk, OnErr, OnOk, drop}
use Rattle.std.specs.declared.alloc.AllocError.{AllocError}
use Rattle.newt_host.specs.Outside.{Outside, OnDevices}
use Rattle.newt_laws_steps.specs.Thrown.{FaultsTold, Threw}
use Rattle.newt_spec_store.specs.Store.{Store}
use Rattle.newt_spec_whole.specs.Whole as plain
use Rattle.newt_spec_whole.specs.Whole.{asked_in_turn}
use Rattle.newt_spec_whole.specs.Answer.{whole_answer}
use Rattle.newt_spec_whole.specs.Step.{WholeStep}
use Rattle.newt_spec_world.specs.declared.command.Command.{Command}
use Rattle.newt_reply.specs.Said.{said}
use Rattle.newt_reply.specs.declared.reply.Reply.{Reply}
use Rattle.newt_reply.specs.declared.reply.Reply.TheVariants as reply
use Rattle.newt_script_session.specs.Steps.{Stepped}
use Rattle.newt_laws_whole.specs.Runs.{DraftsFit}
use Rattle.newt_engine_card.specs.Bounds.{FetchesAtMost, FetchesWithin, FormatsOnce, IsOpenOrSame}
use Rattle.newt_engine_cursors.specs.Calls.{FetchesShown}
use Rattle.newt_engine_cursors.specs.Unread.{steps_unread, walks_unread}
use Rattle.newt_engine.specs.Bounds.{FormatsFresh, is_format, most_formatted, most_stepped}
use Rattle.newt_engine.specs.Calls.{IsNotThrown}
use Rattle.newt_engine.specs.Standing.{stood_for}
use Rattle.newt_engine_whole.specs.Bounds.{ProgramsInTurn, most_put, most_taken}
use Rattle.newt_engine_whole.specs.Bounds.{whole_means_entries}
use Rattle.newt_engine_whole.specs.Ends.{whole_takes_memory, whole_uses_device}
use Rattle.newt_engine_whole.specs.Kept.{KeepsWhole, is_refusal}
use Rattle.newt_engine_whole.specs.Standing.{AreKept, Means, Standing, known_whole}
use Rattle.newt_engine_whole.specs.declared.whole.Whole.{Whole}

-- what a command asks after the first, in the known whole
abbrev pub rest_asked : {C : Type 0} → (List ℕ → Option Store) → Whole C → Outside → Command
    → List Command
rest_asked reads old before command = drop 1 (asked_in_turn (known_whole reads old before) command)

module _ {C : Type 0} (reads : List ℕ → Option Store) where
  -- How a command ends that asks these commands of the world, one after another. What is attached,
  -- the input and the output are as they were. But for a format each unit that has room is
  -- programmed by no more than what is asked may; a format wears once, and leaves a fresh unit where
  -- it is done. Where what is asked is of entries, no more is fetched there than by it; one that
  -- opens, shows, moves or counts a cursor fetches no more than it does in the world: where the host
  -- tells no bytes, by the reply that is given, and of a cursor that is open. After a reply each bank
  -- is not closed or is as it was, but for a unit that was thrown out. No fault was counted but of a
  -- unit that the reply says was thrown out, and of that one a fault was, also where the devices do
  -- not tell their bytes. Want of memory hides none, and only what may take memory ends in it; and
  -- only what uses a device throws a unit out.
  pub record Ended (told : Bool) (command : Command) (asked : List Command) (old : Whole C)
      (before after : Outside) (result : Result Reply AllocError) : Type 0 where
    pub alone : OnDevices before after
    pub bound : IsTrue told → is_format command ≡ false →
        (u : ℕ) → ProgramsInTurn (stood_for reads old.world before) asked u before after
    pub format : IsTrue told → is_format command ≡ true →
        (u : ℕ) → FormatsOnce (most_formatted command) 10 u before after
    pub fresh : IsTrue told → FormatsFresh command result after
    pub fetched : IsTrue told → whole_means_entries command ≡ true →
        let w = stood_for reads old.world before in
        FetchesWithin (most_put w asked) (most_taken w asked) before after
    pub step : IsTrue told → let w = stood_for reads old.world before in
        steps_unread w command ≡ true → FetchesAtMost (most_stepped w command) before after
    pub shown : walks_unread old.world.desk command ≡ true
        → IfOk result (λ it. IsNotThrown it → FetchesShown (said it) before after)
    pub open_after : IsTrue told → IfOk result
        (λ it. (u : ℕ) → it ≢ reply.Thrown u → IsOpenOrSame u before.now after.now)
    pub threw : IfOk result (λ it. Threw (said it) before.dev_faults after.dev_faults)
    pub failed : IfOk result (λ it. FaultsTold (said it) before.dev_faults after.dev_faults)
    pub unhidden : OnErr result ((u : ℕ) → after.dev_faults u ≡ before.dev_faults u)
    pub later : (u : ℕ) → before.dev_faults u ≤ after.dev_faults u
    pub never_memory : whole_takes_memory command ≡ false → IsOk result
    pub never_thrown : whole_uses_device command ≡ false → IfOk result (λ it. IsNotThrown it)

  -- A command that asks nothing of the world, whatever the devices hold: it is answered as the
  -- whole answers it that is stood for, a refusal leaves watches and copies, and only what may take
  -- memory ends in want of it.
  pub record AnsweredApart (command : Command) (old new : Whole C)
      (result : Result Reply AllocError) : Type 0 where
    pub world : new.world ≡ old.world
    pub watches : AreKept old.watches → AreKept new.watches
    pub drafts : DraftsFit old.works → DraftsFit new.works
    pub answered : (outside : Outside) (h : plain.Whole) → Means reads old outside h → IfOk result
        (λ it. (next : plain.Whole) × (whole_answer h command ≡ (next, said it))
        × Means reads new outside next)
    pub quiet : IfOk result (λ it. IsNotThrown it)
    pub kept : IfOk result (λ it. is_refusal (said it) ≡ true
        → (new.watches ≡ old.watches) × (new.works ≡ old.works))
    pub memory : whole_takes_memory command ≡ false → IsOk result

module _ {C : Type 0} (reads : List ℕ → Option Store) (place : C → ℕ)
    (standing : Bool → C → Outside → Type 0) where
  -- What the whole promises of a command that asks these commands of the world. From each whole
  -- that it stood for it has made a step to one that it stands for, and at each moment a crash
  -- leaves each unit as in the one or in the other. Whatever the host tells, a refusal leaves what is
  -- known in memory: the units, the cursors, the watches and the working copies.
  pub record AppliedBy (asked : List Command) (told : Bool) (command : Command) (old new : Whole C)
      (before after : Outside) (result : Result Reply AllocError) : Type 0 where
    pub stands : OnOk result (Standing reads place standing told new after)
    pub stepped : IsTrue told → (h : plain.Whole) → Means reads old before h
        → Stepped WholeStep reads command result h (Means reads new after) before.now after.now
        before.dev_faults after.dev_faults
    pub ended : Ended reads told command asked old before after result
    pub kept : IfOk result (λ it. is_refusal (said it) ≡ true → KeepsWhole command old new)

  -- any command, by what it asks in the known whole
  abbrev pub Applied : Bool → Command → (old new : Whole C) → (before after : Outside)
      → Result Reply AllocError → Type 0
  Applied told command old new before after result =
      AppliedBy (asked_in_turn (known_whole reads old before) command)
      told command old new before after result

  -- the rest of a command, once the first that it asks was asked, and left the world
  abbrev pub AppliedRest : Bool → Command → (old new : Whole C) → (before after : Outside)
      → Result Reply AllocError → Type 0
  AppliedRest told command old new before after result =
      AppliedBy (rest_asked reads old before command) told command old new before after result
