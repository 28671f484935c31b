-- What is made of an input and a unit where a store is restored, and what is written of it. All of
-- it is this project's own.
use Rattle.std.specs.Prelude.{◌≡◌, ℕ, ◌+◌, ◌≤◌, ◌||◌, Bool, IsTrue, not, nat_lt, List, [], ◌∷◌, Option, Some, None, is_some, Result, Ok, Err, OnOk, IsErr, IsErrOf}
use Rattle.newt_base.specs.Refusals.{first_of}
use Rattle.newt_base.specs.declared.Refusal.{Refusal}
use Rattle.newt_base.specs.declared.Refusal.TheVariants as refusals
use Rattle.newt_graph.specs.Graph.{RawGraph}
use Rattle.newt_host.specs.Moments.{Anything, IsDurable, Leaves, image}
use Rattle.newt_host.specs.Outside.{Outside, OnlyReads, Spends, Touches, Wears}
use Rattle.newt_nsof_read.specs.Reading.{decoded}
use Rattle.newt_nsof_read.specs.declared.fault.NsofFault.{NsofFault}
use Rattle.newt_nsof_read.specs.declared.fault.NsofFault.TheVariants as nsof_faults
use Rattle.newt_pagebook.specs.Book.{format_bytes}
use Rattle.newt_pagebook.specs.declared.book.Stop.{Stop}
use Rattle.newt_pagebook.specs.declared.book.Stop.TheVariants.{Memory}
use Rattle.newt_spec_image.specs.Records.{bank_blocks}
use Rattle.newt_spec_store.specs.Cost.{cost}
use Rattle.newt_spec_store.specs.OfImage.{blocks_of}
use Rattle.newt_spec_store.specs.Store.{Store}
use Rattle.newt_spec_store.specs.Valid.{fits}
use Rattle.newt_spec_world.specs.Reply as replies
use Rattle.newt_backup.specs.Backup.{IsKept, Unbacked, backup}
use Rattle.newt_store_catalog.specs.Readable.{readable}
use Rattle.newt_store_catalog.specs.Reading.{ReadEnds}
use Rattle.newt_host.specs.Meanings.{device_on}

-- the store that a stream is the backup of, or why it is none
abbrev pub IsAsked : Result RawGraph NsofFault → Result Store Refusal → Type 0
IsAsked (Ok g) (Ok s) = IsKept s × (backup s ≡ g)
IsAsked (Ok g) (Err refusal) = Unbacked g × (refusal ≡ refusals.Backup)
IsAsked (Err nsof_faults.Malformed) asked = asked ≡ Err refusals.Malformed
IsAsked (Err nsof_faults.Compressed) asked = asked ≡ Err refusals.Compressed
IsAsked (Err nsof_faults.Memory) asked = ⊥

-- why this store is not restored to a device of this image, or to none, if it is not
abbrev pub refused_on : Store → Option (List ℕ) → Option Refusal
refused_on s None = Some refusals.Unit
refused_on s (Some image) = first_of (
    (refusals.Blocks, nat_lt (blocks_of image) 13 || nat_lt 4099 (blocks_of image))
    ∷ (refusals.Store, is_some (readable image))
    ∷ (refusals.Full, not (fits (blocks_of image) s))
    ∷ [])

-- a store, where it is not refused
abbrev pub unless_refused : Store → Option Refusal → Result Store Refusal
unless_refused s None = Ok s
unless_refused s (Some refusal) = Err refusal

-- the store that a device gets, or why it gets none
abbrev pub restored : Result Store Refusal → Option (List ℕ) → Result Store Refusal
restored (Err refusal) device = Err refusal
restored (Ok s) device = unless_refused s (refused_on s device)

-- the store that a device of this image, or none, gets of an input, or why it gets none
pub record IsRestored (input : List ℕ) (device : Option (List ℕ))
    (outcome : Result Store Refusal) : Type 0 where
  pub asked : Result Store Refusal
  pub is_asked : IsAsked (decoded input) asked
  pub is : outcome ≡ restored asked device

-- what is written then: the signature and the name of the store, or the refusal
abbrev pub restored_text : Result Store Refusal → List ℕ
restored_text (Ok s) = replies.reply_text (replies.Reply.store s.sig s.name)
restored_text (Err refusal) = replies.reply_text (replies.Reply.refused refusal)

-- what is left on the unit then: the store, and nothing is pending; or what was there
abbrev pub IsLeft : Result Store Refusal → ℕ → (before after : Outside) → Type 0
IsLeft (Ok s) unit before after =
    (readable (image unit after.now) ≡ Some s) × IsDurable unit after.now
IsLeft (Err refusal) unit before after = OnlyReads unit before after

-- The text is what is written, and the unit is left so.
pub record IsDone (input : List ℕ) (unit : ℕ) (before after : Outside)
    (text : List ℕ) : Type 0 where
  pub outcome : Result Store Refusal
  pub is_restored : IsRestored input (device_on unit before) outcome
  pub text_is : text ≡ restored_text outcome
  pub left : IsLeft outcome unit before after

-- What a restoring of an input to a unit promises. Where it is refused, nothing happens to the
-- unit, however it ends; after want of memory nothing has happened; after a fault of the device
-- nothing is said of what the unit holds.
pub record Restores {T : Type 0} (told : Bool) (unit : ℕ) (input : List ℕ) (before after : Outside)
    (result : Result T Stop) : Type 0 where
  pub refused : IsTrue told → (outcome : Result Store Refusal)
      → IsRestored input (device_on unit before) outcome → IsErr outcome → OnlyReads unit before after
  pub unchanged : IsErrOf result Memory → after.now ≡ before.now
  pub any_moment : IsTrue told → Leaves unit Anything before.now after.now
  -- each page of the store that is asked for is written once at most
  pub once : (s : Store) → IsAsked (decoded input) (Ok s) →
      after.programmed unit ≤ before.programmed unit + format_bytes (cost s)
  -- each block of a bank and each vote once
  pub wears : Wears unit (bank_blocks (before.blocks unit) + 3) 9 before after
  pub alone : Touches unit before after
  pub ends : ReadEnds unit before after result

-- The same where this store is not refused: it is left on the unit.
pub record RestoresStore {T : Type 0} (told : Bool) (unit : ℕ) (s : Store) (before after : Outside)
    (result : Result T Stop) : Type 0 where
  pub left : IsTrue told → OnOk result (IsLeft (Ok s) unit before after)
  pub unchanged : IsErrOf result Memory → after.now ≡ before.now
  pub any_moment : IsTrue told → Leaves unit Anything before.now after.now
  pub costs : Spends unit (format_bytes (cost s)) 0 before after
  pub wears : Wears unit (bank_blocks (before.blocks unit) + 3) 9 before after
  pub alone : Touches unit before after
  pub ends : ReadEnds unit before after result

-- what a unit of so many blocks wants before a store is restored to it
pub record MayTake (blocks : ℕ) (s : Store) : Type 0 where
  pub enough : 13 ≤ blocks
  pub not_too_many : blocks ≤ 4099
  pub fits : IsTrue (fits blocks s)
