-- Bytes of one object that are overwritten.
use Rattle.newt_spec_image.specs.Records.{version}
use Rattle.std.specs.Prelude.{◌≡◌, ◌⊎◌, ℕ, ◌+◌, ◌<◌, ◌≤◌, Bool, IsTrue, List, length, Some, Result, OnOk, IfErr, IsErrOf}
use Rattle.std.specs.FinMap as map
use Rattle.std.specs.FinSet as set
use Rattle.newt_host.specs.Moments.{image, overwritten, Leaves}
use Rattle.newt_host.specs.Outside.{Outside, Spends, Wears}
use Rattle.newt_spec_image.specs.Pages.{cap}
use Rattle.newt_pagebook.specs.Book.{Numbers}
use Rattle.newt_base.specs.declared.Refusal.TheVariants.{Full, Range}
use Rattle.newt_spec_image.specs.Objects.{Objects}
use Rattle.newt_objects.specs.Changing.{HoldsObjects}
use Rattle.newt_store_change.specs.declared.fault.StoreFault.{StoreFault}
use Rattle.newt_store_change.specs.declared.fault.StoreFault.TheVariants.{Refused, Stop}

-- What a crash may leave of an image within a patch: as many bytes, which hold the objects before it, in the version before it, or those after it, in version 2.
pub record IsBeforeOrPatched (now : List ℕ) (before after : Objects) (left : List ℕ) : Type 0 where
  pub size : length left ≡ length now
  pub holds : (HoldsObjects left before × (version left ≡ version now)) ⊎ (HoldsObjects left after × (version left ≡ 2))

-- the only refusals are these two
abbrev pub IsRangeOrFull : StoreFault → Type 0
IsRangeOrFull (Refused refusal) = (refusal ≡ Range) ⊎ (refusal ≡ Full)
IsRangeOrFull (Stop stop) = Unit {0}

-- what is claimed, where bytes are told, of all objects that an image holds and the bytes of one
abbrev pub ForText : Bool → ℕ → List ℕ → (Objects → List ℕ → Type 0) → Type 0
ForText told id now claim = IsTrue told → (was : Objects) (text : List ℕ) →
    HoldsObjects now was → map.get was id ≡ Some text → claim was text

-- the objects with bytes of one overwritten from a place on
abbrev pub patched_text : ℕ → ℕ → List ℕ → Objects → List ℕ → Objects
patched_text id at bytes was text = map.insert was id (overwritten text at bytes)

-- Bytes of an object are overwritten from a place on; or they end past its end, or the unit has
-- more pages than it takes, and then nothing is done.
pub record Overwrites (told : Bool) (unit id at : ℕ) (bytes : List ℕ) (numbers : Numbers)
    (before after : Outside) (result : Result (Unit {0}) StoreFault) : Type 0 where
  pub patched : ForText told id (image unit before.now) (λ was text. OnOk result
      (HoldsObjects (image unit after.now) (patched_text id at bytes was text)
      × (at + length bytes ≤ length text) × (version (image unit after.now) ≡ 2)))
  pub range : IsErrOf result (Refused Range) →
      ForText told id (image unit before.now) (λ was text. length text < at + length bytes)
  pub past : ForText told id (image unit before.now) (λ was text.
      length text < at + length bytes → IsErrOf result (Refused Range))
  pub any_moment : ForText told id (image unit before.now) (λ was text. Leaves unit
      (IsBeforeOrPatched (image unit before.now) was (patched_text id at bytes was text))
      before.now after.now)
  pub full : IsErrOf result (Refused Full) → cap (before.blocks unit) < set.len numbers
  pub only : IfErr result IsRangeOrFull
  pub untouched : IsErrOf result (Refused Range) → Spends unit 0 0 before after
  pub untouched_wears : IsErrOf result (Refused Range) → Wears unit 0 0 before after
