-- The way of a change: planned, committed, taken over.
use Rattle.std.specs.Prelude.{◌≡◌, ℕ, ◌+◌, List, [], ◌∷◌, ◌++◌, length, take, sum_by, Option, Some}
use Rattle.std.specs.FinMap as map
use Rattle.newt_spec_image.specs.Pages.{Pages, Change, pages}
use Rattle.newt_spec_image.specs.Objects.{Extent, IsTableOf, AreObjectsOf, pages_for, written_parts, Objects}
use Rattle.newt_objects.specs.Extents.{IsUnnamed, numbers_of}
use Rattle.newt_objects.specs.Held.{Held, held, WouldHold, IsUnplanned}

-- The image holds pages, and these are their objects.
pub record HoldsObjects (image : List ℕ) (texts : Objects) : Type 0 where
  pub live : Pages
  pub of_image : pages image ≡ Some live
  pub are : AreObjectsOf live texts

-- no page of an object that has no plan is named
abbrev pub NamesPlanned : Held → Change → Type 0
NamesPlanned objects change = (id : ℕ) (x : Extent) → held objects id ≡ Some x → IsUnplanned objects id → IsUnnamed x change

-- What is planned so far: once it is committed and taken over, the live pages hold these objects; until then they hold those that the table says.
pub record IsUnderWay (objects : Held) (change : Change) (live : Pages) (texts : Objects) : Type 0 where
  pub is_table : IsTableOf live (held objects)
  pub would : WouldHold objects change live texts
  pub apart : NamesPlanned objects change

-- each page has 512 bytes
abbrev pub AreWhole : Pages → Type 0
AreWhole live = (number : ℕ) (page : List ℕ) → map.get live number ≡ Some page → length page ≡ 512

-- how many pages the objects have, all together
abbrev pub total_pages : Objects → ℕ
total_pages texts = sum_by (λ e. pages_for (length e.1)) (map.entries texts)

-- An object is planned to become this one, or none: the plan is kept after the others, the pages
-- of the object that was there are deleted, and of the objects that would be held, others are made.
pub record PlansOne (id : ℕ) (next : Option Extent) (becomes : Objects → Objects)
    (old new : Held) (before after : Change) : Type 0 where
  pub planned : (live : Pages) (texts : Objects) → IsTableOf live (held old) →
      WouldHold old before live texts → WouldHold new after live (becomes texts)
  pub under_way : (live : Pages) (texts : Objects) → IsUnderWay old before live texts →
      IsUnderWay new after live (becomes texts)
  pub plan : new.plans ≡ old.plans ++ (id, next) ∷ []
  pub deletes : after.deletes ≡ before.deletes ++ numbers_of (held old id)

-- The parts of an object are put after the other puts, under the first of these numbers, of which
-- there are enough.
pub record PutsParts (id : ℕ) (bytes free : List ℕ) (old new : Change) : Type 0 where
  pub puts : new.puts ≡ old.puts ++ written_parts 0 id bytes (take (pages_for (length bytes)) free)
  pub count : length new.puts ≡ length old.puts + pages_for (length bytes)
