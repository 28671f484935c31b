-- What a patch puts and plans. This project's own.
use Rattle.std.specs.Prelude.{IsTrue, ◌≡◌, ℕ, ◌+◌, ◌/◌, ◌≤◌, ◌++◌, Bool, List, length, map as map_list, Option, Some, IfSome}
use Rattle.std.specs.FinMap as map
use Rattle.newt_host.specs.Moments.{overwritten}
use Rattle.newt_spec_image.specs.Pages.{Change, Pages, pages}
use Rattle.newt_spec_image.specs.Objects.{Extent, Objects}
use Rattle.newt_pagebook.specs.Batch.{puts_one}
use Rattle.newt_pagebook.specs.Book.{Numbers, changed_numbers}
use Rattle.newt_objects.specs.Held.{Held, WouldHold, held}
use Rattle.newt_vbo.specs.Ranges.{numbers_met}

-- the numbers that are put
abbrev pub numbers_put : Change → List ℕ
numbers_put change = map_list (λ put. put.0) change.puts

-- Once the changes are committed, the object has these bytes in place of those from `at` on; all other objects, and its other bytes, are as they would be before.
abbrev pub WouldPatch : Held → ℕ → ℕ → List ℕ → Change → Change → Pages → Type 0
WouldPatch objects id at bytes old new live = (texts : Objects) (text : List ℕ) → map.get texts id ≡ Some text → WouldHold objects old live texts
    → WouldHold objects new live (map.insert texts id (overwritten text at bytes))

-- A page is put under its number, with these bytes in place of those from a place in its part on. Where bytes are told, it was the live page of the number.
pub record PutsPatched (told : Bool) (image : List ℕ) (number from : ℕ) (bytes : List ℕ) (old new : Change) : Type 0 where
  pub page : List ℕ
  pub was : IsTrue told → (live : Pages) → pages image ≡ Some live → map.get live number ≡ Some page
  pub put : new ≡ puts_one old number (overwritten page (12 + from) bytes)

-- The pages of a range are put, each once, and no other; no page comes or goes.
pub record PutsRange (object : Option Extent) (at count : ℕ) (numbers : Numbers)
    (old new : Change) : Type 0 where
  pub puts : IfSome object (λ x. numbers_put new ≡ numbers_put old ++ numbers_met x at count)
  -- at most one more than the pages that so many bytes fill
  pub few : length new.puts ≤ length old.puts + ((count + 499) / 500 + 1)
  pub deletes : new.deletes ≡ old.deletes
  pub same_numbers : changed_numbers new numbers ≡ changed_numbers old numbers

-- A patch of an object is planned, and the pages of its range are put. Where bytes are told, the
-- object would have the bytes once the changes are committed.
pub record PlansPatch (told : Bool) (objects : Held) (id at : ℕ) (bytes : List ℕ)
    (numbers : Numbers) (image : List ℕ) (old new : Change) : Type 0 where
  pub patched : IsTrue told → (live : Pages) → pages image ≡ Some live →
      WouldPatch objects id at bytes old new live
  pub puts : PutsRange (held objects id) at (length bytes) numbers old new
