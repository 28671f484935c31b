-- Which objects are not whole, by what their pages say of themselves. This project's own.
use Rattle.std.specs.Prelude.{◌≡◌, ℕ, ◌==◌, nat_lt, ◌&&◌, not, Bool, false, if◌then◌else◌}
use Rattle.std.specs.Prelude.{List, map, filter, find, Option, Some, None, is_some}
use Rattle.std.specs.List.{list_all, range_with_len}
use Rattle.std.specs.Ordering.{nat_cmp}
use Rattle.std.specs.BTreeMap as tree
use Rattle.newt_objects.specs.Headers.{part_cmp}
use Rattle.newt_objects.specs.declared.header.Header.{Header}
use Rattle.newt_spec_image.specs.Objects.{pages_for}
use Rattle.newt_spec_check.specs.Damage.{least}

-- the first page of a part of an object
abbrev pub first_of : List Header → ℕ → ℕ → Option Header
first_of headers object part = find (λ h. (h.object == object) && (h.part == part)) headers

-- the pages of the parts of objects, kept by object and part
abbrev pub Firsts : Type 0
Firsts = tree.BTreeMap (ℕ × ℕ) Header

abbrev pub kept_first : Firsts → ℕ → ℕ → Option Header
kept_first parts object part = tree.get part_cmp parts (object, part)

module _ (first : ℕ → ℕ → Option Header) where
  -- an object has a page for each of its first so many parts
  abbrev pub has_parts : ℕ → ℕ → Bool
  has_parts object count =
      list_all (λ part. is_some (first object part)) (range_with_len 0 count)

  -- how long an object is that begins with a page: as that says, where each part has a page
  abbrev pub long_by : ℕ → Option Header → Option ℕ
  long_by object None = None
  long_by object (Some h) =
      if has_parts object (pages_for h.length) then Some h.length else None

  -- how long an object is, none where it lacks a part
  abbrev pub length_of : ℕ → Option ℕ
  length_of object = long_by object (first object 0)

  -- it is the page of this number
  abbrev pub is_at : ℕ → Option Header → Bool
  is_at number None = false
  is_at number (Some h) = h.number == number

  -- the page is the one of its part of an object of this length
  abbrev pub is_own : Option ℕ → Header → Bool
  is_own None h = false
  is_own (Some length) h =
      (h.length == length) && nat_lt h.part (pages_for length)
      && is_at h.number (first h.object h.part)

  -- the page is the one of its part
  abbrev pub passes : Header → Bool
  passes h = is_own (length_of h.object) h

-- the lengths that are kept are those of objects
abbrev pub AreLengths : (ℕ → ℕ → Option Header) → tree.BTreeMap ℕ (Option ℕ) → Type 0
AreLengths first lengths =
    (object : ℕ) (length : Option ℕ)
    → tree.get nat_cmp lengths object ≡ Some length → length ≡ length_of first object

-- the objects that have a page that is not the one of its part
abbrev pub broken_by : (ℕ → ℕ → Option Header) → List Header → List ℕ
broken_by first headers = map (λ h. h.object) (filter (λ h. not (passes first h)) headers)

-- the least of them
abbrev pub broken_in : List Header → Option ℕ
broken_in headers = least (broken_by (first_of headers) headers)
