-- Where an entry lies under an id, the object's bytes are read as its record, and the objects that it names are there.
use Rattle.std.proofs.Common.{IsTrue, ◌≡◌, ℕ, Bool, true, List, [], ◌∷◌, ◌&&◌, false, cond, length, take, drop, ◌-◌, ◌≤◌, get_or, map as map_list, zip, Option, Some, None, IsSome, refl, sym, ◌∙◌, ap, subst, arith}
use Rattle.std.specs.List.{find, list_all}
use Rattle.std.specs.Option.{IfSome, option_map}
use Rattle.std.proofs.lemmas.Bool.{and_from, and_parts}
use Rattle.newt_host.specs.Moments.{image}
use Rattle.newt_host.specs.Outside.{Outside}
use Rattle.newt_spec_graph.specs.Lists.{Each}
use Rattle.newt_spec_graph.proofs.Lists.{none-some, some-same}
use Rattle.newt_spec_image.specs.Objects.{Extent, Table}
use Rattle.newt_spec_image.specs.Pages.{Pages, pages}
use Rattle.newt_spec_image.specs.Objects.{joined}
use Rattle.newt_pagebook.specs.Book.{Numbers}
use Rattle.newt_objects.specs.Held.{Held, held}
use Rattle.newt_objects_commit.specs.Commit.{AreKept}
use Rattle.newt_spec_store.specs.Image.{entry_bytes, larges}
use Rattle.newt_spec_store.specs.Laid.{Named, row_of_large}
use Rattle.newt_spec_store.specs.Lies.{HasLarge, record_read}
use Rattle.newt_spec_store.specs.StoreOf.{LargeRow}
use Rattle.newt_nsof_flat.specs.Stream.{stream_graph}
use Rattle.newt_entries.specs.Entry.{row_at, said}
use Rattle.newt_entries.specs.declared.row.EntryRow.{EntryRow}
use Rattle.newt_entries.specs.declared.row.LargeAt.{LargeAt}
use Rattle.newt_entries.proofs.Steps.{rest-is}
use Rattle.newt_laws_images.proofs.Alone.{bad-alone}
use Rattle.newt_store_catalog.specs.Calls.{AreThere, LiesThere}
use Rattle.newt_store_catalog.specs.Opening.{has_length, is_long}
use Rattle.newt_store_catalog.proofs.Opening.{kept-length}
use Rattle.newt_store_catalog.proofs.Owning.{is-long, long-is}
use Rattle.newt_store_catalog.proofs.ReadLarges.{rows-are}
use Rattle.newt_store_catalog.proofs.Rows.{read-is}

-- ---- rows whose objects are there

-- the object of a row that is there
pub long-there : (o : Option Extent) (size : ℕ) → is_long size o ≡ true → IsSome o
long-there None size long = absurd (none-some size (long-is None size long))
long-there (Some x) size long = refl

-- and what was read of it has the row's length
pub long-read : (o : Option Extent) (size n : ℕ) → is_long size o ≡ true → IfSome o (λ x. n ≡ x.length) → n ≡ size
long-read None size n long is = absurd (none-some size (long-is None size long))
long-read (Some x) size n long is = is ∙ some-same x.length size (long-is (Some x) size long)

pub there-first : (objects : Held) (left : List LargeAt) (d : LargeAt) → AreThere objects left → 1 ≤ length left → has_length (held objects) (get_or left 0 d) ≡ true
there-first objects [] d there some = absurd (omega (arith, some))
there-first objects (l ∷ left) d there some = (and_parts (has_length (held objects) l) (list_all (λ k. has_length (held objects) k) left) there).0

pub there-others : (objects : Held) (left : List LargeAt) → AreThere objects left → 1 ≤ length left → AreThere objects (take (length left - 1) (drop 1 left))
there-others objects [] there some = absurd (omega (arith, some))
there-others objects (l ∷ left) there some =
    ap (list_all (λ k. has_length (held objects) k)) (rest-is 1 (l ∷ left)) ∙ (and_parts (has_length (held objects) l) (list_all (λ k. has_length (held objects) k) left) there).1

-- ---- the record that lies under an id

-- a row as plain numbers
abbrev long-row : Table → LargeRow → Bool
long-row table r = is_long r.2 (table r.1)

plain-there : (table : Table) (rows : List LargeAt) → list_all (λ l. has_length table l) rows ≡ list_all (long-row table) (map_list row_at rows)
plain-there table [] = refl
plain-there table (l ∷ rows) = ap (λ (b : Bool). is_long l.length (table l.object) && b) (plain-there table rows)

module _ (told : Bool) (objects : Held) (numbers : Numbers) (unit : ℕ) (outside : Outside) (kept : AreKept told objects numbers unit outside) (tells : IsTrue told) (id : ℕ) (lies : LiesThere id (image unit outside.now)) (got : List ℕ)
    (read : (live : Pages) → pages (image unit outside.now) ≡ Some live → Some got ≡ option_map (joined live) (held objects id)) where
  its-bytes : entry_bytes lies.sig lies.entry lies.ids ≡ got
  its-bytes = read-is told objects numbers unit outside kept tells lies.texts lies.holds id (entry_bytes lies.sig lies.entry lies.ids) lies.laid.bytes_are got read

  pub is-record : record_read stream_graph got ≡ None → ⊥
  is-record none =
      none-some (lies.sig, lies.entry) (sym (bad-alone stream_graph lies.texts (entry_bytes lies.sig lies.entry lies.ids) (ap (record_read stream_graph) its-bytes ∙ none)) ∙ lies.laid.read)

  pub are-there : (row : EntryRow) → record_read stream_graph got ≡ Some (said row) → AreThere objects row.larges
  are-there row is =
      plain-there (held objects) row.larges
      ∙ ap (list_all (long-row (held objects))) (rows-are lies.texts id lies.sig lies.entry lies.ids lies.laid row (ap (record_read stream_graph) its-bytes ∙ is))
      ∙ all (zip (larges lies.entry.graph) lies.ids) lies.laid.larges_are.there
    where
      all : (ls : List Named) → Each (HasLarge lies.texts) ls → list_all (long-row (held objects)) (map_list row_of_large ls) ≡ true
      all [] h = refl
      all (n ∷ ls) h = and_from _ _ (is-long (held objects n.1) (length n.0.1) (kept-length told objects numbers unit outside kept tells lies.texts lies.holds n.1 n.0.1 h.0.3)) (all ls h.1)

-- one of the rows that is found
pub there-found : (objects : Held) (test : LargeAt → Bool) (rows : List LargeAt) (large : LargeAt) → AreThere objects rows → find test rows ≡ Some large → IsSome (held objects large.object)
there-found objects test [] large there is = absurd (none-some large is)
there-found objects test (l ∷ rows) large there is =
    let parts = and_parts (has_length (held objects) l) (list_all (λ k. has_length (held objects) k) rows) there in
    by (test l) (long-there (held objects l.object) l.length parts.0) (there-found objects test rows large parts.1) is
  where
    by : (t : Bool) → IsSome (held objects l.object) → (find test rows ≡ Some large → IsSome (held objects large.object)) → cond t (Some l) (find test rows) ≡ Some large → IsSome (held objects large.object)
    by true first others e = subst (λ (k : LargeAt). IsSome (held objects k.object)) (some-same l large e) first
    by false first others e = others e
