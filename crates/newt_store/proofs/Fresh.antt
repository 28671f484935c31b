-- A fresh store.
use Rattle.std.proofs.Common.{◌≡◌, ℕ, suc, zero, ◌+◌, ◌≤◌, true, false, List, [], ◌∷◌, ◌++◌, length, take, Option, Some, None, refl, sym, subst, ◌∙◌, ap, arith, Bool, not, ◌||◌, ◌==◌}
use Rattle.std.specs.FinMap as map
use Rattle.std.proofs.lemmas.Bool.Decides.{nat_tests}
use Rattle.std.specs.Ordering.{nat_cmp}
use Rattle.std.specs.Option.{option_map}
use Rattle.newt_base.specs.Names.{is_name}
use Rattle.newt_spec_image.specs.Records.{and_then, version}
use Rattle.newt_spec_image.specs.Pages.{Change, Put, pages_after, after, cap}
use Rattle.newt_spec_image.specs.Objects.{Extent, IsTableOf, joined, pages_for, part_bytes, written_page, written_parts, Objects}
use Rattle.newt_pagebook.specs.Batch.{no_change}
use Rattle.newt_pagebook.specs.Book.{IsFormatted, IsFresh}
use Rattle.newt_objects.specs.Extents.{free_below, numbers_of}
use Rattle.newt_objects.specs.Held.{Held, free_numbers, held}
use Rattle.newt_objects.specs.Changing.{HoldsObjects, IsUnderWay}
use Rattle.newt_objects.proofs.Changing.{start_under_way, would_be_objects}
use Rattle.newt_spec_store.specs.Store.{Store, new_store}
use Rattle.newt_spec_store.specs.Cost.{cost, directory_bytes}
use Rattle.newt_spec_store.specs.Lies.{LiesIn}
use Rattle.newt_spec_store.specs.OfImage.{blocks_of}
use Rattle.newt_spec_store.specs.ImageStore.{store_of_image}
use Rattle.newt_spec_store.specs.Lies.{LiesIn}
use Rattle.newt_laws_images.proofs.Gathering.{image-by-objects}
use Rattle.newt_laws_images.proofs.Whole.{lies-read}
use Rattle.newt_laws_changes.proofs.Fresh.{fresh_lies, fresh_formed}
use Rattle.newt_laws_changes.proofs.Moved.{inserted-at, inserted-other}
use Rattle.newt_laws_images.proofs.Totals.{total}
use Rattle.newt_laws_changes.proofs.Costs.{directory-length}
use Rattle.newt_nsof_flat.specs.Stream.{stream_graph}
use Rattle.newt_nsof_flat.proofs.Streams.{reads_graphs}
use Rattle.newt_store.proofs.Reading.{is-valid}

-- no objects are the objects of no pages
pub start-empty : (objects : Held) → ((id : ℕ) → held objects id ≡ None) → objects.plans ≡ [] → IsUnderWay objects no_change map.empty map.empty
start-empty objects none plans = start_under_way objects map.empty map.empty plans table (record { table = held objects; is_table = table; each = λ id. map.get-empty nat_cmp id ∙ sym (ap (option_map (joined map.empty)) (none id)) }) where
  table : IsTableOf map.empty (held objects)
  table = record {
    whole = λ id x there. absurd (let e : None ≡ Some x = sym (none id) ∙ there in cc);
    parts = λ id part number x there at. absurd (let e : None ≡ Some x = sym (none id) ∙ there in cc);
    pages = λ number page at. absurd (let e : None ≡ Some page = sym (map.get-empty nat_cmp number) ∙ at in cc);
  }

-- a formatted image holds what the batch makes of nothing
pub formatted-holds : (objects : Held) (batch : Change) (texts : Objects) (image : List ℕ) → IsUnderWay objects batch map.empty texts → IsFormatted batch image → HoldsObjects image texts
formatted-holds objects batch texts image way is = record {
  live = after batch map.empty;
  of_image = ap (λ (o : Option (List (List ℕ))). and_then o (λ payloads. pages_after payloads map.empty)) is.one.1
      ∙ ap (λ (o : Option Change). and_then o (λ change. pages_after [] (after change map.empty))) is.one.2;
  are = would_be_objects objects batch map.empty texts way.would;
}

one-page : (n : ℕ) → n ≤ 39 → pages_for (n + 8) ≡ 1
one-page n low = omega (arith, low)

enough-cap : (blocks : ℕ) → 13 ≤ blocks → 1 ≤ cap blocks
enough-cap blocks many = omega (arith, many)

pub fresh-bytes : (name : List ℕ) (sig : ℕ) → length (directory_bytes (new_store name sig)) ≡ length name + 8
unfolding total
fresh-bytes name sig = directory-length (new_store name sig) ∙ omega arith

pub fresh-cost : (name : List ℕ) (sig blocks : ℕ) → length name ≤ 39 → 13 ≤ blocks → cost (new_store name sig) ≤ cap blocks
fresh-cost name sig blocks short many =
    let one : pages_for (length (directory_bytes (new_store name sig))) ≡ 1 = ap pages_for (fresh-bytes name sig) ∙ one-page (length name) short in
    omega (arith, one, enough-cap blocks many)

-- a batch that puts its directory puts as many pages as it costs
pub fresh-pages : (name : List ℕ) (sig : ℕ) (bytes : List ℕ) (first last : Change) → bytes ≡ directory_bytes (new_store name sig) → first ≡ no_change
    → length last.puts ≡ length first.puts + pages_for (length bytes) → length last.puts ≡ cost (new_store name sig)
fresh-pages name sig bytes first last is none count =
    let empty : length first.puts ≡ 0 = ap (λ (c : Change). length c.puts) none in
    let pages : pages_for (length bytes) ≡ pages_for (length (directory_bytes (new_store name sig))) = ap (λ (b : List ℕ). pages_for (length b)) is in
    whole (length last.puts) (length first.puts) (pages_for (length bytes)) (pages_for (length (directory_bytes (new_store name sig)))) count empty pages
  where
    whole : (a b p q : ℕ) → a ≡ b + p → b ≡ 0 → p ≡ q → a ≡ q + 0
    whole a b p q count empty pages = omega (arith, count, empty, pages)

-- a fresh store lies in its directory alone
pub fresh-lies : (name : List ℕ) (sig : ℕ) (bytes : List ℕ) → bytes ≡ directory_bytes (new_store name sig) → (lies : LiesIn (map.insert map.empty 0 bytes) (λ t u. None) (new_store name sig)) × ((r : ℕ) → lies.named r ≡ [])
fresh-lies name sig bytes is = fresh_lies (map.insert map.empty 0 bytes) (new_store name sig) refl (record {
  head_is = inserted-at map.empty 0 bytes ∙ ap Some is;
  no_others = λ id ne. inserted-other map.empty 0 bytes id ne ∙ map.get-empty nat_cmp id;
})

or-true : (b : Bool) → (b || true) ≡ true
or-true true = refl
or-true false = refl

-- and is read as the fresh store, whatever the image's version
pub fresh-read : (name : List ℕ) (sig : ℕ) (bytes image : List ℕ) → is_name name ≡ true → length name ≤ 39 → sig ≤ 536870911 → 13 ≤ blocks_of image → bytes ≡ directory_bytes (new_store name sig)
    → HoldsObjects image (map.insert map.empty 0 bytes) → store_of_image stream_graph image ≡ Some (new_store name sig)
fresh-read name sig bytes image good short few many is holds =
    let texts : Objects = map.insert map.empty 0 bytes in
    let s : Store = new_store name sig in
    let lies = (fresh-lies name sig bytes is).0 in
    image-by-objects stream_graph image holds.live texts holds.of_image holds.are
    ∙ lies-read stream_graph (version image) texts (λ t u. None) (blocks_of image) s reads_graphs lies (or-true (not (version image == 1))) (is-valid (blocks_of image) s (fresh_formed name sig good few) (fresh-cost name sig (blocks_of image) short many))

pub short-name : (name : List ℕ) → is_name name ≡ true → length name ≤ 39
short-name name good = grind (arith, nat_tests, good)

-- ---- the page of a fresh store

-- the first number that is free where nothing is held is 0
first-free : (n : ℕ) → (rest : List ℕ) × (free_below (suc n) [] no_change ≡ 0 ∷ rest)
unfolding free_below
first-free zero = ([], refl)
first-free (suc n) = let (rest, is) = first-free n in (rest ++ suc n ∷ [], ap (λ (l : List ℕ). l ++ suc n ∷ []) is)

-- a batch that puts its directory puts page 0 alone
pub first-page : (name : List ℕ) (sig : ℕ) (bytes image : List ℕ) (objects : Held) (first last : Change) → is_name name ≡ true → bytes ≡ directory_bytes (new_store name sig)
    → objects.rows ≡ [] → held objects 0 ≡ None → first ≡ no_change
    → last.puts ≡ first.puts ++ written_parts 0 0 bytes (take (pages_for (length bytes)) (free_numbers objects first)) → last.deletes ≡ first.deletes ++ numbers_of (held objects 0)
    → IsFormatted last image → IsFresh image
first-page name sig bytes image objects first last named is none unheld start puts deletes formatted =
    let (rest, free) = first-free 65535 in
    let one : pages_for (length bytes) ≡ 1 = ap (λ (b : List ℕ). pages_for (length b)) is ∙ ap pages_for (fresh-bytes name sig) ∙ one-page (length name) (short-name name named) in
    let numbers : take (pages_for (length bytes)) (free_numbers objects first) ≡ 0 ∷ [] =
    ap (λ (n : ℕ). take n (free_numbers objects first)) one
    ∙ ap (λ (rows : List (ℕ × Option Extent)). take 1 (free_below 65536 rows first)) none
    ∙ ap (λ (change : Change). take 1 (free_below 65536 [] change)) start
    ∙ ap (λ (l : List ℕ). take 1 l) free in
    let page = written_page 0 0 (length bytes) (part_bytes 0 bytes) in
    let put : last.puts ≡ (0, page) ∷ [] = puts ∙ ap (λ (c : Change). c.puts ++ written_parts 0 0 bytes (take (pages_for (length bytes)) (free_numbers objects first))) start
    ∙ ap (λ (l : List ℕ). written_parts 0 0 bytes l) numbers in
    let deleted : last.deletes ≡ [] = deletes ∙ ap (λ (c : Change). c.deletes ++ numbers_of (held objects 0)) start ∙ ap numbers_of unheld in
    (page, subst (λ (change : Change). IsFormatted change image) (changes-are last ((0, page) ∷ []) put deleted) formatted)
  where
    changes-are : (change : Change) (l : List Put) → change.puts ≡ l → change.deletes ≡ [] → change ≡ record { puts = l; deletes = [] }
    changes-are change l p d = ap {A = List Put} {B = Change} (λ x. record { puts = x; deletes = change.deletes }) p ∙ ap {A = List ℕ} {B = Change} (λ x. record { puts = l; deletes = x }) d
