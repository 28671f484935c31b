-- What a reading costs over every host, by what is read: the bytes of a record are as many as its
-- row says, and those of a large binary as many as the objects say.
use Rattle.std.proofs.Common.{arith, ◌≡◌, ◌⊎◌, inl, inr, refl, ap, sym, ◌∙◌, subst, ℕ, zero, suc}
use Rattle.std.proofs.Common.{◌+◌, ◌-◌, ◌*◌, ◌<◌, ◌≤◌, ◌==◌, Bool, true, false, ◌&&◌, leb, leb-true}
use Rattle.std.proofs.Common.{leb-false, List, [], ◌∷◌, length, take, drop, get_or, zip, fold}
use Rattle.std.proofs.Common.{map as map_list, Option, Some, None}
use Rattle.std.specs.Prelude.{IsSome, bytes_eq}
use Rattle.std.specs.List.{flat_map, list_all, sum}
use Rattle.std.specs.Option.{IfSome}
use Rattle.std.proofs.lemmas.Bool.{and_parts}
use Rattle.std.proofs.lemmas.List.{length-drop, length-map, length-take-le}
use Rattle.std.proofs.lemmas.List.Sums.{sum_by-cons}
use Rattle.newt_base.specs.Text.{be16_at}
use Rattle.newt_graph.specs.declared.node.Node.{Node}
use Rattle.newt_graph.specs.declared.node.Node.TheVariants.{Large}
use Rattle.newt_graph.specs.Graph.{RawGraph}
use Rattle.newt_host.specs.Outside.{Outside, Spends}
use Rattle.newt_host.proofs.Outside.{Spends-widen}
use Rattle.newt_spec_image.specs.Objects.{Extent, pages_for}
use Rattle.newt_spec_graph.proofs.Lists.{none-some, some-same}
use Rattle.newt_spec_nsof.specs.Flat.{flat}
use Rattle.newt_spec_nsof.specs.Lengths.{skeleton}
use Rattle.newt_spec_store.specs.Cost.{entry_pages, large_length, large_lengths}
use Rattle.newt_spec_store.specs.Image.{larges}
use Rattle.newt_spec_store.specs.Lies.{may_be_large, record_read, stretched}
use Rattle.newt_spec_store.specs.Store.{Entry}
use Rattle.newt_spec_store.specs.StoreOf.{LargeRow, EntryRow as PlainRow, entry_row, fill}
use Rattle.newt_spec_store.specs.StoreOf.{names_larges}
use Rattle.newt_spec_store.specs.Valid.{valid_entry}
use Rattle.newt_laws_images.proofs.Alone.{alone}
use Rattle.newt_laws_images.proofs.Filled.{filled_with, filled-larges, filled-skeleton, own-skeleton}
use Rattle.newt_laws_images.proofs.Records.{larges_from}
use Rattle.newt_laws_images.proofs.Texts.{text-same}
use Rattle.newt_entries.specs.declared.row.EntryRow.{EntryRow}
use Rattle.newt_entries.specs.declared.row.LargeAt.{LargeAt}
use Rattle.newt_entries.specs.Entry.{row_at, rows_in, said, fits as fits_skeleton, filled}
use Rattle.newt_entries.proofs.Rows.{row_read, row_short, text_size}
use Rattle.newt_entries.proofs.Steps.{rest-is}
use Rattle.newt_nsof_flat.specs.Stream.{stream_graph}
use Rattle.newt_objects.specs.Held.{Held, held}
use Rattle.newt_objects_commit.specs.Commit.{AreKept}
use Rattle.newt_pagebook.specs.Book.{Numbers}
use Rattle.newt_store_catalog.specs.Calls.{larges_pages, row_pages}
use Rattle.newt_store_catalog.specs.Opening.{is_long}
use Rattle.newt_store_catalog.proofs.Owning.{long-is}
use Rattle.newt_store_catalog.proofs.ReadLarges.{spends-at, spent-both}

-- ---- the bytes of a record

-- fewer bytes than those of its head are no record
no-row : (bytes : List ℕ) → length bytes < 12 → entry_row bytes ≡ None
no-row [] h = refl
no-row (a ∷ []) h = refl
no-row (a ∷ b ∷ []) h = refl
no-row (a ∷ b ∷ c ∷ []) h = refl
no-row (a ∷ b ∷ c ∷ d ∷ []) h = refl
no-row (a ∷ b ∷ c ∷ d ∷ e ∷ []) h = refl
no-row (a ∷ b ∷ c ∷ d ∷ e ∷ f ∷ []) h = refl
no-row (a ∷ b ∷ c ∷ d ∷ e ∷ f ∷ i ∷ []) h = refl
no-row (a ∷ b ∷ c ∷ d ∷ e ∷ f ∷ i ∷ j ∷ []) h = refl
no-row (a ∷ b ∷ c ∷ d ∷ e ∷ f ∷ i ∷ j ∷ k ∷ []) h = refl
no-row (a ∷ b ∷ c ∷ d ∷ e ∷ f ∷ i ∷ j ∷ k ∷ l ∷ []) h = refl
no-row (a ∷ b ∷ c ∷ d ∷ e ∷ f ∷ i ∷ j ∷ k ∷ l ∷ m ∷ []) h = refl
no-row (a ∷ b ∷ c ∷ d ∷ e ∷ f ∷ i ∷ j ∷ k ∷ l ∷ m ∷ n ∷ bytes) h = absurd (omega (arith, h))

rows-long : (n : ℕ) (bytes : List ℕ) → length (rows_in n bytes) ≡ n
rows-long zero bytes = refl
rows-long (suc n) bytes = ap suc (rows-long n (drop 12 bytes))

le_or_lt : (a b : ℕ) → (a ≤ b) ⊎ (b < a)
le_or_lt a b = go (leb a b) refl
  where
    go : (t : Bool) → leb a b ≡ t → (a ≤ b) ⊎ (b < a)
    go true e = inl (leb-true a b e)
    go false e = inr (leb-false a b e)

-- a record has 12 bytes, its text, and 12 for each large binary
row-long : (bytes : List ℕ) (row : PlainRow) → entry_row bytes ≡ Some row
    → length bytes ≡ 12 + length row.text + 12 * length row.larges
row-long bytes row read = head (le_or_lt 12 (length bytes))
  where
    count : ℕ
    count = be16_at bytes 2

    tail : List ℕ
    tail = drop (text_size bytes) (drop 12 bytes)

    fits : 12 ≤ length bytes → (12 * count ≤ length bytes - 12) ⊎ (length bytes - 12 < 12 * count)
        → length bytes ≡ 12 + length row.text + 12 * length row.larges
    fits h (inr less) = absurd (none-some row (sym (row_short bytes h less) ∙ read))
    fits h (inl room) =
        let is = some-same _ row (sym (row_read bytes h room) ∙ read) in
        let text : length (take (text_size bytes) (drop 12 bytes)) ≡ length row.text =
        ap (λ (r : PlainRow). length r.text) is in
        let rows : length (rows_in count tail) ≡ length row.larges =
        ap (λ (r : PlainRow). length r.larges) is in
        let many : length (rows_in count tail) ≡ count = rows-long count tail in
        let rest : length (drop 12 bytes) ≡ length bytes - 12 = length-drop 12 bytes in
        let taken : length (take (text_size bytes) (drop 12 bytes)) ≡ text_size bytes =
        length-take-le (text_size bytes) (drop 12 bytes) (omega (arith, rest)) in
        omega (arith, h, room, text, rows, many, taken)

    head : (12 ≤ length bytes) ⊎ (length bytes < 12)
        → length bytes ≡ 12 + length row.text + 12 * length row.larges
    head (inl h) = fits h (le_or_lt (12 * count) (length bytes - 12))
    head (inr less) = absurd (none-some row (sym (no-row bytes less) ∙ read))

-- a record has as many pages as its row says
pub record-pages : (bytes : List ℕ) (row : EntryRow)
    → record_read stream_graph bytes ≡ Some (said row) → pages_for (length bytes) ≡ row_pages row
record-pages bytes row read = ap pages_for long
  where
    long : length bytes ≡ 12 + length (flat row.skeleton) + 12 * length row.larges
    long =
        let a : length bytes
        ≡ 12 + length (flat row.skeleton) + 12 * length (map_list row_at row.larges) =
        row-long bytes (said row).0
        (alone stream_graph bytes (said row).0 row.skeleton read).is_row in
        let b : length (map_list row_at row.larges) ≡ length row.larges =
        length-map row.larges row_at in
        omega (arith, a, b)

-- ---- an object that is read

module _ {told : Bool} {objects : Held} {numbers : Numbers} {unit : ℕ} {outside old new : Outside}
    (kept : AreKept told objects numbers unit outside) (id : ℕ) (there : IsSome (held objects id))
    (costs : IfSome (held objects id) (λ x. Spends unit 0 (512 * length x.numbers) old new)) where
  -- it costs the pages of so many bytes
  pub size-costs : (n : ℕ) → IfSome (held objects id) (λ x. n ≡ x.length)
      → Spends unit 0 (512 * pages_for n) old new
  size-costs n = cases (held objects id) refl there costs where
    cases : (o : Option Extent) → held objects id ≡ o → IsSome o
        → IfSome o (λ x. Spends unit 0 (512 * length x.numbers) old new)
        → IfSome o (λ x. n ≡ x.length) → Spends unit 0 (512 * pages_for n) old new
    cases None e some spends size = absurd cc
    cases (Some x) e some spends size =
        subst (λ (k : ℕ). Spends unit 0 (512 * k) old new)
        (kept.are.is_table.whole id x e ∙ ap pages_for (sym size)) spends

-- an object of so many bytes has this length
pub long-size : (o : Option Extent) (size : ℕ) → is_long size o ≡ true
    → IfSome o (λ x. size ≡ x.length)
long-size None size long = tt
long-size (Some x) size long = sym (some-same x.length size (long-is (Some x) size long))

-- ---- large binaries, one after another

-- The large binaries of these rows were read, but for those that are left.
pub record Spent (rows left : List LargeAt) (unit : ℕ) (old new : Outside) : Type 0 where
  pub less : larges_pages left ≤ larges_pages rows
  pub spends : Spends unit 0 (512 * (larges_pages rows - larges_pages left)) old new

sum-cons : (n : ℕ) (ns : List ℕ) → sum (n ∷ ns) ≡ n + sum ns
sum-cons n ns = sum_by-cons (λ m. m) n ns

larges-first : (left : List LargeAt) (d : LargeAt) → 1 ≤ length left → larges_pages left
    ≡ pages_for (get_or left 0 d).length + larges_pages (take (length left - 1) (drop 1 left))
larges-first [] d some = absurd (omega (arith, some))
larges-first (l ∷ left) d some =
    sum-cons (pages_for l.length) (map_list pages_for (map_list (λ (l : LargeAt). l.length) left))
    ∙ ap (λ (ls : List LargeAt). pages_for l.length + larges_pages ls) (sym (rest-is 1 (l ∷ left)))

module _ {rows left : List LargeAt} {unit unit' : ℕ} {old mid new : Outside}
    (s : Spent rows left unit old mid) (d : LargeAt) (some : 1 ≤ length left) (same : unit' ≡ unit)
    (next : Spends unit' 0 (512 * pages_for (get_or left 0 d).length) mid new) where
  pub spent-next : Spent rows (take (length left - 1) (drop 1 left)) unit old new
  spent-next =
      let rest = take (length left - 1) (drop 1 left) in
      let n = pages_for (get_or left 0 d).length in
      let first : larges_pages left ≡ n + larges_pages rest = larges-first left d some in
      let less = s.less in
      record {
        less = omega (arith, first, less);
        spends = spent-both unit (larges_pages rows - larges_pages left) n
            (larges_pages rows - larges_pages rest) old mid new (omega (arith, first, less)) s.spends
            (spends-at unit unit' (512 * n) mid new same next);
      }

-- no more than for all of them
pub spent-most : {rows left : List LargeAt} {unit : ℕ} {old new : Outside}
    → Spent rows left unit old new → Spends unit 0 (512 * larges_pages rows) old new
spent-most {rows} {left} s =
    Spends-widen 0 (512 * (larges_pages rows - larges_pages left)) 0 (512 * larges_pages rows)
    (omega arith) (omega arith) s.spends

-- ---- an entry

lengths-from : (k : ℕ) (nodes : List Node)
    → map_list (λ (l : ℕ × List ℕ). length l.1) (larges_from k nodes) ≡ flat_map large_length nodes
lengths-from k [] = refl
lengths-from k (Large c bytes ∷ nodes) = ap (λ ns. length bytes ∷ ns) (lengths-from (k + 1) nodes)
lengths-from k (x ∷ nodes) = lengths-from (k + 1) nodes

zip-lengths : (ns : List ℕ) (bs : List (List ℕ)) → length ns ≡ length bs
    → map_list (λ (l : ℕ × List ℕ). length l.1) (zip ns bs) ≡ map_list (λ (b : List ℕ). length b) bs
zip-lengths [] [] h = refl
zip-lengths [] (b ∷ bs) h = absurd (omega (arith, h))
zip-lengths (n ∷ ns) [] h = absurd (omega (arith, h))
zip-lengths (n ∷ ns) (b ∷ bs) h = ap (λ ks. length b ∷ ks) (zip-lengths ns bs (omega (arith, h)))

module _ (row : EntryRow) (bs : List (List ℕ))
    (fits : fits_skeleton (map_list row_at row.larges) row.skeleton ≡ true)
    (lengths : map_list (λ (b : List ℕ). length b) bs
    ≡ map_list (λ (l : LargeAt). l.length) row.larges) where
  abbrev rows : List LargeRow
  rows = map_list row_at row.larges

  -- the numbers of the nodes that are large binaries
  abbrev at : List ℕ
  at = map_list (λ (l : ℕ × List ℕ). l.0) (larges row.skeleton)

  abbrev bare-at : Bool
  bare-at = list_all (λ (l : ℕ × List ℕ). length l.1 == 0) (larges row.skeleton)

  named : (bytes_eq at (map_list (λ (l : LargeRow). l.0) rows) ≡ true) × (bare-at ≡ true)
  named =
      let plain : PlainRow = record { soup = 0; uid = 0; time = 0; text = []; larges = rows } in
      let names = names_larges plain row.skeleton in
      let graph = stretched rows row.skeleton in
      let all = and_parts (names && list_all may_be_large rows)
      (valid_entry (record { uid = 0; time = 0; graph = graph })) fits in
      and_parts (bytes_eq at (map_list (λ (l : LargeRow). l.0) rows)) bare-at
      (and_parts names (list_all may_be_large rows) all.0).0

  numbers : at ≡ map_list (λ (l : LargeRow). l.0) rows
  numbers = text-same at (map_list (λ (l : LargeRow). l.0) rows) named.0

  as-many : length at ≡ length bs
  as-many =
      ap length numbers ∙ length-map rows (λ (l : LargeRow). l.0) ∙ length-map row.larges row_at
      ∙ sym (length-map row.larges (λ (l : LargeAt). l.length)) ∙ ap length (sym lengths)
      ∙ length-map bs (λ (b : List ℕ). length b)

  with-bytes : filled_with row.skeleton bs ≡ filled rows row.skeleton bs
  with-bytes = ap {A = List ℕ} {B = RawGraph} (λ ns. fold fill row.skeleton (zip ns bs)) numbers

  -- with these bytes the entry has the pages of its record and of these large binaries
  pub entry-pages : (graph : RawGraph) (uid time : ℕ) → graph ≡ filled rows row.skeleton bs
      → row_pages row + larges_pages row.larges
      ≡ entry_pages (record { uid = uid; time = time; graph = graph })
  entry-pages graph uid time is =
      ap (λ (n : ℕ). pages_for (12 + length (flat row.skeleton) + 12 * n) + larges_pages row.larges)
      (sym (length-map row.larges (λ (l : LargeAt). l.length)))
      ∙ (λ i. pages_for (12 + length (flat (sym bare i)) + 12 * length (sym sized i))
      + sum (map_list pages_for (sym sized i)))
    where
      bare : skeleton graph ≡ row.skeleton
      bare = ap skeleton (is ∙ sym with-bytes) ∙ filled-skeleton row.skeleton bs
          ∙ own-skeleton row.skeleton named.1

      sized : large_lengths graph ≡ map_list (λ (l : LargeAt). l.length) row.larges
      sized = ap large_lengths (is ∙ sym with-bytes)
          ∙ sym (lengths-from 0 (filled_with row.skeleton bs).nodes)
          ∙ ap (map_list (λ (l : ℕ × List ℕ). length l.1)) (filled-larges row.skeleton bs
          (sym (length-map (larges row.skeleton) (λ (l : ℕ × List ℕ). l.0)) ∙ as-many))
          ∙ zip-lengths at bs as-many ∙ lengths
