-- What a record is read as beside other objects.
use Rattle.std.proofs.Common.{◌≡◌, ℕ, ◌-◌, ◌*◌, ◌<◌, ◌≤◌, Bool, true, false, cond, List, length, take, drop, Option, Some, None, option_map, option_and_then, sym, ap, subst, ◌∙◌, map, arith, ◌+◌}
use Rattle.std.proofs.lemmas.List.{drop-drop}
use Rattle.newt_base.specs.Text.{be16_at, be32_at}
use Rattle.newt_graph.specs.Graph.{RawGraph}
use Rattle.newt_spec_nsof.specs.Flat.{flat}
use Rattle.newt_spec_store.specs.Lies.{is_record, record_read}
use Rattle.newt_spec_store.specs.Reading.{written}
use Rattle.newt_spec_store.specs.StoreOf.{LargeRow, EntryRow, only}
use Rattle.newt_nsof_flat.specs.Stream.{stream_graph}
use Rattle.newt_entries.specs.Entry.{row_at, rows_in, fits}
use Rattle.newt_entries.specs.declared.row.LargeAt.{LargeAt}
use Rattle.newt_entries.proofs.Steps.{rest-is}
use Rattle.newt_nsof_flat.proofs.Streams.{written_text}
use Rattle.newt_entries.proofs.Rows.{the_row, text_size, row_read, row_short}

abbrev read_row : Option EntryRow → Option (EntryRow × RawGraph)
read_row o = only is_record (option_and_then (λ row. option_map (λ g. (row, g)) (written stream_graph row.text)) o)

abbrev the_text : List ℕ → List ℕ
the_text bytes = take (text_size bytes) (drop 12 bytes)

abbrev the_rows : List ℕ → List LargeRow
the_rows bytes = rows_in (be16_at bytes 2) (drop (text_size bytes) (drop 12 bytes))

abbrev row_in : List ℕ → List ℕ → EntryRow
row_in bytes text = the_row (be16_at bytes 0) (be32_at bytes 4) (be32_at bytes 8) text (the_rows bytes)

by_graph : (bytes : List ℕ) → 12 ≤ length bytes → 12 * be16_at bytes 2 ≤ length bytes - 12
    → record_read stream_graph bytes ≡ only is_record (option_map (λ g. (row_in bytes (the_text bytes), g)) (written stream_graph (the_text bytes)))
by_graph bytes h room = ap read_row (row_read bytes h room)

by_tests : (bytes : List ℕ) (g : RawGraph) → 12 ≤ length bytes → 12 * be16_at bytes 2 ≤ length bytes - 12 → written stream_graph (the_text bytes) ≡ Some g
    → record_read stream_graph bytes ≡ cond (fits (the_rows bytes) g) (Some (row_in bytes (the_text bytes), g)) None
by_tests bytes g h room e = by_graph bytes h room ∙ ap (λ o. only is_record (option_map (λ g. (row_in bytes (the_text bytes), g)) o)) e

pub fit : (bytes : List ℕ) (g : RawGraph) → 12 ≤ length bytes → 12 * be16_at bytes 2 ≤ length bytes - 12 → written stream_graph (the_text bytes) ≡ Some g → fits (the_rows bytes) g ≡ true
    → record_read stream_graph bytes ≡ Some (row_in bytes (flat g), g)
fit bytes g h room e is = by_tests bytes g h room e ∙ ap {A = Bool} {B = Option (EntryRow × RawGraph)} (λ b. cond b (Some (row_in bytes (the_text bytes), g)) None) is
    ∙ ap {A = List ℕ} {B = Option (EntryRow × RawGraph)} (λ text. Some (row_in bytes text, g)) (sym (written_text (the_text bytes) g e))

pub unfit : (bytes : List ℕ) (g : RawGraph) → 12 ≤ length bytes → 12 * be16_at bytes 2 ≤ length bytes - 12 → written stream_graph (the_text bytes) ≡ Some g → fits (the_rows bytes) g ≡ false → record_read stream_graph bytes ≡ None
unfit bytes g h room e is = by_tests bytes g h room e ∙ ap {A = Bool} {B = Option (EntryRow × RawGraph)} (λ b. cond b (Some (row_in bytes (the_text bytes), g)) None) is

pub short : (bytes : List ℕ) → 12 ≤ length bytes → length bytes - 12 < 12 * be16_at bytes 2 → record_read stream_graph bytes ≡ None
short bytes h room = ap read_row (row_short bytes h room)

-- ---- the text and the rows as a reader takes them

abbrev pub taken_text : List ℕ → ℕ → List ℕ
taken_text bytes count = take (length bytes - 12 * count - 12) (drop 12 bytes)

abbrev taken_rows : List ℕ → ℕ → List LargeRow
taken_rows bytes count = rows_in count (take (length bytes - (length bytes - 12 * count)) (drop (length bytes - 12 * count) bytes))

text-is : (bytes : List ℕ) (count : ℕ) → count ≡ be16_at bytes 2 → taken_text bytes count ≡ the_text bytes
text-is bytes count e = ap (λ n. take n (drop 12 bytes)) size ∙ ap (λ n. take (length bytes - 12 - 12 * n) (drop 12 bytes)) e
  where
    size : length bytes - 12 * count - 12 ≡ length bytes - 12 - 12 * count
    size = omega arith

rows-are : (bytes : List ℕ) (count : ℕ) → 12 ≤ length bytes → 12 * count ≤ length bytes - 12 → count ≡ be16_at bytes 2 → taken_rows bytes count ≡ the_rows bytes
rows-are bytes count h room e =
    ap (rows_in count) (rest-is (length bytes - 12 * count) bytes ∙ ap (λ n. drop n bytes) size ∙ sym (drop-drop (length bytes - 12 - 12 * count) 12 bytes))
    ∙ ap (λ n. rows_in n (drop (length bytes - 12 - 12 * n) (drop 12 bytes))) e
  where
    size : length bytes - 12 * count ≡ 12 + (length bytes - 12 - 12 * count)
    size = omega (arith, h, room)

module _ (bytes : List ℕ) (g : RawGraph) (rows : List LargeAt) (count : ℕ) (h : 12 ≤ length bytes) (room : 12 * count ≤ length bytes - 12) (e : count ≡ be16_at bytes 2) (text : written stream_graph (taken_text bytes count) ≡ Some g)
    (named : map row_at rows ≡ taken_rows bytes count) where
  its-rows : map row_at rows ≡ the_rows bytes
  its-rows = named ∙ rows-are bytes count h room e

  its-room : 12 * be16_at bytes 2 ≤ length bytes - 12
  its-room = subst (λ n. 12 * n ≤ length bytes - 12) e room

  its-text : written stream_graph (the_text bytes) ≡ Some g
  its-text = ap (written stream_graph) (sym (text-is bytes count e)) ∙ text

  pub found : fits (map row_at rows) g ≡ true → record_read stream_graph bytes ≡ Some (the_row (be16_at bytes 0) (be32_at bytes 4) (be32_at bytes 8) (flat g) (map row_at rows), g)
  found is = fit bytes g h its-room its-text (ap (λ ls. fits ls g) (sym its-rows) ∙ is)
      ∙ ap {A = List LargeRow} {B = Option (EntryRow × RawGraph)} (λ ls. Some (the_row (be16_at bytes 0) (be32_at bytes 4) (be32_at bytes 8) (flat g) ls, g)) (sym its-rows)

  pub not_found : fits (map row_at rows) g ≡ false → record_read stream_graph bytes ≡ None
  not_found is = unfit bytes g h its-room its-text (ap (λ ls. fits ls g) (sym its-rows) ∙ is)
