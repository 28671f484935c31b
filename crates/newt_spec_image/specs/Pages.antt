-- The pages that an image holds: what is there after all of its records were applied, in order.
use Rattle.std.specs.Prelude.{ℕ, suc, zero, ◌+◌, ◌*◌, ◌-◌, ◌/◌, ◌==◌, nat_le, ◌&&◌, not, Bool, true, if◌then◌else◌, List, [], ◌∷◌, ◌++◌, length, take, drop, map, Option, Some, None}
use Rattle.std.specs.List.{list_all, list_any, flat_map}
use Rattle.std.specs.Int.{to_be_bytes, from_be_bytes, w16, w32}
use Rattle.std.specs.Ordering.{nat_cmp}
use Rattle.std.specs.FinMap as map
use Rattle.newt_spec_image.specs.Records.{and_then, records}

-- the number in the two bytes from `at` on, the most significant first
abbrev pub short_at : ℕ → List ℕ → ℕ
short_at at bytes = from_be_bytes w16 (take 2 (drop at bytes))

-- the number in the four bytes from `at` on
abbrev pub word_at : ℕ → List ℕ → ℕ
word_at at bytes = from_be_bytes w32 (take 4 (drop at bytes))

-- A page has 512 bytes: the id of its object, the number of its part and the length of its object,
-- in four bytes each, and 500 bytes of data.
abbrev pub object_id : List ℕ → ℕ
object_id page = word_at 0 page

-- the number of the part
abbrev pub part_number : List ℕ → ℕ
part_number page = word_at 4 page

-- the length of the object
abbrev pub object_length : List ℕ → ℕ
object_length page = word_at 8 page

-- the data of the page
abbrev pub page_data : List ℕ → List ℕ
page_data page = drop 12 page

-- Pages by their numbers.
abbrev pub Pages : Type 0
Pages = map.FinMap nat_cmp (List ℕ)

-- a page that is put, with its number before it
abbrev pub Put : Type 0
Put = ℕ × List ℕ

-- What a payload changes: the pages that it puts, and the numbers of the pages that it deletes.
pub record Change : Type 0 where
  pub puts : List Put
  pub deletes : List ℕ

-- the numbers of all pages that a change puts or deletes
abbrev pub change_numbers : Change → List ℕ
change_numbers change = map (λ put. put.0) change.puts ++ change.deletes

-- no number twice
abbrev pub all_distinct : List ℕ → Bool
all_distinct [] = true
all_distinct (n ∷ ns) = not (list_any (λ m. n == m) ns) && all_distinct ns

-- so many puts from the first byte on, each a page number in four bytes and a page of 512 bytes
abbrev pub puts_from : ℕ → List ℕ → List Put
puts_from zero bytes = []
puts_from (suc n) bytes = (word_at 0 bytes, take 512 (drop 4 bytes)) ∷ puts_from n (drop 516 bytes)

-- so many deletes from the first byte on, each a page number in four bytes
abbrev pub deletes_from : ℕ → List ℕ → List ℕ
deletes_from zero bytes = []
deletes_from (suc n) bytes = word_at 0 bytes ∷ deletes_from n (drop 4 bytes)

-- The change that a payload spells: how many puts and how many deletes it has, in two bytes each,
-- then the puts, then the deletes.
abbrev pub said_by : List ℕ → Change
said_by payload = record {
  puts = puts_from (short_at 0 payload) (drop 4 payload);
  deletes = deletes_from (short_at 2 payload) (drop (4 + 516 * short_at 0 payload) payload);
}

-- a payload has the form of a change: exactly the bytes that its counts ask for, page numbers below
-- 65,536, and no page number twice
abbrev pub is_change : List ℕ → Bool
is_change payload =
    (length payload == 4 + 516 * short_at 0 payload + 4 * short_at 2 payload)
    && (list_all (λ n. nat_le n 65535) (change_numbers (said_by payload)) && all_distinct (change_numbers (said_by payload)))

-- the change of a payload, where it has the form of one
abbrev pub change_in : List ℕ → Option Change
change_in payload = if is_change payload then Some (said_by payload) else None

-- How a put is written: the page number in four bytes, and the page.
abbrev pub written_put : Put → List ℕ
written_put put = to_be_bytes w32 put.0 ++ put.1

-- how a delete is written: the page number in four bytes
abbrev pub written_delete : ℕ → List ℕ
written_delete number = to_be_bytes w32 number

-- the payload of a change
unfoldable pub written_change : Change → List ℕ
written_change change = (to_be_bytes w16 (length change.puts) ++ to_be_bytes w16 (length change.deletes)) ++ flat_map written_put change.puts ++ flat_map written_delete change.deletes

-- the pages after these puts
abbrev pub with_puts : List Put → Pages → Pages
with_puts [] pages = pages
with_puts (put ∷ puts) pages = with_puts puts (map.insert pages put.0 put.1)

-- the pages without those of these numbers
abbrev pub without_numbers : List ℕ → Pages → Pages
without_numbers [] pages = pages
without_numbers (n ∷ ns) pages = without_numbers ns (map.remove pages n)

-- the pages after a change: its puts are set, and then its deletes are removed
abbrev pub after : Change → Pages → Pages
after change pages = without_numbers change.deletes (with_puts change.puts pages)

-- the pages after these payloads, in order; none where one of them does not have the form of a
-- change
abbrev pub pages_after : List (List ℕ) → Pages → Option Pages
pages_after [] pages = Some pages
pages_after (payload ∷ payloads) pages = and_then (change_in payload) (λ change. pages_after payloads (after change pages))

-- The pages of an image. None where it has no readable records, or a payload does not have the form
-- of a change.
abbrev pub pages : List ℕ → Option Pages
pages image = and_then (records image) (λ payloads. pages_after payloads map.empty)

-- the most live pages that a unit of so many blocks may have
abbrev pub cap : ℕ → ℕ
cap blocks = (4096 * ((blocks - 3) / 2) - 16) / 525
