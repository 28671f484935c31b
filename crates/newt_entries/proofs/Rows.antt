-- The fields of an entry's record, read from the front of bytes.
use Rattle.std.proofs.Common.{◌≡◌, ◌⊎◌, inl, inr, ℕ, zero, suc, ◌+◌, ◌-◌, ◌*◌, ◌^◌, ◌<◌, ◌≤◌, Bool, true, false, leb, List, [], ◌∷◌, length, get_or, take, drop, fold, Some, None, option_and_then, refl, ap, ◌∙◌, arith, leb-true, leb-false}
use Rattle.std.proofs.lemmas.Bool.{le-leb}
use Rattle.std.proofs.lemmas.List.{drop_all, length-drop, drop-drop, get_or-drop}
use Rattle.newt_base.specs.Text.{be16_at, be32_at}
use Rattle.newt_spec_store.specs.Reading.{Take, ◌>>=◌, give, number, some_bytes, times, whole_of}
use Rattle.newt_spec_store.specs.StoreOf.{LargeRow, large_row, EntryRow, entry_fields, entry_row}
use Rattle.newt_entries.specs.Entry.{rows_in}

le_or_lt : (a b : ℕ) → (a ≤ b) ⊎ (b < a)
le_or_lt a b = go (leb a b) refl
  where
    go : (t : Bool) → leb a b ≡ t → (a ≤ b) ⊎ (b < a)
    go true e = inl (leb-true a b e)
    go false e = inr (leb-false a b e)

gt-leb : (a b : ℕ) → b < a → leb a b ≡ false
gt-leb a b h = go (leb a b) refl
  where
    go : (t : Bool) → leb a b ≡ t → leb a b ≡ false
    go false e = e
    go true e = absurd (omega (arith, h, leb-true a b e))

-- the number in the first bytes
abbrev value : ℕ → List ℕ → ℕ
value n bytes = fold (λ a b. a * 256 + b) 0 (take n bytes)

reads : {B : Type 0} (n : ℕ) (f : ℕ → Take B) (bytes : List ℕ) → n ≤ length bytes → (number n >>= f) bytes ≡ f (value n bytes) (drop n bytes)
reads n f bytes h = rw (le-leb n (length bytes) h) refl

value16 : (bytes : List ℕ) → 2 ≤ length bytes → value 2 bytes ≡ be16_at bytes 0
value16 [] h = absurd (omega (arith, h))
value16 (a ∷ []) h = absurd (omega (arith, h))
value16 (a ∷ b ∷ bs) h = same a b
  where
    same : (a b : ℕ) → (0 * 256 + a) * 256 + b ≡ 256 * a + b
    same a b = omega arith

value32 : (bytes : List ℕ) → 4 ≤ length bytes → value 4 bytes ≡ be32_at bytes 0
value32 [] h = absurd (omega (arith, h))
value32 (a ∷ []) h = absurd (omega (arith, h))
value32 (a ∷ b ∷ []) h = absurd (omega (arith, h))
value32 (a ∷ b ∷ c ∷ []) h = absurd (omega (arith, h))
value32 (a ∷ b ∷ c ∷ d ∷ bs) h = same a b c d
  where
    same : (a b c d : ℕ) → (((0 * 256 + a) * 256 + b) * 256 + c) * 256 + d ≡ 2 ^ 16 * (256 * a + b) + (256 * c + d)
    same a b c d = omega arith

at_from : (k i n : ℕ) (bytes : List ℕ) → k + i ≡ n → get_or (drop k bytes) i 0 ≡ get_or bytes n 0
at_from k i n bytes h = get_or-drop k bytes i 0 ∙ ap (λ n. get_or bytes n 0) h

be16_from : (k : ℕ) (bytes : List ℕ) → be16_at (drop k bytes) 0 ≡ be16_at bytes k
be16_from k bytes = rw (at_from k 0 k bytes (omega arith), at_from k 1 (k + 1) bytes (omega arith)) refl

be32_from : (k : ℕ) (bytes : List ℕ) → be32_at (drop k bytes) 0 ≡ be32_at bytes k
be32_from k bytes =
    rw (at_from k 0 k bytes (omega arith), at_from k 1 (k + 1) bytes (omega arith), at_from k 2 (k + 2) bytes (omega arith), at_from k 3 (k + 2 + 1) bytes (omega arith)) refl

-- the record's reader from each field on
abbrev from_text : ℕ → ℕ → ℕ → ℕ → ℕ → Take EntryRow
from_text size soup count uid time =
    some_bytes (size - 12 * count) >>= λ text. times count large_row >>= λ larges. give (record { soup = soup; uid = uid; time = time; text = text; larges = larges })

abbrev from_time : ℕ → ℕ → ℕ → ℕ → Take EntryRow
from_time size soup count uid = number 4 >>= from_text size soup count uid

abbrev from_uid : ℕ → ℕ → ℕ → Take EntryRow
from_uid size soup count = number 4 >>= from_time size soup count

abbrev from_count : ℕ → ℕ → Take EntryRow
from_count size soup = number 2 >>= from_uid size soup

head_read : (size : ℕ) (bytes : List ℕ) → 12 ≤ length bytes → entry_fields size bytes ≡ from_text size (be16_at bytes 0) (be16_at bytes 2) (be32_at bytes 4) (be32_at bytes 8) (drop 12 bytes)
head_read size bytes h =
    let b1 : List ℕ = drop 2 bytes in
    let b2 : List ℕ = drop 2 b1 in
    let b3 : List ℕ = drop 4 b2 in
    let h1 : 10 ≤ length b1 = omega (arith, length-drop 2 bytes, h) in
    let h2 : 8 ≤ length b2 = omega (arith, length-drop 2 b1, h1) in
    let h3 : 4 ≤ length b3 = omega (arith, length-drop 4 b2, h2) in
    let at2 : b2 ≡ drop 4 bytes = drop-drop 2 2 bytes in
    let at3 : b3 ≡ drop 8 bytes = ap (drop 4) at2 ∙ drop-drop 4 4 bytes in
    let at4 : drop 4 b3 ≡ drop 12 bytes = ap (drop 4) at3 ∙ drop-drop 4 8 bytes in
    let soup : value 2 bytes ≡ be16_at bytes 0 = value16 bytes (omega (arith, h)) in
    let count : value 2 b1 ≡ be16_at bytes 2 = value16 b1 (omega (arith, h1)) ∙ be16_from 2 bytes in
    let uid : value 4 b2 ≡ be32_at bytes 4 = value32 b2 (omega (arith, h2)) ∙ ap (λ (bs : List ℕ). be32_at bs 0) at2 ∙ be32_from 4 bytes in
    let time : value 4 b3 ≡ be32_at bytes 8 = value32 b3 h3 ∙ ap (λ (bs : List ℕ). be32_at bs 0) at3 ∙ be32_from 8 bytes in
    reads 2 (from_count size) bytes (omega (arith, h)) ∙ reads 2 (from_uid size (value 2 bytes)) b1 (omega (arith, h1))
    ∙ reads 4 (from_time size (value 2 bytes) (value 2 b1)) b2 (omega (arith, h2)) ∙ reads 4 (from_text size (value 2 bytes) (value 2 b1) (value 4 b2)) b3 h3
    ∙ ap (λ (n : ℕ). from_text size n (value 2 b1) (value 4 b2) (value 4 b3) (drop 4 b3)) soup
    ∙ ap (λ (n : ℕ). from_text size (be16_at bytes 0) n (value 4 b2) (value 4 b3) (drop 4 b3)) count
    ∙ ap (λ (n : ℕ). from_text size (be16_at bytes 0) (be16_at bytes 2) n (value 4 b3) (drop 4 b3)) uid
    ∙ ap (λ (n : ℕ). from_text size (be16_at bytes 0) (be16_at bytes 2) (be32_at bytes 4) n (drop 4 b3)) time
    ∙ ap (from_text size (be16_at bytes 0) (be16_at bytes 2) (be32_at bytes 4) (be32_at bytes 8)) at4

-- ---- the rows of large binaries

large_read : (bytes : List ℕ) → 12 ≤ length bytes → large_row bytes ≡ Some ((be32_at bytes 0, be32_at bytes 4, be32_at bytes 8), drop 12 bytes)
large_read bytes h =
    let b1 : List ℕ = drop 4 bytes in
    let b2 : List ℕ = drop 4 b1 in
    let h1 : 8 ≤ length b1 = omega (arith, length-drop 4 bytes, h) in
    let h2 : 4 ≤ length b2 = omega (arith, length-drop 4 b1, h1) in
    let at2 : b2 ≡ drop 8 bytes = drop-drop 4 4 bytes in
    let at3 : drop 4 b2 ≡ drop 12 bytes = ap (drop 4) at2 ∙ drop-drop 4 8 bytes in
    let node : value 4 bytes ≡ be32_at bytes 0 = value32 bytes (omega (arith, h)) in
    let object : value 4 b1 ≡ be32_at bytes 4 = value32 b1 (omega (arith, h1)) ∙ be32_from 4 bytes in
    let len : value 4 b2 ≡ be32_at bytes 8 = value32 b2 h2 ∙ ap (λ (bs : List ℕ). be32_at bs 0) at2 ∙ be32_from 8 bytes in
    reads 4 from_object bytes (omega (arith, h)) ∙ reads 4 (from_len (value 4 bytes)) b1 (omega (arith, h1)) ∙ reads 4 (λ len. give (value 4 bytes, value 4 b1, len)) b2 h2
    ∙ (λ i. Some ((node i, object i, len i), at3 i))
  where
    from_len : ℕ → ℕ → Take LargeRow
    from_len node object = number 4 >>= λ len. give (node, object, len)

    from_object : ℕ → Take LargeRow
    from_object node = number 4 >>= from_len node

pub larges_read : (n : ℕ) (bytes : List ℕ) → 12 * n ≤ length bytes → times n large_row bytes ≡ Some (rows_in n bytes, drop (12 * n) bytes)
larges_read zero bytes h = refl
larges_read (suc n) bytes h =
    let rest : 12 * n ≤ length (drop 12 bytes) = omega (arith, length-drop 12 bytes, h) in
    ap (option_and_then (λ (r : LargeRow × List ℕ). (times n large_row >>= λ ls. give (r.0 ∷ ls)) r.1)) (large_read bytes (omega (arith, h)))
    ∙ ap (option_and_then (λ (r : List LargeRow × List ℕ). Some ((be32_at bytes 0, be32_at bytes 4, be32_at bytes 8) ∷ r.0, r.1))) (larges_read n (drop 12 bytes) rest)
    ∙ (λ i. Some (rows_in (suc n) bytes, (drop-drop (12 * n) 12 bytes ∙ ap (λ k. drop k bytes) more) i))
  where
    more : 12 + 12 * n ≡ 12 * suc n
    more = omega arith

none_read : {B : Type 0} (n : ℕ) (f : ℕ → Take B) (bytes : List ℕ) → length bytes < n → (number n >>= f) bytes ≡ None
none_read n f bytes h = rw (gt-leb n (length bytes) h) refl

large_short : (bytes : List ℕ) → length bytes < 12 → large_row bytes ≡ None
large_short bytes h = go (le_or_lt 4 (length bytes))
  where
    from_len : ℕ → ℕ → Take LargeRow
    from_len node object = number 4 >>= λ len. give (node, object, len)

    from_object : ℕ → Take LargeRow
    from_object node = number 4 >>= from_len node

    third : 4 ≤ length bytes → 8 ≤ length bytes → large_row bytes ≡ None
    third a b = reads 4 from_object bytes a ∙ reads 4 (from_len (value 4 bytes)) (drop 4 bytes) (omega (arith, length-drop 4 bytes, b))
        ∙ none_read 4 (λ len. give (value 4 bytes, value 4 (drop 4 bytes), len)) (drop 4 (drop 4 bytes)) (omega (arith, length-drop 4 (drop 4 bytes), length-drop 4 bytes, h))

    second : 4 ≤ length bytes → (8 ≤ length bytes) ⊎ (length bytes < 8) → large_row bytes ≡ None
    second a (inl b) = third a b
    second a (inr b) = reads 4 from_object bytes a ∙ none_read 4 (from_len (value 4 bytes)) (drop 4 bytes) (omega (arith, length-drop 4 bytes, b))

    go : (4 ≤ length bytes) ⊎ (length bytes < 4) → large_row bytes ≡ None
    go (inl a) = second a (le_or_lt 8 (length bytes))
    go (inr a) = none_read 4 from_object bytes a

larges_short : (n : ℕ) (bytes : List ℕ) → length bytes < 12 * n → times n large_row bytes ≡ None
larges_short zero bytes h = absurd (omega (arith, h))
larges_short (suc n) bytes h = go (larges_short n (drop 12 bytes)) (le_or_lt 12 (length bytes))
  where
    go : (length (drop 12 bytes) < 12 * n → times n large_row (drop 12 bytes) ≡ None) → (12 ≤ length bytes) ⊎ (length bytes < 12) → times (suc n) large_row bytes ≡ None
    go more (inl a) = ap (option_and_then (λ (r : LargeRow × List ℕ). (times n large_row >>= λ ls. give (r.0 ∷ ls)) r.1)) (large_read bytes a)
        ∙ ap (option_and_then (λ (r : List LargeRow × List ℕ). Some ((be32_at bytes 0, be32_at bytes 4, be32_at bytes 8) ∷ r.0, r.1))) (more (omega (arith, length-drop 12 bytes, h)))
    go more (inr a) = ap (option_and_then (λ (r : LargeRow × List ℕ). (times n large_row >>= λ ls. give (r.0 ∷ ls)) r.1)) (large_short bytes a)

-- ---- whole records

abbrev pub the_row : ℕ → ℕ → ℕ → List ℕ → List LargeRow → EntryRow
the_row soup uid time text larges = record { soup = soup; uid = uid; time = time; text = text; larges = larges }

-- where the text ends
abbrev pub text_size : List ℕ → ℕ
text_size bytes = length bytes - 12 - 12 * be16_at bytes 2

taken : (n : ℕ) (rest : List ℕ) → n ≤ length rest → some_bytes n rest ≡ Some (take n rest, drop n rest)
taken n rest h = rw (le-leb n (length rest) h) refl

pub row_read : (bytes : List ℕ) → 12 ≤ length bytes → 12 * be16_at bytes 2 ≤ length bytes - 12
    → entry_row bytes ≡ Some (the_row (be16_at bytes 0) (be32_at bytes 4) (be32_at bytes 8) (take (text_size bytes) (drop 12 bytes)) (rows_in (be16_at bytes 2) (drop (text_size bytes) (drop 12 bytes))))
row_read bytes h room =
    let rest : List ℕ = drop 12 bytes in
    let size : length rest ≡ length bytes - 12 = length-drop 12 bytes in
    let fits : text_size bytes ≤ length rest = omega (arith, size) in
    let left : length (drop (text_size bytes) rest) ≡ 12 * be16_at bytes 2 = omega (arith, length-drop (text_size bytes) rest, size, room) in
    ap whole_of (head_read (length bytes - 12) bytes h
    ∙ ap (option_and_then (λ (r : List ℕ × List ℕ). (times (be16_at bytes 2) large_row >>= λ ls. give (the_row (be16_at bytes 0) (be32_at bytes 4) (be32_at bytes 8) r.0 ls)) r.1)) (taken (text_size bytes) rest fits)
    ∙ ap (option_and_then (λ (r : List LargeRow × List ℕ). Some (the_row (be16_at bytes 0) (be32_at bytes 4) (be32_at bytes 8) (take (text_size bytes) rest) r.0, r.1)))
    (larges_read (be16_at bytes 2) (drop (text_size bytes) rest) (omega (arith, left)))
    ∙ ap (λ (bs : List ℕ). Some (the_row (be16_at bytes 0) (be32_at bytes 4) (be32_at bytes 8) (take (text_size bytes) rest) (rows_in (be16_at bytes 2) (drop (text_size bytes) rest)), bs))
    (drop_all (12 * be16_at bytes 2) (drop (text_size bytes) rest) (omega (arith, left))))

pub row_short : (bytes : List ℕ) → 12 ≤ length bytes → length bytes - 12 < 12 * be16_at bytes 2 → entry_row bytes ≡ None
row_short bytes h room =
    let rest : List ℕ = drop 12 bytes in
    let size : length rest ≡ length bytes - 12 = length-drop 12 bytes in
    let none : text_size bytes ≡ 0 = omega (arith, room) in
    ap whole_of (head_read (length bytes - 12) bytes h
    ∙ ap (λ (n : ℕ). (some_bytes n >>= λ text. times (be16_at bytes 2) large_row >>= λ ls. give (the_row (be16_at bytes 0) (be32_at bytes 4) (be32_at bytes 8) text ls)) rest) none
    ∙ ap (option_and_then (λ (r : List ℕ × List ℕ). (times (be16_at bytes 2) large_row >>= λ ls. give (the_row (be16_at bytes 0) (be32_at bytes 4) (be32_at bytes 8) r.0 ls)) r.1)) (taken 0 rest (omega arith))
    ∙ ap (option_and_then (λ (r : List LargeRow × List ℕ). Some (the_row (be16_at bytes 0) (be32_at bytes 4) (be32_at bytes 8) [] r.0, r.1)))
    (larges_short (be16_at bytes 2) rest (omega (arith, size, room))))
