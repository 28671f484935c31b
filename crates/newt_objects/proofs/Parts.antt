-- Parts of a text, and how their pages are written.
use Rattle.std.proofs.Common.{◌≡◌, ℕ, suc, ◌+◌, ◌-◌, ◌^◌, ◌<◌, ◌≤◌, min, List, [], ◌∷◌, ◌++◌, length, take, drop, replicate, refl, sym, ◌∙◌, ap, arith, ⊎_elim, length-drop, append_assoc}
use Rattle.std.specs.Int.{to_be_bytes, from_be_bytes, w32}
use Rattle.std.proofs.lemmas.Bool.{cases_lt}
use Rattle.std.proofs.lemmas.List.{take_all, take_at, drop_all, drop_at, drop-drop, length-replicate, drop-replicate}
use Rattle.std.proofs.lemmas.Nat.{from_be_bytes-to_be_bytes_4}
use Rattle.newt_host.specs.Moments.{overwritten}
use Rattle.newt_spec_image.specs.Pages.{object_id, part_number, object_length, page_data, word_at}
use Rattle.newt_spec_image.specs.Objects.{IsPart, written_page, written_parts, part_bytes}
use Rattle.newt_objects.specs.Held.{BeginsWith}

pub part_slice : (bytes : List ℕ) (at start end : ℕ) → start ≡ min (length bytes) at → end ≡ min (length bytes) (start + 500) → take (end - start) (drop start bytes) ≡ take 500 (drop at bytes)
part_slice bytes at start end s e = ⊎_elim
    (λ (low : at < length bytes).
    let same : start ≡ at = omega arith in
    ⊎_elim
    (λ (long : length bytes < at + 500).
    take_all (end - start) (drop start bytes) (omega (arith, length-drop start bytes))
    ∙ ap (λ (k : ℕ). drop k bytes) same
    ∙ sym (take_all 500 (drop at bytes) (omega (arith, length-drop at bytes))))
    (λ (short : at + 500 ≤ length bytes).
    let size : end - start ≡ 500 = omega arith in
    ap (λ (k : ℕ). take k (drop start bytes)) size ∙ ap (λ (k : ℕ). take 500 (drop k bytes)) same)
    (cases_lt (length bytes) (at + 500)))
    (λ (high : length bytes ≤ at).
    let same : start ≡ length bytes = omega arith in
    take_all (end - start) (drop start bytes) (omega (arith, length-drop start bytes))
    ∙ drop_all start bytes (omega arith)
    ∙ sym (take_all 500 (drop at bytes) (omega (arith, length-drop at bytes)) ∙ drop_all at bytes high))
    (cases_lt at (length bytes))

word_first : (n : ℕ) (rest : List ℕ) → n < 2 ^ 32 → word_at 0 (to_be_bytes w32 n ++ rest) ≡ n
word_first n rest low = ap (from_be_bytes w32) (take_at (to_be_bytes w32 n) rest 4 refl) ∙ from_be_bytes-to_be_bytes_4 n low

word_after : (front : List ℕ) (at n : ℕ) (rest : List ℕ) → length front ≡ at → n < 2 ^ 32 → word_at at (front ++ (to_be_bytes w32 n ++ rest)) ≡ n
word_after front at n rest size low = ap (λ (l : List ℕ). from_be_bytes w32 (take 4 l)) (drop_at front (to_be_bytes w32 n ++ rest) at size) ∙ word_first n rest low

module _ (id part size : ℕ) (bytes : List ℕ) where
  split : written_page id part size bytes ≡ to_be_bytes w32 id ++ (to_be_bytes w32 part ++ (to_be_bytes w32 size ++ (bytes ++ replicate (500 - length bytes) 0)))
  unfolding written_page
  split = simp append_assoc

  -- the header says which part it is, and the bytes stand after it
  pub written_is_part : id < 2 ^ 32 → part < 2 ^ 32 → size < 2 ^ 32 → IsPart id part size (written_page id part size bytes)
  written_is_part i p s =
      let end : List ℕ = bytes ++ replicate (500 - length bytes) 0 in
      record {
        of_object = ap object_id split ∙ word_first id (to_be_bytes w32 part ++ (to_be_bytes w32 size ++ end)) i;
        of_part = ap part_number split ∙ word_after (to_be_bytes w32 id) 4 part (to_be_bytes w32 size ++ end) refl p;
        of_size = ap object_length (split ∙ sym (append_assoc (to_be_bytes w32 id) (to_be_bytes w32 part) (to_be_bytes w32 size ++ end)))
            ∙ word_after (to_be_bytes w32 id ++ to_be_bytes w32 part) 8 size end refl s;
      }

  pub written_begins : length bytes ≤ 500 → BeginsWith bytes (page_data (written_page id part size bytes))
  unfolding written_page
  written_begins short = record {
    rest = replicate (500 - length bytes) 0;
    is = ap page_data (append_assoc (to_be_bytes w32 id ++ to_be_bytes w32 part ++ to_be_bytes w32 size) bytes (replicate (500 - length bytes) 0))
        ∙ drop_at (to_be_bytes w32 id ++ to_be_bytes w32 part ++ to_be_bytes w32 size) (bytes ++ replicate (500 - length bytes) 0) 12 refl;
    size = omega (arith, short, length-replicate {A = ℕ} (500 - length bytes) 0);
  }

-- one part more
pub written_parts-push : (part id : ℕ) (bytes numbers : List ℕ) (number : ℕ) → written_parts part id bytes (numbers ++ number ∷ [])
    ≡ written_parts part id bytes numbers ++ (number, written_page id (part + length numbers) (length bytes) (part_bytes (part + length numbers) bytes)) ∷ []
written_parts-push part id bytes [] number = ap (λ (k : ℕ). (number, written_page id k (length bytes) (part_bytes k bytes)) ∷ []) (let e : part ≡ part + 0 = omega arith in e)
written_parts-push part id bytes (n ∷ numbers) number =
    ap (λ (l : List (ℕ × List ℕ)). (n, written_page id part (length bytes) (part_bytes part bytes)) ∷ l) (written_parts-push (suc part) id bytes numbers number
    ∙ ap (λ (k : ℕ). written_parts (suc part) id bytes numbers ++ (number, written_page id k (length bytes) (part_bytes k bytes)) ∷ []) (let e : suc part + length numbers ≡ part + length (n ∷ numbers) = omega arith in e))

-- bytes in place of the first of the zeros after some others
zeros_filled : (front bytes page : List ℕ) (at more : ℕ) → length front ≡ at → page ≡ front ++ replicate (length bytes + more) 0 → overwritten page at bytes ≡ (front ++ bytes) ++ replicate more 0
zeros_filled front bytes page at more size is =
    let zeros : List ℕ = replicate (length bytes + more) 0 in
    let rest : drop (at + length bytes) page ≡ replicate more 0 =
    ap (λ (l : List ℕ). drop (at + length bytes) l) is ∙ sym (drop-drop (length bytes) at (front ++ zeros)) ∙ ap (λ (l : List ℕ). drop (length bytes) l) (drop_at front zeros at size)
    ∙ drop-replicate (length bytes) (length bytes + more) 0 ∙ ap (λ (n : ℕ). replicate n 0) (let e : length bytes + more - length bytes ≡ more = omega arith in e) in
    ap (λ (l : List ℕ). take at l ++ bytes ++ drop (at + length bytes) page) is
    ∙ ap (λ (l : List ℕ). l ++ bytes ++ drop (at + length bytes) page) (take_at front zeros at size)
    ∙ ap (λ (l : List ℕ). front ++ bytes ++ l) rest

-- the page that is written piece by piece
pub pieces_written : (id part size : ℕ) (bytes p1 p2 p3 p4 : List ℕ) → length bytes ≤ 500 → p1 ≡ overwritten (replicate 512 0) 0 (to_be_bytes w32 id) → p2 ≡ overwritten p1 4 (to_be_bytes w32 part)
    → p3 ≡ overwritten p2 8 (to_be_bytes w32 size) → p4 ≡ overwritten p3 12 bytes → p4 ≡ written_page id part size bytes
unfolding written_page
pieces_written id part size bytes p1 p2 p3 p4 short e1 e2 e3 e4 =
    let a : List ℕ = to_be_bytes w32 id in
    let b : List ℕ = to_be_bytes w32 part in
    let c : List ℕ = to_be_bytes w32 size in
    let f1 : p1 ≡ a ++ replicate 508 0 = e1 ∙ zeros_filled [] a (replicate 512 0) 0 508 refl refl in
    let f2 : p2 ≡ (a ++ b) ++ replicate 504 0 = e2 ∙ zeros_filled a b p1 4 504 refl f1 in
    let f3 : p3 ≡ (a ++ b ++ c) ++ replicate 500 0 = e3 ∙ zeros_filled (a ++ b) c p2 8 500 refl f2 in
    e4 ∙ zeros_filled (a ++ b ++ c) bytes p3 12 (500 - length bytes) refl (f3 ∙ ap (λ (n : ℕ). a ++ b ++ c ++ replicate n 0) (let e : 500 ≡ length bytes + (500 - length bytes) = omega arith in e))
