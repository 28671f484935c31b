-- One reply more.
use Rattle.std.proofs.Common.{◌≡◌, ap, sym, ◌∙◌, ℕ, ◌+◌, ◌<◌, ◌≤◌, ◌^◌, Bool, true, false, List, [], ◌∷◌, ◌++◌, length, codes, cond, decimal, append_assoc, arith}
use Rattle.std.specs.Prelude.{count_by}
use Rattle.std.proofs.lemmas.List.{length-append}
use Rattle.std.proofs.lemmas.List.Sums.{count_by-le-length, sum_by-append}
use Rattle.newt_base.proofs.Numerals.{decimal_written}
use Rattle.newt_spec_script.specs.Generator.{begins, summary, summary_line}
use Rattle.newt_script_session.specs.Counts.{Counts, Tallies, lines_of_tally, summary_of}
use Rattle.newt_spec_script.specs.Rows.{Row, reply_texts}
use Rattle.newt_spec_whole.specs.Whole.{Whole}
use Rattle.newt_script_session.specs.declared.tally.Tally.{Tally}

one_at_most : (b : Bool) → cond b 1 0 ≤ 1
one_at_most true = omega arith
one_at_most false = omega arith

-- a count that stops at the last of its type is exact as long as it fits
pub one_more : (old new : Tally) (text : List ℕ) → length text < 2 ^ 64
    → (old.commands + 1 < 2 ^ 64 → new.commands ≡ old.commands + 1)
    → (old.oks + cond (begins (codes "ok") text) 1 0 < 2 ^ 64 → new.oks ≡ old.oks + cond (begins (codes "ok") text) 1 0)
    → (old.errors + cond (begins (codes "error") text) 1 0 < 2 ^ 64 → new.errors ≡ old.errors + cond (begins (codes "error") text) 1 0)
    → (old.bytes + length text < 2 ^ 128 → new.bytes ≡ old.bytes + length text)
    → (texts : List (List ℕ)) → Tallies old texts → Tallies new (texts ++ text ∷ [])
one_more old new text fits commands oks errors bytes texts tallies = λ room.
    let size : length (texts ++ text ∷ []) ≡ length texts + 1 = length-append texts (text ∷ []) in
    let k = tallies (omega (arith, room, size)) in
    let n = length texts in
    let all_oks = sum_by-append (λ t. cond (begins (codes "ok") t) 1 0) texts (text ∷ []) in
    let all_errors = sum_by-append (λ t. cond (begins (codes "error") t) 1 0) texts (text ∷ []) in
    let all_bytes = sum_by-append length texts (text ∷ []) in
    let some_oks = count_by-le-length (begins (codes "ok")) texts in
    let some_errors = count_by-le-length (begins (codes "error")) texts in
    let one_ok = one_at_most (begins (codes "ok") text) in
    let one_error = one_at_most (begins (codes "error") text) in
    let all : n + 1 < 2 ^ 64 = omega (arith, room, size) in
    let command = commands (omega (arith, all, k.commands)) in
    let ok = oks (omega (arith, all, k.oks, some_oks, one_ok)) in
    let error = errors (omega (arith, all, k.errors, some_errors, one_error)) in
    let byte = bytes (omega (arith, all, k.bytes, k.few, fits)) in
    record {
      commands = omega (arith, command, k.commands, size);
      oks = omega (arith, ok, k.oks, all_oks);
      errors = omega (arith, error, k.errors, all_errors);
      bytes = omega (arith, byte, k.bytes, all_bytes);
      few = omega (arith, k.few, all_bytes, size, fits);
    }

-- the lines of the tally of texts
lines_summary : (tally : Tally) (texts : List (List ℕ)) → Counts tally texts → lines_of_tally tally ≡ summary texts
unfolding lines_of_tally
lines_summary tally texts k =
    ap (λ n. summary_line (codes "commands") n ++ summary_line (codes "ok") tally.oks ++ summary_line (codes "errors") tally.errors ++ summary_line (codes "bytes") tally.bytes) k.commands
    ∙ (ap (λ n. summary_line (codes "commands") (length texts) ++ summary_line (codes "ok") n ++ summary_line (codes "errors") tally.errors ++ summary_line (codes "bytes") tally.bytes) k.oks
    ∙ (ap (λ n. summary_line (codes "commands") (length texts) ++ summary_line (codes "ok") (count_by (begins (codes "ok")) texts) ++ summary_line (codes "errors") n ++ summary_line (codes "bytes") tally.bytes) k.errors
    ∙ ap (λ n. summary_line (codes "commands") (length texts) ++ summary_line (codes "ok") (count_by (begins (codes "ok")) texts) ++ summary_line (codes "errors") (count_by (begins (codes "error")) texts) ++ summary_line (codes "bytes") n) k.bytes))

-- a line of a word and a number, as std writes the number
pub line_written : (old word : List ℕ) (n : ℕ) → (old ++ word) ++ (32 ∷ (decimal n ++ 10 ∷ [])) ≡ old ++ summary_line word n
line_written old word n =
    append_assoc old word (32 ∷ (decimal n ++ 10 ∷ []))
    ∙ ap (λ (t : List ℕ). old ++ t) (sym (append_assoc word (32 ∷ decimal n) (10 ∷ [])) ∙ ap (λ (t : List ℕ). (word ++ 32 ∷ t) ++ 10 ∷ []) (sym (decimal_written n)))

-- the four lines after one another
pushed : (a b c d t0 t1 t2 t3 t4 : List ℕ) → t0 ≡ [] → t1 ≡ t0 ++ a → t2 ≡ t1 ++ b → t3 ≡ t2 ++ c → t4 ≡ t3 ++ d → t4 ≡ a ++ b ++ c ++ d
pushed a b c d t0 t1 t2 t3 t4 e0 e1 e2 e3 e4 =
    let all : t4 ≡ (((([] ++ a) ++ b) ++ c) ++ d) =
    e4 ∙ ap (λ (t : List ℕ). t ++ d) (e3 ∙ ap (λ (t : List ℕ). t ++ c) (e2 ∙ ap (λ (t : List ℕ). t ++ b) (e1 ∙ ap (λ (t : List ℕ). t ++ a) e0))) in
    all ∙ simp append_assoc

pub lines_pushed : (tally : Tally) (commands oks errors : ℕ) (t0 t1 t2 t3 t4 : List ℕ) → commands ≡ tally.commands → oks ≡ tally.oks → errors ≡ tally.errors
    → t0 ≡ [] → t1 ≡ t0 ++ summary_line (codes "commands") commands → t2 ≡ t1 ++ summary_line (codes "ok") oks → t3 ≡ t2 ++ summary_line (codes "errors") errors
    → t4 ≡ t3 ++ summary_line (codes "bytes") tally.bytes → t4 ≡ lines_of_tally tally
unfolding lines_of_tally
lines_pushed tally commands oks errors t0 t1 t2 t3 t4 n1 n2 n3 e0 e1 e2 e3 e4 =
    pushed (summary_line (codes "commands") tally.commands) (summary_line (codes "ok") tally.oks) (summary_line (codes "errors") tally.errors) (summary_line (codes "bytes") tally.bytes) t0 t1 t2 t3 t4
    e0 (e1 ∙ ap (λ n. t0 ++ summary_line (codes "commands") n) n1) (e2 ∙ ap (λ n. t1 ++ summary_line (codes "ok") n) n2) (e3 ∙ ap (λ n. t2 ++ summary_line (codes "errors") n) n3) e4

-- the lines of the tally of the replies of a run
pub tally_summary : (rows : List (Row Whole)) (tally : Tally) → Counts tally (reply_texts rows) → lines_of_tally tally ≡ summary_of rows
unfolding summary_of
tally_summary rows tally k = lines_summary tally (reply_texts rows) k
