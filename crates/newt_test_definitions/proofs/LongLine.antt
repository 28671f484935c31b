-- A line of more bytes than a line may have is refused, and the script goes on after it.
use Rattle.std.proofs.Common.{◌≡◌, refl, ap, ◌∙◌, ℕ, zero, suc, List, ◌∷◌, ◌++◌, true, Some, Err, replicate, length, nat_lt, filter_map, map, codes}
use Rattle.std.specs.List.{cons_option}
use Rattle.std.proofs.lemmas.List.{length-replicate}
use Rattle.newt_base.specs.declared.Refusal.TheVariants.{Longline}
use Rattle.newt_spec_script.specs.Line.{ready, within_length, parsed}
use Rattle.newt_spec_script.specs.Script.{lines, without_return, parsed_lines, item_of, output}
use Rattle.newt_spec_world.specs.Answer.{answer}
use Rattle.newt_test_definitions.specs.Worlds.{blank_units}
use Rattle.newt_script.specs.Graphs.{readers}
use Rattle.newt_test_definitions.specs.Scripts.{answers, line_of_x}
use Rattle.newt_test_definitions.proofs.Tables.{open_tables}

lines-long : (n : ℕ) (rest : List ℕ) → lines (line_of_x n ++ 10 ∷ rest) ≡ line_of_x n ∷ lines rest
unfolding line_of_x
lines-long zero rest = refl
lines-long (suc n) rest = rw (lines-long n rest)

without-long : (n : ℕ) → without_return (line_of_x n) ≡ line_of_x n
unfolding line_of_x
without-long zero = refl
without-long (suc zero) = refl
without-long (suc (suc n)) = ap (λ l. 120 ∷ l) (without-long (suc n))

long-parsed : (n : ℕ) → nat_lt 140_000 n ≡ true → parsed (line_of_x n) ≡ Some (ready (Err Longline))
unfolding line_of_x
long-parsed zero h = cc
long-parsed (suc n) h =
    let e : nat_lt 140_000 (length (replicate (suc n) 120)) ≡ true = ap (nat_lt 140_000) (length-replicate (suc n) 120) ∙ h in
    ap (λ b. Some (within_length b (replicate (suc n) 120))) e

long-lines : (n : ℕ) (rest : List ℕ) → nat_lt 140_000 n ≡ true → parsed_lines (line_of_x n ++ 10 ∷ rest) ≡ ready (Err Longline) ∷ parsed_lines rest
long-lines n rest h =
    ap (filter_map (λ l. parsed (without_return l))) (lines-long n rest)
    ∙ ap (λ o. cons_option o (parsed_lines rest)) (ap parsed (without-long n) ∙ long-parsed n h)

pub long-answered : (n : ℕ) → nat_lt 140_000 n ≡ true
    → answers (blank_units 1) (line_of_x n ++ codes "\nget 0 S\nquit now\nlit nil\n") ≡ codes "error 12 longline\nerror 11 line\nerror 11 line\nok nil\n"
unfolding open_tables
long-answered n h =
    ap (λ ps. output answer (blank_units 1) (map (item_of readers) ps)) (long-lines n (codes "get 0 S\nquit now\nlit nil\n") h)
