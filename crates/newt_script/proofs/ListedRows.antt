-- What the rows on indexes, tags and info frames read, over the readers that stay closed.
use Rattle.std.proofs.Common.{◌≡◌, ℕ, Bool, true, false, ◌==◌, List, [], length, Option, Some, None, Result, Ok, Err, if◌then◌else◌, codes, refl, ap, ◌∙◌}
use Rattle.newt_base.specs.Names.{same_name}
use Rattle.newt_base.specs.declared.Refusal.{Refusal}
use Rattle.newt_path.specs.Names.{path_of}
use Rattle.newt_spec_graph.specs.Lists.{all_apart}
use Rattle.newt_spec_world.specs.declared.command.Command.{Command}
use Rattle.newt_spec_world.specs.declared.command.Command.TheVariants as command
use Rattle.newt_spec_script.specs.Words.{then_read, trimmed, of1, of2, of3, of4, word, words, name, part, symbol, several, all_words, or_not_the_form}
use Rattle.newt_spec_script.specs.Line.{Parsed, unit, ended, with_literal, and_literal, whole, distinct, if_distinct, or_row}
use Rattle.newt_script_words.specs.Listed.{of_form, in_number, values, apart, parts_in, paths_in, symbols_in}
use Rattle.newt_script_words.specs.Readers.{unit_of, name_of, soup_of, path_word, rest_of, is_ended}
use Rattle.newt_script.specs.Rows.{Reading, reading, row_reading}
use Rattle.newt_script_words.specs.declared.fault.WordFault.{WordFault}
use Rattle.newt_script.specs.Faults.{of_words}
use Rattle.newt_script.specs.Graphs.{literal_word}
use Rattle.newt_script.proofs.RowTable.{after, finished, mapped, with_graph, after_same, soup_and_word, one_word, then_after, literal_after, two, two_then}

-- the command with a list
abbrev pub with_list : {A : Type 0} → Result A WordFault → (A → Command) → Reading
with_list (Ok xs) f = Ok (f xs)
with_list (Err fault) f = Err (of_words fault)

nothing_left : (c : Command) → finished [] c ≡ Ok c
unfolding is_ended rest_of
nothing_left c = refl

module _ {A : Type 0} (most : ℕ) (form : List ℕ → Option A) where
  list_after : (f : List A → Command) (cs : List ℕ) → after (several most form cs) (λ xs rest. finished rest (f xs)) ≡ with_list (values most form (words cs)) f
  list_after f cs = go (if in_number most (words cs) then all_words form (words cs) else None)
    where
      go : (o : Option (List A)) → after (or_not_the_form o []) (λ xs rest. finished rest (f xs)) ≡ with_list (of_form o) f
      go None = refl
      go (Some xs) = nothing_left (f xs)

distinct_after : (f : List (List ℕ) → Command) (cs : List ℕ) → after (distinct cs) (λ xs rest. finished rest (f xs)) ≡ with_list (apart (values 140_000 symbol (words cs))) f
distinct_after f cs = go (if in_number 140_000 (words cs) then all_words symbol (words cs) else None)
  where
    tested : (xs : List (List ℕ)) (b : Bool) → all_apart same_name xs ≡ b
        → after (if_distinct (Ok (xs, []))) (λ xs rest. finished rest (f xs)) ≡ with_list (apart (Ok xs)) f
    tested xs true is = rw is (nothing_left (f xs))
    tested xs false is = rw is refl

    go : (o : Option (List (List ℕ))) → after (if_distinct (or_not_the_form o [])) (λ xs rest. finished rest (f xs)) ≡ with_list (apart (of_form o)) f
    go None = refl
    go (Some xs) = tested xs (all_apart same_name xs) refl

-- a soup and a list
soup_and_list : {A : Type 0} (most : ℕ) (form : List ℕ → Option A) (f : ℕ → List ℕ → List A → Command) (cs : List ℕ)
    → reading (whole (of3 unit name (several most form) f) cs)
    ≡ after (of2 unit name (λ a b. (a, b)) cs) (λ (x : ℕ × List ℕ) rest. with_list (values most form (words rest)) (f x.0 x.1))
soup_and_list {A} most form f cs =
    soup_and_word unit name (several most form) f cs
    ∙ after_same (λ (x : ℕ × List ℕ) rest. after (several most form rest) (λ xs rest. finished rest (f x.0 x.1 xs)))
    (λ (x : ℕ × List ℕ) rest. with_list (values most form (words rest)) (f x.0 x.1)) (λ x rest. list_after most form (f x.0 x.1) rest) (of2 unit name (λ a b. (a, b)) cs)

pub row_index : (cs : List ℕ) → row_reading (codes "index") cs ≡ after (soup_of cs) (λ x rest. with_list (parts_in rest) (command.Index x.0 x.1))
unfolding row_reading soup_of unit_of name_of parts_in
row_index cs = soup_and_list 4 part command.Index cs

pub row_unindex : (cs : List ℕ) → row_reading (codes "unindex") cs ≡ after (soup_of cs) (λ x rest. with_list (paths_in rest) (command.Unindex x.0 x.1))
unfolding row_reading soup_of unit_of name_of paths_in
row_unindex cs = soup_and_list 4 path_of command.Unindex cs

-- ---- the two rows of `tags`

-- what follows a soup that is not all
abbrev declaration : ℕ → List ℕ → List ℕ → Reading
declaration u s rest = after (word path_of rest) (λ p rest. with_list (apart (values 140_000 symbol (words rest))) (command.SetTags u s p))

second_row : (u : ℕ) (s rest : List ℕ) → reading (ended (of2 (word path_of) distinct (command.SetTags u s) rest)) ≡ declaration u s rest
second_row u s rest =
    then_after (λ p. of1 distinct (command.SetTags u s p)) (word path_of rest)
    ∙ after_same (λ p rest. reading (ended (of1 distinct (command.SetTags u s p) rest))) (λ p rest. with_list (apart (values 140_000 symbol (words rest))) (command.SetTags u s p))
    (λ p rest. one_word distinct (command.SetTags u s p) rest ∙ distinct_after (command.SetTags u s p) rest) (word path_of rest)

tags_after : (u : ℕ) (s rest : List ℕ) (other : Parsed) → reading other ≡ declaration u s rest
    → reading (or_row (ended (Ok (command.Tags u s, rest))) other) ≡ (if length (trimmed rest) == 0 then Ok (command.Tags u s) else declaration u s rest)
tags_after u s rest other is = go (length (trimmed rest) == 0) refl
  where
    go : (b : Bool) → (length (trimmed rest) == 0) ≡ b
        → reading (or_row (ended (Ok (command.Tags u s, rest))) other) ≡ (if length (trimmed rest) == 0 then Ok (command.Tags u s) else declaration u s rest)
    go true found = rw found refl
    go false found = rw found is

both_rows : (r : Result ((ℕ × List ℕ) × List ℕ) Refusal)
    → reading (or_row (ended (mapped (λ (x : ℕ × List ℕ). command.Tags x.0 x.1) r)) (ended (then_read r (λ (x : ℕ × List ℕ). of2 (word path_of) distinct (command.SetTags x.0 x.1)))))
    ≡ after r (λ (x : ℕ × List ℕ) rest. if length (trimmed rest) == 0 then Ok (command.Tags x.0 x.1) else declaration x.0 x.1 rest)
both_rows (Err refusal) = refl
both_rows (Ok (x, rest)) = tags_after x.0 x.1 rest (ended (of2 (word path_of) distinct (command.SetTags x.0 x.1) rest)) (second_row x.0 x.1 rest)

pub row_tags : (cs : List ℕ)
    → row_reading (codes "tags") cs
    ≡ after (soup_of cs) (λ x rest. if is_ended rest then Ok (command.Tags x.0 x.1) else after (path_word rest) (λ p rest. with_list (symbols_in rest) (command.SetTags x.0 x.1 p)))
unfolding row_reading soup_of unit_of name_of path_word symbols_in is_ended rest_of
row_tags cs =
    ap (λ r. reading (or_row (ended r) (whole (of4 unit name (word path_of) distinct command.SetTags) cs))) (two unit name command.Tags cs)
    ∙ (ap (λ r. reading (or_row (ended (mapped (λ (x : ℕ × List ℕ). command.Tags x.0 x.1) (of2 unit name (λ a b. (a, b)) cs))) (ended r)))
    (two_then unit name (λ u s. of2 (word path_of) distinct (command.SetTags u s)) cs)
    ∙ both_rows (of2 unit name (λ a b. (a, b)) cs))

-- ---- the two rows of `info`

-- what follows a soup that is not all
abbrev setting : ℕ → List ℕ → List ℕ → Reading
setting u s rest = with_graph (literal_word (trimmed rest)) (command.SetInfo u s)

info_after : (u : ℕ) (s rest : List ℕ) (other : Parsed) → reading other ≡ setting u s rest
    → reading (or_row (ended (Ok (command.Info u s, rest))) other) ≡ (if length (trimmed rest) == 0 then Ok (command.Info u s) else setting u s rest)
info_after u s rest other is = go (length (trimmed rest) == 0) refl
  where
    go : (b : Bool) → (length (trimmed rest) == 0) ≡ b
        → reading (or_row (ended (Ok (command.Info u s, rest))) other) ≡ (if length (trimmed rest) == 0 then Ok (command.Info u s) else setting u s rest)
    go true found = rw found refl
    go false found = rw found is

info_rows : (r : Result ((ℕ × List ℕ) × List ℕ) Refusal)
    → reading (or_row (ended (mapped (λ (x : ℕ × List ℕ). command.Info x.0 x.1) r)) (with_literal (mapped (λ (x : ℕ × List ℕ) g. command.SetInfo x.0 x.1 g) r)))
    ≡ after r (λ (x : ℕ × List ℕ) rest. if length (trimmed rest) == 0 then Ok (command.Info x.0 x.1) else setting x.0 x.1 rest)
unfolding rest_of
info_rows (Err refusal) = refl
info_rows (Ok (x, rest)) = info_after x.0 x.1 rest (with_literal (Ok ((λ g. command.SetInfo x.0 x.1 g), rest))) (literal_after (λ (x : ℕ × List ℕ) g. command.SetInfo x.0 x.1 g) (Ok (x, rest)))

pub row_info : (cs : List ℕ)
    → row_reading (codes "info") cs
    ≡ after (soup_of cs) (λ x rest. if is_ended rest then Ok (command.Info x.0 x.1) else with_graph (literal_word (rest_of rest)) (command.SetInfo x.0 x.1))
unfolding row_reading soup_of unit_of name_of is_ended rest_of
row_info cs =
    ap (λ r. reading (or_row (ended r) (and_literal (of2 unit name (λ u s g. command.SetInfo u s g)) cs))) (two unit name command.Info cs)
    ∙ (ap (λ r. reading (or_row (ended (mapped (λ (x : ℕ × List ℕ). command.Info x.0 x.1) (of2 unit name (λ a b. (a, b)) cs))) (with_literal r))) (two unit name (λ u s g. command.SetInfo u s g) cs)
    ∙ info_rows (of2 unit name (λ a b. (a, b)) cs))
