-- The lists in a line, as the code reads them: PART.., PATH.. and SYM.., each to the end of the
-- line.
use Rattle.std.specs.Prelude.{ℕ, Bool, ◌&&◌, nat_le, List, length, Option, Some, None, Result, Ok}
use Rattle.std.specs.Prelude.{Err, if◌then◌else◌}
use Rattle.newt_base.specs.Names.{same_name}
use Rattle.newt_path.specs.Names.{path_of}
use Rattle.newt_spec_graph.specs.Lists.{all_apart}
use Rattle.newt_spec_world.specs.declared.command.PartWord.{PartWord}
use Rattle.newt_spec_script.specs.Words.{words, all_words, part, symbol}
use Rattle.newt_script_words.specs.declared.fault.WordFault.{WordFault}
use Rattle.newt_script_words.specs.declared.fault.WordFault.TheVariants.{Form}

-- the value of words; without a value they do not have the form
abbrev pub of_form : {A : Type 0} → Option A → Result A WordFault
of_form None = Err Form
of_form (Some a) = Ok a

-- at least one word, and at most so many
abbrev pub in_number : ℕ → List (List ℕ) → Bool
in_number most ws = nat_le 1 (length ws) && nat_le (length ws) most

-- the values of words that are in number and have the form
abbrev pub values : {A : Type 0} → ℕ → (List ℕ → Option A) → List (List ℕ)
    → Result (List A) WordFault
values most form ws = of_form (if in_number most ws then all_words form ws else None)

-- symbols of which no two are alike
abbrev pub apart : Result (List (List ℕ)) WordFault → Result (List (List ℕ)) WordFault
apart (Err fault) = Err fault
apart (Ok names) = if all_apart same_name names then Ok names else Err Form

-- PART..
unfoldable pub parts_in : List ℕ → Result (List PartWord) WordFault
parts_in text = values 4 part (words text)

-- PATH..
unfoldable pub paths_in : List ℕ → Result (List (List (List ℕ))) WordFault
paths_in text = values 4 path_of (words text)

-- SYM..
unfoldable pub symbols_in : List ℕ → Result (List (List ℕ)) WordFault
symbols_in text = apart (values 140_000 symbol (words text))
