-- Runs after one another.
use Rattle.std.proofs.Common.{◌≡◌, suc, List, [], ◌∷◌, ◌++◌, length, refl, ap, append-nil}
use Rattle.std.proofs.lemmas.Grind.{flat_map-append}
use Rattle.std.proofs.lemmas.List.{map-append}
use Rattle.newt_spec_script.specs.Script.{Item}
use Rattle.newt_spec_world.specs.Reply.{reply_text}
use Rattle.newt_spec_whole.specs.Whole.{Whole}
use Rattle.newt_script_session.specs.Moments.{worlds_passed}
use Rattle.newt_spec_script.specs.Rows.{IsRun, output_of, reply_texts, Row, Stepping, last_world}

pub run_append : (step : Stepping Whole) (world : Whole) (a b : List Item) (ra rb : List (Row Whole)) → IsRun step world a ra → IsRun step (last_world world ra) b rb → IsRun step world (a ++ b) (ra ++ rb)
run_append step world [] b [] rb first second = second
run_append step world [] b (row ∷ ra) rb first second = absurd first
run_append step world (item ∷ a) b [] rb first second = absurd first
run_append step world (item ∷ a) b (row ∷ ra) rb first second = (first.0, run_append step row.0 a b ra rb first.1 second)

-- a row for each item
pub run_length : (step : Stepping Whole) (world : Whole) (items : List Item) (rows : List (Row Whole)) → IsRun step world items rows → length rows ≡ length items
run_length step world [] [] run = refl
run_length step world [] (row ∷ rows) run = absurd run
run_length step world (item ∷ items) [] run = absurd run
run_length step world (item ∷ items) (row ∷ rows) run = ap (λ n. suc n) (run_length step row.0 items rows run.1)

pub after_append : (world : Whole) (a b : List (Row Whole)) → last_world world (a ++ b) ≡ last_world (last_world world a) b
after_append world [] b = refl
after_append world (row ∷ a) b = after_append row.0 a b

pub output_append : (a b : List (Row Whole)) → output_of (a ++ b) ≡ output_of a ++ output_of b
unfolding output_of
output_append a b = flat_map-append (λ (row : Row Whole). reply_text row.1) a b

pub output_none : output_of {W = Whole} [] ≡ []
unfolding output_of
output_none = refl

pub output_one : (row : Row Whole) → output_of (row ∷ []) ≡ reply_text row.1
unfolding output_of
output_one row = append-nil (reply_text row.1)

pub output_first : (row : Row Whole) (rows : List (Row Whole)) → output_of (row ∷ rows) ≡ reply_text row.1 ++ output_of rows
unfolding output_of
output_first row rows = refl

pub replies_append : (a b : List (Row Whole)) → reply_texts (a ++ b) ≡ reply_texts a ++ reply_texts b
replies_append a b = map-append (λ (row : Row Whole). reply_text row.1) a b

pub worlds_append : (before : List Whole) (world : Whole) (a b : List (Row Whole)) → worlds_passed before world (a ++ b) ≡ worlds_passed (worlds_passed before world a) (last_world world a) b
worlds_append before world [] b = refl
worlds_append before world (row ∷ a) b = worlds_append (world ∷ before) row.0 a b
