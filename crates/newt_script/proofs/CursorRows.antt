-- What the rows on cursors read, over the readers that stay closed.
use Rattle.std.proofs.Common.{◌≡◌, ℕ, List, Result, Ok, Err, codes, ap, ◌∙◌}
use Rattle.newt_base.specs.Text.{signed_value}
use Rattle.newt_base.specs.declared.Refusal.{Refusal}
use Rattle.newt_spec_world.specs.declared.command.Command.{Command}
use Rattle.newt_spec_world.specs.declared.command.Command.TheVariants as command
use Rattle.newt_spec_script.specs.Words.{Reader, of1, of2, of3, word, name}
use Rattle.newt_spec_script.specs.Line.{unit, number, cursor, star, ended, with_literal, whole, query_by}
use Rattle.newt_script.specs.Graphs.{literal_word}
use Rattle.newt_script_words.specs.Readers.{unit_of, number_of, name_of, soup_of, cursor_of, steps_of, star_of, rest_of}
use Rattle.newt_script.specs.Rows.{Reading, reading, row_reading}
use Rattle.newt_script.specs.Verbs.{cursor_word, cursor_command}
use Rattle.newt_script.specs.declared.verbs.CursorVerb.{CursorVerb}
use Rattle.newt_script.specs.declared.verbs.CursorVerb.TheVariants as cursor_verb
use Rattle.newt_script.proofs.RowTable.{after, finished, with_graph, after_same, then_after, one_word, one_literal, literal_after, two}

-- ---- words one after another

pub two_chained : {A B : Type 0} (p : Reader A) (q : Reader B) (f : A → B → Command) (cs : List ℕ)
    → reading (whole (of2 p q f) cs) ≡ after (p cs) (λ a rest. after (q rest) (λ b rest. finished rest (f a b)))
two_chained p q f cs =
    then_after (λ a. of1 q (f a)) (p cs)
    ∙ after_same (λ a rest. reading (ended (of1 q (f a) rest))) (λ a rest. after (q rest) (λ b rest. finished rest (f a b))) (λ a rest. one_word q (f a) rest) (p cs)

pub three_chained : {A B C : Type 0} (p : Reader A) (q : Reader B) (s : Reader C) (f : A → B → C → Command) (cs : List ℕ)
    → reading (whole (of3 p q s f) cs) ≡ after (p cs) (λ a rest. after (q rest) (λ b rest. after (s rest) (λ c rest. finished rest (f a b c))))
three_chained p q s f cs =
    then_after (λ a. of2 q s (f a)) (p cs)
    ∙ after_same (λ a rest. reading (ended (of2 q s (f a) rest))) (λ a rest. after (q rest) (λ b rest. after (s rest) (λ c rest. finished rest (f a b c))))
    (λ a rest. two_chained q s (f a) rest) (p cs)

-- ---- the rows

-- C
pub row_cursor : (v : CursorVerb) (cs : List ℕ) → row_reading (cursor_word v) cs ≡ after (cursor_of cs) (λ c rest. finished rest (cursor_command v c))
unfolding row_reading cursor_of
row_cursor cursor_verb.Entry cs = one_word cursor command.Entry cs
row_cursor cursor_verb.Next cs = one_word cursor command.Next cs
row_cursor cursor_verb.Prev cs = one_word cursor command.Prev cs
row_cursor cursor_verb.Reset cs = one_word cursor command.Reset cs
row_cursor cursor_verb.End cs = one_word cursor command.End cs
row_cursor cursor_verb.Count cs = one_word cursor command.Count cs
row_cursor cursor_verb.Which cs = one_word cursor command.Which cs
row_cursor cursor_verb.Clone cs = one_word cursor command.Clone cs
row_cursor cursor_verb.Close cs = one_word cursor command.Close cs

pub row_moveby : (cs : List ℕ) → row_reading (codes "moveby") cs ≡ after (cursor_of cs) (λ c rest. after (steps_of rest) (λ k rest. finished rest (command.Moveby c k)))
unfolding row_reading cursor_of steps_of
row_moveby cs = two_chained cursor (word signed_value) command.Moveby cs

pub row_goto : (cs : List ℕ)
    → row_reading (codes "goto") cs
    ≡ after (cursor_of cs) (λ c rest. after (unit_of rest) (λ u rest. after (number_of rest) (λ uid rest. finished rest (command.Goto c u uid))))
unfolding row_reading cursor_of unit_of number_of
row_goto cs = three_chained cursor unit number command.Goto cs

pub row_gotokey : (cs : List ℕ) → row_reading (codes "gotokey") cs ≡ after (cursor_of cs) (λ c rest. with_graph (literal_word (rest_of rest)) (command.Gotokey c))
unfolding row_reading cursor_of
row_gotokey cs = one_literal cursor (λ c g. command.Gotokey c g) cs

-- ---- the two rows of `query`

-- all mounted stores after a star, else the store on a unit
abbrev pub queried : Result (ℕ × List ℕ) Refusal → List ℕ → Reading
queried (Ok (a, rest)) cs = after (name_of rest) (λ s rest. with_graph (literal_word (rest_of rest)) (command.QueryAll s))
queried (Err refusal) cs = after (soup_of cs) (λ x rest. with_graph (literal_word (rest_of rest)) (command.Query x.0 x.1))

both_rows : (r : Result (ℕ × List ℕ) Refusal) (cs : List ℕ) → reading (query_by r cs) ≡ queried r cs
unfolding name_of soup_of unit_of
both_rows (Ok (a, rest)) cs = one_literal name (λ s g. command.QueryAll s g) rest
both_rows (Err refusal) cs =
    ap (λ r. reading (with_literal r)) (two unit name (λ u s g. command.Query u s g) cs)
    ∙ literal_after (λ (x : ℕ × List ℕ) g. command.Query x.0 x.1 g) (of2 unit name (λ u s. (u, s)) cs)

pub row_query : (cs : List ℕ) → row_reading (codes "query") cs ≡ queried (star_of cs) cs
unfolding row_reading star_of
row_query cs = both_rows (word star cs) cs
