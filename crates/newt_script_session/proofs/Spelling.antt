-- The lines that are answered are those of the definitions, and so are their items.
use Rattle.std.proofs.Common.{◌≡◌, ℕ, Bool, true, false, not, ◌&&◌, cond, eqb, List, [], ◌∷◌, ◌++◌, map, Option, Some, None, Ok, Err, refl, sym, ◌∙◌, ap, append_assoc, append-nil}
use Rattle.std.specs.Prelude.{filter_map, option_map}
use Rattle.std.proofs.lemmas.Bool.{and_parts}
use Rattle.newt_script.specs.Graphs.{readers}
use Rattle.newt_script.specs.Lines.{line_answer, line_command}
use Rattle.newt_spec_script.specs.Line.{Parsed, parsed}
use Rattle.newt_spec_script.specs.Script as plain
use Rattle.newt_spec_script.specs.Script.{Item, item_of, lines, up_to_quit, without_return}
use Rattle.newt_script_session.specs.Lines.{ended_lines, last_line, lines_of, unended}
use Rattle.newt_script_session.specs.Script.{commands_of, given, items_of, script_items}

-- no line ends in these bytes
abbrev clean : List ℕ → Bool
clean [] = true
clean (b ∷ bs) = not (eqb b 10) && clean bs

is_no_end : (b : Bool) → not b ≡ true → b ≡ false
is_no_end true e = cc
is_no_end false e = refl

clean_more : (a : List ℕ) (b : ℕ) → clean a ≡ true → eqb b 10 ≡ false → clean (a ++ b ∷ []) ≡ true
clean_more [] b h e = rw e refl
clean_more (x ∷ a) b h e =
    let p = and_parts (not (eqb x 10)) (clean a) h in
    rw p.0 (clean_more a b p.1 e)

-- the first line, where more follows its end
line_at : (a rest : List ℕ) → clean a ≡ true → lines (a ++ 10 ∷ rest) ≡ a ∷ lines rest
line_at [] rest h = refl
line_at (x ∷ a) rest h =
    let p = and_parts (not (eqb x 10)) (clean a) h in
    rw (is_no_end (eqb x 10) p.0, line_at a rest p.1, lines) refl

-- the last one
line_last : (a : List ℕ) → clean a ≡ true → lines a ≡ last_line a
unfolding last_line
line_last [] h = refl
line_last (x ∷ []) h =
    let p = and_parts (not (eqb x 10)) true h in
    rw (is_no_end (eqb x 10) p.0, lines) refl
line_last (x ∷ y ∷ a) h =
    let p = and_parts (not (eqb x 10)) (clean (y ∷ a)) h in
    rw (is_no_end (eqb x 10) p.0, line_last (y ∷ a) p.1, lines) refl

lines_begun : (begun text : List ℕ) → clean begun ≡ true → ended_lines begun text ++ last_line (unended begun text) ≡ lines (begun ++ text)
unfolding ended_lines unended
lines_begun begun [] h = sym (line_last begun h) ∙ ap lines (sym (append-nil begun))
lines_begun begun (b ∷ text) h = go (eqb b 10) refl (lines_begun [] text refl) (λ e. lines_begun (begun ++ b ∷ []) text (clean_more begun b h e))
  where
    go : (v : Bool) → eqb b 10 ≡ v → ended_lines [] text ++ last_line (unended [] text) ≡ lines text
        → (eqb b 10 ≡ false → ended_lines (begun ++ b ∷ []) text ++ last_line (unended (begun ++ b ∷ []) text) ≡ lines ((begun ++ b ∷ []) ++ text))
        → cond v (begun ∷ ended_lines [] text) (ended_lines (begun ++ b ∷ []) text) ++ last_line (cond v (unended [] text) (unended (begun ++ b ∷ []) text)) ≡ lines (begun ++ b ∷ text)
    go true e ended going = ap (λ (ls : List (List ℕ)). begun ∷ ls) ended ∙ (sym (line_at begun text h) ∙ ap (λ (x : ℕ). lines (begun ++ x ∷ text)) (sym (ten b e)))
      where
        ten : (x : ℕ) → eqb x 10 ≡ true → x ≡ 10
        ten x k = Rattle.std.proofs.lemmas.Bool.eqb-true x 10 k
    go false e ended going = going e ∙ ap lines (append_assoc begun (b ∷ []) text)

pub lines_are : (text : List ℕ) → lines_of text ≡ lines text
lines_are text = lines_begun [] text refl

items_are : (ls : List (List ℕ)) → items_of ls ≡ map (item_of readers) (filter_map (λ l. parsed (without_return l)) ls)
unfolding line_command
items_are [] = refl
items_are (l ∷ ls) = go (parsed (without_return l)) (items_are ls)
  where
    item : (i : Item) (more : List Item) → given (line_answer (Some i)) ++ more ≡ i ∷ more
    item (Ok c) more = refl
    item (Err r) more = refl

    go : (o : Option Parsed) → items_of ls ≡ map (item_of readers) (filter_map (λ l. parsed (without_return l)) ls)
        → given (line_answer (option_map (item_of readers) o)) ++ items_of ls ≡ map (item_of readers) (Rattle.std.specs.List.cons_option o (filter_map (λ l. parsed (without_return l)) ls))
    go None later = later
    go (Some p) later = item (item_of readers p) (items_of ls) ∙ ap (λ (is : List Item). item_of readers p ∷ is) later

-- the items of a script
pub script_items_plain : (script : List ℕ) → commands_of (lines_of script) ≡ up_to_quit (plain.items_of readers script)
unfolding commands_of
script_items_plain script = ap up_to_quit (ap items_of (lines_are script) ∙ items_are (lines script))

pub script_items_are : (script : List ℕ) → commands_of (lines_of script) ≡ script_items script
unfolding script_items
script_items_are script = script_items_plain script
