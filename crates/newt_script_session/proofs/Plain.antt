-- Where no device fails, a run of steps is what the plain world answers.
use Rattle.std.proofs.Common.{◌≡◌, ℕ, zero, suc, ◌+◌, Bool, true, false, cond, eqb, List, [], ◌∷◌, ◌++◌, map, flat_map, refl, sym, ◌∙◌, ap, subst, arith}
use Rattle.std.proofs.lemmas.Bool.{eqb-false}
use Rattle.newt_host.specs.Outside.{Rose}
use Rattle.newt_laws_steps.specs.Steps.{AllSure, AreQuiet}
use Rattle.newt_laws_steps.specs.Thrown.{RoseBy, RowsThrew}
use Rattle.newt_laws_whole.proofs.Stepping.{quiet-whole-run}
use Rattle.newt_spec_script.specs.Rows.{IsRun, output_of, replies_of, reply_texts, Row, throws, thrown_count, last_world}
use Rattle.newt_spec_script.specs.Runs.{reply_texts as plain_texts, texts}
use Rattle.newt_spec_script.specs.Script.{Item, replies_to, world_after}
use Rattle.newt_spec_world.specs.Reply.{Reply, reply_text}
use Rattle.newt_spec_whole.specs.Answer.{whole_answer}
use Rattle.newt_spec_whole.specs.Step.{WholeStep}
use Rattle.newt_spec_whole.specs.Whole.{Whole}
use Rattle.newt_script_session.proofs.Throwing.{thrown_one}

same_number : (u : ℕ) → eqb u u ≡ true
same_number u = go (eqb u u) refl
  where
    go : (b : Bool) → eqb u u ≡ b → eqb u u ≡ true
    go true e = e
    go false e = absurd (eqb-false u u e refl)

-- a reply that names a unit is counted for it
named : (unit : ℕ) (reply : Reply) → reply ≡ Reply.thrown unit → throws unit reply ≡ true
named unit reply e = subst (λ (r : Reply). throws unit r ≡ true) (sym e) (same_number unit)

-- no reply names a unit, where none is counted for any
none_named : (rows : List (Row Whole)) → ((unit : ℕ) → thrown_count unit rows ≡ 0) → AreQuiet rows
none_named [] none = tt
none_named (row ∷ rows) none = (
  (λ unit e.
      let there : 1 + thrown_count unit rows ≡ 0 =
      sym (thrown_one unit row rows ∙ ap (λ (b : Bool). cond b 1 0 + thrown_count unit rows) (named unit row.1 e)) ∙ none unit in
      absurd (omega (arith, there))),
  none_named rows (λ unit.
      let one = thrown_one unit row rows in
      omega (arith, one, none unit)),
)

not_risen : (n before now : ℕ) → RoseBy n before now → ¬ Rose before now → n ≡ 0
not_risen zero before now rose not = refl
not_risen (suc n) before now rose not = absurd (not (omega (arith, rose)))

-- no reply says that a device failed, where no count of the faults of one rose
pub quiet_rows : (rows : List (Row Whole)) (was is : ℕ → ℕ) → RowsThrew rows was is → ((unit : ℕ) → ¬ Rose (was unit) (is unit)) → AreQuiet rows
quiet_rows rows was is threw none = none_named rows (λ unit. not_risen (thrown_count unit rows) (was unit) (is unit) (threw.rose unit) (none unit))

-- ---- texts of replies

texts_of : (rows : List (Row Whole)) → reply_texts rows ≡ map reply_text (replies_of rows)
texts_of [] = refl
texts_of (row ∷ rows) = ap (λ (ts : List (List ℕ)). reply_text row.1 ∷ ts) (texts_of rows)

put_of : (rows : List (Row Whole)) → output_of rows ≡ flat_map reply_text (replies_of rows)
unfolding output_of
put_of [] = refl
put_of (row ∷ rows) = ap (λ t. reply_text row.1 ++ t) (put_of rows)

-- ---- so it is said of every run

module _ (world : Whole) (items : List Item) (rows : List (Row Whole)) (was is : ℕ → ℕ) (sure : AllSure world.world) (run : IsRun WholeStep world items rows) (threw : RowsThrew rows was is)
    (none : (unit : ℕ) → ¬ Rose (was unit) (is unit)) where
  pub replies_are_plain : replies_of rows ≡ replies_to whole_answer world items
  replies_are_plain = (quiet-whole-run world items rows sure run (quiet_rows rows was is threw none)).0

  pub world_is_plain : last_world world rows ≡ world_after whole_answer world items
  world_is_plain = (quiet-whole-run world items rows sure run (quiet_rows rows was is threw none)).1

  pub texts_are_plain : reply_texts rows ≡ plain_texts whole_answer world items
  texts_are_plain = texts_of rows ∙ ap (map reply_text) replies_are_plain

  pub output_is_plain : output_of rows ≡ texts whole_answer world items
  unfolding texts
  output_is_plain = put_of rows ∙ ap (flat_map reply_text) replies_are_plain
