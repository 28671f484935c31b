-- Counts of faults after one another.
use Rattle.std.proofs.Common.{◌≡◌, ℕ, ◌+◌, ◌≤◌, Bool, true, false, cond, List, [], ◌∷◌, ◌++◌, length, filter, refl, sym, ◌∙◌, ap, subst, arith}
use Rattle.newt_host.specs.Outside.{Rose}
use Rattle.newt_spec_script.specs.Rows.{Row, throws, thrown_count}
use Rattle.newt_spec_whole.specs.Whole.{Whole}
use Rattle.newt_spec_world.specs.Reply.{Reply}
use Rattle.newt_laws_steps.specs.Thrown.{FaultsTold, RoseBy, RowsFailed, RowsThrew, Threw}

-- how many there are of one row
pub thrown_one : (unit : ℕ) (row : Row Whole) (rows : List (Row Whole)) → thrown_count unit (row ∷ rows) ≡ cond (throws unit row.1) 1 0 + thrown_count unit rows
thrown_one unit row rows = go (throws unit row.1)
  where
    go : (b : Bool) → length (cond b (row ∷ filter (λ (r : Row Whole). throws unit r.1) rows) (filter (λ (r : Row Whole). throws unit r.1) rows)) ≡ cond b 1 0 + thrown_count unit rows
    go true = omega arith
    go false = omega arith

pub thrown_append : (unit : ℕ) (a b : List (Row Whole)) → thrown_count unit (a ++ b) ≡ thrown_count unit a + thrown_count unit b
thrown_append unit [] b = omega arith
thrown_append unit (row ∷ a) b =
    let first = thrown_one unit row (a ++ b) in
    let later = thrown_append unit a b in
    let one = thrown_one unit row a in
    omega (arith, first, later, one)

-- ---- one reply

pub threw_one : (row : Row Whole) (was is : ℕ → ℕ) → Threw row.1 was is → RowsThrew (row ∷ []) was is
threw_one row was is t = record { later = t.later; rose = λ unit. go unit (throws unit row.1) refl }
  where
    go : (unit : ℕ) (b : Bool) → throws unit row.1 ≡ b → RoseBy (thrown_count unit (row ∷ [])) (was unit) (is unit)
    go unit true e = subst (λ (n : ℕ). RoseBy n (was unit) (is unit)) (sym (thrown_one unit row [] ∙ ap (λ (b : Bool). cond b 1 0 + 0) e)) (t.rose unit e)
    go unit false e = subst (λ (n : ℕ). RoseBy n (was unit) (is unit)) (sym (thrown_one unit row [] ∙ ap (λ (b : Bool). cond b 1 0 + 0) e)) (omega (arith, t.later unit))

pub failed_one : (row : Row Whole) (was is : ℕ → ℕ) → FaultsTold row.1 was is → RowsFailed (row ∷ []) was is
failed_one row was is failed unit none = go (throws unit row.1) refl
  where
    go : (b : Bool) → throws unit row.1 ≡ b → is unit ≡ was unit
    go false e = failed unit e
    go true e = let one : 1 + 0 ≡ 0 = sym (thrown_one unit row [] ∙ ap (λ (b : Bool). cond b 1 0 + 0) e) ∙ none in absurd (omega (arith, one))

-- ---- rows after one another

both_rose : (a b was mid is : ℕ) → was ≤ mid → mid ≤ is → RoseBy a was mid → RoseBy b mid is → RoseBy (a + b) was is
both_rose a b was mid is low high first second = omega (arith, first, second)

pub threw_none : (was is : ℕ → ℕ) → ((unit : ℕ) → is unit ≡ was unit) → RowsThrew {W = Whole} [] was is
threw_none was is same = record { later = λ unit. omega (arith, same unit); rose = λ unit. omega (arith, same unit) }

pub threw_both : (a b : List (Row Whole)) (was mid is : ℕ → ℕ) → RowsThrew a was mid → RowsThrew b mid is → RowsThrew (a ++ b) was is
threw_both a b was mid is x y = record {
  later = λ unit. omega (arith, x.later unit, y.later unit);
  rose = λ unit.
      subst (λ (n : ℕ). RoseBy n (was unit) (is unit)) (sym (thrown_append unit a b))
      (both_rose (thrown_count unit a) (thrown_count unit b) (was unit) (mid unit) (is unit) (x.later unit) (y.later unit) (x.rose unit) (y.rose unit));
}

pub failed_both : (a b : List (Row Whole)) (was mid is : ℕ → ℕ) → RowsFailed a was mid → RowsFailed b mid is → RowsFailed (a ++ b) was is
failed_both a b was mid is x y unit none =
    let sum = thrown_append unit a b in
    let first : thrown_count unit a ≡ 0 = omega (arith, sum, none) in
    let second : thrown_count unit b ≡ 0 = omega (arith, sum, none) in
    y unit second ∙ x unit first

-- the same counts of the end
pub threw_same : (rows : List (Row Whole)) (was mid is : ℕ → ℕ) → ((unit : ℕ) → is unit ≡ mid unit) → RowsThrew rows was mid → RowsThrew rows was is
threw_same rows was mid is same t = record {
  later = λ unit. omega (arith, same unit, t.later unit);
  rose = λ unit. subst (λ (n : ℕ). RoseBy (thrown_count unit rows) (was unit) n) (sym (same unit)) (t.rose unit);
}

pub failed_same : (rows : List (Row Whole)) (was mid is : ℕ → ℕ) → ((unit : ℕ) → is unit ≡ mid unit) → RowsFailed rows was mid → RowsFailed rows was is
failed_same rows was mid is same t unit none = same unit ∙ t unit none

-- a reply was put out after the command
pub threw_after : (reply : Reply) (was mid is : ℕ → ℕ) → ((unit : ℕ) → is unit ≡ mid unit) → Threw reply was mid → Threw reply was is
threw_after reply was mid is same t = record {
  later = λ unit. omega (arith, same unit, t.later unit);
  rose = λ unit e. subst (λ (n : ℕ). Rose (was unit) n) (sym (same unit)) (t.rose unit e);
}

pub failed_after : (reply : Reply) (was mid is : ℕ → ℕ) → ((unit : ℕ) → is unit ≡ mid unit) → FaultsTold reply was mid → FaultsTold reply was is
failed_after reply was mid is same t unit e = same unit ∙ t unit e

-- a line was refused
pub threw_refused : (reply : Reply) (was is : ℕ → ℕ) → ((unit : ℕ) → throws unit reply ≡ false) → ((unit : ℕ) → is unit ≡ was unit) → Threw reply was is
threw_refused reply was is none same = record { later = λ unit. omega (arith, same unit); rose = λ unit e. absurd (both (throws unit reply) e (none unit)) }
  where
    both : (b : Bool) → b ≡ true → b ≡ false → ⊥
    both b h k = cc

-- the same counts of the start
pub threw_from : (rows : List (Row Whole)) (was mid is : ℕ → ℕ) → ((unit : ℕ) → mid unit ≡ was unit) → RowsThrew rows mid is → RowsThrew rows was is
threw_from rows was mid is same t = record {
  later = λ unit. omega (arith, same unit, t.later unit);
  rose = λ unit. subst (λ (n : ℕ). RoseBy (thrown_count unit rows) n (is unit)) (same unit) (t.rose unit);
}

pub failed_from : (rows : List (Row Whole)) (was mid is : ℕ → ℕ) → ((unit : ℕ) → mid unit ≡ was unit) → RowsFailed rows mid is → RowsFailed rows was is
failed_from rows was mid is same t unit none = t unit none ∙ same unit
