-- What a value is by the first character after its blanks, and what an immediate answers.
use Rattle.std.proofs.Common.{◌≡◌, ◌≤◌, ◌-◌, ℕ, zero, suc, List, [], ◌∷◌, length, get_or, take, drop, take_all, Option, Result, Ok, Err, OnOk, MatchResult, IsOkAnd, IsErrAnd, refl, sym, ap, subst, ◌∙◌, arith}
use Rattle.std.specs.Prelude.{ℤ}
use Rattle.newt_graph.specs.declared.node.Ref.{Ref}
use Rattle.newt_graph.specs.declared.node.Ref.TheVariants as refs
use Rattle.newt_spec_literal.specs.Built.{Built}
use Rattle.newt_spec_literal.specs.Words.{skip}
use Rattle.newt_lit_read.specs.Answers.{Fails, Gives}
use Rattle.newt_lit_read.specs.declared.fault.LitFault.{LitFault}
use Rattle.newt_lit_read.specs.declared.fault.LitFault.TheVariants.{Literal, Memory}
use Rattle.newt_lit_read.specs.declared.tokens.Start.{Start}
use Rattle.newt_lit_read.specs.Reading.{immediate, start_of, started, value_by, value_at, arrays_at, frames_at}

-- a text by its first character and the rest, as a pattern takes it apart
pub front_is : (text : List ℕ) (first : ℕ) → 1 ≤ length text → first ≡ get_or text 0 first → text ≡ first ∷ take (length text - 1) (drop 1 text)
front_is [] first le is = absurd (omega (arith, le))
front_is (x ∷ xs) first le is =
    let e : length (x ∷ xs) - 1 ≡ length xs = omega arith in
    ap (λ (c : ℕ). c ∷ xs) (sym is) ∙ ap (λ (l : List ℕ). first ∷ l) (sym (ap (λ (n : ℕ). take n xs) e ∙ take_all (length xs) xs (omega arith)))

value_is : (room : ℕ) (b : Built) (text : List ℕ) → value_at room b text ≡ started (arrays_at room) (frames_at room) b (skip text)
unfolding value_at
value_is zero b text = refl
value_is (suc room) b text = refl

-- a value by what it begins with
pub value_begins : (room : ℕ) (b : Built) (text front : List ℕ) (first : ℕ) (start : Start) → front ≡ skip text → 1 ≤ length front → first ≡ get_or front 0 first → start_of first ≡ start
    → value_at room b text ≡ value_by (arrays_at room) (frames_at room) b first (take (length front - 1) (drop 1 front)) start
unfolding started
value_begins room b text front first start same le is begins =
    value_is room b text ∙ ap (started (arrays_at room) (frames_at room) b) (sym same ∙ front_is front first le is) ∙ ap (value_by (arrays_at room) (frames_at room) b first (take (length front - 1) (drop 1 front))) begins

-- the answer of an immediate's reader, as one of a value's
abbrev pub Becomes : {X Y : Type 0} → (X → ℤ) → (X → List ℕ) → (Y → Ref) → (Y → List ℕ) → Result X LitFault → Result Y LitFault → Type 0
Becomes word rest value after read result =
    MatchResult read (λ x. IsOkAnd result (λ y. (value y ≡ refs.Imm (word x)) × (after y ≡ rest x))) (λ e. IsErrAnd result (λ f. f ≡ e))

pub gives_immediate : {X Y : Type 0} (word : X → ℤ) (rest : X → List ℕ) (value : Y → Ref) (after : Y → List ℕ) (b : Built) (read : Result X LitFault) (result : Result Y LitFault) (at : Option (ℤ × List ℕ))
    → Gives (λ x. (word x, rest x)) read at → Becomes word rest value after read result → Gives (λ y. (value y, b, after y)) result (immediate b at)
gives_immediate word rest value after b (Ok x) (Ok y) at gives is = rw (gives, is.0, is.1) refl
gives_immediate word rest value after b (Ok x) (Err f) at gives is = absurd is
gives_immediate word rest value after b (Err e) (Ok y) at gives is = absurd is
gives_immediate word rest value after b (Err Literal) (Err f) at gives is = subst (λ (f : LitFault). Fails f (immediate b at)) (sym is) (ap (immediate b) gives)
gives_immediate word rest value after b (Err Memory) (Err f) at gives is = subst (λ (f : LitFault). Fails f (immediate b at)) (sym is) tt

pub on_ok : {X E : Type 0} (r : Result X E) (A : Type 0) → A → OnOk r A
on_ok (Ok x) A a = a
on_ok (Err e) A a = tt
