-- Single words.
use Rattle.std.proofs.Common.{◌≡◌, ◌≢◌, ℕ, Bool, true, false, not, ◌==◌, List, [], take, Option, Some, None, Result, Ok, Err, if◌then◌else◌, codes, refl, sym, ◌∙◌, ap}
use Rattle.std.proofs.lemmas.Bool.{eqb-true}
use Rattle.std.specs.List.{prefix_len}
use Rattle.std.specs.Option.{ok_or}
use Rattle.std.specs.Prelude.{bytes_eq}
use Rattle.newt_base.specs.declared.Refusal.TheVariants.{Line as NotTheForm}
use Rattle.newt_spec_script.specs.Words.{word, or_not_the_form, is_blank, skip_blanks}
use Rattle.newt_spec_script.specs.Line.{first_word, star}
use Rattle.newt_path.specs.Names.{path_of}
use Rattle.newt_script_words.specs.Readers.{path_word, star_of}
use Rattle.newt_script_words.specs.Reads.{Reads}
use Rattle.newt_script_words.specs.declared.fault.WordFault.{WordFault}
use Rattle.newt_script_words.specs.declared.fault.WordFault.TheVariants.{Form, Memory}

-- a form that does not hold of no bytes needs no look at the length
formed : {A : Type 0} (form : List ℕ → Option A) (n : ℕ) (text : List ℕ) → form [] ≡ None → (if n == 0 then None else form (take n text)) ≡ form (take n text)
formed form n text empty = go (n == 0) refl
  where
    go : (b : Bool) → (n == 0) ≡ b → (if n == 0 then None else form (take n text)) ≡ form (take n text)
    go true is = rw is (sym (ap (λ k. form (take k text)) (eqb-true n 0 is) ∙ empty))
    go false is = rw is refl

-- the next word, by what its form says of it
word_is : {A : Type 0} (form : List ℕ → Option A) (cs : List ℕ) → form [] ≡ None → word form cs ≡ or_not_the_form (form (first_word cs).0) (first_word cs).1
word_is form cs empty =
    let text = skip_blanks cs in
    let n = prefix_len (λ c. not (is_blank c)) text in
    ap (λ o. or_not_the_form o (first_word cs).1) (formed form n text empty)

-- what the code reads of a word is what the definition reads
pub reads_word : {A : Type 0} (form : List ℕ → Option A) (cs w rest : List ℕ) (o : Option A) (r : Result A WordFault)
    → form [] ≡ None → w ≡ (first_word cs).0 → rest ≡ (first_word cs).1 → o ≡ form w → r ≡ ok_or o Form
    → Reads {A = A × List ℕ} {B = A} (word form cs) r (λ a. (a, rest))
reads_word form cs w rest None r empty word_ok rest_ok is given = record {
  read = rw given tt;
  refused = λ apart. rw given (
    refl,
    word_is form cs empty ∙ (ap (λ v. or_not_the_form (form v) (first_word cs).1) (sym word_ok) ∙ ap (λ v. or_not_the_form v (first_word cs).1) (sym is)),
  );
}
reads_word form cs w rest (Some a) r empty word_ok rest_ok is given = record {
  read = rw given (word_is form cs empty
      ∙ (ap (λ v. or_not_the_form (form v) (first_word cs).1) (sym word_ok) ∙ (ap (λ v. or_not_the_form v (first_word cs).1) (sym is) ∙ ap (λ v. Ok (a, v)) (sym rest_ok))));
  refused = λ apart. rw given tt;
}

-- and never when out of memory
pub never_wants : {A : Type 0} (o : Option A) (r : Result A WordFault) → r ≡ ok_or o Form → r ≢ Err Memory
never_wants None r given = λ e. cc
never_wants (Some a) r given = λ e. cc

-- ---- a path

no_path_of_nothing : path_of [] ≡ None
unfolding path_of
no_path_of_nothing = refl

pub reads_path : (cs w rest : List ℕ) (p : List (List ℕ)) → w ≡ (first_word cs).0 → rest ≡ (first_word cs).1 → path_of w ≡ Some p → path_word cs ≡ Ok (p, rest)
unfolding path_word
reads_path cs w rest p word_ok rest_ok is =
    word_is path_of cs no_path_of_nothing
    ∙ (ap (λ v. or_not_the_form (path_of v) (first_word cs).1) (sym word_ok) ∙ (ap (λ v. or_not_the_form v (first_word cs).1) is ∙ ap (λ v. Ok (p, v)) (sym rest_ok)))

pub refuses_path : (cs w : List ℕ) → w ≡ (first_word cs).0 → path_of w ≡ None → path_word cs ≡ Err NotTheForm
unfolding path_word
refuses_path cs w word_ok is =
    word_is path_of cs no_path_of_nothing
    ∙ (ap (λ v. or_not_the_form (path_of v) (first_word cs).1) (sym word_ok) ∙ ap (λ v. or_not_the_form v (first_word cs).1) is)

-- ---- a star

pub passes_star : (cs w rest : List ℕ) → w ≡ (first_word cs).0 → rest ≡ (first_word cs).1 → bytes_eq w (codes "*") ≡ true → star_of cs ≡ Ok (0, rest)
unfolding star_of
passes_star cs w rest word_ok rest_ok is =
    word_is star cs refl
    ∙ (ap (λ v. or_not_the_form (star v) (first_word cs).1) (sym word_ok)
    ∙ (ap (λ (b : Bool). or_not_the_form (if b then Some 0 else None) (first_word cs).1) is ∙ ap (λ v. Ok (0, v)) (sym rest_ok)))

pub stays_at_no_star : (cs w : List ℕ) → w ≡ (first_word cs).0 → bytes_eq w (codes "*") ≡ false → star_of cs ≡ Err NotTheForm
unfolding star_of
stays_at_no_star cs w word_ok is =
    word_is star cs refl
    ∙ (ap (λ v. or_not_the_form (star v) (first_word cs).1) (sym word_ok) ∙ ap (λ (b : Bool). or_not_the_form (if b then Some 0 else None) (first_word cs).1) is)

-- what a word that may be a star is proved by
pub ruleset stars = (passes_star, stays_at_no_star)
