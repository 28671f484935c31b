-- Whether a word begins at one place.
use Rattle.std.proofs.Common.{◌≡◌, ℕ, Bool, true, false, not, ◌&&◌, List, [], ◌∷◌, sym, ◌∙◌, ap, length, drop, nat_eq}
use Rattle.std.specs.Prelude.{chars}
use Rattle.std.specs.List.{starts_with}
use Rattle.std.proofs.lemmas.Str.{chars-nil}
use Rattle.newt_base.specs.Words.{word_at, begins_with_word_char}

pub of_nothing : (bs : List ℕ) → length bs ≡ 0 → chars bs ≡ []
of_nothing [] e = chars-nil
of_nothing (b ∷ bs) e = cc

abbrev ends : List ℕ → List ℕ → Bool → Bool
ends w cs entire = not (entire && begins_with_word_char (drop (length w) cs))

pub here : (w cs x : List ℕ) (entire before r : Bool) → before ≡ false → begins_with_word_char w ≡ true → starts_with nat_eq cs w ≡ true
    → drop (length w) cs ≡ x → r ≡ not (entire && begins_with_word_char x) → r ≡ word_at w entire (before, cs)
here w cs x entire before r b h e d k =
    k
    ∙ sym (ap (λ t. t && begins_with_word_char w && not before && ends w cs entire) e
    ∙ ap (λ t. t && not before && ends w cs entire) h
    ∙ ap (λ t. not t && ends w cs entire) b
    ∙ ap (λ l. not (entire && begins_with_word_char l)) d)

pub not_here : (w cs : List ℕ) (entire before : Bool) → starts_with nat_eq cs w ≡ false → false ≡ word_at w entire (before, cs)
not_here w cs entire before e = sym (ap (λ t. t && begins_with_word_char w && not before && ends w cs entire) e)
