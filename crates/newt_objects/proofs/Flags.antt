-- Flags of page numbers that are set one after another.
use Rattle.std.proofs.Common.{◌≡◌, ℕ, suc, zero, ◌<◌, Bool, true, false, ◌||◌, List, [], ◌∷◌, ◌++◌, slice_get, replicate, Some, refl, sym, ◌∙◌, ap, arith}
use Rattle.std.specs.List.{list_any}
use Rattle.std.proofs.lemmas.List.{length-replicate}
use Rattle.std.proofs.lemmas.List.Folds.{list_any-append}
use Rattle.newt_objects.specs.Extents.{AreFlags, MarksAlso}

or_false : (a : Bool) → a ≡ (a || false)
or_false true = refl
or_false false = refl

pub or_assoc : (a b c : Bool) → ((a || b) || c) ≡ (a || (b || c))
or_assoc true b c = refl
or_assoc false b c = refl

-- more of them are
pub marks-more : (first second both : ℕ → Bool) (a b c : List Bool) → ((q : ℕ) → both q ≡ (first q || second q)) → MarksAlso first a b → MarksAlso second b c → MarksAlso both a c
marks-more first second both a b c is one other = record {
  size = other.size ∙ one.size;
  each = λ q flag e. other.each q (flag || first q) (one.each q flag e) ∙ ap Some (or_assoc flag (first q) (second q) ∙ ap (λ (b : Bool). flag || b) (sym (is q)));
}

-- one element more of a list that grows at its end
pub any_push : {X : Type 0} (p : X → Bool) (xs : List X) (x : X) → list_any p (xs ++ x ∷ []) ≡ (list_any p xs || p x)
any_push p xs x = list_any-append p xs (x ∷ []) ∙ ap (λ (b : Bool). list_any p xs || b) (sym (or_false (p x)))

all_false : (n q : ℕ) → q < n → slice_get (replicate n false) q ≡ Some false
all_false zero q low = absurd (omega arith)
all_false (suc n) zero low = refl
all_false (suc n) (suc q) low = all_false n q (omega arith)

-- flags that began as false
pub flags-marked : (bound : ℕ) (test : ℕ → Bool) (flags : List Bool) → MarksAlso test (replicate bound false) flags → AreFlags bound test flags
flags-marked bound test flags marks = record {
  size = marks.size ∙ length-replicate bound false;
  each = λ q low. marks.each q false (all_false bound q low);
}
