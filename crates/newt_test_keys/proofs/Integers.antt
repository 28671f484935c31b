-- Keys of one integer.
use Rattle.std.proofs.Common.{◌≡◌, [], ◌∷◌, Option, Some, sym, subst, ℤ}
use Rattle.std.specs.Prelude.{FitsSigned}
use Rattle.std.specs.Int.{w32}
use Rattle.newt_spec_store.specs.Keys.{IndexSpec, whole}
use Rattle.newt_spec_store.specs.declared.Order.{Order}
use Rattle.newt_keys.specs.KeyForm.{IsKeyOf}
use Rattle.newt_index.specs.Pairs.{parts_of}
use Rattle.newt_test_keys.specs.Trials.{integers}

-- an integer is a key of a declaration of integers
pub int_key : (o : Order) (s : Option IndexSpec) (n : ℤ) → s ≡ Some (integers o) → FitsSigned w32 n → IsKeyOf (parts_of s) (whole n ∷ [])
int_key o s n e h = let P : Option IndexSpec → Type 0 = λ s. IsKeyOf (parts_of s) (whole n ∷ []) in subst P (sym e) ((h, tt), tt)
