-- A path that is read is one of a declaration.
use Rattle.std.proofs.Common.{◌≡◌, ℕ, Bool, true, false, cond, List, Some, None, refl, subst}
use Rattle.std.proofs.lemmas.Option.{same_Some}
use Rattle.std.specs.Prelude.{IsTrue, ◌==◌}
use Rattle.std.specs.List.{slice_split}
use Rattle.newt_base.specs.Names.{valid_path}
use Rattle.newt_path.specs.Names.{path_of}

kept : (names path : List (List ℕ)) (b : Bool) → valid_path names ≡ b → cond b (Some names) None ≡ Some path → IsTrue (valid_path path)
kept names path true e h = let P : List (List ℕ) → Type 0 = λ p. IsTrue (valid_path p) in subst P (same_Some names path h) e
kept names path false e h = cc

pub path_valid : (text : List ℕ) (path : List (List ℕ)) → path_of text ≡ Some path → IsTrue (valid_path path)
unfolding path_of
path_valid text path e = kept (slice_split (λ c. c == 46) text) path (valid_path (slice_split (λ c. c == 46) text)) refl e
