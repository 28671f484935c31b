-- Labels in a table.
use Rattle.std.proofs.Common.{◌≡◌, ℕ, eqb, Bool, cond, List, [], ◌∷◌, Some, refl, sym, ap, ◌∙◌}
use Rattle.std.specs.Map.{lookup}
use Rattle.std.proofs.lemmas.Bool.Decides.{same_from_decides, Decides-eqb}
use Rattle.newt_spec_literal.specs.Built.{node_of}

eqb-sym : (a b : ℕ) → eqb a b ≡ eqb b a
eqb-sym a b = same_from_decides (eqb a b) (eqb b a) (Decides-eqb a b) ((λ e. sym ((Decides-eqb b a).0 e)), (λ e. (Decides-eqb b a).1 (sym e)))

-- the table finds the node of a label
pub label_found : (label : ℕ) (labels : List (ℕ × ℕ)) → lookup (eqb label) labels ≡ node_of label labels
label_found label [] = refl
label_found label (l ∷ ls) = ap (λ (b : Bool). cond b (Some l.1) (lookup (eqb label) ls)) (eqb-sym label l.0) ∙ ap (cond (eqb l.0 label) (Some l.1)) (label_found label ls)
