-- Small frames.
use Rattle.std.proofs.Common.{◌≡◌, Bool, true, false, ℕ, List, [], ◌∷◌, length, get_or, Option, Some, None, refl, arith}
use Rattle.std.specs.Prelude.{slice_get, nat_lt, ◌&&◌, codes}
use Rattle.newt_graph.specs.declared.node.Node.{Node}
use Rattle.newt_graph.specs.declared.node.Ref.{Ref}
use Rattle.newt_spec_nsof.specs.Text.{sides}
use Rattle.newt_spec_nsof.specs.Written.{is_spelled, are_sides, side_byte, with_byte, side_bytes, small_frame}
use Rattle.newt_spec_nsof.proofs.Rectangles.{sides_count}

-- a frame of other than four slots is not small
pub not_four : (nodes : List Node) (n : ℕ) (tags : List ℕ) (values : List Ref) → (length tags ≡ 4 → ⊥) → small_frame nodes n tags values ≡ None
unfolding small_frame
not_four nodes n tags values other = go (are_sides nodes n tags sides) refl
  where
    go : (b : Bool) → are_sides nodes n tags sides ≡ b → ◌≡◌ {A = Option (List ℕ)} (elim b [ true ↦ side_bytes values | false ↦ None ]) None
    go true is = absurd (other (sides_count nodes n tags sides is))
    go false is = refl

and_true : (b : Bool) → (b && true) ≡ b
and_true true = refl
and_true false = refl

-- the tags of a frame of four slots, one by one
pub four_sides : (nodes : List Node) (n : ℕ) (tags : List ℕ) → length tags ≡ 4
    → are_sides nodes n tags sides ≡ (is_spelled (nat_lt (get_or tags 0 0) n) (codes "top") (slice_get nodes (get_or tags 0 0)) && (is_spelled (nat_lt (get_or tags 1 0) n) (codes "left") (slice_get nodes (get_or tags 1 0)) && (is_spelled (nat_lt (get_or tags 2 0) n) (codes "bottom") (slice_get nodes (get_or tags 2 0)) && is_spelled (nat_lt (get_or tags 3 0) n) (codes "right") (slice_get nodes (get_or tags 3 0)))))
four_sides nodes n [] four = absurd (omega (arith, four))
four_sides nodes n (a ∷ []) four = absurd (omega (arith, four))
four_sides nodes n (a ∷ b ∷ []) four = absurd (omega (arith, four))
four_sides nodes n (a ∷ b ∷ c ∷ []) four = absurd (omega (arith, four))
four_sides nodes n (a ∷ b ∷ c ∷ d ∷ []) four = rw (and_true (is_spelled (nat_lt d n) (codes "right") (slice_get nodes d))) refl
four_sides nodes n (a ∷ b ∷ c ∷ d ∷ e ∷ es) four = absurd (omega (arith, four))

-- the values of a frame of four slots, one by one
pub four_bytes : (values : List Ref) (none : Ref) → length values ≡ 4
    → side_bytes values ≡ with_byte (side_byte (get_or values 0 none)) (with_byte (side_byte (get_or values 1 none)) (with_byte (side_byte (get_or values 2 none)) (with_byte (side_byte (get_or values 3 none)) (Some []))))
four_bytes [] none four = absurd (omega (arith, four))
four_bytes (a ∷ []) none four = absurd (omega (arith, four))
four_bytes (a ∷ b ∷ []) none four = absurd (omega (arith, four))
four_bytes (a ∷ b ∷ c ∷ []) none four = absurd (omega (arith, four))
four_bytes (a ∷ b ∷ c ∷ d ∷ []) none four = refl
four_bytes (a ∷ b ∷ c ∷ d ∷ e ∷ es) none four = absurd (omega (arith, four))
