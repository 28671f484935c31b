-- How many replies have begun, worked by hand: one counts from its first byte on.
use Rattle.std.proofs.Common.{◌≡◌, refl, ℕ, List, [], ◌∷◌}
use Rattle.newt_script_session.specs.Moments.{begun}

-- a reply of two bytes, and one of one
abbrev two_replies : List (List ℕ)
two_replies = (1 ∷ 2 ∷ []) ∷ (3 ∷ []) ∷ []

nothing : begun two_replies 0 ≡ 0
unfolding begun
nothing = refl

half : begun two_replies 1 ≡ 1
unfolding begun
half = refl

whole : begun two_replies 2 ≡ 1
unfolding begun
whole = refl

next : begun two_replies 3 ≡ 2
unfolding begun
next = refl
