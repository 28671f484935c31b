-- What stands where a change is not refused.
use Rattle.std.proofs.Common.{◌≡◌, ◌||◌, Bool, true, false, [], ◌∷◌, Option, Some, None, refl}
use Rattle.std.specs.Option.{is_none}
use Rattle.newt_base.specs.Refusals.{Checks, first_of}
use Rattle.newt_base.specs.declared.Refusal.{Refusal}

-- the first check does not hold, and none of the others
pub none-first : (r : Refusal) (b : Bool) (rest : Checks) → first_of ((r, b) ∷ rest) ≡ None → (b ≡ false) × (first_of rest ≡ None)
none-first r true rest h = absurd (let isnt : Some r ≡ None = h in cc)
none-first r false rest h = (refl, h)

-- what is not none is there
pub is-there : {A : Type 0} (o : Option A) → is_none o ≡ false → (a : A) × (o ≡ Some a)
is-there None h = absurd (let isnt : true ≡ false = h in cc)
is-there (Some a) h = (a, refl)

-- neither holds
pub neither : (a b : Bool) → (a || b) ≡ false → (a ≡ false) × (b ≡ false)
neither true b h = absurd (let isnt : true ≡ false = h in cc)
neither false b h = (refl, h)

-- two checks that do not hold
pub none-two : (r q : Refusal) (b c : Bool) (rest : Checks) → first_of ((r, b) ∷ (q, c) ∷ rest) ≡ None → (b ≡ false) × (c ≡ false) × (first_of rest ≡ None)
none-two r q b c rest h = let one = none-first r b ((q, c) ∷ rest) h in let two = none-first q c rest one.1 in (one.0, two.0, two.1)

-- all checks but the first
abbrev pub later-checks : Checks → Checks
later-checks [] = []
later-checks (check ∷ checks) = checks
