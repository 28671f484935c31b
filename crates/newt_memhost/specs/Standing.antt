-- What follows for a unit that holds what has happened to it.
use Rattle.std.proofs.Common.{◌≡◌, ℕ, zero, suc, ◌*◌, ◌/◌, ◌<◌, ◌≤◌, ◌^◌, Bool, true, false, cond, List, [], ◌∷◌, length, Option, Some, None, IsSome, is_some, slice_get, refl, sym, ◌∙◌, ap, subst, lit<}
use Rattle.std.proofs.lemmas.Option.{slice_get_past}
use Rattle.std.proofs.lemmas.Bool.{false≢true}
use Rattle.newt_host.specs.Moments.{Change, bytes_after, IsHistory}
use Rattle.newt_memhost.specs.Cards.{Stands, StandsAs, name_of, blocks_of}
use Rattle.newt_memhost.specs.declared.card.Card.{Card}

pub none_past : (cards : List Card) (u : ℕ) → length cards ≡ 8 → 8 ≤ u → name_of (slice_get cards u) ≡ None
none_past cards u eight past = ap name_of (slice_get_past cards u (subst (λ (n : ℕ). n ≤ u) (sym eight) past))

abbrev is_zero : ℕ → Bool
is_zero zero = true
is_zero (suc n) = false

nothing : (done : List Change) → length done ≡ 0 → done ≡ []
nothing [] none = refl
nothing (c ∷ done) none = absurd (false≢true (ap is_zero none))

some_name : {A : Type 0} (b : Bool) (x : A) → cond b (Some x) None ≡ None → b ≡ false
some_name true x free = absurd (false≢true (sym (ap is_some free)))
some_name false x free = refl

named : {A : Type 0} (b : Bool) (x : A) → IsSome (cond b (Some x) None) → b ≡ true
named true x some = refl
named false x some = some

free_stands : (c : Card) (done : List Change) → c.attached ≡ false → StandsAs c.attached c done → (length done ≡ 0) × (length c.first.items ≡ 0)
free_stands c done free stands = subst (λ (b : Bool). StandsAs b c done) free stands

pub held_stands : (c : Card) (done : List Change) → c.attached ≡ true → StandsAs c.attached c done → (bytes_after done ≡ c.held.items) × IsHistory (length c.first.items) done
held_stands c done held stands = subst (λ (b : Bool). StandsAs b c done) held stands

pub no_blocks : (o : Option Card) (done : List Change) → Stands o done → name_of o ≡ None → blocks_of o ≡ 0
no_blocks None done stands free = refl
no_blocks (Some c) done stands free = let empty = (free_stands c done (some_name c.attached c.name.items free) stands).1 in ap (λ (n : ℕ). n / 4096) empty

pub untouched : (o : Option Card) (done : List Change) → Stands o done → name_of o ≡ None → done ≡ []
untouched None done stands free = nothing done stands
untouched (Some c) done stands free = nothing done (free_stands c done (some_name c.attached c.name.items free) stands).0

pub few_blocks : (o : Option Card) → blocks_of o < 2 ^ 32
few_blocks None = lit< tt
few_blocks (Some c) = c.few

pub history : (o : Option Card) (done : List Change) → Stands o done → IsSome (name_of o) → IsHistory (blocks_of o * 4096) done
history None done stands some = absurd (false≢true some)
history (Some c) done stands some = subst (λ (n : ℕ). IsHistory n done) c.whole (held_stands c done (named c.attached c.name.items some) stands).1

sized_as : (b : Bool) (c : Card) (done : List Change) → StandsAs b c done → length (bytes_after done) ≡ length c.first.items / 4096 * 4096
sized_as true c done stands = ap length stands.0 ∙ c.size ∙ c.whole
sized_as false c done stands = ap (λ (l : List Change). length (bytes_after l)) (nothing done stands.0) ∙ ap (λ (n : ℕ). n / 4096 * 4096) (sym stands.1)

pub sized : (o : Option Card) (done : List Change) → Stands o done → length (bytes_after done) ≡ blocks_of o * 4096
sized None done stands = ap (λ (l : List Change). length (bytes_after l)) (nothing done stands)
sized (Some c) done stands = sized_as c.attached c done stands
