-- Two lists of which the elements are related one by one.
use Rattle.std.proofs.Common.{◌≡◌, refl, subst, List, [], ◌∷◌, inl, inr, Option, Some, None, option_map, map}
use Rattle.newt_spec_graph.specs.Graph.{every}
use Rattle.newt_spec_graph.specs.Lists.{Each, Pairs, Among}
use Rattle.newt_spec_graph.proofs.Lists.{each-at, each-from, some-same, none-some}

-- the elements of two lists, one of each, are related
abbrev pub Both : {X Y : Type 0} → (X → Y → Type 0) → List X → List Y → Type 0
Both R [] [] = Unit {0}
Both R (x ∷ xs) (y ∷ ys) = R x y × Both R xs ys
Both R [] (y ∷ ys) = ⊥
Both R (x ∷ xs) [] = ⊥

pub both-from : {X Y : Type 0} (R : X → Y → Type 0) (xs : List X) → Each (λ x. (y : Y) × R x y) xs → (ys : List Y) × Both R xs ys
both-from R [] h = ([], tt)
both-from R (x ∷ xs) h = let r = both-from R xs h.1 in (h.0.0 ∷ r.0, (h.0.1, r.1))

pub both-left : {X Y : Type 0} (R : X → Y → Type 0) (xs : List X) (ys : List Y) (x : X) → Both R xs ys → Among xs x → (y : Y) × Among ys y × R x y
both-left R [] ys x h m = absurd m
both-left R (z ∷ xs) [] x h m = absurd h
both-left R (z ∷ xs) (y ∷ ys) x h (inl e) = (y, inl refl, subst (λ v. R v y) e h.0)
both-left R (z ∷ xs) (y ∷ ys) x h (inr m) = let r = both-left R xs ys x h.1 m in (r.0, inr r.1, r.2)

pub both-right : {X Y : Type 0} (R : X → Y → Type 0) (xs : List X) (ys : List Y) (y : Y) → Both R xs ys → Among ys y → (x : X) × Among xs x × R x y
both-right R [] [] y h m = absurd m
both-right R [] (z ∷ ys) y h m = absurd h
both-right R (x ∷ xs) [] y h m = absurd m
both-right R (x ∷ xs) (z ∷ ys) y h (inl e) = (x, inl refl, subst (R x) e h.0)
both-right R (x ∷ xs) (z ∷ ys) y h (inr m) = let r = both-right R xs ys y h.1 m in (r.0, inr r.1, r.2)

pub both-pairs : {X Y : Type 0} (R : X → Y → Type 0) (S : X → X → Type 0) (T : Y → Y → Type 0) → ((a b : X) (x y : Y) → R a x → R b y → S a b → T x y)
    → (xs : List X) (ys : List Y) → Both R xs ys → Pairs S xs → Pairs T ys
both-pairs R S T f [] [] h k = tt
both-pairs R S T f [] (y ∷ ys) h k = tt-of h
  where
    tt-of : {A : Type 0} → ⊥ → A
    tt-of b = absurd b
both-pairs R S T f (x ∷ xs) [] h k = tt
both-pairs R S T f (x ∷ xs) (y ∷ ys) h k = (
  each-from (T y) ys (λ z m. let r = both-right R xs ys z h.1 m in f x r.0 y z h.0 r.2 (each-at (S x) xs r.0 k.0 r.1)),
  both-pairs R S T f xs ys h.1 k.1,
)

pub every-both : {X Y : Type 0} (f : X → Option Y) (xs : List X) (ys : List Y) → every (map f xs) ≡ Some ys → Both (λ x y. f x ≡ Some y) xs ys
every-both f [] [] h = tt
every-both f [] (y ∷ ys) h = cc
every-both {X} {Y} f (x ∷ xs) ys h = go (every-both f xs) (f x) refl h
  where
    rest : (y : Y) (ys : List Y) → ((zs : List Y) → every (map f xs) ≡ Some zs → Both (λ x y. f x ≡ Some y) xs zs) → f x ≡ Some y → (o : Option (List Y)) → every (map f xs) ≡ o
        → option_map (λ zs. y ∷ zs) o ≡ Some ys → Both (λ x y. f x ≡ Some y) (x ∷ xs) ys
    rest y ys more e None k l = absurd (none-some ys l)
    rest y ys more e (Some zs) k l = subst (Both (λ x y. f x ≡ Some y) (x ∷ xs)) (some-same (y ∷ zs) ys l) (e, more zs k)

    go : ((zs : List Y) → every (map f xs) ≡ Some zs → Both (λ x y. f x ≡ Some y) xs zs) → (o : Option Y) → f x ≡ o → every (o ∷ map f xs) ≡ Some ys → Both (λ x y. f x ≡ Some y) (x ∷ xs) ys
    go more None e k = absurd (none-some ys k)
    go more (Some y) e k = rest y ys more e (every (map f xs)) refl k

pub both-join : {X Y Z : Type 0} (R : X → Y → Type 0) (S : Y → Z → Type 0) (T : X → Z → Type 0) → ((x : X) (y : Y) (z : Z) → R x y → S y z → T x z)
    → (xs : List X) (ys : List Y) (zs : List Z) → Both R xs ys → Both S ys zs → Both T xs zs
both-join R S T f [] [] [] h k = tt
both-join R S T f [] [] (z ∷ zs) h k = absurd k
both-join R S T f [] (y ∷ ys) zs h k = absurd h
both-join R S T f (x ∷ xs) [] zs h k = absurd h
both-join R S T f (x ∷ xs) (y ∷ ys) [] h k = absurd k
both-join R S T f (x ∷ xs) (y ∷ ys) (z ∷ zs) h k = (f x y z h.0 k.0, both-join R S T f xs ys zs h.1 k.1)

pub both-more : {X Y : Type 0} (R S : X → Y → Type 0) (xs : List X) (ys : List Y) → ((x : X) (y : Y) → Among xs x → Among ys y → R x y → S x y) → Both R xs ys → Both S xs ys
both-more R S [] [] f h = tt
both-more R S [] (y ∷ ys) f h = absurd h
both-more R S (x ∷ xs) [] f h = absurd h
both-more R S (x ∷ xs) (y ∷ ys) f h = (f x y (inl refl) (inl refl) h.0, both-more R S xs ys (λ a b m n. f a b (inr m) (inr n)) h.1)

pub both-flip : {X Y : Type 0} (R : X → Y → Type 0) (xs : List X) (ys : List Y) → Both R xs ys → Both (λ y x. R x y) ys xs
both-flip R [] [] h = tt
both-flip R [] (y ∷ ys) h = absurd h
both-flip R (x ∷ xs) [] h = absurd h
both-flip R (x ∷ xs) (y ∷ ys) h = (h.0, both-flip R xs ys h.1)
