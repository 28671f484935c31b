-- One value or several, and none.
use Rattle.std.proofs.Common.{◌≡◌, List, [], ◌∷◌, map, Option, Some, None, refl, ap, ◌∙◌}
use Rattle.std.specs.Prelude.{option_map}
use Rattle.newt_spec_graph.specs.Graph.{every}
use Rattle.newt_spec_query.specs.Spec.{or_else}

pub one_or : {X : Type 0} (o : Option X) (p : Option (List X)) (x : X) → Some x ≡ o → or_else (option_map (λ y. y ∷ []) o) p ≡ Some (x ∷ [])
one_or None p x e = absurd cc
one_or (Some y) p x e = cc

pub none_or : {X : Type 0} (o : Option X) (p : Option (List X)) → None ≡ o → or_else (option_map (λ y. y ∷ []) o) p ≡ p
none_or None p e = refl
none_or (Some y) p e = absurd cc

pub one_first : {X Y : Type 0} (f : X → Y) (o : Option X) (p : Option (List X)) (y : Y) → Some y ≡ option_map f o → option_map (map f) (or_else (option_map (λ x. x ∷ []) o) p) ≡ Some (y ∷ [])
one_first f None p y e = absurd cc
one_first f (Some x) p y e = cc

pub none_first : {X Y : Type 0} (f : X → Y) (o : Option X) (p : Option (List X)) → None ≡ option_map f o → option_map (map f) (or_else (option_map (λ x. x ∷ []) o) p) ≡ option_map (map f) p
none_first f None p e = refl
none_first f (Some x) p e = absurd cc

pub every_mapped : {A X Y : Type 0} (f : X → Y) (g : A → Option X) (as' : List A) → option_map (map f) (every (map g as')) ≡ every (map (λ a. option_map f (g a)) as')
every_mapped f g [] = refl
every_mapped {A = A} {X = X} {Y = Y} f g (a ∷ as') = by (g a) (every_mapped f g as')
  where
    more : (o : Option (List X)) (x : X) → option_map (map f) (option_map (λ xs. x ∷ xs) o) ≡ option_map (λ ys. f x ∷ ys) (option_map (map f) o)
    more None x = refl
    more (Some xs) x = refl

    by : (o : Option X) → option_map (map f) (every (map g as')) ≡ every (map (λ a. option_map f (g a)) as') → option_map (map f) (every (o ∷ map g as')) ≡ every (option_map f o ∷ map (λ a. option_map f (g a)) as')
    by None rest = refl
    by (Some x) rest = more (every (map g as')) x ∙ ap (option_map (λ ys. f x ∷ ys)) rest
