-- Whether two lists agree one by one, through what is seen of their elements.
use Rattle.std.proofs.Common.{◌≡◌, Bool, ◌&&◌, List, [], ◌∷◌, map, refl, ◌∙◌, ap, length}
use Rattle.std.specs.Prelude.{zip, ◌==◌}
use Rattle.std.proofs.lemmas.List.{length-map}
use Rattle.newt_spec_store.specs.Keys as spec
use Rattle.std.specs.List.{list_all}
use Rattle.newt_base.specs.Names.{same_path}
use Rattle.newt_spec_store.specs.Keys.{Path, same_part, same_spec, same_paths, paths_of}
use Rattle.newt_keys.specs.Seen.{declared, declared_all}
use Rattle.newt_keys.specs.declared.types.IndexPart.{IndexPart}

all_seen : {X Y : Type 0} (f : X → Y) (test : Y × Y → Bool) (xs ys : List X)
    → list_all test (zip (map f xs) (map f ys)) ≡ list_all (λ p. test (f p.0, f p.1)) (zip xs ys)
all_seen f test [] ys = refl
all_seen f test (x ∷ xs) [] = refl
all_seen f test (x ∷ xs) (y ∷ ys) = ap (λ b. test (f x, f y) && b) (all_seen f test xs ys)

first_seen : {X Y Z : Type 0} (f : X → Y) (test : Y × Z → Bool) (xs : List X) (zs : List Z)
    → list_all test (zip (map f xs) zs) ≡ list_all (λ p. test (f p.0, p.1)) (zip xs zs)
first_seen f test [] zs = refl
first_seen f test (x ∷ xs) [] = refl
first_seen f test (x ∷ xs) (z ∷ zs) = ap (λ b. test (f x, z) && b) (first_seen f test xs zs)

abbrev path : spec.IndexPart → Path
path p = p.path

lengths : (ps : List IndexPart) → length (paths_of (declared_all ps)) ≡ length ps
lengths ps = length-map (declared_all ps) path ∙ length-map ps declared

pub same_specs : (ps qs : List IndexPart)
    → same_spec (declared_all ps) (declared_all qs) ≡ ((length ps == length qs) && list_all (λ p. same_part (declared p.0) (declared p.1)) (zip ps qs))
same_specs ps qs = λ i. (length-map ps declared i == length-map qs declared i) && all_seen declared (λ p. same_part p.0 p.1) ps qs i

pub same_spec_paths : (ps qs : List IndexPart)
    → same_paths (paths_of (declared_all ps)) (paths_of (declared_all qs)) ≡ ((length ps == length qs) && list_all (λ p. same_path p.0.path p.1.path) (zip ps qs))
same_spec_paths ps qs = λ i. (lengths ps i == lengths qs i)
    && (all_seen path (λ p. same_path p.0 p.1) (declared_all ps) (declared_all qs) ∙ all_seen declared (λ p. same_path p.0.path p.1.path) ps qs) i

pub paths_seen : (ps : List IndexPart) (qs : List Path)
    → same_paths (paths_of (declared_all ps)) qs ≡ ((length ps == length qs) && list_all (λ p. same_path p.0.path p.1) (zip ps qs))
paths_seen ps qs = λ i. (lengths ps i == length qs)
    && (first_seen path (λ p. same_path p.0 p.1) (declared_all ps) qs ∙ first_seen declared (λ p. same_path p.0.path p.1) ps qs) i
