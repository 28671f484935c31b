-- Declarations of indexes and tags, as their texts are written piece by piece.
use Rattle.std.proofs.Common.{◌≡◌, ℕ, ◌<◌, ◌≤◌, ◌-◌, length, get_or, take, drop, arith, List, [], ◌∷◌, ◌++◌, map, flat_map, codes, refl, ap, ◌∙◌, append_assoc}
use Rattle.std.proofs.lemmas.List.{take_all}
use Rattle.std.specs.List.{join_with_byte}
use Rattle.newt_keys.specs.Seen.{declared, declared_all}
use Rattle.newt_keys.specs.declared.types.IndexPart.{IndexPart}
use Rattle.newt_spec_store.specs.Keys as keys
use Rattle.newt_spec_world.specs.Reply.{path_field, kind_word, direction_word, field}
use Rattle.newt_reply.specs.Fields.{part_item, spec_item, ok_text}

-- a byte between each two is a byte before each but the first
joined : {A : Type 0} (c : ℕ) (f : A → List ℕ) (x : A) (xs : List A) → f x ++ flat_map (λ y. c ∷ f y) xs ≡ join_with_byte c (map f (x ∷ xs))
joined c f x [] = append-nil (f x)
  where
    append-nil : (ys : List ℕ) → ys ++ [] ≡ ys
    append-nil [] = refl
    append-nil (y ∷ ys) = ap (λ zs. y ∷ zs) (append-nil ys)
joined c f x (y ∷ xs) = ap (λ rest. f x ++ c ∷ rest) (joined c f y xs)

map-same : (xs : List (List ℕ)) → map (λ x. x) xs ≡ xs
map-same [] = refl
map-same (x ∷ xs) = ap (λ ys. x ∷ ys) (map-same xs)

pub no_path : [] ≡ path_field []
no_path = refl

pub path_is : (name : List ℕ) (names : List (List ℕ)) → name ++ flat_map (λ n. 46 ∷ n) names ≡ path_field (name ∷ names)
path_is name names = joined 46 (λ n. n) name names ∙ ap (join_with_byte 46) (map-same (name ∷ names))

regrouped : (a b c : List ℕ) → (((a ++ 58 ∷ []) ++ b) ++ 58 ∷ []) ++ c ≡ a ++ codes ":" ++ b ++ codes ":" ++ c
regrouped a b c = simp append_assoc

-- a part, piece by piece
pub part_is : (p : keys.IndexPart) (path kind order t1 t2 t3 t4 : List ℕ) → path ≡ path_field p.path → kind ≡ kind_word p.kind → order ≡ direction_word p.direction
    → t1 ≡ path ++ 58 ∷ [] → t2 ≡ t1 ++ kind → t3 ≡ t2 ++ 58 ∷ [] → t4 ≡ t3 ++ order → t4 ≡ part_item p
unfolding part_item
part_is p path kind order t1 t2 t3 t4 path_is kind_is order_is e1 e2 e3 e4 =
    rw (e4, e3, e2, e1, path_is, kind_is, order_is) (regrouped (path_field p.path) (kind_word p.kind) (direction_word p.direction))

pub no_parts : (parts : List IndexPart) → length parts < 1 → [] ≡ spec_item (declared_all parts)
unfolding spec_item
no_parts [] none = refl
no_parts (p ∷ parts) none = absurd (omega (arith, none))

map-map : (f : keys.IndexPart → List ℕ) (parts : List IndexPart) → map (λ p. f (declared p)) parts ≡ map f (declared_all parts)
map-map f [] = refl
map-map f (p ∷ parts) = ap (λ rest. f (declared p) ∷ rest) (map-map f parts)

-- parts, the first and the rest
pub parts_are : (parts : List IndexPart) (part : IndexPart) (text new : List ℕ) → 1 ≤ length parts → part ≡ get_or parts 0 part → text ≡ part_item (declared part)
    → new ≡ text ++ flat_map (λ p. 32 ∷ part_item (declared p)) (take (length parts - 1) (drop 1 parts)) → new ≡ spec_item (declared_all parts)
unfolding spec_item
parts_are [] part text new some first text_is new_is = absurd (omega (arith, some))
parts_are (p ∷ parts) part text new some first text_is new_is =
    new_is
    ∙ (ap (λ t. t ++ flat_map (λ q. 32 ∷ part_item (declared q)) (take (length (p ∷ parts) - 1) parts)) (text_is ∙ ap (λ q. part_item (declared q)) first)
    ∙ (ap (λ rest. part_item (declared p) ++ flat_map (λ q. 32 ∷ part_item (declared q)) rest) (take_all (length (p ∷ parts) - 1) parts (omega arith))
    ∙ joined 32 (λ q. part_item (declared q)) p parts ∙ ap (join_with_byte 32) (map-map part_item (p ∷ parts))))

pub line_is : (first : List ℕ) (names : List (List ℕ)) → ((codes "ok" ++ field first) ++ flat_map field names) ++ 10 ∷ [] ≡ ok_text (first ∷ names)
unfolding ok_text
line_is first names = ap (λ t. t ++ 10 ∷ []) (append_assoc (codes "ok") (field first) (flat_map field names))
