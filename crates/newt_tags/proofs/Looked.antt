-- Symbols that are looked for among values, and symbols that each value is.
use Rattle.std.proofs.Common.{◌≡◌, ℕ, ◌+◌, List, [], ◌∷◌, ◌++◌, map, Bool, true, false, Option, Some, None, refl, sym, ap, ◌∙◌, ◌&&◌, ◌||◌}
use Rattle.std.specs.Prelude.{is_some, option_map, option_and_then, filter_map}
use Rattle.std.specs.List.{list_any, list_all, cons_option}
use Rattle.newt_base.specs.Names.{same_name}
use Rattle.newt_graph.specs.declared.node.Node.{Node}
use Rattle.newt_graph.specs.declared.node.Node.TheVariants.{Symbol, Str, Binary, Large, Array, Frame}
use Rattle.newt_graph.specs.declared.node.Ref.{Ref}
use Rattle.newt_spec_graph.specs.Graph.{object, every}
use Rattle.newt_spec_graph.specs.Slots.{is_named}
use Rattle.newt_spec_query.specs.Tags.{symbol_name, is_among, if_given}
use Rattle.newt_spec_query.specs.Spec.{one_or_more, or_else, values_of}

-- a test of what each is
pub any_mapped : {X Y : Type 0} (test : Y → Bool) (f : X → Y) (xs : List X) → list_any test (map f xs) ≡ list_any (λ x. test (f x)) xs
any_mapped test f [] = refl
any_mapped test f (x ∷ xs) = ap (λ (b : Bool). test (f x) || b) (any_mapped test f xs)

-- the name of a slot among names
pub named_slot : {Y : Type 0} (names : List Y) (f : Y → List ℕ) (o : Option (List ℕ)) (name : List ℕ) → Some name ≡ o
    → list_any (λ n. same_name name (f n)) names ≡ if_given (λ tag. list_any (same_name tag) (map f names)) o
named_slot names f o name e = sym (any_mapped (same_name name) f names) ∙ ap (if_given (λ tag. list_any (same_name tag) (map f names))) e

-- the name of a node that is a symbol
abbrev pub name_of : Option Node → Option (List ℕ)
name_of o = elim o [ Some (Symbol name) ↦ Some name | _ ↦ None ]

one_named : (name : List ℕ) (o : Option Node) (rest : List (List ℕ)) → is_among (cons_option (name_of o) rest) name ≡ (is_named name o || is_among rest name)
one_named name None rest = refl
one_named name (Some (Symbol other)) rest = refl
one_named name (Some (Str u)) rest = refl
one_named name (Some (Binary c u)) rest = refl
one_named name (Some (Large c u)) rest = refl
one_named name (Some (Array c u)) rest = refl
one_named name (Some (Frame c u)) rest = refl

-- a symbol is among those of some values exactly where one of them is a symbol of that name
pub any_is_among : (nodes : List Node) (name : List ℕ) (values : List Ref) → is_among (filter_map (symbol_name nodes) values) name ≡ list_any (λ value. is_named name (object nodes value)) values
any_is_among nodes name [] = refl
any_is_among nodes name (v ∷ vs) =
    one_named name (object nodes v) (filter_map (symbol_name nodes) vs) ∙ ap (λ (b : Bool). is_named name (object nodes v) || b) (any_is_among nodes name vs)

-- each has a value exactly where all have
pub every_is_some : {X Y : Type 0} (f : X → Option Y) (xs : List X) → is_some (every (map f xs)) ≡ list_all (λ x. is_some (f x)) xs
every_is_some f [] = refl
every_is_some {X = X} {Y = Y} f (x ∷ xs) = by (f x) (every_is_some f xs)
  where
    more : (o : Option (List Y)) (y : Y) → is_some (option_map (λ ys. y ∷ ys) o) ≡ is_some o
    more None y = refl
    more (Some ys) y = refl

    by : (o : Option Y) → is_some (every (map f xs)) ≡ list_all (λ x. is_some (f x)) xs → is_some (every (o ∷ map f xs)) ≡ (is_some o && list_all (λ x. is_some (f x)) xs)
    by None rest = refl
    by (Some y) rest = more (every (map f xs)) y ∙ rest

-- one symbol, or an array of symbols
pub symbols_one : (nodes : List Node) (r : Ref) → true ≡ is_some (symbol_name nodes r) → true ≡ is_some (one_or_more nodes (symbol_name nodes) r)
symbols_one nodes r e = by (symbol_name nodes r) e
  where
    by : (o : Option (List ℕ)) → true ≡ is_some o → true ≡ is_some (or_else (option_map (λ x. x ∷ []) o) (option_and_then (λ vs. every (map (symbol_name nodes) vs)) (values_of nodes r)))
    by None e = absurd cc
    by (Some name) e = refl

pub symbols_other : (nodes : List Node) (r : Ref) (values : Option (List Ref)) → false ≡ is_some (symbol_name nodes r) → values ≡ values_of nodes r
    → is_some (one_or_more nodes (symbol_name nodes) r) ≡ is_some (option_and_then (λ vs. every (map (symbol_name nodes) vs)) values)
symbols_other nodes r values e is = by (symbol_name nodes r) e
  where
    by : (o : Option (List ℕ)) → false ≡ is_some o
        → is_some (or_else (option_map (λ x. x ∷ []) o) (option_and_then (λ vs. every (map (symbol_name nodes) vs)) (values_of nodes r))) ≡ is_some (option_and_then (λ vs. every (map (symbol_name nodes) vs)) values)
    by None e = ap (λ (o : Option (List Ref)). is_some (option_and_then (λ vs. every (map (symbol_name nodes) vs)) o)) (sym is)
    by (Some name) e = absurd cc

pub symbols_several : (nodes : List Node) (r : Ref) (values : List Ref) → false ≡ is_some (symbol_name nodes r) → Some values ≡ values_of nodes r
    → list_all (λ v. is_some (symbol_name nodes v)) values ≡ is_some (one_or_more nodes (symbol_name nodes) r)
symbols_several nodes r values e is = sym (symbols_other nodes r (Some values) e is ∙ every_is_some (symbol_name nodes) values)

pub symbols_neither : (nodes : List Node) (r : Ref) → false ≡ is_some (symbol_name nodes r) → None ≡ values_of nodes r → false ≡ is_some (one_or_more nodes (symbol_name nodes) r)
symbols_neither nodes r e is = sym (symbols_other nodes r None e is)

-- ---- read one after another

-- the names so far before those of what is left
abbrev pub before : {Y : Type 0} → List Y → Option (List Y) → Option (List Y)
before items o = option_map (λ others. items ++ others) o
