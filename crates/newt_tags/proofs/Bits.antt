-- A number by its bits.
use Rattle.std.proofs.Common.{◌≡◌, ℕ, ◌+◌, ◌*◌, ◌/◌, ◌%◌, ◌<◌, ◌≤◌, List, [], ◌∷◌, length, map, filter, drop, get_or, ◌&&◌, ◌||◌, Bool, true, false, Option, Some, None, refl, sym, ap, ◌∙◌, arith, cond, eqb}
use Rattle.std.specs.Prelude.{not}
use Rattle.std.specs.List.{list_any, list_all}
use native.Mathlib.Numerals.{unary_clauses}
use Rattle.std.proofs.lemmas.List.{at_drop_more, at_drop_all}
use Rattle.std.proofs.lemmas.Bool.{eq-eqb, ne_eqb}
use Rattle.newt_graph.specs.declared.node.Ref.{Ref}
use Rattle.newt_graph.specs.Graph.{RawGraph}
use Rattle.newt_spec_graph.specs.Slots.{value_at}
use Rattle.newt_spec_store.specs.Store.{TagTable}
use Rattle.newt_spec_query.specs.Tags.{symbols_at, symbols_in, is_among, tags_of}
use Rattle.newt_tags.specs.Masks.{number, mask_of, selected, tags_by}

-- the lowest bit, and the rest
low_bit : (bit : Bool) (bits : List Bool) → eqb (number (bit ∷ bits) % 2) 1 ≡ bit
low_bit true bits = eq-eqb ((1 + 2 * number bits) % 2) 1 (omega arith)
low_bit false bits = ne_eqb ((0 + 2 * number bits) % 2) 1 (λ e. omega (arith, e))

high_bits : (bit : Bool) (bits : List Bool) → number (bit ∷ bits) / 2 ≡ number bits
high_bits true bits = omega arith
high_bits false bits = omega arith

selects : (test : List ℕ → Bool) (symbols : List (List ℕ)) → selected (number (map test symbols)) symbols ≡ filter test symbols
selects test [] = refl
selects test (s ∷ ss) =
    ap (λ (b : Bool). cond b (s ∷ selected (number (map test (s ∷ ss)) / 2) ss) (selected (number (map test (s ∷ ss)) / 2) ss)) (low_bit (test s) (map test ss))
    ∙ (ap (λ (n : ℕ). cond (test s) (s ∷ selected n ss) (selected n ss)) (high_bits (test s) (map test ss))
    ∙ ap (λ (ts : List (List ℕ)). cond (test s) (s ∷ ts) ts) (selects test ss))

pub mask_means : (table : TagTable) (graph : RawGraph) → tags_by (Some table) (mask_of table graph) ≡ tags_of (Some table) graph
unfolding mask_of
mask_means table graph = selects (is_among (symbols_at graph (value_at graph table.path))) table.symbols

-- a value that is not there has no symbols
pub none_set : (symbols : List (List ℕ)) → number (map (is_among []) symbols) ≡ 0
none_set [] = refl
none_set (s ∷ ss) = omega (arith, none_set ss)

-- the mask of a graph where the path leads to nothing, and where it leads to a value
pub mask_none : (table : TagTable) (graph : RawGraph) → value_at graph table.path ≡ None → 0 ≡ mask_of table graph
unfolding mask_of
mask_none table graph e = sym (ap (λ (o : Option Ref). number (map (is_among (symbols_at graph o)) table.symbols)) e ∙ none_set table.symbols)

pub mask_some : (table : TagTable) (graph : RawGraph) (value : Ref) → value_at graph table.path ≡ Some value
    → number (map (is_among (symbols_in graph.nodes value)) table.symbols) ≡ mask_of table graph
unfolding mask_of
mask_some table graph value e = sym (ap (λ (o : Option Ref). number (map (is_among (symbols_at graph o)) table.symbols)) e)

-- ---- one bit after another

any_one : (b : Bool) (p : List ℕ → Bool) (x : List ℕ) (xs : List (List ℕ)) → list_any p (cond b (x ∷ xs) xs) ≡ ((b && p x) || list_any p xs)
any_one true p x xs = refl
any_one false p x xs = refl

all_one : (b : Bool) (p : List ℕ → Bool) (x : List ℕ) (xs : List (List ℕ)) → list_all p (cond b (x ∷ xs) xs) ≡ (not (b && not (p x)) && list_all p xs)
all_one true p x xs = twice (p x)
  where
    twice : (c : Bool) → (c && list_all p xs) ≡ (not (not c) && list_all p xs)
    twice true = refl
    twice false = refl
all_one false p x xs = refl

any_next : (p : List ℕ → Bool) (symbols : List (List ℕ)) (i rest : ℕ) (d : List ℕ) → i < length symbols
    → list_any p (selected rest (drop i symbols)) ≡ ((eqb (rest % 2) 1 && p (get_or symbols i d)) || list_any p (selected (rest / 2) (drop (i + 1) symbols)))
any_next p symbols i rest d lt =
    at_drop_more (λ xs. list_any p (selected rest xs)) symbols i d lt ∙ any_one (eqb (rest % 2) 1) p (get_or symbols i d) (selected (rest / 2) (drop (i + 1) symbols))

all_next : (p : List ℕ → Bool) (symbols : List (List ℕ)) (i rest : ℕ) (d : List ℕ) → i < length symbols
    → list_all p (selected rest (drop i symbols)) ≡ (not (eqb (rest % 2) 1 && not (p (get_or symbols i d))) && list_all p (selected (rest / 2) (drop (i + 1) symbols)))
all_next p symbols i rest d lt =
    at_drop_more (λ xs. list_all p (selected rest xs)) symbols i d lt ∙ all_one (eqb (rest % 2) 1) p (get_or symbols i d) (selected (rest / 2) (drop (i + 1) symbols))

pub any_on : (p : List ℕ → Bool) (symbols : List (List ℕ)) (i rest : ℕ) (d : List ℕ) (total : Bool) → i < length symbols → (eqb (rest % 2) 1 && p (get_or symbols i d)) ≡ false
    → list_any p (selected rest (drop i symbols)) ≡ total → list_any p (selected (rest / 2) (drop (i + 1) symbols)) ≡ total
any_on p symbols i rest d total lt miss so_far =
    let sel = selected (rest / 2) (drop (i + 1) symbols) in
    sym (ap (λ (b : Bool). b || list_any p sel) miss) ∙ (sym (any_next p symbols i rest d lt) ∙ so_far)

pub any_done : (p : List ℕ → Bool) (symbols : List (List ℕ)) (i rest : ℕ) (total : Bool) → length symbols ≤ i → list_any p (selected rest (drop i symbols)) ≡ total → false ≡ total
any_done p symbols i rest total le so_far = sym (at_drop_all (λ xs. list_any p (selected rest xs)) symbols i le) ∙ so_far

pub all_on : (p : List ℕ → Bool) (symbols : List (List ℕ)) (i rest : ℕ) (d : List ℕ) (total : Bool) → i < length symbols → (eqb (rest % 2) 1 && not (p (get_or symbols i d))) ≡ false
    → list_all p (selected rest (drop i symbols)) ≡ total → list_all p (selected (rest / 2) (drop (i + 1) symbols)) ≡ total
all_on p symbols i rest d total lt miss so_far =
    let sel = selected (rest / 2) (drop (i + 1) symbols) in
    sym (ap (λ (b : Bool). not b && list_all p sel) miss) ∙ (sym (all_next p symbols i rest d lt) ∙ so_far)

pub all_done : (p : List ℕ → Bool) (symbols : List (List ℕ)) (i rest : ℕ) (total : Bool) → length symbols ≤ i → list_all p (selected rest (drop i symbols)) ≡ total → true ≡ total
all_done p symbols i rest total le so_far = sym (at_drop_all (λ xs. list_all p (selected rest xs)) symbols i le) ∙ so_far

-- ---- a mask fits its word
