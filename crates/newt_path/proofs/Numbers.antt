-- The numbers that a builder gives to the nodes of a graph that is put after others are those of the definition.
use Rattle.std.proofs.Common.{◌≡◌, ℕ, zero, suc, ◌+◌, ◌-◌, ◌<◌, ◌≤◌, List, [], ◌∷◌, ◌++◌, length, map, All, get_or, Bool, true, false, Option, Some, None, refl, sym, ap, subst, ◌∙◌, arith, eqb}
use Rattle.std.specs.Prelude.{slice_get, filter, is_none, unwrap_or, option_and_then, ◌==◌}
use Rattle.std.specs.List.{position_from, position_or_len, enumerate_from, sum_by}
use Rattle.std.proofs.lemmas.Iterator.Adapters.{position_from-zero}
use Rattle.std.proofs.lemmas.Bool.{eq-eqb, ne_eqb, le-leb}
use Rattle.std.proofs.lemmas.Slice.Eq.{bytes_eq-Decides}
use Rattle.std.proofs.lemmas.List.{length-append}
use Rattle.std.proofs.lemmas.List.Elements.{All-head, All-tail}
use Rattle.std.proofs.lemmas.List.Quantifiers.{position-Some}
use Rattle.std.proofs.lemmas.List.Sums.{sum_by-cons}
use Rattle.std.proofs.lemmas.Option.{get_or_from_slice_get, slice_get_within}
use Rattle.newt_graph.specs.declared.node.Node.{Node}
use Rattle.newt_graph.specs.declared.node.Node.TheVariants.{Symbol, Str, Binary, Large, Array, Frame}
use Rattle.newt_graph.specs.declared.node.Ref.{Ref}
use Rattle.newt_graph.specs.declared.node.Ref.TheVariants as refs
use Rattle.newt_graph.specs.Graph.{RawGraph, IsGraph, IsAlike, payload, folded}
use Rattle.newt_graph.specs.Raw.{renamed_ref, renamed, IsValue}
use Rattle.newt_graph.specs.Draft.{is_alike, find_alike}
use Rattle.newt_graph.specs.Import.{known_as, numbers_from, kept_of, looked_up, after, with_graph}
use Rattle.newt_spec_graph.specs.Slots.{is_named, symbol_number, new_nodes, goes_to}
use Rattle.newt_graph.proofs.Options.{some_is}
use Rattle.newt_graph.proofs.Elements.{at_map, any_at}
use Rattle.newt_graph.proofs.Drafts.{bytes_eq-sym, alike_append, alike_found}
use Rattle.newt_graph.proofs.Below.{Within, nodes_within, root_within}

-- ---- the same symbols are found

alike_is_named : (name : List ℕ) (node : Node) → is_alike name node ≡ is_named name (Some node)
alike_is_named name (Symbol old) = bytes_eq-sym (folded old) (folded name)
alike_is_named name (Str u) = refl
alike_is_named name (Binary c u) = refl
alike_is_named name (Large c u) = refl
alike_is_named name (Array c u) = refl
alike_is_named name (Frame c u) = refl

position_from-same : {X : Type 0} (p q : X → Bool) → ((x : X) → p x ≡ q x) → (i : ℕ) (xs : List X) → position_from p i xs ≡ position_from q i xs
position_from-same p q h i [] = refl
position_from-same p q h i (x ∷ xs) = rw (h x, position_from-same p q h (i + 1) xs) refl

pub found_is_number : (name : List ℕ) (nodes : List Node) → find_alike name nodes ≡ symbol_number nodes name
unfolding find_alike
found_is_number name nodes =
    position_from-same (is_alike name) (λ node. is_named name (Some node)) (alike_is_named name) 0 nodes ∙ sym (position_from-zero (λ node. is_named name (Some node)) nodes)

-- a node that passes is a symbol of that name but for the case of its letters
named_symbol : (name : List ℕ) (node : Node) → is_named name (Some node) ≡ true → (other : List ℕ) × (node ≡ Symbol other) × (folded other ≡ folded name)
named_symbol name (Symbol other) e = (other, refl, sym ((bytes_eq-Decides (folded name) (folded other)).0 e))
named_symbol name (Str u) e = absurd cc
named_symbol name (Binary c u) e = absurd cc
named_symbol name (Large c u) e = absurd cc
named_symbol name (Array c u) e = absurd cc
named_symbol name (Frame c u) e = absurd cc

pub alike_named : (name other : List ℕ) → folded other ≡ folded name → is_named name (Some (Symbol other)) ≡ true
alike_named name other e = (bytes_eq-Decides (folded name) (folded other)).1 (sym e)

pub alike_from_named : (nodes : List Node) (t : ℕ) (name : List ℕ) (node : Node) → slice_get nodes t ≡ Some node → is_named name (Some node) ≡ true → IsAlike nodes t name
alike_from_named nodes t name node at e = let s = named_symbol name node e in (s.0, at ∙ ap (λ (n : Node). Some n) s.1, s.2)

-- the symbol that is found has that name
pub number_alike : (nodes : List Node) (name : List ℕ) (k : ℕ) → symbol_number nodes name ≡ Some k → IsAlike nodes k name
number_alike nodes name k e =
    let f = position-Some (λ node. is_named name (Some node)) nodes k (Str []) e in
    alike_from_named nodes k name (get_or nodes k (Str [])) (any_at nodes k (Str []) f.0) f.1

-- ---- numbers

-- the nodes that the old ones lack, numbered from i on
abbrev pub lacking : List Node → ℕ → List Node → List (ℕ × Node)
lacking old i new = filter (λ k. is_none (known_as old k.1)) (enumerate_from i new)

abbrev place_of : ℕ → List (ℕ × Node) → ℕ
place_of j ks = position_or_len (λ m. m.0 == j) ks

place_here : (i j : ℕ) (x : Node) (ks : List (ℕ × Node)) → eqb i j ≡ true → place_of j ((i, x) ∷ ks) ≡ 0
place_here i j x ks e = rw e refl

place_next : (i j : ℕ) (x : Node) (ks : List (ℕ × Node)) → eqb i j ≡ false → place_of j ((i, x) ∷ ks) ≡ suc (place_of j ks)
place_next i j x ks e = let next : 1 + place_of j ks ≡ suc (place_of j ks) = omega arith in rw e next

lacks_known : (old : List Node) (i j : ℕ) (x : Node) (xs : List Node) → known_as old x ≡ Some j → lacking old i (x ∷ xs) ≡ lacking old (i + 1) xs
lacks_known old i j x xs e = rw e refl

lacks_new : (old : List Node) (i : ℕ) (x : Node) (xs : List Node) → known_as old x ≡ None → lacking old i (x ∷ xs) ≡ (i, x) ∷ lacking old (i + 1) xs
lacks_new old i x xs e = rw e refl

numbers_known : (old : List Node) (n j : ℕ) (x : Node) (xs : List Node) → known_as old x ≡ Some j → numbers_from old n (x ∷ xs) ≡ j ∷ numbers_from old n xs
unfolding numbers_from
numbers_known old n j x xs e = rw (e, numbers_from) refl

numbers_new : (old : List Node) (n : ℕ) (x : Node) (xs : List Node) → known_as old x ≡ None → numbers_from old n (x ∷ xs) ≡ n ∷ numbers_from old (n + 1) xs
unfolding numbers_from
numbers_new old n x xs e = rw (e, numbers_from) refl

kept_known : (old : List Node) (j : ℕ) (x : Node) (xs : List Node) → known_as old x ≡ Some j → kept_of old (x ∷ xs) ≡ kept_of old xs
unfolding kept_of
kept_known old j x xs e = rw (e, kept_of) refl

kept_new : (old : List Node) (x : Node) (xs : List Node) → known_as old x ≡ None → kept_of old (x ∷ xs) ≡ x ∷ kept_of old xs
unfolding kept_of
kept_new old x xs e = rw (e, kept_of) refl

kept_nil : (old : List Node) → kept_of old [] ≡ []
unfolding kept_of
kept_nil old = refl

abbrev told : List Node → ℕ → ℕ → List (ℕ × Node) → Node → ℕ
told old n j ks node = unwrap_or (known_as old node) (n + place_of j ks)

number_is_told : (old new : List Node) (n i k j : ℕ) (node : Node) → j ≡ i + k → slice_get new k ≡ Some node → slice_get (numbers_from old n new) k ≡ Some (told old n j (lacking old i new) node)
number_is_told old [] n i k j node is e = absurd cc
number_is_told old (x ∷ xs) n i zero j node is e = head (known_as old x) refl
  where
    same : x ≡ node
    same = some_is e

    head : (o : Option ℕ) → known_as old x ≡ o → slice_get (numbers_from old n (x ∷ xs)) 0 ≡ Some (told old n j (lacking old i (x ∷ xs)) node)
    head (Some m) known =
        let here : known_as old node ≡ Some m = subst (λ (z : Node). known_as old z ≡ Some m) same known in
        ap (λ (ns : List ℕ). slice_get ns 0) (numbers_known old n m x xs known)
        ∙ sym (ap (λ (o : Option ℕ). Some (unwrap_or o (n + place_of j (lacking old i (x ∷ xs))))) here)
    head None known =
        let here : known_as old node ≡ None = subst (λ (z : Node). known_as old z ≡ None) same known in
        let at : place_of j (lacking old i (x ∷ xs)) ≡ 0 = ap (λ (ks : List (ℕ × Node)). place_of j ks) (lacks_new old i x xs known) ∙ place_here i j x (lacking old (i + 1) xs) (eq-eqb i j (omega (arith, is))) in
        let sum : n ≡ n + place_of j (lacking old i (x ∷ xs)) = omega (arith, at) in
        ap (λ (ns : List ℕ). slice_get ns 0) (numbers_new old n x xs known)
        ∙ (ap (λ (m : ℕ). Some m) sum ∙ sym (ap (λ (o : Option ℕ). Some (unwrap_or o (n + place_of j (lacking old i (x ∷ xs))))) here))
number_is_told old (x ∷ xs) n i (suc k) j node is e =
    tail (λ m. number_is_told old xs m (i + 1) k j node (omega (arith, is)) e) (known_as old x) refl
  where
    tail : ((m : ℕ) → slice_get (numbers_from old m xs) k ≡ Some (told old m j (lacking old (i + 1) xs) node)) → (o : Option ℕ) → known_as old x ≡ o
        → slice_get (numbers_from old n (x ∷ xs)) (suc k) ≡ Some (told old n j (lacking old i (x ∷ xs)) node)
    tail rest (Some m) known =
        ap (λ (ns : List ℕ). slice_get ns (suc k)) (numbers_known old n m x xs known)
        ∙ (rest n ∙ ap (λ (ks : List (ℕ × Node)). Some (told old n j ks node)) (sym (lacks_known old i m x xs known)))
    tail rest None known =
        let at : place_of j (lacking old i (x ∷ xs)) ≡ suc (place_of j (lacking old (i + 1) xs)) =
        ap (λ (ks : List (ℕ × Node)). place_of j ks) (lacks_new old i x xs known) ∙ place_next i j x (lacking old (i + 1) xs) (ne_eqb i j (λ e. omega (arith, is, e))) in
        let sum : n + 1 + place_of j (lacking old (i + 1) xs) ≡ n + place_of j (lacking old i (x ∷ xs)) = omega (arith, at) in
        ap (λ (ns : List ℕ). slice_get ns (suc k)) (numbers_new old n x xs known)
        ∙ (rest (n + 1) ∙ ap (λ (m : ℕ). Some (unwrap_or (known_as old node) m)) sum)

-- the number of each node is that of the definition
goes_by : (old new : List Node) (k : ℕ) (node : Node) → slice_get new k ≡ Some node → goes_to old new k ≡ told old (length old) k (new_nodes old new) node
goes_by old new k node e =
    ap (λ (o : Option Node). unwrap_or (option_and_then (known_as old) o) (length old + place_of k (new_nodes old new))) e

looked_up_goes : (old new : List Node) (k : ℕ) (node : Node) → slice_get new k ≡ Some node → looked_up (numbers_from old (length old) new) k ≡ goes_to old new k
looked_up_goes old new k node e =
    get_or_from_slice_get (numbers_from old (length old) new) k (told old (length old) k (new_nodes old new) node) 0
    (number_is_told old new (length old) 0 k k node (omega arith) e) ∙ sym (goes_by old new k node e)

-- ---- where a node goes

new_at : (old new : List Node) (i k j : ℕ) (node : Node) → j ≡ i + k → slice_get new k ≡ Some node → known_as old node ≡ None → slice_get (lacking old i new) (place_of j (lacking old i new)) ≡ Some (j, node)
new_at old [] i k j node is e none = absurd cc
new_at old (x ∷ xs) i zero j node is e none =
    let same : x ≡ node = some_is e in
    let known : known_as old x ≡ None = subst (λ (z : Node). known_as old z ≡ None) (sym same) none in
    let all = lacks_new old i x xs known in
    let here : place_of j (lacking old i (x ∷ xs)) ≡ 0 = ap (λ (ks : List (ℕ × Node)). place_of j ks) all ∙ place_here i j x (lacking old (i + 1) xs) (eq-eqb i j (omega (arith, is))) in
    let number : i ≡ j = omega (arith, is) in
    ap (λ (m : ℕ). slice_get (lacking old i (x ∷ xs)) m) here ∙ (ap (λ (ks : List (ℕ × Node)). slice_get ks 0) all ∙ (ap (λ (m : ℕ). Some (m, x)) number ∙ ap (λ (z : Node). Some (j, z)) same))
new_at old (x ∷ xs) i (suc k) j node is e none =
    tail (new_at old xs (i + 1) k j node (omega (arith, is)) e none) (known_as old x) refl
  where
    tail : slice_get (lacking old (i + 1) xs) (place_of j (lacking old (i + 1) xs)) ≡ Some (j, node) → (o : Option ℕ) → known_as old x ≡ o
        → slice_get (lacking old i (x ∷ xs)) (place_of j (lacking old i (x ∷ xs))) ≡ Some (j, node)
    tail rest (Some m) known =
        subst (λ (ks : List (ℕ × Node)). slice_get ks (place_of j ks) ≡ Some (j, node)) (sym (lacks_known old i m x xs known)) rest
    tail rest None known =
        let all = lacks_new old i x xs known in
        let at : place_of j (lacking old i (x ∷ xs)) ≡ suc (place_of j (lacking old (i + 1) xs)) =
        ap (λ (ks : List (ℕ × Node)). place_of j ks) all ∙ place_next i j x (lacking old (i + 1) xs) (ne_eqb i j (λ e. omega (arith, is, e))) in
        ap (λ (m : ℕ). slice_get (lacking old i (x ∷ xs)) m) at
        ∙ (ap (λ (ks : List (ℕ × Node)). slice_get ks (suc (place_of j (lacking old (i + 1) xs)))) all ∙ rest)

get_after : {X : Type 0} (xs ys : List X) (k : ℕ) → slice_get (xs ++ ys) (length xs + k) ≡ slice_get ys k
get_after [] ys k = let e : 0 + k ≡ k = omega arith in ap (λ (m : ℕ). slice_get ys m) e
get_after (x ∷ xs) ys k = let e : suc (length xs) + k ≡ suc (length xs + k) = omega arith in ap (λ (m : ℕ). slice_get (x ∷ (xs ++ ys)) m) e ∙ get_after xs ys k

-- the old nodes and those of a graph after them
abbrev pub joined : List Node → List Node → List Node
joined old new = old ++ map (λ k. renamed (goes_to old new) k.1) (new_nodes old new)

pub new_lands : (old new : List Node) (k : ℕ) (node : Node) → slice_get new k ≡ Some node → known_as old node ≡ None → slice_get (joined old new) (goes_to old new k) ≡ Some (renamed (goes_to old new) node)
new_lands old new k node e none =
    let to = goes_to old new in
    let ks = new_nodes old new in
    let number : goes_to old new k ≡ length old + place_of k ks = goes_by old new k node e ∙ ap (λ (o : Option ℕ). unwrap_or o (length old + place_of k ks)) none in
    let there : slice_get ks (place_of k ks) ≡ Some (k, node) = new_at old new 0 k k node (omega arith) e none in
    ap (λ (m : ℕ). slice_get (joined old new) m) number
    ∙ (get_after old (map (λ k. renamed to k.1) ks) (place_of k ks) ∙ at_map (λ k. renamed to k.1) ks (place_of k ks) (k, node) there)

-- a symbol goes to one that is alike
pub symbol_lands : (old new : List Node) (k : ℕ) (name : List ℕ) → slice_get new k ≡ Some (Symbol name) → IsAlike (joined old new) (goes_to old new k) name
symbol_lands old new k name e = by (find_alike name old) refl
  where
    by : (o : Option ℕ) → find_alike name old ≡ o → IsAlike (joined old new) (goes_to old new k) name
    by (Some j) known =
        let number : goes_to old new k ≡ j = goes_by old new k (Symbol name) e ∙ ap (λ (o : Option ℕ). unwrap_or o (length old + place_of k (new_nodes old new))) known in
        subst (λ (m : ℕ). IsAlike (joined old new) m name) (sym number) (alike_append old (map (λ k. renamed (goes_to old new) k.1) (new_nodes old new)) j name (alike_found name old j known))
    by None known = (name, new_lands old new k (Symbol name) e known, refl)

pub lands_within : (old new : List Node) (k : ℕ) (node : Node) → slice_get new k ≡ Some node → goes_to old new k < length (joined old new)
lands_within old new k (Symbol name) e = let a = symbol_lands old new k name e in slice_get_within (joined old new) (goes_to old new k) (Symbol a.0) a.1
lands_within old new k (Str u) e = slice_get_within (joined old new) (goes_to old new k) _ (new_lands old new k (Str u) e refl)
lands_within old new k (Binary c u) e = slice_get_within (joined old new) (goes_to old new k) _ (new_lands old new k (Binary c u) e refl)
lands_within old new k (Large c u) e = slice_get_within (joined old new) (goes_to old new k) _ (new_lands old new k (Large c u) e refl)
lands_within old new k (Array c u) e = slice_get_within (joined old new) (goes_to old new k) _ (new_lands old new k (Array c u) e refl)
lands_within old new k (Frame c u) e = slice_get_within (joined old new) (goes_to old new k) _ (new_lands old new k (Frame c u) e refl)

-- ---- two renamings that agree on the numbers of a graph

abbrev Agree : ℕ → (ℕ → ℕ) → (ℕ → ℕ) → Type 0
Agree n to at = (k : ℕ) → k < n → to k ≡ at k

ref_agrees : (n : ℕ) (to at : ℕ → ℕ) → Agree n to at → (value : Ref) → IsValue n value → renamed_ref to value ≡ renamed_ref at value
ref_agrees n to at h (refs.Imm w) is = refl
ref_agrees n to at h (refs.Node k) is = ap (λ (m : ℕ). refs.Node m) (h k is)

refs_agree : (n : ℕ) (to at : ℕ → ℕ) → Agree n to at → (values : List Ref) → All (IsValue n) values → map (renamed_ref to) values ≡ map (renamed_ref at) values
refs_agree n to at h [] is = refl
refs_agree n to at h (v ∷ vs) is = rw (ref_agrees n to at h v (All-head (IsValue n) v vs is), refs_agree n to at h vs (All-tail (IsValue n) v vs is)) refl

tags_agree : (n : ℕ) (to at : ℕ → ℕ) → Agree n to at → (ks : List ℕ) → All (λ k. k < n) ks → map to ks ≡ map at ks
tags_agree n to at h [] is = refl
tags_agree n to at h (k ∷ ks) is = rw (h k (All-head (λ k. k < n) k ks is), tags_agree n to at h ks (All-tail (λ k. k < n) k ks is)) refl

node_agrees : (n : ℕ) (to at : ℕ → ℕ) → Agree n to at → (node : Node) → Within n node → renamed to node ≡ renamed at node
node_agrees n to at h (Symbol name) w = refl
node_agrees n to at h (Str units) w = refl
node_agrees n to at h (Binary class bytes) w = ap (λ (m : ℕ). Binary m bytes) (h class (All-head (λ k. k < n) class [] w.labels))
node_agrees n to at h (Large class bytes) w = ap (λ (m : ℕ). Large m bytes) (h class (All-head (λ k. k < n) class [] w.labels))
node_agrees n to at h (Array None values) w = ap (λ (vs : List Ref). Array None vs) (refs_agree n to at h values w.values)
node_agrees n to at h (Array (Some class) values) w = rw (h class (All-head (λ k. k < n) class [] w.labels), refs_agree n to at h values w.values) refl
node_agrees n to at h (Frame tags values) w = rw (tags_agree n to at h tags w.labels, refs_agree n to at h values w.values) refl

ref_id : (value : Ref) → renamed_ref (λ k. k) value ≡ value
ref_id (refs.Imm w) = refl
ref_id (refs.Node k) = refl

refs_id : (values : List Ref) → map (renamed_ref (λ k. k)) values ≡ values
refs_id [] = refl
refs_id (v ∷ vs) = rw (ref_id v, refs_id vs) refl

tags_id : (ks : List ℕ) → map (λ k. k) ks ≡ ks
tags_id [] = refl
tags_id (k ∷ ks) = rw (tags_id ks) refl

node_id : (node : Node) → renamed (λ k. k) node ≡ node
node_id (Symbol name) = refl
node_id (Str units) = refl
node_id (Binary class bytes) = refl
node_id (Large class bytes) = refl
node_id (Array None values) = ap (λ (vs : List Ref). Array None vs) (refs_id values)
node_id (Array (Some class) values) = ap (λ (vs : List Ref). Array (Some class) vs) (refs_id values)
node_id (Frame tags values) = rw (tags_id tags, refs_id values) refl

kept_agree : (old : List Node) (n i : ℕ) (to at : ℕ → ℕ) → Agree n to at → (new : List Node) → All (Within n) new → map (renamed to) (kept_of old new) ≡ map (λ k. renamed at k.1) (lacking old i new)
kept_agree old n i to at h [] w = ap (λ (ns : List Node). map (renamed to) ns) (kept_nil old)
kept_agree old n i to at h (x ∷ xs) w =
    by (kept_agree old n (i + 1) to at h xs (All-tail (Within n) x xs w)) (known_as old x) refl
  where
    by : map (renamed to) (kept_of old xs) ≡ map (λ k. renamed at k.1) (lacking old (i + 1) xs) → (o : Option ℕ) → known_as old x ≡ o
        → map (renamed to) (kept_of old (x ∷ xs)) ≡ map (λ k. renamed at k.1) (lacking old i (x ∷ xs))
    by others (Some j) known =
        ap (λ (ns : List Node). map (renamed to) ns) (kept_known old j x xs known) ∙ (others ∙ sym (ap (λ (ks : List (ℕ × Node)). map (λ k. renamed at k.1) ks) (lacks_known old i j x xs known)))
    by others None known =
        ap (λ (ns : List Node). map (renamed to) ns) (kept_new old x xs known)
        ∙ (ap (λ (ns : List Node). renamed to x ∷ ns) others
        ∙ (ap (λ (z : Node). z ∷ map (λ k. renamed at k.1) (lacking old (i + 1) xs)) (node_agrees n to at h x (All-head (Within n) x xs w))
        ∙ sym (ap (λ (ks : List (ℕ × Node)). map (λ k. renamed at k.1) ks) (lacks_new old i x xs known))))

-- ---- the limits of a builder are not passed

payload_same : (to : ℕ → ℕ) (node : Node) → payload (renamed to node) ≡ payload node
payload_same to (Symbol name) = refl
payload_same to (Str units) = refl
payload_same to (Binary class bytes) = refl
payload_same to (Large class bytes) = refl
payload_same to (Array class values) = refl
payload_same to (Frame tags values) = refl

pub record Fewer (new kept : List Node) : Type 0 where
  pub few : length kept ≤ length new
  pub light : sum_by payload kept ≤ sum_by payload new

kept_fewer : (old : List Node) (to : ℕ → ℕ) (new : List Node) → Fewer new (map (renamed to) (kept_of old new))
kept_fewer old to [] = subst (λ (ns : List Node). Fewer [] (map (renamed to) ns)) (sym (kept_nil old)) (record { few = omega arith; light = omega arith })
kept_fewer old to (x ∷ xs) = by (kept_fewer old to xs) (known_as old x) refl
  where
    sum : sum_by payload (x ∷ xs) ≡ payload x + sum_by payload xs
    sum = sum_by-cons payload x xs

    by : Fewer xs (map (renamed to) (kept_of old xs)) → (o : Option ℕ) → known_as old x ≡ o → Fewer (x ∷ xs) (map (renamed to) (kept_of old (x ∷ xs)))
    by others (Some j) known =
        subst (λ (ns : List Node). Fewer (x ∷ xs) (map (renamed to) ns)) (sym (kept_known old j x xs known))
        (record { few = omega (arith, others.few); light = omega (arith, others.light, sum) })
    by others None known =
        let one = sum_by-cons payload (renamed to x) (map (renamed to) (kept_of old xs)) in
        subst (λ (ns : List Node). Fewer (x ∷ xs) (map (renamed to) ns)) (sym (kept_new old x xs known))
        (record { few = omega (arith, others.few); light = omega (arith, others.light, sum, one, payload_same to x) })

after_is : (old added : List Node) (root : Ref) → length old + length added ≤ 131072 → sum_by payload old + sum_by payload added ≤ 33554432 → after old added root ≡ Some (root, old ++ added)
after_is old added root few light =
    rw (le-leb (length (old ++ added)) 131072 (omega (arith, few, length-append old added)), le-leb (sum_by payload added) (33554432 - sum_by payload old) (omega (arith, light))) refl

table_agrees : (old : List Node) (v : RawGraph) → Agree (length v.nodes) (looked_up (numbers_from old (length old) v.nodes)) (goes_to old v.nodes)
table_agrees old v k lt = looked_up_goes old v.nodes k (get_or v.nodes k (Str [])) (any_at v.nodes k (Str []) lt)

-- a graph is put after others as the definition says
pub graph_after : (old : List Node) (v : RawGraph) → IsGraph v → length old ≤ 65536 → sum_by payload old ≤ 16777216 → with_graph old v ≡ Some (renamed_ref (goes_to old v.nodes) v.root, joined old v.nodes)
unfolding with_graph
graph_after old v graph few light =
    let table = looked_up (numbers_from old (length old) v.nodes) in
    let kept = kept_fewer old table v.nodes in
    let made : with_graph old v ≡ Some (renamed_ref table v.root, old ++ map (renamed table) (kept_of old v.nodes)) =
    after_is old (map (renamed table) (kept_of old v.nodes)) (renamed_ref table v.root) (omega (arith, few, kept.few, graph.few)) (omega (arith, light, kept.light, graph.light)) in
    let root = ref_agrees (length v.nodes) table (goes_to old v.nodes) (table_agrees old v) v.root (root_within v graph) in
    let nodes = kept_agree old (length v.nodes) 0 table (goes_to old v.nodes) (table_agrees old v) v.nodes (nodes_within v graph) in
    made ∙ (ap (λ (r : Ref). Some (r, old ++ map (renamed table) (kept_of old v.nodes))) root ∙ ap (λ (ns : List Node). Some (renamed_ref (goes_to old v.nodes) v.root, old ++ ns)) nodes)

-- ---- a graph put after nothing is itself

unknown : (node : Node) → known_as [] node ≡ None
unfolding find_alike
unknown (Symbol name) = refl
unknown (Str u) = refl
unknown (Binary c u) = refl
unknown (Large c u) = refl
unknown (Array c u) = refl
unknown (Frame c u) = refl

counted : (new : List Node) (n k : ℕ) → k < length new → slice_get (numbers_from [] n new) k ≡ Some (n + k)
counted [] n k lt = absurd (omega (arith, lt))
counted (x ∷ xs) n zero lt = ap (λ (ns : List ℕ). slice_get ns 0) (numbers_new [] n x xs (unknown x)) ∙ ap (λ (m : ℕ). Some m) (omega arith)
counted (x ∷ xs) n (suc k) lt =
    ap (λ (ns : List ℕ). slice_get ns (suc k)) (numbers_new [] n x xs (unknown x)) ∙ (counted xs (n + 1) k (omega (arith, lt)) ∙ ap (λ (m : ℕ). Some m) (omega arith))

all_kept : (new : List Node) → kept_of [] new ≡ new
all_kept [] = kept_nil []
all_kept (x ∷ xs) = kept_new [] x xs (unknown x) ∙ ap (λ (ns : List Node). x ∷ ns) (all_kept xs)

nodes_same : (n : ℕ) (to : ℕ → ℕ) → Agree n to (λ k. k) → (nodes : List Node) → All (Within n) nodes → map (renamed to) nodes ≡ nodes
nodes_same n to h [] w = refl
nodes_same n to h (x ∷ xs) w = rw (node_agrees n to (λ k. k) h x (All-head (Within n) x xs w), node_id x, nodes_same n to h xs (All-tail (Within n) x xs w)) refl

pub graph_alone : (g : RawGraph) → IsGraph g → with_graph [] g ≡ Some (g.root, g.nodes)
unfolding with_graph
graph_alone g graph =
    let table = looked_up (numbers_from [] 0 g.nodes) in
    let agree : Agree (length g.nodes) table (λ k. k) = λ k lt. let e : 0 + k ≡ k = omega arith in get_or_from_slice_get (numbers_from [] 0 g.nodes) k k 0 (counted g.nodes 0 k lt ∙ ap (λ (m : ℕ). Some m) e) in
    let kept = kept_fewer [] table g.nodes in
    let made : with_graph [] g ≡ Some (renamed_ref table g.root, map (renamed table) (kept_of [] g.nodes)) =
    after_is [] (map (renamed table) (kept_of [] g.nodes)) (renamed_ref table g.root) (omega (arith, kept.few, graph.few)) (omega (arith, kept.light, graph.light)) in
    let root : renamed_ref table g.root ≡ g.root = ref_agrees (length g.nodes) table (λ k. k) agree g.root (root_within g graph) ∙ ref_id g.root in
    let nodes : map (renamed table) (kept_of [] g.nodes) ≡ g.nodes = ap (λ (ns : List Node). map (renamed table) ns) (all_kept g.nodes) ∙ nodes_same (length g.nodes) table agree g.nodes (nodes_within g graph) in
    made ∙ (ap (λ (r : Ref). Some (r, map (renamed table) (kept_of [] g.nodes))) root ∙ ap (λ (ns : List Node). Some (g.root, ns)) nodes)
