-- What a builder keeps.
use Rattle.std.proofs.Common.{◌≡◌, ℕ, zero, suc, ◌+◌, ◌-◌, ◌<◌, ◌≤◌, List, [], ◌∷◌, ◌++◌, length, get_or, Bool, true, false, Option, Some, None, refl, sym, ap, subst, ◌∙◌, arith, cond, inl, inr, ◌⊎◌}
use Rattle.std.specs.Prelude.{slice_get, set, nat_lt}
use Rattle.std.specs.List.{sum_by, position_from}
use Rattle.std.specs.Str.{bytes_eq, str_eq_ignore_ascii_case}
use Rattle.std.proofs.lemmas.Bool.{leb-true, le-leb, ltb-true}
use Rattle.std.proofs.lemmas.Bool.Decides.{same_from_decides}
use Rattle.std.proofs.lemmas.Slice.Eq.{bytes_eq-Decides}
use Rattle.std.proofs.lemmas.List.{length_push, length-set}
use Rattle.std.proofs.lemmas.List.Sums.{sum_by_push, sum_by-set}
use Rattle.std.proofs.lemmas.List.Elements.{All-push, All-set}
use Rattle.newt_graph.specs.declared.node.Node.{Node}
use Rattle.newt_graph.specs.declared.node.Node.TheVariants.{Symbol, Str, Binary, Large, Array, Frame}
use Rattle.newt_graph.specs.declared.node.Ref.{Ref}
use Rattle.newt_graph.specs.Graph.{IsName, IsSymbol, IsAlike, IsNode, AreFoldedOnce, folded, payload}
use Rattle.newt_graph.specs.Raw.{IsRaw}
use Rattle.newt_graph.specs.Draft.{IsPart, IsDraft, IsJoinedNode, IsJoined, IsFilling, is_small, is_alike, find_alike, slot_put, with_slot, with_set}
use Rattle.newt_graph.specs.Meeting.{place}
use Rattle.std.proofs.lemmas.Option.{slice_get_within, get_or_from_slice_get}
use Rattle.newt_graph.proofs.Options.{some_is}
use Rattle.newt_graph.proofs.Elements.{get_append, at_push, found_at}
use Rattle.std.proofs.lemmas.List.Elements.{All-head}

-- names are alike in either order
pub bytes_eq-sym : (a b : List ℕ) → bytes_eq a b ≡ bytes_eq b a
bytes_eq-sym a b = same_from_decides (bytes_eq a b) (bytes_eq b a) (bytes_eq-Decides a b) ((λ e. sym ((bytes_eq-Decides b a).0 e)), (λ e. (bytes_eq-Decides b a).1 (sym e)))

pub once_push : (nodes : List Node) (node : Node) → AreFoldedOnce nodes → ((name : List ℕ) → node ≡ Symbol name → (k : ℕ) → IsAlike nodes k name → ⊥) → AreFoldedOnce (nodes ++ node ∷ [])
once_push nodes node once new i k name h alike =
    elim (at_push nodes node i (Symbol name) h) [
      | inl old ↦ elim (at_push nodes node k (Symbol alike.0) alike.1) [
        | inl older ↦ once i k name old (alike.0, older, alike.2)
        | inr last ↦ absurd (new alike.0 last.1 i (name, old, sym alike.2))
      ]
      | inr this ↦ elim (at_push nodes node k (Symbol alike.0) alike.1) [
        | inl older ↦ absurd (new name this.1 k (alike.0, older, alike.2))
        | inr last ↦ this.0 ∙ sym last.0
      ]
    ]

pub symbol_append : (nodes more : List Node) (k : ℕ) → IsSymbol nodes k → IsSymbol (nodes ++ more) k
symbol_append nodes more k h = (h.0, get_append nodes more k (Symbol h.0) h.1)

pub alike_append : (nodes more : List Node) (k : ℕ) (name : List ℕ) → IsAlike nodes k name → IsAlike (nodes ++ more) k name
alike_append nodes more k name h = (h.0, get_append nodes more k (Symbol h.0) h.1, h.2)

pub draft_push : (nodes : List Node) (node : Node) → length nodes < 131072 → payload node ≡ 0 → IsPart node → ((name : List ℕ) → node ≡ Symbol name → (k : ℕ) → IsAlike nodes k name → ⊥) → IsDraft nodes → IsDraft (nodes ++ node ∷ [])
draft_push nodes node few none part new draft = record {
  few = omega (arith, few, length_push nodes node);
  light = omega (arith, draft.light, sum_by_push payload nodes node, none);
  each = All-push IsPart nodes node draft.each part;
  folded_once = once_push nodes node draft.folded_once new;
}

pub sum_push : (nodes : List Node) (node : Node) (total : ℕ) → payload node ≡ 0 → total ≡ sum_by payload nodes → total ≡ sum_by payload (nodes ++ node ∷ [])
sum_push nodes node total none e = omega (arith, e, none, sum_by_push payload nodes node)

pub held_push : (nodes items : List Node) (total : ℕ) → length nodes < 131072 → items ≡ nodes ++ Array None [] ∷ [] → IsDraft nodes × (total ≡ sum_by payload nodes) → IsDraft items × (total ≡ sum_by payload items)
held_push nodes items total few e h = rw e (draft_push nodes (Array None []) few refl (omega arith) (λ name e k alike. absurd cc) h.0, sum_push nodes (Array None []) total refl h.1)

position_none : (test : Node → Bool) (xs : List Node) (n : ℕ) → position_from test n xs ≡ None → (k : ℕ) (x : Node) → slice_get xs k ≡ Some x → test x ≡ false
position_none test [] n e k x at = absurd cc
position_none test (y ∷ ys) n e zero x at = first (test y) refl e
  where
    first : (b : Bool) → test y ≡ b → cond b (Some n) (position_from test (n + 1) ys) ≡ None → test x ≡ false
    first true is e = absurd cc
    first false is e = subst (λ (z : Node). test z ≡ false) (some_is at) is
position_none test (y ∷ ys) n e (suc k) x at = position_none test ys (n + 1) (rest (test y) (position_from test (n + 1) ys) e) k x at
  where
    rest : (b : Bool) (o : Option ℕ) → cond b (Some n) o ≡ None → o ≡ None
    rest true o e = absurd cc
    rest false o e = e

pub none_alike : (nodes : List Node) (name : List ℕ) → find_alike name nodes ≡ None → (k : ℕ) → IsAlike nodes k name → ⊥
unfolding find_alike
none_alike nodes name e k alike =
    let is : str_eq_ignore_ascii_case alike.0 name ≡ false = position_none (is_alike name) nodes 0 e k (Symbol alike.0) alike.1 in
    let yes : str_eq_ignore_ascii_case alike.0 name ≡ true = (bytes_eq-Decides (folded alike.0) (folded name)).1 alike.2 in
    not_both (sym is ∙ yes)
  where
    not_both : false ≡ true → ⊥
    not_both e = absurd cc

pub alike_symbol : (name : List ℕ) (node : Node) → is_alike name node ≡ true → (old : List ℕ) × (node ≡ Symbol old) × (folded old ≡ folded name)
alike_symbol name (Symbol old) e = (old, refl, (bytes_eq-Decides (folded old) (folded name)).0 e)
alike_symbol name (Str u) e = absurd cc
alike_symbol name (Binary c u) e = absurd cc
alike_symbol name (Large c u) e = absurd cc
alike_symbol name (Array c u) e = absurd cc
alike_symbol name (Frame c u) e = absurd cc

-- the node that is found is a symbol of this name but for ASCII case
pub alike_found : (name : List ℕ) (nodes : List Node) (k : ℕ) → find_alike name nodes ≡ Some k → IsAlike nodes k name
unfolding find_alike
alike_found name nodes k e =
    let f = found_at (is_alike name) 0 nodes k e in
    let old = alike_symbol name f.1 f.4 in
    let same : f.0 ≡ k = omega (arith, f.2) in
    (old.0, subst (λ (k : ℕ). slice_get nodes k ≡ Some (Symbol old.0)) same (f.3 ∙ ap (λ (n : Node). Some n) old.1), old.2)

pub alike_within : (name : List ℕ) (nodes : List Node) (k : ℕ) → find_alike name nodes ≡ Some k → k < length nodes
alike_within name nodes k e = let f = alike_found name nodes k e in slice_get_within nodes k (Symbol f.0) f.1

pub symbol_push : (nodes items : List Node) (total : ℕ) (name : List ℕ) → IsName name → length nodes < 131072 → find_alike name nodes ≡ None → items ≡ nodes ++ Symbol name ∷ [] → IsDraft nodes × (total ≡ sum_by payload nodes) → IsDraft items × (total ≡ sum_by payload items)
symbol_push nodes items total name is few none e h =
    rw e (draft_push nodes (Symbol name) few refl is (λ other same k alike. none_alike nodes name none k (alike.0, alike.1, alike.2 ∙ ap folded (same_name other name same))) h.0, sum_push nodes (Symbol name) total refl h.1)
  where
    same_name : (a b : List ℕ) → Symbol b ≡ Symbol a → a ≡ b
    same_name a b e = cc

-- ---- filling

pub get_set : {X : Type 0} (xs : List X) (n : ℕ) (y : X) (i : ℕ) (x : X) → slice_get (set xs n y) i ≡ Some x → ((i ≡ n) × (y ≡ x)) ⊎ (slice_get xs i ≡ Some x)
get_set [] n y i x e = inr e
get_set (z ∷ xs) zero y zero x e = inl (refl, some_is e)
get_set (z ∷ xs) zero y (suc i) x e = inr e
get_set (z ∷ xs) (suc n) y zero x e = inr e
get_set (z ∷ xs) (suc n) y (suc i) x e = elim (get_set xs n y i x e) [ inl h ↦ inl (ap suc h.0, h.1) | inr h ↦ inr h ]

pub filling_is_no_symbol : (node : Node) (name : List ℕ) → IsFilling node → node ≡ Symbol name → ⊥
filling_is_no_symbol node name is e = subst IsFilling e is

pub once_set : (nodes : List Node) (n : ℕ) (node : Node) → IsFilling node → AreFoldedOnce nodes → AreFoldedOnce (set nodes n node)
once_set nodes n node is once i k name named alike =
    elim (get_set nodes n node i (Symbol name) named) [
      | inl h ↦ absurd (filling_is_no_symbol node name is h.1)
      | inr old ↦ elim (get_set nodes n node k (Symbol alike.0) alike.1) [
        | inl h ↦ absurd (filling_is_no_symbol node alike.0 is h.1)
        | inr older ↦ once i k name old (alike.0, older, alike.2)
      ]
    ]

pub part_of_filling : (node : Node) → IsFilling node → is_small node ≡ true → IsPart node
part_of_filling (Symbol name) is small = absurd is
part_of_filling (Str units) is small = record { few = leb-true _ _ small; each = is }
part_of_filling (Binary class bytes) is small = record { few = leb-true _ _ small; each = is }
part_of_filling (Large class bytes) is small = record { few = leb-true _ _ small; each = is }
part_of_filling (Array class values) is small = leb-true _ _ small
part_of_filling (Frame tags values) is small = (leb-true _ _ small, is)

pub filled : (nodes : List Node) (n : ℕ) (node d : Node) (total old new : ℕ) → n < length nodes → IsFilling node → is_small node ≡ true → old ≡ payload (get_or nodes n d) → new ≡ payload node → total - old + new ≤ 33554432
    → IsDraft nodes × (total ≡ sum_by payload nodes) → IsDraft (set nodes n node) × (total - old + new ≡ sum_by payload (set nodes n node))
filled nodes n node d total old new lt is small was now light h =
    let change = sum_by-set payload nodes n node d lt in
    let sum : total - old + new ≡ sum_by payload (set nodes n node) = omega (arith, change, was, now, h.1, sum_has nodes n d lt) in (
      record {
        few = omega (arith, h.0.few, length-set nodes n node);
        light = omega (arith, sum, light);
        each = All-set IsPart nodes n node (part_of_filling node is small) h.0.each;
        folded_once = once_set nodes n node is h.0.folded_once;
      },
      sum,
    )
  where
    sum_has : (nodes : List Node) (n : ℕ) (d : Node) → n < length nodes → payload (get_or nodes n d) ≤ sum_by payload nodes
    sum_has nodes n d lt = let none = sum_by-set payload nodes n (Array None []) d lt in omega (arith, none)

-- ---- joined

node_is : (nodes : List Node) (node : Node) → IsPart node → IsJoinedNode nodes node → IsNode nodes node
node_is nodes (Symbol name) is joined = is
node_is nodes (Str units) is joined = is
node_is nodes (Binary class bytes) is joined = (All-head (IsSymbol nodes) class [] joined.labels, is)
node_is nodes (Large class bytes) is joined = (All-head (IsSymbol nodes) class [] joined.labels, is)
node_is nodes (Array None values) is joined = is
node_is nodes (Array (Some class) values) is joined = (All-head (IsSymbol nodes) class [] joined.labels, is)
node_is nodes (Frame tags values) is joined = record { are_tags = record { few = is.0; distinct = joined.distinct }; paired = is.1; symbols = joined.labels }

pub joined_is_raw : (nodes : List Node) (root : Ref) → IsDraft nodes → IsJoined nodes root → IsRaw (record { nodes = nodes; root = root })
joined_is_raw nodes root draft joined = record {
  root = joined.root_in;
  each = λ k d lt. node_is nodes (get_or nodes k d) (draft.each k d lt) (joined.each k d lt);
  values = λ k d lt. (joined.each k d lt).values;
  folded_once = draft.folded_once;
}

-- ---- slots

slot_frame : (tags : List ℕ) (values : List Ref) (tag : ℕ) (value : Ref) (o : Option ℕ) (node : Node) → length tags ≤ 65535 → length values ≡ length tags → slot_put tags values tag value o ≡ Some node
    → IsFilling node × (is_small node ≡ true) × (payload node ≡ 0)
slot_frame tags values tag value (Some i) node few paired e =
    subst (λ (n : Node). IsFilling n × (is_small n ≡ true) × (payload n ≡ 0)) (some_is e) (omega (arith, paired, length-set values i value), le-leb (length tags) 65535 few, refl)
slot_frame tags values tag value None node few paired e =
    by (nat_lt (length tags) 65535) refl e
  where
    by : (b : Bool) → nat_lt (length tags) 65535 ≡ b → cond b (Some (Frame (tags ++ tag ∷ []) (values ++ value ∷ []))) None ≡ Some node → IsFilling node × (is_small node ≡ true) × (payload node ≡ 0)
    by false is e = absurd cc
    by true is e =
        let lt : length tags < 65535 = ltb-true (length tags) 65535 is in
        subst (λ (n : Node). IsFilling n × (is_small n ≡ true) × (payload n ≡ 0)) (some_is e)
        (omega (arith, paired, length_push tags tag, length_push values value), le-leb (length (tags ++ tag ∷ [])) 65535 (omega (arith, lt, length_push tags tag)), refl)

pub slot_kept : (nodes : List Node) (n : ℕ) (node : Node) (tags : List ℕ) (values : List Ref) (tag : ℕ) (value : Ref) (total : ℕ) → slice_get nodes n ≡ Some (Frame tags values) → with_slot tags values tag value ≡ Some node
    → IsDraft nodes × (total ≡ sum_by payload nodes) → IsDraft (set nodes n node) × (total ≡ sum_by payload (set nodes n node))
unfolding with_slot
slot_kept nodes n node tags values tag value total at e h =
    let lt = slice_get_within nodes n (Frame tags values) at in
    let old = get_or_from_slice_get nodes n (Frame tags values) (Frame tags values) at in
    let part : IsPart (Frame tags values) = subst IsPart old (h.0.each n (Frame tags values) lt) in
    let f = slot_frame tags values tag value (place tags tag) node part.0 part.1 e in
    let change = sum_by-set payload nodes n node (Frame tags values) lt in
    let none : payload (get_or nodes n (Frame tags values)) ≡ 0 = rw old refl in
    let sum : total ≡ sum_by payload (set nodes n node) = omega (arith, change, none, f.2, h.1) in (
      record {
        few = omega (arith, h.0.few, length-set nodes n node);
        light = omega (arith, sum, h.0.light, h.1);
        each = All-set IsPart nodes n node (part_of_filling node f.0 f.1) h.0.each;
        folded_once = once_set nodes n node f.0 h.0.folded_once;
      },
      sum,
    )

pub set_gives : (nodes : List Node) (n : ℕ) (node : Node) (tags : List ℕ) (values : List Ref) (tag : ℕ) (value : Ref) → slice_get nodes n ≡ Some (Frame tags values) → with_slot tags values tag value ≡ Some node
    → with_set nodes n tag value ≡ Some (set nodes n node)
unfolding with_set
set_gives nodes n node tags values tag value at e = rw (at, e) refl
