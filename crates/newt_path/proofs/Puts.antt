-- The nodes that a builder has after a value was set are those of the definition, and its limit is that of one graph.
use Rattle.std.proofs.Common.{◌≡◌, ◌≢◌, ℕ, zero, suc, ◌+◌, ◌<◌, ◌≤◌, List, [], ◌∷◌, ◌++◌, length, map, All, get_or, Bool, true, false, Option, Some, None, refl, sym, ap, subst, ◌∙◌, arith, cond, eqb, inl, inr, ◌⊎◌, ◌&&◌}
use Rattle.std.specs.Prelude.{slice_get, set, nat_lt, nat_le, unwrap_or, is_some, option_and_then}
use Rattle.std.specs.List.{position_from, list_all, sum_by}
use Rattle.std.proofs.lemmas.Iterator.Adapters.{position_from-zero}
use Rattle.std.proofs.lemmas.Bool.{ltb-false, and_left, and_right, lt-leb, eqb-false, cases_eq}
use Rattle.std.proofs.lemmas.List.{length-map, length-set, length_push, length-append}
use Rattle.std.proofs.lemmas.List.Quantifiers.{all_pairs_push}
use Rattle.std.proofs.lemmas.List.Elements.{All-nil, All-cons, All-head, All-tail, All-push, All-set, All-weaker}
use Rattle.std.proofs.lemmas.Option.{slice_get_within, get_or_from_slice_get}
use Rattle.newt_graph.specs.declared.node.Node.{Node}
use Rattle.newt_graph.specs.declared.node.Node.TheVariants.{Symbol, Str, Binary, Large, Array, Frame}
use Rattle.newt_graph.specs.declared.node.Ref.{Ref}
use Rattle.newt_graph.specs.declared.node.Ref.TheVariants as refs
use Rattle.newt_graph.specs.Graph.{RawGraph, IsGraph, IsNode, IsSymbol, payload}
use Rattle.newt_graph.specs.Raw.{renamed_ref, renamed, labels_of, IsValue, IsNormalForm}
use Rattle.newt_graph.specs.Steps.{◌>>=◌}
use Rattle.newt_graph.specs.Meeting.{Seen, place, meet, number, moved, limited, numbered, normal_form}
use Rattle.newt_graph.specs.Draft.{IsJoinedNode, IsJoined, slot_put, frame_set, with_set, is_small}
use Rattle.newt_graph.specs.Draft as draft
use Rattle.newt_spec_graph.specs.Graph.{change_nth}
use Rattle.newt_spec_graph.specs.Slots.{is_named, symbol_number, slot_number, slot_value, value_below, set_slot, with_slot, goes_to, new_nodes, put_into}
use Rattle.newt_spec_graph.specs.Limits.{is_within}
use Rattle.newt_graph.proofs.Options.{bind_some, some_is}
use Rattle.newt_graph.proofs.Elements.{get_append, at_map}
use Rattle.newt_graph.proofs.Follows.{form_is_found}
use Rattle.newt_path.specs.Put.{IsFormOf, PassesALimit}
use Rattle.newt_graph.proofs.Below.{root_within}
use Rattle.newt_path.proofs.Numbers.{joined}
use Rattle.newt_path.proofs.Named.{named, IsNamedBy}
use Rattle.newt_path.proofs.Joins.{value_more, symbol_joined, graph_joined, append_joined, after_joined, value_lands, set_other, set_here, symbol_stays, frame_joined}
use Rattle.newt_path.proofs.Reached.{Has, In, Closed, Labelled, all_reached}

-- what a change is made in: a frame of the graph g, and the nodes with the name's symbol
pub record IsPlace (g : RawGraph) (name : List ℕ) (tag frame : ℕ) (tags : List ℕ) (values : List Ref) : Type 0 where
  pub graph : IsGraph g
  pub by : IsNamedBy g.nodes name tag
  pub at : slice_get g.nodes frame ≡ Some (Frame tags values)

-- all nodes, and the frame after the change
abbrev pub all_of : RawGraph → List ℕ → RawGraph → List Node
all_of g name v = joined (named g.nodes name) v.nodes

abbrev pub root_of : RawGraph → List ℕ → RawGraph → Ref
root_of g name v = renamed_ref (goes_to (named g.nodes name) v.nodes) v.root

abbrev pub frame_of : ℕ → Ref → List ℕ → List Ref → Node
frame_of tag value tags values = with_slot (place tags tag) tag value tags values

pub named_at : (g : RawGraph) (name : List ℕ) (v : RawGraph) (k : ℕ) (node : Node) → slice_get g.nodes k ≡ Some node → slice_get (all_of g name v) k ≡ Some node
named_at g name v k node e = get_append (named g.nodes name) _ k node (get_append g.nodes _ k node e)

-- ---- the slot is that of the tag

position_from-on : {X : Type 0} (p q : X → Bool) (i : ℕ) (xs : List X) → All (λ x. p x ≡ q x) xs → position_from p i xs ≡ position_from q i xs
position_from-on p q i [] h = refl
position_from-on p q i (x ∷ xs) h = rw (All-head (λ x. p x ≡ q x) x xs h, position_from-on p q (i + 1) xs (All-tail (λ x. p x ≡ q x) x xs h)) refl

frame_symbols : (g : RawGraph) (name : List ℕ) (tag frame : ℕ) (tags : List ℕ) (values : List Ref) → IsPlace g name tag frame tags values → All (IsSymbol g.nodes) tags
frame_symbols g name tag frame tags values p =
    let joins : IsJoinedNode g.nodes (Frame tags values) =
    subst (IsJoinedNode g.nodes) (get_or_from_slice_get g.nodes frame (Frame tags values) (Str []) p.at) (graph_joined g p.graph frame (Str []) (slice_get_within g.nodes frame (Frame tags values) p.at)) in
    joins.labels

slot_is_place : (g : RawGraph) (name : List ℕ) (v : RawGraph) (tag frame : ℕ) (tags : List ℕ) (values : List Ref) → IsPlace g name tag frame tags values → slot_number (all_of g name v) name tags ≡ place tags tag
unfolding place
slot_is_place g name v tag frame tags values p =
    position_from-zero (λ t. is_named name (slice_get (all_of g name v) t)) tags
    ∙ position_from-on (λ t. is_named name (slice_get (all_of g name v) t)) (λ t. eqb t tag) 0 tags (λ k d lt. one (get_or tags k d) (frame_symbols g name tag frame tags values p k d lt))
  where
    one : (t : ℕ) → IsSymbol g.nodes t → is_named name (slice_get (all_of g name v) t) ≡ eqb t tag
    one t is = ap (is_named name) (named_at g name v t (Symbol is.0) is.1) ∙ p.by.only t is.0 is.1

change_is_set : {X : Type 0} (n : ℕ) (f : X → X) (xs : List X) (x : X) → slice_get xs n ≡ Some x → change_nth n f xs ≡ set xs n (f x)
change_is_set n f [] x e = absurd cc
change_is_set zero f (y ∷ xs) x e = ap (λ z. f z ∷ xs) (some_is e)
change_is_set (suc n) f (y ∷ xs) x e = ap (λ ys. y ∷ ys) (change_is_set n f xs x e)

pub put_is : (g : RawGraph) (name : List ℕ) (v : RawGraph) (tag frame : ℕ) (tags : List ℕ) (values : List Ref) → IsPlace g name tag frame tags values
    → put_into g name v frame ≡ record { nodes = set (all_of g name v) frame (frame_of tag (root_of g name v) tags values); root = g.root }
put_is g name v tag frame tags values p =
    let all = all_of g name v in
    let value = root_of g name v in
    let here : slice_get all frame ≡ Some (Frame tags values) = named_at g name v frame (Frame tags values) p.at in
    let number : unwrap_or (symbol_number all name) 0 ≡ tag = ap (λ (o : Option ℕ). unwrap_or o 0) (p.by.first _) in
    let slot : set_slot all name value (Frame tags values) ≡ frame_of tag value tags values =
    ap (λ (o : Option ℕ). with_slot o (unwrap_or (symbol_number all name) 0) value tags values) (slot_is_place g name v tag frame tags values p)
    ∙ ap (λ (t : ℕ). with_slot (place tags tag) t value tags values) number in
    ap (λ (ns : List Node). record { nodes = ns; root = g.root }) (change_is_set frame (set_slot all name value) all (Frame tags values) here ∙ ap (λ (node : Node). set all frame node) slot)

-- ---- what the builder gives

set_at_frame : (nodes : List Node) (n tag : ℕ) (value : Ref) (tags : List ℕ) (values : List Ref) → slice_get nodes n ≡ Some (Frame tags values)
    → with_set nodes n tag value ≡ (slot_put tags values tag value (place tags tag) >>= λ node. Some (set nodes n node))
unfolding with_set draft.with_slot
set_at_frame nodes n tag value tags values at = ap (frame_set nodes n tag value) at

pub set_gives : (nodes : List Node) (n tag : ℕ) (value : Ref) (tags : List ℕ) (values : List Ref) (made : List Node) → slice_get nodes n ≡ Some (Frame tags values) → with_set nodes n tag value ≡ Some made
    → made ≡ set nodes n (frame_of tag value tags values)
set_gives nodes n tag value tags values made at e = by (place tags tag) (sym (set_at_frame nodes n tag value tags values at) ∙ e)
  where
    by : (o : Option ℕ) → (slot_put tags values tag value o >>= λ node. Some (set nodes n node)) ≡ Some made → made ≡ set nodes n (with_slot o tag value tags values)
    by (Some i) e = sym (some_is e)
    by None e = new (nat_lt (length tags) 65535) e
      where
        new : (b : Bool) → (cond b (Some (Frame (tags ++ tag ∷ []) (values ++ value ∷ []))) None >>= λ node. Some (set nodes n node)) ≡ Some made → made ≡ set nodes n (Frame (tags ++ tag ∷ []) (values ++ value ∷ []))
        new true e = sym (some_is e)
        new false e = absurd cc

-- the frame has no such slot, and as many as it may have
pub record IsFull (tag : ℕ) (tags : List ℕ) : Type 0 where
  pub new : place tags tag ≡ None
  pub full : 65535 ≤ length tags

pub set_refuses : (nodes : List Node) (n tag : ℕ) (value : Ref) (tags : List ℕ) (values : List Ref) → slice_get nodes n ≡ Some (Frame tags values) → with_set nodes n tag value ≡ None → IsFull tag tags
set_refuses nodes n tag value tags values at e = by (place tags tag) refl (sym (set_at_frame nodes n tag value tags values at) ∙ e)
  where
    by : (o : Option ℕ) → place tags tag ≡ o → (slot_put tags values tag value o >>= λ node. Some (set nodes n node)) ≡ None → IsFull tag tags
    by (Some i) is e = absurd cc
    by None is e = new (nat_lt (length tags) 65535) refl e
      where
        new : (b : Bool) → nat_lt (length tags) 65535 ≡ b → (cond b (Some (Frame (tags ++ tag ∷ []) (values ++ value ∷ []))) None >>= λ node. Some (set nodes n node)) ≡ None → IsFull tag tags
        new true lt e = absurd cc
        new false lt e = record { new = is; full = ltb-false (length tags) 65535 lt }

-- ---- all references lead to nodes

named_joined : (g : RawGraph) (name : List ℕ) (tag : ℕ) → IsGraph g → IsNamedBy g.nodes name tag → All (IsJoinedNode (named g.nodes name)) (named g.nodes name)
named_joined g name tag graph by = elim by.all [
  | inl same ↦ subst (λ (ns : List Node). All (IsJoinedNode ns) ns) (sym same) (graph_joined g graph)
  | inr more ↦ subst (λ (ns : List Node). All (IsJoinedNode ns) ns) (sym more)
      (All-push (IsJoinedNode (g.nodes ++ Symbol name ∷ [])) g.nodes (Symbol name) (append_joined g.nodes (Symbol name ∷ []) (graph_joined g graph)) (symbol_joined (g.nodes ++ Symbol name ∷ []) name))
]

alls_joined : (g : RawGraph) (name : List ℕ) (v : RawGraph) (tag : ℕ) → IsGraph g → IsNamedBy g.nodes name tag → IsGraph v → All (IsJoinedNode (all_of g name v)) (all_of g name v)
alls_joined g name v tag graph by other = after_joined (named g.nodes name) v other (named_joined g name tag graph by)

tag_symbol : (g : RawGraph) (name : List ℕ) (v : RawGraph) (tag : ℕ) → IsNamedBy g.nodes name tag → IsSymbol (all_of g name v) tag
tag_symbol g name v tag by = (by.alike.0, get_append (named g.nodes name) _ tag (Symbol by.alike.0) by.alike.1)

none_there : (i : ℕ) (xs : List ℕ) (tag : ℕ) → position_from (λ j. eqb j tag) i xs ≡ None → All (λ t. t ≢ tag) xs
none_there i [] tag e = All-nil (λ t. t ≢ tag)
none_there i (x ∷ xs) tag e = All-cons (λ t. t ≢ tag) x xs (first (eqb x tag) refl e) (none_there (i + 1) xs tag (rest (eqb x tag) e))
  where
    first : (b : Bool) → eqb x tag ≡ b → cond b (Some i) (position_from (λ j. eqb j tag) (i + 1) xs) ≡ None → x ≢ tag
    first true is e = absurd cc
    first false is e = eqb-false x tag is

    rest : (b : Bool) → cond b (Some i) (position_from (λ j. eqb j tag) (i + 1) xs) ≡ None → position_from (λ j. eqb j tag) (i + 1) xs ≡ None
    rest true e = absurd cc
    rest false e = e

slot_joined : (all : List Node) (tag : ℕ) (value : Ref) (tags : List ℕ) (values : List Ref) → IsJoinedNode all (Frame tags values) → IsSymbol all tag → IsValue (length all) value → IsJoinedNode all (frame_of tag value tags values)
unfolding place
slot_joined all tag value tags values h symbol is = by (place tags tag) refl
  where
    by : (o : Option ℕ) → place tags tag ≡ o → IsJoinedNode all (with_slot o tag value tags values)
    by (Some i) e = record { labels = h.labels; distinct = h.distinct; values = All-set (IsValue (length all)) values i value is h.values }
    by None e = record {
      labels = All-push (IsSymbol all) tags tag h.labels symbol;
      distinct = all_pairs_push (λ a b. a ≢ b) tags tag h.distinct (none_there 0 tags tag e);
      values = All-push (IsValue (length all)) values value h.values is;
    }

pub put_joined : (g : RawGraph) (name : List ℕ) (v : RawGraph) (tag frame : ℕ) (tags : List ℕ) (values : List Ref) → IsPlace g name tag frame tags values → IsGraph v
    → IsJoined (set (all_of g name v) frame (frame_of tag (root_of g name v) tags values)) g.root
put_joined g name v tag frame tags values p other =
    let all = all_of g name v in
    let value = root_of g name v in
    let here : slice_get all frame ≡ Some (Frame tags values) = named_at g name v frame (Frame tags values) p.at in
    let each = alls_joined g name v tag p.graph p.by other in
    let one : IsJoinedNode all (Frame tags values) = subst (IsJoinedNode all) (get_or_from_slice_get all frame (Frame tags values) (Str []) here) (each frame (Str []) (slice_get_within all frame (Frame tags values) here)) in
    let made = frame_of tag value tags values in
    record {
      root_in = value_more (length g.nodes) (length (set all frame made)) (omega (arith, length-set all frame made, more)) g.root (root_within g p.graph);
      each = frame_joined all frame tags values made here (slot_joined all tag value tags values one (tag_symbol g name v tag p.by) (value_lands (named g.nodes name) v v.root (root_within v other))) each;
    }
  where
    more : length g.nodes ≤ length (all_of g name v)
    more = omega (
      arith,
      length-append (named g.nodes name) (map (λ k. renamed (goes_to (named g.nodes name) v.nodes) k.1) (new_nodes (named g.nodes name) v.nodes)),
      length-append g.nodes (map (λ k. k.1) (new_nodes g.nodes (Symbol name ∷ []))),
    )

-- ---- a frame that has too many slots is reached

list_all-fails : {X : Type 0} (test : X → Bool) (xs : List X) (i : ℕ) (x : X) → slice_get xs i ≡ Some x → test x ≡ false → list_all test xs ≡ false
list_all-fails test [] i x at e = absurd cc
list_all-fails test (y ∷ xs) zero x at e = and_left (test y) (list_all test xs) (ap test (some_is at) ∙ e)
list_all-fails test (y ∷ xs) (suc i) x at e = and_right (test y) (list_all test xs) (list_all-fails test xs i x at e)

-- the nodes of the definition, where the frame gets a slot too many
abbrev full_nodes : RawGraph → List ℕ → RawGraph → ℕ → ℕ → List ℕ → List Ref → List Node
full_nodes g name v tag frame tags values = set (all_of g name v) frame (Frame (tags ++ tag ∷ []) (values ++ root_of g name v ∷ []))

-- a frame of the graph has all its slots still
slots_stay : (g : RawGraph) (name : List ℕ) (v : RawGraph) (tag frame : ℕ) (tags : List ℕ) (values : List Ref) → slice_get g.nodes frame ≡ Some (Frame tags values)
    → (n : ℕ) (ts : List ℕ) (vs : List Ref) (i : ℕ) (value : Ref) → slice_get g.nodes n ≡ Some (Frame ts vs) → slice_get vs i ≡ Some value
    → (us : List ℕ) × (ws : List Ref) × (slice_get (full_nodes g name v tag frame tags values) n ≡ Some (Frame us ws)) × (slice_get ws i ≡ Some value)
slots_stay g name v tag frame tags values at n ts vs i value here e = by (cases_eq n frame)
  where
    by : (n ≡ frame) ⊎ (n ≡ frame → ⊥) → (us : List ℕ) × (ws : List Ref) × (slice_get (full_nodes g name v tag frame tags values) n ≡ Some (Frame us ws)) × (slice_get ws i ≡ Some value)
    by (inr other) = (ts, vs, set_other (all_of g name v) frame n (Frame (tags ++ tag ∷ []) (values ++ root_of g name v ∷ [])) other ∙ named_at g name v n (Frame ts vs) here, e)
    by (inl same) = (
      tags ++ tag ∷ [],
      values ++ root_of g name v ∷ [],
      ap (λ (m : ℕ). slice_get (full_nodes g name v tag frame tags values) m) same
          ∙ set_here (all_of g name v) frame (Frame tags values) (Frame (tags ++ tag ∷ []) (values ++ root_of g name v ∷ [])) (named_at g name v frame (Frame tags values) at),
      get_append values (root_of g name v ∷ []) i value (subst (λ (ws : List Ref). slice_get ws i ≡ Some value) (values_same (some_is (sym here ∙ (ap (λ (m : ℕ). slice_get g.nodes m) same ∙ at)))) e),
    )
      where
        values_same : Frame ts vs ≡ Frame tags values → vs ≡ values
        values_same e = cc

-- one step of a path
record Stepped (g : RawGraph) (n : ℕ) (next : Ref → Option Ref) (to : Ref) : Type 0 where
  pub tags : List ℕ
  pub values : List Ref
  pub slot : ℕ
  pub value : Ref
  pub here : slice_get g.nodes n ≡ Some (Frame tags values)
  pub read : slice_get values slot ≡ Some value
  pub goes : next value ≡ Some to

step_from : (g : RawGraph) (n : ℕ) (step : List ℕ) (o : Option Node) → slice_get g.nodes n ≡ o → (next : Ref → Option Ref) (to : Ref) → option_and_then next (slot_value g.nodes step o) ≡ Some to → Stepped g n next to
step_from g n step None is next to e = absurd cc
step_from g n step (Some (Symbol name)) is next to e = absurd cc
step_from g n step (Some (Str units)) is next to e = absurd cc
step_from g n step (Some (Binary class bytes)) is next to e = absurd cc
step_from g n step (Some (Large class bytes)) is next to e = absurd cc
step_from g n step (Some (Array class values)) is next to e = absurd cc
step_from g n step (Some (Frame ts vs)) is next to e = by (slot_number g.nodes step ts) e
  where
    read : (i : ℕ) (o : Option Ref) → slice_get vs i ≡ o → option_and_then next o ≡ Some to → Stepped g n next to
    read i None at e = absurd cc
    read i (Some r) at e = record { tags = ts; values = vs; slot = i; value = r; here = is; read = at; goes = e }

    by : (o : Option ℕ) → option_and_then next (option_and_then (slice_get vs) o) ≡ Some to → Stepped g n next to
    by None e = absurd cc
    by (Some i) e = read i (slice_get vs i) refl e

picked : (x h : RawGraph) → limited x ≡ Some h → x ≡ h
picked x h e = by (nat_le (length x.nodes) 65535 && nat_le (sum_by payload x.nodes) 16777216) e
  where
    by : (b : Bool) → cond b (Some x) None ≡ Some h → x ≡ h
    by true e = some_is e
    by false e = absurd cc

-- every class and tag is a symbol, though the frame has too many
labelled : (g : RawGraph) (name : List ℕ) (v : RawGraph) (tag frame : ℕ) (tags : List ℕ) (values : List Ref) → IsPlace g name tag frame tags values → IsGraph v → Labelled (full_nodes g name v tag frame tags values)
labelled g name v tag frame tags values p other =
    let all = all_of g name v in
    let here : slice_get all frame ≡ Some (Frame tags values) = named_at g name v frame (Frame tags values) p.at in
    let more = Frame (tags ++ tag ∷ []) (values ++ root_of g name v ∷ []) in
    let nodes = set all frame more in
    let each = alls_joined g name v tag p.graph p.by other in
    let one : IsJoinedNode all (Frame tags values) = subst (IsJoinedNode all) (get_or_from_slice_get all frame (Frame tags values) (Str []) here) (each frame (Str []) (slice_get_within all frame (Frame tags values) here)) in
    let symbols : All (IsSymbol all) (tags ++ tag ∷ []) = All-push (IsSymbol all) tags tag one.labels (tag_symbol g name v tag p.by) in
    All-set (λ node. All (IsSymbol nodes) (labels_of node)) all frame more
    (All-weaker (IsSymbol all) (IsSymbol nodes) (symbol_stays all frame tags values more here) (tags ++ tag ∷ []) symbols)
    (All-weaker (IsJoinedNode all) (λ node. All (IsSymbol nodes) (labels_of node)) (λ node j. All-weaker (IsSymbol all) (IsSymbol nodes) (symbol_stays all frame tags values more here) (labels_of node) j.labels) all each)

-- where a path of the graph leads was met
path_met : (g : RawGraph) (name : List ℕ) (v : RawGraph) (tag frame : ℕ) (tags : List ℕ) (values : List Ref) (seen : Seen) → slice_get g.nodes frame ≡ Some (Frame tags values)
    → ((k : ℕ) → Has seen k → Closed (full_nodes g name v tag frame tags values) seen k) → seen.count ≡ length (full_nodes g name v tag frame tags values)
    → (path : List (List ℕ)) (from to : Ref) → In seen from → value_below g.nodes from path ≡ Some to → In seen to
path_met g name v tag frame tags values seen at closed count [] from to met e = subst (In seen) (some_is e) met
path_met g name v tag frame tags values seen at closed count (step ∷ path) (refs.Imm w) to met e = absurd cc
path_met g name v tag frame tags values seen at closed count (step ∷ path) (refs.Node n) to met e =
    let s = step_from g n step (slice_get g.nodes n) refl (λ r. value_below g.nodes r path) to e in
    let t = slots_stay g name v tag frame tags values at n s.tags s.values s.slot s.value s.here s.read in
    let nodes = full_nodes g name v tag frame tags values in
    let all = closed n (met (omega (arith, count, slice_get_within nodes n (Frame t.0 t.1) t.2))) t.0 t.1 t.2 in
    path_met g name v tag frame tags values seen at closed count path s.value to (subst (In seen) (get_or_from_slice_get t.1 s.slot s.value s.value t.3) (all s.slot s.value (slice_get_within t.1 s.slot s.value t.3))) s.goes

-- the value that a path leads to was met, so the frame there is among the nodes of the normal form
full_in : (g : RawGraph) (name : List ℕ) (v : RawGraph) (tag frame : ℕ) (tags : List ℕ) (values : List Ref) (path : List (List ℕ)) → IsPlace g name tag frame tags values → IsGraph v → 65535 ≤ length tags
    → value_below g.nodes g.root path ≡ Some (refs.Node frame) → (h : RawGraph) → normal_form (record { nodes = full_nodes g name v tag frame tags values; root = g.root }) ≡ Some h
    → (i : ℕ) × (ts : List ℕ) × (vs : List Ref) × (slice_get h.nodes i ≡ Some (Frame ts vs)) × (65535 < length ts)
unfolding normal_form
full_in g name v tag frame tags values path p other full leads h e =
    let nodes = full_nodes g name v tag frame tags values in
    let raw : RawGraph = record { nodes = nodes; root = g.root } in
    let more = Frame (tags ++ tag ∷ []) (values ++ root_of g name v ∷ []) in
    let start : Seen = record { order = []; count = length nodes } in
    let b = bind_some (meet nodes 200 start g.root) (λ seen. limited (numbered raw seen)) h e in
    let seen = b.0 in
    let r = all_reached nodes g.root seen (labelled g name v tag frame tags values p other) b.1 in
    let there : slice_get nodes frame ≡ Some more = set_here (all_of g name v) frame (Frame tags values) more (named_at g name v frame (Frame tags values) p.at) in
    let met = path_met g name v tag frame tags values seen p.at r.closed r.count path g.root (refs.Node frame) r.root_in leads (omega (arith, r.count, slice_get_within nodes frame more there)) in
    let made : slice_get (moved nodes seen.order seen.order) met.0 ≡ Some (renamed (number seen.order) (get_or nodes frame (Str []))) =
    at_map (λ k. renamed (number seen.order) (get_or nodes k (Str []))) seen.order met.0 frame met.1 in
    let node : get_or nodes frame (Str []) ≡ more = get_or_from_slice_get nodes frame more (Str []) there in
    let same : (moved nodes seen.order seen.order) ≡ h.nodes = ap (λ (x : RawGraph). x.nodes) (picked (numbered raw seen) h b.2) in (
      met.0,
      map (number seen.order) (tags ++ tag ∷ []),
      map (renamed_ref (number seen.order)) (values ++ root_of g name v ∷ []),
      subst (λ (ns : List Node). slice_get ns met.0 ≡ Some (renamed (number seen.order) more)) same (made ∙ ap (λ (x : Node). Some (renamed (number seen.order) x)) node),
      omega (arith, full, length_push tags tag, length-map (tags ++ tag ∷ []) (number seen.order)),
    )

-- no graph is the normal form of nodes in which the frame has too many slots
pub full_passes : (g : RawGraph) (name : List ℕ) (v : RawGraph) (tag frame : ℕ) (tags : List ℕ) (values : List Ref) (path : List (List ℕ)) → IsPlace g name tag frame tags values → IsGraph v → IsFull tag tags
    → value_below g.nodes g.root path ≡ Some (refs.Node frame) → PassesALimit (Some (put_into g name v frame))
full_passes g name v tag frame tags values path p other full leads =
    let raw : RawGraph = record { nodes = full_nodes g name v tag frame tags values; root = g.root } in
    let slot : frame_of tag (root_of g name v) tags values ≡ Frame (tags ++ tag ∷ []) (values ++ root_of g name v ∷ []) = ap (λ (o : Option ℕ). with_slot o tag (root_of g name v) tags values) full.new in
    let same : put_into g name v frame ≡ raw = put_is g name v tag frame tags values p ∙ ap (λ (node : Node). record { nodes = set (all_of g name v) frame node; root = g.root }) slot in
    subst (λ (x : RawGraph). PassesALimit (Some x)) (sym same) (
      (λ h form. let f = full_in g name v tag frame tags values path p other full.full leads h (form_is_found raw h form) in
          too_many h form.graph f.0 f.1 f.2 f.3 f.4),
      outside (normal_form raw) refl,
    )
  where
    too_many : (h : RawGraph) → IsGraph h → (i : ℕ) (ts : List ℕ) (vs : List Ref) → slice_get h.nodes i ≡ Some (Frame ts vs) → 65535 < length ts → ⊥
    too_many h graph i ts vs at many =
        let is : IsNode h.nodes (Frame ts vs) = subst (IsNode h.nodes) (get_or_from_slice_get h.nodes i (Frame ts vs) (Str []) at) (graph.each i (Str []) (slice_get_within h.nodes i (Frame ts vs) at)) in
        omega (arith, is.are_tags.few, many)

    outside : (o : Option RawGraph) → normal_form (record { nodes = full_nodes g name v tag frame tags values; root = g.root }) ≡ o → is_within o ≡ false
    outside None e = refl
    outside (Some h) e =
        let f = full_in g name v tag frame tags values path p other full.full leads h e in
        and_right (is_some (normal_form h)) (list_all is_small h.nodes) (list_all-fails is_small h.nodes f.0 (Frame f.1 f.2) f.3 (lt-leb (length f.1) 65535 f.4))

-- what the builder makes
pub made_form : (g : RawGraph) (name : List ℕ) (v : RawGraph) (tag frame : ℕ) (tags : List ℕ) (values : List Ref) (h : RawGraph) → IsPlace g name tag frame tags values
    → IsNormalForm (record { nodes = set (all_of g name v) frame (frame_of tag (root_of g name v) tags values); root = g.root }) h → IsFormOf (Some (put_into g name v frame)) h
made_form g name v tag frame tags values h p form =
    subst (λ (x : RawGraph). IsFormOf (Some x) h) (sym (put_is g name v tag frame tags values p)) (form, form_is_found _ h form)

pub made_none : (g : RawGraph) (name : List ℕ) (v : RawGraph) (tag frame : ℕ) (tags : List ℕ) (values : List Ref) → IsPlace g name tag frame tags values
    → normal_form (record { nodes = set (all_of g name v) frame (frame_of tag (root_of g name v) tags values); root = g.root }) ≡ None → PassesALimit (Some (put_into g name v frame))
made_none g name v tag frame tags values p none =
    subst (λ (x : RawGraph). PassesALimit (Some x)) (sym (put_is g name v tag frame tags values p)) (
      (λ h form. clash (sym none ∙ form_is_found _ h form)),
      ap is_within none,
    )
  where
    clash : {h : RawGraph} → None ≡ Some h → ⊥
    clash e = absurd cc
