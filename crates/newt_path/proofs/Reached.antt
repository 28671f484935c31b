-- A walk that meets a value has met all that its frames lead to.
use Rattle.std.proofs.Common.{◌≡◌, ℕ, zero, suc, ◌<◌, List, [], ◌∷◌, length, All, Bool, true, false, Option, Some, None, refl, sym, ap, subst, ◌∙◌, arith, cond, eqb, inl, inr, ◌⊎◌}
use Rattle.std.specs.Prelude.{slice_get}
use Rattle.std.proofs.lemmas.Iterator.Adapters.{position_from-zero}
use Rattle.std.proofs.lemmas.Bool.{lt-ltb, eqb-true}
use Rattle.std.proofs.lemmas.List.Quantifiers.{position-Some}
use Rattle.std.proofs.lemmas.List.Elements.{All-nil, All-cons, All-head, All-tail, All-weaker}
use Rattle.newt_graph.specs.declared.node.Node.{Node}
use Rattle.newt_graph.specs.declared.node.Node.TheVariants.{Symbol, Str, Binary, Large, Array, Frame}
use Rattle.newt_graph.specs.declared.node.Ref.{Ref}
use Rattle.newt_graph.specs.declared.node.Ref.TheVariants as refs
use Rattle.newt_graph.specs.Graph.{IsSymbol}
use Rattle.newt_graph.specs.Raw.{labels_of}
use Rattle.newt_graph.specs.Meeting.{Seen, Step, place, is_new, added, meet_label, meet_labels, meet_class, meet_each, within, enter, meet_by, meet}
use Rattle.newt_graph.proofs.Options.{bind_some, some_is}
use Rattle.newt_graph.proofs.Elements.{get_append, get_seam, at_push, all_at, any_at}

-- the number was met
abbrev pub Has : Seen → ℕ → Type 0
Has seen k = (i : ℕ) × (slice_get seen.order i ≡ Some k)

-- the value's node was met, where it leads to one
abbrev pub In : Seen → Ref → Type 0
In seen (refs.Imm w) = Unit {0}
In seen (refs.Node k) = k < seen.count → Has seen k

-- all that a frame has was met
abbrev pub Closed : List Node → Seen → ℕ → Type 0
Closed nodes seen k = (tags : List ℕ) (values : List Ref) → slice_get nodes k ≡ Some (Frame tags values) → All (In seen) values

pub record Next (nodes : List Node) (old next : Seen) : Type 0 where
  pub count : next.count ≡ old.count
  pub has : (k : ℕ) → Has old k → Has next k
  pub closed : (k : ℕ) → Has next k → (Has old k) ⊎ Closed nodes next k

in_next : (nodes : List Node) (old next : Seen) → Next nodes old next → (value : Ref) → In old value → In next value
in_next nodes old next n (refs.Imm w) h = tt
in_next nodes old next n (refs.Node k) h = λ lt. n.has k (h (omega (arith, lt, n.count)))

stays : (nodes : List Node) (seen : Seen) → Next nodes seen seen
stays nodes seen = record { count = refl; has = λ k h. h; closed = λ k h. inl h }

follow : (nodes : List Node) (a b c : Seen) → Next nodes a b → Next nodes b c → Next nodes a c
follow nodes a b c one two = record {
  count = two.count ∙ one.count;
  has = λ k h. two.has k (one.has k h);
  closed = λ k h. elim (two.closed k h) [
    | inr new ↦ inr new
    | inl old ↦ elim (one.closed k old) [
      | inl first ↦ inl first
      | inr closed ↦ inr (λ tags values at. All-weaker (In b) (In c) (in_next nodes b c two) values (closed tags values at))
    ]
  ];
}

has_added : (seen : Seen) (k j : ℕ) → Has seen j → Has (added seen k) j
has_added seen k j h = (h.0, get_append seen.order (k ∷ []) h.0 j h.1)

has_new : (seen : Seen) (k : ℕ) → Has (added seen k) k
has_new seen k = (length seen.order, get_seam seen.order k [])

has_either : (seen : Seen) (k j : ℕ) → Has (added seen k) j → (Has seen j) ⊎ (k ≡ j)
has_either seen k j h = elim (at_push seen.order k h.0 j h.1) [ inl old ↦ inl (h.0, old) | inr new ↦ inr new.1 ]

place_has : (seen : Seen) (k i : ℕ) → place seen.order k ≡ Some i → Has seen k
unfolding place
place_has seen k i e =
    let f = position-Some (λ j. eqb j k) seen.order i 0 (position_from-zero (λ j. eqb j k) seen.order ∙ e) in
    (i, any_at seen.order i 0 f.0 ∙ ap (λ (m : ℕ). Some m) (eqb-true _ k f.1))

-- a number that is not new was met
not_new : (seen : Seen) (k : ℕ) → is_new seen k ≡ false → k < seen.count → Has seen k
not_new seen k e lt = by (place seen.order k) refl
  where
    by : (o : Option ℕ) → place seen.order k ≡ o → Has seen k
    by (Some i) at = place_has seen k i at
    by None at = absurd (clash (sym e ∙ rw (lt-ltb k seen.count lt, at) refl))
      where
        clash : false ≡ true → ⊥
        clash e = absurd cc

-- a node that is no frame has nothing to close
abbrev is_no_frame : Node → Type 0
is_no_frame node = (tags : List ℕ) (values : List Ref) → node ≡ Frame tags values → ⊥

meets_new : (nodes : List Node) (seen next : Seen) (k : ℕ) → Next nodes (added seen k) next → Closed nodes next k → Next nodes seen next
meets_new nodes seen next k n closed = record {
  count = n.count;
  has = λ j h. n.has j (has_added seen k j h);
  closed = λ j h. elim (n.closed j h) [
    | inr new ↦ inr new
    | inl old ↦ elim (has_either seen k j old) [
      | inl first ↦ inl first
      | inr same ↦ inr (subst (Closed nodes next) same closed)
    ]
  ];
}

label_next : (nodes : List Node) (seen : Seen) (k : ℕ) → IsSymbol nodes k → Next nodes seen (meet_label seen k)
unfolding meet_label
label_next nodes seen k symbol = by (is_new seen k) refl
  where
    none : Closed nodes (added seen k) k
    none tags values at = absurd (clash (sym symbol.1 ∙ at))
      where
        clash : Some (Symbol symbol.0) ≡ Some (Frame tags values) → ⊥
        clash e = absurd cc

    by : (b : Bool) → is_new seen k ≡ b → Next nodes seen (cond b (added seen k) seen)
    by true e = meets_new nodes seen (added seen k) k (stays nodes (added seen k)) none
    by false e = stays nodes seen

labels_next : (nodes : List Node) (seen : Seen) (ks : List ℕ) → All (IsSymbol nodes) ks → Next nodes seen (meet_labels seen ks)
unfolding meet_labels
labels_next nodes seen [] h = stays nodes seen
labels_next nodes seen (k ∷ ks) h =
    follow nodes seen (meet_label seen k) (meet_labels (meet_label seen k) ks) (label_next nodes seen k (All-head (IsSymbol nodes) k ks h))
    (labels_next nodes (meet_label seen k) ks (All-tail (IsSymbol nodes) k ks h))

class_next : (nodes : List Node) (seen : Seen) (class : Option ℕ) (values : List Ref) → All (IsSymbol nodes) (labels_of (Array class values)) → Next nodes seen (meet_class seen class)
class_next nodes seen None values h = stays nodes seen
class_next nodes seen (Some k) values h = label_next nodes seen k (All-head (IsSymbol nodes) k [] h)

abbrev Meets : List Node → Step → Type 0
Meets nodes step = (seen next : Seen) (value : Ref) → step seen value ≡ Some next → Next nodes seen next × In next value

each_next : (nodes : List Node) (step : Step) → Meets nodes step → (seen next : Seen) (values : List Ref) → meet_each step seen values ≡ Some next → Next nodes seen next × All (In next) values
unfolding meet_each
each_next nodes step meets seen next [] e = (subst (Next nodes seen) (some_is e) (stays nodes seen), All-nil (In next))
each_next nodes step meets seen next (v ∷ vs) e =
    let b = bind_some (step seen v) (λ mid. meet_each step mid vs) next e in
    let one = meets seen b.0 v b.1 in
    let rest = each_next nodes step meets b.0 next vs b.2 in
    (follow nodes seen b.0 next one.0 rest.0, All-cons (In next) v vs (in_next nodes b.0 next rest.0 v one.1) rest.1)

abbrev Inner : List Node → Option Step → Type 0
Inner nodes None = Unit {0}
Inner nodes (Some step) = Meets nodes step

inside_next : (nodes : List Node) (inner : Option Step) → Inner nodes inner → (first seen next : Seen) (values : List Ref) → Next nodes first seen → within inner seen values ≡ Some next → Next nodes first next × All (In next) values
inside_next nodes None is first seen next values before e = absurd cc
inside_next nodes (Some step) is first seen next values before e =
    let r = each_next nodes step is seen next values e in
    (follow nodes first seen next before r.0, r.1)

abbrev Entered : List Node → Seen → Seen → Node → Type 0
Entered nodes seen next node = Next nodes seen next × ((tags : List ℕ) (values : List Ref) → node ≡ Frame tags values → All (In next) values)

leaf_entered : (nodes : List Node) (seen next mid : Seen) (node : Node) → Next nodes seen mid → Some mid ≡ Some next → is_no_frame node → Entered nodes seen next node
leaf_entered nodes seen next mid node n e leaf = (subst (Next nodes seen) (some_is e) n, λ tags values is. absurd (leaf tags values is))

enter_next : (nodes : List Node) (inner : Option Step) → Inner nodes inner → (seen next : Seen) (node : Node) → All (IsSymbol nodes) (labels_of node) → enter inner seen (Some node) ≡ Some next → Entered nodes seen next node
unfolding enter
enter_next nodes inner is seen next (Symbol name) h e = leaf_entered nodes seen next seen (Symbol name) (stays nodes seen) e (λ tags values is. absurd cc)
enter_next nodes inner is seen next (Str units) h e = leaf_entered nodes seen next seen (Str units) (stays nodes seen) e (λ tags values is. absurd cc)
enter_next nodes inner is seen next (Binary class bytes) h e =
    leaf_entered nodes seen next (meet_label seen class) (Binary class bytes) (label_next nodes seen class (All-head (IsSymbol nodes) class [] h)) e (λ tags values is. absurd cc)
enter_next nodes inner is seen next (Large class bytes) h e =
    leaf_entered nodes seen next (meet_label seen class) (Large class bytes) (label_next nodes seen class (All-head (IsSymbol nodes) class [] h)) e (λ tags values is. absurd cc)
enter_next nodes inner is seen next (Array class values) h e =
    let r = inside_next nodes inner is seen (meet_class seen class) next values (class_next nodes seen class values h) e in
    (r.0, λ tags others same. absurd cc)
enter_next nodes inner is seen next (Frame tags values) h e =
    let r = inside_next nodes inner is seen (meet_labels seen tags) next values (labels_next nodes seen tags h) e in
    (r.0, λ others vs same. subst (λ (ws : List Ref). All (In next) ws) (values_same tags others values vs same) r.1)
  where
    values_same : (tags others : List ℕ) (values vs : List Ref) → Frame tags values ≡ Frame others vs → values ≡ vs
    values_same tags others values vs e = cc

nothing : (inner : Option Step) (seen next : Seen) → enter inner seen None ≡ Some next → seen ≡ next
unfolding enter
nothing inner seen next e = some_is e

abbrev pub Labelled : List Node → Type 0
Labelled nodes = All (λ node. All (IsSymbol nodes) (labels_of node)) nodes

by_next : (nodes : List Node) → Labelled nodes → (inner : Option Step) → Inner nodes inner → Meets nodes (meet_by nodes inner)
unfolding meet_by
by_next nodes labelled inner is seen next (refs.Imm w) e = (subst (Next nodes seen) (some_is e) (stays nodes seen), tt)
by_next nodes labelled inner is seen next (refs.Node k) e = by (is_new seen k) refl e
  where
    at : (o : Option Node) → slice_get nodes k ≡ o → enter inner (added seen k) o ≡ Some next → Next nodes (added seen k) next × Closed nodes next k
    at None there e = (subst (Next nodes (added seen k)) (nothing inner (added seen k) next e) (stays nodes (added seen k)), λ tags values here. absurd (clash (sym there ∙ here)))
      where
        clash : {tags : List ℕ} {values : List Ref} → None ≡ Some (Frame tags values) → ⊥
        clash e = absurd cc
    at (Some node) there e =
        let r = enter_next nodes inner is (added seen k) next node (all_at (λ node. All (IsSymbol nodes) (labels_of node)) nodes k node labelled there) e in
        (r.0, λ tags values here. r.1 tags values (some_is (sym there ∙ here)))

    by : (b : Bool) → is_new seen k ≡ b → cond b (enter inner (added seen k) (slice_get nodes k)) (Some seen) ≡ Some next → Next nodes seen next × (k < next.count → Has next k)
    by true new e =
        let r = at (slice_get nodes k) refl e in
        (meets_new nodes seen next k r.0 r.1, λ lt. r.0.has k (has_new seen k))
    by false old e =
        (subst (Next nodes seen) (some_is e) (stays nodes seen), subst (λ (s : Seen). k < s.count → Has s k) (some_is e) (not_new seen k old))

pub meet_next : (nodes : List Node) → Labelled nodes → (room : ℕ) → Meets nodes (meet nodes room)
unfolding meet
meet_next nodes labelled zero = λ seen next value e. by_next nodes labelled None tt seen next value e
meet_next nodes labelled (suc room) = λ seen next value e. by_next nodes labelled (Some (λ seen value. meet nodes room seen value)) (meet_next nodes labelled room) seen next value e

-- what is known of all that was met from nothing on
pub record Reached (nodes : List Node) (root : Ref) (seen : Seen) : Type 0 where
  pub count : seen.count ≡ length nodes
  pub root_in : In seen root
  pub closed : (k : ℕ) → Has seen k → Closed nodes seen k

pub all_reached : (nodes : List Node) (root : Ref) (seen : Seen) → Labelled nodes → meet nodes 200 (record { order = []; count = length nodes }) root ≡ Some seen → Reached nodes root seen
all_reached nodes root seen labelled e =
    let r = meet_next nodes labelled 200 (record { order = []; count = length nodes }) seen root e in
    record {
      count = r.0.count;
      root_in = r.1;
      closed = λ k h. elim (r.0.closed k h) [ inr closed ↦ closed | inl old ↦ absurd (clash old.1) ];
    }
  where
    clash : {k : ℕ} → None ≡ Some k → ⊥
    clash e = absurd cc
