-- A normal form is found: the walk over the raw nodes meets what the walk over the normal form meets.
use Rattle.std.proofs.Common.{◌≡◌, ◌≢◌, ℕ, zero, suc, ◌+◌, ◌<◌, ◌≤◌, List, [], ◌∷◌, ◌++◌, length, map, take, All, get_or, Bool, true, false, Option, Some, None, refl, sym, ap, subst, ◌∙◌, append_assoc, arith, inl, inr, ◌&&◌, ℤ, Result, Ok, Err}
use Rattle.std.specs.Prelude.{slice_get, AllPairs, IsErrOf}
use Rattle.std.specs.List.{sum_by, range_with_len}
use Rattle.std.proofs.lemmas.List.FromFn.{get_or-range_with_len, length-range_with_len}
use Rattle.newt_graph.specs.declared.fault.GraphFault.{GraphFault}
use Rattle.newt_graph.specs.declared.fault.GraphFault.TheVariants.{Limit, Memory}
use Rattle.std.proofs.lemmas.Bool.{lt-ltb, le-leb, cases_order}
use Rattle.std.proofs.lemmas.List.{append-nil, length-append, length_push, length-map, take_more, take_all}
use Rattle.std.proofs.lemmas.List.Elements.{All-head, All-tail}
use Rattle.std.proofs.lemmas.Option.{slice_get_within, get_or_from_slice_get}
use Rattle.newt_graph.specs.declared.node.Node.{Node}
use Rattle.newt_graph.specs.declared.node.Node.TheVariants.{Symbol, Str, Binary, Large, Array, Frame}
use Rattle.newt_graph.specs.declared.node.Ref.{Ref}
use Rattle.newt_graph.specs.declared.node.Ref.TheVariants as refs
use Rattle.newt_graph.specs.Graph.{RawGraph, IsGraph, WalkLabel, WalkLabels, Walk, Walks, payload}
use Rattle.newt_graph.specs.Raw.{renamed_ref, renamed, IsSeenBy, IsNormalForm, IsValue}
use Rattle.newt_graph.specs.Slice.{At}
use Rattle.newt_graph.specs.Meeting.{Seen, Step, place, is_new, added, meet_label, meet_labels, meet_class, meet_each, within, enter, meet_by, meet, Once, number, moved, limited, numbered, normal_form, Gives}
use Rattle.newt_graph.proofs.Place.{place_get, place_some, place_none}
use Rattle.newt_graph.proofs.Options.{some_is}
use Rattle.newt_graph.proofs.Elements.{get_seam, map_at, at_map, any_at}
use Rattle.newt_graph.proofs.Grows.{node_at}
use Rattle.newt_graph.proofs.Slices.{at_first, at_rest, at_inside, at_here, at_length}
use Rattle.newt_graph.proofs.Form.{back, start, number_is}
use Rattle.newt_graph.proofs.Below.{Within, value_in}

-- ---- the first so many of the order

get_take : {X : Type 0} (m : ℕ) (xs : List X) (i : ℕ) (x : X) → slice_get (take m xs) i ≡ Some x → (i < m) × (slice_get xs i ≡ Some x)
get_take zero xs i x e = absurd cc
get_take (suc m) [] i x e = absurd cc
get_take (suc m) (y ∷ xs) zero x e = (omega arith, e)
get_take (suc m) (y ∷ xs) (suc i) x e = let h = get_take m xs i x e in (omega (arith, h.0), h.1)

take_get : {X : Type 0} (m : ℕ) (xs : List X) (i : ℕ) (x : X) → i < m → slice_get xs i ≡ Some x → slice_get (take m xs) i ≡ Some x
take_get zero xs i x lt e = absurd (omega (arith, lt))
take_get (suc m) [] i x lt e = absurd cc
take_get (suc m) (y ∷ xs) zero x lt e = e
take_get (suc m) (y ∷ xs) (suc i) x lt e = take_get m xs i x (omega (arith, lt)) e

abbrev Distinct : List ℕ → Type 0
Distinct order = AllPairs (λ a b. a ≢ b) order

same_place : (order : List ℕ) → Distinct order → (i j k : ℕ) → slice_get order i ≡ Some k → slice_get order j ≡ Some k → i ≡ j
same_place order distinct i j k a b =
    let la = slice_get_within order i k a in
    let lb = slice_get_within order j k b in
    let ga : get_or order i 0 ≡ k = get_or_from_slice_get order i k 0 a in
    let gb : get_or order j 0 ≡ k = get_or_from_slice_get order j k 0 b in
    elim (cases_order i j) [
      | inl same ↦ same
      | inr h ↦ elim h [
        | inl lt ↦ absurd (distinct i j 0 lt lb (ga ∙ sym gb))
        | inr gt ↦ absurd (distinct j i 0 gt la (gb ∙ sym ga))
      ]
    ]

once_from : (order : List ℕ) → Distinct order → Once order
once_from order distinct i k e =
    let p = place_some order i k e in
    p.1 ∙ ap (λ (n : ℕ). Some n) (same_place order distinct p.0 i k (place_get order k p.0 p.1) e)

-- order shows where each node of a normal form stands among the raw nodes
record Shows (nodes shown : List Node) (order : List ℕ) : Type 0 where
  pub size : length order ≡ length shown
  pub at : (i : ℕ) (n : Node) → slice_get shown i ≡ Some n → slice_get nodes (back order i) ≡ Some (renamed (back order) n)
  pub distinct : Distinct order

abbrev met_at : List Node → List ℕ → ℕ → Seen
met_at nodes order m = record { order = take m order; count = length nodes }

off : (b : Bool) → (b && false) ≡ false
off true = refl
off false = refl

is_old : (nodes : List Node) (order : List ℕ) (m k : ℕ) → k < m → m ≤ length order → is_new (met_at nodes order m) (back order k) ≡ false
is_old nodes order m k lt le =
    let p = place_some (take m order) k (back order k) (take_get m order k (back order k) lt (any_at order k 0 (omega (arith, lt, le)))) in
    rw p.1 (off _)

is_fresh : (nodes : List Node) (order : List ℕ) (m : ℕ) → Distinct order → m < length order → back order m < length nodes → is_new (met_at nodes order m) (back order m) ≡ true
is_fresh nodes order m distinct lt inside =
    let none : place (take m order) (back order m) ≡ None =
    place_none (take m order) (back order m) (λ i e. let g = get_take m order i (back order m) e in omega (arith, g.0, same_place order distinct i m (back order m) g.1 (any_at order m 0 lt))) in
    rw (lt-ltb (back order m) (length nodes) inside, none) refl

added_is : (nodes : List Node) (order : List ℕ) (m : ℕ) → m < length order → added (met_at nodes order m) (back order m) ≡ met_at nodes order (suc m)
added_is nodes order m lt =
    let one : m + 1 ≡ suc m = omega arith in
    ap (λ (o : List ℕ). record { order = o; count = length nodes }) (subst (λ (n : ℕ). take m order ++ back order m ∷ [] ≡ take n order) one (sym (take_more order m 0 lt)))

met_same : (nodes : List Node) (order : List ℕ) (m n : ℕ) → m ≡ n → met_at nodes order m ≡ met_at nodes order n
met_same nodes order m n e = ap (met_at nodes order) e

here_inside : (nodes shown : List Node) (order : List ℕ) → Shows nodes shown order → (m : ℕ) (n : Node) → slice_get shown m ≡ Some n → (m < length order) × (back order m < length nodes)
here_inside nodes shown order shows m n e = (omega (arith, slice_get_within shown m n e, shows.size), slice_get_within nodes (back order m) _ (shows.at m n e))

-- ---- labels

label_follows : {met k : ℕ} {new : List Node} → WalkLabel met k new → (nodes shown : List Node) (order : List ℕ) → Shows nodes shown order → At shown new met
    → meet_label (met_at nodes order met) (back order k) ≡ met_at nodes order (met + length new)
unfolding meet_label
label_follows (WalkLabel.again {met} {k} lt) nodes shown order shows at =
    rw (is_old nodes order met k lt (omega (arith, at_length shown [] met at, shows.size))) (met_same nodes order met (met + 0) (omega arith))
label_follows (WalkLabel.symbol {met} {name}) nodes shown order shows at =
    let h = here_inside nodes shown order shows met (Symbol name) (at_here shown (Symbol name) [] met at) in
    rw (is_fresh nodes order met shows.distinct h.0 h.1) (added_is nodes order met h.0 ∙ met_same nodes order (suc met) (met + 1) (omega arith))

labels_follow : {met : ℕ} {ks : List ℕ} {new : List Node} → WalkLabels met ks new → (nodes shown : List Node) (order : List ℕ) → Shows nodes shown order → At shown new met
    → meet_labels (met_at nodes order met) (map (back order) ks) ≡ met_at nodes order (met + length new)
unfolding meet_labels
labels_follow (WalkLabels.none {met}) nodes shown order shows at = met_same nodes order met (met + 0) (omega arith)
labels_follow (WalkLabels.more {met} {k} {ks} {first} {others} w ws) nodes shown order shows at =
    ap (λ (seen : Seen). meet_labels seen (map (back order) ks)) (label_follows w nodes shown order shows (at_first shown first others met at))
    ∙ (labels_follow ws nodes shown order shows (at_rest shown first others met at) ∙ met_same nodes order (met + length first + length others) (met + length (first ++ others)) (omega (arith, length-append first others)))

-- ---- nodes

node_follows : (nodes shown : List Node) (order : List ℕ) (inner : Option Step) (met : ℕ) (n : Node) → Shows nodes shown order → slice_get shown met ≡ Some n
    → meet_by nodes inner (met_at nodes order met) (refs.Node (back order met)) ≡ enter inner (met_at nodes order (suc met)) (Some (renamed (back order) n))
unfolding meet_by
node_follows nodes shown order inner met n shows e =
    let h = here_inside nodes shown order shows met n e in
    rw (is_fresh nodes order met shows.distinct h.0 h.1, added_is nodes order met h.0, shows.at met n e) refl

again_follows : (nodes : List Node) (order : List ℕ) (inner : Option Step) (met k : ℕ) → k < met → met ≤ length order → meet_by nodes inner (met_at nodes order met) (refs.Node (back order k)) ≡ Some (met_at nodes order met)
unfolding meet_by
again_follows nodes order inner met k lt le = rw (is_old nodes order met k lt le) refl

-- what any room does with a value
meet_is : (nodes : List Node) (room : ℕ) → (inner : Option Step) × ((seen : Seen) (value : Ref) → meet nodes room seen value ≡ meet_by nodes inner seen value)
unfolding meet
meet_is nodes zero = (None, λ seen value. refl)
meet_is nodes (suc room) = (Some (λ seen value. meet nodes room seen value), λ seen value. refl)

some_met : (nodes : List Node) (order : List ℕ) (m n : ℕ) → m ≡ n → Some (met_at nodes order m) ≡ Some (met_at nodes order n)
some_met nodes order m n e = ap (λ (k : ℕ). Some (met_at nodes order k)) e

word_follows : (nodes : List Node) (inner : Option Step) (seen : Seen) (w : ℤ) → meet_by nodes inner seen (refs.Imm w) ≡ Some seen
unfolding meet_by
word_follows nodes inner seen w = refl

leaf_follows : (inner : Option Step) (seen : Seen) (name : List ℕ) → (enter inner seen (Some (Symbol name)) ≡ Some seen) × (enter inner seen (Some (Str name)) ≡ Some seen)
unfolding enter
leaf_follows inner seen name = (refl, refl)

binary_follows : (inner : Option Step) (seen : Seen) (class : ℕ) (bytes : List ℕ) → (enter inner seen (Some (Binary class bytes)) ≡ Some (meet_label seen class)) × (enter inner seen (Some (Large class bytes)) ≡ Some (meet_label seen class))
unfolding enter
binary_follows inner seen class bytes = (refl, refl)

frame_follows : (step : Step) (seen : Seen) (tags : List ℕ) (values : List Ref) → enter (Some step) seen (Some (Frame tags values)) ≡ meet_each step (meet_labels seen tags) values
unfolding enter
frame_follows step seen tags values = refl

array_follows : (step : Step) (seen : Seen) (class : Option ℕ) (values : List Ref) → enter (Some step) seen (Some (Array class values)) ≡ meet_each step (meet_class seen class) values
unfolding enter
array_follows step seen class values = refl

room_follows : (nodes : List Node) (room : ℕ) (seen : Seen) (value : Ref) → meet nodes (suc room) seen value ≡ meet_by nodes (Some (λ seen value. meet nodes room seen value)) seen value
unfolding meet
room_follows nodes room seen value = refl

each_none : (step : Step) (seen : Seen) → meet_each step seen [] ≡ Some seen
unfolding meet_each
each_none step seen = refl

each_more : (step : Step) (seen next : Seen) (value : Ref) (values : List Ref) → step seen value ≡ Some next → meet_each step seen (value ∷ values) ≡ meet_each step next values
unfolding meet_each
each_more step seen next value values e = rw e refl

mutual
  value_follows : {room met : ℕ} {value : Ref} {new : List Node} → Walk room met value new → (nodes shown : List Node) (order : List ℕ) → Shows nodes shown order → At shown new met
      → meet nodes room (met_at nodes order met) (renamed_ref (back order) value) ≡ Some (met_at nodes order (met + length new))
  value_follows (Walk.word {room} {met} {w} is) nodes shown order shows at =
      let m = meet_is nodes room in m.1 _ _ ∙ (word_follows nodes m.0 _ w ∙ some_met nodes order met (met + 0) (omega arith))
  value_follows (Walk.again {room} {met} {k} lt) nodes shown order shows at =
      let m = meet_is nodes room in
      m.1 _ _ ∙ (again_follows nodes order m.0 met k lt (omega (arith, at_length shown [] met at, shows.size)) ∙ some_met nodes order met (met + 0) (omega arith))
  value_follows (Walk.symbol {room} {met} {name}) nodes shown order shows at =
      let m = meet_is nodes room in
      m.1 _ _ ∙ (node_follows nodes shown order m.0 met (Symbol name) shows (at_here shown (Symbol name) [] met at) ∙ ((leaf_follows m.0 _ name).0 ∙ some_met nodes order (suc met) (met + 1) (omega arith)))
  value_follows (Walk.string {room} {met} {units}) nodes shown order shows at =
      let m = meet_is nodes room in
      m.1 _ _ ∙ (node_follows nodes shown order m.0 met (Str units) shows (at_here shown (Str units) [] met at) ∙ ((leaf_follows m.0 _ units).1 ∙ some_met nodes order (suc met) (met + 1) (omega arith)))
  value_follows (Walk.binary {room} {met} {class} {bytes} {new} label) nodes shown order shows at =
      let m = meet_is nodes room in
      let inside = label_follows label nodes shown order shows (at_inside shown (Binary class bytes) new met at) in
      m.1 _ _ ∙ (node_follows nodes shown order m.0 met (Binary class bytes) shows (at_here shown (Binary class bytes) new met at)
      ∙ ((binary_follows m.0 _ (back order class) bytes).0 ∙ (ap (λ (s : Seen). Some s) inside ∙ some_met nodes order (suc met + length new) (met + suc (length new)) (omega arith))))
  value_follows (Walk.large {room} {met} {class} {bytes} {new} label) nodes shown order shows at =
      let m = meet_is nodes room in
      let inside = label_follows label nodes shown order shows (at_inside shown (Large class bytes) new met at) in
      m.1 _ _ ∙ (node_follows nodes shown order m.0 met (Large class bytes) shows (at_here shown (Large class bytes) new met at)
      ∙ ((binary_follows m.0 _ (back order class) bytes).1 ∙ (ap (λ (s : Seen). Some s) inside ∙ some_met nodes order (suc met + length new) (met + suc (length new)) (omega arith))))
  value_follows (Walk.frame {room} {met} {tags} {values} {tagged} {valued} labels ws) nodes shown order shows at =
      let node = Frame tags values in
      let within = at_inside shown node (tagged ++ valued) met at in
      let first = labels_follow labels nodes shown order shows (at_first shown tagged valued (suc met) within) in
      let others = values_follow ws nodes shown order shows (at_rest shown tagged valued (suc met) within) in
      let step : Step = λ seen value. meet nodes room seen value in
      room_follows nodes room _ _ ∙ (node_follows nodes shown order (Some step) met node shows (at_here shown node (tagged ++ valued) met at)
      ∙ (frame_follows step _ (map (back order) tags) (map (renamed_ref (back order)) values)
      ∙ (ap (λ (s : Seen). meet_each step s (map (renamed_ref (back order)) values)) first
      ∙ (others ∙ some_met nodes order (suc met + length tagged + length valued) (met + suc (length (tagged ++ valued))) (omega (arith, length-append tagged valued))))))
  value_follows (Walk.plain_array {room} {met} {values} {valued} ws) nodes shown order shows at =
      let node = Array None values in
      let others = values_follow ws nodes shown order shows (at_inside shown node valued met at) in
      let step : Step = λ seen value. meet nodes room seen value in
      room_follows nodes room _ _ ∙ (node_follows nodes shown order (Some step) met node shows (at_here shown node valued met at)
      ∙ (array_follows step _ None (map (renamed_ref (back order)) values)
      ∙ (others ∙ some_met nodes order (suc met + length valued) (met + suc (length valued)) (omega arith))))
  value_follows (Walk.array {room} {met} {class} {values} {first} {valued} label ws) nodes shown order shows at =
      let node = Array (Some class) values in
      let within = at_inside shown node (first ++ valued) met at in
      let front = label_follows label nodes shown order shows (at_first shown first valued (suc met) within) in
      let others = values_follow ws nodes shown order shows (at_rest shown first valued (suc met) within) in
      let step : Step = λ seen value. meet nodes room seen value in
      room_follows nodes room _ _ ∙ (node_follows nodes shown order (Some step) met node shows (at_here shown node (first ++ valued) met at)
      ∙ (array_follows step _ (Some (back order class)) (map (renamed_ref (back order)) values)
      ∙ (ap (λ (s : Seen). meet_each step s (map (renamed_ref (back order)) values)) front
      ∙ (others ∙ some_met nodes order (suc met + length first + length valued) (met + suc (length (first ++ valued))) (omega (arith, length-append first valued))))))

  values_follow : {room met : ℕ} {values : List Ref} {new : List Node} → Walks room met values new → (nodes shown : List Node) (order : List ℕ) → Shows nodes shown order → At shown new met
      → meet_each (λ seen value. meet nodes room seen value) (met_at nodes order met) (map (renamed_ref (back order)) values) ≡ Some (met_at nodes order (met + length new))
  values_follow (Walks.none {room} {met}) nodes shown order shows at = each_none _ _ ∙ some_met nodes order met (met + 0) (omega arith)
  values_follow (Walks.more {room} {met} {value} {values} {first} {others} w ws) nodes shown order shows at =
      let one = value_follows w nodes shown order shows (at_first shown first others met at) in
      let rest = values_follow ws nodes shown order shows (at_rest shown first others met at) in
      each_more (λ seen value. meet nodes room seen value) _ _ _ _ one
      ∙ (rest ∙ some_met nodes order (met + length first + length others) (met + length (first ++ others)) (omega (arith, length-append first others)))

-- ---- and forth

number_forth : (order : List ℕ) → Distinct order → (k : ℕ) → k < length order → number order (back order k) ≡ k
number_forth order distinct k lt = number_is order (back order k) k (once_from order distinct k (back order k) (any_at order k 0 lt))

ref_forth : (order : List ℕ) → Distinct order → (value : Ref) → IsValue (length order) value → renamed_ref (number order) (renamed_ref (back order) value) ≡ value
ref_forth order distinct (refs.Imm w) h = refl
ref_forth order distinct (refs.Node k) h = ap (λ (n : ℕ). refs.Node n) (number_forth order distinct k h)

refs_forth : (order : List ℕ) → Distinct order → (values : List Ref) → All (IsValue (length order)) values → map (renamed_ref (number order)) (map (renamed_ref (back order)) values) ≡ values
refs_forth order distinct [] h = refl
refs_forth order distinct (v ∷ vs) h = rw (ref_forth order distinct v (All-head (IsValue (length order)) v vs h), refs_forth order distinct vs (All-tail (IsValue (length order)) v vs h)) refl

tags_forth : (order : List ℕ) → Distinct order → (ks : List ℕ) → All (λ k. k < length order) ks → map (number order) (map (back order) ks) ≡ ks
tags_forth order distinct [] h = refl
tags_forth order distinct (k ∷ ks) h = rw (number_forth order distinct k (All-head (λ k. k < length order) k ks h), tags_forth order distinct ks (All-tail (λ k. k < length order) k ks h)) refl

node_forth : (order : List ℕ) → Distinct order → (node : Node) → Within (length order) node → renamed (number order) (renamed (back order) node) ≡ node
node_forth order distinct (Symbol name) h = refl
node_forth order distinct (Str units) h = refl
node_forth order distinct (Binary class bytes) h = ap (λ (n : ℕ). Binary n bytes) (number_forth order distinct class (All-head (λ k. k < length order) class [] h.labels))
node_forth order distinct (Large class bytes) h = ap (λ (n : ℕ). Large n bytes) (number_forth order distinct class (All-head (λ k. k < length order) class [] h.labels))
node_forth order distinct (Array None values) h = ap (λ (vs : List Ref). Array None vs) (refs_forth order distinct values h.values)
node_forth order distinct (Array (Some class) values) h = rw (number_forth order distinct class (All-head (λ k. k < length order) class [] h.labels), refs_forth order distinct values h.values) refl
node_forth order distinct (Frame tags values) h = rw (tags_forth order distinct tags h.labels, refs_forth order distinct values h.values) refl

nodes_forth : (nodes : List Node) (order : List ℕ) → Distinct order → (hs : List Node) (ks : List ℕ) → All (Within (length order)) hs
    → map (λ node. Some (renamed (back order) node)) hs ≡ map (slice_get nodes) ks → map (λ k. renamed (number order) (node_at nodes k)) ks ≡ hs
nodes_forth nodes order distinct [] [] below e = refl
nodes_forth nodes order distinct [] (k ∷ ks) below e = absurd cc
nodes_forth nodes order distinct (h ∷ hs) [] below e = absurd cc
nodes_forth nodes order distinct (h ∷ hs) (k ∷ ks) below e =
    let head : slice_get nodes k ≡ Some (renamed (back order) h) = cc in
    let tail : map (λ node. Some (renamed (back order) node)) hs ≡ map (slice_get nodes) ks = cc in
    let is : node_at nodes k ≡ renamed (back order) h = get_or_from_slice_get nodes k (renamed (back order) h) (Str []) head in
    rw (is, node_forth order distinct h (All-head (Within (length order)) h hs below), nodes_forth nodes order distinct hs ks (All-tail (Within (length order)) h hs below) tail) refl

-- ---- the normal form is found

shows_of : (g h : RawGraph) (order : List ℕ) → IsSeenBy order g h → Shows g.nodes h.nodes order
shows_of g h order seen = record {
  size = sym (length-map order (slice_get g.nodes)) ∙ (sym (ap length seen.nodes) ∙ length-map h.nodes (λ node. Some (renamed (back order) node)));
  at = λ i n e.
      let there : slice_get (map (slice_get g.nodes) order) i ≡ Some (Some (renamed (back order) n)) =
      subst (λ (xs : List (Option Node)). slice_get xs i ≡ Some (Some (renamed (back order) n))) seen.nodes (at_map (λ node. Some (renamed (back order) node)) h.nodes i n e) in
      let m = map_at (slice_get g.nodes) order i (Some (renamed (back order) n)) there in
      subst (λ (k : ℕ). slice_get g.nodes k ≡ Some (renamed (back order) n)) (sym (get_or_from_slice_get order i m.0 0 m.1)) m.2;
  distinct = seen.once;
}

all_at_start : (nodes : List Node) → At nodes nodes 0
all_at_start nodes = record { before = []; later = []; whole = sym (append-nil nodes); met_is = refl }

limited_is : (h : RawGraph) → length h.nodes ≤ 65535 → sum_by payload h.nodes ≤ 16777216 → limited h ≡ Some h
limited_is h few light = rw (le-leb (length h.nodes) 65535 few, le-leb (sum_by payload h.nodes) 16777216 light) refl

-- what a walk over the raw nodes meets in this order is their normal form, but for the limits
pub met_form : (g h : RawGraph) (order : List ℕ) → IsSeenBy order g h → Walk 200 0 h.root h.nodes → normal_form g ≡ limited h
unfolding normal_form
met_form g h order seen walk =
    let shows = shows_of g h order seen in
    let distinct = seen.once in
    let met = value_follows walk g.nodes h.nodes order shows (all_at_start h.nodes) in
    let whole : take (0 + length h.nodes) order ≡ order = take_all (0 + length h.nodes) order (omega (arith, shows.size)) in
    let found : meet g.nodes 200 (start g) g.root ≡ Some (record { order = order; count = length g.nodes }) =
    subst (λ (o : List ℕ). meet g.nodes 200 (start g) g.root ≡ Some (record { order = o; count = length g.nodes })) whole
    (subst (λ (r : Ref). meet g.nodes 200 (start g) r ≡ Some (met_at g.nodes order (0 + length h.nodes))) seen.root met) in
    let below = value_in walk (length order) (omega (arith, shows.size)) in
    let nodes : moved g.nodes order order ≡ h.nodes = nodes_forth g.nodes order distinct h.nodes order below.nodes seen.nodes in
    let root : renamed_ref (number order) g.root ≡ h.root =
    ap (renamed_ref (number order)) (sym seen.root) ∙ ref_forth order distinct h.root (All-head (IsValue (length order)) h.root [] below.each) in
    let same : numbered g (record { order = order; count = length g.nodes }) ≡ h = rw (nodes, root) refl in
    rw found (ap limited same)

pub form_is_found : (g h : RawGraph) → IsNormalForm g h → normal_form g ≡ Some h
form_is_found g h form = met_form g h form.order form.seen form.graph.walk ∙ limited_is h form.graph.few form.graph.light

pub one_form : (g h k : RawGraph) → IsNormalForm g h → IsNormalForm g k → h ≡ k
one_form g h k a b = some_is (sym (form_is_found g h a) ∙ form_is_found g k b)

pub refused : (g : RawGraph) (r : Result RawGraph GraphFault) → Gives (λ x. x) r (normal_form g) → IsErrOf r Limit → (h : RawGraph) → IsNormalForm g h → ⊥
refused g (Ok x) gives is h form = absurd cc
refused g (Err Limit) gives is h form = clash (sym gives ∙ form_is_found g h form)
  where
    clash : None ≡ Some h → ⊥
    clash e = absurd cc
refused g (Err Memory) gives is h form = absurd cc

-- ---- a graph is its own normal form

abbrev counted : ℕ → List ℕ
counted n = range_with_len 0 n

back_same : (n k : ℕ) → k < n → back (counted n) k ≡ k
back_same n k lt = get_or-range_with_len 0 n k 0 lt ∙ omega arith

ref_same : (n : ℕ) (value : Ref) → IsValue n value → renamed_ref (back (counted n)) value ≡ value
ref_same n (refs.Imm w) h = refl
ref_same n (refs.Node k) h = ap (λ (m : ℕ). refs.Node m) (back_same n k h)

refs_same : (n : ℕ) (values : List Ref) → All (IsValue n) values → map (renamed_ref (back (counted n))) values ≡ values
refs_same n [] h = refl
refs_same n (v ∷ vs) h = rw (ref_same n v (All-head (IsValue n) v vs h), refs_same n vs (All-tail (IsValue n) v vs h)) refl

tags_same : (n : ℕ) (ks : List ℕ) → All (λ k. k < n) ks → map (back (counted n)) ks ≡ ks
tags_same n [] h = refl
tags_same n (k ∷ ks) h = rw (back_same n k (All-head (λ k. k < n) k ks h), tags_same n ks (All-tail (λ k. k < n) k ks h)) refl

node_same : (n : ℕ) (node : Node) → Within n node → renamed (back (counted n)) node ≡ node
node_same n (Symbol name) h = refl
node_same n (Str units) h = refl
node_same n (Binary class bytes) h = ap (λ (m : ℕ). Binary m bytes) (back_same n class (All-head (λ k. k < n) class [] h.labels))
node_same n (Large class bytes) h = ap (λ (m : ℕ). Large m bytes) (back_same n class (All-head (λ k. k < n) class [] h.labels))
node_same n (Array None values) h = ap (λ (vs : List Ref). Array None vs) (refs_same n values h.values)
node_same n (Array (Some class) values) h = rw (back_same n class (All-head (λ k. k < n) class [] h.labels), refs_same n values h.values) refl
node_same n (Frame tags values) h = rw (tags_same n tags h.labels, refs_same n values h.values) refl

nodes_same : (n : ℕ) (nodes pre post : List Node) → nodes ≡ pre ++ post → All (Within n) post → map (λ node. Some (renamed (back (counted n)) node)) post ≡ map (slice_get nodes) (range_with_len (length pre) (length post))
nodes_same n nodes pre [] e below = refl
nodes_same n nodes pre (node ∷ post) e below =
    let here : slice_get nodes (length pre) ≡ Some node = ap (λ (x : List Node). slice_get x (length pre)) e ∙ get_seam pre node post in
    let tail = nodes_same n nodes (pre ++ node ∷ []) post (e ∙ sym (append_assoc pre (node ∷ []) post)) (All-tail (Within n) node post below) in
    let rest : map (λ node. Some (renamed (back (counted n)) node)) post ≡ map (slice_get nodes) (range_with_len (length pre + 1) (length post)) =
    tail ∙ ap (λ (m : ℕ). map (slice_get nodes) (range_with_len m (length post))) (length_push pre node) in
    rw (node_same n node (All-head (Within n) node post below), here, rest) refl

counted_distinct : (n : ℕ) → Distinct (counted n)
counted_distinct n i j d lt within e =
    let most : j < n = omega (arith, within, length-range_with_len 0 n) in
    let a = get_or-range_with_len 0 n i d (omega (arith, lt, most)) in
    let b = get_or-range_with_len 0 n j d most in
    let same : 0 + i ≡ 0 + j = sym a ∙ (e ∙ b) in
    omega (arith, same, lt)

own_seen : (h : RawGraph) → Walk 200 0 h.root h.nodes → IsSeenBy (counted (length h.nodes)) h h
own_seen h walk =
    let n = length h.nodes in
    let below = value_in walk n (omega arith) in
    record {
      root = ref_same n h.root (All-head (IsValue n) h.root [] below.each);
      nodes = nodes_same n h.nodes [] h.nodes refl below.nodes;
      once = counted_distinct n;
    }

pub own_form : (h : RawGraph) → IsGraph h → IsNormalForm h h
own_form h graph = record { order = counted (length h.nodes); seen = own_seen h graph.walk; graph = graph }

-- a graph whose nodes stand in the order of its walk is its own normal form, but for the limits
pub walked_form : (h : RawGraph) → Walk 200 0 h.root h.nodes → normal_form h ≡ limited h
walked_form h walk = met_form h h (counted (length h.nodes)) (own_seen h walk) walk
