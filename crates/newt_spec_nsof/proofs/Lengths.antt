-- The length of a flat text: each node in full once, and all other references to it short.
use Rattle.std.proofs.Common.{◌≡◌, ℕ, suc, ◌+◌, ◌*◌, ◌-◌, Bool, true, false, cond, ltb, List, [], ◌∷◌, ◌++◌, length, Some, None, refl, sym, ap, subst, arith, add-one}
use Rattle.std.specs.Prelude.{map}
use Rattle.std.specs.List.{sum_by}
use Rattle.std.specs.Int.{w32, to_be_bytes}
use Rattle.std.proofs.lemmas.List.{append-nil, length-append, length-map, map-append}
use Rattle.std.proofs.lemmas.List.Sums.{sum_by-cons, sum_by-append}
use Rattle.newt_graph.specs.declared.node.Node.{Node}
use Rattle.newt_graph.specs.declared.node.Node.TheVariants.{Symbol, Str, Binary, Large, Array, Frame}
use Rattle.newt_graph.specs.declared.node.Ref.{Ref}
use Rattle.newt_graph.specs.declared.node.Ref.TheVariants as refs
use Rattle.newt_graph.specs.Graph.{RawGraph, IsGraph, WalkLabel, WalkLabels, Walk, Walks}
use Rattle.newt_spec_nsof.specs.Text.{units_text, number_text, large_text}
use Rattle.newt_graph.specs.Slice.{At}
use Rattle.newt_spec_nsof.specs.Flat.{xlong_text, count_text, again_text, each_text, label_text, frame_text, plain_array_text, array_text, binary_text, plain_large_text, value_text, flat}
use Rattle.newt_spec_nsof.specs.Lengths.{bare, skeleton, large_len, count_len, again_len, ref_len, node_len, agains_len}
use Rattle.newt_graph.proofs.Slices.{at_first, at_rest, at_inside, at_here}
use Rattle.newt_spec_nsof.proofs.Places.{label_met, labels_met, value_met, label_again, label_new, word_as, again_in_short, symbol_in_full, frame_in_full, plain_array_in_full, array_in_full, string_in_full, binary_in_full, large_in_full}

length_count : (n : ℕ) → length (count_text n) ≡ count_len n
unfolding count_text xlong_text
length_count n = go (ltb n 255)
  where
    go : (b : Bool) → length (cond b (n ∷ []) (255 ∷ to_be_bytes w32 n)) ≡ cond b 1 5
    go true = refl
    go false = refl

length_again : (k : ℕ) → length (again_text k) ≡ again_len k
length_again k = omega (arith, length_count k)

length_units : (units : List ℕ) → length (units_text units) ≡ 2 * length units
length_units [] = omega arith
length_units (u ∷ us) = omega (arith, length_units us)

length_number : (n : ℕ) → length (number_text n) ≡ 4
unfolding number_text
length_number n = refl

one_more : (k : ℕ) → agains_len (suc k) ≡ agains_len k + again_len k
unfolding agains_len
one_more k = refl

no_agains : agains_len 0 ≡ 0
unfolding agains_len
no_agains = refl

same_agains : (m n : ℕ) → m ≡ n → agains_len m ≡ agains_len n
same_agains m n e = ap agains_len e

label_len : {met k : ℕ} {new : List Node} → WalkLabel met k new → (nodes : List Node) → At nodes new met
    → length (label_text nodes k met).0 + agains_len (met + length new) ≡ again_len k + sum_by node_len new + agains_len met
label_len (WalkLabel.again {met} {k} lt) nodes at = rw (label_again nodes k met lt) (omega (arith, length_again k, same_agains (met + 0) met (omega arith)))
label_len (WalkLabel.symbol {met} {name}) nodes at =
    rw (label_new nodes met name at)
    (omega (arith, length-append (count_text (length name)) name, length_count (length name), same_agains (met + 1) (suc met) (omega arith), one_more met, sum_by-cons node_len (Symbol name) []))

-- two parts, one after the other
seam : {A : Type 0} (cost : A → ℕ) (x : A) (xs : List A) (first others : List Node) (met n m : ℕ)
    → n + agains_len (met + length first) ≡ cost x + sum_by node_len first + agains_len met
    → m + agains_len (met + length first + length others) ≡ sum_by cost xs + sum_by node_len others + agains_len (met + length first)
    → n + m + agains_len (met + length (first ++ others)) ≡ sum_by cost (x ∷ xs) + sum_by node_len (first ++ others) + agains_len met
seam cost x xs first others met n m a b =
    omega (arith, a, b, sum_by-cons cost x xs, sum_by-append node_len first others, same_agains (met + length (first ++ others)) (met + length first + length others) (omega (arith, length-append first others)))

labels_len : {met : ℕ} {ks : List ℕ} {new : List Node} → WalkLabels met ks new → (nodes : List Node) → At nodes new met
    → length (each_text (label_text nodes) ks met).0 + agains_len (met + length new) ≡ sum_by again_len ks + sum_by node_len new + agains_len met
unfolding each_text
labels_len (WalkLabels.none {met}) nodes at = omega (arith, same_agains (met + 0) met (omega arith))
labels_len (WalkLabels.more {met} {k} {ks} {first} {others} w ws) nodes at =
    let one = label_len w nodes (at_first nodes first others met at) in
    let rest = labels_len ws nodes (at_rest nodes first others met at) in
    let first_text = (label_text nodes k met).0 in
    let others_text = (each_text (label_text nodes) ks (met + length first)).0 in
    rw (label_met w nodes (at_first nodes first others met at), length-append first_text others_text) (seam again_len k ks first others met (length first_text) (length others_text) one rest)

length_large : (bytes : List ℕ) → length (large_text 0 0 [] [] bytes) ≡ 17 + length bytes
length_large bytes =
    let n = number_text (length bytes) in
    let z = number_text 0 in
    omega (arith, length-append n (z ++ (z ++ (z ++ bytes))), length-append z (z ++ (z ++ bytes)), length-append z (z ++ bytes), length-append z bytes, length_number (length bytes), length_number 0)

frame_len : (nodes : List Node) (tags : List ℕ) (values : List Ref) (tagged valued : List Node) (met : ℕ) (tag_text value_text : List ℕ)
    → length tag_text + agains_len (suc met + length tagged) ≡ sum_by again_len tags + sum_by node_len tagged + agains_len (suc met)
    → length value_text + agains_len (suc met + length tagged + length valued) ≡ sum_by ref_len values + sum_by node_len valued + agains_len (suc met + length tagged)
    → length (6 ∷ (count_text (length tags) ++ (tag_text ++ value_text))) + agains_len (met + length (Frame tags values ∷ (tagged ++ valued))) ≡ again_len met + sum_by node_len (Frame tags values ∷ (tagged ++ valued)) + agains_len met
frame_len nodes tags values tagged valued met tag_text value_text labelled read =
    omega (
      arith,
      labelled,
      read,
      length-append (count_text (length tags)) (tag_text ++ value_text),
      length-append tag_text value_text,
      length_count (length tags),
      one_more met,
      same_agains (met + suc (length (tagged ++ valued))) (suc met + length tagged + length valued) (omega (arith, length-append tagged valued)),
      sum_by-append node_len tagged valued,
      sum_by-cons node_len (Frame tags values) (tagged ++ valued),
    )

plain_array_len : (values : List Ref) (valued : List Node) (met : ℕ) (value_text : List ℕ)
    → length value_text + agains_len (suc met + length valued) ≡ sum_by ref_len values + sum_by node_len valued + agains_len (suc met)
    → length (5 ∷ (count_text (length values) ++ value_text)) + agains_len (met + length (Array None values ∷ valued)) ≡ again_len met + sum_by node_len (Array None values ∷ valued) + agains_len met
plain_array_len values valued met value_text read =
    omega (arith, read, length-append (count_text (length values)) value_text, length_count (length values), one_more met, same_agains (met + suc (length valued)) (suc met + length valued) (omega arith), sum_by-cons node_len (Array None values) valued)

array_len : (class : ℕ) (values : List Ref) (first valued : List Node) (met : ℕ) (class_text value_text : List ℕ)
    → length class_text + agains_len (suc met + length first) ≡ again_len class + sum_by node_len first + agains_len (suc met)
    → length value_text + agains_len (suc met + length first + length valued) ≡ sum_by ref_len values + sum_by node_len valued + agains_len (suc met + length first)
    → length (4 ∷ (count_text (length values) ++ (class_text ++ value_text))) + agains_len (met + length (Array (Some class) values ∷ (first ++ valued))) ≡ again_len met + sum_by node_len (Array (Some class) values ∷ (first ++ valued)) + agains_len met
array_len class values first valued met class_text value_text labelled read =
    omega (
      arith,
      labelled,
      read,
      length-append (count_text (length values)) (class_text ++ value_text),
      length-append class_text value_text,
      length_count (length values),
      one_more met,
      same_agains (met + suc (length (first ++ valued))) (suc met + length first + length valued) (omega (arith, length-append first valued)),
      sum_by-append node_len first valued,
      sum_by-cons node_len (Array (Some class) values) (first ++ valued),
    )

mutual
  unfolding each_text frame_text plain_array_text array_text binary_text plain_large_text

  value_len : {room met : ℕ} {value : Ref} {new : List Node} → Walk room met value new → (nodes : List Node) → At nodes new met
      → length (value_text room nodes value met).0 + agains_len (met + length new) ≡ ref_len value + sum_by node_len new + agains_len met
  value_len (Walk.word {room} {met} {w} is) nodes at = rw (word_as room nodes w met) (omega (arith, same_agains (met + 0) met (omega arith)))
  value_len (Walk.again {room} {met} {k} lt) nodes at = rw (again_in_short room met k nodes lt) (omega (arith, length_again k, same_agains (met + 0) met (omega arith)))
  value_len (Walk.symbol {room} {met} {name}) nodes at =
      rw (symbol_in_full room met met nodes name (omega arith) (at_here nodes (Symbol name) [] met at))
      (omega (arith, length-append (count_text (length name)) name, length_count (length name), same_agains (met + 1) (suc met) (omega arith), one_more met, sum_by-cons node_len (Symbol name) []))
  value_len (Walk.string {room} {met} {units}) nodes at =
      rw (string_in_full room met met nodes units (omega arith) (at_here nodes (Str units) [] met at))
      (omega (arith, length-append (count_text (2 * length units + 2)) (units_text units ++ 0 ∷ 0 ∷ []), length-append (units_text units) (0 ∷ 0 ∷ []), length_units units, length_count (2 * length units + 2), same_agains (met + 1) (suc met) (omega arith), one_more met, sum_by-cons node_len (Str units) []))
  value_len (Walk.binary {room} {met} {class} {bytes} {new} label) nodes at =
      let labelled = label_len label nodes (at_inside nodes (Binary class bytes) new met at) in
      let class_text = (label_text nodes class (suc met)).0 in
      rw (binary_in_full room met met nodes class bytes (omega arith) (at_here nodes (Binary class bytes) new met at), add-one)
      (omega (arith, labelled, length-append (count_text (length bytes)) (class_text ++ bytes), length-append class_text bytes, length_count (length bytes), same_agains (met + suc (length new)) (suc met + length new) (omega arith), one_more met, sum_by-cons node_len (Binary class bytes) new))
  value_len (Walk.large {room} {met} {class} {bytes} {new} label) nodes at =
      let labelled = label_len label nodes (at_inside nodes (Large class bytes) new met at) in
      let class_text = (label_text nodes class (suc met)).0 in
      rw (large_in_full room met met nodes class bytes (omega arith) (at_here nodes (Large class bytes) new met at), add-one)
      (omega (arith, labelled, length-append class_text (large_text 0 0 [] [] bytes), length_large bytes, same_agains (met + suc (length new)) (suc met + length new) (omega arith), one_more met, sum_by-cons node_len (Large class bytes) new))
  value_len (Walk.frame {room} {met} {tags} {values} {tagged} {valued} labels ws) nodes at =
      let inside = at_inside nodes (Frame tags values) (tagged ++ valued) met at in
      let less : suc room - 1 ≡ room = omega arith in
      let labelled = labels_len labels nodes (at_first nodes tagged valued (suc met) inside) in
      let read = values_len ws nodes (at_rest nodes tagged valued (suc met) inside) in
      rw (frame_in_full (suc room) met met nodes tags values (omega arith) (omega arith) (at_here nodes (Frame tags values) (tagged ++ valued) met at), less, add-one, labels_met labels nodes (at_first nodes tagged valued (suc met) inside))
      (frame_len nodes tags values tagged valued met _ _ labelled read)
  value_len (Walk.plain_array {room} {met} {values} {valued} ws) nodes at =
      let less : suc room - 1 ≡ room = omega arith in
      let read = values_len ws nodes (at_inside nodes (Array None values) valued met at) in
      rw (plain_array_in_full (suc room) met met nodes values (omega arith) (omega arith) (at_here nodes (Array None values) valued met at), less, add-one)
      (plain_array_len values valued met _ read)
  value_len (Walk.array {room} {met} {class} {values} {first} {valued} label ws) nodes at =
      let inside = at_inside nodes (Array (Some class) values) (first ++ valued) met at in
      let less : suc room - 1 ≡ room = omega arith in
      let labelled = label_len label nodes (at_first nodes first valued (suc met) inside) in
      let read = values_len ws nodes (at_rest nodes first valued (suc met) inside) in
      rw (array_in_full (suc room) met met nodes class values (omega arith) (omega arith) (at_here nodes (Array (Some class) values) (first ++ valued) met at), less, add-one, label_met label nodes (at_first nodes first valued (suc met) inside))
      (array_len class values first valued met _ _ labelled read)

  values_len : {room met : ℕ} {values : List Ref} {new : List Node} → Walks room met values new → (nodes : List Node) → At nodes new met
      → length (each_text (λ value met. value_text room nodes value met) values met).0 + agains_len (met + length new) ≡ sum_by ref_len values + sum_by node_len new + agains_len met
  values_len (Walks.none {room} {met}) nodes at = omega (arith, same_agains (met + 0) met (omega arith))
  values_len (Walks.more {room} {met} {value} {values} {first} {others} w ws) nodes at =
      let one = value_len w nodes (at_first nodes first others met at) in
      let rest = values_len ws nodes (at_rest nodes first others met at) in
      let first_text = (value_text room nodes value met).0 in
      let others_text = (each_text (λ value met. value_text room nodes value met) values (met + length first)).0 in
      rw (value_met w nodes (at_first nodes first others met at), length-append first_text others_text) (seam ref_len value values first others met (length first_text) (length others_text) one rest)

-- ---- skeletons

bare_label : {met k : ℕ} {new : List Node} → WalkLabel met k new → WalkLabel met k (map bare new)
bare_label (WalkLabel.again lt) = WalkLabel.again lt
bare_label WalkLabel.symbol = WalkLabel.symbol

bare_labels : {met : ℕ} {ks : List ℕ} {new : List Node} → WalkLabels met ks new → WalkLabels met ks (map bare new)
bare_labels WalkLabels.none = WalkLabels.none
bare_labels (WalkLabels.more {met} {k} {ks} {first} {others} w ws) =
    subst (WalkLabels met (k ∷ ks)) (sym (map-append bare first others))
    (WalkLabels.more (bare_label w) (subst (λ (n : ℕ). WalkLabels (met + n) ks (map bare others)) (sym (length-map first bare)) (bare_labels ws)))

mutual
  bare_walk : {room met : ℕ} {value : Ref} {new : List Node} → Walk room met value new → Walk room met value (map bare new)
  bare_walk (Walk.word is) = Walk.word is
  bare_walk (Walk.again lt) = Walk.again lt
  bare_walk Walk.symbol = Walk.symbol
  bare_walk Walk.string = Walk.string
  bare_walk (Walk.binary label) = Walk.binary (bare_label label)
  bare_walk (Walk.large label) = Walk.large (bare_label label)
  bare_walk (Walk.frame {room} {met} {tags} {values} {tagged} {valued} labels ws) =
      subst (λ (new : List Node). Walk (suc room) met (refs.Node met) (Frame tags values ∷ new)) (sym (map-append bare tagged valued))
      (Walk.frame (bare_labels labels) (subst (λ (n : ℕ). Walks room (suc met + n) values (map bare valued)) (sym (length-map tagged bare)) (bare_walks ws)))
  bare_walk (Walk.plain_array ws) = Walk.plain_array (bare_walks ws)
  bare_walk (Walk.array {room} {met} {class} {values} {first} {valued} label ws) =
      subst (λ (new : List Node). Walk (suc room) met (refs.Node met) (Array (Some class) values ∷ new)) (sym (map-append bare first valued))
      (Walk.array (bare_label label) (subst (λ (n : ℕ). Walks room (suc met + n) values (map bare valued)) (sym (length-map first bare)) (bare_walks ws)))

  bare_walks : {room met : ℕ} {values : List Ref} {new : List Node} → Walks room met values new → Walks room met values (map bare new)
  bare_walks Walks.none = Walks.none
  bare_walks (Walks.more {room} {met} {value} {values} {first} {others} w ws) =
      subst (Walks room met (value ∷ values)) (sym (map-append bare first others))
      (Walks.more (bare_walk w) (subst (λ (n : ℕ). Walks room (met + n) values (map bare others)) (sym (length-map first bare)) (bare_walks ws)))

bare_len : (node : Node) → node_len (bare node) + large_len node ≡ node_len node
bare_len (Symbol name) = omega arith
bare_len (Str units) = omega arith
bare_len (Binary class bytes) = omega arith
bare_len (Large class bytes) = omega arith
bare_len (Array class values) = omega arith
bare_len (Frame tags values) = omega arith

bares_len : (nodes : List Node) → sum_by node_len (map bare nodes) + sum_by large_len nodes ≡ sum_by node_len nodes
bares_len [] = omega arith
bares_len (node ∷ nodes) = omega (arith, bare_len node, bares_len nodes, sum_by-cons node_len (bare node) (map bare nodes), sum_by-cons large_len node nodes, sum_by-cons node_len node nodes)

-- ---- graphs

whole_len : (nodes : List Node) (root : Ref) → Walk 200 0 root nodes → length (flat (record { nodes = nodes; root = root })) + agains_len (length nodes) ≡ 1 + ref_len root + sum_by node_len nodes
unfolding flat
whole_len nodes root walk =
    let at : At nodes nodes 0 = record { before = []; later = []; whole = sym (append-nil nodes); met_is = refl } in
    omega (arith, value_len walk nodes at, same_agains (0 + length nodes) (length nodes) (omega arith), no_agains)

pub text_len : (g : RawGraph) → IsGraph g → length (flat g) + agains_len (length g.nodes) ≡ 1 + ref_len g.root + sum_by node_len g.nodes
text_len g is = whole_len g.nodes g.root is.walk

pub skeleton_text_len : (g : RawGraph) → IsGraph g → length (flat (skeleton g)) + sum_by large_len g.nodes ≡ length (flat g)
skeleton_text_len g is =
    omega (arith, text_len g is, whole_len (map bare g.nodes) g.root (bare_walk is.walk), bares_len g.nodes, same_agains (length (map bare g.nodes)) (length g.nodes) (length-map g.nodes bare))
