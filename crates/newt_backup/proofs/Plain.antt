-- The written text of a graph that has no frame of four slots is its flat text.
use Rattle.std.proofs.Common.{◌≡◌, refl, sym, ◌∙◌, ap, ℕ, zero, suc, ◌+◌, ◌-◌, ◌<◌, true, false, Bool, cond, inl, inr, List, [], ◌∷◌, ◌++◌, length, Some, None, All, arith, add-one}
use Rattle.std.specs.Prelude.{slice_get, nat_eq}
use Rattle.std.specs.List.{position_from}
use Rattle.std.proofs.lemmas.Bool.{cases_lt, eq-eqb}
use Rattle.std.proofs.lemmas.Iterator.Adapters.{position_from-zero}
use Rattle.std.proofs.lemmas.List.{append-nil, length-append}
use Rattle.newt_graph.specs.declared.node.Node.{Node}
use Rattle.newt_graph.specs.declared.node.Node.TheVariants.{Symbol, Str, Binary, Large, Array, Frame}
use Rattle.newt_graph.specs.declared.node.Ref.{Ref}
use Rattle.newt_graph.specs.declared.node.Ref.TheVariants as refs
use Rattle.newt_graph.specs.Graph.{RawGraph, IsGraph, WalkLabel, WalkLabels, Walk, Walks}
use Rattle.newt_graph.specs.Slice.{At}
use Rattle.newt_graph.proofs.Elements.{all_at}
use Rattle.newt_graph.proofs.Slices.{at_first, at_rest, at_inside, at_here}
use Rattle.newt_spec_nsof.specs.Flat.{Text as FlatText, each_text, flat, label_text as flat_label, frame_text as flat_frame, binary_text as flat_binary, plain_large_text as flat_large, plain_array_text as flat_plain_array, array_text as flat_array, value_text as flat_value}
use Rattle.newt_spec_nsof.specs.Written.{Text, number_of, label_text, frame_text, any_frame_text, binary_text, plain_large_text, plain_array_text, array_text, new_node, value_text, nsof}
use Rattle.newt_spec_nsof.proofs.Numbered.{AreNumbered, none_numbered, number_next, has_none_yet}
use Rattle.newt_spec_nsof.proofs.Places.{label_met, labels_met, value_met, label_again, label_new, word_as, again_in_short, symbol_in_full, frame_in_full, plain_array_in_full, array_in_full, string_in_full, binary_in_full, large_in_full}
use Rattle.newt_nsof_write.proofs.Four.{not_four}

-- ---- numbers that are those of the nodes

-- the numbers below
abbrev upto : ℕ → List ℕ
upto zero = []
upto (suc n) = upto n ++ n ∷ []

-- a flat text as a written one
abbrev numbered : FlatText → Text
numbered t = (t.0, upto t.1)

are-numbered : (met : ℕ) → AreNumbered [] met (upto met)
are-numbered zero = none_numbered []
are-numbered (suc n) = number_next [] n (upto n) (are-numbered n)

number-new : (met : ℕ) → number_of met (upto met) ≡ None
number-new met = has_none_yet [] met (upto met) (are-numbered met)

upto-length : (n : ℕ) → length (upto n) ≡ n
upto-length zero = refl
upto-length (suc n) = omega (arith, length-append (upto n) (n ∷ []), upto-length n)

in-front : (test : ℕ → Bool) (i q : ℕ) (xs ys : List ℕ) → position_from test i xs ≡ Some q → position_from test i (xs ++ ys) ≡ Some q
in-front test i q [] ys e = absurd cc
in-front test i q (x ∷ xs) ys e = go (test x) (λ e. in-front test (i + 1) q xs ys e) e
  where
    go : (b : Bool) → (position_from test (i + 1) xs ≡ Some q → position_from test (i + 1) (xs ++ ys) ≡ Some q)
        → cond b (Some i) (position_from test (i + 1) xs) ≡ Some q → cond b (Some i) (position_from test (i + 1) (xs ++ ys)) ≡ Some q
    go true more e = e
    go false more e = more e

at-end : (test : ℕ → Bool) (i y : ℕ) (xs : List ℕ) → test y ≡ true → position_from test i xs ≡ None → position_from test i (xs ++ y ∷ []) ≡ Some (i + length xs)
at-end test i y [] t e = ap (λ b. cond b (Some i) None) t ∙ ap (λ n. Some n) (omega arith)
at-end test i y (x ∷ xs) t e = go (test x) (λ e. at-end test (i + 1) y xs t e) e
  where
    go : (b : Bool) → (position_from test (i + 1) xs ≡ None → position_from test (i + 1) (xs ++ y ∷ []) ≡ Some (i + 1 + length xs))
        → cond b (Some i) (position_from test (i + 1) xs) ≡ None → cond b (Some i) (position_from test (i + 1) (xs ++ y ∷ [])) ≡ Some (i + length (x ∷ xs))
    go true more e = absurd cc
    go false more e = more e ∙ ap (λ n. Some n) (omega arith)

placed : (k met : ℕ) → k < met → position_from (nat_eq k) 0 (upto met) ≡ Some k
placed k zero h = absurd (omega (arith, h))
placed k (suc n) h = elim (cases_lt k n) [
  | inl below ↦ in-front (nat_eq k) 0 k (upto n) (n ∷ []) (placed k n below)
  | inr above ↦ let same : k ≡ n = omega (arith, above, h) in at-end (nat_eq k) 0 n (upto n) (eq-eqb k n same) (none k same) ∙ ap (λ m. Some m) (omega (arith, upto-length n, same))
]
  where
    none : (k : ℕ) → k ≡ n → position_from (nat_eq k) 0 (upto n) ≡ None
    none k e = rw e (sym (position_from-zero (nat_eq n) (upto n)) ∙ number-new n)

number-old : (k met : ℕ) → k < met → number_of k (upto met) ≡ Some k
number-old k met h = position_from-zero (nat_eq k) (upto met) ∙ placed k met h

-- ---- labels

label-same : {met k : ℕ} {new : List Node} → WalkLabel met k new → (nodes : List Node) → At nodes new met → label_text nodes k (upto met) ≡ numbered (flat_label nodes k met)
unfolding label_text
label-same (WalkLabel.again {met} {k} lt) nodes at = rw (number-old k met lt, label_again nodes k met lt) refl
label-same (WalkLabel.symbol {met} {name}) nodes at = rw (number-new met, at_here nodes (Symbol name) [] met at, label_new nodes met name at, add-one) refl

labels-same : {met : ℕ} {ks : List ℕ} {new : List Node} → WalkLabels met ks new → (nodes : List Node) → At nodes new met
    → each_text (label_text nodes) ks (upto met) ≡ numbered (each_text (flat_label nodes) ks met)
unfolding each_text
labels-same (WalkLabels.none {met}) nodes at = refl
labels-same (WalkLabels.more {met} {k} {ks} {first} {others} w ws) nodes at =
    let here = at_first nodes first others met at in
    rw (label-same w nodes here, label_met w nodes here, labels-same ws nodes (at_rest nodes first others met at)) refl

-- ---- values

abbrev pub NotFour : Node → Type 0
NotFour (Frame tags values) = length tags ≡ 4 → ⊥
NotFour _ = Unit {0}

-- the node that is met next is written in full
in-full : (room met : ℕ) (nodes : List Node) (node : Node) → slice_get nodes met ≡ Some node
    → value_text (suc room) nodes (refs.Node met) (upto met) ≡ new_node (λ value numbered. value_text room nodes value numbered) nodes met (Some node) (upto met)
unfolding value_text
in-full room met nodes node e = rw (number-new met, e) refl

again-same : (room met k : ℕ) (nodes : List Node) → k < met → value_text (suc room) nodes (refs.Node k) (upto met) ≡ numbered (flat_value room nodes (refs.Node k) met)
unfolding value_text
again-same room met k nodes lt = rw (number-old k met lt, again_in_short room met k nodes lt) refl

word-same : (room met : ℕ) (w : _) (nodes : List Node) → value_text (suc room) nodes (refs.Imm w) (upto met) ≡ numbered (flat_value room nodes (refs.Imm w) met)
unfolding value_text
word-same room met w nodes = rw (word_as room nodes w met) refl

binary-same : (nodes : List Node) (met class : ℕ) (bytes : List ℕ) → label_text nodes class (upto (suc met)) ≡ numbered (flat_label nodes class (suc met))
    → binary_text nodes met class bytes (upto met) ≡ numbered (flat_binary nodes class bytes met)
unfolding binary_text flat_binary
binary-same nodes met class bytes e = rw (add-one, e) refl

large-same : (nodes : List Node) (met class : ℕ) (bytes : List ℕ) → label_text nodes class (upto (suc met)) ≡ numbered (flat_label nodes class (suc met))
    → plain_large_text nodes met class bytes (upto met) ≡ numbered (flat_large nodes class bytes met)
unfolding plain_large_text flat_large
large-same nodes met class bytes e = rw (add-one, e) refl

plain-array-same : (inner : Ref → List ℕ → Text) (flat_inner : Ref → ℕ → FlatText) (met : ℕ) (values : List Ref) → each_text inner values (upto (suc met)) ≡ numbered (each_text flat_inner values (suc met))
    → plain_array_text inner met values (upto met) ≡ numbered (flat_plain_array flat_inner values met)
unfolding plain_array_text flat_plain_array
plain-array-same inner flat_inner met values e = rw (add-one, e) refl

array-same : (inner : Ref → List ℕ → Text) (flat_inner : Ref → ℕ → FlatText) (nodes : List Node) (met class n : ℕ) (values : List Ref)
    → label_text nodes class (upto (suc met)) ≡ numbered (flat_label nodes class (suc met)) → (flat_label nodes class (suc met)).1 ≡ n
    → each_text inner values (upto n) ≡ numbered (each_text flat_inner values n)
    → array_text inner nodes met class values (upto met) ≡ numbered (flat_array flat_inner nodes class values met)
unfolding array_text flat_array
array-same inner flat_inner nodes met class n values e m f = rw (add-one, e, m, f) refl

frame-same : (inner : Ref → List ℕ → Text) (flat_inner : Ref → ℕ → FlatText) (nodes : List Node) (met n : ℕ) (tags : List ℕ) (values : List Ref) → (length tags ≡ 4 → ⊥)
    → each_text (label_text nodes) tags (upto (suc met)) ≡ numbered (each_text (flat_label nodes) tags (suc met)) → (each_text (flat_label nodes) tags (suc met)).1 ≡ n
    → each_text inner values (upto n) ≡ numbered (each_text flat_inner values n)
    → any_frame_text inner nodes met tags values (upto met) ≡ numbered (flat_frame flat_inner nodes tags values met)
unfolding frame_text flat_frame
frame-same inner flat_inner nodes met n tags values other e m f = rw (not_four nodes met tags values other, add-one, e, m, f) refl

mutual
  unfolding each_text

  value-same : {room met : ℕ} {value : Ref} {new : List Node} → Walk room met value new → (nodes : List Node) → At nodes new met → All NotFour nodes
      → value_text (suc room) nodes value (upto met) ≡ numbered (flat_value room nodes value met)
  value-same (Walk.word {room} {met} {w} is) nodes at h = word-same room met w nodes
  value-same (Walk.again {room} {met} {k} lt) nodes at h = again-same room met k nodes lt
  value-same (Walk.symbol {room} {met} {name}) nodes at h =
      let here = at_here nodes (Symbol name) [] met at in
      rw (in-full room met nodes (Symbol name) here, symbol_in_full room met met nodes name (omega arith) here, add-one) refl
  value-same (Walk.string {room} {met} {units}) nodes at h =
      let here = at_here nodes (Str units) [] met at in
      rw (in-full room met nodes (Str units) here, string_in_full room met met nodes units (omega arith) here, add-one) refl
  value-same (Walk.binary {room} {met} {class} {bytes} {new} label) nodes at h =
      let here = at_here nodes (Binary class bytes) new met at in
      in-full room met nodes (Binary class bytes) here
      ∙ binary-same nodes met class bytes (label-same label nodes (at_inside nodes (Binary class bytes) new met at))
      ∙ ap (λ t. numbered t) (sym (binary_in_full room met met nodes class bytes (omega arith) here))
  value-same (Walk.large {room} {met} {class} {bytes} {new} label) nodes at h =
      let here = at_here nodes (Large class bytes) new met at in
      in-full room met nodes (Large class bytes) here
      ∙ large-same nodes met class bytes (label-same label nodes (at_inside nodes (Large class bytes) new met at))
      ∙ ap (λ t. numbered t) (sym (large_in_full room met met nodes class bytes (omega arith) here))
  value-same (Walk.frame {room} {met} {tags} {values} {tagged} {valued} labels ws) nodes at h =
      let here = at_here nodes (Frame tags values) (tagged ++ valued) met at in
      let inside = at_inside nodes (Frame tags values) (tagged ++ valued) met at in
      let front = at_first nodes tagged valued (suc met) inside in
      let less : suc room - 1 ≡ room = omega arith in
      rw (in-full (suc room) met nodes (Frame tags values) here, frame_in_full (suc room) met met nodes tags values (omega arith) (omega arith) here, less)
      (frame-same (λ value numbered. value_text (suc room) nodes value numbered) (λ value met. flat_value room nodes value met) nodes met (suc met + length tagged) tags values
      (all_at NotFour nodes met (Frame tags values) h here) (labels-same labels nodes front) (labels_met labels nodes front)
      (values-same ws nodes (at_rest nodes tagged valued (suc met) inside) h))
  value-same (Walk.plain_array {room} {met} {values} {valued} ws) nodes at h =
      let here = at_here nodes (Array None values) valued met at in
      let less : suc room - 1 ≡ room = omega arith in
      rw (in-full (suc room) met nodes (Array None values) here, plain_array_in_full (suc room) met met nodes values (omega arith) (omega arith) here, less)
      (plain-array-same (λ value numbered. value_text (suc room) nodes value numbered) (λ value met. flat_value room nodes value met) met values
      (values-same ws nodes (at_inside nodes (Array None values) valued met at) h))
  value-same (Walk.array {room} {met} {class} {values} {first} {valued} label ws) nodes at h =
      let here = at_here nodes (Array (Some class) values) (first ++ valued) met at in
      let inside = at_inside nodes (Array (Some class) values) (first ++ valued) met at in
      let front = at_first nodes first valued (suc met) inside in
      let less : suc room - 1 ≡ room = omega arith in
      rw (in-full (suc room) met nodes (Array (Some class) values) here, array_in_full (suc room) met met nodes class values (omega arith) (omega arith) here, less)
      (array-same (λ value numbered. value_text (suc room) nodes value numbered) (λ value met. flat_value room nodes value met) nodes met class (suc met + length first) values
      (label-same label nodes front) (label_met label nodes front) (values-same ws nodes (at_rest nodes first valued (suc met) inside) h))

  values-same : {room met : ℕ} {values : List Ref} {new : List Node} → Walks room met values new → (nodes : List Node) → At nodes new met → All NotFour nodes
      → each_text (λ value numbered. value_text (suc room) nodes value numbered) values (upto met) ≡ numbered (each_text (λ value met. flat_value room nodes value met) values met)
  values-same (Walks.none {room} {met}) nodes at h = refl
  values-same (Walks.more {room} {met} {value} {values} {first} {others} w ws) nodes at h =
      let here = at_first nodes first others met at in
      rw (value-same w nodes here h, value_met w nodes here, values-same ws nodes (at_rest nodes first others met at) h) refl

pub written-flat : (g : RawGraph) → IsGraph g → All NotFour g.nodes → nsof g ≡ flat g
unfolding nsof flat
written-flat g is h =
    let at : At g.nodes g.nodes 0 = record { before = []; later = []; whole = sym (append-nil g.nodes); met_is = refl } in
    ap (λ (t : Text). 2 ∷ t.0) (value-same is.walk g.nodes at h)
