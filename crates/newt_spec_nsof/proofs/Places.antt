-- How far a walk gets, and what it finds there.
use Rattle.std.proofs.Common.{◌≡◌, ℕ, zero, suc, ◌+◌, ◌-◌, ◌<◌, ◌≤◌, List, [], ◌∷◌, ◌++◌, length, Option, Some, None, refl, ap, ◌∙◌, arith, add-one}
use Rattle.std.specs.Prelude.{slice_get, ℤ}
use Rattle.std.proofs.lemmas.List.{length-append}
use Rattle.std.proofs.lemmas.Bool.{lt-ltb, le-ltb}
use Rattle.newt_graph.specs.declared.node.Node.{Node}
use Rattle.newt_graph.specs.declared.node.Node.TheVariants.{Symbol, Str, Binary, Large, Array, Frame}
use Rattle.newt_graph.specs.declared.node.Ref.{Ref}
use Rattle.newt_graph.specs.declared.node.Ref.TheVariants as refs
use Rattle.newt_graph.specs.Slice.{At}
use Rattle.newt_graph.specs.Graph.{WalkLabel, WalkLabels, Walk, Walks}
use Rattle.newt_graph.proofs.Slices.{at_first, at_rest, at_inside, at_here}
use Rattle.newt_spec_nsof.specs.Flat.{Text, word_text, symbol_text, again_text, each_text, label_text, frame_text, plain_array_text, array_text, any_array_text, string_text, binary_text, plain_large_text, text_at, value_text}

-- ---- how many nodes are met in the end

pub label_met : {met k : ℕ} {new : List Node} → WalkLabel met k new → (nodes : List Node) → At nodes new met → (label_text nodes k met).1 ≡ met + length new
unfolding label_text
label_met (WalkLabel.again {met} {k} lt) nodes at = rw (lt-ltb k met lt) (omega arith)
label_met (WalkLabel.symbol {met} {name}) nodes at = rw (le-ltb met met (omega arith), at_here nodes (Symbol name) [] met at) refl

pub labels_met : {met : ℕ} {ks : List ℕ} {new : List Node} → WalkLabels met ks new → (nodes : List Node) → At nodes new met → (each_text (label_text nodes) ks met).1 ≡ met + length new
unfolding each_text
labels_met (WalkLabels.none {met}) nodes at = omega arith
labels_met (WalkLabels.more {met} {k} {ks} {first} {others} w ws) nodes at =
    let one = label_met w nodes (at_first nodes first others met at) in
    rw one (omega (arith, labels_met ws nodes (at_rest nodes first others met at), length-append first others))

frame_met : (inner : Ref → ℕ → Text) (nodes : List Node) (met : ℕ) (tags : List ℕ) (values : List Ref) (tagged valued : List Node) → At nodes (Frame tags values ∷ (tagged ++ valued)) met
    → WalkLabels (suc met) tags tagged → (each_text inner values (suc met + length tagged)).1 ≡ suc met + length tagged + length valued
    → (text_at inner nodes (refs.Node met) met).1 ≡ met + length (Frame tags values ∷ (tagged ++ valued))
unfolding frame_text
frame_met inner nodes met tags values tagged valued at labels read =
    let inside = at_inside nodes (Frame tags values) (tagged ++ valued) met at in
    let tags_end : (each_text (label_text nodes) tags (met + 1)).1 ≡ suc met + length tagged =
    rw add-one (labels_met labels nodes (at_first nodes tagged valued (suc met) inside)) in
    rw (le-ltb met met (omega arith), at_here nodes (Frame tags values) (tagged ++ valued) met at, tags_end, read) (omega (arith, length-append tagged valued))

pub binary_met : (inner : Ref → ℕ → Text) (nodes : List Node) (met class : ℕ) (bytes : List ℕ) (new : List Node) → At nodes (Binary class bytes ∷ new) met
    → WalkLabel (suc met) class new → (text_at inner nodes (refs.Node met) met).1 ≡ met + length (Binary class bytes ∷ new)
unfolding binary_text
binary_met inner nodes met class bytes new at label =
    let label_end : (label_text nodes class (met + 1)).1 ≡ suc met + length new = rw add-one (label_met label nodes (at_inside nodes (Binary class bytes) new met at)) in
    rw (le-ltb met met (omega arith), at_here nodes (Binary class bytes) new met at, label_end) (omega arith)

pub large_met : (inner : Ref → ℕ → Text) (nodes : List Node) (met class : ℕ) (bytes : List ℕ) (new : List Node) → At nodes (Large class bytes ∷ new) met
    → WalkLabel (suc met) class new → (text_at inner nodes (refs.Node met) met).1 ≡ met + length (Large class bytes ∷ new)
unfolding plain_large_text
large_met inner nodes met class bytes new at label =
    let label_end : (label_text nodes class (met + 1)).1 ≡ suc met + length new = rw add-one (label_met label nodes (at_inside nodes (Large class bytes) new met at)) in
    rw (le-ltb met met (omega arith), at_here nodes (Large class bytes) new met at, label_end) (omega arith)

plain_array_met : (inner : Ref → ℕ → Text) (nodes : List Node) (met : ℕ) (values : List Ref) (valued : List Node) → At nodes (Array None values ∷ valued) met
    → (each_text inner values (suc met)).1 ≡ suc met + length valued → (text_at inner nodes (refs.Node met) met).1 ≡ met + length (Array None values ∷ valued)
unfolding plain_array_text
plain_array_met inner nodes met values valued at read =
    rw (le-ltb met met (omega arith), at_here nodes (Array None values) valued met at, add-one, read) (omega arith)

array_met : (inner : Ref → ℕ → Text) (nodes : List Node) (met class : ℕ) (values : List Ref) (first valued : List Node) → At nodes (Array (Some class) values ∷ (first ++ valued)) met
    → WalkLabel (suc met) class first → (each_text inner values (suc met + length first)).1 ≡ suc met + length first + length valued
    → (text_at inner nodes (refs.Node met) met).1 ≡ met + length (Array (Some class) values ∷ (first ++ valued))
unfolding array_text
array_met inner nodes met class values first valued at label read =
    let inside = at_inside nodes (Array (Some class) values) (first ++ valued) met at in
    let label_end : (label_text nodes class (met + 1)).1 ≡ suc met + length first = rw add-one (label_met label nodes (at_first nodes first valued (suc met) inside)) in
    rw (le-ltb met met (omega arith), at_here nodes (Array (Some class) values) (first ++ valued) met at, label_end, read) (omega (arith, length-append first valued))

pub value_is : (room : ℕ) (nodes : List Node) (value : Ref) (met : ℕ) → (inner : Ref → ℕ → Text) × (value_text room nodes value met ≡ text_at inner nodes value met)
unfolding value_text
value_is zero nodes value met = ((λ value met. ([], met)), refl)
value_is (suc room) nodes value met = ((λ value met. value_text room nodes value met), refl)

word_met : (room : ℕ) (nodes : List Node) (w : ℤ) (met : ℕ) → (value_text room nodes (refs.Imm w) met).1 ≡ met + 0
word_met room nodes w met = let v = value_is room nodes (refs.Imm w) met in ap (λ (t : Text). t.1) v.1 ∙ omega arith

again_met : (room : ℕ) (nodes : List Node) (k met : ℕ) → k < met → (value_text room nodes (refs.Node k) met).1 ≡ met + 0
again_met room nodes k met lt = let v = value_is room nodes (refs.Node k) met in ap (λ (t : Text). t.1) v.1 ∙ rw (lt-ltb k met lt) (omega arith)

symbol_met : (room : ℕ) (nodes : List Node) (met : ℕ) (name : List ℕ) → At nodes (Symbol name ∷ []) met → (value_text room nodes (refs.Node met) met).1 ≡ met + 1
symbol_met room nodes met name at =
    let v = value_is room nodes (refs.Node met) met in
    ap (λ (t : Text). t.1) v.1 ∙ rw (le-ltb met met (omega arith), at_here nodes (Symbol name) [] met at) refl

string_met : (room : ℕ) (nodes : List Node) (met : ℕ) (units : List ℕ) → At nodes (Str units ∷ []) met → (value_text room nodes (refs.Node met) met).1 ≡ met + 1
string_met room nodes met units at =
    let v = value_is room nodes (refs.Node met) met in
    ap (λ (t : Text). t.1) v.1 ∙ rw (le-ltb met met (omega arith), at_here nodes (Str units) [] met at) refl

binary_ends : (room : ℕ) (nodes : List Node) (met class : ℕ) (bytes : List ℕ) (new : List Node) → At nodes (Binary class bytes ∷ new) met → WalkLabel (suc met) class new → (value_text room nodes (refs.Node met) met).1 ≡ met + length (Binary class bytes ∷ new)
binary_ends room nodes met class bytes new at label =
    let v = value_is room nodes (refs.Node met) met in
    ap (λ (t : Text). t.1) v.1 ∙ binary_met v.0 nodes met class bytes new at label

large_ends : (room : ℕ) (nodes : List Node) (met class : ℕ) (bytes : List ℕ) (new : List Node) → At nodes (Large class bytes ∷ new) met → WalkLabel (suc met) class new → (value_text room nodes (refs.Node met) met).1 ≡ met + length (Large class bytes ∷ new)
large_ends room nodes met class bytes new at label =
    let v = value_is room nodes (refs.Node met) met in
    ap (λ (t : Text). t.1) v.1 ∙ large_met v.0 nodes met class bytes new at label

mutual
  unfolding value_text each_text

  pub value_met : {room met : ℕ} {value : Ref} {new : List Node} → Walk room met value new → (nodes : List Node) → At nodes new met → (value_text room nodes value met).1 ≡ met + length new
  value_met (Walk.word {room} {met} {w} is) nodes at = word_met room nodes w met
  value_met (Walk.again {room} {met} {k} lt) nodes at = again_met room nodes k met lt
  value_met (Walk.symbol {room} {met} {name}) nodes at = symbol_met room nodes met name at
  value_met (Walk.frame {room} {met} {tags} {values} {tagged} {valued} labels ws) nodes at =
      frame_met (λ value met. value_text room nodes value met) nodes met tags values tagged valued at labels
      (values_met ws nodes (at_rest nodes tagged valued (suc met) (at_inside nodes (Frame tags values) (tagged ++ valued) met at)))
  value_met (Walk.string {room} {met} {units}) nodes at = string_met room nodes met units at
  value_met (Walk.binary {room} {met} {class} {bytes} {new} label) nodes at = binary_ends room nodes met class bytes new at label
  value_met (Walk.large {room} {met} {class} {bytes} {new} label) nodes at = large_ends room nodes met class bytes new at label
  value_met (Walk.plain_array {room} {met} {values} {valued} ws) nodes at =
      plain_array_met (λ value met. value_text room nodes value met) nodes met values valued at (values_met ws nodes (at_inside nodes (Array None values) valued met at))
  value_met (Walk.array {room} {met} {class} {values} {first} {valued} label ws) nodes at =
      array_met (λ value met. value_text room nodes value met) nodes met class values first valued at label
      (values_met ws nodes (at_rest nodes first valued (suc met) (at_inside nodes (Array (Some class) values) (first ++ valued) met at)))

  pub values_met : {room met : ℕ} {values : List Ref} {new : List Node} → Walks room met values new → (nodes : List Node) → At nodes new met → (each_text (λ value met. value_text room nodes value met) values met).1 ≡ met + length new
  values_met (Walks.none {room} {met}) nodes at = omega arith
  values_met (Walks.more {room} {met} {value} {values} {first} {others} w ws) nodes at =
      let one = value_met w nodes (at_first nodes first others met at) in
      rw one (omega (arith, values_met ws nodes (at_rest nodes first others met at), length-append first others))

-- ---- texts of nodes

pub again_in_short : (room met k : ℕ) (nodes : List Node) → k < met → value_text room nodes (refs.Node k) met ≡ (again_text k, met)
again_in_short room met k nodes lt = let v = value_is room nodes (refs.Node k) met in v.1 ∙ rw (lt-ltb k met lt) refl

pub symbol_in_full : (room met k : ℕ) (nodes : List Node) (name : List ℕ) → met ≤ k → slice_get nodes k ≡ Some (Symbol name) → value_text room nodes (refs.Node k) met ≡ (symbol_text name, met + 1)
symbol_in_full room met k nodes name le e = let v = value_is room nodes (refs.Node k) met in v.1 ∙ rw (le-ltb k met le, e) refl

pub frame_in_full : (room met k : ℕ) (nodes : List Node) (tags : List ℕ) (values : List Ref) → 1 ≤ room → met ≤ k → slice_get nodes k ≡ Some (Frame tags values) → value_text room nodes (refs.Node k) met ≡ frame_text (λ value met. value_text (room - 1) nodes value met) nodes tags values met
unfolding value_text
frame_in_full zero met k nodes tags values more le e = absurd (omega arith)
frame_in_full (suc room) met k nodes tags values more le e =
    let less : suc room - 1 ≡ room = omega arith in
    rw (less, le-ltb k met le, e) refl

pub word_as : (room : ℕ) (nodes : List Node) (w : ℤ) (met : ℕ) → value_text room nodes (refs.Imm w) met ≡ (word_text w, met)
word_as room nodes w met = let v = value_is room nodes (refs.Imm w) met in v.1

pub label_again : (nodes : List Node) (k met : ℕ) → k < met → label_text nodes k met ≡ (again_text k, met)
unfolding label_text
label_again nodes k met lt = rw (lt-ltb k met lt) refl

pub label_new : (nodes : List Node) (met : ℕ) (name : List ℕ) → At nodes (Symbol name ∷ []) met → label_text nodes met met ≡ (symbol_text name, met + 1)
unfolding label_text
label_new nodes met name at = rw (le-ltb met met (omega arith), at_here nodes (Symbol name) [] met at) refl

pub plain_array_in_full : (room met k : ℕ) (nodes : List Node) (values : List Ref) → 1 ≤ room → met ≤ k → slice_get nodes k ≡ Some (Array None values) → value_text room nodes (refs.Node k) met ≡ plain_array_text (λ value met. value_text (room - 1) nodes value met) values met
unfolding value_text
plain_array_in_full zero met k nodes values more le e = absurd (omega arith)
plain_array_in_full (suc room) met k nodes values more le e =
    let less : suc room - 1 ≡ room = omega arith in
    rw (less, le-ltb k met le, e) refl

pub array_in_full : (room met k : ℕ) (nodes : List Node) (class : ℕ) (values : List Ref) → 1 ≤ room → met ≤ k → slice_get nodes k ≡ Some (Array (Some class) values) → value_text room nodes (refs.Node k) met ≡ array_text (λ value met. value_text (room - 1) nodes value met) nodes class values met
unfolding value_text
array_in_full zero met k nodes class values more le e = absurd (omega arith)
array_in_full (suc room) met k nodes class values more le e =
    let less : suc room - 1 ≡ room = omega arith in
    rw (less, le-ltb k met le, e) refl

pub any_array_in_full : (room met k : ℕ) (nodes : List Node) (class : Option ℕ) (values : List Ref) → 1 ≤ room → met ≤ k → slice_get nodes k ≡ Some (Array class values) → value_text room nodes (refs.Node k) met ≡ any_array_text (λ value met. value_text (room - 1) nodes value met) nodes class values met
any_array_in_full room met k nodes None values more le e = plain_array_in_full room met k nodes values more le e
any_array_in_full room met k nodes (Some class) values more le e = array_in_full room met k nodes class values more le e

pub string_in_full : (room met k : ℕ) (nodes : List Node) (units : List ℕ) → met ≤ k → slice_get nodes k ≡ Some (Str units) → value_text room nodes (refs.Node k) met ≡ (string_text units, met + 1)
string_in_full room met k nodes units le e = let v = value_is room nodes (refs.Node k) met in v.1 ∙ rw (le-ltb k met le, e) refl

pub binary_in_full : (room met k : ℕ) (nodes : List Node) (class : ℕ) (bytes : List ℕ) → met ≤ k → slice_get nodes k ≡ Some (Binary class bytes) → value_text room nodes (refs.Node k) met ≡ binary_text nodes class bytes met
binary_in_full room met k nodes class bytes le e = let v = value_is room nodes (refs.Node k) met in v.1 ∙ rw (le-ltb k met le, e) refl

pub large_in_full : (room met k : ℕ) (nodes : List Node) (class : ℕ) (bytes : List ℕ) → met ≤ k → slice_get nodes k ≡ Some (Large class bytes) → value_text room nodes (refs.Node k) met ≡ plain_large_text nodes class bytes met
large_in_full room met k nodes class bytes le e = let v = value_is room nodes (refs.Node k) met in v.1 ∙ rw (le-ltb k met le, e) refl
