-- The written text of a graph, with its small rectangles, spells it.
use Rattle.std.proofs.Common.{◌≡◌, false, ℕ, suc, ◌+◌, ◌*◌, ◌<◌, ◌≤◌, List, [], ◌∷◌, ◌++◌, length, All, Option, Some, None, refl, sym, ap, subst, ◌∙◌, append_assoc, arith}
use Rattle.std.specs.Prelude.{slice_get, ℤ}
use Rattle.std.proofs.lemmas.List.{append-nil, length-append}
use Rattle.std.proofs.lemmas.List.Elements.{All-head, All-tail}
use Rattle.std.proofs.lemmas.Option.{slice_get_within}
use Rattle.newt_graph.specs.declared.node.Node.{Node}
use Rattle.newt_graph.specs.declared.node.Node.TheVariants.{Symbol, Str, Binary, Large, Array, Frame}
use Rattle.newt_graph.specs.declared.node.Ref.{Ref}
use Rattle.newt_graph.specs.declared.node.Ref.TheVariants as refs
use Rattle.newt_graph.specs.Graph.{RawGraph, IsSymbol, IsName, IsFrame, IsText, IsData, IsGraph, IsWord, WalkLabel, WalkLabels, Walk, Walks}
use Rattle.newt_graph.specs.Slice.{At}
use Rattle.newt_graph.proofs.Slices.{at_first, at_rest, at_inside, at_here, at_length}
use Rattle.newt_spec_nsof.specs.Text.{Interned, InternedEach, SymbolText, Again, Label, Labels, Object, Objects, Spells, corners, sides}
use Rattle.newt_spec_nsof.specs.Flat.{symbol_text, again_text, each_text, string_text}
use Rattle.newt_spec_nsof.specs.Written.{Text, number_of, new_label, numbered_or, label_text, small_frame, small_or, frame_text, plain_array_text, array_text, binary_text, plain_large_text, new_node, value_text, nsof}
use Rattle.newt_spec_nsof.proofs.Xlongs.{count_spelled, word_spelled}
use Rattle.newt_spec_nsof.proofs.Spelled.{IsSound, node_is, before_symbol, none_before}
use Rattle.newt_spec_nsof.proofs.Numbered.{AreNumbered, has_number, has_none, has_none_yet, numbers_few, none_numbered, number_again, number_next, labels_none}
use Rattle.newt_spec_nsof.proofs.Rectangles.{IsSmall, frame_small, sides_interned, alike_before, words_new}

-- ---- what a text spells, and which nodes have a number after it

record IsLabel (nodes : List Node) (met : ℕ) (before : List Node) (numbered : List ℕ) (k : ℕ) (new : List Node) (text : Text) : Type 0 where
  label : Label before numbered text.0 k new text.1
  after : AreNumbered nodes (met + length new) text.1

record AreLabels (nodes : List Node) (met : ℕ) (before : List Node) (numbered : List ℕ) (ks : List ℕ) (new : List Node) (text : Text) : Type 0 where
  labels : Labels before numbered text.0 ks new text.1
  after : AreNumbered nodes (met + length new) text.1

record IsObject (nodes : List Node) (room met : ℕ) (before : List Node) (numbered : List ℕ) (value : Ref) (new : List Node) (text : Text) : Type 0 where
  object : Object false room before numbered text.0 value new text.1
  after : AreNumbered nodes (met + length new) text.1

record AreObjects (nodes : List Node) (room met : ℕ) (before : List Node) (numbered : List ℕ) (values : List Ref) (new : List Node) (text : Text) : Type 0 where
  objects : Objects false room before numbered text.0 values new text.1
  after : AreNumbered nodes (met + length new) text.1

-- nothing more is met
stays : (nodes : List Node) (met : ℕ) (numbered : List ℕ) → AreNumbered nodes met numbered → AreNumbered nodes (met + length {A = Node} []) numbered
stays nodes met numbered are = subst (λ (n : ℕ). AreNumbered nodes n numbered) (omega arith) are

-- one more is met
goes_on : (nodes : List Node) (met : ℕ) (numbered : List ℕ) (node : Node) → AreNumbered nodes (suc met) numbered → AreNumbered nodes (met + length (node ∷ [])) numbered
goes_on nodes met numbered node are = subst (λ (n : ℕ). AreNumbered nodes n numbered) (omega arith) are

-- ---- symbols and precedents

-- a symbol that was met in a small frame alone
symbol_again : (nodes : List Node) (name numbered : List ℕ) (met k : ℕ) (at : At nodes [] met) → IsSound nodes → k < met → slice_get nodes k ≡ Some (Symbol name) → SymbolText at.before numbered (symbol_text name) k [] (numbered ++ k ∷ [])
symbol_again nodes name numbered met k at sound lt e =
    let is : IsName name = node_is nodes k (Symbol name) sound e in
    SymbolText.symbol (count_spelled (length name) (omega (arith, is.few))) is (Interned.alike (alike_before nodes [] met k name at lt (name, e, refl)))

-- a symbol that is met here
symbol_new : (nodes : List Node) (name numbered : List ℕ) (met : ℕ) (at : At nodes (Symbol name ∷ []) met) → IsSound nodes → SymbolText at.before numbered (symbol_text name) met (Symbol name ∷ []) (numbered ++ met ∷ [])
symbol_new nodes name numbered met at sound =
    let is : IsName name = node_is nodes met (Symbol name) sound (at_here nodes (Symbol name) [] met at) in
    subst (λ (n : ℕ). SymbolText at.before numbered (symbol_text name) n (Symbol name ∷ []) (numbered ++ n ∷ [])) at.met_is
    (SymbolText.symbol (count_spelled (length name) (omega (arith, is.few))) is (Interned.first (none_before nodes name met at sound)))

precedent : (nodes : List Node) (numbered : List ℕ) (met k place : ℕ) → AreNumbered nodes met numbered → met ≤ 65535 → number_of k numbered ≡ Some place → Again numbered (again_text place) k
precedent nodes numbered met k place are few e =
    let h = has_number k place numbered e in
    let less : place < length numbered = slice_get_within numbered place k h.0 in
    Again.again (count_spelled place (omega (arith, less, numbers_few nodes met numbered are, few))) h.0

-- ---- labels

label_written : {met k : ℕ} {new : List Node} → WalkLabel met k new → (nodes : List Node) (at : At nodes new met) → IsSound nodes → IsSymbol nodes k → (numbered : List ℕ) → AreNumbered nodes met numbered → IsLabel nodes met at.before numbered k new (label_text nodes k numbered)
unfolding label_text
label_written (WalkLabel.again {met} {k} lt) nodes at sound is numbered are = go (number_of k numbered) refl
  where
    go : (o : Option ℕ) → number_of k numbered ≡ o → IsLabel nodes met at.before numbered k [] (numbered_or o numbered (new_label k (slice_get nodes k) numbered))
    go (Some place) e = record {
      label = Label.again (precedent nodes numbered met k place are (omega (arith, at_length nodes [] met at, sound.few)) e) (before_symbol nodes [] met k at lt is);
      after = stays nodes met numbered are;
    }
    go None e = rw is.1 (record {
      label = Label.symbol (symbol_again nodes is.0 numbered met k at sound lt is.1);
      after = stays nodes met (numbered ++ k ∷ []) (number_again nodes met k numbered are lt (has_none k numbered e));
    })
label_written (WalkLabel.symbol {met} {name}) nodes at sound is numbered are =
    rw (has_none_yet nodes met numbered are, at_here nodes (Symbol name) [] met at) (record {
      label = Label.symbol (symbol_new nodes name numbered met at sound);
      after = goes_on nodes met (numbered ++ met ∷ []) (Symbol name) (number_next nodes met numbered are);
    })

labels_written : {met : ℕ} {ks : List ℕ} {new : List Node} → WalkLabels met ks new → (nodes : List Node) (at : At nodes new met) → IsSound nodes → All (IsSymbol nodes) ks → (numbered : List ℕ) → AreNumbered nodes met numbered → AreLabels nodes met at.before numbered ks new (each_text (label_text nodes) ks numbered)
unfolding each_text
labels_written (WalkLabels.none {met}) nodes at sound is numbered are = record { labels = Labels.none; after = stays nodes met numbered are }
labels_written (WalkLabels.more {met} {k} {ks} {first} {others} w ws) nodes at sound is numbered are =
    let one = label_written w nodes (at_first nodes first others met at) sound (All-head (IsSymbol nodes) k ks is) numbered are in
    let rest = labels_written ws nodes (at_rest nodes first others met at) sound (All-tail (IsSymbol nodes) k ks is) (label_text nodes k numbered).1 one.after in
    record {
      labels = Labels.more one.label rest.labels;
      after = subst (λ (n : ℕ). AreNumbered nodes n (each_text (label_text nodes) (k ∷ ks) numbered).1) (omega (arith, length-append first others)) rest.after;
    }

-- ---- values

-- what a value within is written as
abbrev inner_text : ℕ → List Node → Ref → List ℕ → Text
inner_text room nodes = λ value numbered. value_text room nodes value numbered

-- a value by the node that it leads to
node_text : (room : ℕ) (nodes : List Node) (k : ℕ) (numbered : List ℕ) → value_text (suc room) nodes (refs.Node k) numbered ≡ numbered_or (number_of k numbered) numbered (new_node (inner_text room nodes) nodes k (slice_get nodes k) numbered)
unfolding value_text
node_text room nodes k numbered = refl

-- the node that is met next is written in full
in_full : (room : ℕ) (nodes : List Node) (met : ℕ) (numbered : List ℕ) (node : Node) → AreNumbered nodes met numbered → slice_get nodes met ≡ Some node → value_text (suc room) nodes (refs.Node met) numbered ≡ new_node (inner_text room nodes) nodes met (Some node) numbered
in_full room nodes met numbered node are e = node_text room nodes met numbered ∙ rw (has_none_yet nodes met numbered are, e) refl

-- its number is after those of the nodes before
numbered_at : (nodes new : List Node) (met : ℕ) (numbered : List ℕ) (at : At nodes new met) → numbered ++ met ∷ [] ≡ numbered ++ length at.before ∷ []
numbered_at nodes new met numbered at = ap (λ (n : ℕ). numbered ++ n ∷ []) (sym at.met_is)

-- an object under its number
object_at : (nodes : List Node) (room met : ℕ) (numbered : List ℕ) (node : Node) (new : List Node) (at : At nodes (node ∷ new) met) (text : Text)
    → Object false room at.before numbered text.0 (refs.Node (length at.before)) (node ∷ new) text.1 → AreNumbered nodes (suc met + length new) text.1
    → IsObject nodes room met at.before numbered (refs.Node met) (node ∷ new) text
object_at nodes room met numbered node new at text object after = record {
  object = subst (λ (n : ℕ). Object false room at.before numbered text.0 (refs.Node n) (node ∷ new) text.1) at.met_is object;
  after = subst (λ (n : ℕ). AreNumbered nodes n text.1) (omega arith) after;
}

string_written : (nodes : List Node) (room met : ℕ) (units numbered : List ℕ) (at : At nodes (Str units ∷ []) met) → IsSound nodes → AreNumbered nodes met numbered → IsObject nodes room met at.before numbered (refs.Node met) (Str units ∷ []) (string_text units, numbered ++ met ∷ [])
string_written nodes room met units numbered at sound are =
    let is : IsText units = node_is nodes met (Str units) sound (at_here nodes (Str units) [] met at) in
    object_at nodes room met numbered (Str units) [] at (string_text units, numbered ++ met ∷ [])
    (rw (numbered_at nodes (Str units ∷ []) met numbered at) (Object.string (count_spelled (2 * length units + 2) (omega (arith, is.few))) is))
    (subst (λ (n : ℕ). AreNumbered nodes n (numbered ++ met ∷ [])) (omega arith) (number_next nodes met numbered are))

-- a label after a node
label_inside : (nodes : List Node) (node : Node) (met class : ℕ) (new : List Node) (at : At nodes (node ∷ new) met) (numbered : List ℕ) → IsSound nodes → IsSymbol nodes class → AreNumbered nodes met numbered → WalkLabel (suc met) class new
    → IsLabel nodes (suc met) (at.before ++ node ∷ []) (numbered ++ length at.before ∷ []) class new (label_text nodes class (numbered ++ met ∷ []))
label_inside nodes node met class new at numbered sound is are label =
    let one = label_written label nodes (at_inside nodes node new met at) sound is (numbered ++ met ∷ []) (number_next nodes met numbered are) in
    record {
      label = subst (λ (x : List ℕ). Label (at.before ++ node ∷ []) x (label_text nodes class (numbered ++ met ∷ [])).0 class new (label_text nodes class (numbered ++ met ∷ [])).1) (numbered_at nodes (node ∷ new) met numbered at) one.label;
      after = one.after;
    }

binary_written : (nodes : List Node) (room met class : ℕ) (bytes numbered : List ℕ) (new : List Node) (at : At nodes (Binary class bytes ∷ new) met) → IsSound nodes → AreNumbered nodes met numbered → WalkLabel (suc met) class new
    → IsObject nodes room met at.before numbered (refs.Node met) (Binary class bytes ∷ new) (binary_text nodes met class bytes numbered)
unfolding binary_text
binary_written nodes room met class bytes numbered new at sound are label =
    let node = Binary class bytes in
    let is : IsSymbol nodes class × IsData bytes = node_is nodes met node sound (at_here nodes node new met at) in
    let one = label_inside nodes node met class new at numbered sound is.0 are label in
    object_at nodes room met numbered node new at _ (Object.binary (count_spelled (length bytes) (omega (arith, is.1.few))) is.1 one.label) one.after

large_written : (nodes : List Node) (room met class : ℕ) (bytes numbered : List ℕ) (new : List Node) (at : At nodes (Large class bytes ∷ new) met) → IsSound nodes → AreNumbered nodes met numbered → WalkLabel (suc met) class new
    → IsObject nodes room met at.before numbered (refs.Node met) (Large class bytes ∷ new) (plain_large_text nodes met class bytes numbered)
unfolding plain_large_text
large_written nodes room met class bytes numbered new at sound are label =
    let node = Large class bytes in
    let is : IsSymbol nodes class × IsData bytes = node_is nodes met node sound (at_here nodes node new met at) in
    let one = label_inside nodes node met class new at numbered sound is.0 are label in
    object_at nodes room met numbered node new at _
    (Object.large one.label (record { flag = 0; free = 0; compander = []; parameters = []; is_flag = refl; is_data = is.1; compander_fits = omega arith; parameters_fit = omega arith; free_fits = omega arith; whole = refl }))
    one.after

plain_array_written : (nodes : List Node) (room met : ℕ) (values : List Ref) (numbered : List ℕ) (valued : List Node) (at : At nodes (Array None values ∷ valued) met) → IsSound nodes
    → AreObjects nodes room (suc met) (at.before ++ Array None values ∷ []) (numbered ++ met ∷ []) values valued (each_text (inner_text (suc room) nodes) values (numbered ++ met ∷ []))
    → IsObject nodes (suc room) met at.before numbered (refs.Node met) (Array None values ∷ valued) (plain_array_text (inner_text (suc room) nodes) met values numbered)
unfolding plain_array_text
plain_array_written nodes room met values numbered valued at sound all =
    let node = Array None values in
    let few : length values ≤ 65535 = node_is nodes met node sound (at_here nodes node valued met at) in
    let text = each_text (inner_text (suc room) nodes) values (numbered ++ met ∷ []) in
    object_at nodes (suc room) met numbered node valued at _
    (Object.plain_array (count_spelled (length values) (omega (arith, few))) few
    (subst (λ (x : List ℕ). Objects false room (at.before ++ node ∷ []) x text.0 values valued text.1) (numbered_at nodes (node ∷ valued) met numbered at) all.objects))
    all.after

array_written : (nodes : List Node) (room met class : ℕ) (values : List Ref) (numbered : List ℕ) (first valued : List Node) (at : At nodes (Array (Some class) values ∷ (first ++ valued)) met) → IsSound nodes → AreNumbered nodes met numbered
    → WalkLabel (suc met) class first
    → ((after : List ℕ) → AreNumbered nodes (suc met + length first) after → AreObjects nodes room (suc met + length first) ((at.before ++ Array (Some class) values ∷ []) ++ first) after values valued (each_text (inner_text (suc room) nodes) values after))
    → IsObject nodes (suc room) met at.before numbered (refs.Node met) (Array (Some class) values ∷ (first ++ valued)) (array_text (inner_text (suc room) nodes) nodes met class values numbered)
unfolding array_text
array_written nodes room met class values numbered first valued at sound are label inside =
    let node = Array (Some class) values in
    let is : IsSymbol nodes class × (length values ≤ 65535) = node_is nodes met node sound (at_here nodes node (first ++ valued) met at) in
    let front : At nodes (node ∷ first) met = record { before = at.before; later = valued ++ at.later; whole = at.whole ∙ ap (λ (x : List Node). at.before ++ node ∷ x) (append_assoc first valued at.later); met_is = at.met_is } in
    let one = label_inside nodes node met class first front numbered sound is.0 are label in
    let then = (label_text nodes class (numbered ++ met ∷ [])).1 in
    let all = inside then one.after in
    let text = each_text (inner_text (suc room) nodes) values then in
    object_at nodes (suc room) met numbered node (first ++ valued) at _
    (Object.array (count_spelled (length values) (omega (arith, is.1))) is.1 one.label
    (subst (λ (x : List Node). Objects false room x then text.0 values valued text.1) (append_assoc at.before (node ∷ []) first) all.objects))
    (subst (λ (n : ℕ). AreNumbered nodes n text.1) (omega (arith, length-append first valued)) all.after)

-- ---- frames

full_frame_written : (nodes : List Node) (room met : ℕ) (tags : List ℕ) (values : List Ref) (numbered : List ℕ) (tagged valued : List Node) (at : At nodes (Frame tags values ∷ (tagged ++ valued)) met) → IsSound nodes → AreNumbered nodes met numbered
    → WalkLabels (suc met) tags tagged
    → ((after : List ℕ) → AreNumbered nodes (suc met + length tagged) after → AreObjects nodes room (suc met + length tagged) ((at.before ++ Frame tags values ∷ []) ++ tagged) after values valued (each_text (inner_text (suc room) nodes) values after))
    → IsObject nodes (suc room) met at.before numbered (refs.Node met) (Frame tags values ∷ (tagged ++ valued)) (frame_text (inner_text (suc room) nodes) nodes met tags values numbered)
unfolding frame_text
full_frame_written nodes room met tags values numbered tagged valued at sound are labels inside =
    let node = Frame tags values in
    let is : IsFrame nodes tags values = node_is nodes met node sound (at_here nodes node (tagged ++ valued) met at) in
    let at_later = at_first nodes tagged valued (suc met) (at_inside nodes node (tagged ++ valued) met at) in
    let one = labels_written labels nodes at_later sound is.symbols (numbered ++ met ∷ []) (number_next nodes met numbered are) in
    let tag_text = each_text (label_text nodes) tags (numbered ++ met ∷ []) in
    let all = inside tag_text.1 one.after in
    let text = each_text (inner_text (suc room) nodes) values tag_text.1 in
    object_at nodes (suc room) met numbered node (tagged ++ valued) at _
    (Object.frame (count_spelled (length tags) (omega (arith, is.are_tags.few))) is.are_tags is.paired
    (subst (λ (x : List ℕ). Labels (at.before ++ node ∷ []) x tag_text.0 tags tagged tag_text.1) (numbered_at nodes (node ∷ (tagged ++ valued)) met numbered at) one.labels)
    (subst (λ (x : List Node). Objects false room x tag_text.1 text.0 values valued text.1) (append_assoc at.before (node ∷ []) tagged) all.objects))
    (subst (λ (n : ℕ). AreNumbered nodes n text.1) (omega (arith, length-append tagged valued)) all.after)

-- the integers of a small frame meet nothing
small_values : {room met : ℕ} {values : List Ref} {valued : List Node} (top left bottom right : ℕ) → values ≡ corners top left bottom right → Walks room met values valued → valued ≡ []
small_values {room} {met} {values} {valued} top left bottom right e walks =
    words_new (top ∷ left ∷ bottom ∷ right ∷ []) met (subst (λ (x : List Ref). Walks room met x valued) e walks)

small_frame_written : (nodes : List Node) (room met : ℕ) (tags : List ℕ) (values : List Ref) (bytes numbered : List ℕ) (tagged valued : List Node) (at : At nodes (Frame tags values ∷ (tagged ++ valued)) met) → IsSound nodes → AreNumbered nodes met numbered
    → WalkLabels (suc met) tags tagged → Walks room (suc met + length tagged) values valued → IsSmall nodes met tags values bytes
    → IsObject nodes (suc room) met at.before numbered (refs.Node met) (Frame tags values ∷ (tagged ++ valued)) (11 ∷ bytes, numbered ++ met ∷ [])
small_frame_written nodes room met tags values bytes numbered tagged valued at sound are labels walks small =
    let node = Frame tags values in
    let at_later = at_first nodes tagged valued (suc met) (at_inside nodes node (tagged ++ valued) met at) in
    let each = sides_interned labels nodes at_later sound met (omega arith) sides small.tags_are in
    let none : valued ≡ [] = small_values small.top small.left small.bottom small.right small.values_are walks in
    let news : tagged ++ valued ≡ tagged = ap (λ (x : List Node). tagged ++ x) none ∙ append-nil tagged in
    let made : Object false (suc room) at.before numbered (11 ∷ small.top ∷ small.left ∷ small.bottom ∷ small.right ∷ []) (refs.Node (length at.before)) (Frame tags (corners small.top small.left small.bottom small.right) ∷ tagged) (numbered ++ length at.before ∷ [])
    = Object.rectangle small.top_few small.left_few small.bottom_few small.right_few
    (subst (λ (x : List Ref). InternedEach (at.before ++ Frame tags x ∷ []) sides tags tagged) small.values_are each) in
    object_at nodes (suc room) met numbered node (tagged ++ valued) at (11 ∷ bytes, numbered ++ met ∷ [])
    (rw (small.bytes_are, news, small.values_are, numbered_at nodes (node ∷ (tagged ++ valued)) met numbered at) made)
    (subst (λ (n : ℕ). AreNumbered nodes n (numbered ++ met ∷ [])) (omega (arith, ap length news))
    (labels_none labels nodes at_later (numbered ++ met ∷ []) (number_next nodes met numbered are)))

frame_written : (nodes : List Node) (room met : ℕ) (tags : List ℕ) (values : List Ref) (numbered : List ℕ) (tagged valued : List Node) (at : At nodes (Frame tags values ∷ (tagged ++ valued)) met) → IsSound nodes → AreNumbered nodes met numbered
    → WalkLabels (suc met) tags tagged → Walks room (suc met + length tagged) values valued
    → ((after : List ℕ) → AreNumbered nodes (suc met + length tagged) after → AreObjects nodes room (suc met + length tagged) ((at.before ++ Frame tags values ∷ []) ++ tagged) after values valued (each_text (inner_text (suc room) nodes) values after))
    → IsObject nodes (suc room) met at.before numbered (refs.Node met) (Frame tags values ∷ (tagged ++ valued)) (small_or (small_frame nodes met tags values) met numbered (frame_text (inner_text (suc room) nodes) nodes met tags values numbered))
frame_written nodes room met tags values numbered tagged valued at sound are labels walks inside = go (small_frame nodes met tags values) refl
  where
    node_here : IsFrame nodes tags values
    node_here = node_is nodes met (Frame tags values) sound (at_here nodes (Frame tags values) (tagged ++ valued) met at)

    go : (o : Option (List ℕ)) → small_frame nodes met tags values ≡ o → IsObject nodes (suc room) met at.before numbered (refs.Node met) (Frame tags values ∷ (tagged ++ valued)) (small_or o met numbered (frame_text (inner_text (suc room) nodes) nodes met tags values numbered))
    go (Some bytes) e = small_frame_written nodes room met tags values bytes numbered tagged valued at sound are labels walks (frame_small nodes met tags values bytes node_here.paired e)
    go None e = full_frame_written nodes room met tags values numbered tagged valued at sound are labels inside

again_written : (nodes : List Node) (room met k : ℕ) (numbered : List ℕ) (at : At nodes [] met) → IsSound nodes → AreNumbered nodes met numbered → k < met → IsObject nodes room met at.before numbered (refs.Node k) [] (value_text (suc room) nodes (refs.Node k) numbered)
again_written nodes room met k numbered at sound are lt = rw (node_text room nodes k numbered) (go (number_of k numbered) refl)
  where
    go : (o : Option ℕ) → number_of k numbered ≡ o → IsObject nodes room met at.before numbered (refs.Node k) [] (numbered_or o numbered (new_node (inner_text room nodes) nodes k (slice_get nodes k) numbered))
    go (Some place) e = record {
      object = Object.again (precedent nodes numbered met k place are (omega (arith, at_length nodes [] met at, sound.few)) e);
      after = stays nodes met numbered are;
    }
    go None e =
        let none = has_none k numbered e in
        let is = are.others k lt none in
        rw is.1 (record {
          object = Object.symbol (symbol_again nodes is.0 numbered met k at sound lt is.1);
          after = stays nodes met (numbered ++ k ∷ []) (number_again nodes met k numbered are lt none);
        })

word_written : (nodes : List Node) (room met : ℕ) (w : ℤ) (numbered : List ℕ) (before : List Node) → IsWord w → AreNumbered nodes met numbered → IsObject nodes room met before numbered (refs.Imm w) [] (value_text (suc room) nodes (refs.Imm w) numbered)
unfolding value_text
word_written nodes room met w numbered before is are = record { object = word_spelled w is room before numbered; after = stays nodes met numbered are }

mutual
  unfolding each_text

  value_written : {room met : ℕ} {value : Ref} {new : List Node} → Walk room met value new → (nodes : List Node) (at : At nodes new met) → IsSound nodes → (numbered : List ℕ) → AreNumbered nodes met numbered → IsObject nodes room met at.before numbered value new (value_text (suc room) nodes value numbered)
  value_written (Walk.word {room} {met} {w} is) nodes at sound numbered are = word_written nodes room met w numbered at.before is are
  value_written (Walk.again {room} {met} {k} lt) nodes at sound numbered are = again_written nodes room met k numbered at sound are lt
  value_written (Walk.symbol {room} {met} {name}) nodes at sound numbered are =
      rw (in_full room nodes met numbered (Symbol name) are (at_here nodes (Symbol name) [] met at)) (record {
        object = Object.symbol (symbol_new nodes name numbered met at sound);
        after = goes_on nodes met (numbered ++ met ∷ []) (Symbol name) (number_next nodes met numbered are);
      })
  value_written (Walk.string {room} {met} {units}) nodes at sound numbered are =
      rw (in_full room nodes met numbered (Str units) are (at_here nodes (Str units) [] met at)) (string_written nodes room met units numbered at sound are)
  value_written (Walk.binary {room} {met} {class} {bytes} {new} label) nodes at sound numbered are =
      rw (in_full room nodes met numbered (Binary class bytes) are (at_here nodes (Binary class bytes) new met at)) (binary_written nodes room met class bytes numbered new at sound are label)
  value_written (Walk.large {room} {met} {class} {bytes} {new} label) nodes at sound numbered are =
      rw (in_full room nodes met numbered (Large class bytes) are (at_here nodes (Large class bytes) new met at)) (large_written nodes room met class bytes numbered new at sound are label)
  value_written (Walk.frame {room} {met} {tags} {values} {tagged} {valued} labels ws) nodes at sound numbered are =
      let inside = at_rest nodes tagged valued (suc met) (at_inside nodes (Frame tags values) (tagged ++ valued) met at) in
      rw (in_full (suc room) nodes met numbered (Frame tags values) are (at_here nodes (Frame tags values) (tagged ++ valued) met at))
      (frame_written nodes room met tags values numbered tagged valued at sound are labels ws (λ after are. values_written ws nodes inside sound after are))
  value_written (Walk.plain_array {room} {met} {values} {valued} ws) nodes at sound numbered are =
      let inside = at_inside nodes (Array None values) valued met at in
      rw (in_full (suc room) nodes met numbered (Array None values) are (at_here nodes (Array None values) valued met at))
      (plain_array_written nodes room met values numbered valued at sound (values_written ws nodes inside sound (numbered ++ met ∷ []) (number_next nodes met numbered are)))
  value_written (Walk.array {room} {met} {class} {values} {first} {valued} label ws) nodes at sound numbered are =
      let inside = at_rest nodes first valued (suc met) (at_inside nodes (Array (Some class) values) (first ++ valued) met at) in
      rw (in_full (suc room) nodes met numbered (Array (Some class) values) are (at_here nodes (Array (Some class) values) (first ++ valued) met at))
      (array_written nodes room met class values numbered first valued at sound are label (λ after are. values_written ws nodes inside sound after are))

  values_written : {room met : ℕ} {values : List Ref} {new : List Node} → Walks room met values new → (nodes : List Node) (at : At nodes new met) → IsSound nodes → (numbered : List ℕ) → AreNumbered nodes met numbered → AreObjects nodes room met at.before numbered values new (each_text (inner_text (suc room) nodes) values numbered)
  values_written (Walks.none {room} {met}) nodes at sound numbered are = record { objects = Objects.none; after = stays nodes met numbered are }
  values_written (Walks.more {room} {met} {value} {values} {first} {others} w ws) nodes at sound numbered are =
      let one = value_written w nodes (at_first nodes first others met at) sound numbered are in
      let rest = values_written ws nodes (at_rest nodes first others met at) sound (value_text (suc room) nodes value numbered).1 one.after in
      record {
        objects = Objects.more one.object rest.objects;
        after = subst (λ (n : ℕ). AreNumbered nodes n (each_text (inner_text (suc room) nodes) (value ∷ values) numbered).1) (omega (arith, length-append first others)) rest.after;
      }

pub written_spells : (g : RawGraph) → IsGraph g → Spells (nsof g) g
unfolding nsof
written_spells g is =
    let at : At g.nodes g.nodes 0 = record { before = []; later = []; whole = sym (append-nil g.nodes); met_is = refl } in
    let text = value_text 201 g.nodes g.root [] in
    let made = value_written is.walk g.nodes at (record { each = is.each; once = is.folded_once; few = is.few }) [] (none_numbered g.nodes) in
    record {
      text = text.0;
      numbered = text.1;
      whole = refl;
      object = made.object;
      few = is.few;
      light = is.light;
    }
