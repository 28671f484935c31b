-- The flat text of a graph spells it.
use Rattle.std.proofs.Common.{◌≡◌, false, ℕ, zero, suc, ◌+◌, ◌*◌, ◌-◌, ◌<◌, ◌≤◌, List, [], ◌∷◌, ◌++◌, length, All, Some, None, refl, sym, ap, subst, ◌∙◌, append_assoc, arith, inl, inr, ◌⊎◌, add-one}
use Rattle.std.specs.Prelude.{slice_get}
use Rattle.std.proofs.lemmas.List.{append-nil, length-append, length_push}
use Rattle.std.proofs.lemmas.List.Elements.{All-head, All-tail}
use Rattle.std.proofs.lemmas.Option.{slice_get_within, get_or_from_slice_get}
use Rattle.newt_graph.specs.declared.node.Node.{Node}
use Rattle.newt_graph.specs.declared.node.Node.TheVariants.{Symbol, Str, Binary, Large, Array, Frame}
use Rattle.newt_graph.specs.declared.node.Ref.{Ref}
use Rattle.newt_graph.specs.declared.node.Ref.TheVariants as refs
use Rattle.newt_graph.specs.Graph.{RawGraph, IsNamed, IsSymbol, IsAlike, IsName, IsNode, IsFrame, IsText, IsData, AreFoldedOnce, IsGraph, WalkLabel, WalkLabels, Walk, Walks}
use Rattle.newt_spec_nsof.specs.Text.{Interned, SymbolText, Again, Label, Labels, Object, Objects, Spells, large_text}
use Rattle.newt_graph.specs.Slice.{At}
use Rattle.newt_spec_nsof.specs.Flat.{symbol_text, again_text, count_text, each_text, label_text, frame_text, plain_array_text, array_text, string_text, binary_text, plain_large_text, value_text, flat}
use Rattle.newt_graph.proofs.Elements.{get_append}
use Rattle.newt_graph.proofs.Slices.{at_first, at_rest, at_inside, at_here, at_length}
use Rattle.newt_spec_nsof.proofs.Places.{label_met, labels_met, value_met, label_again, label_new, word_as, again_in_short, symbol_in_full, frame_in_full, plain_array_in_full, array_in_full, string_in_full, binary_in_full, large_in_full}
use Rattle.newt_spec_nsof.proofs.Xlongs.{count_spelled, word_spelled}

-- the numbered objects of a flat text: each node, in order
abbrev upto : ℕ → List ℕ
upto zero = []
upto (suc n) = upto n ++ n ∷ []

length-upto : (n : ℕ) → length (upto n) ≡ n
length-upto zero = refl
length-upto (suc n) = omega (arith, length_push (upto n) n, length-upto n)

get_last : (n : ℕ) → slice_get (upto n ++ n ∷ []) (length (upto n)) ≡ Some n
get_last n = go (upto n)
  where
    go : (xs : List ℕ) → slice_get (xs ++ n ∷ []) (length xs) ≡ Some n
    go [] = refl
    go (x ∷ xs) = go xs

get_upto : (n k : ℕ) → k < n → slice_get (upto n) k ≡ Some k
get_upto zero k lt = absurd (omega arith)
get_upto (suc n) k lt =
    elim (order k n lt) [
      | inl less ↦ get_append (upto n) (n ∷ []) k k (get_upto n k less)
      | inr same ↦ rw same (ap (slice_get (upto n ++ n ∷ [])) (sym (length-upto n)) ∙ get_last n)
    ]
  where
    order : (k n : ℕ) → k < suc n → (k < n) ⊎ (k ≡ n)
    order k n lt = grind arith

-- of an element within a front
pub get_front : {X : Type 0} (xs ys : List X) (k : ℕ) → k < length xs → slice_get (xs ++ ys) k ≡ slice_get xs k
get_front [] ys k lt = absurd (omega arith)
get_front (x ∷ xs) ys zero lt = refl
get_front (x ∷ xs) ys (suc k) lt = get_front xs ys k (omega arith)

-- what the walk relies on at each node
pub record IsSound (nodes : List Node) : Type 0 where
  pub each : All (IsNode nodes) nodes
  pub once : AreFoldedOnce nodes
  pub few : length nodes ≤ 65535

pub node_is : (nodes : List Node) (k : ℕ) (node : Node) → IsSound nodes → slice_get nodes k ≡ Some node → IsNode nodes node
node_is nodes k node sound e = subst (IsNode nodes) (get_or_from_slice_get nodes k node node e) (sound.each k node (slice_get_within nodes k node e))

pub before_symbol : (nodes new : List Node) (met k : ℕ) (at : At nodes new met) → k < met → IsSymbol nodes k → IsSymbol at.before k
before_symbol nodes new met k at lt h =
    (h.0, sym (get_front at.before (new ++ at.later) k (omega (arith, at.met_is))) ∙ ap (λ (x : List Node). slice_get x k) (sym at.whole) ∙ h.1)

pub none_before : (nodes : List Node) (name : List ℕ) (met : ℕ) (at : At nodes (Symbol name ∷ []) met) → IsSound nodes → (k : ℕ) → IsAlike at.before k name → ⊥
none_before nodes name met at sound k alike =
    let lt : k < length at.before = slice_get_within at.before k (Symbol alike.0) alike.1 in
    let there : IsNamed nodes k alike.0 = ap (λ (x : List Node). slice_get x k) at.whole ∙ get_append at.before _ k (Symbol alike.0) alike.1 in
    let same : met ≡ k = sound.once met k name (at_here nodes (Symbol name) [] met at) (alike.0, there, alike.2) in
    omega (arith, at.met_is, same, lt)

-- ---- labels

symbol_spelled : (nodes : List Node) (name : List ℕ) (met : ℕ) (at : At nodes (Symbol name ∷ []) met) → IsSound nodes → SymbolText at.before (upto met) (symbol_text name) met (Symbol name ∷ []) (upto (suc met))
symbol_spelled nodes name met at sound =
    let is : IsName name = node_is nodes met (Symbol name) sound (at_here nodes (Symbol name) [] met at) in
    subst (λ (n : ℕ). SymbolText at.before (upto met) (symbol_text name) n (Symbol name ∷ []) (upto met ++ n ∷ [])) at.met_is
    (SymbolText.symbol (count_spelled (length name) (omega (arith, is.few))) is (Interned.first (none_before nodes name met at sound)))

again_spelled : (met k : ℕ) → k < met → met ≤ 65535 → Again (upto met) (again_text k) k
again_spelled met k lt few = Again.again (count_spelled k (omega arith)) (get_upto met k lt)

upto_same : (m n : ℕ) → m ≡ n → upto m ≡ upto n
upto_same m n e = ap upto e

label_spelled : {met k : ℕ} {new : List Node} → WalkLabel met k new → (nodes : List Node) (at : At nodes new met) → IsSound nodes → IsSymbol nodes k → Label at.before (upto met) (label_text nodes k met).0 k new (upto (met + length new))
label_spelled (WalkLabel.again {met} {k} lt) nodes at sound is =
    rw (label_again nodes k met lt, upto_same (met + 0) met (omega arith))
    (Label.again (again_spelled met k lt (omega (arith, at_length nodes [] met at, sound.few))) (before_symbol nodes [] met k at lt is))
label_spelled (WalkLabel.symbol {met} {name}) nodes at sound is =
    rw (label_new nodes met name at, upto_same (met + 1) (suc met) (omega arith)) (Label.symbol (symbol_spelled nodes name met at sound))

labels_spelled : {met : ℕ} {ks : List ℕ} {new : List Node} → WalkLabels met ks new → (nodes : List Node) (at : At nodes new met) → IsSound nodes → All (IsSymbol nodes) ks → Labels at.before (upto met) (each_text (label_text nodes) ks met).0 ks new (upto (met + length new))
unfolding each_text
labels_spelled (WalkLabels.none {met}) nodes at sound are = rw (upto_same (met + 0) met (omega arith)) Labels.none
labels_spelled (WalkLabels.more {met} {k} {ks} {first} {others} w ws) nodes at sound are =
    let one = label_spelled w nodes (at_first nodes first others met at) sound (All-head (IsSymbol nodes) k ks are) in
    let rest = labels_spelled ws nodes (at_rest nodes first others met at) sound (All-tail (IsSymbol nodes) k ks are) in
    rw (label_met w nodes (at_first nodes first others met at), upto_same (met + length (first ++ others)) (met + length first + length others) (omega (arith, length-append first others)))
    (Labels.more one rest)

-- ---- values

frame_spelled : (room : ℕ) (nodes : List Node) (met : ℕ) (tags : List ℕ) (values : List Ref) (tagged valued : List Node) (parts : List ℕ) (at : At nodes (Frame tags values ∷ (tagged ++ valued)) met) → IsSound nodes
    → WalkLabels (suc met) tags tagged
    → Objects false room ((at.before ++ Frame tags values ∷ []) ++ tagged) (upto (suc met + length tagged)) parts values valued (upto (suc met + length tagged + length valued))
    → Object false (suc room) at.before (upto met) (6 ∷ (count_text (length tags) ++ ((each_text (label_text nodes) tags (suc met)).0 ++ parts))) (refs.Node met) (Frame tags values ∷ (tagged ++ valued)) (upto (met + length (Frame tags values ∷ (tagged ++ valued))))
frame_spelled room nodes met tags values tagged valued parts at sound labels objects =
    let frame = Frame tags values in
    let is : IsFrame nodes tags values = node_is nodes met frame sound (at_here nodes frame (tagged ++ valued) met at) in
    let inside = at_inside nodes frame (tagged ++ valued) met at in
    let tagged_is = labels_spelled labels nodes (at_first nodes tagged valued (suc met) inside) sound is.symbols in
    let numbered : upto (suc met) ≡ upto met ++ length at.before ∷ [] = ap (λ (n : ℕ). upto met ++ n ∷ []) (sym at.met_is) in
    let first : Labels (at.before ++ frame ∷ []) (upto met ++ length at.before ∷ []) (each_text (label_text nodes) tags (suc met)).0 tags tagged (upto (suc met + length tagged)) =
    subst (λ (x : List ℕ). Labels (at.before ++ frame ∷ []) x (each_text (label_text nodes) tags (suc met)).0 tags tagged (upto (suc met + length tagged))) numbered tagged_is in
    let second : Objects false room (at.before ++ frame ∷ tagged) (upto (suc met + length tagged)) parts values valued (upto (suc met + length tagged + length valued)) =
    subst (λ (x : List Node). Objects false room x (upto (suc met + length tagged)) parts values valued (upto (suc met + length tagged + length valued))) (append_assoc at.before (frame ∷ []) tagged) objects in
    let text = 6 ∷ (count_text (length tags) ++ ((each_text (label_text nodes) tags (suc met)).0 ++ parts)) in
    let last = upto (suc met + length tagged + length valued) in
    let made : Object false (suc room) at.before (upto met) text (refs.Node (length at.before)) (frame ∷ (tagged ++ valued)) last =
    Object.frame (count_spelled (length tags) (omega (arith, is.are_tags.few))) is.are_tags is.paired first second in
    rw (upto_same (met + suc (length (tagged ++ valued))) (suc met + length tagged + length valued) (omega (arith, length-append tagged valued)))
    (subst (λ (n : ℕ). Object false (suc room) at.before (upto met) text (refs.Node n) (frame ∷ (tagged ++ valued)) last) at.met_is made)

string_spelled : (room : ℕ) (nodes : List Node) (met : ℕ) (units : List ℕ) (at : At nodes (Str units ∷ []) met) → IsSound nodes → Object false room at.before (upto met) (string_text units) (refs.Node met) (Str units ∷ []) (upto (suc met))
string_spelled room nodes met units at sound =
    let is : IsText units = node_is nodes met (Str units) sound (at_here nodes (Str units) [] met at) in
    subst (λ (n : ℕ). Object false room at.before (upto met) (string_text units) (refs.Node n) (Str units ∷ []) (upto met ++ n ∷ [])) at.met_is
    (Object.string (count_spelled (2 * length units + 2) (omega (arith, is.few))) is)

binary_spelled : (room : ℕ) (nodes : List Node) (met class : ℕ) (bytes : List ℕ) (new : List Node) (at : At nodes (Binary class bytes ∷ new) met) → IsSound nodes → WalkLabel (suc met) class new
    → Object false room at.before (upto met) (3 ∷ (count_text (length bytes) ++ ((label_text nodes class (suc met)).0 ++ bytes))) (refs.Node met) (Binary class bytes ∷ new) (upto (met + length (Binary class bytes ∷ new)))
binary_spelled room nodes met class bytes new at sound label =
    let node = Binary class bytes in
    let is : IsSymbol nodes class × IsData bytes = node_is nodes met node sound (at_here nodes node new met at) in
    let label_is = label_spelled label nodes (at_inside nodes node new met at) sound is.0 in
    let numbered : upto (suc met) ≡ upto met ++ length at.before ∷ [] = ap (λ (n : ℕ). upto met ++ n ∷ []) (sym at.met_is) in
    let last = upto (suc met + length new) in
    let labelled : Label (at.before ++ node ∷ []) (upto met ++ length at.before ∷ []) (label_text nodes class (suc met)).0 class new last =
    subst (λ (x : List ℕ). Label (at.before ++ node ∷ []) x (label_text nodes class (suc met)).0 class new last) numbered label_is in
    let text = 3 ∷ (count_text (length bytes) ++ ((label_text nodes class (suc met)).0 ++ bytes)) in
    let made : Object false room at.before (upto met) text (refs.Node (length at.before)) (node ∷ new) last =
    Object.binary (count_spelled (length bytes) (omega (arith, is.1.few))) is.1 labelled in
    rw (upto_same (met + suc (length new)) (suc met + length new) (omega arith))
    (subst (λ (n : ℕ). Object false room at.before (upto met) text (refs.Node n) (node ∷ new) last) at.met_is made)

large_spelled : (room : ℕ) (nodes : List Node) (met class : ℕ) (bytes : List ℕ) (new : List Node) (at : At nodes (Large class bytes ∷ new) met) → IsSound nodes → WalkLabel (suc met) class new
    → Object false room at.before (upto met) (12 ∷ ((label_text nodes class (suc met)).0 ++ large_text 0 0 [] [] bytes)) (refs.Node met) (Large class bytes ∷ new) (upto (met + length (Large class bytes ∷ new)))
large_spelled room nodes met class bytes new at sound label =
    let node = Large class bytes in
    let is : IsSymbol nodes class × IsData bytes = node_is nodes met node sound (at_here nodes node new met at) in
    let label_is = label_spelled label nodes (at_inside nodes node new met at) sound is.0 in
    let numbered : upto (suc met) ≡ upto met ++ length at.before ∷ [] = ap (λ (n : ℕ). upto met ++ n ∷ []) (sym at.met_is) in
    let last = upto (suc met + length new) in
    let labelled : Label (at.before ++ node ∷ []) (upto met ++ length at.before ∷ []) (label_text nodes class (suc met)).0 class new last =
    subst (λ (x : List ℕ). Label (at.before ++ node ∷ []) x (label_text nodes class (suc met)).0 class new last) numbered label_is in
    let text = 12 ∷ ((label_text nodes class (suc met)).0 ++ large_text 0 0 [] [] bytes) in
    let made : Object false room at.before (upto met) text (refs.Node (length at.before)) (node ∷ new) last =
    Object.large labelled (record { flag = 0; free = 0; compander = []; parameters = []; is_flag = refl; is_data = is.1; compander_fits = omega arith; parameters_fit = omega arith; free_fits = omega arith; whole = refl }) in
    rw (upto_same (met + suc (length new)) (suc met + length new) (omega arith))
    (subst (λ (n : ℕ). Object false room at.before (upto met) text (refs.Node n) (node ∷ new) last) at.met_is made)

plain_array_spelled : (room : ℕ) (nodes : List Node) (met : ℕ) (values : List Ref) (valued : List Node) (parts : List ℕ) (at : At nodes (Array None values ∷ valued) met) → IsSound nodes
    → Objects false room (at.before ++ Array None values ∷ []) (upto (suc met)) parts values valued (upto (suc met + length valued))
    → Object false (suc room) at.before (upto met) (5 ∷ (count_text (length values) ++ parts)) (refs.Node met) (Array None values ∷ valued) (upto (met + length (Array None values ∷ valued)))
plain_array_spelled room nodes met values valued parts at sound objects =
    let node = Array None values in
    let few : length values ≤ 65535 = node_is nodes met node sound (at_here nodes node valued met at) in
    let numbered : upto (suc met) ≡ upto met ++ length at.before ∷ [] = ap (λ (n : ℕ). upto met ++ n ∷ []) (sym at.met_is) in
    let text = 5 ∷ (count_text (length values) ++ parts) in
    let last = upto (suc met + length valued) in
    let made : Object false (suc room) at.before (upto met) text (refs.Node (length at.before)) (node ∷ valued) last =
    Object.plain_array (count_spelled (length values) (omega (arith, few))) few (subst (λ (x : List ℕ). Objects false room (at.before ++ node ∷ []) x parts values valued last) numbered objects) in
    rw (upto_same (met + suc (length valued)) (suc met + length valued) (omega arith))
    (subst (λ (n : ℕ). Object false (suc room) at.before (upto met) text (refs.Node n) (node ∷ valued) last) at.met_is made)

array_spelled : (room : ℕ) (nodes : List Node) (met class : ℕ) (values : List Ref) (first valued : List Node) (parts : List ℕ) (at : At nodes (Array (Some class) values ∷ (first ++ valued)) met) → IsSound nodes
    → WalkLabel (suc met) class first
    → Objects false room ((at.before ++ Array (Some class) values ∷ []) ++ first) (upto (suc met + length first)) parts values valued (upto (suc met + length first + length valued))
    → Object false (suc room) at.before (upto met) (4 ∷ (count_text (length values) ++ ((label_text nodes class (suc met)).0 ++ parts))) (refs.Node met) (Array (Some class) values ∷ (first ++ valued)) (upto (met + length (Array (Some class) values ∷ (first ++ valued))))
array_spelled room nodes met class values first valued parts at sound label objects =
    let node = Array (Some class) values in
    let is : IsSymbol nodes class × (length values ≤ 65535) = node_is nodes met node sound (at_here nodes node (first ++ valued) met at) in
    let inside = at_inside nodes node (first ++ valued) met at in
    let label_is = label_spelled label nodes (at_first nodes first valued (suc met) inside) sound is.0 in
    let numbered : upto (suc met) ≡ upto met ++ length at.before ∷ [] = ap (λ (n : ℕ). upto met ++ n ∷ []) (sym at.met_is) in
    let labelled : Label (at.before ++ node ∷ []) (upto met ++ length at.before ∷ []) (label_text nodes class (suc met)).0 class first (upto (suc met + length first)) =
    subst (λ (x : List ℕ). Label (at.before ++ node ∷ []) x (label_text nodes class (suc met)).0 class first (upto (suc met + length first))) numbered label_is in
    let text = 4 ∷ (count_text (length values) ++ ((label_text nodes class (suc met)).0 ++ parts)) in
    let last = upto (suc met + length first + length valued) in
    let second : Objects false room (at.before ++ node ∷ first) (upto (suc met + length first)) parts values valued last =
    subst (λ (x : List Node). Objects false room x (upto (suc met + length first)) parts values valued last) (append_assoc at.before (node ∷ []) first) objects in
    let made : Object false (suc room) at.before (upto met) text (refs.Node (length at.before)) (node ∷ (first ++ valued)) last =
    Object.array (count_spelled (length values) (omega (arith, is.1))) is.1 labelled second in
    rw (upto_same (met + suc (length (first ++ valued))) (suc met + length first + length valued) (omega (arith, length-append first valued)))
    (subst (λ (n : ℕ). Object false (suc room) at.before (upto met) text (refs.Node n) (node ∷ (first ++ valued)) last) at.met_is made)

mutual
  unfolding each_text frame_text plain_array_text array_text binary_text plain_large_text

  value_spelled : {room met : ℕ} {value : Ref} {new : List Node} → Walk room met value new → (nodes : List Node) (at : At nodes new met) → IsSound nodes → Object false room at.before (upto met) (value_text room nodes value met).0 value new (upto (met + length new))
  value_spelled (Walk.word {room} {met} {w} is) nodes at sound = rw (word_as room nodes w met, upto_same (met + 0) met (omega arith)) (word_spelled w is room at.before (upto met))
  value_spelled (Walk.again {room} {met} {k} lt) nodes at sound =
      rw (again_in_short room met k nodes lt, upto_same (met + 0) met (omega arith)) (Object.again (again_spelled met k lt (omega (arith, at_length nodes [] met at, sound.few))))
  value_spelled (Walk.symbol {room} {met} {name}) nodes at sound =
      rw (symbol_in_full room met met nodes name (omega arith) (at_here nodes (Symbol name) [] met at), upto_same (met + 1) (suc met) (omega arith)) (Object.symbol (symbol_spelled nodes name met at sound))
  value_spelled (Walk.frame {room} {met} {tags} {values} {tagged} {valued} labels ws) nodes at sound =
      let inside = at_inside nodes (Frame tags values) (tagged ++ valued) met at in
      let less : suc room - 1 ≡ room = omega arith in
      rw (frame_in_full (suc room) met met nodes tags values (omega arith) (omega arith) (at_here nodes (Frame tags values) (tagged ++ valued) met at), less, add-one, labels_met labels nodes (at_first nodes tagged valued (suc met) inside))
      (frame_spelled room nodes met tags values tagged valued _ at sound labels (values_spelled ws nodes (at_rest nodes tagged valued (suc met) inside) sound))
  value_spelled (Walk.string {room} {met} {units}) nodes at sound =
      rw (string_in_full room met met nodes units (omega arith) (at_here nodes (Str units) [] met at), upto_same (met + 1) (suc met) (omega arith)) (string_spelled room nodes met units at sound)
  value_spelled (Walk.binary {room} {met} {class} {bytes} {new} label) nodes at sound =
      rw (binary_in_full room met met nodes class bytes (omega arith) (at_here nodes (Binary class bytes) new met at), add-one) (binary_spelled room nodes met class bytes new at sound label)
  value_spelled (Walk.large {room} {met} {class} {bytes} {new} label) nodes at sound =
      rw (large_in_full room met met nodes class bytes (omega arith) (at_here nodes (Large class bytes) new met at), add-one) (large_spelled room nodes met class bytes new at sound label)
  value_spelled (Walk.plain_array {room} {met} {values} {valued} ws) nodes at sound =
      let less : suc room - 1 ≡ room = omega arith in
      rw (plain_array_in_full (suc room) met met nodes values (omega arith) (omega arith) (at_here nodes (Array None values) valued met at), less, add-one)
      (plain_array_spelled room nodes met values valued _ at sound (values_spelled ws nodes (at_inside nodes (Array None values) valued met at) sound))
  value_spelled (Walk.array {room} {met} {class} {values} {first} {valued} label ws) nodes at sound =
      let inside = at_inside nodes (Array (Some class) values) (first ++ valued) met at in
      let less : suc room - 1 ≡ room = omega arith in
      rw (array_in_full (suc room) met met nodes class values (omega arith) (omega arith) (at_here nodes (Array (Some class) values) (first ++ valued) met at), less, add-one, label_met label nodes (at_first nodes first valued (suc met) inside))
      (array_spelled room nodes met class values first valued _ at sound label (values_spelled ws nodes (at_rest nodes first valued (suc met) inside) sound))

  values_spelled : {room met : ℕ} {values : List Ref} {new : List Node} → Walks room met values new → (nodes : List Node) (at : At nodes new met) → IsSound nodes → Objects false room at.before (upto met) (each_text (λ value met. value_text room nodes value met) values met).0 values new (upto (met + length new))
  values_spelled (Walks.none {room} {met}) nodes at sound = rw (upto_same (met + 0) met (omega arith)) Objects.none
  values_spelled (Walks.more {room} {met} {value} {values} {first} {others} w ws) nodes at sound =
      let one = value_spelled w nodes (at_first nodes first others met at) sound in
      let rest = values_spelled ws nodes (at_rest nodes first others met at) sound in
      rw (value_met w nodes (at_first nodes first others met at), upto_same (met + length (first ++ others)) (met + length first + length others) (omega (arith, length-append first others)))
      (Objects.more one rest)

pub flat_spells : (g : RawGraph) → IsGraph g → Spells (flat g) g
unfolding flat
flat_spells g is =
    let at : At g.nodes g.nodes 0 = record { before = []; later = []; whole = sym (append-nil g.nodes); met_is = refl } in
    record {
      text = (value_text 200 g.nodes g.root 0).0;
      numbered = upto (0 + length g.nodes);
      whole = refl;
      object = value_spelled is.walk g.nodes at (record { each = is.each; once = is.folded_once; few = is.few });
      few = is.few;
      light = is.light;
    }
