-- What is spelled is in normal form: the nodes stand in the order in which the walk meets them.
use Rattle.std.proofs.Common.{◌≡◌, ◌≢◌, Bool, true, false, eqb, leb, ltb, ℕ, suc, ◌+◌, ◌<◌, ◌≤◌, List, [], ◌∷◌, ◌++◌, length, All, Some, None, refl, sym, ap, subst, ◌∙◌, append_assoc, arith, inl, inr}
use Rattle.std.specs.Prelude.{slice_get, pos, ◌*◌}
use Rattle.std.specs.Prelude.{ℤ, ◌&&◌}
use Rattle.std.specs.Char.{to_ascii_lowercase}
use Rattle.std.specs.List.{IsDistinct, AllByRecursion, list_all}
use Rattle.std.proofs.lemmas.Bool.{ne_eqb, and_parts, leb-true, ltb-true}
use Rattle.std.proofs.lemmas.Bool.Decides.{Decides-eqb}
use Rattle.std.proofs.lemmas.Map.Made.{AllPairs-from_IsDistinct}
use Rattle.std.proofs.lemmas.List.Sums.{AllPass-from_list_all}
use Rattle.std.proofs.lemmas.List.{append-nil, length-append, length_push, length-map}
use Rattle.std.proofs.lemmas.List.Elements.{All-nil, All-cons, All-append}
use Rattle.std.proofs.lemmas.Option.{slice_get_within}
use Rattle.newt_graph.specs.declared.node.Node.{Node}
use Rattle.newt_graph.specs.declared.node.Node.TheVariants.{Symbol, Str, Binary, Large, Array, Frame}
use Rattle.newt_graph.specs.declared.node.Ref.{Ref}
use Rattle.newt_graph.specs.declared.node.Ref.TheVariants as refs
use Rattle.newt_graph.specs.Graph.{RawGraph, IsWord, IsName, IsNamed, IsSymbol, IsAlike, folded, AreTags, IsData, IsNode, IsGraph, WalkLabel, WalkLabels, Walk, Walks}
use Rattle.newt_graph.proofs.Elements.{get_seam, at_push}
use Rattle.newt_graph.proofs.Words.{integer_word, character_word}
use Rattle.newt_graph.proofs.Drafts.{symbol_append, alike_append}
use Rattle.newt_spec_nsof.specs.Text.{Interned, InternedEach, sides, corners, SymbolText, Again, Label, Labels, Object, Objects, SpellsBy}
use Rattle.newt_spec_nsof.proofs.Once.{object_once}

-- each number of a list is below n
abbrev Below : ℕ → List ℕ → Type 0
Below n ks = (i k : ℕ) → slice_get ks i ≡ Some k → k < n

below_more : (m n : ℕ) (ks : List ℕ) → m ≤ n → Below m ks → Below n ks
below_more m n ks le h i k e = omega (arith, h i k e)

below_push : (n k : ℕ) (ks : List ℕ) → k < n → Below n ks → Below n (ks ++ k ∷ [])
below_push n k ks lt h i j e = elim (at_push ks k i j e) [ inl old ↦ h i j old | inr last ↦ omega (arith, last.1) ]

-- what was met, and that the numbered objects are below it
record Walked (P : ℕ → List Node → Type 0) (before new : List Node) (after : List ℕ) : Type 0 where
  walk : P (length before) new
  below : Below (length before + length new) after

interned_walks : {before new : List Node} {name : List ℕ} {k : ℕ} → Interned before name k new → WalkLabel (length before) k new
interned_walks (Interned.first none) = WalkLabel.symbol
interned_walks {before} (Interned.alike {k} alike) = WalkLabel.again (slice_get_within before k _ alike.1)

interned_below : {before new : List Node} {name : List ℕ} {k : ℕ} → Interned before name k new → k < length before + length new
interned_below (Interned.first none) = omega arith
interned_below {before} (Interned.alike {k} alike) = omega (arith, slice_get_within before k _ alike.1)

interned_each_walk : {before new : List Node} {names : List (List ℕ)} {ks : List ℕ} → InternedEach before names ks new → WalkLabels (length before) ks new
interned_each_walk InternedEach.none = WalkLabels.none
interned_each_walk (InternedEach.more {before} {new} {ks} {news} h hs) = WalkLabels.more (interned_walks h) (subst (λ (n : ℕ). WalkLabels n ks news) (length-append before new) (interned_each_walk hs))

symbol_walks : {before new : List Node} {numbered text after : List ℕ} {k : ℕ} → SymbolText before numbered text k new after → Below (length before) numbered → Walked (λ n. WalkLabel n k) before new after
symbol_walks {before} {numbered = numbered} (SymbolText.symbol {k} {new} h is i) below = record {
  walk = interned_walks i;
  below = below_push (length before + length new) k numbered (interned_below i) (below_more (length before) (length before + length new) numbered (omega arith) below);
}

again_walks : {numbered text : List ℕ} {k : ℕ} → Again numbered text k → (before : List Node) → Below (length before) numbered → Walked (λ n. WalkLabel n k) before [] numbered
again_walks {numbered} (Again.again {place} {k} h there) before below = record {
  walk = WalkLabel.again (below place k there);
  below = below_more (length before) (length before + 0) numbered (omega arith) below;
}

label_walks : {before new : List Node} {numbered text after : List ℕ} {k : ℕ} → Label before numbered text k new after → Below (length before) numbered → Walked (λ n. WalkLabel n k) before new after
label_walks (Label.symbol h) below = symbol_walks h below
label_walks {before} (Label.again h is) below = again_walks h before below

-- a label in the place of a value
as_value : {room met k : ℕ} {new : List Node} → WalkLabel met k new → Walk room met (refs.Node k) new
as_value (WalkLabel.again lt) = Walk.again lt
as_value WalkLabel.symbol = Walk.symbol

value_walks : {before new : List Node} {after : List ℕ} {k : ℕ} (room : ℕ) → Walked (λ n. WalkLabel n k) before new after → Walked (λ n. Walk room n (refs.Node k)) before new after
value_walks room w = record { walk = as_value w.walk; below = w.below }

below_nil : (before : List Node) (numbered : List ℕ) → Below (length before) numbered → Below (length before + 0) numbered
below_nil before numbered below = below_more (length before) (length before + 0) numbered (omega arith) below

below_then : (before new news : List Node) (after : List ℕ) → Below (length (before ++ new) + length news) after → Below (length before + length (new ++ news)) after
below_then before new news after below = below_more (length (before ++ new) + length news) (length before + length (new ++ news)) after (omega (arith, length-append before new, length-append new news)) below

labels_walk : {before new : List Node} {numbered text ks after : List ℕ} → Labels before numbered text ks new after → Below (length before) numbered → Walked (λ n. WalkLabels n ks) before new after
labels_walk (Labels.none {before} {numbered}) below = record { walk = WalkLabels.none; below = below_nil before numbered below }
labels_walk (Labels.more {before} {new} {then} {ks} {news} {after} h hs) below =
    let first = label_walks h below in
    let others = labels_walk hs (subst (λ (n : ℕ). Below n then) (sym (length-append before new)) first.below) in
    record {
      walk = WalkLabels.more first.walk (subst (λ (n : ℕ). WalkLabels n ks news) (length-append before new) others.walk);
      below = below_then before new news after others.below;
    }

frame_walks : (room : ℕ) (before : List Node) (tags : List ℕ) (values : List Ref) (tagged valued : List Node) (numbered then after : List ℕ) {tag_text : List ℕ} → Below (length before) numbered
    → Labels (before ++ Frame tags values ∷ []) (numbered ++ length before ∷ []) tag_text tags tagged then
    → (Below (length (before ++ Frame tags values ∷ tagged)) then → Walked (λ n. Walks room n values) (before ++ Frame tags values ∷ tagged) valued after)
    → Walked (λ n. Walk (suc room) n (refs.Node (length before))) before (Frame tags values ∷ (tagged ++ valued)) after
frame_walks room before tags values tagged valued numbered then after below labels reads =
    let frame = Frame tags values in
    let one : length (before ++ frame ∷ []) ≡ suc (length before) = omega (arith, length_push before frame) in
    let two : length (before ++ frame ∷ tagged) ≡ suc (length before) + length tagged = omega (arith, length-append before (frame ∷ tagged)) in
    let numbers : Below (length (before ++ frame ∷ [])) (numbered ++ length before ∷ []) =
    below_push _ (length before) numbered (omega (arith, one)) (below_more (length before) _ numbered (omega (arith, one)) below) in
    let first = labels_walk labels numbers in
    let second = reads (below_more _ _ then (omega (arith, one, two)) first.below) in
    record {
      walk = Walk.frame (subst (λ (n : ℕ). WalkLabels n tags tagged) one first.walk) (subst (λ (n : ℕ). Walks room n values valued) two second.walk);
      below = below_more _ _ after (omega (arith, two, length-append tagged valued)) second.below;
    }

-- the numbers below a node that was opened
opened_below : (before : List Node) (node : Node) (numbered : List ℕ) → Below (length before) numbered → Below (length (before ++ node ∷ [])) (numbered ++ length before ∷ [])
opened_below before node numbered below =
    below_push _ (length before) numbered (omega (arith, length_push before node)) (below_more (length before) _ numbered (omega (arith, length_push before node)) below)

string_walks : (room : ℕ) (before : List Node) (units numbered : List ℕ) → Below (length before) numbered → Walked (λ n. Walk room n (refs.Node (length before))) before (Str units ∷ []) (numbered ++ length before ∷ [])
string_walks room before units numbered below = record {
  walk = Walk.string;
  below = below_push (length before + 1) (length before) numbered (omega arith) (below_more (length before) (length before + 1) numbered (omega arith) below);
}

binary_walks : (room : ℕ) (before : List Node) (class : ℕ) (bytes : List ℕ) (new : List Node) (numbered after : List ℕ) {label_text : List ℕ} → Below (length before) numbered
    → Label (before ++ Binary class bytes ∷ []) (numbered ++ length before ∷ []) label_text class new after
    → Walked (λ n. Walk room n (refs.Node (length before))) before (Binary class bytes ∷ new) after
binary_walks room before class bytes new numbered after below label =
    let node = Binary class bytes in
    let one : length (before ++ node ∷ []) ≡ suc (length before) = omega (arith, length_push before node) in
    let labelled = label_walks label (opened_below before node numbered below) in
    record {
      walk = Walk.binary (subst (λ (n : ℕ). WalkLabel n class new) one labelled.walk);
      below = below_more _ _ after (omega (arith, one)) labelled.below;
    }

large_walks : (room : ℕ) (before : List Node) (class : ℕ) (bytes : List ℕ) (new : List Node) (numbered after : List ℕ) {label_text : List ℕ} → Below (length before) numbered
    → Label (before ++ Large class bytes ∷ []) (numbered ++ length before ∷ []) label_text class new after
    → Walked (λ n. Walk room n (refs.Node (length before))) before (Large class bytes ∷ new) after
large_walks room before class bytes new numbered after below label =
    let node = Large class bytes in
    let one : length (before ++ node ∷ []) ≡ suc (length before) = omega (arith, length_push before node) in
    let labelled = label_walks label (opened_below before node numbered below) in
    record {
      walk = Walk.large (subst (λ (n : ℕ). WalkLabel n class new) one labelled.walk);
      below = below_more _ _ after (omega (arith, one)) labelled.below;
    }

plain_array_walks : (room : ℕ) (before : List Node) (values : List Ref) (valued : List Node) (after : List ℕ)
    → Walked (λ n. Walks room n values) (before ++ Array None values ∷ []) valued after
    → Walked (λ n. Walk (suc room) n (refs.Node (length before))) before (Array None values ∷ valued) after
plain_array_walks room before values valued after read =
    let one : length (before ++ Array None values ∷ []) ≡ suc (length before) = omega (arith, length_push before (Array None values)) in
    record {
      walk = Walk.plain_array (subst (λ (n : ℕ). Walks room n values valued) one read.walk);
      below = below_more _ _ after (omega (arith, one)) read.below;
    }

array_walks : (room : ℕ) (before : List Node) (class : ℕ) (values : List Ref) (first valued : List Node) (numbered then after : List ℕ) {label_text : List ℕ} → Below (length before) numbered
    → Label (before ++ Array (Some class) values ∷ []) (numbered ++ length before ∷ []) label_text class first then
    → (Below (length (before ++ Array (Some class) values ∷ first)) then → Walked (λ n. Walks room n values) (before ++ Array (Some class) values ∷ first) valued after)
    → Walked (λ n. Walk (suc room) n (refs.Node (length before))) before (Array (Some class) values ∷ (first ++ valued)) after
array_walks room before class values first valued numbered then after below label reads =
    let node = Array (Some class) values in
    let one : length (before ++ node ∷ []) ≡ suc (length before) = omega (arith, length_push before node) in
    let two : length (before ++ node ∷ first) ≡ suc (length before) + length first = omega (arith, length-append before (node ∷ first)) in
    let labelled = label_walks label (opened_below before node numbered below) in
    let read = reads (below_more _ _ then (omega (arith, one, two)) labelled.below) in
    record {
      walk = Walk.array (subst (λ (n : ℕ). WalkLabel n class first) one labelled.walk) (subst (λ (n : ℕ). Walks room n values valued) two read.walk);
      below = below_more _ _ after (omega (arith, two, length-append first valued)) read.below;
    }

word_first : {room met : ℕ} {w : ℤ} {values : List Ref} → IsWord w → Walks room met values [] → Walks room met (refs.Imm w ∷ values) []
word_first {room} {met} {w} {values} is ws = Walks.more (Walk.word is) (subst (λ (n : ℕ). Walks room n values []) (sym nothing) ws)
  where
    nothing : met + length {A = Node} [] ≡ met
    nothing = omega arith

rectangle_walks : (room : ℕ) (before : List Node) (top left bottom right : ℕ) (tags : List ℕ) (tagged : List Node) (numbered : List ℕ) → Below (length before) numbered
    → top < 256 → left < 256 → bottom < 256 → right < 256
    → InternedEach (before ++ Frame tags (corners top left bottom right) ∷ []) sides tags tagged
    → Walked (λ n. Walk (suc room) n (refs.Node (length before))) before (Frame tags (corners top left bottom right) ∷ tagged) (numbered ++ length before ∷ [])
rectangle_walks room before top left bottom right tags tagged numbered below t l b r each =
    let values = corners top left bottom right in
    let frame = Frame tags values in
    let one : length (before ++ frame ∷ []) ≡ suc (length before) = omega (arith, length_push before frame) in
    let labels : WalkLabels (suc (length before)) tags tagged = subst (λ (n : ℕ). WalkLabels n tags tagged) one (interned_each_walk each) in
    let words : Walks room (suc (length before) + length tagged) values [] = word_first (integer_word top (omega (arith, t))) (word_first (integer_word left (omega (arith, l))) (word_first (integer_word bottom (omega (arith, b))) (word_first (integer_word right (omega (arith, r))) Walks.none))) in
    record {
      walk = subst (λ (new : List Node). Walk (suc room) (length before) (refs.Node (length before)) (frame ∷ new)) (append-nil tagged) (Walk.frame labels words);
      below = below_more _ _ (numbered ++ length before ∷ []) (omega (arith, one)) (opened_below before frame numbered below);
    }

nil_word : IsWord (pos 2)
nil_word = record { fits = record { sfits = omega arith }; low = λ e. omega arith }

mutual
  object_walks : {wide : Bool} {room : ℕ} {before : List Node} {numbered text : List ℕ} {value : Ref} {new : List Node} {after : List ℕ} → Object wide room before numbered text value new after → Below (length before) numbered → Walked (λ n. Walk room n value) before new after
  object_walks (Object.word {before} {numbered} h is) below = record { walk = Walk.word is; below = below_more _ _ numbered (omega arith) below }
  object_walks (Object.character {before} {numbered} {c} h) below = record { walk = Walk.word (character_word c (omega arith)); below = below_more _ _ numbered (omega arith) below }
  object_walks (Object.wide_character {before} {numbered} {high} {low} h l) below = record { walk = Walk.word (character_word (256 * high + low) (omega arith)); below = below_more _ _ numbered (omega arith) below }
  object_walks (Object.nil {before} {numbered}) below = record { walk = Walk.word nil_word; below = below_more _ _ numbered (omega arith) below }
  object_walks (Object.symbol {room} h) below = value_walks room (symbol_walks h below)
  object_walks (Object.again {room} {before} h) below = value_walks room (again_walks h before below)
  object_walks (Object.frame {room} {before} {numbered} {tags} {values} {tagged} {valued} {then} {after} h are paired labels vs) below =
      frame_walks room before tags values tagged valued numbered then after below labels (λ b. objects_walk vs b)
  object_walks (Object.rectangle {room} {before} {numbered} {top} {left} {bottom} {right} {tags} {tagged} t l b r each) below =
      rectangle_walks room before top left bottom right tags tagged numbered below t l b r each
  object_walks (Object.string {room} {before} {numbered} {units} h is) below = string_walks room before units numbered below
  object_walks (Object.binary {room} {before} {numbered} {bytes} {class} {new} {after} h is label) below = binary_walks room before class bytes new numbered after below label
  object_walks (Object.large {room} {before} {numbered} {bytes} {class} {new} {after} label is) below = large_walks room before class bytes new numbered after below label
  object_walks (Object.plain_array {room} {before} {numbered} {values} {valued} {after} h few vs) below =
      plain_array_walks room before values valued after (objects_walk vs (opened_below before (Array None values) numbered below))
  object_walks (Object.array {room} {before} {numbered} {class} {values} {first} {valued} {then} {after} h few label vs) below =
      array_walks room before class values first valued numbered then after below label (λ b. objects_walk vs b)

  objects_walk : {wide : Bool} {room : ℕ} {before : List Node} {numbered text : List ℕ} {values : List Ref} {new : List Node} {after : List ℕ} → Objects wide room before numbered text values new after → Below (length before) numbered → Walked (λ n. Walks room n values) before new after
  objects_walk (Objects.none {room} {before} {numbered}) below = record { walk = Walks.none; below = below_nil before numbered below }
  objects_walk (Objects.more {room} {before} {new} {then} {values} {news} {after} h hs) below =
      let first = object_walks h below in
      let others = objects_walk hs (subst (λ (n : ℕ). Below n then) (sym (length-append before new)) first.below) in
      record {
        walk = Walks.more first.walk (subst (λ (n : ℕ). Walks room n values news) (length-append before new) others.walk);
        below = below_then before new news after others.below;
      }

-- ---- each node is sound

is_letter : ℕ → Bool
is_letter b = leb 32 b && ltb b 127

name_of_letters : (name : List ℕ) → 0 < length name → length name < 255 → list_all is_letter name ≡ true → IsName name
unfolding is_letter
name_of_letters name some few e =
    let each = AllPass-from_list_all is_letter name e in
    record { some = some; few = few; each = λ k d lt. letter _ (each k d lt) }
  where
    letter : (b : ℕ) → is_letter b ≡ true → (32 ≤ b) × (b < 127)
    letter b e = let p = and_parts (leb 32 b) (ltb b 127) e in (leb-true 32 b p.0, ltb-true b 127 p.1)

interned_alike : {before new : List Node} {name : List ℕ} {k : ℕ} → Interned before name k new → IsAlike (before ++ new) k name
interned_alike {before} {name = name} (Interned.first none) = (name, get_seam before (Symbol name) [], refl)
interned_alike {before} {name = name} (Interned.alike {k} alike) = alike_append before [] k name alike

-- nodes are the symbols of these names
abbrev Alikes : List Node → List ℕ → List (List ℕ) → Type 0
Alikes nodes [] [] = Unit {0}
Alikes nodes [] (name ∷ names) = ⊥
Alikes nodes (k ∷ ks) [] = ⊥
Alikes nodes (k ∷ ks) (name ∷ names) = IsAlike nodes k name × Alikes nodes ks names

interned_each_alike : {before new : List Node} {names : List (List ℕ)} {ks : List ℕ} → InternedEach before names ks new → Alikes (before ++ new) ks names
interned_each_alike InternedEach.none = tt
interned_each_alike (InternedEach.more {before} {name} {k} {new} {names} {ks} {news} h hs) =
    subst (λ (nodes : List Node). IsAlike nodes k name × Alikes nodes ks names) (append_assoc before new news)
    (alike_append (before ++ new) news k name (interned_alike h), interned_each_alike hs)

alikes_symbols : (nodes : List Node) (ks : List ℕ) (names : List (List ℕ)) → Alikes nodes ks names → All (IsSymbol nodes) ks
alikes_symbols nodes [] names h = All-nil (IsSymbol nodes)
alikes_symbols nodes (k ∷ ks) [] h = absurd h
alikes_symbols nodes (k ∷ ks) (name ∷ names) h = let a : IsAlike nodes k name = h.0 in All-cons (IsSymbol nodes) k ks (a.0, a.1) (alikes_symbols nodes ks names h.1)

alikes_length : (nodes : List Node) (ks : List ℕ) (names : List (List ℕ)) → Alikes nodes ks names → length ks ≡ length names
alikes_length nodes [] [] h = refl
alikes_length nodes [] (name ∷ names) h = absurd h
alikes_length nodes (k ∷ ks) [] h = absurd h
alikes_length nodes (k ∷ ks) (name ∷ names) h = ap suc (alikes_length nodes ks names h.1)

-- names that differ in length
abbrev OtherLength : List ℕ → List (List ℕ) → Type 0
OtherLength name [] = Unit {0}
OtherLength name (other ∷ others) = (length name ≢ length other) × OtherLength name others

abbrev OtherLengths : List (List ℕ) → Type 0
OtherLengths [] = Unit {0}
OtherLengths (name ∷ names) = OtherLength name names × OtherLengths names

same_name : (nodes : List Node) (j k : ℕ) (a b : List ℕ) → j ≡ k → IsNamed nodes j a → IsNamed nodes k b → a ≡ b
same_name nodes j k a b e x y = let z : Some (Symbol a) ≡ Some (Symbol b) = sym x ∙ ap (slice_get nodes) e ∙ y in cc

other_symbol : (nodes : List Node) (j k : ℕ) (a b : List ℕ) → length a ≢ length b → IsAlike nodes j a → IsAlike nodes k b → j ≢ k
other_symbol nodes j k a b apart x y e =
    let same : folded a ≡ folded b = sym x.2 ∙ ap folded (same_name nodes j k x.0 y.0 e x.1 y.1) ∙ y.2 in
    apart (sym (length-map a to_ascii_lowercase) ∙ ap length same ∙ length-map b to_ascii_lowercase)

other_symbols : (nodes : List Node) (k : ℕ) (name : List ℕ) (ks : List ℕ) (names : List (List ℕ)) → IsAlike nodes k name → OtherLength name names → Alikes nodes ks names → AllByRecursion (λ y. eqb k y ≡ false) ks
other_symbols nodes k name [] names is apart h = tt
other_symbols nodes k name (j ∷ ks) [] is apart h = absurd h
other_symbols nodes k name (j ∷ ks) (other ∷ names) is apart h =
    (ne_eqb k j (other_symbol nodes k j name other apart.0 is h.0), other_symbols nodes k name ks names is apart.1 h.1)

distinct_symbols : (nodes : List Node) (ks : List ℕ) (names : List (List ℕ)) → OtherLengths names → Alikes nodes ks names → IsDistinct eqb ks
unfolding IsDistinct
distinct_symbols nodes [] names apart h = tt
distinct_symbols nodes (k ∷ ks) [] apart h = absurd h
distinct_symbols nodes (k ∷ ks) (name ∷ names) apart h = (other_symbols nodes k name ks names h.0 apart.0 h.1, distinct_symbols nodes ks names apart.1 h.1)

sides_apart : OtherLengths sides
sides_apart = (((λ e. omega (arith, e)), ((λ e. omega (arith, e)), ((λ e. omega (arith, e)), tt))), (((λ e. omega (arith, e)), ((λ e. omega (arith, e)), tt)), (((λ e. omega (arith, e)), tt), (tt, tt))))

-- the four tags of a small rectangle
side_tags : (nodes : List Node) (tags : List ℕ) → Alikes nodes tags sides → AreTags tags
side_tags nodes tags h = record { few = omega (arith, alikes_length nodes tags sides h); distinct = AllPairs-from_IsDistinct Decides-eqb tags (distinct_symbols nodes tags sides sides_apart h) }

label_symbol : {before new : List Node} {numbered text after : List ℕ} {k : ℕ} → Label before numbered text k new after → IsSymbol (before ++ new) k
label_symbol (Label.symbol (SymbolText.symbol h is i)) = let a = interned_alike i in (a.0, a.1)
label_symbol {before} (Label.again {k} h is) = symbol_append before [] k is

labels_symbols : {before new : List Node} {numbered text ks after : List ℕ} → Labels before numbered text ks new after → All (IsSymbol (before ++ new)) ks
labels_symbols (Labels.none {before}) = All-nil (IsSymbol (before ++ []))
labels_symbols (Labels.more {before} {k} {new} {ks} {news} h hs) =
    subst (λ (nodes : List Node). All (IsSymbol nodes) (k ∷ ks)) (append_assoc before new news)
    (All-cons (IsSymbol ((before ++ new) ++ news)) k ks (symbol_append (before ++ new) news k (label_symbol h)) (labels_symbols hs))

-- the new nodes are sound in any list that goes on
abbrev Sound : List Node → List Node → Type 0
Sound before new = (later : List Node) → All (IsNode ((before ++ new) ++ later)) new

sound_none : (before : List Node) → Sound before []
sound_none before later = All-nil (IsNode ((before ++ []) ++ later))

sound_more : (before new news : List Node) → Sound before new → Sound (before ++ new) news → Sound before (new ++ news)
sound_more before new news first others later =
    let all : ((before ++ new) ++ news) ++ later ≡ (before ++ (new ++ news)) ++ later = ap (λ (x : List Node). x ++ later) (append_assoc before new news) in
    let first_is : (before ++ new) ++ (news ++ later) ≡ (before ++ (new ++ news)) ++ later = sym (append_assoc (before ++ new) news later) ∙ all in
    All-append (IsNode ((before ++ (new ++ news)) ++ later)) new news
    (subst (λ (nodes : List Node). All (IsNode nodes) new) first_is (first (news ++ later)))
    (subst (λ (nodes : List Node). All (IsNode nodes) news) all (others later))

interned_sound : {before new : List Node} {name : List ℕ} {k : ℕ} → IsName name → Interned before name k new → Sound before new
interned_sound {name = name} is (Interned.first none) later = All-cons (IsNode _) (Symbol name) [] is (All-nil (IsNode _))
interned_sound {before} is (Interned.alike alike) later = sound_none before later

abbrev AreNames : List (List ℕ) → Type 0
AreNames [] = Unit {0}
AreNames (name ∷ names) = IsName name × AreNames names

interned_each_sound : {before new : List Node} {names : List (List ℕ)} {ks : List ℕ} → AreNames names → InternedEach before names ks new → Sound before new
interned_each_sound are (InternedEach.none {before}) = sound_none before
interned_each_sound are (InternedEach.more {before} {new} {news} h hs) = sound_more before new news (interned_sound are.0 h) (interned_each_sound are.1 hs)

symbol_sound : {before new : List Node} {numbered text after : List ℕ} {k : ℕ} → SymbolText before numbered text k new after → Sound before new
symbol_sound (SymbolText.symbol h is i) = interned_sound is i

label_sound : {before new : List Node} {numbered text after : List ℕ} {k : ℕ} → Label before numbered text k new after → Sound before new
label_sound (Label.symbol h) = symbol_sound h
label_sound {before} (Label.again h is) = sound_none before

labels_sound : {before new : List Node} {numbered text ks after : List ℕ} → Labels before numbered text ks new after → Sound before new
labels_sound (Labels.none {before}) = sound_none before
labels_sound (Labels.more {before} {new} {news} h hs) = sound_more before new news (label_sound h) (labels_sound hs)

frame_sound : (before : List Node) (tags : List ℕ) (values : List Ref) (tagged valued : List Node) {numbered tag_text then : List ℕ} → AreTags tags → length values ≡ length tags
    → Labels (before ++ Frame tags values ∷ []) numbered tag_text tags tagged then → Sound (before ++ Frame tags values ∷ tagged) valued → Sound before (Frame tags values ∷ (tagged ++ valued))
frame_sound before tags values tagged valued are paired labels others =
    let frame = Frame tags values in
    let regroup : (before ++ frame ∷ []) ++ tagged ≡ before ++ frame ∷ tagged = append_assoc before (frame ∷ []) tagged in
    let symbols : All (IsSymbol (before ++ frame ∷ tagged)) tags = subst (λ (nodes : List Node). All (IsSymbol nodes) tags) regroup (labels_symbols labels) in
    let first : Sound before (frame ∷ tagged) = λ later.
    All-cons (IsNode ((before ++ frame ∷ tagged) ++ later)) frame tagged
    (record { are_tags = are; paired = paired; symbols = λ k d lt. symbol_append (before ++ frame ∷ tagged) later _ (symbols k d lt) })
    (subst (λ (nodes : List Node). All (IsNode nodes) tagged) (ap (λ (x : List Node). x ++ later) regroup) (labels_sound labels later)) in
    sound_more before (frame ∷ tagged) valued first others

binary_sound : (before : List Node) (class : ℕ) (bytes : List ℕ) (new : List Node) {numbered label_text after : List ℕ} → IsData bytes
    → Label (before ++ Binary class bytes ∷ []) numbered label_text class new after → Sound before (Binary class bytes ∷ new)
binary_sound before class bytes new is label later =
    let node = Binary class bytes in
    let regroup : (before ++ node ∷ []) ++ new ≡ before ++ node ∷ new = append_assoc before (node ∷ []) new in
    let symbol : IsSymbol (before ++ node ∷ new) class = subst (λ (nodes : List Node). IsSymbol nodes class) regroup (label_symbol label) in
    All-cons (IsNode ((before ++ node ∷ new) ++ later)) node new
    (symbol_append (before ++ node ∷ new) later class symbol, is)
    (subst (λ (nodes : List Node). All (IsNode nodes) new) (ap (λ (x : List Node). x ++ later) regroup) (label_sound label later))

large_sound : (before : List Node) (class : ℕ) (bytes : List ℕ) (new : List Node) {numbered label_text after : List ℕ} → IsData bytes
    → Label (before ++ Large class bytes ∷ []) numbered label_text class new after → Sound before (Large class bytes ∷ new)
large_sound before class bytes new is label later =
    let node = Large class bytes in
    let regroup : (before ++ node ∷ []) ++ new ≡ before ++ node ∷ new = append_assoc before (node ∷ []) new in
    let symbol : IsSymbol (before ++ node ∷ new) class = subst (λ (nodes : List Node). IsSymbol nodes class) regroup (label_symbol label) in
    All-cons (IsNode ((before ++ node ∷ new) ++ later)) node new
    (symbol_append (before ++ node ∷ new) later class symbol, is)
    (subst (λ (nodes : List Node). All (IsNode nodes) new) (ap (λ (x : List Node). x ++ later) regroup) (label_sound label later))

plain_array_sound : (before : List Node) (values : List Ref) (valued : List Node) → length values ≤ 65535 → Sound (before ++ Array None values ∷ []) valued → Sound before (Array None values ∷ valued)
plain_array_sound before values valued few others =
    sound_more before (Array None values ∷ []) valued (λ later. All-cons (IsNode _) (Array None values) [] few (All-nil (IsNode _))) others

array_sound : (before : List Node) (class : ℕ) (values : List Ref) (first valued : List Node) {numbered label_text then : List ℕ} → length values ≤ 65535
    → Label (before ++ Array (Some class) values ∷ []) numbered label_text class first then → Sound (before ++ Array (Some class) values ∷ first) valued → Sound before (Array (Some class) values ∷ (first ++ valued))
array_sound before class values first valued few label others =
    let node = Array (Some class) values in
    let regroup : (before ++ node ∷ []) ++ first ≡ before ++ node ∷ first = append_assoc before (node ∷ []) first in
    let symbol : IsSymbol (before ++ node ∷ first) class = subst (λ (nodes : List Node). IsSymbol nodes class) regroup (label_symbol label) in
    let front : Sound before (node ∷ first) = λ later.
    All-cons (IsNode ((before ++ node ∷ first) ++ later)) node first
    (symbol_append (before ++ node ∷ first) later class symbol, few)
    (subst (λ (nodes : List Node). All (IsNode nodes) first) (ap (λ (x : List Node). x ++ later) regroup) (label_sound label later)) in
    sound_more before (node ∷ first) valued front others

side_names : AreNames sides
unfolding is_letter
side_names = (name_of_letters _ (omega arith) (omega arith) refl, (name_of_letters _ (omega arith) (omega arith) refl, (name_of_letters _ (omega arith) (omega arith) refl, (name_of_letters _ (omega arith) (omega arith) refl, tt))))

rectangle_sound : (before : List Node) (tags : List ℕ) (top left bottom right : ℕ) (tagged : List Node) → InternedEach (before ++ Frame tags (corners top left bottom right) ∷ []) sides tags tagged → Sound before (Frame tags (corners top left bottom right) ∷ tagged)
rectangle_sound before tags top left bottom right tagged each later =
    let values = corners top left bottom right in
    let frame = Frame tags values in
    let regroup : (before ++ frame ∷ []) ++ tagged ≡ before ++ frame ∷ tagged = append_assoc before (frame ∷ []) tagged in
    let alikes : Alikes (before ++ frame ∷ tagged) tags sides = subst (λ (nodes : List Node). Alikes nodes tags sides) regroup (interned_each_alike each) in
    let symbols = alikes_symbols (before ++ frame ∷ tagged) tags sides alikes in
    All-cons (IsNode ((before ++ frame ∷ tagged) ++ later)) frame tagged
    (record { are_tags = side_tags (before ++ frame ∷ tagged) tags alikes; paired = sym (alikes_length (before ++ frame ∷ tagged) tags sides alikes); symbols = λ k d lt. symbol_append (before ++ frame ∷ tagged) later _ (symbols k d lt) })
    (subst (λ (nodes : List Node). All (IsNode nodes) tagged) (ap (λ (x : List Node). x ++ later) regroup) (interned_each_sound side_names each later))

mutual
  object_sound : {wide : Bool} {room : ℕ} {before : List Node} {numbered text : List ℕ} {value : Ref} {new : List Node} {after : List ℕ} → Object wide room before numbered text value new after → Sound before new
  object_sound (Object.word {before} h is) = sound_none before
  object_sound (Object.character {before} h) = sound_none before
  object_sound (Object.wide_character {before} h l) = sound_none before
  object_sound (Object.nil {before}) = sound_none before
  object_sound (Object.symbol h) = symbol_sound h
  object_sound (Object.again {before} h) = sound_none before
  object_sound (Object.frame {before} {tags} {values} {tagged} {valued} h are paired labels vs) = frame_sound before tags values tagged valued are paired labels (objects_sound vs)
  object_sound (Object.rectangle {before} {top} {left} {bottom} {right} {tags} {tagged} t l b r each) = rectangle_sound before tags top left bottom right tagged each
  object_sound (Object.string {before} {units} h is) = λ later. All-cons (IsNode _) (Str units) [] is (All-nil (IsNode _))
  object_sound (Object.binary {before} {bytes} {class} {new} h is label) = binary_sound before class bytes new is label
  object_sound (Object.large {before} {bytes} {class} {new} label is) = large_sound before class bytes new is.is_data label
  object_sound (Object.plain_array {before} {values} {valued} h few vs) = plain_array_sound before values valued few (objects_sound vs)
  object_sound (Object.array {before} {class} {values} {first} {valued} h few label vs) = array_sound before class values first valued few label (objects_sound vs)

  objects_sound : {wide : Bool} {room : ℕ} {before : List Node} {numbered text : List ℕ} {values : List Ref} {new : List Node} {after : List ℕ} → Objects wide room before numbered text values new after → Sound before new
  objects_sound (Objects.none {before}) = sound_none before
  objects_sound (Objects.more {before} {new} {news} h hs) = sound_more before new news (object_sound h) (objects_sound hs)

-- ---- graphs

pub spelled_is_graph : {wide : Bool} (bytes : List ℕ) (g : RawGraph) → SpellsBy wide bytes g → IsGraph g
spelled_is_graph bytes g s = record {
  walk = (object_walks s.object (λ i k e. absurd cc)).walk;
  few = s.few;
  light = s.light;
  each = subst (λ (nodes : List Node). All (IsNode nodes) g.nodes) (append-nil g.nodes) (object_sound s.object []);
  folded_once = object_once s.object (λ i k name h. absurd cc);
}
