-- No two symbols of what is spelled are alike.
use Rattle.std.proofs.Common.{◌≡◌, Bool, ℕ, List, [], ◌∷◌, ◌++◌, Option, Some, None, sym, ap, subst, ◌∙◌, append_assoc}
use Rattle.std.proofs.lemmas.List.{append-nil}
use Rattle.newt_graph.specs.declared.node.Node.{Node}
use Rattle.newt_graph.specs.declared.node.Node.TheVariants.{Symbol, Str, Binary, Large, Array, Frame}
use Rattle.newt_graph.specs.declared.node.Ref.{Ref}
use Rattle.newt_graph.specs.Graph.{AreFoldedOnce, folded}
use Rattle.newt_graph.proofs.Drafts.{once_push}
use Rattle.newt_spec_nsof.specs.Text.{Interned, InternedEach, corners, SymbolText, Label, Labels, Object, Objects}

pub once_array : (nodes : List Node) (class : Option ℕ) (values : List Ref) → AreFoldedOnce nodes → AreFoldedOnce (nodes ++ Array class values ∷ [])
once_array nodes class values once = once_push nodes (Array class values) once (λ name e. absurd cc)

once_string : (nodes : List Node) (units : List ℕ) → AreFoldedOnce nodes → AreFoldedOnce (nodes ++ Str units ∷ [])
once_string nodes units once = once_push nodes (Str units) once (λ name e. absurd cc)

pub once_binary : (nodes : List Node) (class : ℕ) (bytes : List ℕ) → AreFoldedOnce nodes → AreFoldedOnce (nodes ++ Binary class bytes ∷ [])
once_binary nodes class bytes once = once_push nodes (Binary class bytes) once (λ name e. absurd cc)

pub once_large : (nodes : List Node) (class : ℕ) (bytes : List ℕ) → AreFoldedOnce nodes → AreFoldedOnce (nodes ++ Large class bytes ∷ [])
once_large nodes class bytes once = once_push nodes (Large class bytes) once (λ name e. absurd cc)

pub once_frame : (nodes : List Node) (tags : List ℕ) (values : List Ref) → AreFoldedOnce nodes → AreFoldedOnce (nodes ++ Frame tags values ∷ [])
once_frame nodes tags values once = once_push nodes (Frame tags values) once (λ name e. absurd cc)

at_nil : (nodes : List Node) → AreFoldedOnce nodes → AreFoldedOnce (nodes ++ [])
at_nil nodes once = subst AreFoldedOnce (sym (append-nil nodes)) once

at_more : (a b c : List Node) → AreFoldedOnce ((a ++ b) ++ c) → AreFoldedOnce (a ++ (b ++ c))
at_more a b c once = subst AreFoldedOnce (append_assoc a b c) once

pub interned_once : {before new : List Node} {name : List ℕ} {k : ℕ} → Interned before name k new → AreFoldedOnce before → AreFoldedOnce (before ++ new)
interned_once {before} {name = name} (Interned.first none) once = once_push before (Symbol name) once (λ other e k alike. none k (alike.0, alike.1, alike.2 ∙ ap folded (same_name other name e)))
  where
    same_name : (a b : List ℕ) → Symbol b ≡ Symbol a → a ≡ b
    same_name a b e = cc
interned_once {before} (Interned.alike alike) once = at_nil before once

pub interned_each_once : {before new : List Node} {names : List (List ℕ)} {ks : List ℕ} → InternedEach before names ks new → AreFoldedOnce before → AreFoldedOnce (before ++ new)
interned_each_once (InternedEach.none {before}) once = at_nil before once
interned_each_once (InternedEach.more {before} {new} {news} h hs) once = at_more before new news (interned_each_once hs (interned_once h once))

symbol_once : {before new : List Node} {numbered text after : List ℕ} {k : ℕ} → SymbolText before numbered text k new after → AreFoldedOnce before → AreFoldedOnce (before ++ new)
symbol_once (SymbolText.symbol h is i) once = interned_once i once

pub label_once : {before new : List Node} {numbered text after : List ℕ} {k : ℕ} → Label before numbered text k new after → AreFoldedOnce before → AreFoldedOnce (before ++ new)
label_once (Label.symbol h) once = symbol_once h once
label_once {before} (Label.again h is) once = at_nil before once

pub labels_once : {before new : List Node} {numbered text after ks : List ℕ} → Labels before numbered text ks new after → AreFoldedOnce before → AreFoldedOnce (before ++ new)
labels_once (Labels.none {before}) once = at_nil before once
labels_once (Labels.more {before} {new} {news} h hs) once = at_more before new news (labels_once hs (label_once h once))

mutual
  pub object_once : {wide : Bool} {room : ℕ} {before : List Node} {numbered text : List ℕ} {value : Ref} {new : List Node} {after : List ℕ} → Object wide room before numbered text value new after → AreFoldedOnce before → AreFoldedOnce (before ++ new)
  object_once (Object.word {before} h is) once = at_nil before once
  object_once (Object.character {before} h) once = at_nil before once
  object_once (Object.wide_character {before} h l) once = at_nil before once
  object_once (Object.nil {before}) once = at_nil before once
  object_once (Object.symbol h) once = symbol_once h once
  object_once (Object.again {before} h) once = at_nil before once
  object_once (Object.frame {before} {tags} {values} {tagged} {valued} h are paired ts vs) once =
      at_more before (Frame tags values ∷ tagged) valued (objects_once vs (at_more before (Frame tags values ∷ []) tagged (labels_once ts (once_frame before tags values once))))
  object_once (Object.rectangle {before} {top} {left} {bottom} {right} {tags} {tagged} t l b r each) once =
      at_more before (Frame tags (corners top left bottom right) ∷ []) tagged (interned_each_once each (once_frame before tags (corners top left bottom right) once))
  object_once (Object.string {before} {units} h is) once = once_string before units once
  object_once (Object.binary {before} {bytes} {class} {new} h is label) once =
      at_more before (Binary class bytes ∷ []) new (label_once label (once_binary before class bytes once))
  object_once (Object.large {before} {bytes} {class} {new} label is) once =
      at_more before (Large class bytes ∷ []) new (label_once label (once_large before class bytes once))
  object_once (Object.plain_array {before} {values} {valued} h few vs) once =
      at_more before (Array None values ∷ []) valued (objects_once vs (once_array before None values once))
  object_once (Object.array {before} {class} {values} {first} {valued} h few label vs) once =
      at_more before (Array (Some class) values ∷ first) valued (objects_once vs (at_more before (Array (Some class) values ∷ []) first (label_once label (once_array before (Some class) values once))))

  pub objects_once : {wide : Bool} {room : ℕ} {before : List Node} {numbered text : List ℕ} {values : List Ref} {new : List Node} {after : List ℕ} → Objects wide room before numbered text values new after → AreFoldedOnce before → AreFoldedOnce (before ++ new)
  objects_once (Objects.none {before}) once = at_nil before once
  objects_once (Objects.more {before} {new} {news} h hs) once = at_more before new news (objects_once hs (object_once h once))
