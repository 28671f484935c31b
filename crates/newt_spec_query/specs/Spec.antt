-- The frame of a query, and what it says. The slots are those of Newton's query specs (Newton
-- Programmer's Guide 2.0, query specs), without its functions. This project's own are which other
-- slots are refused, the forms of key values, words and texts, and that nil counts as missing.
use Rattle.std.specs.Prelude.{ℕ, ◌+◌, Bool, true, false, not, ◌&&◌, ◌||◌, ◌==◌, nat_le, List, [], ◌∷◌, map, length, zip, Option, Some, None, is_some, option_map, option_and_then, unwrap_or, pos, codes, if◌then◌else◌}
use Rattle.std.specs.List.{list_all, list_any}
use Rattle.newt_base.specs.Names.{same_name}
use Rattle.newt_graph.specs.declared.node.Ref.{Ref}
use Rattle.newt_graph.specs.declared.node.Ref.TheVariants.{Imm, Node as At}
use Rattle.newt_graph.specs.declared.node.Node.{Node}
use Rattle.newt_graph.specs.declared.node.Node.TheVariants.{Str, Array, Frame}
use Rattle.newt_graph.specs.Graph.{RawGraph}
use Rattle.newt_spec_graph.specs.Graph.{object, every}
use Rattle.newt_spec_graph.specs.Slots.{slot_value}
use Rattle.newt_spec_store.specs.Keys.{Path, IndexSpec, IndexPart, Part, missing, Key, part_of, folded}
use Rattle.newt_spec_query.specs.Tags.{symbol_name, TagSpec, if_given}

-- ---- values of a few forms

-- the immediate nil, whose word is 2 (Newton Formats 1.1, immediates)
abbrev pub is_nil : Ref → Bool
is_nil (Imm (pos w)) = w == 2
is_nil _ = false

-- the values of an array, of any class (a word of these definitions)
abbrev pub values_of : List Node → Ref → Option (List Ref)
values_of nodes r = elim (object nodes r) [ Some (Array _ values) ↦ Some values | _ ↦ None ]

-- the values of an array without class (a word of these definitions)
abbrev pub plain_values : List Node → Ref → Option (List Ref)
plain_values nodes r = elim (object nodes r) [ Some (Array None values) ↦ Some values | _ ↦ None ]

-- the first value, or the second where there is none (a word of these definitions)
abbrev pub or_else : {X : Type 0} → Option X → Option X → Option X
or_else None p = p
or_else (Some x) p = Some x

-- one such value, or an array of such (a word of these definitions)
abbrev pub one_or_more : {X : Type 0} → List Node → (Ref → Option X) → Ref → Option (List X)
one_or_more nodes one r = or_else (option_map (λ x. x ∷ []) (one r)) (option_and_then (λ vs. every (map one vs)) (values_of nodes r))

-- the units of a string that is not empty (a word of these definitions)
abbrev pub string_units : List Node → Ref → Option (List ℕ)
string_units nodes r = elim (object nodes r) [ Some (Str (u ∷ us)) ↦ Some (u ∷ us) | _ ↦ None ]

-- a list of one to so many elements (a word of these definitions)
abbrev pub within : ℕ → {X : Type 0} → List X → Bool
within most xs = nat_le 1 (length xs) && nat_le (length xs) most

-- the value where it passes the test (a word of these definitions)
abbrev pub keep : {X : Type 0} → (X → Bool) → X → Option X
keep test x = if test x then Some x else None

-- ---- paths

-- the values of an array with class `pathExpr`, one to eight (this project's own)
abbrev pub path_values : List Node → Ref → Option (List Ref)
path_values nodes r = elim (object nodes r) [
  | Some (Array (Some class) values) ↦
      if if_given (same_name (codes "pathExpr")) (symbol_name nodes (At class)) && within 8 values then Some values else None
  | _ ↦ None
]

-- a path: a symbol, or such an array of symbols (this project's own)
abbrev pub path_of : List Node → Ref → Option Path
path_of nodes r =
    or_else (option_map (λ name. name ∷ []) (symbol_name nodes r))
    (option_and_then (λ vs. every (map (symbol_name nodes) vs)) (path_values nodes r))

-- the paths of an index: one path, or an array without class of one to four (this project's own)
abbrev pub index_paths : List Node → Ref → Option (List Path)
index_paths nodes r =
    or_else (option_map (λ p. p ∷ []) (path_of nodes r))
    (option_and_then (λ vs. every (map (path_of nodes) vs)) (option_and_then (keep (within 4)) (plain_values nodes r)))

-- ---- the slots of the frame

-- the value of a slot; nil counts as missing (this project's own)
abbrev pub given : List Node → Ref → List ℕ → Option Ref
given nodes frame name = option_and_then (keep (λ v. not (is_nil v))) (slot_value nodes name (object nodes frame))

-- a frame in which each slot whose value is not nil has one of these names (this project's own)
abbrev pub has_only : List Node → List (List ℕ) → Ref → Bool
has_only nodes names frame = elim (object nodes frame) [
  | Some (Frame tags values) ↦ list_all (λ s. is_nil s.1 || if_given (λ tag. list_any (same_name tag) names) (symbol_name nodes (At s.0))) (zip tags values)
  | _ ↦ false
]

-- the slots of a query (Newton Programmer's Guide 2.0, query specs)
abbrev pub query_slots : List (List ℕ)
query_slots = map codes ("indexPath" ∷ "beginKey" ∷ "beginExclKey" ∷ "endKey" ∷ "endExclKey" ∷ "tagSpec" ∷ "words" ∷ "text" ∷ "entireWords" ∷ [])

-- the slots of a tag spec (Newton Programmer's Guide 2.0, tags)
abbrev pub tag_slots : List (List ℕ)
tag_slots = map codes ("equal" ∷ "all" ∷ "any" ∷ "none" ∷ [])

-- the symbols of a slot of a tag spec (a word of these definitions)
abbrev pub tag_list : List Node → Ref → List ℕ → Option (List (List ℕ))
tag_list nodes frame slot = option_and_then (one_or_more nodes (symbol_name nodes)) (given nodes frame slot)

-- the slot is missing, or its value passes the test (a word of these definitions)
abbrev pub slot_is : RawGraph → List ℕ → (Ref → Bool) → Bool
slot_is g name test = if_given test (given g.nodes g.root name)

-- a tag spec: its slots are among the four, each a symbol or an array of symbols
-- (Newton Programmer's Guide 2.0, tags; which forms are refused is this project's own)
abbrev pub is_tag_spec : List Node → Ref → Bool
is_tag_spec nodes r =
    has_only nodes tag_slots r
    && list_all (λ slot. if_given (λ v. is_some (one_or_more nodes (symbol_name nodes) v)) (given nodes r slot)) tag_slots

-- a string that is not empty, or an array of such (this project's own)
abbrev pub is_text_list : RawGraph → Ref → Bool
is_text_list g r = is_some (one_or_more g.nodes (string_units g.nodes) r)

-- the immediate true, whose word is 26 (Newton Formats 1.1, immediates)
abbrev pub is_true : Ref → Bool
is_true (Imm (pos w)) = w == 26
is_true _ = false

-- the slot is there (a word of these definitions)
abbrev pub has_slot : RawGraph → List ℕ → Bool
has_slot g name = is_some (given g.nodes g.root name)

-- at most one of the two slots is there, and only where there is an index path (this project's own)
abbrev pub bound_is : RawGraph → List ℕ → List ℕ → Bool
bound_is g one other =
    not (has_slot g one && has_slot g other)
    && (not (has_slot g one || has_slot g other) || has_slot g (codes "indexPath"))

-- the frame has the form of a query (Newton Programmer's Guide 2.0, query specs; which forms are
-- refused is this project's own)
abbrev pub is_query : RawGraph → Bool
is_query g =
    has_only g.nodes query_slots g.root
    && slot_is g (codes "indexPath") (λ r. is_some (index_paths g.nodes r))
    && bound_is g (codes "beginKey") (codes "beginExclKey")
    && bound_is g (codes "endKey") (codes "endExclKey")
    && slot_is g (codes "tagSpec") (is_tag_spec g.nodes)
    && slot_is g (codes "words") (is_text_list g)
    && slot_is g (codes "text") (is_text_list g)
    && slot_is g (codes "entireWords") is_true

-- the paths of the index that a query asks for; none where it asks for no index (Newton
-- Programmer's Guide 2.0, query specs)
abbrev pub query_paths : RawGraph → Option (List Path)
query_paths g = option_and_then (index_paths g.nodes) (given g.nodes g.root (codes "indexPath"))

-- ---- key values

-- The part of a key that a value is. It is missing where the value is nil or not given. There is
-- none where the value is not of the part's type. (this project's own)
abbrev pub given_part : List Node → IndexPart × Option Ref → Option Part
given_part nodes (p, v) = elim v [
  | None ↦ Some missing
  | Some r ↦ if is_nil r then Some missing else elim (part_of nodes p.kind (Some r)) [ missing ↦ None | part ↦ Some part ]
]

-- a key whose first part is there (a word of these definitions)
abbrev pub first_is_there : Key → Bool
first_is_there [] = false
first_is_there (missing ∷ _) = false
first_is_there _ = true

-- each part of an index with its value; with none where no more values are given (a word of these
-- definitions)
abbrev pub padded : IndexSpec → List Ref → List (IndexPart × Option Ref)
padded [] values = []
padded (p ∷ spec) [] = (p, None) ∷ padded spec []
padded (p ∷ spec) (v ∷ values) = (p, Some v) ∷ padded spec values

-- the values of a key: one value for an index of one part; for more parts an array without class of
-- one to as many values (this project's own)
abbrev pub key_values : List Node → IndexSpec → Ref → Option (List Ref)
key_values nodes [] r = None
key_values nodes (p ∷ []) r = Some (r ∷ [])
key_values nodes (p ∷ q ∷ spec) r = option_and_then (keep (within (length spec + 2))) (plain_values nodes r)

-- the key that a value writes down; none where it is not of the index's types (this project's own)
abbrev pub key_value : List Node → IndexSpec → Ref → Option Key
key_value nodes spec r =
    option_and_then (keep first_is_there)
    (option_and_then (λ vs. every (map (given_part nodes) (padded spec vs))) (key_values nodes spec r))

-- ---- what the frame says, once its index is known

-- an end of a range of keys: open, with the key, or without it (Newton Programmer's Guide 2.0,
-- query specs)
pub data Bound : Type 0 where
  unbounded : Bound
  including : Key → Bound
  excluding : Key → Bound

-- What a query says: its index, empty where it asks for none; the ends of its range; its tags; its
-- words and texts, folded; and whether its words must be entire words. (Newton Programmer's Guide
-- 2.0, query specs)
pub record Spec : Type 0 where
  pub index : IndexSpec
  pub lower : Bound
  pub upper : Bound
  pub tags : TagSpec
  pub words : List (List ℕ)
  pub texts : List (List ℕ)
  pub entire : Bool

-- the key of a slot (a word of these definitions)
abbrev pub key_given : RawGraph → IndexSpec → List ℕ → Option Key
key_given g spec name = option_and_then (key_value g.nodes spec) (given g.nodes g.root name)

-- the slot is missing, or its value is a key of the index (this project's own)
abbrev pub key_fits : RawGraph → IndexSpec → List ℕ → Bool
key_fits g spec name = slot_is g name (λ r. is_some (key_value g.nodes spec r))

-- each key that is given is of the index's types (this project's own)
abbrev pub keys_fit : RawGraph → IndexSpec → Bool
keys_fit g spec = list_all (key_fits g spec) (map codes ("beginKey" ∷ "beginExclKey" ∷ "endKey" ∷ "endExclKey" ∷ []))

-- the end of a range that two slots give: with the key of the first, or without that of the second;
-- open where neither is there (Newton Programmer's Guide 2.0, query specs)
abbrev pub bound : Option Key → Option Key → Bound
bound (Some k) _ = including k
bound None (Some k) = excluding k
bound None None = unbounded

-- the texts of a slot, folded (this project's own)
abbrev pub texts_given : RawGraph → List ℕ → List (List ℕ)
texts_given g name =
    map folded (unwrap_or (option_and_then (one_or_more g.nodes (string_units g.nodes)) (given g.nodes g.root name)) [])

-- what a tag spec asks; nothing where there is none (Newton Programmer's Guide 2.0, tags)
abbrev pub tag_spec : List Node → Option Ref → TagSpec
tag_spec nodes None = record { equal = None; all = None; any = None; none_of = None }
tag_spec nodes (Some r) = record {
  equal = tag_list nodes r (codes "equal");
  all = tag_list nodes r (codes "all");
  any = tag_list nodes r (codes "any");
  none_of = tag_list nodes r (codes "none");
}

-- what the frame says, for this index (Newton Programmer's Guide 2.0, query specs)
abbrev pub spec_of : RawGraph → IndexSpec → Spec
spec_of g index = record {
  index = index;
  lower = bound (key_given g index (codes "beginKey")) (key_given g index (codes "beginExclKey"));
  upper = bound (key_given g index (codes "endKey")) (key_given g index (codes "endExclKey"));
  tags = tag_spec g.nodes (given g.nodes g.root (codes "tagSpec"));
  words = texts_given g (codes "words");
  texts = texts_given g (codes "text");
  entire = has_slot g (codes "entireWords");
}
