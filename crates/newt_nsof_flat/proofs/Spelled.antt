-- The flat text of a graph is a list of bytes.
use Rattle.std.proofs.Common.{◌≡◌, ℕ, zero, suc, ◌+◌, ◌*◌, ◌/◌, ◌%◌, ◌^◌, ◌<◌, ◌≤◌, Bool, true, false, cond, ◌&&◌, ltb, eqb, List, [], ◌∷◌, ◌++◌, length, get_or, Option, Some, None, All, refl, subst, ◌∙◌, arith, ℤ, pos, negsuc}
use Rattle.std.specs.List.{slice_get}
use Rattle.std.specs.Int.{w32, to_be_bytes, cast_unsigned}
use Rattle.std.proofs.lemmas.Bool.{lt-ltb, ltb-true, and_parts}
use Rattle.std.proofs.lemmas.List.Folds.{list_all-append}
use Rattle.newt_graph.specs.declared.node.Node.{Node}
use Rattle.newt_graph.specs.declared.node.Node.TheVariants.{Symbol, Str, Binary, Large, Array, Frame}
use Rattle.newt_graph.specs.declared.node.Ref.{Ref}
use Rattle.newt_graph.specs.declared.node.Ref.TheVariants as refs
use Rattle.newt_graph.specs.Graph.{RawGraph, IsGraph, IsNode, IsName, IsText, IsData}
use Rattle.newt_spec_nsof.specs.Text.{units_text, number_text, large_text}
use Rattle.newt_spec_nsof.specs.Flat.{xlong_text, count_text, character_text, word_text, again_text, symbol_text, Text, each_text, new_label, label_text, frame_text, string_text, binary_text, plain_large_text, plain_array_text, array_text, any_array_text, new_node, text_at, value_text, flat}
use Rattle.newt_nsof_flat.specs.Stream.{are_bytes}

abbrev Fit : List ℕ → Type 0
Fit xs = are_bytes xs ≡ true

more : (b : ℕ) (bs : List ℕ) → b < 256 → Fit bs → Fit (b ∷ bs)
more b bs lt h = rw (lt-ltb b 256 lt, h) refl

joined : (xs ys : List ℕ) → Fit xs → Fit ys → Fit (xs ++ ys)
joined xs ys h k = list_all-append (λ b. ltb b 256) xs ys ∙ rw (h, k) refl

all_fit : (xs : List ℕ) (bound : ℕ) → bound ≤ 256 → All (λ b. b < bound) xs → Fit xs
all_fit [] bound le h = refl
all_fit (x ∷ xs) bound le h = more x xs (let lt : x < bound = h 0 0 (omega arith) in omega (arith, lt, le)) (all_fit xs bound le (λ k d lt. h (suc k) d (omega (arith, lt))))

four_fit : (a b c d : ℕ) → a < 256 → b < 256 → c < 256 → d < 256 → Fit (a ∷ b ∷ c ∷ d ∷ [])
four_fit a b c d h i j k = more a (b ∷ c ∷ d ∷ []) h (more b (c ∷ d ∷ []) i (more c (d ∷ []) j (more d [] k refl)))

be32_fits : (n : ℕ) → Fit (to_be_bytes w32 n)
be32_fits n = four_fit (n / 256 ^ 3 % 256) (n / 256 ^ 2 % 256) (n / 256 ^ 1 % 256) (n % 256) (omega arith) (omega arith) (omega arith) (omega arith)

-- a choice of two texts
either : (b : Bool) (xs ys : List ℕ) → (b ≡ true → Fit xs) → Fit ys → Fit (cond b xs ys)
either true xs ys h k = h refl
either false xs ys h k = k

-- a choice of two texts with what is met after them
either_text : (b : Bool) (x y : Text) → Fit x.0 → Fit y.0 → Fit (cond b x y).0
either_text true x y h k = h
either_text false x y h k = k

xlong_fits : (z : ℤ) → Fit (xlong_text z)
unfolding xlong_text
xlong_fits (pos n) = either (ltb n 255) (n ∷ []) (255 ∷ to_be_bytes w32 (cast_unsigned w32 (pos n))) (λ h. let lt : n < 255 = ltb-true n 255 h in more n [] (omega (arith, lt)) refl) (be32_fits (cast_unsigned w32 (pos n)))
xlong_fits (negsuc n) = be32_fits (cast_unsigned w32 (negsuc n))

count_fits : (n : ℕ) → Fit (count_text n)
unfolding count_text
count_fits n = xlong_fits (pos n)

character_fits : (c : ℕ) → c < 65536 → Fit (character_text c)
character_fits c lt = either (ltb c 256) (1 ∷ c ∷ []) (2 ∷ c / 256 ∷ c % 256 ∷ []) (λ h. let le : c < 256 = ltb-true c 256 h in more c [] le refl) (more (c / 256) (c % 256 ∷ []) (omega (arith, lt)) (more (c % 256) [] (omega arith) refl))

word_fits : (w : ℤ) → Fit (word_text w)
unfolding word_text
word_fits (pos n) = either (eqb n 2) (10 ∷ []) _ (λ h. refl)
    (either (eqb (n % 16) 6 && ltb (n / 16) 65536) (character_text (n / 16)) (0 ∷ xlong_text (pos n))
    (λ h. let lt : n / 16 < 65536 = ltb-true (n / 16) 65536 (and_parts (eqb (n % 16) 6) (ltb (n / 16) 65536) h).1 in character_fits (n / 16) lt) (xlong_fits (pos n)))
word_fits (negsuc n) = xlong_fits (negsuc n)

symbol_fits : (name : List ℕ) → IsName name → Fit (symbol_text name)
symbol_fits name h = joined (count_text (length name)) name (count_fits (length name)) (all_fit name 127 (omega arith) (λ k d lt. (h.each k d lt).1))

units_fit : (units : List ℕ) → All (λ u. u < 65536) units → Fit (units_text units)
units_fit [] h = refl
units_fit (u ∷ us) h =
    let lt : u < 65536 = h 0 0 (omega arith) in
    more (u / 256) (u % 256 ∷ units_text us) (omega (arith, lt)) (more (u % 256) (units_text us) (omega arith) (units_fit us (λ k d lt. h (suc k) d (omega (arith, lt)))))

string_fits : (units : List ℕ) → IsText units → Fit (string_text units)
string_fits units h = joined (count_text (2 * length units + 2)) (units_text units ++ 0 ∷ 0 ∷ []) (count_fits (2 * length units + 2)) (joined (units_text units) (0 ∷ 0 ∷ []) (units_fit units h.each) refl)

number_fits : (n : ℕ) → Fit (number_text n)
unfolding number_text
number_fits n = be32_fits n

data_fits : (bytes : List ℕ) → IsData bytes → Fit bytes
data_fits bytes h = all_fit bytes 256 (omega arith) h.each

large_fits : (bytes : List ℕ) → IsData bytes → Fit (large_text 0 0 [] [] bytes)
large_fits bytes h =
    joined (number_text (length bytes)) (number_text 0 ++ (number_text 0 ++ (number_text 0 ++ bytes))) (number_fits (length bytes))
    (joined (number_text 0) (number_text 0 ++ (number_text 0 ++ bytes)) (number_fits 0) (joined (number_text 0) (number_text 0 ++ bytes) (number_fits 0) (joined (number_text 0) bytes (number_fits 0) (data_fits bytes h))))

each_fits : {A : Type 0} (one : A → ℕ → Text) → ((x : A) (met : ℕ) → Fit (one x met).0) → (xs : List A) (met : ℕ) → Fit (each_text one xs met).0
unfolding each_text
each_fits one h [] met = refl
each_fits one h (x ∷ xs) met = joined (one x met).0 (each_text one xs (one x met).1).0 (h x met) (each_fits one h xs (one x met).1)

-- each node that is there meets the rules
abbrev AreNodes : List Node → Type 0
AreNodes nodes = (k : ℕ) (node : Node) → slice_get nodes k ≡ Some node → IsNode nodes node

module _ (nodes : List Node) (are : AreNodes nodes) where
  label_fits : (k met : ℕ) → Fit (label_text nodes k met).0
  unfolding label_text
  label_fits k met = either_text (ltb k met) (again_text k, met) (new_label (slice_get nodes k) met) (count_fits k) (go (slice_get nodes k) refl)
    where
      go : (o : Option Node) → slice_get nodes k ≡ o → Fit (new_label o met).0
      go None e = refl
      go (Some (Symbol name)) e = symbol_fits name (are k (Symbol name) e)
      go (Some (Str units)) e = refl
      go (Some (Binary class bytes)) e = refl
      go (Some (Large class bytes)) e = refl
      go (Some (Array class values)) e = refl
      go (Some (Frame tags values)) e = refl

  module _ (inner : Ref → ℕ → Text) (within : (value : Ref) (met : ℕ) → Fit (inner value met).0) where
    frame_fits : (tags : List ℕ) (values : List Ref) (met : ℕ) → Fit (frame_text inner nodes tags values met).0
    unfolding frame_text
    frame_fits tags values met =
        let tagged = each_text (label_text nodes) tags (met + 1) in
        let valued = each_text inner values tagged.1 in
        joined (count_text (length tags)) (tagged.0 ++ valued.0) (count_fits (length tags)) (joined tagged.0 valued.0 (each_fits (label_text nodes) label_fits tags (met + 1)) (each_fits inner within values tagged.1))

    array_fits : (class : Option ℕ) (values : List Ref) (met : ℕ) → Fit (any_array_text inner nodes class values met).0
    unfolding plain_array_text array_text
    array_fits None values met = joined (count_text (length values)) (each_text inner values (met + 1)).0 (count_fits (length values)) (each_fits inner within values (met + 1))
    array_fits (Some class) values met =
        let label = label_text nodes class (met + 1) in
        let valued = each_text inner values label.1 in
        joined (count_text (length values)) (label.0 ++ valued.0) (count_fits (length values)) (joined label.0 valued.0 (label_fits class (met + 1)) (each_fits inner within values label.1))

    binary_fits : (class : ℕ) (bytes : List ℕ) (met : ℕ) → IsData bytes → Fit (binary_text nodes class bytes met).0
    unfolding binary_text
    binary_fits class bytes met h =
        let label = label_text nodes class (met + 1) in
        joined (count_text (length bytes)) (label.0 ++ bytes) (count_fits (length bytes)) (joined label.0 bytes (label_fits class (met + 1)) (data_fits bytes h))

    plain_large_fits : (class : ℕ) (bytes : List ℕ) (met : ℕ) → IsData bytes → Fit (plain_large_text nodes class bytes met).0
    unfolding plain_large_text
    plain_large_fits class bytes met h =
        let label = label_text nodes class (met + 1) in
        joined label.0 (large_text 0 0 [] [] bytes) (label_fits class (met + 1)) (large_fits bytes h)

    node_fits : (k met : ℕ) (o : Option Node) → slice_get nodes k ≡ o → Fit (new_node inner nodes o met).0
    node_fits k met None e = refl
    node_fits k met (Some (Symbol name)) e = symbol_fits name (are k (Symbol name) e)
    node_fits k met (Some (Str units)) e = string_fits units (are k (Str units) e)
    node_fits k met (Some (Binary class bytes)) e = binary_fits class bytes met (are k (Binary class bytes) e).1
    node_fits k met (Some (Large class bytes)) e = plain_large_fits class bytes met (are k (Large class bytes) e).1
    node_fits k met (Some (Array class values)) e = array_fits class values met
    node_fits k met (Some (Frame tags values)) e = frame_fits tags values met

    value_fits : (value : Ref) (met : ℕ) → Fit (text_at inner nodes value met).0
    value_fits (refs.Imm w) met = word_fits w
    value_fits (refs.Node k) met = either_text (ltb k met) (again_text k, met) (new_node inner nodes (slice_get nodes k) met) (count_fits k) (node_fits k met (slice_get nodes k) refl)

  values_fit : (room : ℕ) (value : Ref) (met : ℕ) → Fit (value_text room nodes value met).0
  unfolding value_text
  values_fit zero value met = value_fits (λ value met. ([], met)) (λ value met. refl) value met
  values_fit (suc room) value met = value_fits (λ value met. value_text room nodes value met) (values_fit room) value met

node_at : (nodes all : List Node) → ((k : ℕ) (d : Node) → k < length nodes → IsNode all (get_or nodes k d)) → (k : ℕ) (node : Node) → slice_get nodes k ≡ Some node → IsNode all node
node_at [] all h k node e = absurd cc
node_at (x ∷ xs) all h zero node e = let same : x ≡ node = cc in subst (λ (n : Node). IsNode all n) same (h 0 x (omega arith))
node_at (x ∷ xs) all h (suc k) node e = node_at xs all (λ i d lt. h (suc i) d (omega (arith, lt))) k node e

pub written_fits : (g : RawGraph) → IsGraph g → are_bytes (flat g) ≡ true
unfolding flat
written_fits g h = values_fit g.nodes (node_at g.nodes g.nodes h.each) 200 g.root 0
