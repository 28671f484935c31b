-- The printed text of a graph has characters from 32 to 126 alone.
use Rattle.std.proofs.Common.{◌≡◌, ℕ, zero, suc, ◌+◌, ◌-◌, ◌/◌, ◌%◌, ◌^◌, ◌<◌, ◌≤◌, Bool, true, false, ltb, leb, eqb, List, [], ◌∷◌, ◌++◌, map, Option, Some, None, refl, ap, ◌∙◌, subst, arith, inl, inr, ℤ, pos, negsuc, All}
use Rattle.std.specs.Prelude.{slice_get, flat_map, codes, decimal, zip, not, ◌&&◌}
use Rattle.std.specs.Fmt.{signed_decimal}
use Rattle.std.specs.Int.{w32, cast_unsigned, int_div_euclid}
use Rattle.std.proofs.lemmas.Bool.{ltb-true, leb-true, and_parts}
use Rattle.std.proofs.lemmas.Fmt.{decimal_by_steps}
use Rattle.std.proofs.lemmas.Option.{slice_get_within}
use Rattle.std.proofs.lemmas.List.Elements.{All-nil, All-cons, All-head, All-tail, All-append}
use Rattle.newt_base.specs.Names.{is_printable, is_identifier}
use Rattle.newt_base.specs.Text.{hex_text, hex_digit, be16, be32}
use Rattle.newt_graph.specs.declared.node.Node.{Node}
use Rattle.newt_graph.specs.declared.node.Node.TheVariants as nodes
use Rattle.newt_graph.specs.declared.node.Ref.{Ref}
use Rattle.newt_graph.specs.declared.node.Ref.TheVariants as refs
use Rattle.newt_graph.specs.Graph.{RawGraph, IsGraph, IsName, IsWord, IsNode, WalkLabel, WalkLabels, Walk, Walks}
use Rattle.newt_graph.specs.Raw.{values_of}
use Rattle.newt_spec_literal.specs.Spelling.{Spelling}
use Rattle.newt_spec_literal.specs.Words.{is_shown}
use Rattle.newt_spec_literal.specs.Printed.{escaped, name_text, symbol_text, hex16, character_text, word_text, unit_text, string_text, binary_text, more_text, list_text, class_text, field_text, object_text, label_text, label_of, met_or_new, is_symbol, node_text, ref_text, node_at, labels, literal}
use Rattle.newt_spec_literal.proofs.Labels.{node_rules, label_le}
use Rattle.newt_spec_literal.proofs.Lists.{get_either}

-- characters from 32 to 126
abbrev pub IsPlain : List ℕ → Type 0
IsPlain text = All (λ c. (32 ≤ c) × (c < 127)) text

none : IsPlain []
none = All-nil (λ c. (32 ≤ c) × (c < 127))

cons : (c : ℕ) (text : List ℕ) → 32 ≤ c → c < 127 → IsPlain text → IsPlain (c ∷ text)
cons c text low high all = All-cons (λ c. (32 ≤ c) × (c < 127)) c text (low, high) all

both : (a b : List ℕ) → IsPlain a → IsPlain b → IsPlain (a ++ b)
both a b x y = All-append (λ c. (32 ≤ c) × (c < 127)) a b x y

flat : {X : Type 0} (f : X → List ℕ) (P : X → Type 0) → ((x : X) → P x → IsPlain (f x)) → (xs : List X) → All P xs → IsPlain (flat_map f xs)
flat f P each [] all = none
flat f P each (x ∷ xs) all = both (f x) (flat_map f xs) (each x (All-head P x xs all)) (flat f P each xs (All-tail P x xs all))

-- ---- tokens

escaped_plain : (marks : List ℕ) (c : ℕ) → 32 ≤ c → c < 127 → IsPlain (escaped marks c)
escaped_plain marks c low high = grind arith

digit_plain : (d : ℕ) → d < 16 → (32 ≤ hex_digit d) × (hex_digit d < 127)
digit_plain d lt = go (ltb d 10) refl
  where
    go : (b : Bool) → ltb d 10 ≡ b → (32 ≤ hex_digit d) × (hex_digit d < 127)
    go true e = rw e (omega arith, omega (arith, ltb-true d 10 e))
    go false e = rw e (omega arith, omega (arith, lt))

byte_plain : (b : ℕ) → b < 256 → IsPlain (hex_digit (b / 16) ∷ hex_digit (b % 16) ∷ [])
byte_plain b lt =
    let high = digit_plain (b / 16) (omega (arith, lt)) in
    let low = digit_plain (b % 16) (omega arith) in
    cons (hex_digit (b / 16)) (hex_digit (b % 16) ∷ []) high.0 high.1 (cons (hex_digit (b % 16)) [] low.0 low.1 none)

hex_plain : (bytes : List ℕ) → All (λ b. b < 256) bytes → IsPlain (hex_text bytes)
hex_plain bytes all = flat (λ b. hex_digit (b / 16) ∷ hex_digit (b % 16) ∷ []) (λ b. b < 256) byte_plain bytes all

hex16_plain : (n : ℕ) → IsPlain (hex16 n)
hex16_plain n = hex_plain (be16 n) (All-cons (λ b. b < 256) (n / 256 % 256) (n % 256 ∷ []) (omega arith) (All-cons (λ b. b < 256) (n % 256) [] (omega arith) (All-nil (λ b. b < 256))))

hex32_plain : (n : ℕ) → IsPlain (hex_text (be32 n))
hex32_plain n = both (hex16 (n / 2 ^ 16)) (hex16 n) (hex16_plain (n / 2 ^ 16)) (hex16_plain n)

decimal_plain : (n : ℕ) → n < 2 ^ 64 → IsPlain (decimal n)
decimal_plain n lt = decimal_by_steps (λ n ds. IsPlain ds) (λ n lt. cons (48 + n) [] (omega arith) (omega (arith, lt)) none) (λ n ds ge e. both ds ((48 + n % 10) ∷ []) e (cons (48 + n % 10) [] (omega arith) (omega arith) none)) n lt

name_plain : (name : List ℕ) → IsName name → IsPlain (name_text name)
name_plain name is = go (is_identifier name) refl
  where
    between : IsPlain (flat_map (escaped (codes "|\\")) name)
    between = flat (escaped (codes "|\\")) (λ c. (32 ≤ c) × (c < 127)) (λ c h. escaped_plain (codes "|\\") c h.0 h.1) name is.each

    go : (b : Bool) → is_identifier name ≡ b → IsPlain (name_text name)
    go true e = rw e is.each
    go false e = rw e (cons 124 (flat_map (escaped (codes "|\\")) name ++ 124 ∷ []) (omega arith) (omega arith) (both (flat_map (escaped (codes "|\\")) name) (124 ∷ []) between (cons 124 [] (omega arith) (omega arith) none)))

unit_plain : (u : ℕ) → IsPlain (unit_text u)
unit_plain u = go (is_printable u) refl
  where
    go : (b : Bool) → is_printable u ≡ b → IsPlain (unit_text u)
    go true e = let parts = and_parts (leb 32 u) (leb u 126) e in rw e (escaped_plain (codes "\"\\") u (leb-true 32 u parts.0) (let h : u ≤ 126 = leb-true u 126 parts.1 in omega (arith, h)))
    go false e = rw e (cons 92 (117 ∷ hex16 u) (omega arith) (omega arith) (cons 117 (hex16 u) (omega arith) (omega arith) (hex16_plain u)))

character_plain : (c : ℕ) → IsPlain (character_text c)
character_plain c = go (is_shown c) refl
  where
    go : (b : Bool) → is_shown c ≡ b → IsPlain (character_text c)
    go true e =
        let range = and_parts (leb 33 c) (leb c 126) (and_parts (leb 33 c && leb c 126) (not (eqb c 92)) e).0 in
        let low : 33 ≤ c = leb-true 33 c range.0 in
        let high : c ≤ 126 = leb-true c 126 range.1 in
        rw e (cons 36 (c ∷ []) (omega arith) (omega arith) (cons c [] (omega (arith, low)) (omega (arith, high)) none))
    go false e = rw e (cons 36 (92 ∷ hex16 c) (omega arith) (omega arith) (cons 92 (hex16 c) (omega arith) (omega arith) (hex16_plain c)))

word_in : (w : ℤ) (bits : ℕ) → bits ≡ cast_unsigned w32 w → IsPlain (signed_decimal (int_div_euclid w (pos 4))) → IsPlain (word_text w)
word_in w bits e integer = go (eqb (bits % 4) 0) refl (eqb bits 2) refl (eqb bits 26) refl (eqb (bits % 16) 6 && ltb bits 1048576) refl
  where
    go : (whole : Bool) → eqb (bits % 4) 0 ≡ whole → (nil : Bool) → eqb bits 2 ≡ nil → (truth : Bool) → eqb bits 26 ≡ truth → (character : Bool) → (eqb (bits % 16) 6 && ltb bits 1048576) ≡ character → IsPlain (word_text w)
    go true a nil b truth c character d = rw (← e, a) integer
    go false a true b truth c character d = rw (← e, a, b) (cons 110 (105 ∷ 108 ∷ []) (omega arith) (omega arith) (cons 105 (108 ∷ []) (omega arith) (omega arith) (cons 108 [] (omega arith) (omega arith) none)))
    go false a false b true c character d =
        rw (← e, a, b, c) (cons 116 (114 ∷ 117 ∷ 101 ∷ []) (omega arith) (omega arith) (cons 114 (117 ∷ 101 ∷ []) (omega arith) (omega arith) (cons 117 (101 ∷ []) (omega arith) (omega arith) (cons 101 [] (omega arith) (omega arith) none))))
    go false a false b false c true d = rw (← e, a, b, c, d) (character_plain (bits / 16))
    go false a false b false c false d = rw (← e, a, b, c, d) (cons 38 (hex_text (be32 bits)) (omega arith) (omega arith) (hex32_plain bits))

word_plain : (w : ℤ) → IsWord w → IsPlain (word_text w)
word_plain (pos n) is = let lt : n < 2147483648 = is.fits.sfits in word_in (pos n) n refl (decimal_plain (n / 4) (omega (arith, lt)))
word_plain (negsuc n) is =
    let lt : n < 2147483648 = is.fits.sfits in
    word_in (negsuc n) (4294967296 - suc n) refl (cons 45 (decimal (suc (n / 4))) (omega arith) (omega arith) (decimal_plain (suc (n / 4)) (omega (arith, lt))))

string_plain : (units : List ℕ) → IsPlain (string_text units)
string_plain units =
    let all : IsPlain (flat_map unit_text units) = flat unit_text (λ u. Unit {0}) (λ u h. unit_plain u) units (λ k d lt. tt) in
    cons 34 (flat_map unit_text units ++ 34 ∷ []) (omega arith) (omega arith) (both (flat_map unit_text units) (34 ∷ []) all (cons 34 [] (omega arith) (omega arith) none))

label_plain : (label : Option ℕ) (mark : ℕ) → ((l : ℕ) → label ≡ Some l → l < 2 ^ 64) → 32 ≤ mark → mark < 127 → IsPlain (label_text label mark)
label_plain None mark small low high = none
label_plain (Some l) mark small low high = cons 35 (decimal l ++ mark ∷ []) (omega arith) (omega arith) (both (decimal l) (mark ∷ []) (decimal_plain l (small l refl)) (cons mark [] low high none))

-- ---- lists

EachPlain : List Spelling → Type 0
EachPlain [] = Unit {0}
EachPlain (s ∷ ss) = ((count : ℕ) → IsPlain (s count).0) × EachPlain ss

each_plain : {X : Type 0} (f : X → Spelling) (xs : List X) → ((i : ℕ) (x : X) → slice_get xs i ≡ Some x → (count : ℕ) → IsPlain (f x count).0) → EachPlain (map f xs)
unfolding EachPlain
each_plain f [] each = tt
each_plain f (x ∷ xs) each = (each 0 x refl, each_plain f xs (λ i y e. each (suc i) y e))

more_plain : (close : ℕ) → 32 ≤ close → close < 127 → (ss : List Spelling) → EachPlain ss → (count : ℕ) → IsPlain (more_text close ss count).0
unfolding EachPlain
more_plain close low high [] each count = cons close [] low high none
more_plain close low high (s ∷ ss) each count =
    let rest : List ℕ = (s count).0 ++ (more_text close ss (s count).1).0 in
    cons 44 (32 ∷ rest) (omega arith) (omega arith) (cons 32 rest (omega arith) (omega arith) (both (s count).0 (more_text close ss (s count).1).0 (each.0 count) (more_plain close low high ss each.1 (s count).1)))

list_plain : (close : ℕ) → 32 ≤ close → close < 127 → (ss : List Spelling) → EachPlain ss → (count : ℕ) → IsPlain (list_text close ss count).0
unfolding EachPlain
list_plain close low high [] each count = cons close [] low high none
list_plain close low high (s ∷ ss) each count = both (s count).0 (more_text close ss (s count).1).0 (each.0 count) (more_plain close low high ss each.1 (s count).1)

-- ---- the words of a graph

Words : List Ref → Type 0
Words rs = (i : ℕ) (w : ℤ) → slice_get rs i ≡ Some (refs.Imm w) → IsWord w

NodesWords : List Node → Type 0
NodesWords new = (i : ℕ) (node : Node) → slice_get new i ≡ Some node → Words (values_of node)

no_words : (i : ℕ) (w : ℤ) → slice_get {X = Ref} [] i ≡ Some (refs.Imm w) → IsWord w
no_words i w e = absurd cc

first_words : (x : Node) (new : List Node) → Words (values_of x) → NodesWords new → NodesWords (x ∷ new)
unfolding Words NodesWords
first_words x new words others zero node e = let same : x ≡ node = cc in subst (λ (y : Node). (i : ℕ) (w : ℤ) → slice_get (values_of y) i ≡ Some (refs.Imm w) → IsWord w) same words
first_words x new words others (suc i) node e = others i node e

append_words : (a b : List Node) → NodesWords a → NodesWords b → NodesWords (a ++ b)
unfolding NodesWords
append_words a b first second i node e = elim (get_either a b i node e) [ inl h ↦ first i node h | inr h ↦ second h.0 node h.2 ]

no_nodes : NodesWords []
unfolding NodesWords
no_nodes i node e = absurd cc

symbol_words : (name : List ℕ) → NodesWords (nodes.Symbol name ∷ [])
unfolding Words
symbol_words name = first_words (nodes.Symbol name) [] no_words no_nodes

label_words : {met c : ℕ} {new : List Node} → WalkLabel met c new → NodesWords new
label_words (WalkLabel.again lt) = no_nodes
label_words (WalkLabel.symbol {name = name}) = symbol_words name

labels_words : {met : ℕ} {ks : List ℕ} {new : List Node} → WalkLabels met ks new → NodesWords new
labels_words WalkLabels.none = no_nodes
labels_words (WalkLabels.more {first = first} {others = others} one rest) = append_words first others (label_words one) (labels_words rest)

no_word : (k : ℕ) (w : ℤ) → refs.Node k ≡ refs.Imm w → IsWord w
no_word k w e = absurd cc

same_word : (v w : ℤ) → refs.Imm v ≡ refs.Imm w → IsWord v → IsWord w
same_word v w e is = let same : v ≡ w = cc in subst IsWord same is

row_words : (r : Ref) (rs : List Ref) → ((w : ℤ) → r ≡ refs.Imm w → IsWord w) → Words rs → Words (r ∷ rs)
unfolding Words
row_words r rs one rest zero w e = one w cc
row_words r rs one rest (suc i) w e = rest i w e

mutual
  unfolding Words

  walk_words : {room met : ℕ} {r : Ref} {new : List Node} → Walk room met r new → ((w : ℤ) → r ≡ refs.Imm w → IsWord w) × NodesWords new
  walk_words (Walk.word {w = v} is) = (λ w e. same_word v w e is, no_nodes)
  walk_words (Walk.again {k = k} lt) = (no_word k, no_nodes)
  walk_words {met = met} (Walk.symbol {name = name}) = (no_word met, symbol_words name)
  walk_words {met = met} (Walk.string {units = units}) = (no_word met, first_words (nodes.Str units) [] no_words no_nodes)
  walk_words {met = met} (Walk.binary {class = class} {bytes = bytes} {new = new} label) = (no_word met, first_words (nodes.Binary class bytes) new no_words (label_words label))
  walk_words {met = met} (Walk.large {class = class} {bytes = bytes} {new = new} label) = (no_word met, first_words (nodes.Large class bytes) new no_words (label_words label))
  walk_words {met = met} (Walk.frame {tags = tags} {values = values} {tagged = tagged} {valued = valued} walked walks) =
      let w = walks_words walks in (no_word met, first_words (nodes.Frame tags values) (tagged ++ valued) w.0 (append_words tagged valued (labels_words walked) w.1))
  walk_words {met = met} (Walk.plain_array {values = values} {valued = valued} walks) = let w = walks_words walks in (no_word met, first_words (nodes.Array None values) valued w.0 w.1)
  walk_words {met = met} (Walk.array {class = class} {values = values} {first = first} {valued = valued} label walks) =
      let w = walks_words walks in (no_word met, first_words (nodes.Array (Some class) values) (first ++ valued) w.0 (append_words first valued (label_words label) w.1))

  walks_words : {room met : ℕ} {rs : List Ref} {new : List Node} → Walks room met rs new → Words rs × NodesWords new
  walks_words Walks.none = (no_words, no_nodes)
  walks_words (Walks.more {value = value} {values = values} {first = first} {others = others} one rest) =
      let a = walk_words one in let b = walks_words rest in (row_words value values a.0 b.0, append_words first others a.1 b.1)

-- ---- objects at every level

-- what a graph has that is printed
record IsFine (graph : List Node) (labels : List (Option ℕ)) : Type 0 where
  rules : (k : ℕ) (node : Node) → slice_get graph k ≡ Some node → IsNode graph node
  words : NodesWords graph
  small : (k l : ℕ) (node : Node) → slice_get graph k ≡ Some node → label_of labels k ≡ Some l → l < 2 ^ 64

module _ (graph : List Node) (labels : List (Option ℕ)) (f : IsFine graph labels) where
  symbol_plain : (k : ℕ) → IsPlain (symbol_text (slice_get graph k))
  symbol_plain k = go (slice_get graph k) refl
    where
      go : (o : Option Node) → slice_get graph k ≡ o → IsPlain (symbol_text o)
      go None e = none
      go (Some (nodes.Symbol name)) e = name_plain name (f.rules k (nodes.Symbol name) e)
      go (Some (nodes.Str units)) e = none
      go (Some (nodes.Binary class bytes)) e = none
      go (Some (nodes.Large class bytes)) e = none
      go (Some (nodes.Array class values)) e = none
      go (Some (nodes.Frame tags values)) e = none

  binary_plain : (before after : List ℕ) (class : ℕ) (bytes : List ℕ) → IsPlain before → IsPlain after → All (λ b. b < 256) bytes → IsPlain (binary_text graph before after class bytes)
  binary_plain before after class bytes x y all =
      let name = symbol_text (slice_get graph class) in
      both before (name ++ (58 ∷ (hex_text bytes ++ after))) x (both name (58 ∷ (hex_text bytes ++ after)) (symbol_plain class)
      (cons 58 (hex_text bytes ++ after) (omega arith) (omega arith) (both (hex_text bytes) after (hex_plain bytes all) y)))

  class_plain : (class : Option ℕ) (values : List Ref) → IsPlain (class_text graph class values)
  class_plain None values = none
  class_plain (Some k) [] = both (symbol_text (slice_get graph k)) (58 ∷ []) (symbol_plain k) (cons 58 [] (omega arith) (omega arith) none)
  class_plain (Some k) (v ∷ vs) = both (symbol_text (slice_get graph k)) (58 ∷ 32 ∷ []) (symbol_plain k) (cons 58 (32 ∷ []) (omega arith) (omega arith) (cons 32 [] (omega arith) (omega arith) none))

  Fine : Ref → Type 0
  Fine r = (w : ℤ) → r ≡ refs.Imm w → IsWord w

  -- the values of a node are fine
  values_fine : (n : ℕ) (node : Node) → slice_get graph n ≡ Some node → (i : ℕ) (r : Ref) → slice_get (values_of node) i ≡ Some r → Fine r
  unfolding Fine NodesWords Words
  values_fine n node here i r e w same = f.words n node here i w (e ∙ ap (λ (x : Ref). Some x) same)

  zip_at : (tags : List ℕ) (values : List Ref) (i : ℕ) (x : ℕ × Ref) → slice_get (zip tags values) i ≡ Some x → slice_get values i ≡ Some x.1
  zip_at [] values i x e = absurd cc
  zip_at (k ∷ ks) [] i x e = absurd cc
  zip_at (k ∷ ks) (v ∷ vs) zero x e = let same : (k, v) ≡ x = cc in ap (λ (y : ℕ × Ref). Some y.1) same
  zip_at (k ∷ ks) (v ∷ vs) (suc i) x e = zip_at ks vs i x e

  object_plain : (n : ℕ) (node : Node) (value : Ref → Spelling) → slice_get graph n ≡ Some node → ((r : Ref) → Fine r → (count : ℕ) → IsPlain (value r count).0) → (count : ℕ) → IsPlain (object_text graph value node count).0
  object_plain n (nodes.Symbol name) value here each count = cons 39 (name_text name) (omega arith) (omega arith) (name_plain name (f.rules n (nodes.Symbol name) here))
  object_plain n (nodes.Str units) value here each count = string_plain units
  object_plain n (nodes.Binary class bytes) value here each count =
      binary_plain (60 ∷ []) (62 ∷ []) class bytes (cons 60 [] (omega arith) (omega arith) none) (cons 62 [] (omega arith) (omega arith) none) ((f.rules n (nodes.Binary class bytes) here).1).each
  object_plain n (nodes.Large class bytes) value here each count =
      binary_plain (60 ∷ 60 ∷ []) (62 ∷ 62 ∷ []) class bytes (cons 60 (60 ∷ []) (omega arith) (omega arith) (cons 60 [] (omega arith) (omega arith) none))
      (cons 62 (62 ∷ []) (omega arith) (omega arith) (cons 62 [] (omega arith) (omega arith) none)) ((f.rules n (nodes.Large class bytes) here).1).each
  object_plain n (nodes.Array class values) value here each count =
      both (91 ∷ class_text graph class values) (list_text 93 (map value values) count).0 (cons 91 (class_text graph class values) (omega arith) (omega arith) (class_plain class values))
      (list_plain 93 (omega arith) (omega arith) (map value values) (each_plain value values (λ i r e. each r (values_fine n (nodes.Array class values) here i r e))) count)
  object_plain n (nodes.Frame tags values) value here each count =
      cons 123 (list_text 125 (map (field_text graph value) (zip tags values)) count).0 (omega arith) (omega arith)
      (list_plain 125 (omega arith) (omega arith) (map (field_text graph value) (zip tags values)) (each_plain (field_text graph value) (zip tags values) (λ i x e count.
      both (symbol_text (slice_get graph x.0) ++ (58 ∷ 32 ∷ [])) (value x.1 count).0
      (both (symbol_text (slice_get graph x.0)) (58 ∷ 32 ∷ []) (symbol_plain x.0) (cons 58 (32 ∷ []) (omega arith) (omega arith) (cons 32 [] (omega arith) (omega arith) none)))
      (each x.1 (values_fine n (nodes.Frame tags values) here i x.1 (zip_at tags values i x e)) count))) count)

  value_of : (node : ℕ → Spelling) → ((n count : ℕ) → IsPlain (node n count).0) → (r : Ref) → Fine r → (count : ℕ) → IsPlain (ref_text node r count).0
  unfolding Fine
  value_of node each (refs.Imm w) fine count = word_plain w (fine w refl)
  value_of node each (refs.Node n) fine count = each n count

  node_plain : (levels n count : ℕ) → IsPlain (node_at graph labels levels n count).0
  node_plain zero n count = none
  node_plain (suc levels) n count = go (λ r fine count. value_of (node_at graph labels levels) (node_plain levels) r fine count) (slice_get graph n) refl
    where
      value : Ref → Spelling
      value = ref_text (node_at graph labels levels)

      found : ((r : Ref) → Fine r → (count : ℕ) → IsPlain (ref_text (node_at graph labels levels) r count).0) → (node : Node) → slice_get graph n ≡ Some node → (symbol : Bool) → is_symbol node ≡ symbol → (met : Bool) → ltb n count ≡ met
          → IsPlain (node_text graph labels (ref_text (node_at graph labels levels)) n (Some node) count).0
      found each node here true e met g = rw (node_text, e) (object_plain n node (ref_text (node_at graph labels levels)) here each count)
      found each node here false e true g = rw (node_text, e, met_or_new, g) (label_plain (label_of labels n) 35 (λ l e. f.small n l node here e) (omega arith) (omega arith))
      found each node here false e false g =
          let text = object_text graph (ref_text (node_at graph labels levels)) node (n + 1) in
          rw (node_text, e, met_or_new, g) (both (label_text (label_of labels n) 61) text.0 (label_plain (label_of labels n) 61 (λ l e. f.small n l node here e) (omega arith) (omega arith)) (object_plain n node (ref_text (node_at graph labels levels)) here each (n + 1)))

      go : ((r : Ref) → Fine r → (count : ℕ) → IsPlain (ref_text (node_at graph labels levels) r count).0) → (o : Option Node) → slice_get graph n ≡ o → IsPlain (node_text graph labels (ref_text (node_at graph labels levels)) n o count).0
      go each None e = none
      go each (Some node) e = found each node e (is_symbol node) refl (ltb n count) refl

-- the printed text has characters from 32 to 126 alone
pub literal_plain : (g : RawGraph) → IsGraph g → IsPlain (literal g)
unfolding Fine
literal_plain g is =
    let words = walk_words is.walk in
    let fine : IsFine g.nodes (labels g) = record { rules = node_rules g is; words = words.1; small = λ k l node here e. omega (arith, label_le g k l e, slice_get_within g.nodes k node here, is.few) } in
    value_of g.nodes (labels g) fine (node_at g.nodes (labels g) 201) (node_plain g.nodes (labels g) fine 201) g.root words.0 0
