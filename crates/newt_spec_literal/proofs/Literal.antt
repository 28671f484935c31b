-- The printed text of a graph reads as that graph.
use Rattle.std.proofs.Common.{◌≡◌, ℕ, zero, suc, ◌+◌, ◌<◌, ◌≤◌, Bool, true, false, cond, eqb, List, [], ◌∷◌, ◌++◌, length, map, get_or, Option, Some, refl, sym, ap, ◌∙◌, subst, arith, inl, inr, add-zero, zero-add}
use Rattle.std.specs.Prelude.{slice_get, flat_map}
use Rattle.std.specs.List.{range_with_len}
use Rattle.std.specs.Str.{chars, IsAscii}
use Rattle.std.proofs.lemmas.Bool.{eqb-true, eq-eqb, ne_eqb}
use Rattle.std.proofs.lemmas.List.{append-nil, length-map}
use Rattle.std.proofs.lemmas.List.Elements.{All-weaker}
use Rattle.std.proofs.lemmas.Str.{chars-IsAscii}
use Rattle.std.proofs.lemmas.Str.Ascii.{IsAscii-from_all}
use Rattle.std.proofs.lemmas.Option.{slice_get_cases, slice_get_within}
use Rattle.newt_graph.specs.declared.node.Node.{Node}
use Rattle.newt_graph.specs.declared.node.Node.TheVariants as nodes
use Rattle.newt_graph.specs.declared.node.Ref.{Ref}
use Rattle.newt_graph.specs.declared.node.Ref.TheVariants as refs
use Rattle.newt_graph.specs.Graph.{RawGraph, IsGraph}
use Rattle.newt_graph.specs.Raw.{renamed, renamed_ref, renamed_class, IsSeenBy}
use Rattle.newt_spec_literal.specs.Built.{Built}
use Rattle.newt_spec_literal.specs.Grammar.{Reads, Value}
use Rattle.newt_spec_literal.specs.Printed.{is_symbol, labels, literal}
use Rattle.newt_spec_literal.proofs.Images.{RefStands, ClassStands, Both, Leads, NodeStands}
use Rattle.newt_spec_literal.proofs.Labels.{graph_told, node_rules, labels_apart, label_le}
use Rattle.newt_spec_literal.proofs.Law.{told_writes}
use Rattle.newt_spec_literal.proofs.Lists.{get_either}
use Rattle.newt_spec_literal.proofs.Objects.{IsPrinted}
use Rattle.newt_spec_literal.proofs.Plain.{literal_plain}
use Rattle.newt_spec_literal.proofs.Stands.{Stands}
use Rattle.newt_spec_literal.proofs.Telling.{symbol_is}
use Rattle.newt_spec_literal.proofs.Walked.{parts, count, count_cons, count_append, named}

-- ---- where a number stands

place : List ℕ → ℕ → ℕ
place [] k = 0
place (x ∷ xs) k = cond (eqb x k) 0 (suc (place xs k))

place_at : (seen : List ℕ) → ((p q k : ℕ) → slice_get seen p ≡ Some k → slice_get seen q ≡ Some k → p ≡ q) → (p k : ℕ) → slice_get seen p ≡ Some k → place seen k ≡ p
unfolding place
place_at [] apart p k e = absurd cc
place_at (x ∷ xs) apart zero k e = let same : x ≡ k = cc in rw (eq-eqb x k same) refl
place_at (x ∷ xs) apart (suc p) k e =
    let other : x ≡ k → ⊥ = λ same. let wrong : 0 ≡ suc p = apart 0 (suc p) k (ap (λ (n : ℕ). Some n) same) e in omega (arith, wrong) in
    rw (ne_eqb x k other) (ap suc (place_at xs (λ p q k e f. let s : suc p ≡ suc q = apart (suc p) (suc q) k e f in omega (arith, s)) p k e))

-- ---- lists along numbers

along : {X : Type 0} (f : ℕ → X) (from n i : ℕ) (d : X) → i < n → get_or (map f (range_with_len from n)) i d ≡ f (from + i)
along f from zero i d lt = absurd (omega (arith, lt))
along f from (suc n) zero d lt = ap f (sym (add-zero from))
along f from (suc n) (suc i) d lt = along f (from + 1) n i d (omega (arith, lt)) ∙ ap f (let e : from + 1 + i ≡ from + suc i = omega arith in e)

same_along : {X Y : Type 0} (f : X → Y) (g : ℕ → Y) (xs : List X) (from : ℕ) → ((i : ℕ) (x : X) → slice_get xs i ≡ Some x → f x ≡ g (from + i)) → map f xs ≡ map g (range_with_len from (length xs))
same_along f g [] from each = refl
same_along f g (x ∷ xs) from each =
    let head : f x ≡ g from = each 0 x refl ∙ ap g (add-zero from) in
    let tail = same_along f g xs (from + 1) (λ i y e. each (suc i) y e ∙ ap g (let s : from + suc i ≡ from + 1 + i = omega arith in s)) in
    rw (head, tail) refl

map_map : {X Y Z : Type 0} (f : Y → Z) (g : X → Y) (xs : List X) → map f (map g xs) ≡ map (λ x. f (g x)) xs
map_map f g [] = refl
map_map f g (x ∷ xs) = ap (λ l. f (g x) ∷ l) (map_map f g xs)

length_range : (from n : ℕ) → length (range_with_len from n) ≡ n
length_range from zero = refl
length_range from (suc n) = ap suc (length_range (from + 1) n)

-- ---- references that lead to a node

found_in : (k : ℕ) (rs : List Ref) → 1 ≤ count k rs → (i : ℕ) × (slice_get rs i ≡ Some (refs.Node k))
found_in k [] some = absurd (omega (arith, some))
found_in k (r ∷ rs) some = go (λ e. found_in k rs e) r refl
  where
    go : (1 ≤ count k rs → (i : ℕ) × (slice_get rs i ≡ Some (refs.Node k))) → (x : Ref) → r ≡ x → (i : ℕ) × (slice_get (r ∷ rs) i ≡ Some (refs.Node k))
    go others (refs.Imm w) e =
        let none : count k (r ∷ []) ≡ 0 = ap (λ (x : Ref). count k (x ∷ [])) e in
        let o = others (omega (arith, some, count_cons k r rs, none)) in (suc o.0, o.1)
    go others (refs.Node j) e = inner (eqb j k) refl
      where
        inner : (t : Bool) → eqb j k ≡ t → (i : ℕ) × (slice_get (r ∷ rs) i ≡ Some (refs.Node k))
        inner true t = (0, ap (λ (x : Ref). Some x) (e ∙ ap (λ (n : ℕ). refs.Node n) (eqb-true j k t)))
        inner false t =
            let none : count k (r ∷ []) ≡ 0 = ap (λ (x : Ref). count k (x ∷ [])) e ∙ rw t refl in
            let o = others (omega (arith, some, count_cons k r rs, none)) in (suc o.0, o.1)

found_flat : (k : ℕ) (ns : List Node) → 1 ≤ count k (flat_map parts ns) → (j : ℕ) × (node : Node) × (slice_get ns j ≡ Some node) × (1 ≤ count k (parts node))
found_flat k [] some = absurd (omega (arith, some))
found_flat k (x ∷ xs) some = go (λ e. found_flat k xs e) (count k (parts x)) refl
  where
    all : count k (parts x ++ flat_map parts xs) ≡ count k (parts x) + count k (flat_map parts xs)
    all = count_append k (parts x) (flat_map parts xs)

    go : (1 ≤ count k (flat_map parts xs) → (j : ℕ) × (node : Node) × (slice_get xs j ≡ Some node) × (1 ≤ count k (parts node))) → (n : ℕ) → count k (parts x) ≡ n
        → (j : ℕ) × (node : Node) × (slice_get (x ∷ xs) j ≡ Some node) × (1 ≤ count k (parts node))
    go others zero e = let o = others (omega (arith, some, all, e)) in (suc o.0, o.1, o.2, o.3)
    go others (suc n) e = (0, x, refl, omega (arith, e))

-- ---- what stands for what

map_at : (ks : List ℕ) (i k : ℕ) → slice_get (map refs.Node ks) i ≡ Some (refs.Node k) → slice_get ks i ≡ Some k
map_at [] i k e = absurd cc
map_at (j ∷ ks) zero k e = let same : j ≡ k = cc in ap (λ (n : ℕ). Some n) same
map_at (j ∷ ks) (suc i) k e = map_at ks i k e

number_at : (seen numbers tags : List ℕ) (i k : ℕ) → Both (Leads seen) numbers tags → slice_get tags i ≡ Some k → (q : ℕ) × (slice_get seen q ≡ Some k)
number_at seen _ _ i k Both.none e = absurd cc
number_at seen _ _ zero k (Both.more {a = q} {x = x} one rest) e = (q, one ∙ e)
number_at seen _ _ (suc i) k (Both.more {got = got} {xs = xs} one rest) e = number_at seen got xs i k rest e

ref_at : (seen : List ℕ) (got values : List Ref) (i k : ℕ) → Both (RefStands seen) got values → slice_get values i ≡ Some (refs.Node k) → (q : ℕ) × (slice_get seen q ≡ Some k)
ref_at seen _ _ i k Both.none e = absurd cc
ref_at seen _ _ zero k (Both.more (RefStands.word) rest) e = absurd cc
ref_at seen _ _ zero k (Both.more (RefStands.node {q = q} {k = j} there) rest) e = (q, there ∙ (let same : j ≡ k = cc in ap (λ (n : ℕ). Some n) same))
ref_at seen _ _ (suc i) k (Both.more {got = got} {xs = xs} one rest) e = ref_at seen got xs i k rest e

root_at : (seen : List ℕ) (a x : Ref) (k : ℕ) → RefStands seen a x → x ≡ refs.Node k → (p : ℕ) × (slice_get seen p ≡ Some k)
root_at seen _ _ k RefStands.word e = absurd cc
root_at seen _ _ k (RefStands.node {q = q} {k = j} there) e = (q, there ∙ (let same : j ≡ k = cc in ap (λ (n : ℕ). Some n) same))

part_at : (seen : List ℕ) {a x : Node} → NodeStands seen a x → (i k : ℕ) → slice_get (parts x) i ≡ Some (refs.Node k) → (q : ℕ) × (slice_get seen q ≡ Some k)
part_at seen NodeStands.symbol i k e = absurd cc
part_at seen NodeStands.string i k e = absurd cc
part_at seen (NodeStands.binary {q = q} {k = j} there) zero k e = (q, there ∙ (let same : j ≡ k = cc in ap (λ (n : ℕ). Some n) same))
part_at seen (NodeStands.binary there) (suc i) k e = absurd cc
part_at seen (NodeStands.large {q = q} {k = j} there) zero k e = (q, there ∙ (let same : j ≡ k = cc in ap (λ (n : ℕ). Some n) same))
part_at seen (NodeStands.large there) (suc i) k e = absurd cc
part_at seen (NodeStands.array {got = got} {values = values} ClassStands.none both) i k e = ref_at seen got values i k both e
part_at seen (NodeStands.array {got = got} {values = values} (ClassStands.some {q = q} {k = j} there) both) zero k e = (q, there ∙ (let same : j ≡ k = cc in ap (λ (n : ℕ). Some n) same))
part_at seen (NodeStands.array {got = got} {values = values} (ClassStands.some there) both) (suc i) k e = ref_at seen got values i k both e
part_at seen (NodeStands.frame {numbers = numbers} {tags = tags} {got = got} {values = values} tags_are both) i k e = elim (get_either (map refs.Node tags) values i (refs.Node k) e) [
  | inl h ↦ number_at seen numbers tags i k tags_are (map_at tags i k h)
  | inr h ↦ ref_at seen got values h.0 k both h.2
]

-- ---- other numbers for all

module _ (seen : List ℕ) (to : ℕ → ℕ) (back : (q k : ℕ) → slice_get seen q ≡ Some k → to k ≡ q) where
  ref_back : {a x : Ref} → RefStands seen a x → renamed_ref to x ≡ a
  ref_back RefStands.word = refl
  ref_back (RefStands.node {q = q} {k = k} e) = ap (λ (n : ℕ). refs.Node n) (back q k e)

  refs_back : {got values : List Ref} → Both (RefStands seen) got values → map (renamed_ref to) values ≡ got
  refs_back Both.none = refl
  refs_back (Both.more one rest) = rw (ref_back one, refs_back rest) refl

  tags_back : {numbers tags : List ℕ} → Both (Leads seen) numbers tags → map to tags ≡ numbers
  tags_back Both.none = refl
  tags_back (Both.more {a = q} {x = k} one rest) = rw (back q k one, tags_back rest) refl

  class_back : {a x : Option ℕ} → ClassStands seen a x → renamed_class to x ≡ a
  class_back ClassStands.none = refl
  class_back (ClassStands.some {q = q} {k = k} e) = ap (λ (n : ℕ). Some n) (back q k e)

  node_back : {a x : Node} → NodeStands seen a x → renamed to x ≡ a
  node_back NodeStands.symbol = refl
  node_back NodeStands.string = refl
  node_back (NodeStands.binary {q = q} {k = k} {bytes = bytes} e) = ap (λ (n : ℕ). nodes.Binary n bytes) (back q k e)
  node_back (NodeStands.large {q = q} {k = k} {bytes = bytes} e) = ap (λ (n : ℕ). nodes.Large n bytes) (back q k e)
  node_back (NodeStands.array class both) = rw (class_back class, refs_back both) refl
  node_back (NodeStands.frame tags both) = rw (tags_back tags, refs_back both) refl

-- ---- the whole text

start : Built
start = record { nodes = []; labels = [] }

nothing_stands : (graph : List Node) (labels : List (Option ℕ)) → Stands graph labels 0 [] [] start
unfolding start
nothing_stands graph labels = record {
  order = record { same = refl; symbols = λ p k name e named. absurd cc; names = λ p name e. absurd cc; apart = λ p q k e f. absurd cc; there = λ p k e. absurd cc };
  each = λ p k node e f closed. absurd cc;
  below = λ p k e. absurd cc;
  covers = λ k node lt here object. absurd (omega (arith, lt));
  given = λ k l node lt here object label. absurd (omega (arith, lt));
  only = λ l q e. absurd cc;
}

is_printed : (g : RawGraph) → IsGraph g → IsPrinted g.nodes (labels g)
is_printed g is = record {
  limit = is.few;
  light = is.light;
  once = is.folded_once;
  names = λ k name named. node_rules g is k (nodes.Symbol name) named;
  apart = labels_apart g;
  small = label_le g;
}

-- all that the text has written down at its end
record Written (g : RawGraph) : Type 0 where
  x : Ref
  after : Built
  seen : List ℕ
  is : Value 200 start (literal g) x after
  stands : Stands g.nodes (labels g) (length g.nodes) seen [] after
  back : RefStands seen x g.root

written : (g : RawGraph) → IsGraph g → Written g
unfolding start
written g is =
    let w = told_writes g.nodes (labels g) (is_printed g is) (graph_told g is) 0 [] [] (record { nodes = []; labels = [] }) (record {
      stands = nothing_stands g.nodes (labels g);
      agrees = record { le = omega arith; symbols = λ k le lt. absurd (omega (arith, lt)) };
      light = omega arith;
    }) in
    record { x = w.x; after = w.after; seen = w.extra; is = w.is; stands = w.ready.stands; back = w.back }

module _ (g : RawGraph) (is : IsGraph g) (w : Written g) where
  -- the node of the text that stands for a node of the graph
  image : (p k : ℕ) (node : Node) → slice_get w.seen p ≡ Some k → slice_get g.nodes k ≡ Some node → (a : Node) × (slice_get w.after.nodes p ≡ Some a) × NodeStands w.seen a node
  image p k node e here = elim (slice_get_cases w.after.nodes p).1 [
    | inl h ↦
        let s = w.stands.each p k h.0 e h.2 refl in
        let same : s.0 ≡ node = let f : Some s.0 ≡ Some node = sym s.1 ∙ here in cc in
        (h.0, h.2, subst (λ (x : Node). NodeStands w.seen h.0 x) same s.2)
    | inr h ↦ absurd (omega (arith, h.0, slice_get_within w.seen p k e, w.stands.order.same))
  ]

  object_covered : (k : ℕ) (node : Node) → slice_get g.nodes k ≡ Some node → is_symbol node ≡ false → (p : ℕ) × (slice_get w.seen p ≡ Some k)
  object_covered k node here object = w.stands.covers k node (slice_get_within g.nodes k node here) here object

  -- each node is met: it is the root, or a class, a tag or a value of an object that is met
  covered : (k : ℕ) → k < length g.nodes → (p : ℕ) × (slice_get w.seen p ≡ Some k)
  covered k lt = go (count k (g.root ∷ [])) refl
    where
      all : 1 ≤ count k (g.root ∷ []) + count k (flat_map parts g.nodes)
      all = named k is.walk (omega arith) (omega (arith, lt))

      below : (j : ℕ) (node : Node) → slice_get g.nodes j ≡ Some node → 1 ≤ count k (parts node) → (t : Bool) → is_symbol node ≡ t → (p : ℕ) × (slice_get w.seen p ≡ Some k)
      below j node here some true e =
          let s = symbol_is node e in
          let none : count k (parts node) ≡ 0 = ap (λ (x : Node). count k (parts x)) s.1 in
          absurd (omega (arith, some, none))
      below j node here some false e =
          let c = object_covered j node here e in
          let i = image c.0 j node c.1 here in
          let f = found_in k (parts node) some in
          part_at w.seen i.2 f.0 k f.1

      go : (n : ℕ) → count k (g.root ∷ []) ≡ n → (p : ℕ) × (slice_get w.seen p ≡ Some k)
      go zero e = let f = found_flat k g.nodes (omega (arith, all, e)) in below f.0 f.1 f.2 f.3 (is_symbol f.1) refl
      go (suc n) e =
          let f = found_in k (g.root ∷ []) (omega (arith, e)) in
          root_at w.seen w.x g.root k w.back (first f.0 f.1)
        where
          first : (i : ℕ) → slice_get (g.root ∷ []) i ≡ Some (refs.Node k) → g.root ≡ refs.Node k
          first zero e = cc
          first (suc i) e = absurd cc

  order : List ℕ
  order = map (place w.seen) (range_with_len 0 (length g.nodes))

  number : ℕ → ℕ
  number k = get_or order k 0

  number_is : (k : ℕ) → k < length g.nodes → number k ≡ place w.seen k
  unfolding number order
  number_is k lt = along (place w.seen) 0 (length g.nodes) k 0 lt ∙ ap (place w.seen) (zero-add k)

  place_is : (q k : ℕ) → slice_get w.seen q ≡ Some k → place w.seen k ≡ q
  place_is q k e = place_at w.seen w.stands.order.apart q k e

  back : (q k : ℕ) → slice_get w.seen q ≡ Some k → number k ≡ q
  back q k e = number_is k (w.stands.order.there q k e) ∙ place_is q k e

  seen_by : IsSeenBy order (record { nodes = w.after.nodes; root = w.x }) g
  unfolding number order
  seen_by = record {
    root = ref_back w.seen number back w.back;
    nodes = same_along (λ node. Some (renamed number node)) (λ k. slice_get w.after.nodes (place w.seen k)) g.nodes 0 (λ k node here.
        let c = covered k (slice_get_within g.nodes k node here) in
        let i = image c.0 k node c.1 here in
        ap (λ (x : Node). Some x) (node_back w.seen number back i.2) ∙ sym i.1 ∙ ap (slice_get w.after.nodes) (sym (ap (place w.seen) (zero-add k) ∙ place_is c.0 k c.1)))
        ∙ sym (map_map (slice_get w.after.nodes) (place w.seen) (range_with_len 0 (length g.nodes)));
    once = λ i j d lt within same.
        let size : length order ≡ length g.nodes = length-map (range_with_len 0 (length g.nodes)) (place w.seen) ∙ length_range 0 (length g.nodes) in
        let i_in : i < length g.nodes = omega (arith, lt, within, size) in
        let j_in : j < length g.nodes = omega (arith, within, size) in
        let first = covered i i_in in
        let second = covered j j_in in
        let i_at : get_or order i d ≡ first.0 = along (place w.seen) 0 (length g.nodes) i d i_in ∙ ap (place w.seen) (zero-add i) ∙ place_is first.0 i first.1 in
        let j_at : get_or order j d ≡ second.0 = along (place w.seen) 0 (length g.nodes) j d j_in ∙ ap (place w.seen) (zero-add j) ∙ place_is second.0 j second.1 in
        let at : first.0 ≡ second.0 = sym i_at ∙ same ∙ j_at in
        let both : Some i ≡ Some j = sym first.1 ∙ ap (slice_get w.seen) at ∙ second.1 in
        let equal : i ≡ j = cc in
        omega (arith, equal, lt);
  }

  reads_from : Reads (literal g) g
  unfolding start
  reads_from = record {
    root = w.x;
    built = w.after;
    writes = record { value = literal g; blanks = []; whole = sym (append-nil (literal g)); is = w.is; rest = refl };
    normal = record { order = order; seen = seen_by; graph = is };
  }

-- the printed text of a graph is a literal of this graph
pub literal_reads : (g : RawGraph) → IsGraph g → Reads (literal g) g
literal_reads g is = reads_from g is (written g is)

-- so it is read, also as the characters of its bytes
pub text_reads : (g : RawGraph) → IsGraph g → Reads (chars (literal g)) g
text_reads g is =
    let ascii : IsAscii (literal g) = IsAscii-from_all (literal g) (All-weaker (λ c. (32 ≤ c) × (c < 127)) (λ c. c < 128) (λ c h. omega (arith, h.1)) (literal g) (literal_plain g is)) in
    subst (λ (text : List ℕ). Reads text g) (sym (chars-IsAscii (literal g) ascii)) (literal_reads g is)
