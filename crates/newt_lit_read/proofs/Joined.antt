-- What a text writes down is a draft whose references lead to nodes, and whose classes and tags are
-- symbols.
use Rattle.std.proofs.Common.{◌≡◌, ℕ, zero, suc, ◌+◌, ◌<◌, ◌≤◌, Bool, true, false, cond, ltb, leb, eqb, List, [], ◌∷◌, ◌++◌, length, set, All, Option, Some, None, refl, sym, ap, subst, ◌∙◌, append_assoc, arith}
use Rattle.std.specs.Prelude.{slice_get, ◌&&◌}
use Rattle.std.specs.List.{sum_by}
use Rattle.std.proofs.lemmas.Bool.{leb-true, ltb-true, and_parts}
use Rattle.std.proofs.lemmas.List.{append-nil, length-append, length_push, length-set, length-map}
use Rattle.std.proofs.lemmas.List.Elements.{All-nil, All-cons, All-push, All-set, All-map}
use Rattle.std.proofs.lemmas.Option.{slice_get_within}
use Rattle.std.proofs.Math.Seq.{set-append_seam}
use Rattle.newt_graph.specs.declared.node.Node.{Node}
use Rattle.newt_graph.specs.declared.node.Node.TheVariants as nodes
use Rattle.newt_graph.specs.declared.node.Ref.{Ref}
use Rattle.newt_graph.specs.declared.node.Ref.TheVariants as refs
use Rattle.newt_graph.specs.Graph.{IsName, IsSymbol, all_distinct, payload}
use Rattle.newt_graph.specs.Raw.{IsValue, labels_of}
use Rattle.newt_graph.specs.Raw.{values_of as refs_of}
use Rattle.newt_graph.specs.Draft.{IsPart, IsDraft, IsJoinedNode, IsJoined, IsFilling, is_small, find_alike, known, with_symbol, with_held, with_filled}
use Rattle.newt_graph.proofs.Options.{bind_some, provided, some_is}
use Rattle.newt_graph.proofs.Elements.{get_append, get_seam}
use Rattle.newt_graph.proofs.Drafts.{held_push, symbol_push, alike_found, part_of_filling, once_set}
use Rattle.newt_spec_literal.specs.Built.{Built, symbol_in, held, filled, node_of, labelled, tags_of, values_of}
use Rattle.newt_spec_literal.specs.Grammar.{Kind, Items, Several, Class, Field, Array, Frame, Classed, Leaf, Object, Form, Nothing, Value, Writes}
use Rattle.newt_graph.proofs.Distinct.{all_distinct_tells}
use Rattle.newt_lit_read.proofs.Characters.{name_is, tag_is, bytes_fit, large_bytes_fit, units_fit}
use Rattle.newt_lit_read.proofs.Immediates.{immediate_is}

-- ---- nodes among others

-- symbols stay symbols, and there are no fewer nodes
record Wider (a c : List Node) : Type 0 where
  symbols : (k : ℕ) → IsSymbol a k → IsSymbol c k
  size : length a ≤ length c

value_wider : (a c : List Node) → Wider a c → (v : Ref) → IsValue (length a) v → IsValue (length c) v
value_wider a c w (refs.Imm word) is = is
value_wider a c w (refs.Node k) is = omega (arith, is, w.size)

node_wider : (a c : List Node) → Wider a c → (node : Node) → IsJoinedNode a node → IsJoinedNode c node
node_wider a c w node is = record {
  labels = λ k d lt. w.symbols _ (is.labels k d lt);
  distinct = is.distinct;
  values = λ k d lt. value_wider a c w _ (is.values k d lt);
}

each_wider : (a c : List Node) → Wider a c → (ns : List Node) → All (IsJoinedNode a) ns → All (IsJoinedNode c) ns
each_wider a c w ns all k d lt = node_wider a c w _ (all k d lt)

wider_append : (a new : List Node) → Wider a (a ++ new)
wider_append a new = record {
  symbols = λ k is. (is.0, get_append a new k (nodes.Symbol is.0) is.1);
  size = omega (arith, length-append a new);
}

-- ---- nodes that a builder may hold

record IsHeld (ns : List Node) : Type 0 where
  draft : IsDraft ns
  each : All (IsJoinedNode ns) ns

no_parts : (ns : List Node) (node : Node) → labels_of node ≡ [] → All (IsValue (length ns)) (refs_of node) → IsJoinedNode ns node
no_parts ns node none values = record {
  labels = rw none (All-nil (IsSymbol ns));
  distinct = rw none (λ i j d lt within. absurd (omega (arith, within)));
  values = values;
}

held_append : (ns : List Node) (node : Node) → IsDraft (ns ++ node ∷ []) → IsHeld ns → IsJoinedNode (ns ++ node ∷ []) node → IsHeld (ns ++ node ∷ [])
held_append ns node draft h is = record {
  draft = draft;
  each = All-push (IsJoinedNode (ns ++ node ∷ [])) ns node (each_wider ns (ns ++ node ∷ []) (wider_append ns (node ∷ [])) ns h.each) is;
}

-- what a call of the builder made of its nodes
record Made (ns after : List Node) : Type 0 where
  new : List Node
  is : after ≡ ns ++ new
  holds : IsHeld after

symbol_made : (ns : List Node) (name : List ℕ) (m : ℕ × List Node) → IsName name → IsHeld ns → with_symbol ns name ≡ Some m → Made ns m.1 × IsSymbol m.1 m.0
unfolding with_symbol
symbol_made ns name m is h e = by (find_alike name ns) refl e
  where
    by : (o : Option ℕ) → find_alike name ns ≡ o → known ns name o ≡ Some m → Made ns m.1 × IsSymbol m.1 m.0
    by (Some q) found e =
        subst (λ (m : ℕ × List Node). Made ns m.1 × IsSymbol m.1 m.0) (some_is e)
        (record { new = []; is = sym (append-nil ns); holds = h }, (let alike = alike_found name ns q found in (alike.0, alike.1)))
    by None none e =
        let p = provided (ltb (length ns) 131072) (Some (length ns, ns ++ nodes.Symbol name ∷ [])) m e in
        let lt = ltb-true (length ns) 131072 p.0 in
        let all = ns ++ nodes.Symbol name ∷ [] in
        let draft = symbol_push ns all (sum_by payload ns) name is lt none refl (h.draft, refl) in
        subst (λ (m : ℕ × List Node). Made ns m.1 × IsSymbol m.1 m.0) (some_is p.1) (
          record { new = nodes.Symbol name ∷ []; is = refl; holds = held_append ns (nodes.Symbol name) draft.0 h (no_parts all (nodes.Symbol name) refl (All-nil (IsValue (length all)))) },
          (name, get_seam ns (nodes.Symbol name) []),
        )

-- an open node
abbrev open_node : Node
open_node = nodes.Array None []

held_made : (ns : List Node) (m : ℕ × List Node) → IsHeld ns → with_held ns ≡ Some m → (m.0 ≡ length ns) × (m.1 ≡ ns ++ open_node ∷ []) × IsHeld m.1
unfolding with_held
held_made ns m h e =
    let p = provided (ltb (length ns) 131072) (Some (length ns, ns ++ open_node ∷ [])) m e in
    let all = ns ++ open_node ∷ [] in
    let draft = held_push ns all (sum_by payload ns) (ltb-true (length ns) 131072 p.0) refl (h.draft, refl) in
    subst (λ (m : ℕ × List Node). (m.0 ≡ length ns) × (m.1 ≡ all) × IsHeld m.1) (some_is p.1)
    (refl, refl, held_append ns open_node draft.0 h (no_parts all open_node refl (All-nil (IsValue (length all)))))

-- a node is filled where an open one stands
set_wider : (ns : List Node) (n : ℕ) (node : Node) → slice_get ns n ≡ Some open_node → Wider ns (set ns n node)
set_wider ns n node vacant = record {
  symbols = λ k is. (is.0, other ns n k node vacant is.0 is.1);
  size = omega (arith, length-set ns n node);
}
  where
    other : (ns : List Node) (n k : ℕ) (node : Node) → slice_get ns n ≡ Some open_node → (name : List ℕ) → slice_get ns k ≡ Some (nodes.Symbol name) → slice_get (set ns n node) k ≡ Some (nodes.Symbol name)
    other [] n k node vacant name is = absurd cc
    other (x ∷ xs) zero zero node vacant name is = absurd cc
    other (x ∷ xs) zero (suc k) node vacant name is = is
    other (x ∷ xs) (suc n) zero node vacant name is = is
    other (x ∷ xs) (suc n) (suc k) node vacant name is = other xs n k node vacant name is

filled_made : (ns : List Node) (n : ℕ) (node : Node) (after : List Node) → slice_get ns n ≡ Some open_node → IsFilling node → IsJoinedNode ns node → IsHeld ns → with_filled ns n node ≡ Some after → (after ≡ set ns n node) × IsHeld after
unfolding with_filled
filled_made ns n node after vacant filling joined h e =
    let p = provided (is_small node && leb (sum_by payload (set ns n node)) 33554432) (Some (set ns n node)) after e in
    let q = and_parts (is_small node) (leb (sum_by payload (set ns n node)) 33554432) p.0 in
    let w = set_wider ns n node vacant in
    let all = set ns n node in
    subst (λ (after : List Node). (after ≡ all) × IsHeld after) (some_is p.1) (
      refl,
      record {
        draft = record {
          few = omega (arith, h.draft.few, length-set ns n node);
          light = leb-true _ _ q.1;
          each = All-set IsPart ns n node (part_of_filling node filling q.0) h.draft.each;
          folded_once = once_set ns n node filling h.draft.folded_once;
        };
        each = All-set (IsJoinedNode all) ns n node (node_wider ns all w node joined) (each_wider ns all w ns h.each);
      },
    )

-- ---- what a text has written down

-- The labels lead to nodes, or in front of an object to the next node.
record Drafted (next : ℕ) (b : Built) : Type 0 where
  holds : IsHeld b.nodes
  labels : (label k : ℕ) → node_of label b.labels ≡ Some k → k < next + length b.nodes

record Grown (b after : Built) : Type 0 where
  new : List Node
  nodes : after.nodes ≡ b.nodes ++ new

same : (b : Built) → Grown b b
same b = record { new = []; nodes = sym (append-nil b.nodes) }

chain : (a b c : Built) → Grown a b → Grown b c → Grown a c
chain a b c g h = record {
  new = g.new ++ h.new;
  nodes = h.nodes ∙ ap (λ (l : List Node). l ++ h.new) g.nodes ∙ append_assoc a.nodes g.new h.new;
}

grown_wider : (b after : Built) → Grown b after → Wider b.nodes after.nodes
grown_wider b after g = subst (λ (ns : List Node). Wider b.nodes ns) (sym g.nodes) (wider_append b.nodes g.new)

-- a thing was written down, and it fits the nodes
record Stepped {A : Type 0} (fits : List Node → A → Type 0) (b after : Built) (x : A) : Type 0 where
  grown : Grown b after
  drafted : Drafted 0 after
  fit : fits after.nodes x

abbrev IsIn : List Node → Ref → Type 0
IsIn ns v = IsValue (length ns) v

symbol_stepped : (b : Built) (name : List ℕ) (k : ℕ) (after : Built) → IsName name → Drafted 0 b → symbol_in b name ≡ Some (k, after) → Stepped IsSymbol b after k
unfolding symbol_in
symbol_stepped b name k after is d e =
    let m = bind_some (with_symbol b.nodes name) _ (k, after) e in
    let made = symbol_made b.nodes name m.0 is d.holds m.1 in
    subst (λ (x : ℕ × Built). Stepped IsSymbol b x.1 x.0) (some_is m.2) (record {
      grown = record { new = made.0.new; nodes = made.0.is };
      drafted = record {
        holds = made.0.holds;
        labels = λ label k e. let lt = d.labels label k e in omega (arith, lt, ap length made.0.is, length-append b.nodes made.0.new);
      };
      fit = made.1;
    })

record Opened (b : Built) (n : ℕ) (opened : Built) : Type 0 where
  place : n ≡ length b.nodes
  nodes : opened.nodes ≡ b.nodes ++ open_node ∷ []
  drafted : Drafted 0 opened

opens : (b : Built) (n : ℕ) (opened : Built) → Drafted 1 b → held b ≡ Some (n, opened) → Opened b n opened
unfolding held
opens b n opened d e =
    let m = bind_some (with_held b.nodes) _ (n, opened) e in
    let made = held_made b.nodes m.0 d.holds m.1 in
    subst (λ (x : ℕ × Built). Opened b x.0 x.1) (some_is m.2) (record {
      place = made.0;
      nodes = made.1;
      drafted = record {
        holds = made.2;
        labels = λ label k e. let lt = d.labels label k e in omega (arith, lt, ap length made.1, length_push b.nodes open_node);
      };
    })

-- an object was written down
closes : (b : Built) (n : ℕ) (opened last : Built) (node : Node) (after : Built) → Drafted 1 b → held b ≡ Some (n, opened) → Grown opened last → Drafted 0 last → IsFilling node → IsJoinedNode last.nodes node → filled last n node ≡ Some after → Stepped IsIn b after (refs.Node n)
unfolding filled
closes b n opened last node after d e g l filling joined f =
    let o = opens b n opened d e in
    let parts : last.nodes ≡ b.nodes ++ open_node ∷ g.new = g.nodes ∙ ap (λ (ns : List Node). ns ++ g.new) o.nodes ∙ append_assoc b.nodes (open_node ∷ []) g.new in
    let vacant : slice_get last.nodes n ≡ Some open_node = rw (parts, o.place) (get_seam b.nodes open_node g.new) in
    let m = bind_some (with_filled last.nodes n node) _ after f in
    let made = filled_made last.nodes n node m.0 vacant filling joined l.holds m.1 in
    let whole : m.0 ≡ b.nodes ++ node ∷ g.new = made.0 ∙ rw (parts, o.place) (set-append_seam b.nodes open_node g.new node) in
    let long : length m.0 ≡ length last.nodes = ap length made.0 ∙ length-set last.nodes n node in
    subst (λ (x : Built). Stepped IsIn b x (refs.Node n)) (some_is m.2) (record {
      grown = record { new = node ∷ g.new; nodes = whole };
      drafted = record {
        holds = made.1;
        labels = λ label k e. let lt = l.labels label k e in omega (arith, lt, long);
      };
      fit = omega (arith, o.place, ap length whole, length-append b.nodes (node ∷ g.new));
    })

-- ---- the rules of the grammar

abbrev Keeps : {A : Type 0} → (List Node → A → Type 0) → Kind A → Type 0
Keeps {A} fits kind = (b : Built) (text : List ℕ) (x : A) (after : Built) → kind b text x after → Drafted 0 b → Stepped fits b after x

-- what fits some nodes fits more of them
abbrev Lasts : {A : Type 0} → (List Node → A → Type 0) → Type 0
Lasts {A} fits = (a c : List Node) → Wider a c → (x : A) → fits a x → fits c x

abbrev AllFit : {A : Type 0} → (List Node → A → Type 0) → List Node → List A → Type 0
AllFit fits ns xs = All (fits ns) xs

items_keep : {A : Type 0} (fits : List Node → A → Type 0) (kind : Kind A) (close : ℕ) → Lasts fits → Keeps fits kind → {b : Built} {text : List ℕ} {xs : List A} {after : Built} → Items kind close b text xs after → Drafted 0 b → Stepped (AllFit fits) b after xs
items_keep fits kind close lasts keeps (Items.last {x = x} {after = after} item mark) d =
    let s = keeps _ _ _ _ item d in
    record { grown = s.grown; drafted = s.drafted; fit = All-cons (fits after.nodes) x [] s.fit (All-nil (fits after.nodes)) }
items_keep fits kind close lasts keeps (Items.more {x = x} {then = next} {xs = xs} {after = after} item mark others) d =
    let s = keeps _ _ _ _ item d in
    let t = items_keep fits kind close lasts keeps others s.drafted in
    record {
      grown = chain _ next after s.grown t.grown;
      drafted = t.drafted;
      fit = All-cons (fits after.nodes) x xs (lasts next.nodes after.nodes (grown_wider next after t.grown) x s.fit) t.fit;
    }

several_keep : {A : Type 0} (fits : List Node → A → Type 0) (kind : Kind A) (close : ℕ) → Lasts fits → Keeps fits kind → {b : Built} {text : List ℕ} {xs : List A} {after : Built} → Several kind close b text xs after → Drafted 0 b → Stepped (AllFit fits) b after xs
several_keep fits kind close lasts keeps {b = b} (Several.none mark) d = record { grown = same b; drafted = d; fit = All-nil (fits b.nodes) }
several_keep fits kind close lasts keeps (Several.some items) d = items_keep fits kind close lasts keeps items d

-- a class that is a symbol
abbrev IsClass : List Node → Option ℕ → Type 0
IsClass ns None = Unit {0}
IsClass ns (Some k) = IsSymbol ns k

class_keeps : {b : Built} {text : List ℕ} {k : Option ℕ} {after : Built} → Class b text k after → Drafted 0 b → Stepped IsClass b after k
class_keeps {b = b} Class.none d = record { grown = same b; drafted = d; fit = tt }
class_keeps {b = b} (Class.some {name = name} {k = k} {after = after} tag found) d =
    let s = symbol_stepped b name k after (tag_is tag) d found in
    record { grown = s.grown; drafted = s.drafted; fit = s.fit }

classed_joined : (ns : List Node) (node : Node) (k : ℕ) → labels_of node ≡ k ∷ [] → IsSymbol ns k → All (IsValue (length ns)) (refs_of node) → IsJoinedNode ns node
classed_joined ns node k one is values = record {
  labels = rw one (All-cons (IsSymbol ns) k [] is (All-nil (IsSymbol ns)));
  distinct = rw one (λ i j d lt within. absurd (omega (arith, lt, within)));
  values = values;
}

array_joined : (ns : List Node) (class : Option ℕ) (values : List Ref) → IsClass ns class → All (IsIn ns) values → IsJoinedNode ns (nodes.Array class values)
array_joined ns None values is fits = no_parts ns (nodes.Array None values) refl fits
array_joined ns (Some k) values is fits = classed_joined ns (nodes.Array (Some k) values) k refl is fits

in_lasts : Lasts IsIn
in_lasts a c w v is = value_wider a c w v is

array_keeps : (kind : Kind Ref) → Keeps IsIn kind → (b : Built) (text : List ℕ) (v : Ref) (after : Built) → Array kind b text v after → Drafted 1 b → Stepped IsIn b after v
array_keeps kind keeps b _ _ after (Array.array {n = n} {opened = opened} {k = k} {then = next} {values = values} {last = last} held class several filling) d =
    let o = opens b n opened d held in
    let c = class_keeps class o.drafted in
    let s = several_keep IsIn kind 93 in_lasts keeps several c.drafted in
    let w = grown_wider next last s.grown in
    closes b n opened last (nodes.Array k values) after d held (chain opened next last c.grown s.grown) s.drafted tt (array_joined last.nodes k values (class_wider next.nodes last.nodes w k c.fit) s.fit) filling
  where
    class_wider : (a c : List Node) → Wider a c → (k : Option ℕ) → IsClass a k → IsClass c k
    class_wider a c w None is = tt
    class_wider a c w (Some k) is = w.symbols k is

-- a tag that is a symbol, and a value
abbrev IsField : List Node → ℕ × Ref → Type 0
IsField ns f = IsSymbol ns f.0 × IsIn ns f.1

field_lasts : Lasts IsField
field_lasts a c w f is = (w.symbols f.0 is.0, value_wider a c w f.1 is.1)

field_keeps : (kind : Kind Ref) → Keeps IsIn kind → Keeps IsField (λ b text f after. Field kind b text f after)
field_keeps kind keeps b _ _ after (Field.field {name = name} {k = k} {then = next} {v = v} tag found value) d =
    let s = symbol_stepped b name k next (tag_is tag) d found in
    let t = keeps _ _ _ _ value s.drafted in
    record { grown = chain b next after s.grown t.grown; drafted = t.drafted; fit = ((grown_wider next after t.grown).symbols k s.fit, t.fit) }

frame_joined : (ns : List Node) (fields : List (ℕ × Ref)) → all_distinct (tags_of fields) ≡ true → All (IsField ns) fields → IsJoinedNode ns (nodes.Frame (tags_of fields) (values_of fields))
frame_joined ns fields distinct fits = record {
  labels = All-map (IsSymbol ns) (λ f. f.0) fields (λ k d lt. (fits k d lt).0);
  distinct = all_distinct_tells (tags_of fields) distinct;
  values = All-map (IsIn ns) (λ f. f.1) fields (λ k d lt. (fits k d lt).1);
}

frame_keeps : (kind : Kind Ref) → Keeps IsIn kind → (b : Built) (text : List ℕ) (v : Ref) (after : Built) → Frame kind b text v after → Drafted 1 b → Stepped IsIn b after v
frame_keeps kind keeps b _ _ after (Frame.frame {n = n} {opened = opened} {fields = fields} {last = last} held several distinct filling) d =
    let o = opens b n opened d held in
    let s = several_keep IsField (λ b text f after. Field kind b text f after) 125 field_lasts (field_keeps kind keeps) several o.drafted in
    let paired : length (values_of fields) ≡ length (tags_of fields) = length-map fields (λ f. f.1) ∙ sym (length-map fields (λ f. f.0)) in
    closes b n opened last (nodes.Frame (tags_of fields) (values_of fields)) after d held s.grown s.drafted paired (frame_joined last.nodes fields distinct s.fit) filling

-- ---- objects

record Named (b : Built) (n k : ℕ) (after : Built) : Type 0 where
  opened : Built
  held : held b ≡ Some (n, opened)
  grown : Grown opened after
  drafted : Drafted 0 after
  class : IsSymbol after.nodes k

classed_keeps : {b : Built} {text : List ℕ} {n k : ℕ} {after : Built} → Classed b text n k after → Drafted 1 b → Named b n k after
classed_keeps {b = b} (Classed.classed {n = n} {opened = opened} {name = name} {k = k} {after = after} vacant is found) d =
    let o = opens b n opened d vacant in
    let s = symbol_stepped opened name k after (name_is is) o.drafted found in
    record { opened = opened; held = vacant; grown = s.grown; drafted = s.drafted; class = s.fit }

leaf_keeps : {b : Built} {text : List ℕ} {v : Ref} {after : Built} → Leaf b text v after → Drafted 1 b → Stepped IsIn b after v
leaf_keeps {b = b} {after = after} (Leaf.string {n = n} {opened = opened} {text = text} {units = units} vacant is filling) d =
    let o = opens b n opened d vacant in
    closes b n opened opened (nodes.Str units) after d vacant (same opened) o.drafted (units_fit text units is) (no_parts opened.nodes (nodes.Str units) refl (All-nil (IsIn opened.nodes))) filling
leaf_keeps {b = b} {after = after} (Leaf.binary {n = n} {k = k} {then = next} {text = text} {bytes = bytes} class is filling) d =
    let c = classed_keeps class d in
    closes b n c.opened next (nodes.Binary k bytes) after d c.held c.grown c.drafted (bytes_fit text bytes is) (classed_joined next.nodes (nodes.Binary k bytes) k refl c.class (All-nil (IsIn next.nodes))) filling
leaf_keeps {b = b} {after = after} (Leaf.large {n = n} {k = k} {then = next} {text = text} {bytes = bytes} class is filling) d =
    let c = classed_keeps class d in
    closes b n c.opened next (nodes.Large k bytes) after d c.held c.grown c.drafted (large_bytes_fit text bytes is) (classed_joined next.nodes (nodes.Large k bytes) k refl c.class (All-nil (IsIn next.nodes))) filling

-- how containers keep a draft
record Parts (array frame : Kind Ref) : Type 0 where
  arrays : (b : Built) (text : List ℕ) (v : Ref) (after : Built) → array b text v after → Drafted 1 b → Stepped IsIn b after v
  frames : (b : Built) (text : List ℕ) (v : Ref) (after : Built) → frame b text v after → Drafted 1 b → Stepped IsIn b after v

object_keeps : (array frame : Kind Ref) → Parts array frame → {b : Built} {text : List ℕ} {v : Ref} {after : Built} → Object array frame b text v after → Drafted 1 b → Stepped IsIn b after v
object_keeps array frame parts (Object.blank is object) d = object_keeps array frame parts object d
object_keeps array frame parts (Object.leaf leaf) d = leaf_keeps leaf d
object_keeps array frame parts (Object.array is) d = parts.arrays _ _ _ _ is d
object_keeps array frame parts (Object.frame is) d = parts.frames _ _ _ _ is d

-- ---- labels

raised : (b : Built) → Drafted 0 b → Drafted 1 b
raised b d = record { holds = d.holds; labels = λ label k e. let lt = d.labels label k e in omega (arith, lt) }

-- the next node gets a label
labels_more : (b : Built) (n : ℕ) → Drafted 0 b → Drafted 1 (labelled b n)
labels_more b n d = record {
  holds = d.holds;
  labels = λ label k e. more (length b.nodes) n label k b.labels (λ q h. d.labels label q h) e;
}
  where
    more : (size n label k : ℕ) (ls : List (ℕ × ℕ)) → ((q : ℕ) → node_of label ls ≡ Some q → q < 0 + size) → node_of label (ls ++ (n, size) ∷ []) ≡ Some k → k < 1 + size
    more size n label k [] below e = let p = provided (eqb n label) (Some size) k e in let s : size ≡ k = some_is p.1 in omega (arith, s)
    more size n label k (l ∷ ls) below e = by (λ below e. more size n label k ls below e) (eqb l.0 label) refl below e
      where
        by : (((q : ℕ) → node_of label ls ≡ Some q → q < 0 + size) → node_of label (ls ++ (n, size) ∷ []) ≡ Some k → k < 1 + size)
            → (t : Bool) → eqb l.0 label ≡ t → ((q : ℕ) → cond t (Some l.1) (node_of label ls) ≡ Some q → q < 0 + size) → cond t (Some l.1) (node_of label (ls ++ (n, size) ∷ [])) ≡ Some k → k < 1 + size
        by others true is below e = let lt = below k e in omega (arith, lt)
        by others false is below e = others below e

symbol_in_range : (ns : List Node) (k : ℕ) → IsSymbol ns k → k < length ns
symbol_in_range ns k is = slice_get_within ns k (nodes.Symbol is.0) is.1

form_keeps : (array frame : Kind Ref) → Parts array frame → Keeps IsIn (λ b text v after. Form array frame b text v after)
form_keeps array frame parts b _ v after (Form.blank {text = text} is form) d = form_keeps array frame parts b text v after form d
form_keeps array frame parts b _ _ _ (Form.immediate {text = text} {word = w} is) d = record { grown = same b; drafted = d; fit = immediate_is is }
form_keeps array frame parts b _ _ after (Form.symbol {name = name} {k = k} is found) d =
    let s = symbol_stepped b name k after (name_is is) d found in
    record { grown = s.grown; drafted = s.drafted; fit = symbol_in_range after.nodes k s.fit }
form_keeps array frame parts b _ _ _ (Form.object object) d = object_keeps array frame parts object (raised b d)
form_keeps array frame parts b _ _ _ (Form.given {n = n} is unknown object) d =
    let s = object_keeps array frame parts object (labels_more b n d) in
    record { grown = record { new = s.grown.new; nodes = s.grown.nodes }; drafted = s.drafted; fit = s.fit }
form_keeps array frame parts b _ _ _ (Form.again {n = n} {k = k} is given) d = let lt = d.labels n k given in record { grown = same b; drafted = d; fit = omega (arith, lt) }

value_keeps : (room : ℕ) → Keeps IsIn (Value room)
value_keeps zero b text v after form d = form_keeps Nothing Nothing (record { arrays = λ b text v after none. absurd none; frames = λ b text v after none. absurd none }) b text v after form d
value_keeps (suc room) b text v after form d =
    form_keeps (λ b text v after. Array (Value room) b text v after) (λ b text v after. Frame (Value room) b text v after)
    (record { arrays = array_keeps (Value room) (value_keeps room); frames = frame_keeps (Value room) (value_keeps room) }) b text v after form d

-- ---- whole texts

pub record IsWhole (root : Ref) (built : Built) : Type 0 where
  pub draft : IsDraft built.nodes
  pub joined : IsJoined built.nodes root

nothing_drafted : Drafted 0 (record { nodes = []; labels = [] })
nothing_drafted = record {
  holds = record {
    draft = record { few = omega arith; light = omega arith; each = All-nil IsPart; folded_once = λ i k name named. absurd cc };
    each = All-nil (IsJoinedNode []);
  };
  labels = λ label k e. absurd cc;
}

pub written_whole : (text : List ℕ) (root : Ref) (built : Built) → Writes text root built → IsWhole root built
written_whole text root built w =
    let s = value_keeps 200 _ w.value root built w.is nothing_drafted in
    record { draft = s.drafted.holds.draft; joined = record { root_in = s.fit; each = s.drafted.holds.each } }
