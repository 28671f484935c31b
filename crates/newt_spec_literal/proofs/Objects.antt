-- What a text writes down of an object: strings and binaries, and what containers have around their
-- values.
use Rattle.std.proofs.Common.{◌≡◌, ℕ, zero, suc, ◌+◌, ◌*◌, ◌≤◌, true, false, List, [], ◌∷◌, ◌++◌, length, take, get_or, Option, Some, refl, sym, ap, ◌∙◌, subst, append_assoc, arith, add-one}
use Rattle.std.specs.Prelude.{slice_get, codes}
use Rattle.std.specs.List.{sum_by}
use Rattle.std.proofs.lemmas.Bool.{le-leb}
use Rattle.std.proofs.lemmas.List.Sums.{sum_by-take-le, sum_by_push}
use Rattle.std.proofs.lemmas.Option.{slice_get_within, get_or_from_slice_get}
use Rattle.std.proofs.Math.Seq.{take-suc}
use Rattle.newt_base.specs.Text.{hex_text}
use Rattle.newt_graph.specs.declared.node.Node.{Node}
use Rattle.newt_graph.specs.declared.node.Node.TheVariants as nodes
use Rattle.newt_graph.specs.declared.node.Ref.{Ref}
use Rattle.newt_graph.specs.declared.node.Ref.TheVariants as refs
use Rattle.newt_graph.specs.Graph.{IsNamed, IsName, IsText, IsData, AreFoldedOnce, payload}
use Rattle.newt_graph.specs.Draft.{is_small}
use Rattle.newt_spec_literal.specs.Built.{Built, filled}
use Rattle.newt_spec_literal.specs.Grammar.{Kind, Classed, LargeBytes, Leaf, Object, Array, Frame, Nothing, Value}
use Rattle.newt_spec_literal.specs.Printed.{name_text, symbol_text, string_text, binary_text, is_symbol, label_of}
use Rattle.newt_spec_literal.proofs.Images.{NodeStands}
use Rattle.newt_graph.proofs.Elements.{get_append}
use Rattle.newt_spec_literal.proofs.Rows.{Ready}
use Rattle.newt_spec_literal.proofs.Stands.{Stands, raise}
use Rattle.newt_spec_literal.proofs.Tokens.{name_token, bytes_token, units_pieces}
use Rattle.newt_spec_literal.proofs.Transitions.{SymbolIn, symbol_stands, marked, Opened, opened, filled_in}
use Rattle.newt_spec_literal.proofs.Walked.{Between}

-- ---- the weight of what the walk has met

pub take_more : (graph : List Node) (met : ℕ) (node : Node) → slice_get graph met ≡ Some node → sum_by payload (take (met + 1) graph) ≡ sum_by payload (take met graph) + payload node
take_more graph met node here =
    let at : get_or graph met node ≡ node = get_or_from_slice_get graph met node node here in
    ap (λ (n : ℕ). sum_by payload (take n graph)) (add-one met) ∙ ap (sum_by payload) (take-suc graph met node (slice_get_within graph met node here)) ∙ sum_by_push payload (take met graph) (get_or graph met node)
    ∙ ap (λ (x : Node). sum_by payload (take met graph) + payload x) at

take_take : {X : Type 0} (xs : List X) (a b : ℕ) → a ≤ b → take a (take b xs) ≡ take a xs
take_take xs zero b le = refl
take_take xs (suc a) zero le = absurd (omega (arith, le))
take_take [] (suc a) (suc b) le = refl
take_take (x ∷ xs) (suc a) (suc b) le = ap (λ l. x ∷ l) (take_take xs a b (omega (arith, le)))

pub take_mono : (graph : List Node) (a b : ℕ) → a ≤ b → sum_by payload (take a graph) ≤ sum_by payload (take b graph)
take_mono graph a b le = omega (arith, sum_by-take-le payload (take b graph) a, ap (sum_by payload) (take_take graph a b le))

-- ---- a graph that is printed

pub record IsPrinted (graph : List Node) (labels : List (Option ℕ)) : Type 0 where
  pub limit : length graph ≤ 65535
  pub light : sum_by payload graph ≤ 16777216
  pub once : AreFoldedOnce graph
  pub names : (k : ℕ) (name : List ℕ) → IsNamed graph k name → IsName name
  pub apart : (i j l : ℕ) → label_of labels i ≡ Some l → label_of labels j ≡ Some l → i ≡ j
  pub small : (k l : ℕ) → label_of labels k ≡ Some l → l ≤ k

-- ---- kinds at every level

abbrev pub ObjectKind : ℕ → Kind Ref
ObjectKind zero = Object Nothing Nothing
ObjectKind (suc room) = Object (Array (Value room)) (Frame (Value room))

pub leaf_object : (room : ℕ) (b : Built) (text : List ℕ) (v : Ref) (after : Built) → Leaf b text v after → ObjectKind room b text v after
leaf_object zero b text v after is = Object.leaf is
leaf_object (suc room) b text v after is = Object.leaf is

-- ---- an object

-- a text writes down the object that the walk meets now, after its label
pub record ObjectWrote (room : ℕ) (graph : List Node) (labels : List (Option ℕ)) (met after_met : ℕ) (seen open_nodes : List ℕ) (b : Built) (text : List ℕ × ℕ) : Type 0 where
  pub after : Built
  pub extra : List ℕ
  pub is : ObjectKind room (marked b (label_of labels met)) text.0 (refs.Node (length b.nodes)) after
  pub ready : Ready graph labels after_met text.1 (seen ++ met ∷ extra) open_nodes after
  pub place : slice_get (seen ++ met ∷ extra) (length b.nodes) ≡ Some met

module _ (graph : List Node) (labels : List (Option ℕ)) (p : IsPrinted graph labels) where
  -- ---- strings

  pub string_wrote : (room met : ℕ) (units : List ℕ) (seen open_nodes : List ℕ) (b : Built) → slice_get graph met ≡ Some (nodes.Str units) → IsText units
      → Stands graph labels met seen open_nodes b → sum_by payload b.nodes ≤ sum_by payload (take met graph)
      → ObjectWrote room graph labels met (met + 1) seen open_nodes b (string_text units, met + 1)
  string_wrote room met units seen open_nodes b here rules s light =
      let o = opened graph labels p.apart met (nodes.Str units) seen open_nodes b p.limit here refl s in
      let up : sum_by payload (take (met + 1) graph) ≡ sum_by payload (take met graph) + payload (nodes.Str units) = take_more graph met (nodes.Str units) here in
      let all : sum_by payload (take (met + 1) graph) ≤ sum_by payload graph = sum_by-take-le payload graph (met + 1) in
      let small : is_small (nodes.Str units) ≡ true = le-leb (2 * length units + 2) 1000000 rules.few in
      let f = filled_in graph labels (met + 1) (seen ++ met ∷ []) open_nodes o.after (length b.nodes) met (nodes.Str units) (nodes.Str units) o.stands o.place here refl refl NodeStands.string small (omega (arith, up, all, light, o.weight, p.light)) in
      record {
        after = f.after;
        extra = [];
        is = leaf_object room (marked b (label_of labels met)) (string_text units) (refs.Node (length b.nodes)) f.after (Leaf.string o.is (units_pieces units rules.each) f.is);
        ready = record { stands = f.stands; agrees = record { le = omega arith; symbols = λ k le lt. absurd (omega (arith, le, lt)) }; light = omega (arith, f.weight, up, light, o.weight) };
        place = o.place;
      }

  -- ---- binaries

  pub name_of : (k : ℕ) (name : List ℕ) → IsNamed graph k name → symbol_text (slice_get graph k) ≡ name_text name
  name_of k name named = ap symbol_text named

  -- the class of an object that has been opened
  pub record ClassOf (met : ℕ) (seen open_nodes : List ℕ) (b : Built) (k : ℕ) (name : List ℕ) : Type 0 where
    pub o : Opened graph labels met seen open_nodes b (label_of labels met)
    pub y : SymbolIn graph labels (met + 1) (seen ++ met ∷ []) (met ∷ open_nodes) o.after k name
    pub place : slice_get ((seen ++ met ∷ []) ++ y.extra) (length b.nodes) ≡ Some met
    pub weight : sum_by payload y.after.nodes ≡ sum_by payload b.nodes

  pub class_of : (met : ℕ) (x : Node) (seen open_nodes : List ℕ) (b : Built) (k : ℕ) (name : List ℕ) → slice_get graph met ≡ Some x → is_symbol x ≡ false → IsNamed graph k name → Stands graph labels met seen open_nodes b
      → ClassOf met seen open_nodes b k name
  class_of met x seen open_nodes b k name here object named s =
      let o = opened graph labels p.apart met x seen open_nodes b p.limit here object s in
      let y = symbol_stands graph labels (met + 1) (seen ++ met ∷ []) (met ∷ open_nodes) o.after k name p.limit p.once o.stands named in
      record { o = o; y = y; place = get_append (seen ++ met ∷ []) y.extra (length b.nodes) met o.place; weight = y.weight ∙ o.weight }

  -- the object is filled, and the walk has met further symbols
  pub record Closed (met after_met count : ℕ) (seen extra open_nodes : List ℕ) (b : Built) (n : ℕ) (node : Node) : Type 0 where
    pub after : Built
    pub is : filled b n node ≡ Some after
    pub ready : Ready graph labels after_met count (seen ++ met ∷ extra) open_nodes after
    pub place : slice_get (seen ++ met ∷ extra) n ≡ Some met

  pub closed : (met after_met count : ℕ) (seen extra open_nodes : List ℕ) (b : Built) (n : ℕ) (node x : Node) → slice_get graph met ≡ Some x → is_symbol x ≡ false → is_symbol node ≡ false
      → Stands graph labels after_met ((seen ++ met ∷ []) ++ extra) (met ∷ open_nodes) b → slice_get ((seen ++ met ∷ []) ++ extra) n ≡ Some met → NodeStands ((seen ++ met ∷ []) ++ extra) node x → is_small node ≡ true
      → Between graph count after_met → sum_by payload b.nodes + payload node ≤ sum_by payload (take after_met graph) → Closed met after_met count seen extra open_nodes b n node
  closed met after_met count seen extra open_nodes b n node x here object no_name s place is small agrees light =
      let same : (seen ++ met ∷ []) ++ extra ≡ seen ++ met ∷ extra = append_assoc seen (met ∷ []) extra in
      let f = filled_in graph labels after_met ((seen ++ met ∷ []) ++ extra) open_nodes b n met node x s place here object no_name is small (omega (arith, light, sum_by-take-le payload graph after_met, p.light)) in
      record {
        after = f.after;
        is = f.is;
        ready = record { stands = subst (λ (l : List ℕ). Stands graph labels after_met l open_nodes f.after) same f.stands; agrees = agrees; light = omega (arith, f.weight, light) };
        place = subst (λ (l : List ℕ). slice_get l n ≡ Some met) same place;
      }

  binary_after : (before after name hex : List ℕ) → before ++ (name ++ (58 ∷ (hex ++ after))) ≡ before ++ ((name ++ 58 ∷ []) ++ (hex ++ after))
  binary_after before after name hex = ap (λ (l : List ℕ). before ++ l) (sym (append_assoc name (58 ∷ []) (hex ++ after)))

  pub binary_wrote : (room met after_met k : ℕ) (bytes name seen open_nodes : List ℕ) (b : Built) → slice_get graph met ≡ Some (nodes.Binary k bytes) → IsNamed graph k name → IsData bytes → Between graph (met + 1) after_met
      → Stands graph labels met seen open_nodes b → sum_by payload b.nodes ≤ sum_by payload (take met graph)
      → ObjectWrote room graph labels met after_met seen open_nodes b (binary_text graph (codes "<") (codes ">") k bytes, met + 1)
  binary_wrote room met after_met k bytes name seen open_nodes b here named rules between s light =
      let c = class_of met (nodes.Binary k bytes) seen open_nodes b k name here refl named s in
      let up = take_more graph met (nodes.Binary k bytes) here in
      let f = closed met after_met (met + 1) seen c.y.extra open_nodes c.y.after (length b.nodes) (nodes.Binary c.y.q bytes) (nodes.Binary k bytes) here refl refl
      (raise graph labels (met + 1) after_met ((seen ++ met ∷ []) ++ c.y.extra) (met ∷ open_nodes) c.y.after between c.y.stands) c.place (NodeStands.binary c.y.back) (le-leb (length bytes) 1000000 rules.few) between
      (omega (arith, up, c.weight, light, take_mono graph (met + 1) after_met between.le)) in
      let text : 60 ∷ ((name_text name ++ 58 ∷ []) ++ (hex_text bytes ++ 62 ∷ [])) ≡ binary_text graph (codes "<") (codes ">") k bytes =
      sym (ap (λ (n : List ℕ). 60 ∷ (n ++ (58 ∷ (hex_text bytes ++ 62 ∷ [])))) (name_of k name named) ∙ binary_after (60 ∷ []) (62 ∷ []) (name_text name) (hex_text bytes)) in
      record {
        after = f.after;
        extra = c.y.extra;
        is = subst (λ (t : List ℕ). ObjectKind room (marked b (label_of labels met)) t (refs.Node (length b.nodes)) f.after) text
            (leaf_object room (marked b (label_of labels met)) _ (refs.Node (length b.nodes)) f.after (Leaf.binary (Classed.classed c.o.is (name_token name (p.names k name named)) c.y.is) (bytes_token bytes rules.each) f.is));
        ready = f.ready;
        place = f.place;
      }

  pub large_wrote : (room met after_met k : ℕ) (bytes name seen open_nodes : List ℕ) (b : Built) → slice_get graph met ≡ Some (nodes.Large k bytes) → IsNamed graph k name → IsData bytes → Between graph (met + 1) after_met
      → Stands graph labels met seen open_nodes b → sum_by payload b.nodes ≤ sum_by payload (take met graph)
      → ObjectWrote room graph labels met after_met seen open_nodes b (binary_text graph (codes "<<") (codes ">>") k bytes, met + 1)
  large_wrote room met after_met k bytes name seen open_nodes b here named rules between s light =
      let c = class_of met (nodes.Large k bytes) seen open_nodes b k name here refl named s in
      let up = take_more graph met (nodes.Large k bytes) here in
      let f = closed met after_met (met + 1) seen c.y.extra open_nodes c.y.after (length b.nodes) (nodes.Large c.y.q bytes) (nodes.Large k bytes) here refl refl
      (raise graph labels (met + 1) after_met ((seen ++ met ∷ []) ++ c.y.extra) (met ∷ open_nodes) c.y.after between c.y.stands) c.place (NodeStands.large c.y.back) (le-leb (length bytes) 1000000 rules.few) between
      (omega (arith, up, c.weight, light, take_mono graph (met + 1) after_met between.le)) in
      let text : 60 ∷ (60 ∷ ((name_text name ++ 58 ∷ []) ++ (hex_text bytes ++ 62 ∷ 62 ∷ []))) ≡ binary_text graph (codes "<<") (codes ">>") k bytes =
      sym (ap (λ (n : List ℕ). 60 ∷ 60 ∷ (n ++ (58 ∷ (hex_text bytes ++ 62 ∷ 62 ∷ [])))) (name_of k name named) ∙ binary_after (60 ∷ 60 ∷ []) (62 ∷ 62 ∷ []) (name_text name) (hex_text bytes)) in
      record {
        after = f.after;
        extra = c.y.extra;
        is = subst (λ (t : List ℕ). ObjectKind room (marked b (label_of labels met)) t (refs.Node (length b.nodes)) f.after) text
            (leaf_object room (marked b (label_of labels met)) _ (refs.Node (length b.nodes)) f.after
            (Leaf.large (Classed.classed c.o.is (name_token name (p.names k name named)) c.y.is) (LargeBytes.each (bytes_token bytes rules.each)) f.is));
        ready = f.ready;
        place = f.place;
      }
