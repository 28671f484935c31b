-- The printed text of a graph writes down the nodes of that graph.
use Rattle.std.proofs.Common.{◌≡◌, ℕ, zero, suc, ◌+◌, ◌<◌, ◌≤◌, Bool, true, false, ltb, List, [], ◌∷◌, ◌++◌, length, take, Option, Some, None, refl, sym, subst, append_assoc, arith, ℤ}
use Rattle.std.specs.Prelude.{slice_get, decimal}
use Rattle.std.specs.List.{sum_by}
use Rattle.std.proofs.lemmas.Bool.{lt-ltb, le-ltb, ltb-true, ltb-false}
use Rattle.std.proofs.lemmas.List.{append-nil}
use Rattle.std.proofs.lemmas.Option.{slice_get_within}
use Rattle.newt_graph.specs.declared.node.Node.{Node}
use Rattle.newt_graph.specs.declared.node.Node.TheVariants as nodes
use Rattle.newt_graph.specs.declared.node.Ref.{Ref}
use Rattle.newt_graph.specs.declared.node.Ref.TheVariants as refs
use Rattle.newt_graph.specs.Graph.{IsNamed, IsSymbol, payload}
use Rattle.newt_spec_literal.specs.Built.{Built, node_of, symbol_in}
use Rattle.newt_spec_literal.specs.Grammar.{Name, Immediate, Label, Form, Value}
use Rattle.newt_spec_literal.specs.Printed.{name_text, word_text, label_text, label_of, is_symbol, object_text, met_or_new, node_text, node_at, value_at}
use Rattle.newt_spec_literal.proofs.Images.{RefStands}
use Rattle.newt_spec_literal.proofs.Objects.{IsPrinted, ObjectKind, ObjectWrote, string_wrote, binary_wrote, large_wrote, take_mono}
use Rattle.newt_spec_literal.proofs.Containers.{ValueWriter, array_wrote, frame_wrote}
use Rattle.newt_spec_literal.proofs.Rows.{Ready, Wrote, Chain}
use Rattle.newt_spec_literal.proofs.Stands.{Stands, raise, no_symbol}
use Rattle.newt_spec_literal.proofs.Tokens.{name_token, word_token, label_token}
use Rattle.newt_spec_literal.proofs.Transitions.{symbol_stands, marked, unknown}
use Rattle.newt_spec_literal.proofs.Walked.{Between, Told, Full, ToldAll}

-- ---- forms at every level

word_value : (room : ℕ) (b : Built) (text : List ℕ) (w : ℤ) → Immediate text w → Value room b text (refs.Imm w) b
word_value zero b text w is = Form.immediate is
word_value (suc room) b text w is = Form.immediate is

symbol_value : (room : ℕ) (b : Built) (text name : List ℕ) (k : ℕ) (after : Built) → Name text name → symbol_in b name ≡ Some (k, after) → Value room b (39 ∷ text) (refs.Node k) after
symbol_value zero b text name k after is found = Form.symbol is found
symbol_value (suc room) b text name k after is found = Form.symbol is found

again_value : (room : ℕ) (b : Built) (text : List ℕ) (l q : ℕ) → Label text l → node_of l b.labels ≡ Some q → Value room b (35 ∷ (text ++ 35 ∷ [])) (refs.Node q) b
again_value zero b text l q is known = Form.again is known
again_value (suc room) b text l q is known = Form.again is known

given_value : (room : ℕ) (b : Built) (l : ℕ) (text : List ℕ) (v : Ref) (after : Built) → l < 100000 → node_of l b.labels ≡ None → ObjectKind room (marked b (Some l)) text v after → Value room b (label_text (Some l) 61 ++ text) v after
given_value zero b l text v after small unknown is =
    subst (λ (t : List ℕ). Value zero b (35 ∷ t) v after) (sym (append_assoc (decimal l) (61 ∷ []) text)) (Form.given (label_token l small) unknown is)
given_value (suc room) b l text v after small unknown is =
    subst (λ (t : List ℕ). Value (suc room) b (35 ∷ t) v after) (sym (append_assoc (decimal l) (61 ∷ []) text)) (Form.given (label_token l small) unknown is)

plain_value : (room : ℕ) (b : Built) (text : List ℕ) (v : Ref) (after : Built) → ObjectKind room (marked b None) text v after → Value room b text v after
plain_value zero b text v after is = Form.object is
plain_value (suc room) b text v after is = Form.object is

module _ (graph : List Node) (labels : List (Option ℕ)) (p : IsPrinted graph labels) where
  -- ---- the text of a node

  again_text : (room k l count : ℕ) (node : Node) → slice_get graph k ≡ Some node → is_symbol node ≡ false → label_of labels k ≡ Some l → ltb k count ≡ true
      → node_at graph labels (suc room) k count ≡ (35 ∷ (decimal l ++ 35 ∷ []), count)
  again_text room k l count node here object label lt = rw (here, node_text, object, met_or_new, lt, label) refl

  symbol_at : (room k count : ℕ) (name : List ℕ) → IsNamed graph k name → node_at graph labels (suc room) k count ≡ (39 ∷ name_text name, count)
  symbol_at room k count name named = rw named refl

  new_text : (room met count : ℕ) (node : Node) → slice_get graph met ≡ Some node → is_symbol node ≡ false → ltb met count ≡ false
      → node_at graph labels (suc room) met count ≡ (label_text (label_of labels met) 61 ++ (object_text graph (value_at graph labels room) node (met + 1)).0, (object_text graph (value_at graph labels room) node (met + 1)).1)
  new_text room met count node here object lt = rw (here, node_text, object, met_or_new, lt) refl

  -- ---- a value

  again_wrote : (room met k l : ℕ) (node : Node) → k < met → slice_get graph k ≡ Some node → is_symbol node ≡ false → label_of labels k ≡ Some l → ValueWriter graph labels p room met (refs.Node k) met
  again_wrote room met k l node lt here object label count seen open_nodes b r =
      let g = r.stands.given k l node lt here object label in
      let before : k < count = met_before (ltb k count) refl in
      let small : l < 100000 = omega (arith, p.small k l label, p.limit, slice_get_within graph k node here) in
      subst (λ (t : List ℕ × ℕ). Wrote (Value room) graph labels met seen open_nodes b t (λ s a. RefStands s a (refs.Node k))) (sym (again_text room k l count node here object label (lt-ltb k count before))) (record {
        x = refs.Node g.0;
        after = b;
        extra = [];
        is = again_value room b (decimal l) l g.0 (label_token l small) g.1;
        ready = subst (λ (s : List ℕ). Ready graph labels met count s open_nodes b) (sym (append-nil seen)) r;
        back = subst (λ (s : List ℕ). RefStands s (refs.Node g.0) (refs.Node k)) (sym (append-nil seen)) (RefStands.node g.2);
      })
    where
      met_before : (t : Bool) → ltb k count ≡ t → k < count
      met_before true e = ltb-true k count e
      met_before false e = let s = r.agrees.symbols k (ltb-false k count e) lt in absurd (no_symbol graph k node s.0 here object s.1)

  join : (a b c : ℕ) → Between graph a b → Between graph b c → Between graph a c
  join a b c first second = record {
    le = omega (arith, first.le, second.le);
    symbols = λ k le lt. go k le lt (ltb k b) refl;
  }
    where
      go : (k : ℕ) → a ≤ k → k < c → (t : Bool) → ltb k b ≡ t → IsSymbol graph k
      go k le lt true e = first.symbols k le (ltb-true k b e)
      go k le lt false e = second.symbols k (ltb-false k b e) lt

  symbol_wrote : (room met k after_met : ℕ) (name : List ℕ) → IsNamed graph k name → Between graph met after_met → ValueWriter graph labels p room met (refs.Node k) after_met
  symbol_wrote room met k after_met name named between count seen open_nodes b r =
      let y = symbol_stands graph labels met seen open_nodes b k name p.limit p.once r.stands named in
      subst (λ (t : List ℕ × ℕ). Wrote (Value room) graph labels after_met seen open_nodes b t (λ s a. RefStands s a (refs.Node k))) (sym (symbol_at room k count name named)) (record {
        x = refs.Node y.q;
        after = y.after;
        extra = y.extra;
        is = symbol_value room b (name_text name) name y.q y.after (name_token name (p.names k name named)) y.is;
        ready = record {
          stands = raise graph labels met after_met (seen ++ y.extra) open_nodes y.after between y.stands;
          agrees = join count met after_met r.agrees between;
          light = omega (arith, y.weight, r.light, take_mono graph met after_met between.le);
        };
        back = RefStands.node y.back;
      })

  object_value : (room met : ℕ) (b : Built) (text : List ℕ) (v : Ref) (after : Built) (seen open_nodes : List ℕ) (node : Node) → slice_get graph met ≡ Some node → Stands graph labels met seen open_nodes b
      → (label : Option ℕ) → label ≡ label_of labels met → ObjectKind room (marked b label) text v after → Value room b (label_text label 61 ++ text) v after
  object_value room met b text v after seen open_nodes node here s None same is = plain_value room b text v after is
  object_value room met b text v after seen open_nodes node here s (Some l) same is =
      given_value room b l text v after (omega (arith, p.small met l (sym same), p.limit, slice_get_within graph met node here)) (unknown graph labels p.apart met seen open_nodes b l s (sym same)) is

  not_symbol : {room met after_met : ℕ} {node : Node} → Full graph labels room met node after_met → is_symbol node ≡ false
  not_symbol (Full.string rules e) = refl
  not_symbol (Full.binary named rules between) = refl
  not_symbol (Full.large named rules between) = refl
  not_symbol (Full.array mid named few between all) = refl
  not_symbol (Full.frame mid rules between all) = refl

  object_wrote : (room met after_met : ℕ) (node : Node) (count : ℕ) (seen open_nodes : List ℕ) (b : Built) → slice_get graph met ≡ Some node → is_symbol node ≡ false → Ready graph labels met count seen open_nodes b
      → ObjectWrote room graph labels met after_met seen open_nodes b (object_text graph (value_at graph labels room) node (met + 1))
      → Wrote (Value room) graph labels after_met seen open_nodes b (value_at graph labels (suc room) (refs.Node met) count) (λ s a. RefStands s a (refs.Node met))
  object_wrote room met after_met node count seen open_nodes b here object r o =
      let text = object_text graph (value_at graph labels room) node (met + 1) in
      subst (λ (t : List ℕ × ℕ). Wrote (Value room) graph labels after_met seen open_nodes b t (λ s a. RefStands s a (refs.Node met))) (sym (new_text room met count node here object (le-ltb met count r.agrees.le))) (record {
        x = refs.Node (length b.nodes);
        after = o.after;
        extra = met ∷ o.extra;
        is = object_value room met b text.0 (refs.Node (length b.nodes)) o.after seen open_nodes node here r.stands (label_of labels met) refl o.is;
        ready = o.ready;
        back = RefStands.node o.place;
      })

  mutual
    pub told_writes : {room met after_met : ℕ} {r : Ref} → Told graph labels room met r after_met → ValueWriter graph labels p room met r after_met
    told_writes {room = room} {met = met} (Told.word {w = w} word) count seen open_nodes b r =
        record {
          x = refs.Imm w;
          after = b;
          extra = [];
          is = word_value room b (word_text w) w (word_token w word);
          ready = subst (λ (s : List ℕ). Ready graph labels met count s open_nodes b) (sym (append-nil seen)) r;
          back = RefStands.word;
        }
    told_writes {room = room} {met = met} (Told.again {k = k} {l = l} {node = node} lt here object label) count seen open_nodes b r = again_wrote room met k l node lt here object label count seen open_nodes b r
    told_writes {room = room} {met = met} {after_met = after_met} (Told.symbol {k = k} {name = name} named between) count seen open_nodes b r = symbol_wrote room met k after_met name named between count seen open_nodes b r
    told_writes {room = room} {met = met} {after_met = after_met} (Told.object {node = node} here full) count seen open_nodes b r =
        object_wrote room met after_met node count seen open_nodes b here (not_symbol full) r (full_writes full seen open_nodes b here r.stands r.light)

    full_writes : {room met after_met : ℕ} {node : Node} → Full graph labels room met node after_met → (seen open_nodes : List ℕ) (b : Built) → slice_get graph met ≡ Some node
        → Stands graph labels met seen open_nodes b → sum_by payload b.nodes ≤ sum_by payload (take met graph)
        → ObjectWrote room graph labels met after_met seen open_nodes b (object_text graph (value_at graph labels room) node (met + 1))
    full_writes {room = room} {met = met} (Full.string {units = units} rules e) seen open_nodes b here s light =
        subst (λ (n : ℕ). ObjectWrote room graph labels met n seen open_nodes b (object_text graph (value_at graph labels room) (nodes.Str units) (met + 1))) (sym e) (string_wrote graph labels p room met units seen open_nodes b here rules s light)
    full_writes {room = room} {met = met} {after_met = after_met} (Full.binary {class = class} {bytes = bytes} named rules between) seen open_nodes b here s light =
        binary_wrote graph labels p room met after_met class bytes named.0 seen open_nodes b here named.1 rules between s light
    full_writes {room = room} {met = met} {after_met = after_met} (Full.large {class = class} {bytes = bytes} named rules between) seen open_nodes b here s light =
        large_wrote graph labels p room met after_met class bytes named.0 seen open_nodes b here named.1 rules between s light
    full_writes {met = met} {after_met = after_met} (Full.array {room = room} {class = class} {values = values} mid named few between all) seen open_nodes b here s light =
        array_wrote graph labels p room met mid after_met class values seen open_nodes b here named few between (all_write all) s light
    full_writes {met = met} {after_met = after_met} (Full.frame {room = room} {tags = tags} {values = values} mid rules between all) seen open_nodes b here s light =
        frame_wrote graph labels p room met mid after_met tags values seen open_nodes b here rules between (all_write all) s light

    all_write : {room met after_met : ℕ} {rs : List Ref} → ToldAll graph labels room met rs after_met → Chain (ValueWriter graph labels p room) met rs after_met
    all_write ToldAll.none = Chain.none
    all_write (ToldAll.more mid one rest) = Chain.more mid (λ count seen open_nodes b r. told_writes one count seen open_nodes b r) (all_write rest)
