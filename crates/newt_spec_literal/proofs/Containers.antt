-- What a text writes down of arrays and frames, where it writes down their values.
use Rattle.std.proofs.Common.{◌≡◌, ◌≢◌, ℕ, zero, suc, ◌+◌, ◌≤◌, Bool, true, false, eqb, List, [], ◌∷◌, ◌++◌, length, map, take, Option, Some, None, refl, sym, ap, ◌∙◌, subst, append_assoc, arith, All, AllPairs}
use Rattle.std.specs.Prelude.{slice_get, zip, codes}
use Rattle.std.specs.List.{sum_by, list_any}
use Rattle.std.proofs.lemmas.Bool.{le-leb}
use Rattle.std.proofs.lemmas.List.{append-nil}
use Rattle.std.proofs.lemmas.List.Elements.{All-head, All-tail}
use Rattle.std.proofs.lemmas.Option.{slice_get_within, get_or_from_slice_get}
use Rattle.newt_graph.specs.declared.node.Node.{Node}
use Rattle.newt_graph.specs.declared.node.Node.TheVariants as nodes
use Rattle.newt_graph.specs.declared.node.Ref.{Ref}
use Rattle.newt_graph.specs.declared.node.Ref.TheVariants as refs
use Rattle.newt_graph.specs.Graph.{IsSymbol, IsFrame, all_distinct, payload}
use Rattle.newt_spec_literal.specs.Built.{Built, tags_of, values_of}
use Rattle.newt_spec_literal.specs.Grammar.{Mark, Tag, Kind, Class, Field, Object, Form, Array, Frame, Value}
use Rattle.newt_spec_literal.specs.Spelling.{plain, ◌then◌}
use Rattle.newt_spec_literal.specs.Printed.{name_text, symbol_text, class_text, field_text, list_text, value_at, label_of}
use Rattle.newt_spec_literal.proofs.Images.{RefStands, ClassStands, Both, Leads, NodeStands, ref_keeps, class_keeps}
use Rattle.newt_graph.proofs.Elements.{get_append}
use Rattle.newt_spec_literal.proofs.Objects.{IsPrinted, ObjectKind, ObjectWrote, closed, name_of, take_mono}
use Rattle.newt_spec_literal.proofs.Rows.{Ready, Chain, Writer, lead, several_wrote}
use Rattle.newt_spec_literal.proofs.Stands.{Stands, raise, any_at}
use Rattle.newt_spec_literal.proofs.Tokens.{name_token}
use Rattle.newt_spec_literal.proofs.Transitions.{symbol_stands, marked, opened}
use Rattle.newt_spec_literal.proofs.Walked.{Between}

-- ---- values and fields at every level

pub blank_value : (room : ℕ) (b : Built) (text : List ℕ) (v : Ref) (after : Built) → Value room b text v after → Value room b (32 ∷ text) v after
blank_value zero b text v after value = Form.blank refl value
blank_value (suc room) b text v after value = Form.blank refl value

abbrev pub FieldKind : ℕ → Kind (ℕ × Ref)
FieldKind room b text f after = Field (Value room) b text f after

pub blank_field : (room : ℕ) (b : Built) (text : List ℕ) (f : ℕ × Ref) (after : Built) → FieldKind room b text f after → FieldKind room b (32 ∷ text) f after
blank_field room b _ _ after (Field.field tag found value) = Field.field (Tag.blank refl tag) found value

abbrev pub FieldStands : List ℕ → ℕ × Ref → ℕ × Ref → Type 0
FieldStands seen f g = Leads seen f.0 g.0 × RefStands seen f.1 g.1

pub keeps_value : (seen extra : List ℕ) (a x : Ref) → RefStands seen a x → RefStands (seen ++ extra) a x
keeps_value seen extra a x is = ref_keeps extra is

pub keeps_field : (seen extra : List ℕ) (f g : ℕ × Ref) → FieldStands seen f g → FieldStands (seen ++ extra) f g
keeps_field seen extra f g is = (get_append seen extra f.0 g.0 is.0, ref_keeps extra is.1)

-- ---- lists of both

both_length : {A X : Type 0} {stands : A → X → Type 0} {got : List A} {xs : List X} → Both stands got xs → length got ≡ length xs
both_length Both.none = refl
both_length (Both.more is rest) = ap (λ (n : ℕ). suc n) (both_length rest)

both_tags : (seen : List ℕ) (got : List (ℕ × Ref)) (tags : List ℕ) (values : List Ref) → length values ≡ length tags → Both (FieldStands seen) got (zip tags values) → Both (Leads seen) (tags_of got) tags × Both (RefStands seen) (values_of got) values
both_tags seen got [] [] len Both.none = (Both.none, Both.none)
both_tags seen got [] (v ∷ vs) len is = absurd (omega (arith, len))
both_tags seen got (k ∷ ks) [] len is = absurd (omega (arith, len))
both_tags seen _ (k ∷ ks) (v ∷ vs) len (Both.more {got = got} one rest) = let r = both_tags seen got ks vs (omega (arith, len)) rest in (Both.more one.0 r.0, Both.more one.1 r.1)

-- no two tags are the same
Apart : List ℕ → Type 0
Apart [] = Unit {0}
Apart (k ∷ ks) = ((i : ℕ) → slice_get ks i ≡ Some k → ⊥) × Apart ks

apart_tags : (tags : List ℕ) → AllPairs (λ a b. a ≢ b) tags → Apart tags
unfolding Apart
apart_tags [] all = tt
apart_tags (k ∷ ks) all = (λ i e. all 0 (suc i) 0 (omega arith) (omega (arith, slice_get_within ks i k e)) (sym (get_or_from_slice_get ks i k 0 e)), apart_tags ks (λ i j d lt within. all (suc i) (suc j) d (omega (arith, lt)) (omega (arith, within))))

both_at : (seen numbers tags : List ℕ) (i q : ℕ) → Both (Leads seen) numbers tags → slice_get numbers i ≡ Some q → (k : ℕ) × (slice_get tags i ≡ Some k) × Leads seen q k
both_at seen _ _ i q Both.none e = absurd cc
both_at seen _ _ zero q (Both.more {a = a} {x = x} one rest) e = let same : a ≡ q = cc in (x, refl, ap (slice_get seen) (sym same) ∙ one)
both_at seen _ _ (suc i) q (Both.more {got = got} {xs = xs} one rest) e = both_at seen got xs i q rest e

distinct_numbers : (seen numbers tags : List ℕ) → Both (Leads seen) numbers tags → Apart tags → all_distinct numbers ≡ true
unfolding Apart
distinct_numbers seen _ _ Both.none apart = refl
distinct_numbers seen _ _ (Both.more {a = q} {x = k} {got = numbers} {xs = tags} one rest) apart =
    let others : all_distinct numbers ≡ true = distinct_numbers seen numbers tags rest apart.1 in
    let none : list_any (eqb q) numbers ≡ false = go (list_any (eqb q) numbers) refl in
    rw (none, others) refl
  where
    go : (t : Bool) → list_any (eqb q) numbers ≡ t → list_any (eqb q) numbers ≡ false
    go false e = e
    go true e =
        let at = any_at q numbers e in
        let found = both_at seen numbers tags at.0 q rest at.1 in
        let same : found.0 ≡ k = let f : Some found.0 ≡ Some k = sym found.2 ∙ one in cc in
        absurd (apart.0 at.0 (found.1 ∙ ap (λ (j : ℕ). Some j) same))

module _ (graph : List Node) (labels : List (Option ℕ)) (p : IsPrinted graph labels) where
  -- ---- classes

  abbrev class_tag : Option ℕ → List ℕ
  class_tag None = []
  class_tag (Some k) = symbol_text (slice_get graph k) ++ (58 ∷ [])

  abbrev is_some : Option ℕ → Bool
  is_some None = false
  is_some (Some k) = true

  class_before : (class : Option ℕ) (values : List Ref) (text : List ℕ) → class_tag class ++ lead (is_some class) values text ≡ class_text graph class values ++ text
  class_before None values text = refl
  class_before (Some k) [] text = refl
  class_before (Some k) (v ∷ vs) text =
      let n = symbol_text (slice_get graph k) in
      append_assoc n (58 ∷ []) (32 ∷ text) ∙ sym (append_assoc n (58 ∷ 32 ∷ []) text)

  record ClassPart (met : ℕ) (seen open_nodes : List ℕ) (b : Built) (class : Option ℕ) : Type 0 where
    got : Option ℕ
    after : Built
    extra : List ℕ
    is : Class b (class_tag class) got after
    stands : Stands graph labels met (seen ++ extra) open_nodes after
    back : ClassStands (seen ++ extra) got class
    weight : sum_by payload after.nodes ≡ sum_by payload b.nodes

  class_part : (met : ℕ) (seen open_nodes : List ℕ) (b : Built) (class : Option ℕ) → ((k : ℕ) → class ≡ Some k → IsSymbol graph k) → Stands graph labels met seen open_nodes b → ClassPart met seen open_nodes b class
  class_part met seen open_nodes b None named s =
      record { got = None; after = b; extra = []; is = Class.none; stands = subst (λ (l : List ℕ). Stands graph labels met l open_nodes b) (sym (append-nil seen)) s; back = ClassStands.none; weight = refl }
  class_part met seen open_nodes b (Some k) named s =
      let n = named k refl in
      let y = symbol_stands graph labels met seen open_nodes b k n.0 p.limit p.once s n.1 in
      let text : name_text n.0 ++ 58 ∷ [] ≡ class_tag (Some k) = sym (ap (λ (t : List ℕ). t ++ 58 ∷ []) (name_of graph labels p k n.0 n.1)) in
      record {
        got = Some y.q;
        after = y.after;
        extra = y.extra;
        is = subst (λ (t : List ℕ). Class b t (Some y.q) y.after) text (Class.some (Tag.name (name_token n.0 (p.names k n.0 n.1)) Mark.here) y.is);
        stands = y.stands;
        back = ClassStands.some y.back;
        weight = y.weight;
      }

  -- ---- arrays

  abbrev pub ValueWriter : ℕ → ℕ → Ref → ℕ → Type 0
  ValueWriter room = Writer graph labels Ref Ref (Value room) (value_at graph labels (suc room)) RefStands (blank_value room) keeps_value

  pub array_wrote : (room met mid after_met : ℕ) (class : Option ℕ) (values : List Ref) (seen open_nodes : List ℕ) (b : Built) → slice_get graph met ≡ Some (nodes.Array class values) → ((k : ℕ) → class ≡ Some k → IsSymbol graph k)
      → length values ≤ 65535 → Between graph (met + 1) mid → Chain (ValueWriter room) mid values after_met → Stands graph labels met seen open_nodes b → sum_by payload b.nodes ≤ sum_by payload (take met graph)
      → ObjectWrote (suc room) graph labels met after_met seen open_nodes b ((plain (91 ∷ class_text graph class values) then list_text 93 (map (value_at graph labels (suc room)) values)) (met + 1))
  array_wrote room met mid after_met class values seen open_nodes b here named few between chain s light =
      let o = opened graph labels p.apart met (nodes.Array class values) seen open_nodes b p.limit here refl s in
      let c = class_part (met + 1) (seen ++ met ∷ []) (met ∷ open_nodes) o.after class named o.stands in
      let seen_c = (seen ++ met ∷ []) ++ c.extra in
      let w = several_wrote graph labels Ref Ref (Value room) (value_at graph labels (suc room)) RefStands (blank_value room) keeps_value 93 (is_some class) chain (met + 1) seen_c (met ∷ open_nodes) c.after (record {
        stands = raise graph labels (met + 1) mid seen_c (met ∷ open_nodes) c.after between c.stands;
        agrees = between;
        light = omega (arith, c.weight, o.weight, light, take_mono graph met mid (omega (arith, between.le)));
      }) in
      let same : seen_c ++ w.extra ≡ (seen ++ met ∷ []) ++ (c.extra ++ w.extra) = append_assoc (seen ++ met ∷ []) c.extra w.extra in
      let list = list_text 93 (map (value_at graph labels (suc room)) values) (met + 1) in
      let size : length w.x ≡ length values = both_length w.back in
      let f = closed graph labels p met after_met list.1 seen (c.extra ++ w.extra) open_nodes w.after (length b.nodes) (nodes.Array c.got w.x) (nodes.Array class values) here refl refl
      (subst (λ (l : List ℕ). Stands graph labels after_met l (met ∷ open_nodes) w.after) same w.ready.stands)
      (get_append (seen ++ met ∷ []) (c.extra ++ w.extra) (length b.nodes) met o.place)
      (subst (λ (l : List ℕ). NodeStands l (nodes.Array c.got w.x) (nodes.Array class values)) same (NodeStands.array (class_keeps w.extra c.back) w.back))
      (le-leb (length w.x) 65535 (omega (arith, few, size))) w.ready.agrees (omega (arith, w.ready.light)) in
      let text : 91 ∷ (class_tag class ++ lead (is_some class) values list.0) ≡ (91 ∷ class_text graph class values) ++ list.0 = ap (λ (t : List ℕ). 91 ∷ t) (class_before class values list.0) in
      record {
        after = f.after;
        extra = c.extra ++ w.extra;
        is = subst (λ (t : List ℕ). ObjectKind (suc room) (marked b (label_of labels met)) t (refs.Node (length b.nodes)) f.after) text (Object.array (Array.array o.is c.is w.is f.is));
        ready = f.ready;
        place = f.place;
      }

  -- ---- frames

  abbrev pub FieldWriter : ℕ → ℕ → ℕ × Ref → ℕ → Type 0
  FieldWriter room = Writer graph labels (ℕ × Ref) (ℕ × Ref) (FieldKind room) (field_text graph (value_at graph labels (suc room))) FieldStands (blank_field room) keeps_field

  field_wrote : (room met after_met k : ℕ) (v : Ref) → IsSymbol graph k → ValueWriter room met v after_met → FieldWriter room met (k, v) after_met
  field_wrote room met after_met k v named write count seen open_nodes b r =
      let y = symbol_stands graph labels met seen open_nodes b k named.0 p.limit p.once r.stands named.1 in
      let w = write count (seen ++ y.extra) open_nodes y.after (record { stands = y.stands; agrees = r.agrees; light = omega (arith, y.weight, r.light) }) in
      let same : (seen ++ y.extra) ++ w.extra ≡ seen ++ (y.extra ++ w.extra) = append_assoc seen y.extra w.extra in
      let value = value_at graph labels (suc room) v count in
      let text : (name_text named.0 ++ 58 ∷ []) ++ (32 ∷ value.0) ≡ (symbol_text (slice_get graph k) ++ (58 ∷ 32 ∷ [])) ++ value.0 =
      append_assoc (name_text named.0) (58 ∷ []) (32 ∷ value.0) ∙ sym (append_assoc (name_text named.0) (58 ∷ 32 ∷ []) value.0)
      ∙ sym (ap (λ (t : List ℕ). (t ++ (58 ∷ 32 ∷ [])) ++ value.0) (name_of graph labels p k named.0 named.1)) in
      record {
        x = (y.q, w.x);
        after = w.after;
        extra = y.extra ++ w.extra;
        is = subst (λ (t : List ℕ). FieldKind room b t (y.q, w.x) w.after) text
            (Field.field (Tag.name (name_token named.0 (p.names k named.0 named.1)) Mark.here) y.is (blank_value room y.after value.0 w.x w.after w.is));
        ready = subst (λ (l : List ℕ). Ready graph labels after_met value.1 l open_nodes w.after) same w.ready;
        back = subst (λ (l : List ℕ). FieldStands l (y.q, w.x) (k, v)) same (get_append (seen ++ y.extra) w.extra y.q k y.back, w.back);
      }

  fields_chain : (room : ℕ) {met after_met : ℕ} {values : List Ref} → Chain (ValueWriter room) met values after_met → (tags : List ℕ) → length values ≡ length tags → All (IsSymbol graph) tags
      → Chain (FieldWriter room) met (zip tags values) after_met
  fields_chain room Chain.none [] len named = Chain.none
  fields_chain room Chain.none (k ∷ ks) len named = absurd (omega (arith, len))
  fields_chain room (Chain.more mid one rest) [] len named = absurd (omega (arith, len))
  fields_chain room (Chain.more {met = met} {x = v} mid one rest) (k ∷ ks) len named =
      Chain.more mid (field_wrote room met mid k v (All-head (IsSymbol graph) k ks named) one) (fields_chain room rest ks (omega (arith, len)) (All-tail (IsSymbol graph) k ks named))

  pub frame_wrote : (room met mid after_met : ℕ) (tags : List ℕ) (values : List Ref) (seen open_nodes : List ℕ) (b : Built) → slice_get graph met ≡ Some (nodes.Frame tags values) → IsFrame graph tags values
      → Between graph (met + 1) mid → Chain (ValueWriter room) mid values after_met → Stands graph labels met seen open_nodes b → sum_by payload b.nodes ≤ sum_by payload (take met graph)
      → ObjectWrote (suc room) graph labels met after_met seen open_nodes b ((plain (codes "{") then list_text 125 (map (field_text graph (value_at graph labels (suc room))) (zip tags values))) (met + 1))
  frame_wrote room met mid after_met tags values seen open_nodes b here rules between chain s light =
      let o = opened graph labels p.apart met (nodes.Frame tags values) seen open_nodes b p.limit here refl s in
      let seen_o = seen ++ met ∷ [] in
      let w = several_wrote graph labels (ℕ × Ref) (ℕ × Ref) (FieldKind room) (field_text graph (value_at graph labels (suc room))) FieldStands (blank_field room) keeps_field 125 false
      (fields_chain room chain tags rules.paired rules.symbols) (met + 1) seen_o (met ∷ open_nodes) o.after (record {
        stands = raise graph labels (met + 1) mid seen_o (met ∷ open_nodes) o.after between o.stands;
        agrees = between;
        light = omega (arith, o.weight, light, take_mono graph met mid (omega (arith, between.le)));
      }) in
      let list = list_text 125 (map (field_text graph (value_at graph labels (suc room))) (zip tags values)) (met + 1) in
      let parts = both_tags (seen_o ++ w.extra) w.x tags values rules.paired w.back in
      let node = nodes.Frame (tags_of w.x) (values_of w.x) in
      let size : length (tags_of w.x) ≡ length tags = both_length parts.0 in
      let f = closed graph labels p met after_met list.1 seen w.extra open_nodes w.after (length b.nodes) node (nodes.Frame tags values) here refl refl w.ready.stands
      (get_append seen_o w.extra (length b.nodes) met o.place) (NodeStands.frame parts.0 parts.1) (le-leb (length (tags_of w.x)) 65535 (omega (arith, size, rules.are_tags.few))) w.ready.agrees (omega (arith, w.ready.light)) in
      record {
        after = f.after;
        extra = w.extra;
        is = Object.frame (Frame.frame o.is w.is (distinct_numbers (seen_o ++ w.extra) (tags_of w.x) tags parts.0 (apart_tags tags rules.are_tags.distinct)) f.is);
        ready = f.ready;
        place = f.place;
      }
