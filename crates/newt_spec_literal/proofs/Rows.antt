-- What a text writes down of things in a row.
use Rattle.std.proofs.Common.{◌≡◌, ℕ, ◌≤◌, Bool, true, false, List, [], ◌∷◌, ◌++◌, map, take, Option, sym, subst, append_assoc}
use Rattle.std.specs.List.{sum_by}
use Rattle.std.proofs.lemmas.List.{append-nil}
use Rattle.newt_graph.specs.declared.node.Node.{Node}
use Rattle.newt_graph.specs.Graph.{payload}
use Rattle.newt_spec_literal.specs.Built.{Built}
use Rattle.newt_spec_literal.specs.Grammar.{Mark, Kind, Items, Several}
use Rattle.newt_spec_literal.specs.Spelling.{Spelling, ◌then◌}
use Rattle.newt_spec_literal.specs.Printed.{more_text, list_text}
use Rattle.newt_spec_literal.proofs.Images.{Both}
use Rattle.newt_spec_literal.proofs.Stands.{Stands}
use Rattle.newt_spec_literal.proofs.Walked.{Between}

-- The walk has met so many nodes; the text has met the same but for symbols, and counts so many.
pub record Ready (graph : List Node) (labels : List (Option ℕ)) (met count : ℕ) (seen open_nodes : List ℕ) (b : Built) : Type 0 where
  pub stands : Stands graph labels met seen open_nodes b
  pub agrees : Between graph count met
  pub light : sum_by payload b.nodes ≤ sum_by payload (take met graph)

-- a text writes this down, and the walk has then met so many nodes
pub record Wrote {A : Type 0} (kind : Kind A) (graph : List Node) (labels : List (Option ℕ)) (after_met : ℕ) (seen open_nodes : List ℕ) (b : Built) (text : List ℕ × ℕ) (is_back : List ℕ → A → Type 0) : Type 0 where
  pub x : A
  pub after : Built
  pub extra : List ℕ
  pub is : kind b text.0 x after
  pub ready : Ready graph labels after_met text.1 (seen ++ extra) open_nodes after
  pub back : is_back (seen ++ extra) x

-- one after another
pub data Chain {X : Type 0} (step : ℕ → X → ℕ → Type 0) : ℕ → List X → ℕ → Type 0 where
  none : {met : ℕ} → Chain step met [] met
  more : {met after : ℕ} {x : X} {xs : List X} (mid : ℕ) → step met x mid → Chain step mid xs after → Chain step met (x ∷ xs) after

-- the blank that stands before the first of several, if any
abbrev pub lead : {X : Type 0} → Bool → List X → List ℕ → List ℕ
lead false xs text = text
lead true [] text = text
lead true (x ∷ xs) text = 32 ∷ text

items_lead : {A : Type 0} {kind : Kind A} {close : ℕ} → ((b : Built) (text : List ℕ) (x : A) (after : Built) → kind b text x after → kind b (32 ∷ text) x after)
    → {b : Built} {text : List ℕ} {xs : List A} {after : Built} → Items kind close b text xs after → Items kind close b (32 ∷ text) xs after
items_lead leads (Items.last item mark) = Items.last (leads _ _ _ _ item) mark
items_lead leads (Items.more item mark rest) = Items.more (leads _ _ _ _ item) mark rest

module _ (graph : List Node) (labels : List (Option ℕ)) (A X : Type 0) (kind : Kind A) (spell : X → Spelling) (stands : List ℕ → A → X → Type 0)
    (leads : (b : Built) (text : List ℕ) (x : A) (after : Built) → kind b text x after → kind b (32 ∷ text) x after)
    (keeps : (seen extra : List ℕ) (a : A) (x : X) → stands seen a x → stands (seen ++ extra) a x) where
  -- how one thing is written, whatever was met before it
  abbrev pub Writer : ℕ → X → ℕ → Type 0
  Writer met x after_met = (count : ℕ) (seen open_nodes : List ℕ) (b : Built) → Ready graph labels met count seen open_nodes b
      → Wrote kind graph labels after_met seen open_nodes b (spell x count) (λ s a. stands s a x)

  items_wrote : (close : ℕ) {mid after_met : ℕ} {xs : List X} → Chain Writer mid xs after_met → (met : ℕ) (x : X) → Writer met x mid → (count : ℕ) (seen open_nodes : List ℕ) (b : Built) → Ready graph labels met count seen open_nodes b
      → Wrote (λ b text got after. Items kind close b text got after) graph labels after_met seen open_nodes b ((spell x then more_text close (map spell xs)) count) (λ s got. Both (stands s) got (x ∷ xs))
  items_wrote close Chain.none met x one count seen open_nodes b r =
      let w = one count seen open_nodes b r in
      record { x = w.x ∷ []; after = w.after; extra = w.extra; is = Items.last w.is Mark.here; ready = w.ready; back = Both.more w.back Both.none }
  items_wrote close {after_met = after_met} (Chain.more {met = start} {x = y} {xs = ys} mid two rest) met x one count seen open_nodes b r =
      let w = one count seen open_nodes b r in
      let u = items_wrote close rest start y two (spell x count).1 (seen ++ w.extra) open_nodes w.after w.ready in
      let same : (seen ++ w.extra) ++ u.extra ≡ seen ++ (w.extra ++ u.extra) = append_assoc seen w.extra u.extra in
      let end : ℕ = ((spell y then more_text close (map spell ys)) (spell x count).1).1 in
      record {
        x = w.x ∷ u.x;
        after = u.after;
        extra = w.extra ++ u.extra;
        is = Items.more w.is Mark.here (items_lead leads u.is);
        ready = subst (λ (l : List ℕ). Ready graph labels after_met end l open_nodes u.after) same u.ready;
        back = subst (λ (l : List ℕ). Both (stands l) (w.x ∷ u.x) (x ∷ (y ∷ ys))) same (Both.more (keeps (seen ++ w.extra) u.extra w.x x w.back) u.back);
      }

  pub several_wrote : (close : ℕ) (blank : Bool) {met after_met : ℕ} {xs : List X} → Chain Writer met xs after_met → (count : ℕ) (seen open_nodes : List ℕ) (b : Built) → Ready graph labels met count seen open_nodes b
      → Wrote (λ b text got after. Several kind close b text got after) graph labels after_met seen open_nodes b (lead blank xs (list_text close (map spell xs) count).0, (list_text close (map spell xs) count).1) (λ s got. Both (stands s) got xs)
  several_wrote close true {met = met} Chain.none count seen open_nodes b r =
      record { x = []; after = b; extra = []; is = Several.none Mark.here; ready = subst (λ (l : List ℕ). Ready graph labels met count l open_nodes b) (sym (append-nil seen)) r; back = Both.none }
  several_wrote close false {met = met} Chain.none count seen open_nodes b r =
      record { x = []; after = b; extra = []; is = Several.none Mark.here; ready = subst (λ (l : List ℕ). Ready graph labels met count l open_nodes b) (sym (append-nil seen)) r; back = Both.none }
  several_wrote close true (Chain.more {met = start} {x = x} mid one rest) count seen open_nodes b r =
      let w = items_wrote close rest start x one count seen open_nodes b r in
      record { x = w.x; after = w.after; extra = w.extra; is = Several.some (items_lead leads w.is); ready = w.ready; back = w.back }
  several_wrote close false (Chain.more {met = start} {x = x} mid one rest) count seen open_nodes b r =
      let w = items_wrote close rest start x one count seen open_nodes b r in
      record { x = w.x; after = w.after; extra = w.extra; is = Several.some w.is; ready = w.ready; back = w.back }
