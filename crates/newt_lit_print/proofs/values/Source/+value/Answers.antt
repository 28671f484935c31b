use Rattle.std.proofs.Common.{◌≡◌, ℕ, List, [], Option, None, map, refl, ◌∙◌, sym, ap, ◌+◌, ◌-◌, ◌++◌, suc, ◌≤◌, length, inl, inr, ◌⊎◌, arith}
use Rattle.std.specs.Prelude.{zip}
use Rattle.std.proofs.lemmas.Result.{on_ok_weaker}
use Rattle.std.proofs.lemmas.Slice.Zip.{either_empty_from_Zip}
use Rattle.newt_graph.specs.declared.node.Node.{Node}
use Rattle.newt_graph.specs.declared.node.Ref.{Ref}
use Rattle.newt_spec_literal.specs.Spelling.{Spelling, Page, spelled}
use Rattle.newt_spec_literal.specs.Printed.{field_text, more_text, object_text, label_of, label_text, node_at, value_at}
use Rattle.newt_lit_print.proofs.Printing.{absent, new_object, symbol_node, zip_empty}
use Rattle.newt_lit_print.proofs.values.Source.+value.Goals.{found-then-levels-eq0-via-then-levels-eq0, found-then-levels-eq0-via-else-levels-eq0+then-n-self, found-then-not-is_symbol+else-has_met+in_ok-label, found-else-not-is_symbol}
use Rattle.newt_lit_print.proofs.values.Source.+value.Goals as goal

pub found-returns-then-levels-eq0 : goal.found-returns-then-levels-eq0
found-returns-then-levels-eq0 t c =
    let none : (c.args.levels ≡ 0) ⊎ (length c.args.self.now.nodes.now ≤ c.args.n) = elim c.then-levels-eq0.branch [
      | found-then-levels-eq0-via-then-levels-eq0 w ↦ inl w.if-levels-eq0.true
      | found-then-levels-eq0-via-else-levels-eq0+then-n-self w ↦ inr w.if-n-self.true
    ] in
    absent c.args.self.now.nodes.now c.args.self.now.labels.now c.args.levels c.args.n c.args.page.now none

pub found-returns : goal.found-returns
found-returns t c =
    let graph : List Node = c.args.self.now.nodes.now in
    let labels : List (Option ℕ) = c.args.self.now.labels.now in
    let less : c.args.levels ≡ suc (c.args.levels - 1) = omega (arith, c.if-levels-eq0.false) in
    let text : Spelling = object_text graph (value_at graph labels (c.args.levels - 1)) c.node-node.result.now in
    let same : spelled c.if-not-is_symbol.page text ≡ spelled c.args.page.now (node_at graph labels c.args.levels c.args.n) = elim c.if-not-is_symbol.branch [
      | found-then-not-is_symbol+else-has_met+in_ok-label w ↦
          let label : Option ℕ = label_of labels c.args.n in
          let here : w.meet.new.self ≡ (c.args.page.now.0 ++ label_text label 61, c.args.n + 1) =
          w.meet.ensures ∙ ap (λ (p : Page). (p.0, c.args.n + 1)) w.in_ok-label.ensures ∙ ap (λ (l : Option ℕ). (c.args.page.now.0 ++ label_text l 61, c.args.n + 1)) w.label-then-not-is_symbol.ensures in
          ap (λ (p : Page). spelled p text) (w.page-is ∙ here)
          ∙ new_object graph labels c.args.levels (c.args.levels - 1) c.args.n c.node-node.result.now c.args.page.now less c.node-node.ensures (sym c.is_symbol.ensures ∙ w.if-not-is_symbol.true) (sym w.has_met.ensures ∙ w.if-has_met.false)
      | found-else-not-is_symbol w ↦
          ap (λ (p : Page). spelled p text) w.page-is ∙ symbol_node graph labels c.args.levels (c.args.levels - 1) c.args.n c.node-node.result.now c.args.page.now less c.node-node.ensures (sym c.is_symbol.ensures ∙ w.if-not-is_symbol.false)
    ] in
    on_ok_weaker c.object.result (λ e. e ∙ same) c.object.ensures

pub more_fields-returns : goal.more_fields-returns
more_fields-returns t c =
    let text : ℕ × Ref → Spelling = field_text c.args.self.now.nodes.now (value_at c.args.self.now.nodes.now c.args.self.now.labels.now c.args.levels) in
    let ends = either_empty_from_Zip c.loop-tag.tag-iterator c.next.new.self None refl c.in-None.ensures.steps in
    let left : zip c.loop-tag.tag-iterator.a.rest.now c.loop-tag.tag-iterator.b.rest.now ≡ [] = elim ends [
      | inl e ↦ zip_empty c.loop-tag.tag-iterator.a.rest.now c.loop-tag.tag-iterator.b.rest.now (inl (omega (arith, ap length e)))
      | inr e ↦ zip_empty c.loop-tag.tag-iterator.a.rest.now c.loop-tag.tag-iterator.b.rest.now (inr (omega (arith, ap length e)))
    ] in
    on_ok_weaker c.put-2.result (λ e. e ∙ ap (λ (slots : List (ℕ × Ref)). spelled c.loop-tag.page (more_text 125 (map text slots))) (sym left) ∙ c.loop-tag.invariant) c.put-2.ensures
