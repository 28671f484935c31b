use Rattle.std.proofs.Common.{◌≡◌, ℕ, List, length, true, false, get_or, sym, ap, ◌∙◌, arith}
use Rattle.std.specs.Prelude.{not, ◌&&◌}
use Rattle.newt_graph.specs.declared.node.Ref.{Ref}
use Rattle.newt_graph.specs.declared.node.Node.{Node}
use Rattle.newt_spec_literal.specs.Printed.{references, is_symbol, is_shared}
use Rattle.newt_lit_print.specs.Meetings.{is_more}
use Rattle.newt_lit_print.specs.declared.labels.Meetings.{Meetings}
use Rattle.newt_lit_print.specs.declared.labels.Meetings.TheVariants.{None as NoMeeting}
use Rattle.newt_lit_print.proofs.Tally.{shared_is, labelled_step, unlabelled_step, yes, no_more, no_object}
use Rattle.newt_lit_print.proofs.labels.labels.Goals.{then-not-is_symbol+then-is_met_again+in_ok-push, else-not-is_symbol+in_ok-push-2, else-not-is_symbol-via-then-not-is_symbol+else-is_met_again, else-not-is_symbol-via-else-not-is_symbol}
use Rattle.newt_lit_print.proofs.labels.labels.Goals as goal

pub loop-n-preserved : goal.loop-n-preserved
loop-n-preserved c =
    let nodes : List Node = c.args.nodes.now in
    let rs : List Ref = references (record { nodes = c.args.nodes.now; root = c.args.root }) in
    let n : ℕ = c.loop-n.n in
    let node : Node = c.index-nodes-n.result in
    let shared : is_shared rs n node ≡ (not (is_symbol node) && is_more (get_or c.in_ok-meetings.meetings.items n NoMeeting)) =
    shared_is rs (length nodes) n node c.loop-n-test.true ∙ ap (λ (m : List Meetings). not (is_symbol node) && is_more (get_or m n NoMeeting)) (sym c.in_ok-meetings.ensures) in
    elim c.if-not-is_symbol.branch [
      | then-not-is_symbol+then-is_met_again+in_ok-push w ↦
          let more : is_more (get_or c.in_ok-meetings.meetings.items n NoMeeting) ≡ true =
          ap (λ (m : List Meetings). is_more (get_or m n NoMeeting)) (sym w.deref.ensures.value) ∙ sym w.is_met_again.ensures ∙ w.if-is_met_again.true in
          let is : is_shared rs n node ≡ true = shared ∙ yes (is_symbol node) _ (sym c.is_symbol.ensures ∙ w.if-not-is_symbol.true) more in
          record {
            few = omega (arith, w.next-is, c.loop-n.invariant.few);
            labels = rw (w.labels-is, w.next-is, w.in_ok-push.ensures.items) (labelled_step rs nodes n c.loop-n.next node c.loop-n.labels.items c.loop-n-test.true c.index-nodes-n.is is ∙ c.loop-n.invariant.labels);
          }
      | else-not-is_symbol+in_ok-push-2 w ↦
          let is : is_shared rs n node ≡ false = shared ∙ elim w.else-not-is_symbol.branch [
            | else-not-is_symbol-via-then-not-is_symbol+else-is_met_again v ↦
                no_more (is_symbol node) _ (ap (λ (m : List Meetings). is_more (get_or m n NoMeeting)) (sym v.deref.ensures.value) ∙ sym v.is_met_again.ensures ∙ v.if-is_met_again.false)
            | else-not-is_symbol-via-else-not-is_symbol v ↦ no_object (is_symbol node) _ (sym c.is_symbol.ensures ∙ v.if-not-is_symbol.false)
          ] in
          record {
            few = omega (arith, w.next-is, c.loop-n.invariant.few);
            labels = rw (w.labels-is, w.next-is, w.in_ok-push-2.ensures.items) (unlabelled_step rs nodes n c.loop-n.next node c.loop-n.labels.items c.loop-n-test.true c.index-nodes-n.is is ∙ c.loop-n.invariant.labels);
          }
    ]
