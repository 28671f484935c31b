use Rattle.std.proofs.Common.{◌≡◌, ◌+◌, get_or, drop, pos, List, ℕ, length, Some, refl, ap, ◌∙◌}
use Rattle.std.specs.Prelude.{slice_get}
use Rattle.std.proofs.lemmas.Option.{slice_get_read}
use Rattle.newt_graph.specs.declared.node.Node.{Node}
use Rattle.newt_graph.specs.declared.node.Node.TheVariants.{Array, Frame}
use Rattle.newt_graph.specs.declared.node.Ref.{Ref}
use Rattle.newt_graph.specs.declared.node.Ref.TheVariants as refs
use Rattle.newt_spec_nsof.specs.Written.{Text, value_text}
use Rattle.newt_nsof_write.proofs.Each.{goes_on, goes_at_index, goes_at_end}
use Rattle.newt_nsof_write.proofs.Parts.{full_frame_adds, plain_array_adds, classed_array_adds}
use Rattle.newt_nsof_write.proofs.written.+value.Goals as goal

pub each-loop-one-preserved : goal.each-loop-one-preserved
each-loop-one-preserved t c =
    let text : Ref → List ℕ → Text = λ value numbered. value_text c.args.room c.args.nodes.now value numbered in
    goes_on text c.args.values.now c.args.numbers.now c.args.out.now.items (get_or c.args.values.now c.loop-one.one-index (refs.Imm (pos 0))) (drop (c.loop-one.one-index + 1) c.args.values.now) c.loop-one.numbers c.loop-one.out.items c.value.new.out.items c.value.new.numbers
    (goes_at_index text c.args.values.now c.args.numbers.now c.args.out.now.items c.loop-one.one-index (refs.Imm (pos 0)) c.loop-one.numbers c.loop-one.out.items c.loop-one-test.true c.loop-one.invariant) c.in_ok-value.ensures

pub each-returns : goal.each-returns
each-returns t c =
    goes_at_end (λ value numbered. value_text c.args.room c.args.nodes.now value numbered) c.args.values.now c.args.numbers.now c.args.out.now.items c.loop-one.one-index c.loop-one.numbers c.loop-one.out.items c.loop-one-test.false c.loop-one.invariant

pub full_frame-returns : goal.full_frame-returns
full_frame-returns t c =
    full_frame_adds c.args.out.now.items c.push.new.self.items c.count.new.out.items c.labels.new.out.items c.each.new.out.items _ c.args.nodes.now c.args.k c.args.tags.now c.args.values.now c.args.numbers.now c.give.new.self c.labels.new.numbers c.each.new.numbers c.each.result
    c.in_ok-give.ensures c.in_ok-push.ensures.items c.in_ok-count.ensures c.in_ok-labels.ensures c.each.ensures

pub classed_array-returns : goal.classed_array-returns
classed_array-returns t c =
    classed_array_adds c.args.out.now.items c.push.new.self.items c.count.new.out.items c.label.new.out.items c.each.new.out.items _ c.args.nodes.now c.args.k c.args.class c.args.values.now c.args.numbers.now c.give.new.self c.label.new.numbers c.each.new.numbers c.each.result
    c.in_ok-give.ensures c.in_ok-push.ensures.items c.in_ok-count.ensures c.in_ok-label.ensures c.each.ensures

pub plain_array-returns : goal.plain_array-returns
plain_array-returns t c =
    plain_array_adds c.args.out.now.items c.push.new.self.items c.count.new.out.items c.each.new.out.items _ c.args.k c.args.values.now c.args.numbers.now c.give.new.self c.each.new.numbers c.each.result
    c.in_ok-give.ensures c.in_ok-push.ensures.items c.in_ok-count.ensures c.each.ensures

pub node-returns-in-Array : goal.node-returns-in-Array
node-returns-in-Array t c =
    let here : slice_get c.args.nodes.now c.args.k ≡ Some (Array c.in-Array.class c.in-Array.values) = slice_get_read c.args.nodes.now (length c.args.nodes.now) c.args.k c.in-Some.node.now refl c.in-Some.ensures.lookup.3.0 c.in-Some.ensures.lookup.1 ∙ ap (λ (n : Node). Some n) c.in-Array.is in
    rw (here, ← c.list-in-Array.ensures) c.array.ensures

pub node-returns-in-Frame : goal.node-returns-in-Frame
node-returns-in-Frame t c =
    let here : slice_get c.args.nodes.now c.args.k ≡ Some (Frame c.in-Frame.tags c.in-Frame.values) = slice_get_read c.args.nodes.now (length c.args.nodes.now) c.args.k c.in-Some.node.now refl c.in-Some.ensures.lookup.3.0 c.in-Some.ensures.lookup.1 ∙ ap (λ (n : Node). Some n) c.in-Frame.is in
    rw (here, ← c.list-in-Frame.ensures, ← c.list-in-Frame-2.ensures) c.frame.ensures
