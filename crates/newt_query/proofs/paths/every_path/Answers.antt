-- The paths so far, and those that are left.
use Rattle.std.proofs.Common.{Some, ap, sym, ◌∙◌}
use Rattle.newt_spec_query.specs.Spec.{path_of}
use Rattle.newt_query.proofs.Turns.{every-more, every-none, every-end}
use Rattle.newt_query.proofs.paths.every_path.Goals as goal

pub loop-value-preserved : goal.loop-value-preserved
loop-value-preserved c =
    every-more (path_of c.args.graph.now.nodes) c.args.values.now c.loop-value.items.items _ c.loop-value.value-index _ c.in-Some.path c.push.new.self.items
    c.loop-value.invariant c.loop-value-test.true (sym c.in-Some.is ∙ c.in_ok-path.ensures) c.in_ok-push.ensures.items

pub returns-in_default : goal.returns-in_default
returns-in_default c =
    every-none (path_of c.args.graph.now.nodes) c.args.values.now c.loop-value.items.items _ c.loop-value.value-index _
    c.loop-value.invariant c.loop-value-test.true (sym c.in_default.is ∙ c.in_ok-path.ensures)

pub returns : goal.returns
returns c =
    ap Some c.of.ensures ∙ every-end (path_of c.args.graph.now.nodes) c.args.values.now c.loop-value.items.items _ c.loop-value.value-index c.loop-value.invariant c.loop-value-test.false
