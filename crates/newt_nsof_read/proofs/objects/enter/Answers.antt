use Rattle.std.proofs.Common.{◌∙◌, sym, subst}
use Rattle.std.proofs.lemmas.Bool.{ltb-true, ltb-false}
use Rattle.newt_nsof_read.specs.Stack.{IsOpen, FrontIsOpen}
use Rattle.newt_nsof_read.proofs.Stacks.{AreOpen-push, stays_filled, entered_waits, entered_closes, if_ok}
use Rattle.newt_nsof_read.proofs.objects.enter.Goals as goal

pub returns-then-lacks_values-clause-stays : goal.returns-then-lacks_values-clause-stays
returns-then-lacks_values-clause-stays c =
    let is_open : IsOpen c.args.seen.now c.in-Open.container = subst (FrontIsOpen c.args.seen.now) c.in-Open.is c.requires.front in
    rw c.in_ok-push-in-Open.ensures.items (AreOpen-push c.args.seen.now c.args.stack.now.items c.in-Open.container c.requires.stack is_open)

pub returns-then-lacks_values-clause-reading : goal.returns-then-lacks_values-clause-reading
returns-then-lacks_values-clause-reading c = entered_waits _ _ _ _ _ c.in-Open.is c.in_ok-push-in-Open.ensures.items (ltb-true _ _ (sym c.lacks_values.ensures ∙ c.if-lacks_values.true))

pub settle-requires-in-Open : goal.settle-requires-in-Open
settle-requires-in-Open c = stays_filled _ _ _ _ _ _ c.close-value.ensures.node c.requires.stack

pub returns-else-lacks_values-clause-reading : goal.returns-else-lacks_values-clause-reading
returns-else-lacks_values-clause-reading c =
    let same = entered_closes c.args.seen.now c.close-value.new.seen c.args.stack.now.items c.in-Open.container c.args.front c.close-value.result c.in-Open.is
    (ltb-false _ _ (sym c.lacks_values.ensures ∙ c.if-lacks_values.false)) c.close-value.ensures.value c.close-value.ensures.node in
    if_ok c.settle-in-Open.result _ _ (λ root reading wide rest. reading wide rest ∙ same wide rest) c.settle-in-Open.ensures.reading
