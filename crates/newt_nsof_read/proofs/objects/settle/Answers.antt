use Rattle.std.proofs.Common.{◌≡◌, ◌∙◌, length, sym, arith}
use Rattle.std.proofs.lemmas.Bool.{ltb-true, ltb-false}
use Rattle.std.proofs.lemmas.List.{nil_from_length}
use Rattle.newt_nsof_read.specs.Stack.{resumed}
use Rattle.newt_nsof_read.proofs.Stacks.{Taken, AreOpen-push, taken_open, taken_waits, taken_closes, stays_filled}
use Rattle.newt_nsof_read.proofs.objects.settle.Goals as goal

pub returns-then-lacks_values-clause-stays : goal.returns-then-lacks_values-clause-stays
returns-then-lacks_values-clause-stays c =
    let met = c.loop-container.seen in
    let taken : Taken c.loop-container.stack.items c.pop.new.self.items c.in-Some.container c.push.new.self c.loop-container.value = record { popped = c.in-Some.ensures.items; pushed = c.in_ok-push.ensures } in
    let was = taken_open met _ _ _ _ _ taken c.loop-container.invariant.stack in
    rw c.in_ok-push-2.ensures.items (AreOpen-push met c.pop.new.self.items c.push.new.self was.0 was.1)

pub returns-then-lacks_values-clause-reading : goal.returns-then-lacks_values-clause-reading
returns-then-lacks_values-clause-reading c = λ wide rest.
    let taken : Taken c.loop-container.stack.items c.pop.new.self.items c.in-Some.container c.push.new.self c.loop-container.value = record { popped = c.in-Some.ensures.items; pushed = c.in_ok-push.ensures } in
    taken_waits c.loop-container.seen _ _ _ _ _ _ taken c.in_ok-push-2.ensures.items (ltb-true _ _ (sym c.lacks_values.ensures ∙ c.if-lacks_values.true)) wide rest ∙ c.loop-container.invariant.reading wide rest

pub close-value-requires : goal.close-value-requires
close-value-requires c =
    let taken : Taken c.loop-container.stack.items c.pop.new.self.items c.in-Some.container c.push.new.self c.loop-container.value = record { popped = c.in-Some.ensures.items; pushed = c.in_ok-push.ensures } in
    (taken_open c.loop-container.seen _ _ _ _ _ taken c.loop-container.invariant.stack).1

pub loop-container-preserved : goal.loop-container-preserved
loop-container-preserved c =
    let taken : Taken c.loop-container.stack.items c.pop.new.self.items c.in-Some.container c.push.new.self c.loop-container.value = record { popped = c.in-Some.ensures.items; pushed = c.in_ok-push.ensures } in
    let was = taken_open c.loop-container.seen _ _ _ _ _ taken c.loop-container.invariant.stack in
    record {
      stack = stays_filled _ _ _ _ _ _ c.close-value.ensures.node was.0;
      reading = λ wide rest. taken_closes _ _ _ _ _ _ _ _ taken (ltb-false _ _ (sym c.lacks_values.ensures ∙ c.if-lacks_values.false)) c.close-value.ensures.value c.close-value.ensures.node wide rest ∙ c.loop-container.invariant.reading wide rest;
    }

pub returns-clause-reading : goal.returns-clause-reading
unfolding resumed
returns-clause-reading c = λ wide rest.
    let none : length c.loop-container.stack.items ≡ 0 = omega (arith, c.loop-container.stack.ok, c.in_default.ensures.cases.0) in
    let reading = c.loop-container.invariant.reading wide rest in
    rw (nil_from_length c.loop-container.stack.items none) at reading
