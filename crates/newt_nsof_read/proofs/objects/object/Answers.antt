use Rattle.std.proofs.Common.{◌≡◌, ◌∙◌, ◌-◌, ℕ, Option, Some, length, ltb, arith, sym, subst, refl}
use Rattle.std.proofs.lemmas.Result.{err_from_is_err_and}
use Rattle.newt_graph.specs.declared.node.Ref.{Ref}
use Rattle.newt_nsof_read.specs.Reading.{Fails}
use Rattle.newt_nsof_read.specs.Stack.{resumed, whole, awaited, front_of}
use Rattle.newt_nsof_read.proofs.Fields.{IsBytes}
use Rattle.newt_nsof_read.proofs.Stacks.{AreOpen-stays}
use Rattle.newt_nsof_read.proofs.Fronts.{front_takes, goes_on, ends}
use Rattle.newt_nsof_read.proofs.objects.object.Goals as goal

pub loop-stack-init : goal.loop-stack-init
unfolding resumed
loop-stack-init c =
    let fits : IsBytes c.args.bytes.now = λ i. omega (arith, c.type_inv.bytes i) in
    rw c.new-stack.ensures.items (record { fits = fits; stack = tt; reading = refl })

pub returns-in_err-front : goal.returns-in_err-front
returns-in_err-front c =
    let p = err_from_is_err_and c.from_residual.result c.from_residual.ensures.1 in
    let depth : c.len.result ≡ length c.loop-stack.stack.items = c.len.ensures ∙ omega (arith, c.loop-stack.stack.ok) in
    let failed = subst (λ (n : ℕ). Fails c.in_err-front.field-0.0 (front_of c.args.wide (ltb n 200) c.loop-stack.seen c.loop-stack.rest.now)) depth c.in_err-front.ensures in
    rw (p.1, p.2) (ends c.in_err-front.field-0.0 c.args.wide c.loop-stack.stack.items c.loop-stack.seen c.loop-stack.rest.now _ failed c.loop-stack.invariant.reading)

pub enter-requires-clause-stack : goal.enter-requires-clause-stack
enter-requires-clause-stack c =
    let taken = front_takes c.args.wide _ c.loop-stack.seen c.loop-stack.rest.now (c.in_ok-front.front, c.front.new.seen, c.in_ok-front.after.now) c.loop-stack.invariant.fits c.in_ok-front.ensures in
    AreOpen-stays c.loop-stack.seen c.front.new.seen taken.stays c.loop-stack.stack.items c.loop-stack.invariant.stack

pub enter-requires-clause-front : goal.enter-requires-clause-front
enter-requires-clause-front c =
    (front_takes c.args.wide _ c.loop-stack.seen c.loop-stack.rest.now (c.in_ok-front.front, c.front.new.seen, c.in_ok-front.after.now) c.loop-stack.invariant.fits c.in_ok-front.ensures).opened

pub returns-in-Some : goal.returns-in-Some
returns-in-Some c =
    let depth : c.len.result ≡ length c.loop-stack.stack.items = c.len.ensures ∙ omega (arith, c.loop-stack.stack.ok) in
    let read = subst (λ (n : ℕ). front_of c.args.wide (ltb n 200) c.loop-stack.seen c.loop-stack.rest.now ≡ Some (c.in_ok-front.front, c.front.new.seen, c.in_ok-front.after.now)) depth c.in_ok-front.ensures in
    let entered = subst (λ (root : Option Ref). awaited c.args.wide root c.enter.new.stack.items c.enter.new.seen c.in_ok-front.after.now ≡ resumed c.args.wide 200 c.loop-stack.stack.items (whole c.args.wide (200 - length c.loop-stack.stack.items - 1) (c.in_ok-front.front, c.front.new.seen, c.in_ok-front.after.now)))
    c.in-Some.is (c.in_ok-root.ensures.reading c.args.wide c.in_ok-front.after.now) in
    sym (goes_on c.args.wide c.loop-stack.stack.items c.loop-stack.seen c.loop-stack.rest.now c.in_ok-front.front c.front.new.seen c.in_ok-front.after.now _ _ read c.loop-stack.invariant.reading entered)

pub loop-stack-smaller : goal.loop-stack-smaller
loop-stack-smaller c =
    (front_takes c.args.wide _ c.loop-stack.seen c.loop-stack.rest.now (c.in_ok-front.front, c.front.new.seen, c.in_ok-front.after.now) c.loop-stack.invariant.fits c.in_ok-front.ensures).shorter

pub loop-stack-preserved : goal.loop-stack-preserved
loop-stack-preserved c =
    let depth : c.len.result ≡ length c.loop-stack.stack.items = c.len.ensures ∙ omega (arith, c.loop-stack.stack.ok) in
    let read = subst (λ (n : ℕ). front_of c.args.wide (ltb n 200) c.loop-stack.seen c.loop-stack.rest.now ≡ Some (c.in_ok-front.front, c.front.new.seen, c.in_ok-front.after.now)) depth c.in_ok-front.ensures in
    let entered = subst (λ (root : Option Ref). awaited c.args.wide root c.enter.new.stack.items c.enter.new.seen c.in_ok-front.after.now ≡ resumed c.args.wide 200 c.loop-stack.stack.items (whole c.args.wide (200 - length c.loop-stack.stack.items - 1) (c.in_ok-front.front, c.front.new.seen, c.in_ok-front.after.now)))
    c.in-None.is (c.in_ok-root.ensures.reading c.args.wide c.in_ok-front.after.now) in
    record {
      fits = (front_takes c.args.wide _ c.loop-stack.seen c.loop-stack.rest.now (c.in_ok-front.front, c.front.new.seen, c.in_ok-front.after.now) c.loop-stack.invariant.fits c.in_ok-front.ensures).fits;
      stack = c.in_ok-root.ensures.stays;
      reading = goes_on c.args.wide c.loop-stack.stack.items c.loop-stack.seen c.loop-stack.rest.now c.in_ok-front.front c.front.new.seen c.in_ok-front.after.now _ _ read c.loop-stack.invariant.reading entered;
    }
