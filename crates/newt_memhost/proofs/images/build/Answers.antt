use Rattle.std.proofs.Common.{◌≡◌, List, length, take, refl, ◌∙◌, ap, arith}
use Rattle.std.proofs.lemmas.List.{take_all}
use Rattle.newt_host.specs.Moments.{changes, output}
use Rattle.newt_memhost.specs.Happened.{moment_of}
use Rattle.newt_memhost.specs.Past.{picked}
use Rattle.newt_memhost.specs.declared.happened.Happened.{Happened}
use Rattle.newt_memhost.proofs.Keeping.{no-value, same-le}
use Rattle.newt_memhost.proofs.Torn.{used-more, used-fits, next-up_to, next-out, whole-fits, torn-fits, sizes-same, printed-le}
use Rattle.newt_memhost.proofs.images.build.Goals as goal

pub overflow_add-end : goal.overflow_add-end
overflow_add-end c =
    let fits = used-fits c.args.log.now c.args.store.now c.loop-entry.entry-index c.entry-item.result c.loop-entry-test.true c.entry-item.is c.requires.stored in
    omega (arith, fits, c.loop-entry.invariant.used_is, c.bytes.ensures)

pub slice_bounds-go_on-end : goal.slice_bounds-go_on-end
slice_bounds-go_on-end c =
    let fits = used-fits c.args.log.now c.args.store.now c.loop-entry.entry-index c.entry-item.result c.loop-entry-test.true c.entry-item.is c.requires.stored in
    omega (arith, fits, c.loop-entry.invariant.used_is, c.bytes.ensures)

pub go_on-requires-clause-whole : goal.go_on-requires-clause-whole
go_on-requires-clause-whole c = whole-fits c.args.log.now c.args.store.now c.loop-entry.entry-index c.entry-item.result c.loop-entry-test.true c.entry-item.is c.requires.stored c.args.unit c.loop-entry.used c.bytes.result c.args.pick c.loop-entry.whole.items c.loop-entry.torn.items c.loop-entry.invariant.used_is c.bytes.ensures c.loop-entry.invariant.up_to c.requires.past.0 c.requires.past.1

pub go_on-requires-clause-torn : goal.go_on-requires-clause-torn
go_on-requires-clause-torn c = torn-fits c.args.log.now c.args.store.now c.loop-entry.entry-index c.entry-item.result c.loop-entry-test.true c.entry-item.is c.requires.stored c.args.unit c.loop-entry.used c.bytes.result c.args.pick c.loop-entry.whole.items c.loop-entry.torn.items c.loop-entry.invariant.used_is c.bytes.ensures c.loop-entry.invariant.up_to c.requires.past.0 c.requires.past.1

pub go_on-requires-clause-sizes : goal.go_on-requires-clause-sizes
go_on-requires-clause-sizes c = sizes-same c.args.log.now c.args.store.now c.loop-entry.entry-index c.entry-item.result c.loop-entry-test.true c.entry-item.is c.requires.stored c.args.unit c.loop-entry.used c.bytes.result c.args.pick c.loop-entry.whole.items c.loop-entry.torn.items c.loop-entry.invariant.used_is c.bytes.ensures c.loop-entry.invariant.up_to c.requires.past.0 c.requires.past.1

pub loop-entry-preserved : goal.loop-entry-preserved
loop-entry-preserved c =
    let more = used-more c.args.log.now c.args.store.now c.loop-entry.entry-index c.entry-item.result c.loop-entry-test.true c.entry-item.is c.requires.stored in
    let out = next-out c.args.log.now c.args.store.now c.loop-entry.entry-index c.entry-item.result c.loop-entry-test.true c.entry-item.is c.requires.stored c.args.unit c.loop-entry.used c.bytes.result c.args.pick c.loop-entry.whole.items c.loop-entry.torn.items c.loop-entry.invariant.used_is c.bytes.ensures c.loop-entry.invariant.up_to in
    let low = printed-le c.entry-item.result in
    record {
      used_is = omega (arith, more, c.loop-entry.invariant.used_is, c.bytes.ensures);
      up_to = next-up_to c.args.log.now c.args.store.now c.loop-entry.entry-index c.entry-item.result c.loop-entry-test.true c.entry-item.is c.requires.stored c.args.unit c.loop-entry.used c.bytes.result c.args.pick c.loop-entry.whole.items c.loop-entry.torn.items c.loop-entry.invariant.used_is c.bytes.ensures c.loop-entry.invariant.up_to _ _ c.in_ok-go_on.ensures.whole c.in_ok-go_on.ensures.torn;
      out_is = omega (arith, out, c.loop-entry.invariant.out_is, c.printed.ensures);
      out_low = omega (arith, low, c.loop-entry.invariant.out_low, c.printed.ensures, c.bytes.ensures);
    }

pub loop-entry-init : goal.loop-entry-init
loop-entry-init c = record { used_is = refl; up_to = record { whole_is = c.new-whole.ensures.items; torn_is = c.new-torn.ensures.items }; out_is = refl; out_low = same-le 0 }

pub returns-in_err-go_on : goal.returns-in_err-go_on
returns-in_err-go_on c = record { image = no-value c.from_residual.result _ c.from_residual.ensures.0; out = no-value c.from_residual.result _ c.from_residual.ensures.0 }

pub returns : goal.returns
returns c =
    let log = c.args.log.now in
    let all : take c.loop-entry.entry-index log ≡ log = take_all c.loop-entry.entry-index log c.loop-entry-test.false in
    record {
      image = c.loop-entry.invariant.up_to.torn_is ∙ ap (λ (l : List Happened). picked c.args.pick (changes c.args.unit (moment_of l c.args.store.now))) all;
      out = c.loop-entry.invariant.out_is ∙ ap (λ (l : List Happened). length (output (moment_of l c.args.store.now))) all;
    }
