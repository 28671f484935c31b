use Rattle.std.proofs.Common.{rules, ◌≤◌, ◌+◌, ◌^◌, ◌<◌, length, take, drop, arith, sym, ◌∙◌, ap}
use Rattle.newt_host.specs.Moments.{Moment, image}
use Rattle.newt_spec_check.specs.Damage.{leaves_bank}
use Rattle.newt_check.proofs.Gates.{shut, cut_short, too_long, one_more, past}
use Rattle.newt_check.proofs.bank.long_record.Goals as goal

pub returns-then-branch-ne0-clause-row : goal.returns-then-branch-ne0-clause-row
returns-then-branch-ne0-clause-row g c t =
    let i = c.loop-at.invariant in
    let inside : c.args.limit ≤ length (image c.args.unit (g.H.Host.outside c.args.host.now).now) = omega (arith, g.met.H.Host.sized c.args.host.now c.args.unit t, c.requires.inside) in
    let more : c.loop-at.at < c.args.limit = omega arith in
    let byte = ap (λ (m : Moment). take 1 (drop c.loop-at.at (image c.args.unit m))) (sym i.moment) ∙ c.in_ok-read_byte.ensures.byte t in
    sym (i.row t ∙ shut (image c.args.unit (g.H.Host.outside c.args.host.now).now) c.loop-at.at c.args.limit _ inside more byte leaves_bank c.if-branch-ne0.true)

pub returns-then-limit-at-lt5-clause-row : goal.returns-then-limit-at-lt5-clause-row
returns-then-limit-at-lt5-clause-row g c t =
    let i = c.loop-at.invariant in
    let inside : c.args.limit ≤ length (image c.args.unit (g.H.Host.outside c.args.host.now).now) = omega (arith, g.met.H.Host.sized c.args.host.now c.args.unit t, c.requires.inside) in
    let more : c.loop-at.at < c.args.limit = omega arith in
    let byte = ap (λ (m : Moment). take 1 (drop c.loop-at.at (image c.args.unit m))) (sym i.moment) ∙ c.in_ok-read_byte.ensures.byte t in
    sym (i.row t ∙ cut_short (image c.args.unit (g.H.Host.outside c.args.host.now).now) c.loop-at.at c.args.limit _ inside more byte (omega arith) (omega arith))

pub returns-then-length-limit-clause-row : goal.returns-then-length-limit-clause-row
returns-then-length-limit-clause-row g c t =
    let i = c.loop-at.invariant in
    let inside : c.args.limit ≤ length (image c.args.unit (g.H.Host.outside c.args.host.now).now) = omega (arith, g.met.H.Host.sized c.args.host.now c.args.unit t, c.requires.inside) in
    let more : c.loop-at.at < c.args.limit = omega arith in
    let byte = ap (λ (m : Moment). take 1 (drop c.loop-at.at (image c.args.unit m))) (sym i.moment) ∙ c.in_ok-read_byte.ensures.byte t in
    let number = c.in_ok-length.ensures.number t ∙ ap (λ (m : Moment). take 4 (drop (c.loop-at.at + 1) (image c.args.unit m))) (c.read_byte.ensures.reads.moment ∙ i.moment) in
    let n_small : c.in_ok-length.length < 2 ^ 32 = search rules in
    sym (i.row t ∙ too_long (image c.args.unit (g.H.Host.outside c.args.host.now).now) c.loop-at.at c.args.limit _ inside more byte (omega arith) c.in_ok-length.length (omega arith) number n_small (omega arith))

pub loop-at-preserved : goal.loop-at-preserved
loop-at-preserved g c = record {
  low = omega arith;
  high = omega arith;
  moment = search rules;
  alone = search rules;
  costs = search rules;
  wears = search rules;
  no_fault = search rules;
  row = λ t.
      let i = c.loop-at.invariant in
      let inside : c.args.limit ≤ length (image c.args.unit (g.H.Host.outside c.args.host.now).now) = omega (arith, g.met.H.Host.sized c.args.host.now c.args.unit t, c.requires.inside) in
      let more : c.loop-at.at < c.args.limit = omega arith in
      let byte = ap (λ (m : Moment). take 1 (drop c.loop-at.at (image c.args.unit m))) (sym i.moment) ∙ c.in_ok-read_byte.ensures.byte t in
      let number = c.in_ok-length.ensures.number t ∙ ap (λ (m : Moment). take 4 (drop (c.loop-at.at + 1) (image c.args.unit m))) (c.read_byte.ensures.reads.moment ∙ i.moment) in
      let n_small : c.in_ok-length.length < 2 ^ 32 = search rules in
      i.row t ∙ one_more (image c.args.unit (g.H.Host.outside c.args.host.now).now) c.loop-at.at c.args.limit _ inside more byte (omega arith) c.in_ok-length.length (omega arith) number n_small (omega arith);
}

pub returns-clause-row : goal.returns-clause-row
returns-clause-row g c t = sym (c.loop-at.invariant.row t ∙ past leaves_bank (image c.args.unit (g.H.Host.outside c.args.host.now).now) c.loop-at.at c.args.limit (omega arith))
