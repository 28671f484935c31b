use Rattle.std.proofs.Common.{◌≡◌, List, [], length, take, ◌∙◌, ap, arith}
use Rattle.newt_host.specs.Moments.{taken}
use Rattle.newt_memhost.specs.Happened.{moment_of, total}
use Rattle.newt_memhost.specs.Past.{before}
use Rattle.newt_memhost.specs.declared.happened.Happened.{Happened}
use Rattle.newt_memhost.proofs.Torn.{taken-total, taken-fits, total-take}
use Rattle.newt_memhost.proofs.within.taken_before.Goals as goal

pub taken_in-requires : goal.taken_in-requires
taken_in-requires c =
    let entries = c.as_slice-entries.result.now in
    let store = c.args.log.now.store in
    let low = taken-fits (take c.place_of.result entries) in
    let part = total-take entries c.place_of.result in
    let same : total entries ≡ length store.items = ap total c.as_slice-entries.ensures.value ∙ c.args.log.now.used in
    omega (arith, low, part, same, store.ok.0, store.ok.1, store.small)

pub returns : goal.returns
returns c =
    let entries = c.as_slice-entries.result.now in
    let store = c.args.log.now.store.items in
    let part = total-take entries c.place_of.result in
    let same : total entries ≡ length store = ap total c.as_slice-entries.ensures.value ∙ c.args.log.now.used in
    let front : take c.place_of.result entries ≡ before c.args.call c.args.log.now.entries.items = c.place_of.ensures.before ∙ ap (λ (l : List Happened). before c.args.call l) c.as_slice-entries.ensures.value in
    let out = taken-total [] (take c.place_of.result entries) store (omega (arith, part, same)) in
    c.taken_in.ensures ∙ omega (arith, out) ∙ ap (λ (l : List Happened). length (taken (moment_of l store))) front
