use Rattle.std.proofs.Common.{◌≡◌, ℕ, ◌+◌, List, [], ◌∷◌, ◌++◌, length, refl, ap, ◌∙◌, arith, length-append}
use Rattle.newt_memhost.proofs.Logs.{moment-push, total-push, calls-push, calls-le}
use Rattle.newt_memhost.specs.Happened.{calls_in, total, counts, moment_of}
use Rattle.newt_memhost.specs.declared.happened.Happened.{Happened}
use Rattle.newt_memhost.proofs.log.Log.add.Goals as goal

pub overflow_add-self : goal.overflow_add-self
overflow_add-self c =
    let le = calls-le c.push.new.entries.items in
    let more : calls_in c.push.new.entries.items ≡ calls_in c.args.self.now.entries.items + counts c.args.entry = ap calls_in c.push.ensures.items ∙ calls-push c.args.self.now.entries.items c.args.entry in
    let long = c.push.new.entries.ok in
    let small = c.push.new.entries.small in
    omega (arith, le, more, long.0, long.1, small, c.args.self.now.counted, c.requires.call)

pub invariant_of-self : goal.invariant_of-self
invariant_of-self c = record {
  counted = ap calls_in c.push.ensures.items ∙ calls-push c.args.self.now.entries.items c.args.entry ∙ omega (arith, c.args.self.now.counted, c.requires.call);
  used = ap total c.push.ensures.items ∙ total-push c.args.self.now.entries.items c.args.entry
      ∙ omega (arith, c.args.self.now.used, c.requires.its, ap length c.extend.ensures.items, length-append c.args.self.now.store.items c.args.bytes.now);
}

pub returns : goal.returns
returns c = record {
  entries = c.push.ensures.items;
  store = c.extend.ensures.items;
  calls = refl;
  moment = ap (λ (l : List Happened). moment_of l c.extend.new.store.items) c.push.ensures.items
      ∙ ap (λ (l : List ℕ). moment_of (c.args.self.now.entries.items ++ c.args.entry ∷ []) l) c.extend.ensures.items
      ∙ moment-push [] c.args.self.now.entries.items c.args.self.now.store.items c.args.entry c.args.bytes.now c.args.self.now.used c.requires.its;
  more = record { entries = c.push.ensures.more; store = c.extend.ensures.more };
}
