use Rattle.std.proofs.Common.{ℕ, List, [], ◌∷◌, ◌++◌, refl, append-nil, ap, sym, ◌∙◌, arith}
use Rattle.newt_memhost.proofs.Logs.{moment-push, total-push, calls-push}
use Rattle.newt_memhost.specs.Happened.{calls_in, total, moment_of}
use Rattle.newt_memhost.specs.declared.happened.Happened.{Happened}
use Rattle.newt_memhost.specs.declared.happened.Happened.TheVariants.{Attach}
use Rattle.newt_memhost.proofs.log.Log.attach.Goals as goal

pub invariant_of-self : goal.invariant_of-self
invariant_of-self c = record {
  counted = ap calls_in c.push.ensures.items ∙ calls-push c.args.self.now.entries.items _ ∙ omega (arith, c.args.self.now.counted);
  used = ap total c.push.ensures.items ∙ total-push c.args.self.now.entries.items _ ∙ omega (arith, c.args.self.now.used);
}

pub returns-clause-moment : goal.returns-clause-moment
returns-clause-moment c =
    let e = Attach c.args.unit c.args.first in
    ap (λ (l : List Happened). moment_of l c.args.self.now.store.items) c.push.ensures.items
    ∙ ap (λ (l : List ℕ). moment_of (c.args.self.now.entries.items ++ e ∷ []) l) (sym (append-nil c.args.self.now.store.items))
    ∙ moment-push [] c.args.self.now.entries.items c.args.self.now.store.items e [] c.args.self.now.used refl
