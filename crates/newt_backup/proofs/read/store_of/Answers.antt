use Rattle.std.proofs.Common.{rules, ◌≡◌, sym, ◌∙◌, ap, [], map, Vec, ℕ, Global}
use Rattle.newt_backup.specs.Texts.{texts_from, contents_read}
use Rattle.newt_backup.proofs.Back.{nothing-read, too-long}
use Rattle.newt_backup.proofs.read.store_of.Goals as goal

pub returns-clause-bad : goal.returns-clause-bad
returns-clause-bad c = λ is.
    let same : map (λ (t : Vec ℕ Global). t.items) c.deref-2.result.now ≡ texts_from [] c.args.graph.now.nodes = search rules in
    nothing-read c.args.graph.now (ap (λ ts. contents_read ts) (sym same) ∙ c.contents.ensures.bad is)

pub returns-then-not-are_short-clause-bad : goal.returns-then-not-are_short-clause-bad
returns-then-not-are_short-clause-bad c = λ is.
    let same : map (λ (t : Vec ℕ Global). t.items) c.deref.result.now ≡ texts_from [] c.args.graph.now.nodes = search rules in
    too-long c.args.graph.now c.deref.result.now same (search rules)
