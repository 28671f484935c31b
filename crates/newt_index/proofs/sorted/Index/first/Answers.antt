use Rattle.std.proofs.Common.{◌∙◌, ap, map}
use Rattle.newt_index.specs.Pairs.{first}
use Rattle.newt_index.specs.Kept.{pair_of}
use Rattle.newt_index.proofs.Change.{sorted_seen}
use Rattle.newt_index.proofs.Walk.{lent_holds, first_taken}
use Rattle.newt_index.proofs.sorted.Index.first.Goals as goal

pub returns-clause-found : goal.returns-clause-found
returns-clause-found c = c.pair.ensures ∙ first_taken c.iter.result c.next.new.self c.next.result c.next.ensures.steps ∙ ap (λ es. first (map pair_of es)) (c.iter.ensures.rest ∙ c.keys.ensures) ∙ ap (λ v. first v.pairs) c.self.view_is

pub returns-clause-sorted : goal.returns-clause-sorted
returns-clause-sorted c = sorted_seen c.args.self.now c.self.inside.spec c.keys.result.now.entries (lent_holds c.args.self.now c.self.inside.spec c.self.inside.slots c.keys.result.now.entries c.keys.ensures c.self.view_is c.self.invariant) c.iter.ensures.ordered
