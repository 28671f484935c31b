use Rattle.std.proofs.Common.{◌∙◌, ap, map}
use Rattle.newt_index.specs.Pairs.{last}
use Rattle.newt_index.specs.Kept.{pair_of}
use Rattle.newt_index.proofs.Change.{sorted_seen}
use Rattle.newt_index.proofs.Walk.{lent_holds, last_taken}
use Rattle.newt_index.proofs.sorted.Index.last.Goals as goal

pub returns-clause-found : goal.returns-clause-found
returns-clause-found c = c.pair.ensures ∙ last_taken c.iter.result c.next_back.new.self c.next_back.result c.next_back.ensures.steps ∙ ap (λ es. last (map pair_of es)) (c.iter.ensures.rest ∙ c.keys.ensures) ∙ ap (λ v. last v.pairs) c.self.view_is

pub returns-clause-sorted : goal.returns-clause-sorted
returns-clause-sorted c = sorted_seen c.args.self.now c.self.inside.spec c.keys.result.now.entries (lent_holds c.args.self.now c.self.inside.spec c.self.inside.slots c.keys.result.now.entries c.keys.ensures c.self.view_is c.self.invariant) c.iter.ensures.ordered
