use Rattle.std.proofs.Common.{ℕ, List, ◌∙◌, ap}
use Rattle.newt_objects_commit.specs.Names.{names_of}
use Rattle.newt_store.specs.Next.{all_gone}
use Rattle.newt_store.proofs.carry.gather.Goals as goal

pub returns-clause-gone : goal.returns-clause-gone
returns-clause-gone c = c.in_ok-gone.ensures ∙ ap (λ (records : List ℕ). all_gone (names_of c.args.names.now) records c.args.next.now.entry) c.deref.ensures.value
