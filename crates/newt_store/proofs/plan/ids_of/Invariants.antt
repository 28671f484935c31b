use Rattle.std.proofs.Common.{◌≡◌, map as map_list, take}
use Rattle.newt_store.proofs.plan.ids_of.Given as goal

abbrev pub invariant-loop-large : goal.invariant-loop-large
invariant-loop-large l = l.ids.items ≡ map_list (λ x. x.id) (take l.large-index l.larges)
