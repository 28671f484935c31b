-- No unit before has one.
use Rattle.std.proofs.Common.{◌≡◌, true, drop}
use Rattle.std.specs.Prelude.{filter_map}
use Rattle.newt_host.specs.Outside.{Outside}
use Rattle.newt_cursor.specs.Seen.{scope_of}
use Rattle.newt_spec_world.specs.Changed.{first_of_list, index_for}
use Rattle.newt_spec_world.specs.First.{unit_numbers}
use Rattle.newt_engine_units.specs.Stands.{Eight, Stands, world_of}
use Rattle.newt_engine_cursors.proofs.Asked.{unit_index}
use Rattle.newt_engine_cursors.proofs.declared.index_for.Given as goal

abbrev pub invariant-loop-number : goal.invariant-loop-number
invariant-loop-number g l = (outside : Outside) → Eight outside → Stands g.C.Card.place g.C.Card.stands true l.units outside →
    let w = world_of g.C.Card.reads l.units outside in
    first_of_list (filter_map (unit_index (scope_of l.scope) l.name l.paths w) (drop l.number unit_numbers)) ≡ index_for w (scope_of l.scope) l.name l.paths
