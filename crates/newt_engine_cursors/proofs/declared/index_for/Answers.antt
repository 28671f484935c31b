-- One unit after another.
use Rattle.std.proofs.Common.{sym}
use Rattle.newt_cursor.specs.Seen.{scope_of}
use Rattle.newt_spec_world.specs.Changed.{index_for}
use Rattle.newt_engine_units.specs.Stands.{world_of}
use Rattle.newt_engine_units.proofs.Known.{Laws}
use Rattle.newt_engine_cursors.proofs.Asked.{unit_index, unit-indexes, index-none, index-some}
use Rattle.newt_engine_cursors.proofs.declared.index_for.Goals as goal

pub loop-number-init : goal.loop-number-init
loop-number-init g c outside eight stands =
    let laws : Laws g.C.Card.reads g.C.Card.place g.C.Card.soups g.C.Card.stands = record { formed = g.met.C.Card.formed; plain = g.met.C.Card.plain; durable = g.met.C.Card.durable; banks = g.met.C.Card.banks; kept = g.met.C.Card.kept } in
    unit-indexes laws c.args.units.now outside eight stands (scope_of c.args.scope.now) c.args.name.now c.args.paths.now

pub returns-in-Some : goal.returns-in-Some
returns-in-Some g c outside eight stands =
    let w = world_of g.C.Card.reads c.args.units.now outside in
    index-some (unit_index (scope_of c.args.scope.now) c.args.name.now c.args.paths.now w) (index_for w (scope_of c.args.scope.now) c.args.name.now c.args.paths.now) c.loop-number.number
    (c.loop-number.invariant outside eight stands) c.in-Some.index.now c.loop-number-test.true (sym (c.in-Some.ensures outside eight stands))

pub loop-number-preserved : goal.loop-number-preserved
loop-number-preserved g c outside eight stands =
    let w = world_of g.C.Card.reads c.args.units.now outside in
    index-none (unit_index (scope_of c.args.scope.now) c.args.name.now c.args.paths.now w) (index_for w (scope_of c.args.scope.now) c.args.name.now c.args.paths.now) c.loop-number.number
    (c.loop-number.invariant outside eight stands) c.loop-number-test.true (sym (c.in_default.ensures outside eight stands))
