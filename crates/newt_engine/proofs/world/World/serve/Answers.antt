-- By a cursor, or by the units.
use Rattle.newt_engine.proofs.world.World.serve.Goals as goal

pub returns-then-is_on_cursor : goal.returns-then-is_on_cursor
returns-then-is_on_cursor g c = c.obey_on_cursor-served.ensures

pub returns-else-is_on_cursor : goal.returns-else-is_on_cursor
returns-else-is_on_cursor g c = c.obey_with_cursors.ensures
