-- The entry decides where words or texts are asked for, and else what is known of it in memory.
use Rattle.std.proofs.Common.{sym}
use Rattle.newt_engine_hits.proofs.present.key_on.Goals as goal

pub returns-then-needs_graph-clause-found : goal.returns-then-needs_graph-clause-found
returns-then-needs_graph-clause-found g c outside eight stands blocks s on carried read =
    c.key_read.ensures.found outside eight stands blocks c.args.uid s on (read (sym c.if-needs_graph.ensures))

pub returns-else-needs_graph-clause-found : goal.returns-else-needs_graph-clause-found
returns-else-needs_graph-clause-found g c outside eight stands blocks s on carried read =
    c.key_unread.ensures.found outside eight stands blocks s on carried
