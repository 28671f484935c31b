-- The hit and the query decide.
use Rattle.std.proofs.Common.{◌∙◌, ◌&&◌}
use Rattle.newt_cursor.specs.Seen.{query_of}
use Rattle.newt_index.specs.Spots.{spot_hit}
use Rattle.newt_engine_cursors.proofs.Reaches.{asks-nowhere, asks-standing}
use Rattle.newt_engine_cursors.proofs.settling.asks.Goals as goal

pub returns-in-Some : goal.returns-in-Some
returns-in-Some c =
    c.both.ensures ∙ (λ i. c.is_at.ensures i && c.needs_graph.ensures i)
    ∙ asks-standing c.args.store c.args.soup c.args.uid _ (query_of c.in-Some.query.now) (spot_hit c.in-Some.spot.now) c.in-Some.ensures

pub returns-in-None : goal.returns-in-None
returns-in-None c = asks-nowhere c.args.store c.args.soup c.args.uid _ c.in-None.ensures
