-- The entry is read where words or texts are asked for.
use Rattle.std.proofs.Common.{◌≡◌, ◌∙◌, sym, true, false, Bool}
use Rattle.newt_host.proofs.Outside.{NoFault-refl}
use Rattle.newt_engine_hits.proofs.Reading.{asked-reading, not-read}
use Rattle.newt_engine_hits.proofs.present.entry_if_asked.Goals as goal

both : {b : Bool} → b ≡ true → b ≡ false → ⊥
both e f = cc

pub returns-then-needs_graph-clause-reading : goal.returns-then-needs_graph-clause-reading
returns-then-needs_graph-clause-reading g c = asked-reading (sym c.if-needs_graph.ensures) c.read_entry.ensures.reading

pub returns-then-needs_graph-clause-none : goal.returns-then-needs_graph-clause-none
returns-then-needs_graph-clause-none g c none = absurd (both (sym c.if-needs_graph.ensures) none)

pub returns-else-needs_graph-clause-entry : goal.returns-else-needs_graph-clause-entry
returns-else-needs_graph-clause-entry g c t asks = absurd (both asks (sym c.if-needs_graph.ensures))
