-- The ranges of a store whose entries are told one after another. This project's own.
use Rattle.std.specs.Prelude.{IsTrue, List}
use Rattle.newt_spec_store.specs.Store.{Store}
use Rattle.newt_spec_store.specs.Valid.{well_formed}
use Rattle.newt_index_ranges.specs.Stands.{AreRanges}
use Rattle.newt_index_ranges.specs.declared.rows.SoupRanges.{SoupRanges}
use Rattle.newt_store_catalog.specs.Gathering.{Graphs}

-- the ranges are those of the soups of a store that is well formed, where the entries have these graphs
abbrev pub Lists : Store → Graphs → List SoupRanges → Type 0
Lists d told rows = IsTrue (well_formed d) → AreRanges (λ p. told p.sig) d.soups rows
