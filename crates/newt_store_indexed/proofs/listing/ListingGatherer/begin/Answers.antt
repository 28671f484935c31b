use Rattle.std.proofs.Common.{List, map, ◌∙◌, ap}
use Rattle.newt_soupdir.specs.declared.rows.SoupRow.{SoupRow}
use Rattle.newt_index_ranges.specs.Rows.{no_ranges}
use Rattle.newt_store_indexed.proofs.Listed.{listed-none}
use Rattle.newt_store_indexed.proofs.listing.ListingGatherer.begin.Goals as goal

pub returns : goal.returns
returns c = listed-none c.args.directory.now c.in_ok-ranges.ranges (c.in_ok-ranges.ensures ∙ ap (λ (rows : List SoupRow). map (λ row. no_ranges row.sig row.specs row.tags) rows) c.list.ensures)
