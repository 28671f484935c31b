-- What is kept is of other entries.
use Rattle.std.proofs.Common.{rules, not}
use Rattle.arrayvec.proofs.ArrayVecLemmas.{filter-from_retain}
use Rattle.newt_cursor.specs.Table.{is_row}
use Rattle.newt_cursor.proofs.table.remove_row.Goals as goal

pub returns : goal.returns
returns c = filter-from_retain _ (λ row. not (is_row c.args.store c.args.soup c.args.uid row)) _ (λ x b f' y called. search rules) _ _ c.retain.ensures.filtered
