use Rattle.newt_objects.specs.Headers.{HasOnePageRows}
use Rattle.newt_objects.proofs.table.one_page_rows.Given as goal

abbrev pub invariant-loop-header : goal.invariant-loop-header
invariant-loop-header l = HasOnePageRows l.header-index l.headers l.rows
