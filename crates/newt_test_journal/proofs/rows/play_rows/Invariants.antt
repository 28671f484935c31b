use Rattle.std.proofs.Common.{◌≡◌, true}
use Rattle.newt_memhost.specs.Outside.{outside_of}
use Rattle.newt_journal.specs.Journal.{Stands}
use Rattle.newt_test_journal.proofs.rows.play_rows.Given as goal

abbrev pub invariant-loop-row : goal.invariant-loop-row
invariant-loop-row g l = record {
  stands : Stands true l.journal (outside_of l.host);
  unit : l.journal.unit ≡ 0;
}
