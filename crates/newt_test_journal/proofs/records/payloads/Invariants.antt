use Rattle.std.proofs.Common.{IsTrue, ◌≡◌, ◌-◌, ◌≤◌}
use Rattle.newt_host.specs.Moments.{image}
use Rattle.newt_host.specs.Outside.{Touches}
use Rattle.newt_journal.specs.Journal.{Stands}
use Rattle.newt_journal.specs.Places.{first_place, IsPlace}
use Rattle.newt_test_journal.proofs.records.payloads.Given as goal

abbrev pub invariant-loop-all : goal.invariant-loop-all
invariant-loop-all g l = record {
  low : first_place l.journal ≤ l.at;
  high : l.at ≤ l.journal.end;
  stands : Stands g.H.Host.told l.journal (g.H.Host.outside l.host);
  moment : (g.H.Host.outside l.host).now ≡ (g.H.Host.outside l.fn.host).now;
  alone : Touches l.journal.unit (g.H.Host.outside l.fn.host) (g.H.Host.outside l.host);
  place : IsTrue g.H.Host.told → IsPlace l.journal l.at (image l.journal.unit (g.H.Host.outside l.host).now);
}

abbrev pub decreases-loop-all : goal.decreases-loop-all
decreases-loop-all g l = l.journal.end - l.at
