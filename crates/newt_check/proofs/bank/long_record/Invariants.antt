use Rattle.std.proofs.Common.{IsTrue, ◌≡◌, ◌≤◌, ◌-◌}
use Rattle.newt_host.specs.Moments.{image}
use Rattle.newt_host.specs.Outside.{Touches, Spends, Wears}
use Rattle.newt_spec_check.specs.Damage.{leaves_bank}
use Rattle.newt_check.specs.Gates.{first_from}
use Rattle.newt_check.proofs.bank.long_record.Given as goal

abbrev pub invariant-loop-at : goal.invariant-loop-at
invariant-loop-at g l =
    let outside = g.H.Host.outside in
    record {
      low : l.first ≤ l.at;
      high : l.at ≤ l.limit;
      moment : (outside l.host).now ≡ (outside l.fn.host).now;
      alone : Touches l.unit (outside l.fn.host) (outside l.host);
      costs : Spends l.unit 0 (l.at - l.first) (outside l.fn.host) (outside l.host);
      wears : Wears l.unit 0 0 (outside l.fn.host) (outside l.host);
      no_fault : (outside l.host).dev_faults l.unit ≡ (outside l.fn.host).dev_faults l.unit;
      row : IsTrue g.H.Host.told → first_from leaves_bank l.first l.limit (image l.unit (outside l.fn.host).now) ≡ first_from leaves_bank l.at l.limit (image l.unit (outside l.fn.host).now);
    }

abbrev pub decreases-loop-at : goal.decreases-loop-at
decreases-loop-at g l = l.limit - l.at
