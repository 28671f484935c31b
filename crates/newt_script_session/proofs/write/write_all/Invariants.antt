use Rattle.std.proofs.Common.{IsTrue, length}
use Rattle.newt_script_session.proofs.Counting.{Still}
use Rattle.newt_script_session.proofs.Writing.{Printing}
use Rattle.newt_script_session.proofs.write.write_all.Given as goal

abbrev pub invariant-loop-rest : goal.invariant-loop-rest
invariant-loop-rest g l =
    let host = g.H.Host in
    record {
      printing : IsTrue host.told → Printing l.bytes l.rest (host.outside l.fn.host).now (host.outside l.host).now;
      still : Still host.told (host.outside l.fn.host) (host.outside l.host);
    }

abbrev pub decreases-loop-rest : goal.decreases-loop-rest
decreases-loop-rest g l = length l.rest
