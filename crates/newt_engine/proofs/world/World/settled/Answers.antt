-- The cursors that are reached are settled.
use Rattle.std.proofs.Common.{refl}
use Rattle.newt_engine.proofs.world.World.settled.Goals as goal

pub returns-in-Ok : goal.returns-in-Ok
returns-in-Ok g c =
    let e = c.settle_reached.ensures in record {
      read = e.settles.read;
      desk = e.settles.desk;
      settled = c.in-Ok.ensures.settles.settled;
      fetches = e.fetches;
      same = refl;
      ends = record { alone = e.settles.read.alone; cause = tt; failed = tt; no_fault = λ goes. c.in-Ok.ensures.settles.no_fault };
      own = λ t. tt;
      kept = tt;
      only = tt;
    }

pub returns-in-Err : goal.returns-in-Err
returns-in-Err g c =
    let e = c.settle_reached.ensures in record {
      read = e.settles.read;
      desk = e.settles.desk;
      settled = λ t apart. tt;
      fetches = e.fetches;
      same = tt;
      ends = record { alone = e.settles.read.alone; cause = c.in-Err.ensures.settles.cause; failed = c.in-Err.ensures.settles.failed; no_fault = λ goes. absurd goes };
      own = c.in-Err.ensures.own;
      kept = c.in-Err.ensures.settles.kept;
      only = tt;
    }
