use Rattle.std.proofs.Common.{◌≡◌, ◌≤◌, length, take}
use Rattle.newt_host.specs.Moments.{output}
use Rattle.newt_memhost.specs.Happened.{moment_of, total}
use Rattle.newt_memhost.specs.Images.{IsUpTo}
use Rattle.newt_memhost.proofs.images.build.Given as goal

abbrev pub invariant-loop-entry : goal.invariant-loop-entry
invariant-loop-entry l = record {
  used_is : l.used ≡ total (take l.entry-index l.log);
  up_to : IsUpTo l.unit l.pick (moment_of (take l.entry-index l.log) l.store) l.whole.items l.torn.items;
  out_is : l.out ≡ length (output (moment_of (take l.entry-index l.log) l.store));
  out_low : l.out ≤ l.used;
}
