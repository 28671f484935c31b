use Rattle.std.proofs.Common.{◌≡◌, ◌≤◌, length, take}
use Rattle.newt_journal.proofs.Blank.{all_blank}
use Rattle.newt_journal.proofs.scan.are_blank.Given as goal

abbrev pub invariant-loop-byte : goal.invariant-loop-byte
invariant-loop-byte l = record {
  inside : l.byte-index ≤ length l.bytes;
  blank : l.blank ≡ all_blank (take l.byte-index l.bytes);
}
