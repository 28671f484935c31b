use Rattle.std.proofs.Common.{◌≡◌, ◌++◌, take, drop}
use Rattle.newt_memhost.specs.Past.{before, call_at}
use Rattle.newt_memhost.proofs.past.place_of.Given as goal

abbrev pub invariant-loop-place : goal.invariant-loop-place
invariant-loop-place l = record {
  so_far : take l.place l.log ++ before l.left (drop l.place l.log) ≡ before l.call l.log;
  rest : call_at l.left (drop l.place l.log) ≡ call_at l.call l.log;
}
