-- The members of the units so far, which are at most as many as cards stand there.
use Rattle.std.proofs.Common.{◌≡◌, ◌+◌, ◌≤◌, true, ◌++◌, drop, length}
use Rattle.std.specs.Prelude.{filter_map}
use Rattle.newt_host.specs.Outside.{Outside}
use Rattle.newt_cursor.specs.Seen.{query_of}
use Rattle.newt_spec_world.specs.First.{unit_numbers}
use Rattle.newt_engine_units.specs.Stands.{Eight, Stands, card_count, world_of}
use Rattle.newt_engine_hits.specs.Searched.{AreMembers}
use Rattle.newt_engine_hits.proofs.Searching.{unit_member}
use Rattle.newt_engine_hits.proofs.search.members.Given as goal

abbrev pub invariant-loop-number : goal.invariant-loop-number
invariant-loop-number g l = record {
  few : length l.members + card_count (drop l.number l.units.slots.items) ≤ 4;
  are : AreMembers l.query.spec.index l.members;
  all : (outside : Outside) → Eight outside → Stands g.C.Card.place g.C.Card.stands true l.units outside
      → l.members ++ filter_map (unit_member (query_of l.query) (world_of g.C.Card.reads l.units outside)) (drop l.number unit_numbers)
      ≡ filter_map (unit_member (query_of l.query) (world_of g.C.Card.reads l.units outside)) unit_numbers;
}
