use Rattle.std.proofs.Common.{◌≡◌, map as map_list}
use Rattle.newt_store.specs.Fill.{AreNextIds}
use Rattle.newt_store.proofs.fill.with_next_ids.Given as goal

abbrev pub invariant-loop-bytes : goal.invariant-loop-bytes
invariant-loop-bytes l = record {
  bytes : map_list (λ x. x.bytes.items) l.new.items ≡ map_list (λ b. b.items) l.yielded;
  ids : AreNextIds l.from l.last (map_list (λ x. x.id) l.new.items);
}
