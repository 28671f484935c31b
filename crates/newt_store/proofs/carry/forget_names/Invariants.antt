use Rattle.std.proofs.Common.{◌≡◌, ℕ, [], take}
use Rattle.newt_spec_graph.specs.Lists.{Among}
use Rattle.newt_objects_commit.specs.Names.{names_of, IsReady}
use Rattle.newt_store.proofs.carry.forget_names.Given as goal

abbrev pub invariant-loop-id : goal.invariant-loop-id
invariant-loop-id l = record {
  gone : (r : ℕ) → Among (take l.id-index l.records) r → names_of l.names r ≡ [];
  others : (r : ℕ) → (Among (take l.id-index l.records) r → ⊥) → names_of l.names r ≡ names_of l.fn.names r;
  ready : (r : ℕ) → (Among (take l.id-index l.records) r → ⊥) → IsReady l.fn.names r → IsReady l.names r;
}
