use Rattle.std.proofs.Common.{◌≡◌, ℕ, ◌≤◌, ◌==◌, cond, nat_eq, length, take, None}
use Rattle.std.specs.List.{list_any}
use Rattle.std.specs.Map.{lookup}
use Rattle.std.specs.HashMap as hash
use Rattle.newt_pages.proofs.table.remove_puts.Given as goal

abbrev pub invariant-loop-put : goal.invariant-loop-put
invariant-loop-put l = record {
  spare : hash.spare l.fn.places ≤ hash.spare l.places;
  len : length l.places.entries ≤ length l.fn.places.entries;
  unique : hash.IsUnique nat_eq l.places;
  updates : (q : ℕ) → lookup (nat_eq q) l.places.entries ≡ cond (list_any (λ put. q == put.0) (take l.put-index l.puts)) None (lookup (nat_eq q) l.fn.places.entries);
}
