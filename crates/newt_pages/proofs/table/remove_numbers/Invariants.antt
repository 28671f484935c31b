use Rattle.std.proofs.Common.{◌≡◌, ℕ, ◌≤◌, ◌==◌, cond, nat_eq, length, take, None}
use Rattle.std.specs.List.{list_any}
use Rattle.std.specs.Map.{lookup}
use Rattle.std.specs.HashMap as hash
use Rattle.newt_pages.proofs.table.remove_numbers.Given as goal

abbrev pub invariant-loop-number : goal.invariant-loop-number
invariant-loop-number l = record {
  spare : hash.spare l.fn.places ≤ hash.spare l.places;
  len : length l.places.entries ≤ length l.fn.places.entries;
  unique : hash.IsUnique nat_eq l.places;
  updates : (q : ℕ) → lookup (nat_eq q) l.places.entries ≡ cond (list_any (λ n. q == n) (take l.number-index l.numbers)) None (lookup (nat_eq q) l.fn.places.entries);
}
