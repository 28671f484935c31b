use Rattle.std.proofs.Common.{◌≡◌, ℕ, ◌+◌, ◌*◌, ◌<◌, ◌≤◌, nat_eq, List, length, Some}
use Rattle.std.specs.Map.{lookup}
use Rattle.std.specs.HashMap as hash
use Rattle.newt_journal.specs.Places.{first_place}
use Rattle.newt_journal.specs.declared.journal.Journal.{Journal}
use Rattle.newt_pagelog.specs.Kept.{page_in, is_kept}
use Rattle.newt_pagelog.specs.Placed.{lifted, IsPlaced}
use Rattle.newt_pages.specs.Copies.{below}
use Rattle.newt_pages.specs.Disk.{StandAt}
use Rattle.newt_pages.proofs.table.move_pages.Given as goal

abbrev pub invariant-loop-number : goal.invariant-loop-number
invariant-loop-number l =
    let fn = l.fn.places.entries in
    record {
      at : l.at ≡ l.fn.first + 516 * length (below l.number-counter fn);
      rest : (q : ℕ) → l.number-counter ≤ q → lookup (nat_eq q) l.places.entries ≡ lookup (nat_eq q) fn;
      moved : (old new : ℕ → List ℕ) → StandAt new l.fn.first (lifted old (below l.number-counter fn)) → (q : ℕ) → q < l.number-counter → page_in (lifted new l.places.entries) q ≡ page_in (lifted old fn) q;
      kept : (q : ℕ) → is_kept l.places.entries q ≡ is_kept fn q;
      placed : (j : Journal) → first_place j ≤ l.fn.first → l.fn.first + 516 * length (below 65536 fn) ≤ j.end + 4 → (q a : ℕ) → q < l.number-counter → lookup (nat_eq q) l.places.entries ≡ Some a → IsPlaced j q a;
      spare : hash.spare l.places ≡ hash.spare l.fn.places;
      len : length l.places.entries ≡ length l.fn.places.entries;
      unique : hash.IsUnique nat_eq l.places;
    }
