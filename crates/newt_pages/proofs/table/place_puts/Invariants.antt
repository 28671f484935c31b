use Rattle.std.proofs.Common.{◌≡◌, ℕ, ◌+◌, ◌*◌, ◌<◌, ◌≤◌, nat_eq, List, length, take}
use Rattle.std.specs.List.{All}
use Rattle.std.specs.FinMap as map
use Rattle.std.specs.HashMap as hash
use Rattle.newt_spec_image.specs.Pages.{with_puts}
use Rattle.newt_journal.specs.Places.{first_place}
use Rattle.newt_journal.specs.declared.journal.Journal.{Journal}
use Rattle.newt_pagelog.specs.Kept.{page_in, map_of}
use Rattle.newt_pagelog.specs.Placed.{lifted, ArePlaced}
use Rattle.newt_pages.specs.Disk.{StandAt}
use Rattle.newt_pages.proofs.table.place_puts.Given as goal

abbrev pub invariant-loop-put : goal.invariant-loop-put
invariant-loop-put l = record {
  at : l.at ≡ l.first + 516 * l.put-index;
  spare : length l.puts ≤ hash.spare l.places + l.put-index;
  len : length l.places.entries ≤ length l.fn.places.entries + l.put-index;
  unique : hash.IsUnique nat_eq l.places;
  pages : (page : ℕ → List ℕ) → StandAt page l.first l.puts → (q : ℕ) → page_in (lifted page l.places.entries) q ≡ map.get (with_puts (take l.put-index l.puts) (map_of (lifted page l.fn.places.entries))) q;
  placed : (j : Journal) → ArePlaced j l.fn.places.entries → All (λ put. put.0 < 65536) l.puts → first_place j ≤ l.first → l.first + 516 * length l.puts ≤ j.end + 4 → ArePlaced j l.places.entries;
}
