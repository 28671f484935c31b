use Rattle.std.proofs.Common.{◌≡◌, ℕ, ◌+◌, ◌≤◌, nat_eq, length, take}
use Rattle.std.specs.FinMap as map
use Rattle.std.specs.HashMap as hash
use Rattle.newt_spec_image.specs.Pages.{with_puts, without_numbers}
use Rattle.newt_pagelog.specs.Kept.{page_in, map_of}
use Rattle.newt_pageplain.proofs.apply.apply.Given as goal

abbrev pub invariant-loop-put : goal.invariant-loop-put
invariant-loop-put l = record {
  spare : length l.fn.batch.puts ≤ hash.spare l.pages + l.put-index;
  len : length l.pages.entries ≤ length l.fn.pages.entries + l.put-index;
  unique : hash.IsUnique nat_eq l.pages;
  same : (q : ℕ) → page_in l.pages.entries q ≡ map.get (with_puts (take l.put-index l.fn.batch.puts) (map_of l.fn.pages.entries)) q;
}

abbrev pub invariant-loop-number : goal.invariant-loop-number
invariant-loop-number l = record {
  len : length l.pages.entries ≤ length l.fn.pages.entries + length l.fn.batch.puts;
  unique : hash.IsUnique nat_eq l.pages;
  same : (q : ℕ) → page_in l.pages.entries q ≡ map.get (without_numbers (take l.number-index l.fn.batch.deletes) (with_puts l.fn.batch.puts (map_of l.fn.pages.entries))) q;
}
