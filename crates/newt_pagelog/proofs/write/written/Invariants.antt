use Rattle.std.proofs.Common.{◌≡◌, ◌++◌, length, take}
use Rattle.std.specs.List.{flat_map}
use Rattle.std.specs.Int.{to_be_bytes, w16}
use Rattle.newt_spec_image.specs.Pages.{written_put}
use Rattle.newt_pagelog.proofs.write.written.Given as goal

abbrev pub invariant-loop-put : goal.invariant-loop-put
invariant-loop-put l = l.bytes.items ≡ (to_be_bytes w16 (length l.batch.puts) ++ to_be_bytes w16 0) ++ flat_map written_put (take l.put-index l.batch.puts)
