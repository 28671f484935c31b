use Rattle.std.proofs.Common.{◌≡◌, ◌+◌, ◌*◌, take}
use Rattle.std.specs.List.{flat_map}
use Rattle.newt_spec_image.specs.Pages.{written_put}
use Rattle.newt_journal.specs.Draft.{unit_of, put_of}
use Rattle.newt_pagelog.specs.Steps.{Keeps, WritesMore, done}
use Rattle.newt_pagelog.proofs.write.write_puts.Given as goal

abbrev pub invariant-loop-put : goal.invariant-loop-put
invariant-loop-put g l =
    let outside = g.H.Host.outside in
    record {
      keeps : Keeps g.H.Host.told (unit_of l.fn.draft) (516 * l.put-index) done (outside l.fn.host) (outside l.host);
      writes : WritesMore g.H.Host.told (unit_of l.fn.draft) (flat_map written_put (take l.put-index l.puts)) l.fn.draft l.draft (outside l.fn.host) (outside l.host);
      put : put_of l.draft ≡ put_of l.fn.draft + 516 * l.put-index;
    }
