use Rattle.std.proofs.Common.{◌≡◌, ◌+◌, ◌*◌, length, map}
use Rattle.std.specs.List.{flat_map}
use Rattle.std.specs.Map.Iter.{deref_pair}
use Rattle.newt_spec_image.specs.Pages.{written_put}
use Rattle.newt_journal.specs.Draft.{unit_of, put_of}
use Rattle.newt_pagelog.specs.Steps.{Keeps, WritesMore, done}
use Rattle.newt_pageplain.proofs.write.write_pages.Given as goal

abbrev pub invariant-loop-number : goal.invariant-loop-number
invariant-loop-number g l =
    let outside = g.H.Host.outside in
    record {
      keeps : Keeps g.H.Host.told (unit_of l.fn.draft) (516 * length l.yielded) done (outside l.fn.host) (outside l.host);
      writes : WritesMore g.H.Host.told (unit_of l.fn.draft) (flat_map written_put (map deref_pair l.yielded)) l.fn.draft l.draft (outside l.fn.host) (outside l.host);
      put : put_of l.draft ≡ put_of l.fn.draft + 516 * length l.yielded;
    }
