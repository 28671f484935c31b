use Rattle.std.proofs.Common.{◌*◌, length, take}
use Rattle.std.specs.List.{flat_map, filter}
use Rattle.newt_spec_image.specs.Pages.{written_delete}
use Rattle.newt_journal.specs.Draft.{unit_of}
use Rattle.newt_pagelog.specs.Kept.{is_kept}
use Rattle.newt_pagelog.specs.Steps.{Keeps, WritesMore, done}
use Rattle.newt_pagelog.proofs.write.write_deletes.Given as goal

abbrev pub invariant-loop-number : goal.invariant-loop-number
invariant-loop-number g l =
    let outside = g.H.Host.outside in
    record {
      keeps : Keeps g.H.Host.told (unit_of l.fn.draft) (4 * length (filter (is_kept l.pages.entries) (take l.number-index l.deletes))) done (outside l.fn.host) (outside l.host);
      writes : WritesMore g.H.Host.told (unit_of l.fn.draft) (flat_map written_delete (filter (is_kept l.pages.entries) (take l.number-index l.deletes))) l.fn.draft l.draft (outside l.fn.host) (outside l.host);
    }
