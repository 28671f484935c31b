use Rattle.std.proofs.Common.{refl}
use Rattle.std.specs.List.{list_any}
use Rattle.std.specs.BTreeMap as tree
use Rattle.newt_pagebook.specs.Batch.{names}
use Rattle.newt_objects.specs.Extents.{has_number, is_taken}
use Rattle.newt_objects.proofs.Flags.{marks-more}
use Rattle.newt_objects.proofs.free.mark_taken.Goals as goal

pub returns : goal.returns
returns c =
    marks-more (λ q. list_any (has_number q) (tree.values c.args.rows.now)) (names c.args.batch.now) (is_taken c.args.rows.now.entries c.args.batch.now) c.args.taken.now.items c.mark_rows.new.taken.items c.mark_named.new.taken.items
    (λ q. refl) c.mark_rows.ensures c.mark_named.ensures
