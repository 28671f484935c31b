use Rattle.std.proofs.Common.{List, [], ◌∷◌, ◌++◌, Option, map, length, sym, subst}
use Rattle.std.specs.Map.Iter.{deref}
use Rattle.std.proofs.lemmas.List.{map-append}
use Rattle.newt_spec_image.specs.Objects.{Extent}
use Rattle.newt_objects.specs.Taken.{IsLive, row_at}
use Rattle.newt_objects.proofs.Live.{row_past, row_pushed, rows_same}
use Rattle.newt_objects.proofs.taken.take_rows.Goals as goal

pub loop-row-preserved : goal.loop-row-preserved
loop-row-preserved c = λ none.
    let done : List (Option Extent) = map deref c.loop-row.yielded in
    subst (λ (rows : List (Option Extent)). IsLive (row_at rows) c.take_row.new.flags.items) (sym (map-append deref c.loop-row.yielded (c.in-Some.row ∷ [])))
    (c.take_row.ensures c.if-not-take_row.false (row_at done) (row_at (done ++ c.in-Some.row.now ∷ [])) (length done) (row_past done) (row_pushed done c.in-Some.row.now) (rows_same done c.in-Some.row.now) (c.loop-row.invariant none))
