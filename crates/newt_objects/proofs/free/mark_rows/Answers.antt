use Rattle.std.proofs.Common.{map, ◌∙◌, ap, ◌++◌, ◌∷◌, [], List, Option}
use Rattle.std.specs.List.{list_any}
use Rattle.std.specs.Map.Iter.{deref}
use Rattle.std.proofs.lemmas.List.{map-append}
use Rattle.newt_spec_image.specs.Objects.{Extent}
use Rattle.newt_objects.specs.Extents.{has_number}
use Rattle.newt_objects.proofs.Flags.{marks-more, any_push}
use Rattle.newt_objects.proofs.free.mark_rows.Goals as goal

pub loop-row-preserved : goal.loop-row-preserved
loop-row-preserved c =
    let done : List (Option Extent) = map deref c.loop-row.yielded in
    marks-more (λ q. list_any (has_number q) done) (λ q. has_number q c.in-Some.row.now) (λ q. list_any (has_number q) (map deref (c.loop-row.yielded ++ c.in-Some.row ∷ []))) c.args.taken.now.items c.loop-row.taken.items c.mark_row.new.taken.items
    (λ q. ap (list_any (has_number q)) (map-append deref c.loop-row.yielded (c.in-Some.row ∷ [])) ∙ any_push (has_number q) done c.in-Some.row.now) c.loop-row.invariant c.mark_row.ensures
