use Rattle.std.proofs.Common.{List, Some, sym, ◌∙◌, ap}
use Rattle.std.proofs.lemmas.Option.{slice_get-get_or, slice_get_past}
use Rattle.newt_memhost.specs.Past.{call_at, unit_at}
use Rattle.newt_memhost.specs.declared.happened.Happened.{Happened}
use Rattle.newt_memhost.proofs.within.unit_within.Goals as goal

pub returns-then-place-entries : goal.returns-then-place-entries
returns-then-place-entries c =
    let entries = c.as_slice-entries.result.now in
    let place = c.place_of-place.result in
    c.unit.ensures ∙ ap (λ (h : Happened). unit_at (Some h)) c.index-entries-place.is
    ∙ ap unit_at (sym (slice_get-get_or entries place c.index-entries-place.result c.if-place-entries.true) ∙ c.place_of-place.ensures.there)
    ∙ ap (λ (l : List Happened). unit_at (call_at c.args.call l)) c.as_slice-entries.ensures.value

pub returns-else-place-entries : goal.returns-else-place-entries
returns-else-place-entries c =
    let entries = c.as_slice-entries.result.now in
    let place = c.place_of-place.result in
    sym (ap unit_at (sym c.place_of-place.ensures.there ∙ slice_get_past entries place c.if-place-entries.false)) ∙ ap (λ (l : List Happened). unit_at (call_at c.args.call l)) c.as_slice-entries.ensures.value
