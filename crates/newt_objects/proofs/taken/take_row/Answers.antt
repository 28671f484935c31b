use Rattle.std.proofs.Common.{◌≡◌, ℕ, ◌==◌, false, List, Some, slice_get, ◌∙◌, ap, subst}
use Rattle.std.specs.List.{list_any}
use Rattle.newt_spec_image.specs.Objects.{Extent}
use Rattle.newt_objects.specs.Extents.{MarksAlso}
use Rattle.newt_objects.proofs.Live.{live-with, free-each}
use Rattle.newt_objects.proofs.taken.take_row.Goals as goal

pub returns-else-not-are_free : goal.returns-else-not-are_free
returns-else-not-are_free c = λ yes table more id gone there same live.
    let x : Extent = c.in-Some.extent in
    let flags = c.args.flags.now.items in
    let new = c.mark_numbers.new.taken.items in
    let set : c.deref-in-Some-2.result.now ≡ x.numbers = c.deref-in-Some-2.ensures.value ∙ ap (λ (x : Extent). x.numbers) c.extent.view_is in
    let tested : c.deref-in-Some.result.now ≡ x.numbers = c.deref-in-Some.ensures.value ∙ ap (λ (x : Extent). x.numbers) c.extent.view_is in
    let free : (k number : ℕ) → slice_get x.numbers k ≡ Some number → slice_get flags number ≡ Some false =
    subst (λ (l : List ℕ). (k number : ℕ) → slice_get l k ≡ Some number → slice_get flags number ≡ Some false) tested
    (subst (λ (fs : List _). (k number : ℕ) → slice_get c.deref-in-Some.result.now k ≡ Some number → slice_get fs number ≡ Some false) c.deref.ensures.value (c.are_free.ensures c.if-not-are_free.false)) in
    live-with table more id (Some x) flags new (subst (λ (l : List ℕ). MarksAlso (λ q. list_any (λ n. q == n) l) flags new) set c.mark_numbers.ensures)
    (free-each flags x free) gone (there ∙ c.in-Some.is) same live
