use Rattle.std.proofs.Common.{◌≡◌, ℕ, ◌≤◌, ◌==◌, List, slice_get, Option, Some, sym, ◌∙◌, ap, subst}
use Rattle.std.specs.List.{list_any}
use Rattle.std.specs.Option.{option_copied}
use Rattle.newt_spec_image.specs.Objects.{Extent}
use Rattle.newt_objects.specs.Extents.{has_number}
use Rattle.newt_objects.specs.Taken.{ClearsAlso, group_of}
use Rattle.newt_objects.proofs.Live.{live-without, clears-full, lowered-full}
use Rattle.newt_objects.proofs.taken.give_row.Goals as goal

pub returns-in-Some-clause-live : goal.returns-in-Some-clause-live
returns-in-Some-clause-live c = λ table more id was gone same live.
    let x : Extent = c.in-Some.extent.now in
    let flags = c.args.taken.now.flags.items in
    let new = c.clear_numbers.new.flags.items in
    let numbers : c.deref.result.now ≡ x.numbers = c.deref.ensures.value ∙ ap (λ (x : Extent). x.numbers) c.extent.view_is in
    let clears : ClearsAlso (λ q. has_number q (Some x)) flags new = subst (λ (l : List ℕ). ClearsAlso (λ q. list_any (λ n. q == n) l) flags new) numbers c.clear_numbers.ensures in
    let is : table id ≡ Some x = was ∙ ap option_copied c.in-Some.is in
    live-without table more id flags new (subst (λ (o : Option Extent). ClearsAlso (λ q. has_number q o) flags new) (sym is) clears) gone same live

pub returns-in-Some-clause-full : goal.returns-in-Some-clause-full
returns-in-Some-clause-full c = λ sound.
    let old = c.args.taken.now in
    let numbers = c.deref.result.now in
    record {
      below = lowered-full old.flags.items c.clear_numbers.new.flags.items numbers old.low c.lower.new.low c.clear_numbers.ensures c.lower.ensures.bound
          (subst (λ (l : List ℕ). (k number : ℕ) → slice_get l k ≡ Some number → c.lower.new.low ≤ group_of number) (c.deref-in-Some-2.ensures.value ∙ sym c.deref.ensures.value) c.lower.ensures.each) sound.below;
      marked = clears-full old.flags.items c.clear_numbers.new.flags.items old.full.items c.clear_groups.new.full.items numbers c.clear_numbers.ensures
          (subst (λ (l : List ℕ). ClearsAlso (λ q. list_any (λ n. q == group_of n) l) old.full.items c.clear_groups.new.full.items) (c.deref-in-Some.ensures.value ∙ sym c.deref.ensures.value) c.clear_groups.ensures) sound.marked;
    }
