-- One plan in a batch of its own, carried out.
use Rattle.std.proofs.Common.{◌≡◌, ℕ, List, [], Some, IsSome, sym, ◌∙◌, ap, subst, true}
use Rattle.std.specs.FinMap as map
use Rattle.std.specs.Option.{option_map}
use Rattle.newt_host.specs.Moments.{Moment, changes, image, overwritten}
use Rattle.newt_host.specs.Outside.{Outside}
use Rattle.newt_spec_image.specs.Pages.{Pages, Change, pages}
use Rattle.newt_spec_image.specs.Objects.{Extent, IsTableOf, joined, Objects}
use Rattle.newt_pagebook.specs.Batch.{names, no_change}
use Rattle.newt_pagebook.specs.Book.{Numbers, changed_numbers, ReadsChanged}
use Rattle.newt_pagebook.proofs.Tests.{the_some}
use Rattle.newt_objects.specs.Extents.{IsUnnamed}
use Rattle.newt_objects.specs.Held.{Held, held, planned, AreOf}
use Rattle.newt_objects.specs.Changing.{IsUnderWay}
use Rattle.newt_objects.proofs.Same.{table_kept, texts_by}
use Rattle.newt_objects.proofs.TextsOf.{texts_of}
use Rattle.newt_objects.proofs.Changing.{start_under_way, adopted_are, are_still, told_table}
use Rattle.newt_vbo.specs.Patches.{WouldPatch}
use Rattle.newt_vbo.proofs.Committing.{patch_would, patched_are}
use Rattle.newt_test_pages.specs.Changes.{AreAtRest, IsPlanned}

-- the first plan of a batch
pub planned_alone : (old new : Held) (change change' : Change) (to : Objects → Objects) → change ≡ no_change → old.plans ≡ [] → ((id : ℕ) → held new id ≡ held old id)
    → ((live : Pages) (texts : Objects) → IsUnderWay old change live texts → IsUnderWay new change' live (to texts)) → IsPlanned new change'
planned_alone old new change change' to begun none kept way live table =
    let was : IsTableOf live (held old) = table_kept live (held new) (held old) (λ id. sym (kept id)) table in
    let w = texts_of live (held old) was in
    (to w.0, way live w.0 (subst (λ (change : Change). IsUnderWay old change live w.0) (sym begun) (start_under_way old live w.0 none was w.1)))

pub apart_alone : (change : Change) → change ≡ no_change → (x : Extent) → IsUnnamed x change
apart_alone change begun x k number at = ap (λ (change : Change). names change number) begun

pub carried_out : (objects adopted : Held) (change : Change) (numbers spared numbers' : Numbers) (unit : ℕ) (old new : Outside) → unit ≡ 0 → spared ≡ numbers → AreOf true (held objects) numbers 0 old → IsPlanned objects change
    → numbers' ≡ changed_numbers change spared → ReadsChanged change (image unit old.now) (image unit new.now) → ((id : ℕ) → held adopted id ≡ planned objects id) → AreOf true (held adopted) numbers' 0 new
carried_out objects adopted change numbers spared numbers' unit old new at same are way changed committed taken =
    let w = way are.live are.is_table in
    adopted_are true objects adopted change are.live w.0 numbers numbers' 0 old new are.are w.1 (changed ∙ ap (changed_numbers change) same)
    (λ t. subst (λ (u : ℕ). ReadsChanged change (image u old.now) (image u new.now)) at committed) taken

pub still_at_rest : (objects objects' : Held) (numbers numbers' : Numbers) (unit : ℕ) (old new : Outside) → ((id : ℕ) → held objects' id ≡ held objects id) → objects'.plans ≡ [] → numbers' ≡ numbers → new.now ≡ old.now
    → AreAtRest objects numbers unit old → AreAtRest objects' numbers' unit new
still_at_rest objects objects' numbers numbers' unit old new kept none same now rest = record {
  table = are_still true (held objects) (held objects') numbers numbers' unit old new kept same (ap (changes unit) now) rest.table;
  none = none;
}

pub at_rest : (objects : Held) (numbers numbers' : Numbers) (unit : ℕ) (outside : Outside) → unit ≡ 0 → numbers' ≡ numbers → AreOf true (held objects) numbers unit outside → objects.plans ≡ [] → AreAtRest objects numbers' 0 outside
at_rest objects numbers numbers' unit outside at same are none = record {
  table = subst (λ (s : Numbers). AreOf true (held objects) s 0 outside) (sym same) (subst (λ (u : ℕ). AreOf true (held objects) numbers u outside) at are);
  none = none;
}

pub at_place : (objects : Held) (numbers : Numbers) (unit : ℕ) (outside : Outside) → unit ≡ 0 → AreAtRest objects numbers 0 outside → AreOf true (held objects) numbers unit outside
at_place objects numbers unit outside at rest = subst (λ (u : ℕ). AreOf true (held objects) numbers u outside) (sym at) rest.table

-- a patch in a batch of its own, carried out
pub patched_out : (objects : Held) (id at : ℕ) (bytes : List ℕ) (begun change : Change) (numbers spared numbers' : Numbers) (first unit : ℕ) (old mid new : Outside) → begun ≡ no_change → IsSome (held objects id) → first ≡ 0 → unit ≡ 0
    → spared ≡ numbers → mid.now ≡ old.now → AreAtRest objects numbers 0 old → ((live : Pages) → pages (image first old.now) ≡ Some live → WouldPatch objects id at bytes begun change live)
    → changed_numbers change numbers ≡ changed_numbers begun numbers → numbers' ≡ changed_numbers change spared → ReadsChanged change (image unit mid.now) (image unit new.now) → AreAtRest objects numbers' 0 new
patched_out objects id at bytes begun change numbers spared numbers' first unit old mid new is_begun there is_first is_unit spare now rest patched counted changed committed =
    let done : ReadsChanged change (image 0 old.now) (image 0 new.now) =
    subst (λ (u : ℕ). ReadsChanged change (image u old.now) (image u new.now)) is_unit (subst (λ (m : Moment). ReadsChanged change (image unit m) (image unit new.now)) now committed) in
    let x = the_some (held objects id) there in
    record {
      table = patched_are true objects change numbers numbers' 0 old new rest.none rest.table (changed ∙ ap (changed_numbers change) spare)
          (counted ∙ ap (λ (change : Change). changed_numbers change numbers) is_begun) (λ t. done)
          (λ t live is.
          let table : IsTableOf live (held objects) = told_table true (held objects) numbers 0 old live rest.table t is in
          let w = texts_of live (held objects) table in
          let text : map.get w.0 id ≡ Some (joined live x.0) = texts_by live (held objects) w.0 w.1 table id ∙ ap (option_map (joined live)) x.1 in
          let patch : WouldPatch objects id at bytes no_change change live = subst (λ (c : Change). WouldPatch objects id at bytes c change live) is_begun
          (patched live (ap (λ (u : ℕ). pages (image u old.now)) is_first ∙ is)) in
          (map.insert w.0 id (overwritten (joined live x.0) at bytes), patch_would objects id at bytes (joined live x.0) change live w.0 rest.none table w.1 text patch));
      none = rest.none;
    }
