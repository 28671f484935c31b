-- A patch in a batch of its own, committed: what the layer above shows by it.
use Rattle.std.proofs.Common.{IsTrue, ◌≡◌, ℕ, Bool, true, false, List, [], Some, refl, sym, ◌∙◌, ap}
use Rattle.std.specs.FinMap as map
use Rattle.std.specs.FinSet as set
use Rattle.std.specs.Option.{option_map}
use Rattle.newt_host.specs.Moments.{image, overwritten}
use Rattle.newt_host.specs.Outside.{Outside}
use Rattle.newt_spec_image.specs.Pages.{Pages, Change, pages, after}
use Rattle.newt_spec_image.specs.Objects.{IsTableOf, AreObjectsOf, Objects}
use Rattle.newt_pagebook.specs.Batch.{no_change}
use Rattle.newt_pagebook.specs.Book.{Numbers, changed_numbers, ReadsChanged}
use Rattle.newt_objects.specs.Held.{Held, held, planned, AreOf, WouldHold}
use Rattle.newt_pagebook.proofs.Numbers.{changed_named}
use Rattle.newt_objects.proofs.Changing.{planned-none, start_under_way}
use Rattle.newt_objects.proofs.Same.{table_kept}
use Rattle.newt_vbo.specs.Patches.{WouldPatch}

-- What the objects are once the patch is committed. `newt_objects` says of it what the new image holds, and what a crash leaves meanwhile.
pub patch_would : (objects : Held) (id at : ℕ) (bytes text : List ℕ) (change : Change) (live : Pages) (texts : Objects) → objects.plans ≡ [] → IsTableOf live (held objects) → AreObjectsOf live texts
    → map.get texts id ≡ Some text → WouldPatch objects id at bytes no_change change live → WouldHold objects change live (map.insert texts id (overwritten text at bytes))
patch_would objects id at bytes text change live texts none is are there patch = patch texts text there (start_under_way objects live texts none is are).would

-- The table stays that of the live pages, on a host that tells bytes and on one that does not.
pub patched_are : (told : Bool) (objects : Held) (change : Change) (numbers numbers' : Numbers) (unit : ℕ) (old new : Outside) → objects.plans ≡ [] → AreOf told (held objects) numbers unit old
    → numbers' ≡ changed_numbers change numbers → changed_numbers change numbers ≡ numbers → (IsTrue told → ReadsChanged change (image unit old.now) (image unit new.now))
    → (IsTrue told → (live : Pages) → pages (image unit old.now) ≡ Some live → (texts : Objects) × WouldHold objects change live texts) → AreOf told (held objects) numbers' unit new
patched_are true objects change numbers numbers' unit old new none are changed same committed would =
    let live : Pages = are.live in
    let w = would refl live (are.are.of_image refl) in
    record {
      live = after change live;
      are = record {
        named = λ q. changed_named change live numbers are.are.named q ∙ ap (λ (s : Numbers). set.contains s q) (sym changed);
        of_image = λ t. committed t ∙ ap (option_map (after change)) (are.are.of_image t);
      };
      is_table = table_kept (after change live) (planned objects) (held objects) (λ id. sym (planned-none objects none id)) w.1.is_table;
    }
patched_are false objects change numbers numbers' unit old new none are changed same committed would = record {
  live = are.live;
  are = record {
    named = λ q. are.are.named q ∙ ap (λ (s : Numbers). set.contains s q) (sym (changed ∙ same));
    of_image = λ t. absurd (cc);
  };
  is_table = are.is_table;
}
