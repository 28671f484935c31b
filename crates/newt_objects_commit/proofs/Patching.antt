-- Bytes of one object that are overwritten: what the clauses of a plan and of its commit say together.
use Rattle.newt_spec_image.specs.Records.{version}
use Rattle.std.proofs.Common.{◌≡◌, inl, ℕ, List, [], length, Option, Some, None, IsSome, refl, sym, ◌∙◌, ap}
use Rattle.std.specs.FinMap as map
use Rattle.std.specs.Option.{option_map}
use Rattle.newt_host.specs.Moments.{Moment, image, overwritten, IsDurable, Leaves}
use Rattle.newt_host.proofs.Moments.{Leaves-weaken, Leaves-start}
use Rattle.newt_spec_image.specs.Pages.{Pages, Change, pages}
use Rattle.newt_spec_image.specs.Objects.{Extent, IsTableOf, AreObjectsOf, joined, Objects}
use Rattle.newt_pagebook.specs.Batch.{no_change}
use Rattle.newt_objects.specs.Held.{Held, held, WouldHold}
use Rattle.newt_objects.proofs.Changing.{left_holds}
use Rattle.newt_objects.proofs.Counting.{joined_size}
use Rattle.newt_objects.proofs.Same.{texts_by}
use Rattle.newt_objects.proofs.TextsOf.{texts_of}
use Rattle.newt_objects.proofs.Whole.{image_whole}
use Rattle.newt_pagebook.proofs.Tests.{some_inj}
use Rattle.newt_vbo.specs.Patches.{WouldPatch}
use Rattle.newt_vbo.proofs.Committing.{patch_would}
use Rattle.newt_objects_commit.specs.Patch.{IsBeforeOrPatched}
use Rattle.newt_objects_commit.specs.Calls.{IsEitherSide}

-- nothing has happened, and nothing is pending
pub patch-nothing : (live : Pages) (before after : Objects) (unit : ℕ) (old : Moment) → pages (image unit old) ≡ Some live → AreObjectsOf live before → IsDurable unit old
    → Leaves unit (IsBeforeOrPatched (image unit old) before after) old old
patch-nothing live before after unit old of_image were durable = Leaves-start (λ left may.
    let same : left ≡ image unit old = durable left may in
    record {
      size = ap (λ (l : List ℕ). length l) same;
      holds = inl (record { live = live; of_image = ap pages same ∙ of_image; are = were }, ap version same);
    })

-- what a crash leaves within the commit
pub patch-leaves : (objects : Held) (change : Change) (live : Pages) (before after : Objects) (unit : ℕ) (old new : Moment) → pages (image unit old) ≡ Some live → AreObjectsOf live before → WouldHold objects change live after
    → Leaves unit (IsEitherSide change (image unit old)) old new → Leaves unit (IsBeforeOrPatched (image unit old) before after) old new
patch-leaves objects change live before after unit old new of_image were would leaves = Leaves-weaken
    (λ left both. record { size = both.0; holds = left_holds objects change live before after (image unit old) left of_image were would both.1 })
    leaves

pub the-extent : (o : Option Extent) → IsSome o → (x : Extent) × (o ≡ Some x)
the-extent (Some x) some = (x, refl)
the-extent None some = absurd (let isnt = some in cc)

module _ (objects : Held) (id at : ℕ) (bytes : List ℕ) (change : Change) (live : Pages) (none : objects.plans ≡ []) (table : IsTableOf live (held objects)) (there : IsSome (held objects id))
    (patch : WouldPatch objects id at bytes no_change change live) where
  -- what the live pages would hold
  pub would-be : (before : Objects) (text : List ℕ) → AreObjectsOf live before → map.get before id ≡ Some text → WouldHold objects change live (map.insert before id (overwritten text at bytes))
  would-be before text are here = patch_would objects id at bytes text change live before none table are here patch

  pub would-some : (texts : Objects) × WouldHold objects change live texts
  would-some =
      let w = texts_of live (held objects) table in
      let x = the-extent (held objects id) there in
      let text : map.get w.0 id ≡ Some (joined live x.0) = texts_by live (held objects) w.0 w.1 table id ∙ ap (option_map (joined live)) x.1 in
      (map.insert w.0 id (overwritten (joined live x.0) at bytes), would-be w.0 (joined live x.0) w.1 text)

-- how many bytes an object has that the live pages hold
pub text-length : (objects : Held) (id : ℕ) (now : List ℕ) (before : Objects) (text : List ℕ) (live : Pages) (x : Extent) → pages now ≡ Some live → IsTableOf live (held objects) → AreObjectsOf live before → map.get before id ≡ Some text
    → held objects id ≡ Some x → length text ≡ x.length
text-length objects id now before text live x of_image table are here at =
    let is : text ≡ joined live x = some_inj text (joined live x) (sym here ∙ texts_by live (held objects) before are table id ∙ ap (option_map (joined live)) at) in
    ap (λ (l : List ℕ). length l) is ∙ joined_size live (held objects) id x (image_whole now live of_image) table at
