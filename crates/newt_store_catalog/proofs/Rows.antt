-- Records as they are read.
use Rattle.std.proofs.Common.{IsTrue, ◌≡◌, ℕ, ◌*◌, Bool, List, length, Option, Some, None, refl, sym, ◌∙◌, ap, subst}
use Rattle.std.specs.Option.{option_map, IfSome}
use Rattle.std.specs.FinMap as map
use Rattle.newt_host.specs.Moments.{image}
use Rattle.newt_host.specs.Outside.{Outside, Spends}
use Rattle.newt_spec_image.specs.Pages.{Pages, pages}
use Rattle.newt_spec_image.specs.Objects.{Extent, AreObjectsOf, joined, pages_for, Objects}
use Rattle.newt_pagebook.specs.Book.{Numbers}
use Rattle.newt_pagebook.proofs.Tests.{some_inj}
use Rattle.newt_objects.specs.Extents.{numbers_of}
use Rattle.newt_objects.specs.Held.{Held, held}
use Rattle.newt_objects.specs.Changing.{HoldsObjects}
use Rattle.newt_objects.proofs.Same.{texts_by}
use Rattle.newt_objects.proofs.Changing.{read_text}
use Rattle.newt_objects.proofs.Counting.{joined_size}
use Rattle.newt_objects.proofs.Whole.{image_whole}
use Rattle.newt_objects_commit.specs.Batch.{pages_held}
use Rattle.newt_objects_commit.specs.Commit.{AreKept}
use Rattle.newt_store_catalog.proofs.Kept.{held-are}

module _ (told : Bool) (objects : Held) (numbers : Numbers) (unit : ℕ) (outside : Outside) (kept : AreKept told objects numbers unit outside) (tells : IsTrue told) (texts : Objects) (holds : HoldsObjects (image unit outside.now) texts)
    (id : ℕ) (bytes : List ℕ) (at : map.get texts id ≡ Some bytes) where
  are : AreObjectsOf kept.are.live texts
  are = held-are told objects numbers unit outside kept texts tells holds

  -- the bytes that a read gives are the object's
  pub read-is : (got : List ℕ) → ((live : Pages) → pages (image unit outside.now) ≡ Some live → Some got ≡ option_map (joined live) (held objects id)) → bytes ≡ got
  read-is got read = some_inj bytes got (sym at ∙ read_text objects kept.are.live texts id got kept.are.is_table are (read kept.are.live (kept.are.are.of_image tells)))

  -- it has the pages of these bytes
  pub pages-are : pages_held objects id ≡ pages_for (length bytes)
  pages-are = cases (held objects id) refl where
    text : option_map (joined kept.are.live) (held objects id) ≡ Some bytes
    text = sym (texts_by kept.are.live (held objects) texts are kept.are.is_table id) ∙ at

    cases : (o : Option Extent) → held objects id ≡ o → pages_held objects id ≡ pages_for (length bytes)
    cases None e = absurd (let none : None ≡ Some bytes = sym (ap (option_map (joined kept.are.live)) e) ∙ text in cc)
    cases (Some x) e =
        let same : joined kept.are.live x ≡ bytes = some_inj _ _ (sym (ap (option_map (joined kept.are.live)) e) ∙ text) in
        let size : length bytes ≡ x.length = ap (λ (l : List ℕ). length l) (sym same) ∙ joined_size kept.are.live (held objects) id x (image_whole (image unit outside.now) kept.are.live (kept.are.are.of_image tells)) kept.are.is_table e in
        ap (λ (o : Option Extent). length (numbers_of o)) e ∙ kept.are.is_table.whole id x e ∙ ap pages_for (sym size)

  -- it costs the pages of these bytes
  pub read-costs : (old new : Outside) → IfSome (held objects id) (λ x. Spends unit 0 (512 * length x.numbers) old new) → Spends unit 0 (512 * pages_for (length bytes)) old new
  read-costs old new costs = cases (held objects id) refl costs where
    is : bytes ≡ bytes
    is = refl

    cases : (o : Option Extent) → held objects id ≡ o → IfSome o (λ x. Spends unit 0 (512 * length x.numbers) old new) → Spends unit 0 (512 * pages_for (length bytes)) old new
    cases None e spends = absurd (let none : None ≡ Some bytes = sym (texts_by kept.are.live (held objects) texts are kept.are.is_table id ∙ ap (option_map (joined kept.are.live)) e) ∙ at in cc)
    cases (Some x) e spends =
        let same : joined kept.are.live x ≡ bytes = some_inj _ _ (sym (texts_by kept.are.live (held objects) texts are kept.are.is_table id ∙ ap (option_map (joined kept.are.live)) e) ∙ at) in
        let size : length bytes ≡ x.length = ap (λ (l : List ℕ). length l) (sym same) ∙ joined_size kept.are.live (held objects) id x (image_whole (image unit outside.now) kept.are.live (kept.are.are.of_image tells)) kept.are.is_table e in
        subst (λ (n : ℕ). Spends unit 0 (512 * n) old new) (kept.are.is_table.whole id x e ∙ ap pages_for (sym size)) spends
