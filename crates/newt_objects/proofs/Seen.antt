-- The rows of a map and the list of plans, as contracts see them.
use Rattle.std.proofs.Common.{◌≡◌, ⊎_elim, ℕ, zero, suc, ◌==◌, Bool, true, false, cond, List, [], ◌∷◌, ◌++◌, length, slice_get, Option, Some, None, IsSome, refl, sym, ◌∙◌, ap, subst}
use Rattle.std.specs.BTreeMap as tree
use Rattle.std.specs.Ordering.{nat_cmp}
use Rattle.newt_host.specs.Moments.{image}
use Rattle.newt_host.specs.Outside.{Outside}
use Rattle.newt_spec_image.specs.Objects.{Extent}
use Rattle.newt_pagebook.specs.Book.{Numbers}
use Rattle.newt_pagebook.proofs.Tests.{some_inj, equal_true}
use Rattle.newt_objects.specs.declared.header.Header.{Header}
use Rattle.newt_objects.specs.declared.objects.Plan.{Plan}
use Rattle.newt_objects.specs.Headers.{Rows, HasTable, ReadsHeaders, held_in}
use Rattle.newt_objects.specs.Plans.{ArePlaced, next_of}
use Rattle.newt_objects.specs.Held.{AreOf}
use Rattle.newt_objects.proofs.Pushed.{push_which}

-- what headers say of rows, of the objects that they are
pub are_of_rows : (told : Bool) (numbers : Numbers) (unit : ℕ) (outside : Outside) (hs : List Header) (rows : Rows) → ReadsHeaders told numbers (image unit outside.now) hs → HasTable hs rows
    → AreOf told (held_in rows) numbers unit outside
are_of_rows told numbers unit outside hs rows reads table = record { live = reads.live; are = reads.are; is_table = table reads.live reads.headers_are }

no_head : (b : Bool) (x : Option Extent) (r : Option (Option Extent)) → cond b (Some x) r ≡ None → (b ≡ false) × (r ≡ None)
no_head true x r e = absurd (cc)
no_head false x r e = (refl, e)

-- no plan in the list is one of an id that has none
pub no_place : (id : ℕ) (plans : List Plan) → next_of id plans ≡ None → (k : ℕ) (p : Plan) → slice_get plans k ≡ Some p → p.id ≡ id → ⊥
no_place id [] none k p e same = absurd (cc)
no_place id (o ∷ plans) none zero p e same =
    let head = no_head (id == o.id) o.next (next_of id plans) none in
    let one : o.id ≡ id = ap (λ (p : Plan). p.id) (some_inj o p e) ∙ same in
    absurd (let t : (id == o.id) ≡ true = equal_true id o.id (sym one) in let f = head.0 in cc)
no_place id (o ∷ plans) none (suc k) p e same = no_place id plans (no_head (id == o.id) o.next (next_of id plans) none).1 k p e same

-- a plan more, of an id that has a row and no plan
pub placed-push : (rows : Rows) (plans : List Plan) (p : Plan) → ArePlaced rows plans → IsSome (tree.get nat_cmp rows p.id) → next_of p.id plans ≡ None → ArePlaced rows (plans ++ p ∷ [])
placed-push rows plans p are row none = record {
  placed = λ k q e. ⊎_elim
      (λ (old : slice_get plans k ≡ Some q). are.placed k q old)
      (λ (new : (k ≡ length plans) × (p ≡ q)). subst (λ (q : Plan). IsSome (tree.get nat_cmp rows q.id)) new.1 row)
      (push_which plans p k q e);
  once = λ k l q r e f same. ⊎_elim
      (λ (old : slice_get plans k ≡ Some q). ⊎_elim
      (λ (older : slice_get plans l ≡ Some r). are.once k l q r old older same)
      (λ (new : (l ≡ length plans) × (p ≡ r)). absurd (no_place p.id plans none k q old (same ∙ ap (λ (p : Plan). p.id) (sym new.1))))
      (push_which plans p l r f))
      (λ (new : (k ≡ length plans) × (p ≡ q)). ⊎_elim
      (λ (older : slice_get plans l ≡ Some r). absurd (no_place p.id plans none l r older (sym same ∙ ap (λ (p : Plan). p.id) (sym new.1))))
      (λ (newer : (l ≡ length plans) × (p ≡ r)). new.0 ∙ sym newer.0)
      (push_which plans p l r f))
      (push_which plans p k q e);
}

nowhere : (k : ℕ) (p : Plan) → slice_get [] k ≡ Some p → ⊥
nowhere k p e = cc

-- no plans have rows
pub placed-none : (rows : Rows) (plans : List Plan) → plans ≡ [] → ArePlaced rows plans
placed-none rows plans none = subst (λ (l : List Plan). ArePlaced rows l) (sym none) (record {
  placed = λ k p e. absurd (nowhere k p e);
  once = λ k l p q e f same. absurd (nowhere k p e);
})
