-- What stands between commands, and what no command takes away.
use Rattle.std.proofs.Common.{◌≡◌, refl, ap, sym, ◌∙◌, subst, ℕ, zero, suc, ◌≤◌, List, [], ◌∷◌, Bool, true, false, IsTrue, Option, Some, None}
use Rattle.std.specs.Prelude.{is_some, slice_index_or, slice_get}
use Rattle.newt_host.specs.Moments.{IsDurable, MayLeave, image}
use Rattle.newt_host.specs.Outside.{Outside}
use Rattle.newt_laws_steps.specs.Devices.{SameDevices}
use Rattle.newt_spec_graph.proofs.Lists.{none-some, some-same}
use Rattle.newt_spec_query.specs.Cursor.{Cursor}
use Rattle.newt_spec_store.specs.Laid.{bare}
use Rattle.newt_spec_store.specs.Store.{Store}
use Rattle.newt_spec_store.specs.Valid.{well_formed}
use Rattle.newt_spec_graph.specs.Lists.{Among}
use Rattle.newt_spec_world.specs.World.{World, stores_on}
use Rattle.newt_laws_world.specs.Settled.{IsSettled, MountedApart}
use Rattle.newt_laws_world.specs.Cursors.{with_cursors}
use Rattle.newt_laws_steps.specs.Answering.{ReadsOneOf}
use Rattle.newt_laws_steps.specs.StandsFor.{IsKept, StandsFor, known}
use Rattle.newt_laws_steps.proofs.Held.{stands-left, stands-same}
use Rattle.newt_laws_steps.proofs.StoodFor.{known-stands}
use Rattle.newt_engine_units.specs.declared.units.Units.{Units}
use Rattle.newt_pagebook.specs.Book.{IsSameFor}
use Rattle.newt_engine_units.specs.Stands.{Eight}
use Rattle.newt_engine_units.proofs.Known.{Laws, card-known, mounted-known}
use Rattle.newt_engine_units.proofs.Marked.{not-due}
use Rattle.newt_engine_units.proofs.Slots.{stands-still}
use Rattle.newt_engine_units.proofs.Turns.{world-still}
use Rattle.newt_engine_cursors.specs.World.{world_with}
use Rattle.newt_engine.specs.Standing.{Standing, marks_with}

-- ---- between commands

pub eight_same : (told : Bool) (old new : Outside) → SameDevices told old new → Eight old → Eight new
eight_same told old new same e = record {
  eight = λ u h. same.cards.card u ∙ e.eight u h;
  none = λ u h. same.cards.blocks u ∙ e.none u (sym (same.cards.card u) ∙ h);
}

-- the laws of cards, as one
pub laws_of : {C : Type 0} {reads : List ℕ → Option Store} {place : C → ℕ} {soups : C → Store} {stands : Bool → C → Outside → Type 0}
    → ((bytes : List ℕ) (s : Store) → reads bytes ≡ Some s → IsTrue (well_formed s))
    → ((card : C) (outside : Outside) → stands true card outside → (s : Store) × (reads (image (place card) outside.now) ≡ Some s) × (bare s ≡ soups card))
    → ((card : C) (outside : Outside) → stands true card outside → IsDurable (place card) outside.now)
    → ((told : Bool) (card : C) (outside : Outside) → stands told card outside → 13 ≤ outside.blocks (place card))
    → ((told : Bool) (card : C) (old new : Outside) → stands told card old → IsSameFor told (place card) old new → stands told card new)
    → Laws reads place soups stands
laws_of formed plain durable banks kept = record { formed = formed; plain = plain; durable = durable; banks = banks; kept = kept }

pub still_stands : {C : Type 0} {reads : List ℕ → Option Store} {place : C → ℕ} {stands : Bool → C → Outside → Type 0}
    → ((told : Bool) (card : C) (old new : Outside) → stands told card old → IsSameFor told (place card) old new → stands told card new)
    → ((card : C) (outside : Outside) → stands true card outside → IsDurable (place card) outside.now)
    → (told : Bool) (units : Units C) (cursors : List (Option Cursor)) (old new : Outside) → SameDevices told old new → Standing reads place stands told units cursors old → Standing reads place stands told units cursors new
still_stands {C} {reads} {place} {stands} kept durable told units cursors old new same s = record {
  stand = stands-still place stands kept durable told units old new same.cards same.changes s.stand;
  eight = eight_same told old new same s.eight;
  desk = s.desk;
  apart = λ t. subst MountedApart (sym (still t)) (s.apart t);
  settled = λ t. subst IsSettled (sym (still t)) (s.settled t);
}
  where
    still : IsTrue told → world_with reads units cursors new ≡ world_with reads units cursors old
    still t = ap (with_cursors cursors) (world-still reads units old new same.cards (same.changes t))

-- ---- the worlds that it stands for

-- what units and cursors keep, so that they stand for some world
pub units_kept : {C : Type 0} {reads : List ℕ → Option Store} {place : C → ℕ} {soups : C → Store} {stands : Bool → C → Outside → Type 0} → Laws reads place soups stands
    → (units : Units C) (cursors : List (Option Cursor)) (outside : Outside) → Standing reads place stands true units cursors outside → IsKept reads (marks_with units cursors) outside
units_kept laws units cursors outside s = record {
  durable = λ u has due. s.stand.durable refl u has due;
  sure = λ u mounted. not-due units.slots.items s.stand.sure u mounted;
  stores = λ u mounted.
      let k = mounted-known laws units outside s.eight s.stand u mounted in
      let p = card-known laws units outside s.eight s.stand u k.0 k.1 in
      (p.store, p.reads_it);
  eight = s.eight.eight;
  settled = s.settled refl;
}

pub has_world : {C : Type 0} {reads : List ℕ → Option Store} {place : C → ℕ} {soups : C → Store} {stands : Bool → C → Outside → Type 0} → Laws reads place soups stands
    → (units : Units C) (cursors : List (Option Cursor)) (outside : Outside) → Standing reads place stands true units cursors outside
    → (w : World) × StandsFor reads (marks_with units cursors) outside w
has_world {reads = reads} laws units cursors outside s =
    (known reads (marks_with units cursors) outside, known-stands reads (marks_with units cursors) outside (units_kept laws units cursors outside s))

pub same_worlds : {C : Type 0} (reads : List ℕ → Option Store) (units : Units C) (cursors : List (Option Cursor)) (old new : Outside) (w : World) → SameDevices true old new
    → StandsFor reads (marks_with units cursors) old w → StandsFor reads (marks_with units cursors) new w
same_worlds reads units cursors old new w same means = stands-same reads (marks_with units cursors) old new w same.cards (same.changes refl) means

pub leaves_stores : {C : Type 0} (reads : List ℕ → Option Store) (units : Units C) (cursors : List (Option Cursor)) (outside : Outside) (w : World) → StandsFor reads (marks_with units cursors) outside w
    → (unit : ℕ) (store : Store) (left : List ℕ) → Among (stores_on w unit) store → MayLeave unit outside.now left → ReadsOneOf reads (stores_on w unit) left
leaves_stores reads units cursors outside w means unit store left is may = stands-left reads (marks_with units cursors) outside w means unit store left is may

-- ---- at the start

at_place : (attached : List Bool) (unit : ℕ) (has : Bool) → slice_get attached unit ≡ Some has → slice_index_or attached unit false ≡ has
at_place [] unit has h = absurd (none-some has h)
at_place (x ∷ xs) zero has h = some-same x has h
at_place (x ∷ xs) (suc unit) has h = at_place xs unit has h

-- what is told of each unit, of one that is a unit
pub known_attached : (attached : List Bool) (card : ℕ → Option (List ℕ)) → ((unit : ℕ) → slice_index_or attached unit false ≡ is_some (card unit))
    → (unit : ℕ) (has : Bool) → slice_get attached unit ≡ Some has → has ≡ is_some (card unit)
known_attached attached card all unit has h = sym (at_place attached unit has h) ∙ all unit
