-- What stands between commands, and what no command takes away. (Proofs stand here too, since the
-- ghost laws of the interpreter cite them.)
use Rattle.std.proofs.Common.{◌≡◌, ◌≤◌, ℕ, List, Bool, true, IsTrue, Option, Some, refl}
use Rattle.newt_host.specs.Moments.{IsDurable, MayLeave, image}
use Rattle.newt_host.specs.Outside.{Outside}
use Rattle.newt_pagebook.specs.Book.{IsSameFor}
use Rattle.newt_laws_steps.specs.Devices.{SameDevices}
use Rattle.newt_spec_graph.specs.Lists.{Among}
use Rattle.newt_spec_store.specs.Laid.{bare}
use Rattle.newt_spec_store.specs.Store.{Store}
use Rattle.newt_spec_store.specs.Valid.{well_formed}
use Rattle.newt_spec_whole.specs.Whole as plain
use Rattle.newt_spec_whole.specs.Whole.{stores_on}
use Rattle.newt_laws_steps.specs.Answering.{ReadsOneOf}
use Rattle.newt_engine.specs.Laws as world
use Rattle.newt_engine_whole.specs.Standing.{Means, Standing}
use Rattle.newt_engine_whole.specs.declared.whole.Whole.{Whole}

pub still_stands : {C : Type 0} {reads : List ℕ → Option Store} {place : C → ℕ}
    {stands : Bool → C → Outside → Type 0}
    → ((told : Bool) (card : C) (old new : Outside) → stands told card old
    → IsSameFor told (place card) old new → stands told card new)
    → ((card : C) (outside : Outside) → stands true card outside
    → IsDurable (place card) outside.now)
    → (told : Bool) (it : Whole C) (old new : Outside) → SameDevices told old new
    → Standing reads place stands told it old → Standing reads place stands told it new
still_stands kept durable told it old new same s = record {
  world = world.still_stands kept durable told it.world.units it.world.desk old new same s.world;
  watches = s.watches;
  drafts = s.drafts;
}

pub stood_for : {C : Type 0} {reads : List ℕ → Option Store} {place : C → ℕ} {soups : C → Store}
    {stands : Bool → C → Outside → Type 0}
    → ((bytes : List ℕ) (s : Store) → reads bytes ≡ Some s → IsTrue (well_formed s))
    → ((card : C) (outside : Outside) → stands true card outside
    → (s : Store) × (reads (image (place card) outside.now) ≡ Some s) × (bare s ≡ soups card))
    → ((card : C) (outside : Outside) → stands true card outside
    → IsDurable (place card) outside.now)
    → ((told : Bool) (card : C) (outside : Outside) → stands told card outside
    → 13 ≤ outside.blocks (place card))
    → ((told : Bool) (card : C) (old new : Outside) → stands told card old
    → IsSameFor told (place card) old new → stands told card new)
    → (it : Whole C) (outside : Outside) → Standing reads place stands true it outside
    → (h : plain.Whole) × Means reads it outside h
stood_for formed plain_store durable banks kept it outside s =
    let laws = world.laws_of formed plain_store durable banks kept in
    let w = world.has_world laws it.world.units it.world.desk outside s.world in (
      record { world = w.0; watches = s.watches.0; copies = it.works },
      record { world = w.1; watches = s.watches.1; copies = refl },
    )

pub still_means : {C : Type 0} (reads : List ℕ → Option Store) (it : Whole C) (old new : Outside)
    (h : plain.Whole) → SameDevices true old new → Means reads it old h → Means reads it new h
still_means reads it old new h same m = record {
  world = world.same_worlds reads it.world.units it.world.desk old new h.world same m.world;
  watches = m.watches;
  copies = m.copies;
}

pub whole_leaves : {C : Type 0} (reads : List ℕ → Option Store) (it : Whole C) (outside : Outside)
    (h : plain.Whole) → Means reads it outside h → (unit : ℕ) (store : Store) (left : List ℕ)
    → Among (stores_on h unit) store → MayLeave unit outside.now left
    → ReadsOneOf reads (stores_on h unit) left
whole_leaves reads it outside h m unit store left is may =
    world.leaves_stores reads it.world.units it.world.desk outside h.world m.world
    unit store left is may
