-- The whole that is known is one that is stood for.
use Rattle.std.proofs.Common.{refl, ℕ, List, Bool, true, IsTrue, Option}
use Rattle.newt_host.specs.Outside.{Outside}
use Rattle.newt_spec_store.specs.Store.{Store}
use Rattle.newt_laws_steps.proofs.StoodFor.{known-stands}
use Rattle.newt_engine_units.proofs.Known.{Laws}
use Rattle.newt_engine.specs.Laws.{units_kept}
use Rattle.newt_engine.specs.Standing.{marks_of}
use Rattle.newt_engine.proofs.Applying.{standing-told}
use Rattle.newt_engine_whole.specs.Standing.{Means, Standing, known_whole}
use Rattle.newt_engine_whole.specs.declared.whole.Whole.{Whole}

pub whole-told : {C : Type 0} {reads : List ℕ → Option Store} {place : C → ℕ} {stands : Bool → C → Outside → Type 0} {told : Bool} {it : Whole C} {o : Outside}
    → Standing reads place stands told it o → IsTrue told → Standing reads place stands true it o
whole-told s t = record { world = standing-told s.world t; watches = s.watches; drafts = λ k. s.drafts t }

pub known-means : {C : Type 0} {reads : List ℕ → Option Store} {place : C → ℕ} {soups : C → Store} {stands : Bool → C → Outside → Type 0} → Laws reads place soups stands → (it : Whole C) (o : Outside)
    → (s : Standing reads place stands true it o) → Means reads it o (record (known_whole reads it o) { watches = s.watches.0 })
known-means {C} {reads} laws it o s = record {
  world = known-stands reads (marks_of it.world) o (units_kept laws it.world.units it.world.desk o s.world);
  watches = s.watches.1;
  copies = refl;
}
