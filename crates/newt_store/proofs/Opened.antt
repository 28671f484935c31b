-- A store that is open, before and after calls on its unit.
use Rattle.std.proofs.Common.{◌≡◌, ℕ, Bool, List, IsTrue, Some, Err, sym, subst}
use Rattle.newt_host.specs.Moments.{Moment, image}
use Rattle.newt_host.specs.Outside.{Outside}
use Rattle.newt_pagebook.specs.Book.{Numbers}
use Rattle.newt_objects_commit.specs.Names.{names_of}
use Rattle.newt_objects_commit.specs.Places.{place_of}
use Rattle.newt_spec_store.specs.Store.{Store}
use Rattle.newt_store_catalog.specs.Calls.{CanRead, HasEntry}
use Rattle.newt_store_catalog.specs.Reading.{ReadsOf}
use Rattle.newt_store_catalog.specs.Stands.{IsSound, StandsFor}
use Rattle.newt_store_catalog.specs.declared.catalog.Catalog.{Catalog}
use Rattle.newt_store_catalog.proofs.Opening.{same-image}
use Rattle.newt_store_change.specs.Faults.{GoesOn, IsRefused}
use Rattle.newt_store_change.specs.declared.fault.StoreFault.{StoreFault}
use Rattle.newt_store_change.specs.declared.fault.StoreFault.TheVariants.{Refused, Stop}
use Rattle.newt_store.specs.Calls.{AreOpen, KeepsStore}
use Rattle.newt_store.proofs.Applying.{sound-over}
use Rattle.newt_store.proofs.Entries.{found-at}

-- what is kept in memory of a store holds over every host
pub keeps-store : {told : Bool} {catalog : Catalog} {numbers : Numbers} {unit : ℕ} {outside : Outside} → IsSound told catalog numbers unit outside → KeepsStore catalog
keeps-store sound = record { formed = sound.formed; places = sound.places; names = sound.names }

module _ {B : Type 0} {place : B → ℕ} {numbers : B → Numbers} {standing : Bool → B → Outside → Type 0} {told : Bool} {catalog : Catalog} {book : B} {outside : Outside} (open-store : AreOpen place numbers standing told book catalog outside) where
  -- its objects may be read
  pub can-open : CanRead place numbers standing told catalog.objects book outside
  can-open = record { stands = open-store.book; kept = open-store.sound.kept }

  -- and where an entry has a place, it lies there
  pub has-record : (sig uid id : ℕ) → place_of catalog.places sig uid ≡ Some id → HasEntry told catalog.objects id (image (place book) outside.now)
  has-record sig uid id at = record {
    there = open-store.sound.places.there sig uid id at;
    lies = λ tells.
        let w = open-store.shows tells in
        let f = found-at catalog.directory (place_of catalog.places) (names_of catalog.names) w.1.texts w.0 w.1.describes sig uid id at in
        record { texts = w.1.texts; holds = w.1.holds; sig = sig; entry = f.entry; ids = names_of catalog.names id; laid = f.laid };
  }

  -- after a reading it is open
  pub open-over : {after-book : B} {after : Outside} → ReadsOf place numbers standing told catalog.objects book after-book outside after → AreOpen place numbers standing told after-book catalog after
  open-over {after-book = after-book} {after = after} r = record {
    book = r.stood;
    sound = sound-over told catalog (numbers book) (numbers after-book) (place book) (place after-book) outside after r.same_place r.same_numbers r.looks.moment open-store.sound;
    shows = λ tells.
        let w = open-store.shows tells in
        (w.0, subst (λ (img : List ℕ). StandsFor catalog w.0 img) (sym (same-image (place book) (place after-book) outside.now after.now r.same_place r.looks.moment)) w.1);
  }

  -- after a change that is made it shows the store that was made
  pub shows-made : (next : Store → Store) (made : Catalog) (unit : ℕ) (after : Outside) → unit ≡ place book → ((s : Store) → IsTrue told → StandsFor catalog s (image (place book) outside.now) → StandsFor made (next s) (image (place book) after.now))
      → IsTrue told → (s : Store) × StandsFor made s (image unit after.now)
  shows-made next made unit after same changed tells =
      let w = open-store.shows tells in
      (next w.0, subst (λ (u : ℕ). StandsFor made (next w.0) (image u after.now)) (sym same) (changed w.0 tells w.1))

  -- after a refusal, the store that it showed
  pub shows-still : (made : Catalog) (unit : ℕ) (after : Outside) → unit ≡ place book → after.now ≡ outside.now → ((s : Store) → IsTrue told → StandsFor catalog s (image (place book) outside.now) → StandsFor made s (image (place book) outside.now))
      → IsTrue told → (s : Store) × StandsFor made s (image unit after.now)
  shows-still made unit after same moment still = shows-made (λ s. s) made unit after same (λ s tells stands. subst (λ (m : Moment). StandsFor made s (image (place book) m)) (sym moment) (still s tells stands))

-- where the run goes on after a fault, this was a refusal
pub refused-on : (fault : StoreFault) → GoesOn {T = ℕ} (Err fault) → IsRefused {T = ℕ} (Err fault)
refused-on (Refused refusal) goes = tt
refused-on (Stop stop) goes = absurd goes
