-- How what was planned is carried out, from what is written of it.
use Rattle.std.proofs.Common.{◌≡◌, ℕ, ◌<◌, Bool, List, IsTrue, Result, refl, sym, ◌∙◌, ap, subst}
use Rattle.newt_base.specs.declared.Refusal.TheVariants.{Full}
use Rattle.newt_host.specs.Moments.{image, IsDurable, Leaves}
use Rattle.newt_host.specs.Outside.{Outside, Spends}
use Rattle.newt_host.proofs.Outside.{NoFault-refl, Touches-refl, Wears-refl}
use Rattle.newt_spec_graph.specs.Lists.{Among}
use Rattle.newt_spec_image.specs.Pages.{cap}
use Rattle.newt_spec_store.specs.OfImage.{blocks_of}
use Rattle.newt_pagebook.specs.Book.{IsOpenFor, Numbers}
use Rattle.newt_objects.specs.Held.{Held}
use Rattle.newt_objects_commit.specs.Batch.{AreOnce, CanBePlanned, IsApart}
use Rattle.newt_objects_commit.specs.Calls.{CommitsObjects}
use Rattle.newt_objects_commit.specs.Faults.{RefusesOnly}
use Rattle.newt_objects_commit.specs.Names.{names_of}
use Rattle.newt_objects_commit.specs.Places.{place_of}
use Rattle.newt_store_catalog.specs.Stands.{IsSound, StandsFor}
use Rattle.newt_store_catalog.specs.declared.catalog.Catalog.{Catalog}
use Rattle.newt_store_change.specs.declared.fault.StoreFault.{StoreFault}
use Rattle.newt_spec_store.specs.Store.{Store}
use Rattle.newt_store.specs.Calls.{LeavesStore}
use Rattle.newt_store.specs.Next.{HoldsEither, IsNextOf, Turns, WritesNext, all_gone, next_bytes, turn_bytes}
use Rattle.newt_store.specs.Writes.{MakesNext, TurnsUnit, WritesObjects}
use Rattle.newt_store.specs.declared.next.Next.{Next}
use Rattle.newt_store.proofs.Carrying.{AreGone, gone-there, gone-above, gone-once, gone-apart, cost-after, leaves-store, leaves-same}
use Rattle.newt_store.proofs.Ends.{ends-memory, wears-nothing}
use Rattle.newt_store.proofs.Going.{bytes-turn}
use Rattle.newt_store.proofs.Unanswered.{IsMemory, memory-on, memory-if, memory-err, memory-stops, memory-refuses}
use Rattle.newt_store.proofs.Writing.{spends-nothing}

-- ---- memory was wanting before anything was written

pub leaves-memory : {B : Type 0} (place : B → ℕ) (numbers : B → Numbers) (standing : Bool → B → Outside → Type 0) (told : Bool) (catalog : Catalog) (book : B) (outside : Outside) (r : Result ℕ StoreFault)
    → IsMemory r → LeavesStore place numbers standing told catalog book book outside outside r
leaves-memory place numbers standing told catalog book outside r memory = record {
  book = λ goes. absurd (memory-stops r memory goes);
  sound = λ goes. absurd (memory-stops r memory goes);
  same_place = refl;
  nothing_done = λ is. refl;
  unchanged = λ is. refl;
  open_after = λ tells. memory-on r _ memory;
  alone = Touches-refl (place book) outside;
  ends = ends-memory r _ (NoFault-refl outside) memory refl;
}

pub makes-memory : (told : Bool) (unit : ℕ) (next : Next) (catalog made : Catalog) (outside : Outside) (r : Result ℕ StoreFault) → IsMemory r → MakesNext told unit next catalog made outside outside r
makes-memory told unit next catalog made outside r memory = record {
  answer = memory-if r (λ n. n ≡ next.answer) memory;
  changed = λ tells s t stands turns. memory-on r _ memory;
  fits = λ tells s t stands turns. memory-on r _ memory;
  full = λ is tells s t stands turns. absurd (memory-refuses r memory is);
  only = memory-err r (RefusesOnly Full) memory tt;
  still = λ is tells s t stands turns. absurd (memory-refuses r memory is);
}

pub unit-same : (told : Bool) (unit : ℕ) (next : Next) (catalog : Catalog) (outside : Outside) → (IsTrue told → IsDurable unit outside.now) → TurnsUnit told unit next catalog outside outside
unit-same told unit next catalog outside durable = record {
  any_moment = λ tells s t stands turns. leaves-same catalog s t unit outside.now stands (durable tells);
  bound = λ tells s t stands turns room. spends-nothing unit (turn_bytes next s t) 0 outside;
  wears = λ tells s t stands turns room. wears-nothing unit outside;
  too_many = λ tells s t stands turns more. (spends-nothing unit 0 0 outside, Wears-refl unit outside);
  idle = λ tells s t stands turns more. refl;
}

-- ---- what is written

module _ (told : Bool) (catalog : Catalog) (next : Next) (records gone : List ℕ) {B : Type 0} (place : B → ℕ) (numbers : B → Numbers) (standing : Bool → B → Outside → Type 0) (old : B) (before : Outside)
    (sound : IsSound told catalog (numbers old) (place old) before) (is : IsNextOf catalog next) (are : AreGone (place_of catalog.places) next.gone records) (once : AreOnce records)
    (ids-are : gone ≡ all_gone (names_of catalog.names) records next.entry) where
  pub can-planned : CanBePlanned catalog.objects next.entry gone
  can-planned = record {
    none = sound.kept.none;
    ids = is.ids;
    apart = subst (λ (l : List ℕ). IsApart next.entry l) (sym ids-are) (gone-apart catalog next records sound.places sound.names is are);
    there = λ id m. gone-there catalog next records sound.places sound.names is are id (subst (λ (l : List ℕ). Among l id) ids-are m);
    above = λ id m. gone-above catalog next records sound.places sound.names is are id (subst (λ (l : List ℕ). Among l id) ids-are m);
    once = subst (λ (l : List ℕ). AreOnce l) (sym ids-are) (gone-once catalog next records sound.places sound.names is are once);
  }

  pub unit-turns : (new : B) (written : Held) (after : Outside) (r : Result (Unit {0}) StoreFault)
      → CommitsObjects place numbers standing told written (next_bytes next catalog.objects gone) 0 old new before after r
      → WritesObjects told (place old) next gone catalog.objects written before after r → TurnsUnit told (place old) next catalog before after
  unit-turns new written after r commits writes =
      let unit : ℕ = place old in
      let now : List ℕ = image unit before.now in
      let size : (s t : Store) → IsTrue told → StandsFor catalog s now → Turns catalog next s t → next_bytes next catalog.objects gone ≡ turn_bytes next s t = λ s t tells stands turns.
      ap (λ (l : List ℕ). next_bytes next catalog.objects l) ids-are
      ∙ bytes-turn told catalog (numbers old) unit before sound.kept sound.places sound.names tells s stands next records t once are is turns in
      record {
        any_moment = λ tells s t stands turns. leaves-store catalog next records sound.places sound.names is are s t now stands turns unit before.now after.now
            (subst (λ (l : List ℕ). Leaves unit (HoldsEither now next l stands.texts) before.now after.now) ids-are (writes.any_moment tells stands.texts stands.holds));
        bound = λ tells s t stands turns room.
            let same = size s t tells stands turns in
            subst (λ (n : ℕ). Spends unit n 0 before after) same (commits.bound tells (subst (λ (n : ℕ). IsOpenFor n now) (sym same) room));
        wears = λ tells s t stands turns room. commits.wears tells (subst (λ (n : ℕ). IsOpenFor n now) (sym (size s t tells stands turns)) room);
        too_many = λ tells s t stands turns more. writes.too_many tells stands.texts stands.holds (λ will wrote.
            subst (λ (n : ℕ). cap (blocks_of now) < n) (sym (cost-after catalog next records sound.places sound.names is are s t now stands turns will (subst (λ (l : List ℕ). WritesNext next l stands.texts will) ids-are wrote))) more);
        idle = λ tells s t stands turns more. writes.idle tells stands.texts stands.holds (λ will wrote.
            subst (λ (n : ℕ). cap (blocks_of now) < n) (sym (cost-after catalog next records sound.places sound.names is are s t now stands turns will (subst (λ (l : List ℕ). WritesNext next l stands.texts will) ids-are wrote))) more);
      }
