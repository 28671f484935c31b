-- What a change writes, from what is planned of it.
use Rattle.newt_spec_image.specs.Records.{version}
use Rattle.std.proofs.Common.{◌≡◌, ◌≢◌, inl, inr, ℕ, ◌+◌, Bool, List, [], ◌∷◌, map as map_list, length, Option, Some, None, IsSome, IsTrue, Result, Ok, Err, OnOk, refl, sym, ◌∙◌, ap, subst, arith, ⊎_elim}
use Rattle.std.specs.FinMap as map
use Rattle.std.specs.Option.{option_map}
use Rattle.std.proofs.lemmas.Bool.{cases_eq}
use Rattle.newt_base.specs.declared.Refusal.{Refusal}
use Rattle.newt_base.specs.declared.Refusal.TheVariants.{Full}
use Rattle.newt_host.specs.Moments.{Moment, image, IsDurable, Leaves}
use Rattle.newt_host.specs.Outside.{Outside, Spends}
use Rattle.newt_host.proofs.Outside.{NoFault-refl, Spends-refl, Spends-widen, Touches-refl, Wears-refl}
use Rattle.newt_spec_store.specs.Cost.{pages_bytes}
use Rattle.newt_host.proofs.Moments.{Leaves-start, Leaves-weaken}
use Rattle.newt_spec_image.specs.Pages.{Pages, Change}
use Rattle.newt_spec_image.specs.Objects.{AreObjectsOf, joined, Objects}
use Rattle.newt_pagebook.specs.Batch.{no_change}
use Rattle.newt_pagebook.specs.Book.{Numbers, batch_bytes}
use Rattle.newt_pagebook.proofs.Tests.{some_inj}
use Rattle.newt_objects.specs.Held.{Held, held, planned}
use Rattle.newt_objects.specs.Changing.{HoldsObjects, IsUnderWay}
use Rattle.newt_objects.proofs.Changing.{start_under_way}
use Rattle.newt_objects.proofs.Same.{texts_by}
use Rattle.newt_spec_graph.specs.Lists.{Among}
use Rattle.newt_laws_changes.proofs.Lying.{among-or-not}
use Rattle.newt_objects_commit.specs.declared.batch.NewEntry.{NewEntry}
use Rattle.newt_objects_commit.specs.declared.batch.NewLarge.{NewLarge}
use Rattle.newt_store_change.specs.declared.fault.StoreFault.{StoreFault}
use Rattle.newt_store_change.specs.declared.fault.StoreFault.TheVariants.{Refused, Stop}
use Rattle.newt_objects_commit.specs.Batch.{AreWritten, AddsPages, LeadsTo, directory_over, directory_puts, large_ids, new_pages, over_pages, all_pages_held, put_or}
use Rattle.newt_objects_commit.specs.Calls.{CommitsObjects}
use Rattle.newt_objects_commit.specs.Commit.{AreKept, IsPlanned, IsEither, MakesPlanned}
use Rattle.newt_objects_commit.specs.Faults.{RefusesOnly}
use Rattle.newt_store.specs.declared.next.Next.{Next}
use Rattle.newt_store.specs.Next.{WritesNext, HoldsEither, next_bytes, written_bytes}
use Rattle.newt_store.specs.Writes.{WritesObjects}
use Rattle.newt_store_change.specs.Faults.{FaultsAt, GoesOn, IsRefused}
use Rattle.newt_store_catalog.proofs.Kept.{held-are}
use Rattle.newt_spec_image.specs.Objects.{Extent}
use Rattle.newt_objects.proofs.TextsOf.{texts_of}
use Rattle.newt_store.proofs.Ends.{wears-nothing}
use Rattle.newt_store.proofs.Unanswered.{IsMemory, memory-on, memory-err, memory-stops, memory-refuses, memory-fits}

-- ---- answers

abbrev pub failed : StoreFault → Result (Unit {0}) StoreFault
failed fault = Err fault

pub full-refused : (fault : StoreFault) → RefusesOnly Full fault → IsRefused (failed fault) → fault ≡ Refused Full
full-refused (Refused refusal) only goes = ap (λ (r : Refusal). Refused r) only
full-refused (Stop stop) only goes = absurd goes

pub the-fault : {fault : StoreFault} → fault ≡ Refused Full → failed fault ≡ failed (Refused Full)
the-fault is = ap failed is

pub goes-refused : (fault : StoreFault) → GoesOn (failed fault) → IsRefused (failed fault)
goes-refused (Refused refusal) goes = tt
goes-refused (Stop stop) goes = absurd goes

-- ---- what is planned

module _ (told : Bool) (objects : Held) (numbers : Numbers) (unit : ℕ) (outside : Outside) (kept : AreKept told objects numbers unit outside) where
  abbrev live : Pages
  live = kept.are.live

  pub start-way : (before : Objects) → AreObjectsOf live before → IsUnderWay objects no_change live before
  start-way before are = start_under_way objects live before kept.none kept.are.is_table are

  pub planned-made : (now : Held) (batch : Change) (before after : Objects) → AreObjectsOf live before → IsUnderWay now batch live after → IsPlanned told now batch numbers (image unit outside.now) before after
  planned-made now batch before after are way = record { live = live; are = kept.are.are; were = are; way = way }

-- what stands in a list of values is the value of an element
map-among : {X : Type 0} (f : X → ℕ) (xs : List X) (n : ℕ) → Among (map_list f xs) n → (x : X) × Among xs x × (f x ≡ n)
map-among f [] n m = absurd m
map-among f (x ∷ xs) n (inl e) = (x, inl refl, e)
map-among f (x ∷ xs) n (inr m) = let w = map-among f xs n m in (w.0, inr w.1, w.2)

some-map : {A B : Type 0} (f : A → B) (o : Option A) → IsSome o → IsSome (option_map f o)
some-map f None some = some
some-map f (Some x) some = refl

map-some : {A B : Type 0} (f : A → B) (o : Option A) → IsSome (option_map f o) → IsSome o
map-some f None some = some
map-some f (Some x) some = refl

is-some : {A : Type 0} (o : Option A) (x : A) → o ≡ Some x → IsSome o
is-some o x is = subst (λ (o : Option _). IsSome o) (sym is) refl

-- what lies where, once the plans are taken over
module _ (objects now : Held) (batch : Change) (live : Pages) (before after : Objects) (directory : Option (List ℕ)) (entry : Option NewEntry) (gone : List ℕ)
    (start : IsUnderWay objects no_change live before) (were : AreObjectsOf live before) (way : IsUnderWay now batch live after) (wrote : AreWritten directory entry gone before after) where
  in-after : (id : ℕ) → IsSome (map.get after id) → IsSome (planned now id)
  in-after id some = map-some (joined _) (planned now id) (subst (λ (o : Option (List ℕ)). IsSome o) (way.would.each id) some)

  pub planned-new : (e : NewEntry) → entry ≡ Some e → IsSome (planned now e.id)
  planned-new e is = in-after e.id (is-some (map.get after e.id) e.bytes.items (wrote.entry_is e is))

  pub planned-larges : (e : NewEntry) (id : ℕ) → entry ≡ Some e → Among (large_ids e) id → IsSome (planned now id)
  planned-larges e id is m =
      let l = map-among (λ (l : NewLarge). l.id) e.larges.items id m in
      subst (λ (n : ℕ). IsSome (planned now n)) l.2 (in-after l.0.id (is-some (map.get after l.0.id) l.0.bytes.items (wrote.larges_are e l.0 is l.1)))

  pub planned-there : (id : ℕ) → IsSome (held objects id) → (Among gone id → ⊥) → IsSome (planned now id)
  planned-there id there stays = ⊎_elim
      (λ (zero : id ≡ 0). in-after id (subst (λ (n : ℕ). IsSome (map.get after n)) (sym zero) (directory-there directory wrote.directory_is (subst (λ (n : ℕ). IsSome (held objects n)) zero there))))
      (λ (other : id ≢ 0). with-entry other entry refl)
      (cases_eq id 0) where
        directory-there : (d : Option (List ℕ)) → map.get after 0 ≡ put_or d (map.get before 0) → IsSome (held objects 0) → IsSome (map.get after 0)
        directory-there (Some bytes) is was = is-some (map.get after 0) bytes is
        directory-there None is was = subst (λ (o : Option (List ℕ)). IsSome o) (sym (is ∙ texts_by live (held objects) before were start.is_table 0)) (some-map (joined live) (held objects 0) was)

        untouched : id ≢ 0 → ((e : NewEntry) → entry ≡ Some e → e.id ≢ id) → ((e : NewEntry) → entry ≡ Some e → Among (large_ids e) id → ⊥) → IsSome (planned now id)
        untouched other new larges = in-after id (subst (λ (o : Option (List ℕ)). IsSome o)
            (sym (wrote.others id other new larges stays ∙ texts_by live (held objects) before were start.is_table id)) (some-map (joined live) (held objects id) there))

        with-entry : id ≢ 0 → (o : Option NewEntry) → entry ≡ o → IsSome (planned now id)
        with-entry other None e = untouched other (λ x is same. absurd (let no : None ≡ Some x = sym e ∙ is in cc)) (λ x is m. absurd (let no : None ≡ Some x = sym e ∙ is in cc))
        with-entry other (Some x) e = ⊎_elim
            (λ (same : x.id ≡ id). subst (λ (n : ℕ). IsSome (planned now n)) same (planned-new x e))
            (λ (ne : x.id ≢ id). ⊎_elim
            (λ (m : Among (large_ids x) id). planned-larges x id e m)
            (λ (out : Among (large_ids x) id → ⊥). untouched other
            (λ y is same. ne (ap (λ (z : NewEntry). z.id) (some_inj x y (sym e ∙ is)) ∙ same))
            (λ y is m. out (subst (λ (z : NewEntry). Among (large_ids z) id) (sym (some_inj x y (sym e ∙ is))) m)))
            (among-or-not (large_ids x) id))
            (cases_eq x.id id)

-- ---- at every moment

pub either-next : (now : List ℕ) (next : Next) (gone : List ℕ) (before after : Objects) (left : List ℕ) → WritesNext next gone before after → IsEither now before after left → HoldsEither now next gone before left
either-next now next gone before after left wrote e = record {
  size = e.size;
  holds = ⊎_elim (λ was. inl was) (λ is. inr (after, is.0, wrote, is.1, is.2)) e.holds;
}

pub leaves-next : (unit : ℕ) (now : List ℕ) (next : Next) (gone : List ℕ) (before after : Objects) (old new : Moment) → WritesNext next gone before after → Leaves unit (IsEither now before after) old new → Leaves unit (HoldsEither now next gone before) old new
leaves-next unit now next gone before after old new wrote leaves = Leaves-weaken (λ left e. either-next now next gone before after left wrote e) leaves

-- nothing was written yet
pub leaves-none : (unit : ℕ) (next : Next) (gone : List ℕ) (before : Objects) (old : Moment) → HoldsObjects (image unit old) before → IsDurable unit old → Leaves unit (HoldsEither (image unit old) next gone before) old old
leaves-none unit next gone before old holds durable = Leaves-start (λ left may.
    let same : left ≡ image unit old = durable left may in
    record { size = ap (λ (l : List ℕ). length l) same; holds = inl (subst (λ (l : List ℕ). HoldsObjects l before) (sym same) holds, ap version same) })

-- ---- how many bytes

-- nothing was programmed or fetched
pub spends-nothing : (unit programs fetches : ℕ) (outside : Outside) → Spends unit programs fetches outside outside
spends-nothing unit programs fetches outside = Spends-widen 0 0 programs fetches (omega arith) (omega arith) (Spends-refl unit outside)

in-all : (x first a d p e : ℕ) → x ≡ first + (a + p) → first ≡ 0 → a ≡ d → p ≡ e → x ≡ d + e
in-all x first a d p e is none same also = omega (arith, is, none, same, also)

-- the batch has the bytes that are said
pub bytes-planned : (next : Next) (objects : Held) (gone : List ℕ) (bytes : Option (List ℕ)) (first batch : Change) → first ≡ no_change → bytes ≡ written_bytes next.directory
    → AddsPages (directory_puts bytes + new_pages next.entry) (directory_over objects bytes + over_pages objects next.entry + all_pages_held objects gone) first batch → batch_bytes batch ≡ next_bytes next objects gone
unfolding next_bytes
bytes-planned next objects gone bytes first batch none is adds =
    let a : length first.puts ≡ 0 = ap (λ (c : Change). length c.puts) none in
    let b : length first.deletes ≡ 0 = ap (λ (c : Change). length c.deletes) none in
    let p : length batch.puts ≡ directory_puts (written_bytes next.directory) + new_pages next.entry = in-all _ _ _ _ _ _ adds.more_puts a (ap directory_puts is) refl in
    let q : length batch.deletes ≡ directory_over objects (written_bytes next.directory) + over_pages objects next.entry + all_pages_held objects gone =
    in-all _ _ _ _ _ _ adds.more_deletes b (ap (λ (d : Option (List ℕ)). directory_over objects d + over_pages objects next.entry) is) refl in
    λ i. pages_bytes (p i) (q i)

-- ---- what is promised of it

-- the plans lead from no plan to what a change writes
abbrev pub LeadsOn : Next → List ℕ → Held → Held → Change → Type 0
LeadsOn next gone objects planning batch = LeadsTo (WritesNext next gone) objects no_change planning batch

pub leads-on : (next : Next) (gone : List ℕ) (bytes : Option (List ℕ)) (objects : Held) (first : Change) (planning : Held) (batch : Change) → first ≡ no_change → bytes ≡ written_bytes next.directory
    → LeadsTo (AreWritten bytes next.entry gone) objects first planning batch → LeadsOn next gone objects planning batch
leads-on next gone bytes objects first planning batch none is leads =
    subst (λ (l : Option (List ℕ)). LeadsTo (AreWritten l next.entry gone) objects no_change planning batch) is
    (subst (λ (b : Change). LeadsTo (AreWritten bytes next.entry gone) objects b planning batch) none leads)

on-ok : {T : Type 0} (r : Result T StoreFault) (A B : Type 0) → (A → B) → OnOk r A → OnOk r B
on-ok (Ok x) A B f a = f a
on-ok (Err e) A B f a = tt

module _ (told : Bool) (objects : Held) (numbers : Numbers) (unit : ℕ) (outside : Outside) (kept : AreKept told objects numbers unit outside)
    (next : Next) (gone : List ℕ) (planning new : Held) (batch : Change) (later : Outside) (r : Result (Unit {0}) StoreFault) where
  -- objects that are held are planned, and then they are those after the change
  led : LeadsOn next gone objects planning batch → (was : Objects) → AreObjectsOf kept.are.live was
      → (will : Objects) × IsPlanned told planning batch numbers (image unit outside.now) was will × WritesNext next gone was will
  led leads was are =
      let made = leads kept.are.live was (start-way told objects numbers unit outside kept was are) in
      (made.0, planned-made told objects numbers unit outside kept planning batch was made.0 are made.1, made.2)

  pub writes-objects : LeadsOn next gone objects planning batch → ((id : ℕ) → held planning id ≡ held objects id)
      → MakesPlanned told unit batch numbers planning new outside later r → WritesObjects told unit next gone objects new outside later r
  writes-objects leads same makes =
      let live : Pages = kept.are.live in
      let texts = texts_of live (held objects) kept.are.is_table in
      let start = start-way told objects numbers unit outside kept texts.0 texts.1 in
      let made = leads live texts.0 start in
      let some : (id : ℕ) → IsSome (planned planning id) → held new id ≡ planned planning id → IsSome (held new id) = λ id there is. subst (λ (x : Option Extent). IsSome x) (sym is) there in
      record {
        new = on-ok r _ _ (λ is e new-is. some e.id (planned-new objects planning batch live texts.0 made.0 _ next.entry gone start texts.1 made.1 made.2 e new-is) (is e.id)) makes.made;
        new_larges = on-ok r _ _ (λ is e id new-is m. some id (planned-larges objects planning batch live texts.0 made.0 _ next.entry gone start texts.1 made.1 made.2 e id new-is m) (is id)) makes.made;
        there = on-ok r _ _ (λ is id there stays. some id (planned-there objects planning batch live texts.0 made.0 _ next.entry gone start texts.1 made.1 made.2 id there stays) (is id)) makes.made;
        holds = λ tells was holds.
            let w = led leads was (held-are told objects numbers unit outside kept was tells holds) in
            on-ok r _ _ (λ done. (w.0, done.0, w.2, done.1, done.2)) (makes.holds tells was w.0 w.1);
        full = λ is tells was holds.
            let w = led leads was (held-are told objects numbers unit outside kept was tells holds) in
            (w.0, w.2, makes.full is tells was w.0 w.1);
        only = makes.only;
        still = λ is id. makes.still is id ∙ same id;
        any_moment = λ tells was holds.
            let w = led leads was (held-are told objects numbers unit outside kept was tells holds) in
            leaves-next unit (image unit outside.now) next gone was w.0 outside.now later.now w.2 (makes.any_moment tells was w.0 w.1);
        too_many = λ tells was holds each.
            let w = led leads was (held-are told objects numbers unit outside kept was tells holds) in
            (makes.too_many tells was w.0 w.1 (each w.0 w.2), makes.too_many_wears tells was w.0 w.1 (each w.0 w.2));
        idle = λ tells was holds each.
            let w = led leads was (held-are told objects numbers unit outside kept was tells holds) in
            makes.idle tells was w.0 w.1 (each w.0 w.2);
      }

-- memory was wanting before anything was written
pub commits-memory : {B : Type 0} (place : B → ℕ) (numbers : B → Numbers) (standing : Bool → B → Outside → Type 0) (told : Bool) (objects : Held) (bytes fetches : ℕ) (book : B) (outside : Outside) (r : Result (Unit {0}) StoreFault)
    → IsMemory r → standing told book outside → CommitsObjects place numbers standing told objects bytes fetches book book outside outside r
commits-memory place numbers standing told objects bytes fetches book outside r memory stands = record {
  stands = λ goes. stands;
  kept = λ goes. absurd (memory-stops r memory goes);
  same_place = refl;
  nothing_done = λ is. refl;
  unchanged = λ is. refl;
  bound = λ tells room. spends-nothing (place book) bytes fetches outside;
  wears = λ tells room. wears-nothing (place book) outside;
  open_after = λ tells. memory-on r _ memory;
  alone = Touches-refl (place book) outside;
  cause = memory-err r (FaultsAt (place book) outside outside) memory (NoFault-refl outside);
  no_fault = λ goes. absurd (memory-stops r memory goes);
}

pub writes-memory : (told : Bool) (unit : ℕ) (next : Next) (gone : List ℕ) (old new : Held) (outside : Outside) (r : Result (Unit {0}) StoreFault)
    → IsMemory r → (IsTrue told → IsDurable unit outside.now) → WritesObjects told unit next gone old new outside outside r
writes-memory told unit next gone old new outside r memory durable = record {
  new = memory-on r _ memory;
  new_larges = memory-on r _ memory;
  there = memory-on r _ memory;
  holds = λ tells was holds. memory-on r _ memory;
  full = λ is tells was holds. absurd (memory-fits r memory is);
  only = memory-err r (RefusesOnly Full) memory tt;
  still = λ is id. absurd (memory-refuses r memory is);
  any_moment = λ tells was holds. leaves-none unit next gone was outside.now holds (durable tells);
  too_many = λ tells was holds each. (spends-nothing unit 0 0 outside, Wears-refl unit outside);
  idle = λ tells was holds each. refl;
}
