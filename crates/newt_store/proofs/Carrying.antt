-- A change that was written, and the memory that follows it.
use Rattle.std.proofs.Common.{◌≡◌, ◌≢◌, ◌⊎◌, inl, inr, ℕ, ◌%◌, ◌<◌, ◌≤◌, Bool, true, false, List, [], ◌∷◌, flat_map, Option, Some, None, IsSome, refl, sym, ◌∙◌, ap, subst, arith, ⊎_elim}
use Rattle.std.proofs.lemmas.Bool.{cases_eq}
use Rattle.newt_pagebook.proofs.Tests.{some_inj, true_or_false}
use Rattle.newt_host.specs.Moments.{Moment, image, IsDurable, Leaves}
use Rattle.newt_host.proofs.Moments.{Leaves-start, Leaves-weaken}
use Rattle.newt_spec_image.specs.Objects.{Extent, Table, Objects}
use Rattle.newt_spec_image.specs.Pages.{cap}
use Rattle.newt_objects.specs.Held.{held}
use Rattle.newt_objects.specs.Changing.{total_pages}
use Rattle.newt_spec_store.specs.Store.{Store}
use Rattle.newt_spec_store.specs.Cost.{cost}
use Rattle.newt_spec_store.specs.Lies.{Places}
use Rattle.newt_spec_store.specs.OfImage.{blocks_of}
use Rattle.newt_spec_graph.specs.Lists.{Each, Pairs, Among}
use Rattle.newt_spec_graph.proofs.Lists.{each-from, among-left, among-right, among-append, among-flat_map, flat_map-among, pairs-more, pairs-append, pairs-flat_map}
use Rattle.newt_laws_changes.specs.Written.{Names}
use Rattle.newt_laws_changes.proofs.Lying.{among-or-not}
use Rattle.newt_objects_commit.specs.Batch.{AreOnce, HasIds, IsApart, large_ids}
use Rattle.newt_objects_commit.specs.Names.{names_of, AreSoundNames}
use Rattle.newt_objects_commit.specs.declared.batch.NewEntry.{NewEntry}
use Rattle.newt_objects_commit.specs.Places.{place_of, AreSoundPlaces}
use Rattle.newt_store_catalog.specs.declared.catalog.Catalog.{Catalog}
use Rattle.newt_objects_commit.proofs.Planning.{odd_even}
use Rattle.newt_store.specs.declared.next.Gone.{Gone}
use Rattle.newt_store.specs.declared.next.Gone.TheVariants.{Nothing, OneEntry, AllOf}
use Rattle.newt_store.specs.declared.next.Next.{Next}
use Rattle.newt_store.specs.Next.{Goes, GoesAt, LosesNames, IsGoing, IsNew, IsNextOf, AreNext, ArePlacesNext, AreNamesNext, Turns, WritesNext, HoldsEither, IsEitherStore, directory_after, names_replaced, all_gone}
use Rattle.newt_store_catalog.specs.Readable.{readable}
use Rattle.newt_store_catalog.specs.Stands.{Describes, StandsFor}
use Rattle.newt_store.proofs.Reading.{read-back, total-cost, same-cap, keeps-same, keeps-all}

-- ---- what goes

-- the objects of the records of the entries that go
pub record AreGone (place : Places) (gone : Gone) (records : List ℕ) : Type 0 where
  pub real : (id : ℕ) → Among records id → (sig : ℕ) × (uid : ℕ) × Goes gone sig uid × (place sig uid ≡ Some id)
  pub all : (sig uid id : ℕ) → Goes gone sig uid → place sig uid ≡ Some id → Among records id

module _ (next : Next) (place : Places) (names : Names) (records : List ℕ) (are : AreGone place next.gone records) where
  replaced-going : (entry : Option NewEntry) (o : ℕ) → next.entry ≡ entry → Among (names_replaced names entry) o → IsGoing next place names o
  replaced-going None o is m = absurd m
  replaced-going (Some e) o is m = inr (e.id, inr (e, is, refl), m)

  -- an object that goes has the record of an entry that goes, or a record names it no more
  pub is-going : (o : ℕ) → Among (all_gone names records next.entry) o → IsGoing next place names o
  is-going o m = elim (among-append (flat_map (λ r. r ∷ names r) records) (names_replaced names next.entry) o m) [
    | inl first ↦ with-record (among-flat_map (λ r. r ∷ names r) records o first)
    | inr second ↦ replaced-going next.entry o refl second
  ]
    where
      with-record : (r : ℕ) × Among records r × Among (r ∷ names r) o → IsGoing next place names o
      with-record (r, in-records, inl same) = inl (subst (λ (n : ℕ). GoesAt next place n) same (are.real r in-records))
      with-record (r, in-records, inr named) = inr (r, inl (are.real r in-records), named)

  pub going-is : (o : ℕ) → IsGoing next place names o → Among (all_gone names records next.entry) o
  going-is o (inl (sig, uid, goes, at)) =
      among-left (flat_map (λ r. r ∷ names r) records) (names_replaced names next.entry) o (flat_map-among (λ r. r ∷ names r) records o o (are.all sig uid o goes at) (inl refl))
  going-is o (inr (r, inl (sig, uid, goes, at), m)) =
      among-left (flat_map (λ r. r ∷ names r) records) (names_replaced names next.entry) o (flat_map-among (λ r. r ∷ names r) records r o (are.all sig uid r goes at) (inr m))
  going-is o (inr (r, inr (e, is, same), m)) = among-right (flat_map (λ r. r ∷ names r) records) (names_replaced names next.entry) o
      (subst (λ (entry : Option NewEntry). Among (names_replaced names entry) o) (sym is) (subst (λ (n : ℕ). Among (names n) o) (sym same) m))

  -- what was written for the objects that go
  pub next-are : (old new : Objects) → WritesNext next (all_gone names records next.entry) old new → AreNext next place names old new
  next-are old new wrote = record {
    directory = wrote.directory_is;
    entry = wrote.entry_is;
    larges = wrote.larges_are;
    gone = λ o going. wrote.gone_are o (going-is o going);
    others = λ o ne fresh larges stays. wrote.others o ne fresh larges (λ m. stays (is-going o m));
  }

-- ---- places

-- fewer places are sound where these are
pub sound-fewer : (table table' : Table) (place place' : Places) → ((id : ℕ) → IsSome (table id) → IsSome (table' id)) → ((sig uid id : ℕ) → place' sig uid ≡ Some id → place sig uid ≡ Some id) → AreSoundPlaces table place → AreSoundPlaces table' place'
sound-fewer table table' place place' more fewer sound = record {
  there = λ sig uid id at. more id (sound.there sig uid id (fewer sig uid id at));
  odd = λ sig uid id at. sound.odd sig uid id (fewer sig uid id at);
  once = λ sig uid s u id at other. sound.once sig uid s u id (fewer sig uid id at) (fewer s u id other);
}

pub none-some : {A : Type 0} {x : A} → None ≡ Some x → ⊥
none-some e = absurd (cc)

-- ---- a list of one object

pub one-among : (ids : List ℕ) (id other : ℕ) → ids ≡ id ∷ [] → Among ids other → id ≡ other
one-among ids id other one m = elim (subst (λ (l : List ℕ). Among l other) one m) [ inl same ↦ same | inr none ↦ absurd none ]

pub once-one : (ids : List ℕ) (id : ℕ) → ids ≡ id ∷ [] → AreOnce ids
once-one ids id one = subst AreOnce (sym one) (tt, tt)

pub no-object : (o : Option Extent) → o ≡ None → IsSome o → ⊥
no-object None none some = absurd (let isnt = some in cc)
no-object (Some x) none some = absurd (cc)

-- ---- is an entry the new one, does it go

pub decide-new : (entry : Option NewEntry) (sig uid : ℕ) → IsNew entry sig uid ⊎ (IsNew entry sig uid → ⊥)
decide-new None sig uid = inr (λ isnt. isnt)
decide-new (Some e) sig uid = ⊎_elim
    (λ (a : e.sig ≡ sig). ⊎_elim (λ (b : e.uid ≡ uid). inl (a, b)) (λ (nb : e.uid ≢ uid). inr (λ both. nb both.1)) (cases_eq e.uid uid))
    (λ (na : e.sig ≢ sig). inr (λ both. na both.0))
    (cases_eq e.sig sig)

pub decide-goes : (gone : Gone) (sig uid : ℕ) → Goes gone sig uid ⊎ (Goes gone sig uid → ⊥)
decide-goes Nothing sig uid = inr (λ isnt. isnt)
decide-goes (OneEntry s u) sig uid = ⊎_elim
    (λ (a : s ≡ sig). ⊎_elim (λ (b : u ≡ uid). inl (a, b)) (λ (nb : u ≢ uid). inr (λ both. nb both.1)) (cases_eq u uid))
    (λ (na : s ≢ sig). inr (λ both. na both.0))
    (cases_eq s sig)
decide-goes (AllOf s) sig uid = cases_eq s sig

new-is : (entry : Option NewEntry) (sig uid : ℕ) → IsNew entry sig uid → (e : NewEntry) × (entry ≡ Some e) × (e.sig ≡ sig) × (e.uid ≡ uid)
new-is None sig uid isnt = absurd isnt
new-is (Some e) sig uid (a, b) = (e, refl, a, b)

is-new : (entry : Option NewEntry) (e : NewEntry) → entry ≡ Some e → IsNew entry e.sig e.uid
is-new entry e is = subst (λ (o : Option NewEntry). IsNew o e.sig e.uid) (sym is) (refl, refl)

-- the object of the new entry
abbrev pub id-of : Option NewEntry → Option ℕ
id-of None = None
id-of (Some e) = Some e.id

-- the places after a change, whatever the table of places has become
unfoldable pub placed : Next → Places → Places
placed next old sig uid = ⊎_elim (λ (is : IsNew next.entry sig uid). id-of next.entry)
    (λ (isnt : IsNew next.entry sig uid → ⊥). ⊎_elim (λ (goes : Goes next.gone sig uid). let none : Option ℕ = None in none) (λ (stays : Goes next.gone sig uid → ⊥). old sig uid) (decide-goes next.gone sig uid))
    (decide-new next.entry sig uid)

module _ (next : Next) (old : Places) (sig uid : ℕ) where
  abbrev by_goes : Goes next.gone sig uid ⊎ (Goes next.gone sig uid → ⊥) → Option ℕ
  by_goes d = ⊎_elim (λ (goes : Goes next.gone sig uid). let none : Option ℕ = None in none) (λ (stays : Goes next.gone sig uid → ⊥). old sig uid) d

  abbrev by_new : IsNew next.entry sig uid ⊎ (IsNew next.entry sig uid → ⊥) → Option ℕ
  by_new d = ⊎_elim (λ (is : IsNew next.entry sig uid). id-of next.entry) (λ (isnt : IsNew next.entry sig uid → ⊥). by_goes (decide-goes next.gone sig uid)) d

  placed-new : (d : IsNew next.entry sig uid ⊎ (IsNew next.entry sig uid → ⊥)) → IsNew next.entry sig uid → by_new d ≡ id-of next.entry
  placed-new (inl is) new = refl
  placed-new (inr isnt) new = absurd (isnt new)

  placed-goes : (d : Goes next.gone sig uid ⊎ (Goes next.gone sig uid → ⊥)) → Goes next.gone sig uid → by_goes d ≡ None
  placed-goes (inl is) goes = refl
  placed-goes (inr isnt) goes = absurd (isnt goes)

  placed-stays : (d : Goes next.gone sig uid ⊎ (Goes next.gone sig uid → ⊥)) → (Goes next.gone sig uid → ⊥) → by_goes d ≡ old sig uid
  placed-stays (inl is) stays = absurd (stays is)
  placed-stays (inr isnt) stays = refl

  placed-not-new : (d : IsNew next.entry sig uid ⊎ (IsNew next.entry sig uid → ⊥)) → (IsNew next.entry sig uid → ⊥) → by_new d ≡ by_goes (decide-goes next.gone sig uid)
  placed-not-new (inl is) isnt = absurd (isnt is)
  placed-not-new (inr nope) isnt = refl

pub placed-next : (next : Next) (old : Places) → ((e : NewEntry) → next.entry ≡ Some e → Goes next.gone e.sig e.uid → ⊥) → ArePlacesNext next old (placed next old)
unfolding placed
placed-next next old stays = record {
  entry = λ e is. placed-new next old e.sig e.uid (decide-new next.entry e.sig e.uid) (is-new next.entry e is) ∙ ap id-of is;
  gone = λ sig uid goes. placed-not-new next old sig uid (decide-new next.entry sig uid)
      (λ new. (let w = new-is next.entry sig uid new in stays w.0 w.1 (subst (λ (s : ℕ). Goes next.gone s w.0.uid) (sym w.2) (subst (λ (u : ℕ). Goes next.gone sig u) (sym w.3) goes))))
      ∙ placed-goes next old sig uid (decide-goes next.gone sig uid) goes;
  others = λ sig uid isnt there. placed-not-new next old sig uid (decide-new next.entry sig uid) isnt ∙ placed-stays next old sig uid (decide-goes next.gone sig uid) there;
}

-- ---- the table of places, as the code changes it

-- a place is the new entry's, or it is another that was there and does not go
abbrev Which : Next → Places → ℕ → ℕ → ℕ → Type 0
Which next old sig uid id = ((e : NewEntry) × (next.entry ≡ Some e) × (e.sig ≡ sig) × (e.uid ≡ uid) × (e.id ≡ id)) ⊎ ((old sig uid ≡ Some id) × (Goes next.gone sig uid → ⊥) × (IsNew next.entry sig uid → ⊥))

module _ (next : Next) (old mid new : Places)
    (kept : (e : NewEntry) → next.entry ≡ Some e → mid e.sig e.uid ≡ Some e.id) (mid-others : (sig uid : ℕ) → (IsNew next.entry sig uid → ⊥) → mid sig uid ≡ old sig uid)
    (gone : (sig uid : ℕ) → Goes next.gone sig uid → new sig uid ≡ None) (new-others : (sig uid : ℕ) → (Goes next.gone sig uid → ⊥) → new sig uid ≡ mid sig uid) where
  pub table-next : ((e : NewEntry) → next.entry ≡ Some e → Goes next.gone e.sig e.uid → ⊥) → ArePlacesNext next old new
  table-next stays = record {
    entry = λ e is. new-others e.sig e.uid (stays e is) ∙ kept e is;
    gone = gone;
    others = λ sig uid isnt there. new-others sig uid there ∙ mid-others sig uid isnt;
  }

  which : (sig uid id : ℕ) → new sig uid ≡ Some id → Which next old sig uid id
  which sig uid id at =
      let there : Goes next.gone sig uid → ⊥ = λ goes. none-some (sym (gone sig uid goes) ∙ at) in
      let was : mid sig uid ≡ Some id = sym (new-others sig uid there) ∙ at in
      ⊎_elim
      (λ (is : IsNew next.entry sig uid).
      let w = new-is next.entry sig uid is in
      let same : mid w.0.sig w.0.uid ≡ Some id = ap (λ (s : ℕ). mid s w.0.uid) w.2 ∙ ap (mid sig) w.3 ∙ was in
      inl (w.0, w.1, w.2, w.3, some_inj w.0.id id (sym (kept w.0 w.1) ∙ same)))
      (λ (isnt : IsNew next.entry sig uid → ⊥). inr (sym (mid-others sig uid isnt) ∙ was, there, isnt))
      (decide-new next.entry sig uid)

  module _ (ids : List ℕ) (going : (sig uid id : ℕ) → old sig uid ≡ Some id → Among ids id → Goes next.gone sig uid) (table table' : Table) (sound : AreSoundPlaces table old)
      (free : (e : NewEntry) → next.entry ≡ Some e → (table e.id ≡ None) ⊎ ((old e.sig e.uid ≡ Some e.id) × (Goes next.gone e.sig e.uid → ⊥)))
      (ids-are : (e : NewEntry) → next.entry ≡ Some e → HasIds e) (held-new : (e : NewEntry) → next.entry ≡ Some e → IsSome (table' e.id))
      (held-there : (id : ℕ) → IsSome (table id) → (Among ids id → ⊥) → IsSome (table' id)) where
    pub sound-next : AreSoundPlaces table' new
    sound-next = record {
      there = λ sig uid id at. ⊎_elim
          (λ w. subst (λ (n : ℕ). IsSome (table' n)) w.4 (held-new w.0 w.1))
          (λ w. held-there id (sound.there sig uid id w.0) (λ m. w.1 (going sig uid id w.0 m)))
          (which sig uid id at);
      odd = λ sig uid id at. ⊎_elim (λ w. subst (λ (n : ℕ). n % 2 ≡ 1) w.4 (ids-are w.0 w.1).odd) (λ w. sound.odd sig uid id w.0) (which sig uid id at);
      once = λ sig uid s u id at other. pairs sig uid s u id (which sig uid id at) (which s u id other);
    } where
      clash : (e : NewEntry) (s u id : ℕ) → next.entry ≡ Some e → e.id ≡ id → old s u ≡ Some id → (IsNew next.entry s u → ⊥) → ⊥
      clash e s u id is same at isnt = ⊎_elim
          (λ none. no-object (table e.id) none (subst (λ (n : ℕ). IsSome (table n)) (sym same) (sound.there s u id at)))
          (λ its. isnt (subst (λ (o : Option NewEntry). IsNew o s u) (sym is) (sound.once e.sig e.uid s u id (its.0 ∙ ap Some same) at)))
          (free e is)

      pairs : (sig uid s u id : ℕ) → Which next old sig uid id → Which next old s u id → (sig ≡ s) × (uid ≡ u)
      pairs sig uid s u id (inl w) (inl v) =
          let e : w.0 ≡ v.0 = some_inj w.0 v.0 (sym w.1 ∙ v.1) in
          (sym w.2 ∙ ap (λ (x : NewEntry). x.sig) e ∙ v.2, sym w.3 ∙ ap (λ (x : NewEntry). x.uid) e ∙ v.3)
      pairs sig uid s u id (inl w) (inr v) = absurd (clash w.0 s u id w.1 w.4 v.0 v.2)
      pairs sig uid s u id (inr w) (inl v) = absurd (clash v.0 sig uid id v.1 v.4 w.0 w.2)
      pairs sig uid s u id (inr w) (inr v) = sound.once sig uid s u id w.0 v.0

-- ---- what the records name

odd-above : (n : ℕ) → n % 2 ≡ 1 → 0 < n
odd-above n odd = above n odd (cases_eq n 0) where
  above : (n : ℕ) → n % 2 ≡ 1 → (n ≡ 0) ⊎ (n ≢ 0) → 0 < n
  above n odd (inl zero) = absurd (let no : 0 % 2 ≡ 1 = ap (λ (k : ℕ). k % 2) (sym zero) ∙ odd in omega (arith, no))
  above n odd (inr other) = omega (arith, other)

-- the record of the new entry is this object
abbrev pub IsNewAt : Option NewEntry → ℕ → Type 0
IsNewAt entry r = (e : NewEntry) × (entry ≡ Some e) × (e.id ≡ r)

pub decide-new-at : (entry : Option NewEntry) (r : ℕ) → IsNewAt entry r ⊎ (IsNewAt entry r → ⊥)
decide-new-at None r = inr (λ is. none-some is.1)
decide-new-at (Some e) r = ⊎_elim
    (λ (same : e.id ≡ r). inl (e, refl, same))
    (λ (other : e.id ≢ r). inr (λ is. other (ap (λ (x : NewEntry). x.id) (some_inj e is.0 is.1) ∙ is.2)))
    (cases_eq e.id r)

module _ (catalog : Catalog) (next : Next) (records : List ℕ) (places : AreSoundPlaces (held catalog.objects) (place_of catalog.places)) (names : AreSoundNames (held catalog.objects) (names_of catalog.names))
    (is : IsNextOf catalog next) (are : AreGone (place_of catalog.places) next.gone records) where
  abbrev old-place : Places
  old-place = place_of catalog.places

  abbrev old-names : Names
  old-names = names_of catalog.names

  abbrev pub gone-ids : List ℕ
  gone-ids = all_gone old-names records next.entry

  -- the object of the new entry's record is not one of an entry that goes
  pub new-stays : (e : NewEntry) → next.entry ≡ Some e → GoesAt next old-place e.id → ⊥
  new-stays e new w = ⊎_elim
      (λ none. no-object (held catalog.objects e.id) none (places.there w.0 w.1 e.id w.3))
      (λ its.
      let same = places.once w.0 w.1 e.sig e.uid e.id w.3 its.0 in
      its.1 (subst (λ (s : ℕ). Goes next.gone s e.uid) same.0 (subst (λ (u : ℕ). Goes next.gone w.0 u) same.1 w.2)))
      (is.free e new)

  goes-odd : (o : ℕ) → GoesAt next old-place o → o % 2 ≡ 1
  goes-odd o w = places.odd w.0 w.1 o w.3

  pub gone-there : (o : ℕ) → Among gone-ids o → IsSome (held catalog.objects o)
  gone-there o m = ⊎_elim (λ w. places.there w.0 w.1 o w.3) (λ w. names.there w.0 o w.2) (is-going next old-place old-names records are o m)

  pub gone-above : (o : ℕ) → Among gone-ids o → 0 < o
  gone-above o m = ⊎_elim (λ w. odd-above o (goes-odd o w)) (λ w. (names.even w.0 o w.2).1) (is-going next old-place old-names records are o m)

  pub gone-apart : IsApart next.entry gone-ids
  gone-apart = record {
    record_apart = λ e new m. ⊎_elim (λ w. new-stays e new w) (λ w. odd_even e.id (is.ids e new).odd (names.even w.0 e.id w.2).0) (is-going next old-place old-names records are e.id m);
    larges_apart = λ e o new large m. no-object (held catalog.objects o) (is.larges_free e o new large) (gone-there o m);
  }

  -- an entry whose object goes, goes
  pub place-goes : (sig uid id : ℕ) → old-place sig uid ≡ Some id → Among gone-ids id → Goes next.gone sig uid
  place-goes sig uid id at m = ⊎_elim
      (λ w.
      let same = places.once w.0 w.1 sig uid id w.3 at in
      subst (λ (s : ℕ). Goes next.gone s uid) same.0 (subst (λ (u : ℕ). Goes next.gone w.0 u) same.1 w.2))
      (λ w. absurd (odd_even id (places.odd sig uid id at) (names.even w.0 id w.2).0))
      (is-going next old-place old-names records are id m)

  record-odd : (r : ℕ) → Among records r → r % 2 ≡ 1
  record-odd r m = goes-odd r (are.real r m)

  -- what stands with two records is not one
  with-apart : (x y : ℕ) → Among records x → Among records y → x ≢ y → (a b : ℕ) → Among (x ∷ old-names x) a → Among (y ∷ old-names y) b → a ≢ b
  with-apart x y mx my ne a b (inl p) (inl q) same = ne (p ∙ same ∙ sym q)
  with-apart x y mx my ne a b (inl p) (inr n) same = odd_even x (record-odd x mx) (subst (λ (k : ℕ). k % 2 ≡ 0) (sym (p ∙ same)) (names.even y b n).0)
  with-apart x y mx my ne a b (inr n) (inl q) same = odd_even y (record-odd y my) (subst (λ (k : ℕ). k % 2 ≡ 0) (same ∙ sym q) (names.even x a n).0)
  with-apart x y mx my ne a b (inr n) (inr k) same = ne (names.by_one x y a n (subst (λ (o : ℕ). Among (old-names y) o) (sym same) k))

  replaced-apart : (entry : Option NewEntry) → next.entry ≡ entry → (r a b : ℕ) → Among records r → Among (r ∷ old-names r) a → Among (names_replaced old-names entry) b → a ≢ b
  replaced-apart None new r a b m first second same = second
  replaced-apart (Some e) new r a b m (inl p) second same = odd_even r (record-odd r m) (subst (λ (k : ℕ). k % 2 ≡ 0) (sym (p ∙ same)) (names.even e.id b second).0)
  replaced-apart (Some e) new r a b m (inr n) second same =
      let one : r ≡ e.id = names.by_one r e.id a n (subst (λ (o : ℕ). Among (old-names e.id) o) (sym same) second) in
      new-stays e new (subst (λ (k : ℕ). GoesAt next old-place k) one (are.real r m))

  replaced-once : (entry : Option NewEntry) → AreOnce (names_replaced old-names entry)
  replaced-once None = tt
  replaced-once (Some e) = names.once e.id

  pub gone-once : AreOnce records → AreOnce gone-ids
  gone-once once = pairs-append (λ a b. a ≢ b) (flat_map (λ r. r ∷ old-names r) records) (names_replaced old-names next.entry)
      (pairs-flat_map (λ a b. a ≢ b) (λ r. r ∷ old-names r) records
      (each-from (λ r. Pairs (λ a b. a ≢ b) (r ∷ old-names r)) records (λ r m. (
        each-from (λ (o : ℕ). r ≢ o) (old-names r) (λ o n same. odd_even r (record-odd r m) (subst (λ (k : ℕ). k % 2 ≡ 0) (sym same) (names.even r o n).0)),
        names.once r,
      )))
      (pairs-more (λ a b. a ≢ b) (λ x y. (a b : ℕ) → Among (x ∷ old-names x) a → Among (y ∷ old-names y) b → a ≢ b) records (λ x y mx my ne. with-apart x y mx my ne) once))
      (replaced-once next.entry)
      (each-from (λ a. Each (λ b. a ≢ b) (names_replaced old-names next.entry)) (flat_map (λ r. r ∷ old-names r) records) (λ a m.
      let w = among-flat_map (λ r. r ∷ old-names r) records a m in
      each-from (λ b. a ≢ b) (names_replaced old-names next.entry) (λ b n. replaced-apart next.entry refl w.0 a b w.1 w.2 n)))

  -- a record that loses its names, or does not
  decide-loses : (r : ℕ) → LosesNames next old-place r ⊎ (LosesNames next old-place r → ⊥)
  decide-loses r = ⊎_elim
      (λ (new : IsNewAt next.entry r). inl (inr new))
      (λ (isnt : IsNewAt next.entry r → ⊥). ⊎_elim
      (λ (m : Among records r). inl (inl (are.real r m)))
      (λ (out : Among records r → ⊥). inr (λ loses. ⊎_elim (λ w. out (are.all w.0 w.1 r w.2 w.3)) (λ new. isnt new) loses))
      (among-or-not records r))
      (decide-new-at next.entry r)

  module _ (new-names : Names) (next-names : AreNamesNext next old-place old-names new-names) where
    -- the ids that a record names after a change are the new entry's, or those that it named
    abbrev NamesWhich : ℕ → ℕ → Type 0
    NamesWhich r o = ((e : NewEntry) × (next.entry ≡ Some e) × (e.id ≡ r) × Among (large_ids e) o) ⊎ (Among (old-names r) o × (LosesNames next old-place r → ⊥))

    names-which : (r o : ℕ) → Among (new-names r) o → NamesWhich r o
    names-which r o m = ⊎_elim (λ loses. lost loses) (λ stays. inr (subst (λ (l : List ℕ). Among l o) (next-names.others r stays) m, stays)) (decide-loses r) where
      lost : LosesNames next old-place r → NamesWhich r o
      lost (inl w) = let none : Among [] o = subst (λ (l : List ℕ). Among l o) (next-names.gone r w) m in absurd none
      lost (inr (e, new, same)) = inl (e, new, same, subst (λ (l : List ℕ). Among l o) (ap new-names (sym same) ∙ next-names.entry e new) m)

    not-going : (r o : ℕ) → Among (old-names r) o → (LosesNames next old-place r → ⊥) → Among gone-ids o → ⊥
    not-going r o n stays m = ⊎_elim
        (λ w. odd_even o (goes-odd o w) (names.even r o n).0)
        (λ w. stays (subst (λ (k : ℕ). LosesNames next old-place k) (names.by_one w.0 r o w.2 n) w.1))
        (is-going next old-place old-names records are o m)

    record-not-going : (r o : ℕ) → Among (old-names r) o → (LosesNames next old-place r → ⊥) → Among gone-ids r → ⊥
    record-not-going r o n stays m = ⊎_elim
        (λ w. stays (inl w))
        (λ w. odd_even r (names.records r o n).1 (names.even w.0 r w.2).0)
        (is-going next old-place old-names records are r m)

    module _ (table' : Table) (held-new : (e : NewEntry) → next.entry ≡ Some e → IsSome (table' e.id)) (held-larges : (e : NewEntry) (o : ℕ) → next.entry ≡ Some e → Among (large_ids e) o → IsSome (table' o))
        (held-there : (o : ℕ) → IsSome (held catalog.objects o) → (Among gone-ids o → ⊥) → IsSome (table' o)) where
      one-record : (r q o : ℕ) → NamesWhich r o → NamesWhich q o → r ≡ q
      one-record r q o (inl w) (inl v) = sym w.2 ∙ ap (λ (x : NewEntry). x.id) (some_inj w.0 v.0 (sym w.1 ∙ v.1)) ∙ v.2
      one-record r q o (inl w) (inr v) = absurd (no-object (held catalog.objects o) (is.larges_free w.0 o w.1 w.3) (names.there q o v.0))
      one-record r q o (inr w) (inl v) = absurd (no-object (held catalog.objects o) (is.larges_free v.0 o v.1 v.3) (names.there r o w.0))
      one-record r q o (inr w) (inr v) = names.by_one r q o w.0 v.0

      once-now : (r : ℕ) → LosesNames next old-place r ⊎ (LosesNames next old-place r → ⊥) → AreOnce (new-names r)
      once-now r (inl (inl w)) = subst (λ (l : List ℕ). AreOnce l) (sym (next-names.gone r w)) tt
      once-now r (inl (inr (e, new, same))) = subst (λ (l : List ℕ). AreOnce l) (sym (ap new-names (sym same) ∙ next-names.entry e new)) (is.ids e new).once
      once-now r (inr stays) = subst (λ (l : List ℕ). AreOnce l) (sym (next-names.others r stays)) (names.once r)

      pub names-sound-next : AreSoundNames table' new-names
      names-sound-next = record {
        there = λ r o m. ⊎_elim (λ w. held-larges w.0 o w.1 w.3) (λ w. held-there o (names.there r o w.0) (not-going r o w.0 w.1)) (names-which r o m);
        even = λ r o m. ⊎_elim (λ w. (is.ids w.0 w.1).even o w.3) (λ w. names.even r o w.0) (names-which r o m);
        records = λ r o m. ⊎_elim
            (λ w. (subst (λ (n : ℕ). IsSome (table' n)) w.2 (held-new w.0 w.1), subst (λ (n : ℕ). n % 2 ≡ 1) w.2 (is.ids w.0 w.1).odd))
            (λ w. (held-there r (names.records r o w.0).0 (record-not-going r o w.0 w.1), (names.records r o w.0).1))
            (names-which r o m);
        by_one = λ r q o m n. one-record r q o (names-which r o m) (names-which q o n);
        once = λ r. once-now r (decide-loses r);
      }

  -- ---- the names, as the code changes them

  module _ (ready mid new-names : Names) (same : (r : ℕ) → ready r ≡ old-names r)
      (forgot : (r : ℕ) → Among records r → mid r ≡ []) (kept : (r : ℕ) → (Among records r → ⊥) → mid r ≡ ready r)
      (named : (e : NewEntry) → next.entry ≡ Some e → new-names e.id ≡ large_ids e) (others : (r : ℕ) → ((e : NewEntry) → next.entry ≡ Some e → e.id ≢ r) → new-names r ≡ mid r) where
    pub names-next : AreNamesNext next old-place old-names new-names
    names-next = record {
      entry = named;
      gone = λ r w. others r (λ e new at. new-stays e new (subst (λ (n : ℕ). GoesAt next old-place n) (sym at) w)) ∙ forgot r (are.all w.0 w.1 r w.2 w.3);
      others = λ r stays. others r (λ e new at. stays (inr (e, new, at))) ∙ kept r (λ m. stays (inl (are.real r m))) ∙ same r;
    }

  -- the names after a change, whatever the table of names has become
  unfoldable pub renamed : Names
  renamed r = ⊎_elim
      (λ (new : IsNewAt next.entry r). large_ids new.0)
      (λ (isnt : IsNewAt next.entry r → ⊥). ⊎_elim (λ (m : Among records r). let none : List ℕ = [] in none) (λ (out : Among records r → ⊥). old-names r) (among-or-not records r))
      (decide-new-at next.entry r)

  abbrev by_record : (r : ℕ) → Among records r ⊎ (Among records r → ⊥) → List ℕ
  by_record r d = ⊎_elim (λ (m : Among records r). let none : List ℕ = [] in none) (λ (out : Among records r → ⊥). old-names r) d

  abbrev by_entry : (r : ℕ) → IsNewAt next.entry r ⊎ (IsNewAt next.entry r → ⊥) → List ℕ
  by_entry r d = ⊎_elim (λ (new : IsNewAt next.entry r). large_ids new.0) (λ (isnt : IsNewAt next.entry r → ⊥). by_record r (among-or-not records r)) d

  renamed-new : (e : NewEntry) → next.entry ≡ Some e → (d : IsNewAt next.entry e.id ⊎ (IsNewAt next.entry e.id → ⊥)) → by_entry e.id d ≡ large_ids e
  renamed-new e new (inl w) = ap (λ (x : NewEntry). large_ids x) (some_inj w.0 e (sym w.1 ∙ new))
  renamed-new e new (inr isnt) = absurd (isnt (e, new, refl))

  renamed-not-new : (r : ℕ) → (IsNewAt next.entry r → ⊥) → (d : IsNewAt next.entry r ⊎ (IsNewAt next.entry r → ⊥)) → by_entry r d ≡ by_record r (among-or-not records r)
  renamed-not-new r isnt (inl w) = absurd (isnt w)
  renamed-not-new r isnt (inr nope) = refl

  renamed-record : (r : ℕ) → Among records r → (d : Among records r ⊎ (Among records r → ⊥)) → by_record r d ≡ []
  renamed-record r m (inl k) = refl
  renamed-record r m (inr out) = absurd (out m)

  renamed-other : (r : ℕ) → (Among records r → ⊥) → (d : Among records r ⊎ (Among records r → ⊥)) → by_record r d ≡ old-names r
  renamed-other r out (inl k) = absurd (out k)
  renamed-other r out (inr isnt) = refl

  pub renamed-next : AreNamesNext next old-place old-names renamed
  unfolding renamed
  renamed-next = record {
    entry = λ e new. renamed-new e new (decide-new-at next.entry e.id);
    gone = λ r w. renamed-not-new r (λ new. new-stays new.0 new.1 (subst (λ (n : ℕ). GoesAt next old-place n) (sym new.2) w)) (decide-new-at next.entry r)
        ∙ renamed-record r (are.all w.0 w.1 r w.2 w.3) (among-or-not records r);
    others = λ r stays. renamed-not-new r (λ new. stays (inr new)) (decide-new-at next.entry r) ∙ renamed-other r (λ m. stays (inl (are.real r m))) (among-or-not records r);
  }

-- names are sound where the objects are, and they are the same
pub names-same : (table table' : Table) (names names' : Names) → ((id : ℕ) → IsSome (table id) → IsSome (table' id)) → ((r : ℕ) → names' r ≡ names r) → AreSoundNames table names → AreSoundNames table' names'
names-same table table' names names' more same sound = record {
  there = λ r o m. more o (sound.there r o (was r o m));
  even = λ r o m. sound.even r o (was r o m);
  records = λ r o m. (more r (sound.records r o (was r o m)).0, (sound.records r o (was r o m)).1);
  by_one = λ r q o m n. sound.by_one r q o (was r o m) (was q o n);
  once = λ r. subst (λ (l : List ℕ). AreOnce l) (sym (same r)) (sound.once r);
} where
  was : (r o : ℕ) → Among (names' r) o → Among (names r) o
  was r o m = subst (λ (l : List ℕ). Among l o) (same r) m

-- where nothing was written, the places are those that were there
module _ (next : Next) (old mid new : Places) (was : Bool) (kept : (e : NewEntry) → next.entry ≡ Some e → mid e.sig e.uid ≡ Some e.id) (mid-others : (sig uid : ℕ) → (IsNew next.entry sig uid → ⊥) → mid sig uid ≡ old sig uid)
    (placed : was ≡ true → (e : NewEntry) → next.entry ≡ Some e → old e.sig e.uid ≡ Some e.id)
    (forgot : was ≡ false → (sig uid : ℕ) → IsNew next.entry sig uid → new sig uid ≡ None) (stayed : was ≡ true → (sig uid : ℕ) → new sig uid ≡ mid sig uid)
    (new-others : (sig uid : ℕ) → (IsNew next.entry sig uid → ⊥) → new sig uid ≡ mid sig uid) where
  -- a new entry that had its place has it again
  back-placed : was ≡ true → (sig uid : ℕ) → IsNew next.entry sig uid → new sig uid ≡ old sig uid
  back-placed had sig uid is =
      let w = new-is next.entry sig uid is in
      stayed had sig uid ∙ ap (λ (s : ℕ). mid s uid) (sym w.2) ∙ ap (mid w.0.sig) (sym w.3) ∙ kept w.0 w.1
      ∙ sym (placed had w.0 w.1) ∙ ap (old w.0.sig) w.3 ∙ ap (λ (s : ℕ). old s uid) w.2

  pub fewer-back : (sig uid id : ℕ) → new sig uid ≡ Some id → old sig uid ≡ Some id
  fewer-back sig uid id at = ⊎_elim
      (λ (is : IsNew next.entry sig uid). ⊎_elim
      (λ (had : was ≡ true). sym (back-placed had sig uid is) ∙ at)
      (λ (hadnt : was ≡ false). absurd (none-some (sym (forgot hadnt sig uid is) ∙ at)))
      (true_or_false was))
      (λ (isnt : IsNew next.entry sig uid → ⊥). sym (new-others sig uid isnt ∙ mid-others sig uid isnt) ∙ at)
      (decide-new next.entry sig uid)

  pub same-back : (was ≡ false → (e : NewEntry) → next.entry ≡ Some e → old e.sig e.uid ≢ Some e.id)
      → ((e : NewEntry) → next.entry ≡ Some e → (old e.sig e.uid ≡ None) ⊎ (old e.sig e.uid ≡ Some e.id)) → new ≡ old
  same-back not-placed fresh = λ i sig uid. each sig uid i where
    none-before : was ≡ false → (sig uid : ℕ) → IsNew next.entry sig uid → old sig uid ≡ None
    none-before hadnt sig uid is =
        let w = new-is next.entry sig uid is in
        ⊎_elim
        (λ none. ap (λ (s : ℕ). old s uid) (sym w.2) ∙ ap (old w.0.sig) (sym w.3) ∙ none)
        (λ its. absurd (not-placed hadnt w.0 w.1 its))
        (fresh w.0 w.1)

    each : (sig uid : ℕ) → new sig uid ≡ old sig uid
    each sig uid = ⊎_elim
        (λ (is : IsNew next.entry sig uid). ⊎_elim
        (λ (had : was ≡ true). back-placed had sig uid is)
        (λ (hadnt : was ≡ false). forgot hadnt sig uid is ∙ sym (none-before hadnt sig uid is))
        (true_or_false was))
        (λ (isnt : IsNew next.entry sig uid → ⊥). new-others sig uid isnt ∙ mid-others sig uid isnt)
        (decide-new next.entry sig uid)

-- ---- what it stands for

module _ (catalog : Catalog) (next : Next) (records : List ℕ) (places : AreSoundPlaces (held catalog.objects) (place_of catalog.places)) (names : AreSoundNames (held catalog.objects) (names_of catalog.names))
    (is : IsNextOf catalog next) (are : AreGone (place_of catalog.places) next.gone records) (s t : Store) (now : List ℕ) (stands : StandsFor catalog s now) (turns : Turns catalog next s t) where
  abbrev ids : List ℕ
  ids = all_gone (names_of catalog.names) records next.entry

  abbrev stays : (e : NewEntry) → next.entry ≡ Some e → Goes next.gone e.sig e.uid → ⊥
  stays = turns.stays stands.texts stands.describes

  -- the other store, wherever what the change writes is
  pub described-by : (place : Places) (new-names : Names) (after : Objects) → ArePlacesNext next (place_of catalog.places) place → AreNamesNext next (place_of catalog.places) (names_of catalog.names) new-names
      → WritesNext next ids stands.texts after → Describes (directory_after catalog.directory next.directory) place new-names after t
  described-by place new-names after places-next names-next wrote =
      turns.described stands.texts after place new-names stands.describes (next-are next (place_of catalog.places) (names_of catalog.names) records are stands.texts after wrote) places-next names-next

  described-after : (after : Objects) → WritesNext next ids stands.texts after → Describes (directory_after catalog.directory next.directory) (placed next (place_of catalog.places)) (renamed catalog next records places names is are) after t
  described-after after wrote = described-by (placed next (place_of catalog.places)) (renamed catalog next records places names is are) after (placed-next next (place_of catalog.places) stays) (renamed-next catalog next records places names is are) wrote

  pub cost-after : (after : Objects) → WritesNext next ids stands.texts after → total_pages after ≡ cost t
  cost-after after wrote = total-cost (directory_after catalog.directory next.directory) (placed next (place_of catalog.places)) (renamed catalog next records places names is are) after t (described-after after wrote)

  either-store : (left : List ℕ) → HoldsEither now next ids stands.texts left → IsEitherStore now s t left
  either-store left e = ⊎_elim
      (λ was. inl (read-back catalog.directory (place_of catalog.places) (names_of catalog.names) stands.texts s left was.0 stands.describes (same-cap now left (cost s) e.size stands.fits)
      (keeps-same now left s was.1 stands.keeps)))
      (λ w.
      let low : cost t ≤ cap (blocks_of now) = subst (λ (n : ℕ). n ≤ cap (blocks_of now)) (cost-after w.0 w.2) w.3 in
      inr (low, read-back (directory_after catalog.directory next.directory) (placed next (place_of catalog.places)) (renamed catalog next records places names is are) w.0 t left w.1 (described-after w.0 w.2) (same-cap now left (cost t) e.size low) (keeps-all left t w.4)))
      e.holds

  pub leaves-store : (unit : ℕ) (old new : Moment) → Leaves unit (HoldsEither now next ids stands.texts) old new → Leaves unit (IsEitherStore now s t) old new
  leaves-store unit old new leaves = Leaves-weaken (λ left e. either-store left e) leaves

-- nothing was written
pub leaves-same : (catalog : Catalog) (s t : Store) (unit : ℕ) (old : Moment) → StandsFor catalog s (image unit old) → IsDurable unit old → Leaves unit (IsEitherStore (image unit old) s t) old old
leaves-same catalog s t unit old stands durable = Leaves-start (λ left may.
    inl (ap readable (durable left may) ∙ read-back catalog.directory (place_of catalog.places) (names_of catalog.names) stands.texts s (image unit old) stands.holds stands.describes stands.fits stands.keeps))
