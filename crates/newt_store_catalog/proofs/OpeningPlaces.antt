-- Places as they are found, one object after the other, and the store that they make.
use Rattle.newt_spec_image.specs.Records.{version}
use Rattle.std.proofs.Common.{IsTrue, ◌≡◌, ◌≢◌, ◌⊎◌, inl, inr, ℕ, ◌+◌, ◌*◌, ◌<◌, ◌≤◌, ◌%◌, ◌==◌, Bool, true, false, nat_le, List, [], ◌∷◌, length, Option, Some, None, IsSome, refl, sym, ◌∙◌, ap, subst, arith, ⊎_elim}
use Rattle.std.specs.FinMap as map
use Rattle.std.specs.FinSet as set
use Rattle.std.specs.Option.{option_map}
use Rattle.std.proofs.lemmas.Bool.{and_from, eqb-true, eq-eqb, le-leb, cases_lt}
use Rattle.newt_host.specs.Moments.{image}
use Rattle.newt_host.specs.Outside.{Outside}
use Rattle.newt_spec_image.specs.Pages.{Pages, cap}
use Rattle.newt_spec_image.specs.Objects.{Table, Objects}
use Rattle.newt_spec_nsof.specs.Text.{AreBytes}
use Rattle.newt_pagebook.specs.Book.{Numbers}
use Rattle.newt_objects.specs.Extents.{IsNextIn}
use Rattle.newt_objects.specs.Held.{Held, held}
use Rattle.newt_objects.specs.Changing.{HoldsObjects, total_pages}
use Rattle.newt_objects.proofs.Counting.{pages_total}
use Rattle.newt_objects.proofs.Whole.{image_whole}
use Rattle.newt_spec_graph.specs.Lists.{Among, Pairs}
use Rattle.newt_spec_store.specs.Store.{Store, Entry}
use Rattle.newt_spec_store.specs.Cost.{cost}
use Rattle.newt_spec_store.specs.Laid.{bare}
use Rattle.newt_spec_store.specs.OfImage.{blocks_of}
use Rattle.newt_spec_store.specs.Lies.{LiesIn, Places}
use Rattle.newt_spec_store.specs.Valid.{well_formed, valid}
use Rattle.newt_laws_changes.specs.Written.{Names}
use Rattle.newt_laws_images.specs.Found.{IsRecord, IsFound, HasGiven, ids_named}
use Rattle.newt_laws_images.proofs.Again.{over}
use Rattle.newt_laws_images.proofs.Gathering.{image-by-objects}
use Rattle.newt_laws_images.proofs.Made.{found-lies}
use Rattle.newt_laws_images.proofs.Totals.{lies-total}
use Rattle.newt_laws_images.proofs.Whole.{lies-read}
use Rattle.newt_soupdir.specs.Bare.{bare_store}
use Rattle.newt_soupdir.specs.declared.rows.Directory.{Directory}
use Rattle.newt_nsof_flat.specs.Stream.{stream_graph}
use Rattle.newt_entries.specs.declared.row.EntryRow.{EntryRow}
use Rattle.newt_entries.specs.declared.row.LargeAt.{LargeAt}
use Rattle.newt_nsof_flat.proofs.Streams.{reads_graphs}
use Rattle.newt_objects_commit.specs.Commit.{AreKept}
use Rattle.newt_objects_commit.proofs.Committing.{blocks-are}
use Rattle.newt_objects_commit.specs.Names.{names_of, AreSoundNames}
use Rattle.newt_objects_commit.specs.Places.{place_of}
use Rattle.newt_store_catalog.specs.Readable.{readable}
use Rattle.newt_store_catalog.specs.Stands.{Describes, StandsFor}
use Rattle.newt_store_catalog.specs.Opening.{OfObjects, IsRoot, IsRow, Owners, objects_named, OwnsThese, AreSoundTo, AreFoundTo}
use Rattle.newt_store_catalog.specs.declared.catalog.Catalog.{Catalog}
use Rattle.newt_spec_graph.proofs.Lists.{some-same, none-some}
use Rattle.newt_store_catalog.proofs.Opening.{some-of, not_true, not-readable, names-are, read-whole, kept-none, kept-long, kept-holds}

same-key : (a b s u : ℕ) → ((a ≡ s) × (b ≡ u)) ⊎ ((a ≡ s) → (b ≡ u) → ⊥)
same-key a b s u = go (a == s) refl (b == u) refl
  where
    go : (x : Bool) → (a == s) ≡ x → (y : Bool) → (b == u) ≡ y → ((a ≡ s) × (b ≡ u)) ⊎ ((a ≡ s) → (b ≡ u) → ⊥)
    go true p true q = inl (eqb-true a s p, eqb-true b u q)
    go true p false q = inr (λ e f. not_true (b == u) (eq-eqb b u f) q)
    go false p y q = inr (λ e f. not_true (a == s) (eq-eqb a s e) p)

pub odd-is : (n : ℕ) → n % 2 ≢ 0 → n % 2 ≡ 1
odd-is n odd = omega (arith, odd)

same-number : (a b : ℕ) → (a ≡ b) ⊎ (a ≢ b)
same-number a b = go (a == b) refl
  where
    go : (x : Bool) → (a == b) ≡ x → (a ≡ b) ⊎ (a ≢ b)
    go true p = inl (eqb-true a b p)
    go false p = inr (λ e. not_true (a == b) (eq-eqb a b e) p)

among-or-not : (ids : List ℕ) (o : ℕ) → Among ids o ⊎ (Among ids o → ⊥)
among-or-not [] o = inr (λ m. m)
among-or-not (x ∷ ids) o = go (same-number x o) (among-or-not ids o)
  where
    go : (x ≡ o) ⊎ (x ≢ o) → Among ids o ⊎ (Among ids o → ⊥) → Among (x ∷ ids) o ⊎ (Among (x ∷ ids) o → ⊥)
    go (inl same) rest = inl (inl same)
    go (inr other) (inl m) = inl (inr m)
    go (inr other) (inr out) = inr (λ m. ⊎_elim other out m)

-- ---- one place more

module _ (place place' : Places) (sig uid id : ℕ) (kept : place' sig uid ≡ Some id) (others : (s u : ℕ) → ((s ≡ sig) → (u ≡ uid) → ⊥) → place' s u ≡ place s u) where
  new-or-old : (s u i : ℕ) → place' s u ≡ Some i → ((s ≡ sig) × (u ≡ uid) × (i ≡ id)) ⊎ (place s u ≡ Some i)
  new-or-old s u i at = ⊎_elim
      (λ (same : (s ≡ sig) × (u ≡ uid)). inl (same.0, same.1, some-same i id (sym at ∙ ap (λ (x : ℕ). place' x u) same.0 ∙ ap (λ (x : ℕ). place' sig x) same.1 ∙ kept)))
      (λ (no : (s ≡ sig) → (u ≡ uid) → ⊥). inr (sym (others s u no) ∙ at))
      (same-key s u sig uid)

  keeps : place sig uid ≡ None → (s u i : ℕ) → place s u ≡ Some i → place' s u ≡ Some i
  keeps none s u i at = ⊎_elim
      (λ (same : (s ≡ sig) × (u ≡ uid)). absurd (none-some i (sym none ∙ ap (λ (x : ℕ). place sig x) (sym same.1) ∙ ap (λ (x : ℕ). place x u) (sym same.0) ∙ at)))
      (λ (no : (s ≡ sig) → (u ≡ uid) → ⊥). others s u no ∙ at)
      (same-key s u sig uid)

  module _ (last : ℕ) (low : last + 1 ≤ id) (names names' : Names) (ids : List ℕ) (named : names' id ≡ ids) (other_names : (r : ℕ) → r ≢ id → names' r ≡ names r) where
    -- an id that is named is one of the new record's, or was named
    named-or-was : (r o : ℕ) → Among (names' r) o → ((r ≡ id) × Among ids o) ⊎ ((r ≢ id) × Among (names r) o)
    named-or-was r o m = ⊎_elim
        (λ (same : r ≡ id). inl (same, subst (λ (l : List ℕ). Among l o) (ap names' same ∙ named) m))
        (λ (no : r ≢ id). inr (no, subst (λ (l : List ℕ). Among l o) (other_names r no) m))
        (same-number r id)

    module _ (table : Table) (owner owner' : Owners) (so : AreSoundTo last table place names owner) where
      new-high : (s u i : ℕ) → i ≡ id → place s u ≡ Some i → ⊥
      new-high s u i same at = let below : i < last + 1 = so.below s u i at in omega (arith, below, same, low)

      -- a record that names an id is not the new one
      was-lower : (r o : ℕ) → Among (names r) o → r ≢ id
      was-lower r o m = λ same. let p = so.placed r o m in new-high p.0 p.1 r same p.2

      module _ (there : IsSome (table id)) (odd : id % 2 ≡ 1) (none : place sig uid ≡ None) (owns : OwnsThese ids id owner owner')
          (large_there : (o : ℕ) → Among ids o → IsSome (table o)) (large_even : (o : ℕ) → Among ids o → (o % 2 ≡ 0) × (0 < o)) where
        places-once : (s u t v i : ℕ) → ((s ≡ sig) × (u ≡ uid) × (i ≡ id)) ⊎ (place s u ≡ Some i) → ((t ≡ sig) × (v ≡ uid) × (i ≡ id)) ⊎ (place t v ≡ Some i) → (s ≡ t) × (u ≡ v)
        places-once s u t v i (inl new) (inl also) = (new.0 ∙ sym also.0, new.1 ∙ sym also.1)
        places-once s u t v i (inl new) (inr old) = absurd (new-high t v i new.2 old)
        places-once s u t v i (inr old) (inl new) = absurd (new-high s u i new.2 old)
        places-once s u t v i (inr old) (inr also) = so.places.once s u t v i old also

        owned-next : (r o : ℕ) → Among (names' r) o → owner' o ≡ Some r
        owned-next r o m = go (named-or-was r o m)
          where
            go : ((r ≡ id) × Among ids o) ⊎ ((r ≢ id) × Among (names r) o) → owner' o ≡ Some r
            go (inl new) = owns.owned o new.1 ∙ ap (λ (q : ℕ). let x : Option ℕ = Some q in x) (sym new.0)
            go (inr old) = owns.others o (λ k. none-some r (sym (owns.free o k) ∙ so.owned r o old.1)) ∙ so.owned r o old.1

        owns-next : (r o : ℕ) → owner' o ≡ Some r → Among (names' r) o
        owns-next r o at = ⊎_elim
            (λ (m : Among ids o). subst (λ (l : List ℕ). Among l o) (sym (ap names' (some-same r id (sym at ∙ owns.owned o m)) ∙ named)) m)
            (λ (out : Among ids o → ⊥).
            let was : Among (names r) o = so.owns r o (sym (owns.others o out) ∙ at) in
            subst (λ (l : List ℕ). Among l o) (sym (other_names r (was-lower r o was))) was)
            (among-or-not ids o)

        names-next : AreSoundNames table names'
        names-next = record {
          there = λ r o m. ⊎_elim (λ (new : (r ≡ id) × Among ids o). large_there o new.1) (λ (old : (r ≢ id) × Among (names r) o). so.named.there r o old.1) (named-or-was r o m);
          even = λ r o m. ⊎_elim (λ (new : (r ≡ id) × Among ids o). large_even o new.1) (λ (old : (r ≢ id) × Among (names r) o). so.named.even r o old.1) (named-or-was r o m);
          records = λ r o m. ⊎_elim
              (λ (new : (r ≡ id) × Among ids o). subst (λ (q : ℕ). IsSome (table q) × (q % 2 ≡ 1)) (sym new.0) (there, odd))
              (λ (old : (r ≢ id) × Among (names r) o). so.named.records r o old.1)
              (named-or-was r o m);
          by_one = λ r q o m k. some-same r q (sym (owned-next r o m) ∙ owned-next q o k);
          once = λ r. ⊎_elim
              (λ (same : r ≡ id). subst (λ (l : List ℕ). Pairs (λ a b. a ≢ b) l) (sym (ap names' same ∙ named)) owns.once)
              (λ (no : r ≢ id). subst (λ (l : List ℕ). Pairs (λ a b. a ≢ b) l) (sym (other_names r no)) (so.named.once r))
              (same-number r id);
        }

        placed-next : (r o : ℕ) → Among (names' r) o → (s : ℕ) × (u : ℕ) × (place' s u ≡ Some r)
        placed-next r o m = ⊎_elim
            (λ (new : (r ≡ id) × Among ids o). let p : (s : ℕ) × (u : ℕ) × (place' s u ≡ Some r) = (sig, uid, kept ∙ ap (λ (q : ℕ). let x : Option ℕ = Some q in x) (sym new.0)) in p)
            (λ (old : (r ≢ id) × Among (names r) o). let w = so.placed r o old.1 in let p : (s : ℕ) × (u : ℕ) × (place' s u ≡ Some r) = (w.0, w.1, keeps none w.0 w.1 r w.2) in p)
            (named-or-was r o m)

        pub sound-next : AreSoundTo id table place' names' owner'
        sound-next = record {
          places = record {
            there = λ s u i at. ⊎_elim
                (λ (new : (s ≡ sig) × (u ≡ uid) × (i ≡ id)). subst (λ (q : ℕ). IsSome (table q)) (sym new.2) there)
                (λ (old : place s u ≡ Some i). so.places.there s u i old)
                (new-or-old s u i at);
            odd = λ s u i at. ⊎_elim
                (λ (new : (s ≡ sig) × (u ≡ uid) × (i ≡ id)). subst (λ (q : ℕ). q % 2 ≡ 1) (sym new.2) odd)
                (λ (old : place s u ≡ Some i). so.places.odd s u i old)
                (new-or-old s u i at);
            once = λ s u t v i at also. places-once s u t v i (new-or-old s u i at) (new-or-old t v i also);
          };
          below = λ s u i at. ⊎_elim
              (λ (new : (s ≡ sig) × (u ≡ uid) × (i ≡ id)). let same : i ≡ id = new.2 in omega (arith, same))
              (λ (old : place s u ≡ Some i). let below : i < last + 1 = so.below s u i old in omega (arith, below, low))
              (new-or-old s u i at);
          named = names-next;
          placed = placed-next;
          owned = owned-next;
          owns = owns-next;
        }

    module _ (none : place sig uid ≡ None) (texts : Objects) (d : Store) (gap : (q : ℕ) → last + 1 ≤ q → q < id → map.get texts q ≡ None)
        (bytes : List ℕ) (e : Entry) (there : map.get texts id ≡ Some bytes) (odd : id % 2 ≡ 1) (is_record : IsRecord stream_graph texts d bytes sig e) (of_uid : e.uid ≡ uid) (are : ids ≡ ids_named bytes) where
      abbrev HasRecord : ℕ → List ℕ → Type 0
      HasRecord i b = (s : ℕ) × (k : Entry) × IsRecord stream_graph texts d b s k × (place' s k.uid ≡ Some i) × (names' i ≡ ids_named b)

      new-record : (i : ℕ) (b : List ℕ) → map.get texts i ≡ Some b → i ≡ id → HasRecord i b
      new-record i b at same =
          let one : bytes ≡ b = some-same bytes b (sym there ∙ ap (λ (q : ℕ). map.get texts q) (sym same) ∙ at) in (
            sig,
            e,
            subst (λ (l : List ℕ). IsRecord stream_graph texts d l sig e) one is_record,
            ap (λ (x : ℕ). place' sig x) of_uid ∙ kept ∙ ap (λ (q : ℕ). let o : Option ℕ = Some q in o) (sym same),
            ap names' same ∙ named ∙ are ∙ ap ids_named one,
          )

      high-record : (i : ℕ) (b : List ℕ) → map.get texts i ≡ Some b → last + 1 ≤ i → i < id + 1 → HasRecord i b
      high-record i b at from to = ⊎_elim
          (λ (before : i < id). absurd (none-some b (sym (gap i from before) ∙ at)))
          (λ (not : id ≤ i). new-record i b at (omega (arith, not, to)))
          (cases_lt i id)

      pub found-next : AreFoundTo last place names d texts → AreFoundTo id place' names' d texts
      found-next f = record {
        records = λ i b at n to. ⊎_elim
            (λ (before : i < last + 1).
            let r = f.records i b at n before in
            let h : HasRecord i b = (r.0, r.1, r.2, keeps none r.0 r.1.uid i r.3, other_names i (λ same. omega (arith, same, low, before)) ∙ r.4) in h)
            (λ (from : last + 1 ≤ i). high-record i b at from to)
            (cases_lt i (last + 1));
        places = λ s u i at. ⊎_elim
            (λ (new : (s ≡ sig) × (u ≡ uid) × (i ≡ id)).
            let p : (b : List ℕ) × (k : Entry) × (map.get texts i ≡ Some b) × (i % 2 ≡ 1) × IsRecord stream_graph texts d b s k × (k.uid ≡ u) = (
              bytes,
              e,
              ap (λ (q : ℕ). map.get texts q) new.2 ∙ there,
              subst (λ (q : ℕ). q % 2 ≡ 1) (sym new.2) odd,
              subst (λ (q : ℕ). IsRecord stream_graph texts d bytes q e) (sym new.0) is_record,
              of_uid ∙ sym new.1,
            ) in p)
            (λ (old : place s u ≡ Some i). f.places s u i old)
            (new-or-old s u i at);
      }

module _ (told : Bool) (objects : Held) (numbers : Numbers) (unit : ℕ) (outside : Outside) (kept : AreKept told objects numbers unit outside) (tells : IsTrue told)
    (texts : Objects) (h : HoldsObjects (image unit outside.now) texts) (d : Store) (last id : ℕ) (next : IsNextIn (held objects) (last + 1) (Some id)) (place : Places) (names : Names) where
  no-object : (q : ℕ) → last + 1 ≤ q → q < id → map.get texts q ≡ None
  no-object q from to = kept-none told objects numbers unit outside kept tells texts h q (next.least id q refl from to)

  -- the next object is a record, and its place and its names are kept
  pub row-next : (row : EntryRow) → IsRow id row texts → id % 2 ≡ 1 → HasGiven d row.soup row.uid → ((o : ℕ) → Among (objects_named row.larges) o → (o % 2 ≡ 0) × (0 < o))
      → ((l : LargeAt) → Among row.larges l → option_map (λ x. x.length) (held objects l.object) ≡ Some l.length)
      → (place' : Places) (names' : Names) → place row.soup row.uid ≡ None → place' row.soup row.uid ≡ Some id → ((s u : ℕ) → ((s ≡ row.soup) → (u ≡ row.uid) → ⊥) → place' s u ≡ place s u)
      → names' id ≡ objects_named row.larges → ((r : ℕ) → r ≢ id → names' r ≡ names r) → AreFoundTo last place names d texts → AreFoundTo id place' names' d texts
  row-next row r odd given even there place' names' none now others named other_names f =
      let e = read-whole texts r.bytes row r.read even (λ l m. kept-long told objects numbers unit outside kept tells texts h l.object l.length (there l m)) in
      found-next place place' row.soup row.uid id now others last (next.found id refl).1 names names' (objects_named row.larges) named other_names none texts d no-object
      r.bytes e.0 r.object odd (record { are_bytes = r.are_bytes; read = e.1; given = subst (λ (u : ℕ). HasGiven d row.soup u) (sym e.2) given }) e.2 (sym (names-are r.bytes row r.read)) f

  -- the next object is no record
  pub even-next : id % 2 ≡ 0 → AreFoundTo last place names d texts → AreFoundTo id place names d texts
  even-next even f = record {
    records = λ i b at n to. ⊎_elim
        (λ (before : i < last + 1). f.records i b at n before)
        (λ (from : last + 1 ≤ i). absurd (⊎_elim
        (λ (before : i < id). none-some b (sym (no-object i from before) ∙ at))
        (λ (not : id ≤ i). let same : i ≡ id = omega (arith, not, to) in two (sym even ∙ ap (λ (q : ℕ). q % 2) (sym same) ∙ n))
        (cases_lt i id)))
        (cases_lt i (last + 1));
    places = f.places;
  } where
    two : ◌≡◌ {A = ℕ} 0 1 → ⊥
    two e = cc

pub sound-even : (last id : ℕ) → last + 1 ≤ id → (table : Table) (place : Places) (names : Names) (owner : Owners) → AreSoundTo last table place names owner → AreSoundTo id table place names owner
sound-even last id low table place names owner so = record {
  places = so.places;
  below = λ s u i at. let below : i < last + 1 = so.below s u i at in omega (arith, below, low);
  named = so.named;
  placed = so.placed;
  owned = so.owned;
  owns = so.owns;
}

-- ---- none yet, and all

pub sound-none : (table : Table) (place : Places) (names : Names) (owner : Owners) → ((s u : ℕ) → place s u ≡ None) → ((r : ℕ) → names r ≡ []) → ((o : ℕ) → owner o ≡ None) → AreSoundTo 0 table place names owner
sound-none table place names owner none no_names no_owner = record {
  places = record {
    there = λ s u i at. absurd (no s u i at);
    odd = λ s u i at. absurd (no s u i at);
    once = λ s u t v i at also. absurd (no s u i at);
  };
  below = λ s u i at. absurd (no s u i at);
  named = record {
    there = λ r o m. absurd (not_named r o m);
    even = λ r o m. absurd (not_named r o m);
    records = λ r o m. absurd (not_named r o m);
    by_one = λ r q o m k. absurd (not_named r o m);
    once = λ r. subst (λ (l : List ℕ). Pairs (λ a b. a ≢ b) l) (sym (no_names r)) tt;
  };
  placed = λ r o m. absurd (not_named r o m);
  owned = λ r o m. absurd (not_named r o m);
  owns = λ r o at. absurd (none-some r (sym (no_owner o) ∙ at));
} where
  no : (s u i : ℕ) → place s u ≡ Some i → ⊥
  no s u i at = none-some i (sym (none s u) ∙ at)

  not_named : (r o : ℕ) → Among (names r) o → ⊥
  not_named r o m = let none : Among [] o = subst (λ (l : List ℕ). Among l o) (no_names r) m in none

pub found-none : (texts : Objects) (d : Store) (place : Places) (names : Names) → ((s u : ℕ) → place s u ≡ None) → AreFoundTo 0 place names d texts
found-none texts d place names none = record {
  records = λ i b at n to. absurd (let zero : i ≡ 0 = omega (arith, to) in one (ap (λ (q : ℕ). q % 2) (sym zero) ∙ n));
  places = λ s u i at. absurd (none-some i (sym (none s u) ∙ at));
} where
  one : ◌≡◌ {A = ℕ} 0 1 → ⊥
  one e = cc

pub found-all : (version : ℕ) (texts : Objects) (directory : Directory) (last : ℕ) (table : Table) (place : Places) (names : Names) (owner : Owners) → IsRoot version directory texts
    → AreSoundTo last table place names owner → AreFoundTo last place names (bare_store directory) texts → ((q : ℕ) → last + 1 ≤ q → map.get texts q ≡ None)
    → ((id : ℕ) (bytes : List ℕ) → map.get texts id ≡ Some bytes → id ≢ 0 → id % 2 ≡ 0 → IsSome (owner id)) → IsFound stream_graph version texts place names (bare_store directory)
found-all version texts directory last table place names owner root so f none all_owned = record {
  directory = (root.bytes, root.object, root.read, root.are_bytes);
  records = λ i b at n. ⊎_elim
      (λ (before : i < last + 1). f.records i b at n before)
      (λ (from : last + 1 ≤ i). absurd (none-some b (sym (none i from) ∙ at)))
      (cases_lt i (last + 1));
  places = f.places;
  names = λ r o m. let p = so.placed r o m in let k = f.places p.0 p.1 r p.2 in (k.0, k.2, k.3);
  others = λ i b at n even. let r = some-of (owner i) (all_owned i b at n even) in (r.0, so.owns r.0 i r.1);
  once = λ r q o m k. so.named.by_one r q o m k;
  apart = so.named.once;
}

-- ---- the store

pub counted : (told : Bool) (objects : Held) (numbers : Numbers) (unit : ℕ) (outside : Outside) → AreKept told objects numbers unit outside → IsTrue told → (texts : Objects) → HoldsObjects (image unit outside.now) texts
    → set.len numbers ≡ total_pages texts
counted told objects numbers unit outside kept tells texts h =
    let same : kept.are.live ≡ h.live = some-same _ _ (sym (kept.are.are.of_image tells) ∙ h.of_image) in
    pages_total h.live texts numbers (image_whole (image unit outside.now) h.live h.of_image) h.are (λ q. ap (λ (m : Pages). map.contains_key m q) (sym same) ∙ kept.are.are.named q)

module _ (now : List ℕ) (texts : Objects) (h : HoldsObjects now texts) (place : Places) (names : Names) (directory : Directory) (found : IsFound stream_graph (version now) texts place names (bare_store directory)) where
  bytes-there : (id : ℕ) (bytes : List ℕ) → map.get texts id ≡ Some bytes → (id ≡ 0) ⊎ (id % 2 ≡ 1) → AreBytes bytes
  bytes-there id bytes at (inl zero) = let r = found.directory in subst AreBytes (some-same r.0 bytes (sym r.1 ∙ ap (λ (q : ℕ). map.get texts q) (sym zero) ∙ at)) r.3
  bytes-there id bytes at (inr odd) = (found.records id bytes at odd).2.are_bytes

  -- the objects take more pages than the unit has
  pub too-large : cap (blocks_of now) < total_pages texts → readable now ≡ None
  too-large more = not-readable now texts h (λ s is. over stream_graph (version now) texts (blocks_of now) s reads_graphs bytes-there is more)

  pub opened : total_pages texts ≤ cap (blocks_of now) → (catalog : Catalog) → catalog.directory ≡ directory → place_of catalog.places ≡ place → names_of catalog.names ≡ names
      → (s : Store) × (readable now ≡ Some s) × StandsFor catalog s now
  opened few catalog same_directory same_places same_names =
      let m = found-lies stream_graph (version now) texts place names (bare_store directory) found reads_graphs in
      let total : total_pages texts ≡ cost m.0 = lies-total texts place m.0 m.1 m.3 in
      let fits : cost m.0 ≤ cap (blocks_of now) = omega (arith, total, few) in
      let good : valid (blocks_of now) m.0 ≡ true = and_from (well_formed m.0) (nat_le (cost m.0) (cap (blocks_of now))) m.3 (le-leb (cost m.0) (cap (blocks_of now)) fits) in (
        m.0,
        image-by-objects stream_graph now h.live texts h.of_image h.are ∙ lies-read stream_graph (version now) texts place (blocks_of now) m.0 reads_graphs m.1 m.4 good,
        record {
          texts = texts;
          holds = h;
          describes = described m.0 m.1 m.2 m.3 (m.5 ∙ ap bare_store (sym same_directory));
          fits = fits;
          keeps = m.4;
        },
      ) where
        described : (s : Store) (lies : LiesIn texts place s) → ((r : ℕ) → lies.named r ≡ names r) → well_formed s ≡ true → bare s ≡ bare_store catalog.directory
            → Describes catalog.directory (place_of catalog.places) (names_of catalog.names) texts s
        described s lies are good bare_is = subst (λ (p : Places). Describes catalog.directory p (names_of catalog.names) texts s) (sym same_places) (record {
          lies = lies;
          names_are = λ r. ap (λ (n : Names). n r) same_names ∙ sym (are r);
          formed = good;
          bare_is = bare_is;
        })

module _ (told : Bool) (objects : Held) (numbers : Numbers) (unit : ℕ) (outside : Outside) (kept : AreKept told objects numbers unit outside) (tells : IsTrue told)
    (blocks : ℕ) (size : length (image unit outside.now) ≡ blocks * 4096) (now : List ℕ) (is : image unit outside.now ≡ now) (place : Places) (names : Names) (directory : Directory)
    (found : OfObjects told now (λ texts. IsFound stream_graph (version now) texts place names (bare_store directory))) where
  abbrev texts_there : Objects
  texts_there = (kept-holds told objects numbers unit outside kept tells).0

  there_hold : HoldsObjects now texts_there
  there_hold = subst (λ (b : List ℕ). HoldsObjects b texts_there) is (kept-holds told objects numbers unit outside kept tells).1

  there_count : set.len numbers ≡ total_pages texts_there
  there_count = counted told objects numbers unit outside kept tells texts_there (kept-holds told objects numbers unit outside kept tells).1

  there_cap : cap (blocks_of now) ≡ cap blocks
  there_cap = ap (λ (b : List ℕ). cap (blocks_of b)) (sym is) ∙ ap cap (blocks-are (image unit outside.now) blocks size)

  -- more pages are live than the unit takes
  pub live-large : cap blocks < set.len numbers → readable now ≡ None
  live-large more = too-large now texts_there there_hold place names directory (found tells texts_there there_hold) (omega (arith, there_cap, there_count, more))

  pub live-opened : set.len numbers ≤ cap blocks → (catalog : Catalog) → catalog.directory ≡ directory → place_of catalog.places ≡ place → names_of catalog.names ≡ names → (s : Store) × (readable now ≡ Some s) × StandsFor catalog s now
  live-opened few catalog same_directory same_places same_names =
      opened now texts_there there_hold place names directory (found tells texts_there there_hold) (omega (arith, there_cap, there_count, few)) catalog same_directory same_places same_names
