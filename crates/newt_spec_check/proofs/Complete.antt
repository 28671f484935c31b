-- Where none of the rows of objects holds, the objects are read as a store.
use Rattle.std.proofs.Common.{arith, ◌≡◌, ◌≢◌, refl, ap, sym, ◌∙◌, subst, ℕ, ◌%◌, ◌<◌, ◌≤◌, ◌==◌, nat_lt, nat_le, List, [], ◌∷◌, true, false, Bool, not, ◌&&◌, ◌⊎◌, inl, inr, length, cond, find, filter, flat_map, zip, map as list_map, Option, Some, None, option_map, option_and_then}
use Rattle.std.specs.List.{list_any}
use Rattle.std.specs.FinMap as map
use Rattle.std.proofs.lemmas.Bool.{eq-eqb, eqb-true, lt-ltb, ltb-true, leb-true, and_parts, cases_order}
use Rattle.newt_graph.specs.Graph.{RawGraph}
use Rattle.newt_spec_image.specs.Objects.{Objects, pages_for}
use Rattle.newt_spec_image.specs.Pages.{cap}
use Rattle.newt_spec_nsof.specs.Text.{AreBytes}
use Rattle.newt_spec_graph.specs.Lists.{Each, Pairs, Among}
use Rattle.newt_spec_graph.proofs.Lists.{each-at, each-from, none-some, some-same, both-ways, filter-among, among-filter, among-flat_map, flat_map-among}
use Rattle.newt_spec_store.specs.Cost.{cost}
use Rattle.newt_spec_store.specs.Image.{larges}
use Rattle.newt_spec_store.specs.Laid.{IsThere}
use Rattle.newt_spec_store.specs.Lies.{LiesIn, Places, ReadsGraphs, directory_read, entry_read}
use Rattle.newt_spec_store.specs.Store.{Entry, Soup, Store}
use Rattle.newt_spec_store.specs.StoreOf.{store_of, entry_row, EntryRow, LargeRow, object_bytes}
use Rattle.newt_spec_store.specs.Valid.{well_formed, valid, fits}
use Rattle.newt_laws_images.specs.Found.{HasGiven, IsFound, IsRecord, ids_named}
use Rattle.newt_laws_images.proofs.Again.{found-test}
use Rattle.newt_laws_images.proofs.Finite.{object-get, entry-get, get-entry}
use Rattle.newt_laws_images.proofs.Known.{flat-once, flat-pairs}
use Rattle.newt_laws_images.proofs.Made.{found-lies}
use Rattle.newt_laws_images.proofs.Rows.{read-as, ids_of}
use Rattle.newt_laws_images.proofs.Totals.{lies-total}
use Rattle.newt_laws_images.proofs.Whole.{lies-read}
use Rattle.newt_spec_check.specs.Damage.{if_missing, directory_in, no_directory, is_odd, is_given, is_again, entry_of, is_named_before, is_sound, is_bad_record, bad_entry, ids_in, all_named, count_of, is_stray, bad_large, pages_taken, if_above, too_costly, first_object}
use Rattle.newt_spec_check.proofs.Counts.{count-apart, count-among}
use Rattle.newt_spec_check.proofs.Finds.{find-none, map-none, missing-none, any-true, any-false, among-any}
use Rattle.newt_spec_check.proofs.Sound.{both, again-some}

then-some : {A B : Type 0} (f : A → Option B) (o : Option A) (b : B) → option_and_then f o ≡ Some b → (a : A) × (o ≡ Some a) × (f a ≡ Some b)
then-some f None b h = absurd (none-some b h)
then-some f (Some a) b h = (a, refl, h)

mapped : {A B : Type 0} (f : A → B) (o : Option A) (b : B) → option_map f o ≡ Some b → (a : A) × (o ≡ Some a) × (f a ≡ b)
mapped f None b h = absurd (none-some b h)
mapped f (Some a) b h = (a, refl, some-same (f a) b h)

pub true-given : (d : Store) (x : ℕ × Entry) → is_given d x ≡ true → HasGiven d x.0 x.1.uid
true-given d x h =
    let r = any-true (λ (p : Soup). (p.sig == x.0) && nat_lt x.1.uid p.next_uid) d.soups h in
    let p = and_parts (r.0.sig == x.0) (nat_lt x.1.uid r.0.next_uid) r.2 in
    record { soup = r.0; is_soup = r.1; of_sig = eqb-true r.0.sig x.0 p.0; below = ltb-true x.1.uid r.0.next_uid p.1 }

above-none : (most n : ℕ) → if_above most n ≡ None → nat_le n most ≡ true
above-none most n h = go (nat_le n most) h
  where
    go : (b : Bool) → cond b None (Some n) ≡ None → b ≡ true
    go true k = refl
    go false k = absurd (none-some n (sym k))

not-true : (b : Bool) → not b ≡ false → b ≡ true
not-true true h = refl
not-true false h = sym h

-- what was read is an entry of this id in the soup of this signature
abbrev has_id : ℕ → ℕ → Option (ℕ × Entry) → Bool
has_id sig uid None = false
has_id sig uid (Some y) = (sig == y.0) && (uid == y.1.uid)

id-some : (sig uid : ℕ) (o : Option (ℕ × Entry)) → has_id sig uid o ≡ true → (y : ℕ × Entry) × (o ≡ Some y) × (sig ≡ y.0) × (uid ≡ y.1.uid)
id-some sig uid None h = absurd (both-ways h)
id-some sig uid (Some y) h = let r = and_parts (sig == y.0) (uid == y.1.uid) h in (y, refl, eqb-true sig y.0 r.0, eqb-true uid y.1.uid r.1)

-- the ids that an object names: of an odd one, those that its record names
abbrev named_by : Bool → Option (List ℕ) → List ℕ
named_by true (Some bytes) = ids_named bytes
named_by true None = []
named_by false o = []

names-some : (b : Bool) (o : Option (List ℕ)) (n : ℕ) → Among (named_by b o) n → (bytes : List ℕ) × (b ≡ true) × (o ≡ Some bytes) × Among (ids_named bytes) n
names-some true (Some bytes) n m = (bytes, refl, refl, m)
names-some true None n m = absurd m
names-some false o n m = absurd m

zip-there : (objects : List (ℕ × List ℕ)) (ls : List (ℕ × List ℕ)) (ids : List ℕ) (n : ℕ) → length ls ≡ length ids → Each (IsThere objects) (zip ls ids) → Among ids n
    → (bytes : List ℕ) × (n % 2 ≡ 0) × (0 < n) × (object_bytes objects n ≡ Some bytes)
zip-there objects [] [] n e h m = absurd m
zip-there objects [] (i ∷ ids) n e h m = absurd (omega (arith, e))
zip-there objects (l ∷ ls) [] n e h m = absurd m
zip-there objects (l ∷ ls) (i ∷ ids) n e h (inl k) = subst (λ n. (bytes : List ℕ) × (n % 2 ≡ 0) × (0 < n) × (object_bytes objects n ≡ Some bytes)) k (l.1, h.0.0, h.0.1, h.0.2)
zip-there objects (l ∷ ls) (i ∷ ids) n e h (inr m) = zip-there objects ls ids n (omega (arith, e)) h.1 m

module _ (graph_of : List ℕ → Option RawGraph) (version : ℕ) (objects : Objects) (are_bytes : (id : ℕ) (bytes : List ℕ) → map.get objects id ≡ Some bytes → (id ≡ 0) ⊎ (id % 2 ≡ 1) → AreBytes bytes) (d : Store)
    (is_directory : directory_in graph_of version (map.entries objects) ≡ Some d) (no_bad : bad_entry graph_of version (map.entries objects) ≡ None) (no_stray : bad_large (map.entries objects) ≡ None) where
  abbrev bad : ℕ × List ℕ → Bool
  bad o = is_bad_record graph_of version (map.entries objects) d o

  abbrev read : ℕ × List ℕ → Option (ℕ × Entry)
  read o = entry_of graph_of version (map.entries objects) o

  good-each : Each (λ o. bad o ≡ false) (map.entries objects)
  good-each = find-none bad (map.entries objects) (map-none (λ (o : ℕ × List ℕ). o.0) (find bad (map.entries objects))
      (ap (option_and_then (λ d. first_object (is_bad_record graph_of version (map.entries objects) d) (map.entries objects))) (sym is_directory) ∙ no_bad))

  stray-each : Each (λ o. is_stray (map.entries objects) o ≡ false) (map.entries objects)
  stray-each = find-none (is_stray (map.entries objects)) (map.entries objects) (map-none (λ (o : ℕ × List ℕ). o.0) (find (is_stray (map.entries objects)) (map.entries objects)) no_stray)

  -- a record was read, its id is given, and no record before it names its entry
  good : (o : ℕ × List ℕ) → Among (map.entries objects) o → o.0 % 2 ≡ 1 → (x : ℕ × Entry) × (read o ≡ Some x) × HasGiven d x.0 x.1.uid × (is_named_before graph_of version (map.entries objects) o.0 x ≡ false)
  good o m odd = go (read o) refl (each-at (λ o. bad o ≡ false) (map.entries objects) o good-each m)
    where
      sound : (a b : Bool) → a ≡ true → (a && not b) ≡ false → b ≡ true
      sound a b h k = grind (arith, h, k)

      go : (r : Option (ℕ × Entry)) → read o ≡ r → (is_odd o && not (is_sound graph_of version (map.entries objects) d o.0 r)) ≡ false
          → (x : ℕ × Entry) × (read o ≡ Some x) × HasGiven d x.0 x.1.uid × (is_named_before graph_of version (map.entries objects) o.0 x ≡ false)
      go None e k = absurd (both-ways (sound (is_odd o) false (eq-eqb (o.0 % 2) 1 odd) k))
      go (Some x) e k =
          let p = and_parts (is_given d x) (not (is_named_before graph_of version (map.entries objects) o.0 x)) (sound (is_odd o) _ (eq-eqb (o.0 % 2) 1 odd) k) in
          (x, e, true-given d x p.0, untrue (is_named_before graph_of version (map.entries objects) o.0 x) p.1)
        where
          untrue : (b : Bool) → not b ≡ true → b ≡ false
          untrue true h = sym h
          untrue false h = refl

  -- two records that name one entry are one
  before-true : (a b : ℕ × List ℕ) (x y : ℕ × Entry) → Among (map.entries objects) a → a.0 % 2 ≡ 1 → a.0 < b.0 → read a ≡ Some x → x.0 ≡ y.0 → x.1.uid ≡ y.1.uid
      → is_named_before graph_of version (map.entries objects) b.0 y ≡ true
  before-true a b x y m odd less e sig uid = among-any (λ (o : ℕ × List ℕ). is_odd o && nat_lt o.0 b.0 && is_again y (read o)) (map.entries objects) a m
      (both (is_odd a && nat_lt a.0 b.0) (is_again y (read a)) (both (is_odd a) (nat_lt a.0 b.0) (eq-eqb (a.0 % 2) 1 odd) (lt-ltb a.0 b.0 less))
      (ap (is_again y) e ∙ both (y.0 == x.0) (y.1.uid == x.1.uid) (eq-eqb y.0 x.0 (sym sig)) (eq-eqb y.1.uid x.1.uid (sym uid))))

  one-record : (a b : ℕ × List ℕ) (x y : ℕ × Entry) → Among (map.entries objects) a → Among (map.entries objects) b → a.0 % 2 ≡ 1 → b.0 % 2 ≡ 1 → read a ≡ Some x → read b ≡ Some y
      → x.0 ≡ y.0 → x.1.uid ≡ y.1.uid → a.0 ≡ b.0
  one-record a b x y m n odd also e f sig uid = go (cases_order a.0 b.0)
    where
      no : (a b : ℕ × List ℕ) (x y : ℕ × Entry) → Among (map.entries objects) a → Among (map.entries objects) b → a.0 % 2 ≡ 1 → b.0 % 2 ≡ 1 → read a ≡ Some x → read b ≡ Some y → x.0 ≡ y.0 → x.1.uid ≡ y.1.uid → a.0 < b.0 → ⊥
      no a b x y m n odd also e f sig uid less =
          let g = good b n also in
          let same : g.0 ≡ y = some-same g.0 y (sym g.1 ∙ f) in
          both-ways (sym g.3 ∙ ap (is_named_before graph_of version (map.entries objects) b.0) same ∙ before-true a b x y m odd less e sig uid)

      go : (a.0 ≡ b.0) ⊎ ((a.0 < b.0) ⊎ (b.0 < a.0)) → a.0 ≡ b.0
      go (inl k) = k
      go (inr (inl less)) = absurd (no a b x y m n odd also e f sig uid less)
      go (inr (inr less)) = absurd (no b a y x n m also odd f e (sym sig) (sym uid) less)

  abbrev test : ℕ → ℕ → ℕ × List ℕ → Bool
  test sig uid o = is_odd o && has_id sig uid (read o)

  -- the object of the record of an entry, and the ids that it names
  pub place : Places
  place sig uid = option_map (λ o. o.0) (find (test sig uid) (map.entries objects))

  pub named : ℕ → List ℕ
  named id = named_by (id % 2 == 1) (map.get objects id)

  placed : (id : ℕ) (bytes : List ℕ) (x : ℕ × Entry) → map.get objects id ≡ Some bytes → id % 2 ≡ 1 → read (id, bytes) ≡ Some x → place x.0 x.1.uid ≡ Some id
  unfolding place
  placed id bytes x at odd e = go (find (test x.0 x.1.uid) (map.entries objects)) refl
    where
      m : Among (map.entries objects) (id, bytes)
      m = get-entry objects id bytes at

      go : (f : Option (ℕ × List ℕ)) → find (test x.0 x.1.uid) (map.entries objects) ≡ f → option_map (λ (o : ℕ × List ℕ). o.0) f ≡ Some id
      go None k =
          let no = each-at (λ o. test x.0 x.1.uid o ≡ false) (map.entries objects) (id, bytes) (find-none (test x.0 x.1.uid) (map.entries objects) k) (get-entry objects id bytes at) in
          absurd (both-ways (sym no ∙ both (id % 2 == 1) (has_id x.0 x.1.uid (read (id, bytes))) (eq-eqb (id % 2) 1 odd)
          (ap (has_id x.0 x.1.uid) e ∙ both (x.0 == x.0) (x.1.uid == x.1.uid) (eq-eqb x.0 x.0 refl) (eq-eqb x.1.uid x.1.uid refl))))
      go (Some o) k =
          let t = found-test (test x.0 x.1.uid) (map.entries objects) o k in
          let p = and_parts (is_odd o) (has_id x.0 x.1.uid (read o)) t.1 in
          let y = id-some x.0 x.1.uid (read o) p.1 in
          ap Some (one-record o (id, bytes) y.0 x t.0 (get-entry objects id bytes at) (eqb-true (o.0 % 2) 1 p.0) odd y.1 e (sym y.2) (sym y.3))

  names-are : (id : ℕ) (bytes : List ℕ) → map.get objects id ≡ Some bytes → id % 2 ≡ 1 → named id ≡ ids_named bytes
  unfolding named
  names-are id bytes at odd = (λ i. named_by (eq-eqb (id % 2) 1 odd i) (at i))

  is-record : (id : ℕ) (bytes : List ℕ) → map.get objects id ≡ Some bytes → id % 2 ≡ 1
      → (sig : ℕ) × (e : Entry) × IsRecord graph_of objects d bytes sig e × (place sig e.uid ≡ Some id) × (named id ≡ ids_named bytes)
  is-record id bytes at odd =
      let g = good (id, bytes) (get-entry objects id bytes at) odd in
      (g.0.0, g.0.1, record { are_bytes = are_bytes id bytes at (inr odd); read = g.1; given = g.2 }, placed id bytes g.0 at odd g.1, names-are id bytes at odd)

  has-place : (sig uid id : ℕ) → place sig uid ≡ Some id → (bytes : List ℕ) × (e : Entry) × (map.get objects id ≡ Some bytes) × (id % 2 ≡ 1) × IsRecord graph_of objects d bytes sig e × (e.uid ≡ uid)
  unfolding place
  has-place sig uid id h =
      let f = mapped (λ (o : ℕ × List ℕ). o.0) (find (test sig uid) (map.entries objects)) id h in
      let t = found-test (test sig uid) (map.entries objects) f.0 f.1 in
      let p = and_parts (is_odd f.0) (has_id sig uid (read f.0)) t.1 in
      let y = id-some sig uid (read f.0) p.1 in
      let odd = eqb-true (f.0.0 % 2) 1 p.0 in
      let at = entry-get objects f.0.0 f.0.1 t.0 in
      let g = good f.0 t.0 odd in
      let same : g.0 ≡ y.0 = some-same g.0 y.0 (sym g.1 ∙ y.1) in
      let is : IsRecord graph_of objects d f.0.1 y.0.0 y.0.1 = record { are_bytes = are_bytes f.0.0 f.0.1 at (inr odd); read = y.1; given = subst (λ (x : ℕ × Entry). HasGiven d x.0 x.1.uid) same g.2 } in
      (f.0.1, y.0.1, ap (map.get objects) (sym f.2) ∙ at, ap (λ n. n % 2) (sym f.2) ∙ odd, subst (λ sig. IsRecord graph_of objects d f.0.1 sig y.0.1) (sym y.2) is, sym y.3)

  names-of : (r n : ℕ) → Among (named r) n → (bytes : List ℕ) × (map.get objects r ≡ Some bytes) × (r % 2 ≡ 1) × Among (ids_named bytes) n
  unfolding named
  names-of r n m = let k = names-some (r % 2 == 1) (map.get objects r) n m in (k.0, k.2, eqb-true (r % 2) 1 k.1, k.3)

  -- ---- what is named

  abbrev all : List ℕ
  all = all_named (map.entries objects)

  once-each : (id : ℕ) (bytes : List ℕ) → map.get objects id ≡ Some bytes → 0 < id → id % 2 ≡ 0 → count_of id all ≡ 1
  once-each id bytes at above even =
      let k = each-at (λ o. is_stray (map.entries objects) o ≡ false) (map.entries objects) (id, bytes) stray-each (get-entry objects id bytes at) in
      eqb-true (count_of id all) 1 (one (id % 2 == 1) (nat_lt 0 id) (count_of id all == 1) (odd id even) (lt-ltb 0 id above) k)
    where
      odd : (n : ℕ) → n % 2 ≡ 0 → (n % 2 == 1) ≡ false
      odd n e = grind (arith, e)

      one : (a b c : Bool) → a ≡ false → b ≡ true → (not a && b && not c) ≡ false → c ≡ true
      one a b c h k l = grind (arith, h, k, l)

  -- each id that is named is that of an object with an even id above 0
  named-there : (o : ℕ × List ℕ) (n : ℕ) → Among (map.entries objects) o → o.0 % 2 ≡ 1 → Among (ids_named o.1) n → (bytes : List ℕ) × (map.get objects n ≡ Some bytes) × (0 < n) × (n % 2 ≡ 0)
  named-there o n m odd k =
      let g = good o m odd in
      let r = read-as graph_of objects o.1 g.0.0 g.0.1 g.1 in
      let t = zip-there (map.entries objects) (larges g.0.1.graph) (ids_of r.row.larges) n r.of_row.each_named r.of_row.there (subst (λ (row : Option EntryRow). Among (ids_in row) n) r.is_row k) in
      (t.0, sym (object-get objects n) ∙ t.3, t.2, t.1)

  all-there : (n : ℕ) → Among all n → (bytes : List ℕ) × (map.get objects n ≡ Some bytes) × (0 < n) × (n % 2 ≡ 0)
  all-there n m =
      let k = among-flat_map (λ (o : ℕ × List ℕ). ids_named o.1) (filter is_odd (map.entries objects)) n m in
      let f = among-filter is_odd (map.entries objects) k.0 k.1 in
      named-there k.0 n f.0 (eqb-true (k.0.0 % 2) 1 f.1) k.2

  all-apart : Pairs (λ a b. a ≢ b) all
  all-apart = count-apart all (λ n m. let t = all-there n m in once-each n t.0 t.1 t.2 t.3)

  apart-ids : (id : ℕ) → Pairs (λ a b. a ≢ b) (named id)
  unfolding named
  apart-ids id = go (id % 2 == 1) refl (map.get objects id) refl
    where
      go : (b : Bool) → (id % 2 == 1) ≡ b → (o : Option (List ℕ)) → map.get objects id ≡ o → Pairs (λ a b. a ≢ b) (named_by b o)
      go false e o k = tt
      go true e None k = tt
      go true e (Some bytes) k = flat-pairs (λ a b. a ≢ b) (λ (o : ℕ × List ℕ). ids_named o.1) (filter is_odd (map.entries objects)) (id, bytes) all-apart
          (filter-among is_odd (map.entries objects) (id, bytes) (get-entry objects id bytes k) e)

  in-odds : (id : ℕ) (bytes : List ℕ) → map.get objects id ≡ Some bytes → id % 2 ≡ 1 → Among (filter is_odd (map.entries objects)) (id, bytes)
  in-odds id bytes at odd = filter-among is_odd (map.entries objects) (id, bytes) (get-entry objects id bytes at) (eq-eqb (id % 2) 1 odd)

  its-root : (bytes : List ℕ) × (map.get objects 0 ≡ Some bytes) × (directory_read graph_of version bytes ≡ Some d)
  its-root = let t = then-some (directory_read graph_of version) (object_bytes (map.entries objects) 0) d is_directory in (t.0, sym (object-get objects 0) ∙ t.1, t.2)

  pub is-found : IsFound graph_of version objects place named d
  is-found = record {
    directory = (its-root.0, its-root.1, its-root.2, are_bytes 0 its-root.0 its-root.1 (inl refl));
    records = is-record;
    places = has-place;
    names = λ r o m. let k = names-of r o m in (k.0, k.1, k.2);
    others = λ id bytes at n even.
        let k = among-flat_map (λ (o : ℕ × List ℕ). ids_named o.1) (filter is_odd (map.entries objects)) id (count-among id all (once-each id bytes at (above id n) even)) in
        let f = among-filter is_odd (map.entries objects) k.0 k.1 in
        (k.0.0, subst (λ ns. Among ns id) (sym (names-are k.0.0 k.0.1 (entry-get objects k.0.0 k.0.1 f.0) (eqb-true (k.0.0 % 2) 1 f.1))) k.2);
    once = λ id other o m n.
        let k = names-of id o m in
        let l = names-of other o n in
        ap (λ (o : ℕ × List ℕ). o.0) (flat-once (λ (o : ℕ × List ℕ). ids_named o.1) (filter is_odd (map.entries objects)) (id, k.0) (other, l.0) o all-apart
        (in-odds id k.0 k.1 k.2) (in-odds other l.0 l.1 l.2) k.3 l.3);
    apart = apart-ids;
  }
    where
      above : (n : ℕ) → n ≢ 0 → 0 < n
      above n h = omega (arith, h)

-- ---- the store

pub complete : (graph_of : List ℕ → Option RawGraph) (version : ℕ) (objects : Objects) (blocks : ℕ) → ReadsGraphs graph_of → ((id : ℕ) (bytes : List ℕ) → map.get objects id ≡ Some bytes → (id ≡ 0) ⊎ (id % 2 ≡ 1) → AreBytes bytes)
    → no_directory graph_of version (map.entries objects) ≡ None → bad_entry graph_of version (map.entries objects) ≡ None → bad_large (map.entries objects) ≡ None → too_costly blocks (map.entries objects) ≡ None
    → (s : Store) × (store_of graph_of version (map.entries objects) blocks ≡ Some s)
complete graph_of version objects blocks reads are_bytes no_root no_bad no_stray no_cost =
    let root = missing-none 0 (directory_in graph_of version (map.entries objects)) no_root in
    let found = is-found graph_of version objects are_bytes root.0 root.1 no_bad no_stray in
    let s = found-lies graph_of version objects (place graph_of version objects are_bytes root.0 root.1 no_bad no_stray) (named graph_of version objects are_bytes root.0 root.1 no_bad no_stray) root.0 found reads in
    let few = above-none (cap blocks) (pages_taken (map.entries objects)) no_cost in
    let total = lies-total objects (place graph_of version objects are_bytes root.0 root.1 no_bad no_stray) s.0 s.1 s.3 in
    let fit : fits blocks s.0 ≡ true = ap (λ n. nat_le n (cap blocks)) (sym total) ∙ few in
    (s.0, lies-read graph_of version objects (place graph_of version objects are_bytes root.0 root.1 no_bad no_stray) blocks s.0 reads s.1 s.4 (both (well_formed s.0) (fits blocks s.0) s.3 fit))
