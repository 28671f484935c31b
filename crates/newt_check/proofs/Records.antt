-- The rows of the directory and of the records of entries, by what is seen of them.
use Rattle.std.proofs.Common.{arith, ◌≡◌, refl, ap, sym, ◌∙◌, subst, ℕ, ◌+◌, ◌%◌, ◌<◌, ◌≤◌, ◌==◌, ◌&&◌, nat_lt, ◌⊎◌, inl, inr, Bool, true, false, not, cond, List, [], ◌∷◌, ◌++◌, find, Option, Some, None, IsTrue, option_map, option_and_then, MatchOption, map as list_map}
use Rattle.std.specs.FinMap as map
use Rattle.std.specs.BTreeMap.{BTreeMap}
use Rattle.std.proofs.lemmas.Bool.{eq-eqb, eqb-true, lt-ltb, ltb-true, and_parts, cases_lt, cases_eq}
use Rattle.newt_host.specs.Moments.{image}
use Rattle.newt_host.specs.Outside.{Outside}
use Rattle.newt_nsof_flat.specs.Stream.{stream_graph}
use Rattle.newt_spec_nsof.specs.Text.{AreBytes}
use Rattle.newt_spec_image.specs.Objects.{Objects}
use Rattle.newt_spec_image.specs.Records.{version}
use Rattle.newt_objects.specs.Changing.{HoldsObjects}
use Rattle.newt_objects.specs.Extents.{IsNextIn}
use Rattle.newt_objects.specs.Held.{Held, held}
use Rattle.newt_objects_commit.specs.Commit.{AreKept}
use Rattle.newt_pagebook.specs.Book.{Numbers}
use Rattle.newt_entries.specs.Entry.{row_at, said}
use Rattle.newt_entries.specs.declared.row.EntryRow.{EntryRow}
use Rattle.newt_entries.specs.declared.row.LargeAt.{LargeAt}
use Rattle.newt_soupdir.specs.Bare.{bare_store}
use Rattle.newt_soupdir.specs.declared.rows.Directory.{Directory}
use Rattle.newt_spec_graph.specs.Lists.{Pairs, Among}
use Rattle.newt_spec_graph.proofs.Lists.{each-at, each-from, none-some, some-same}
use Rattle.newt_spec_store.specs.Lies.{Places, directory_read, entry_read, record_read}
use Rattle.newt_spec_store.specs.Store.{Entry, Store}
use Rattle.newt_spec_graph.specs.Graph.{every}
use Rattle.newt_spec_store.specs.StoreOf.{large_object}
use Rattle.newt_laws_images.specs.Found.{HasGiven}
use Rattle.newt_laws_images.proofs.Alone.{missing, bad-alone}
use Rattle.newt_laws_images.proofs.Finite.{object-get, entries-rising, entry-get, get-entry}
use Rattle.newt_laws_images.proofs.Rows.{large-parts}
use Rattle.newt_spec_check.proofs.Complete.{true-given}
use Rattle.newt_spec_check.proofs.Finds.{none-find, any-true, among-any}
use Rattle.newt_spec_check.proofs.Sound.{both, given-true, again-some}
use Rattle.newt_spec_check.specs.Damage.{directory_in, first_object, is_odd, is_again, is_given, is_named_before, is_sound, is_bad_record, entry_of, bad_entry, all_named}
use Rattle.newt_store_catalog.specs.Calls.{IsDirectory}
use Rattle.newt_store_catalog.specs.Opening.{AreFoundTo, HasObject, IsRoot, OfObjects, objects_named}
use Rattle.newt_store_catalog.proofs.Opening.{bytes_of, kept-none, kept-length, names-are, even-rows, now-formed, read-among}
use Rattle.newt_store_catalog.proofs.OpeningPlaces.{even-next, row-next, found-none}
use Rattle.newt_store_catalog.proofs.Owning.{all-there, not-there}
use Rattle.newt_check.specs.Seen.{AreCounts, AreRecordBytes, HasSeen, IsBadRow, KeepsRow, names_in, names_at, named_to}
use Rattle.newt_check.proofs.Listed.{named-next, named-even, named-none, named-all}

-- ---- the first object that passes

first-among : (test : ℕ × List ℕ → Bool) (es : List (ℕ × List ℕ)) (o : ℕ × List ℕ) → Pairs (λ (a b : ℕ × List ℕ). a.0 < b.0) es → Among es o → test o ≡ true
    → ((p : ℕ × List ℕ) → Among es p → p.0 < o.0 → test p ≡ false) → first_object test es ≡ Some o.0
first-among test [] o rising m holds fails = absurd m
first-among test (e ∷ es) o rising (inl same) holds fails = ap (λ b. option_map (λ (o : ℕ × List ℕ). o.0) (cond b (Some e) (find test es))) (ap test same ∙ holds) ∙ ap (λ (o : ℕ × List ℕ). let r : Option ℕ = Some o.0 in r) same
first-among test (e ∷ es) o rising (inr m) holds fails =
    ap (λ b. option_map (λ (o : ℕ × List ℕ). o.0) (cond b (Some e) (find test es))) (fails e (inl refl) (each-at (λ (b : ℕ × List ℕ). e.0 < b.0) es o rising.0 m))
    ∙ first-among test es o rising.1 m holds (λ p n. fails p (inr n))

-- an object passes, and none with a smaller id does
first-is : (test : ℕ × List ℕ → Bool) (texts : Objects) (id : ℕ) (bytes : List ℕ) → map.get texts id ≡ Some bytes → test (id, bytes) ≡ true
    → ((other : ℕ) (others : List ℕ) → map.get texts other ≡ Some others → other < id → test (other, others) ≡ false) → first_object test (map.entries texts) ≡ Some id
first-is test texts id bytes at holds fails = first-among test (map.entries texts) (id, bytes) (entries-rising texts) (get-entry texts id bytes at) holds (λ p m less. fails p.0 p.1 (entry-get texts p.0 p.1 m) less)

-- no object passes
first-none : (test : ℕ × List ℕ → Bool) (texts : Objects) → ((id : ℕ) (bytes : List ℕ) → map.get texts id ≡ Some bytes → test (id, bytes) ≡ false) → first_object test (map.entries texts) ≡ None
first-none test texts fails = ap (option_map (λ (o : ℕ × List ℕ). o.0)) (none-find test (map.entries texts) (each-from (λ o. test o ≡ false) (map.entries texts) (λ o m. fails o.0 o.1 (entry-get texts o.0 o.1 m))))

-- ---- a record among objects

every-none : {X Y : Type 0} (f : X → Option Y) (xs : List X) (ys : List Y) (x : X) → every (list_map f xs) ≡ Some ys → Among xs x → f x ≡ None → ⊥
every-none f [] ys x e m lacks = m
every-none {X} {Y} f (z ∷ xs) ys x e m lacks = go (λ zs k n. every-none f xs zs x k n lacks) (f z) refl (every (list_map f xs)) refl e m
  where
    go : ((zs : List Y) → every (list_map f xs) ≡ Some zs → Among xs x → ⊥) → (o : Option Y) → f z ≡ o → (os : Option (List Y)) → every (list_map f xs) ≡ os → every (o ∷ list_map f xs) ≡ Some ys → Among (z ∷ xs) x → ⊥
    go more None is os rest k m = none-some ys k
    go more (Some y) is None rest k m = none-some ys (sym (ap (option_map (λ zs. y ∷ zs)) rest) ∙ k)
    go more (Some y) is (Some zs) rest k (inl same) = none-some y (sym lacks ∙ ap f (sym same) ∙ is)
    go more (Some y) is (Some zs) rest k (inr n) = more zs rest n

among-rows : (rows : List LargeAt) (l : LargeAt) → Among rows l → Among (list_map row_at rows) (row_at l)
among-rows [] l m = m
among-rows (x ∷ rows) l (inl same) = inl (ap row_at same)
among-rows (x ∷ rows) l (inr m) = inr (among-rows rows l m)

-- ---- the directory

pub root-none : (now : List ℕ) (texts : Objects) → map.get texts 0 ≡ None → directory_in stream_graph (version now) (map.entries texts) ≡ None
root-none now texts none = ap (option_and_then (directory_read stream_graph (version now))) (object-get texts 0 ∙ none)

pub root-bad : (now : List ℕ) (texts : Objects) (bytes : List ℕ) → map.get texts 0 ≡ Some bytes → directory_read stream_graph (version now) bytes ≡ None → directory_in stream_graph (version now) (map.entries texts) ≡ None
root-bad now texts bytes at bad = ap (option_and_then (directory_read stream_graph (version now))) (object-get texts 0 ∙ at) ∙ bad

pub root-is : (now : List ℕ) (directory : Directory) (texts : Objects) → IsRoot (version now) directory texts → directory_in stream_graph (version now) (map.entries texts) ≡ Some (bare_store directory)
root-is now directory texts r = ap (option_and_then (directory_read stream_graph (version now))) (object-get texts 0 ∙ r.object) ∙ r.read

-- ---- records

same-key : (a b s u : ℕ) → ((a ≡ s) × (b ≡ u)) ⊎ ((a ≡ s) → (b ≡ u) → ⊥)
same-key a b s u = elim (cases_eq a s) [
  | inl same ↦ elim (cases_eq b u) [ inl also ↦ inl (same, also) | inr differ ↦ inr (λ _ e. differ e) ]
  | inr differ ↦ inr (λ e _. differ e)
]

if-odd : (b c : Bool) → (b ≡ true → c ≡ false) → (b && c) ≡ false
if-odd true c h = h refl
if-odd false c h = refl

module _ (v : ℕ) (texts : Objects) (d : Store) (last : ℕ) (place : Places) (below : (sig uid id : ℕ) → place sig uid ≡ Some id → id < last + 1) (found : AreFoundTo last place (names_in texts) d texts) where
  abbrev bad : ℕ × List ℕ → Bool
  bad o = is_bad_record stream_graph v (map.entries texts) d o

  abbrev before : ℕ → ℕ × Entry → Bool
  before id x = is_named_before stream_graph v (map.entries texts) id x

  -- a record that was seen is not named by another before it
  not-before : (id : ℕ) (bytes : List ℕ) (sig : ℕ) (e : Entry) → map.get texts id ≡ Some bytes → id < last + 1 → place sig e.uid ≡ Some id → before id (sig, e) ≡ false
  not-before id bytes sig e at low placed = go (before id (sig, e)) refl
    where
      go : (b : Bool) → before id (sig, e) ≡ b → b ≡ false
      go false k = refl
      go true k =
          let r = any-true (λ (o : ℕ × List ℕ). is_odd o && nat_lt o.0 id && is_again (sig, e) (entry_of stream_graph v (map.entries texts) o)) (map.entries texts) k in
          let p = and_parts (is_odd r.0 && nat_lt r.0.0 id) (is_again (sig, e) (entry_of stream_graph v (map.entries texts) r.0)) r.2 in
          let q = and_parts (is_odd r.0) (nat_lt r.0.0 id) p.0 in
          let y = again-some (sig, e) (entry_of stream_graph v (map.entries texts) r.0) p.1 in
          let less = ltb-true r.0.0 id q.1 in
          let f = found.records r.0.0 r.0.1 (entry-get texts r.0.0 r.0.1 r.1) (eqb-true (r.0.0 % 2) 1 q.0) (omega (arith, less, low)) in
          let same : ◌≡◌ {A = ℕ × Entry} (f.0, f.1) y.0 = some-same _ _ (sym f.2.read ∙ y.1) in
          let there : place sig e.uid ≡ Some r.0.0 = (λ i. place ((y.2 ∙ sym (ap {A = ℕ × Entry} {B = ℕ} (λ x. x.0) same)) i) ((y.3 ∙ sym (ap {A = ℕ × Entry} {B = ℕ} (λ x. x.1.uid) same)) i)) ∙ f.3 in
          let one : r.0.0 ≡ id = some-same _ _ (sym there ∙ placed) in
          absurd (omega (arith, less, one))

  -- a record that was seen breaks no rule
  good-before : (id : ℕ) (bytes : List ℕ) → map.get texts id ≡ Some bytes → id < last + 1 → bad (id, bytes) ≡ false
  good-before id bytes at low = if-odd (id % 2 == 1) (not (is_sound stream_graph v (map.entries texts) d id (entry_of stream_graph v (map.entries texts) (id, bytes)))) (λ odd.
      let f = found.records id bytes at (eqb-true (id % 2) 1 odd) low in
      ap (λ x. not (is_sound stream_graph v (map.entries texts) d id x)) f.2.read
      ∙ ap not (both (is_given d (f.0, f.1)) (not (before id (f.0, f.1))) (given-true d (f.0, f.1) f.2.given) (ap not (not-before id bytes f.0 f.1 at low f.3))))

  module _ (root : directory_in stream_graph v (map.entries texts) ≡ Some d) where
    row-is : bad_entry stream_graph v (map.entries texts) ≡ first_object bad (map.entries texts)
    row-is = ap (option_and_then (λ d. first_object (is_bad_record stream_graph v (map.entries texts) d) (map.entries texts))) root

    -- where all were seen, none breaks a rule
    pub none-bad : ((q : ℕ) → last + 1 ≤ q → map.get texts q ≡ None) → bad_entry stream_graph v (map.entries texts) ≡ None
    none-bad none = row-is ∙ first-none bad texts (λ id bytes at. elim (cases_lt id (last + 1)) [
      | inl low ↦ good-before id bytes at low
      | inr high ↦ absurd (none-some bytes (sym (none id high) ∙ at))
    ])

    module _ (id : ℕ) (bytes : List ℕ) (at : map.get texts id ≡ Some bytes) (odd : id % 2 ≡ 1) (later : last + 1 ≤ id) (none : (q : ℕ) → last + 1 ≤ q → q < id → map.get texts q ≡ None) where
      -- the next record breaks one
      bad-is : is_sound stream_graph v (map.entries texts) d id (entry_of stream_graph v (map.entries texts) (id, bytes)) ≡ false → bad_entry stream_graph v (map.entries texts) ≡ Some id
      bad-is h = row-is ∙ first-is bad texts id bytes at (both (id % 2 == 1) _ (eq-eqb (id % 2) 1 odd) (ap not h)) (λ other others there less. elim (cases_lt other (last + 1)) [
        | inl low ↦ good-before other others there low
        | inr high ↦ absurd (none-some others (sym (none other high less) ∙ there))
      ])

      no-entry : entry_read stream_graph texts bytes ≡ None → bad_entry stream_graph v (map.entries texts) ≡ Some id
      no-entry h = bad-is (ap (is_sound stream_graph v (map.entries texts) d id) h)

      pub bad-record : record_read stream_graph bytes ≡ None → bad_entry stream_graph v (map.entries texts) ≡ Some id
      bad-record h = no-entry (bad-alone stream_graph texts bytes h)

      module _ (row : EntryRow) (read : record_read stream_graph bytes ≡ Some (said row)) where
        -- the record is of an entry that is not sound, or is read as none
        of-row : ((e : Entry) → e.uid ≡ row.uid → (is_given d (row.soup, e) && not (before id (row.soup, e))) ≡ false) → bad_entry stream_graph v (map.entries texts) ≡ Some id
        of-row h = elim (read-among texts bytes row read) [
          | inl lack ↦ no-entry lack
          | inr r ↦ bad-is (ap (is_sound stream_graph v (map.entries texts) d id) r.1 ∙ h r.0 r.2)
        ]

        pub not-given : (HasGiven d row.soup row.uid → ⊥) → bad_entry stream_graph v (map.entries texts) ≡ Some id
        not-given h = of-row (λ e uid. go e uid (is_given d (row.soup, e)) refl)
          where
            go : (e : Entry) → e.uid ≡ row.uid → (b : Bool) → is_given d (row.soup, e) ≡ b → (b && not (before id (row.soup, e))) ≡ false
            go e uid false k = refl
            go e uid true k = absurd (h (subst (λ (u : ℕ). HasGiven d row.soup u) uid (true-given d (row.soup, e) k)))

        pub twice : (other : ℕ) → place row.soup row.uid ≡ Some other → bad_entry stream_graph v (map.entries texts) ≡ Some id
        twice other placed = of-row (λ e uid.
            let f = found.places row.soup row.uid other placed in
            let low = below row.soup row.uid other placed in
            let again : is_again (row.soup, e) (entry_of stream_graph v (map.entries texts) (other, f.0)) ≡ true =
            ap (is_again (row.soup, e)) f.4.read ∙ both (row.soup == row.soup) (e.uid == f.1.uid) (eq-eqb row.soup row.soup refl) (eq-eqb e.uid f.1.uid (uid ∙ sym f.5)) in
            let named : before id (row.soup, e) ≡ true =
            among-any (λ (o : ℕ × List ℕ). is_odd o && nat_lt o.0 id && is_again (row.soup, e) (entry_of stream_graph v (map.entries texts) o)) (map.entries texts) (other, f.0)
            (get-entry texts other f.0 f.2)
            (both ((other % 2 == 1) && nat_lt other id) (is_again (row.soup, e) (entry_of stream_graph v (map.entries texts) (other, f.0)))
            (both (other % 2 == 1) (nat_lt other id) (eq-eqb (other % 2) 1 f.3) (lt-ltb other id (omega (arith, low, later)))) again) in
            ap (λ b. is_given d (row.soup, e) && not b) named ∙ no (is_given d (row.soup, e)))
          where
            no : (b : Bool) → (b && false) ≡ false
            no true = refl
            no false = refl

        pub lost : entry_read stream_graph texts bytes ≡ None → bad_entry stream_graph v (map.entries texts) ≡ Some id
        lost = no-entry

-- ---- the next object

module _ (told : Bool) (objects : Held) (numbers : Numbers) (unit : ℕ) (outside : Outside) (kept : AreKept told objects numbers unit outside) (d : Directory) (last id : ℕ) (next : IsNextIn (held objects) (last + 1) (Some id))
    (place : Places) (counts : BTreeMap ℕ Bool) (seen : HasSeen told (image unit outside.now) last (bare_store d) place counts) where
  abbrev now : List ℕ
  now = image unit outside.now

  abbrev its : Store
  its = bare_store d

  later : last + 1 ≤ id
  later = (next.found id refl).1

  no-object : IsTrue told → (texts : Objects) → HoldsObjects now texts → (q : ℕ) → last + 1 ≤ q → q < id → map.get texts q ≡ None
  no-object tells texts h q from to = kept-none told objects numbers unit outside kept tells texts h q (next.least id q refl from to)

  pub seen-even : id % 2 ≡ 0 → HasSeen told now id its place counts
  seen-even even = record {
    below = λ sig uid q at. let low = seen.below sig uid q at in omega (arith, low, later);
    found = λ tells texts h. even-next told objects numbers unit outside kept tells texts h its last id next place (names_in texts) even (seen.found tells texts h);
    counted = λ tells texts h. subst (λ (ns : List ℕ). AreCounts ns counts) (sym (named-even texts id last even later (no-object tells texts h))) (seen.counted tells texts h);
  }

  module _ (odd : id % 2 ≡ 1) (root : OfObjects told now (IsRoot (version now) d)) (bytes : List ℕ) (has : OfObjects told now (HasObject id bytes)) where
    row-of : IsTrue told → (texts : Objects) (h : HoldsObjects now texts) → directory_in stream_graph (version now) (map.entries texts) ≡ Some its
    row-of tells texts h = root-is now d texts (root tells texts h)

    pub seen-bad : record_read stream_graph bytes ≡ None → OfObjects told now (λ texts. bad_entry stream_graph (version now) (map.entries texts) ≡ Some id)
    seen-bad bad = λ tells texts h.
        bad-record (version now) texts its last place seen.below (seen.found tells texts h) (row-of tells texts h) id bytes (has tells texts h) odd later (no-object tells texts h) bad

    module _ (row : EntryRow) (read : record_read stream_graph bytes ≡ Some (said row)) (are : AreBytes bytes) where
      lacks : IsTrue told → (texts : Objects) → HoldsObjects now texts → (l : LargeAt) → Among row.larges l → (option_map (λ x. x.length) (held objects l.object) ≡ Some l.length → ⊥) → entry_read stream_graph texts bytes ≡ None
      lacks tells texts h l m none = go (bytes_of texts row) refl
        where
          not-in : (o : Option (List ℕ)) → large_object (map.entries texts) (row_at l) ≡ o → o ≡ None
          not-in None e = refl
          not-in (Some b) e =
              let p = large-parts (map.entries texts) (row_at l) b e in
              absurd (none (kept-length told objects numbers unit outside kept tells texts h l.object b (sym (object-get texts l.object) ∙ p.2) ∙ ap (λ (n : ℕ). let o : Option ℕ = Some n in o) p.3))

          go : (o : Option (List (List ℕ))) → bytes_of texts row ≡ o → entry_read stream_graph texts bytes ≡ None
          go None e = missing stream_graph texts bytes (said row).0 (said row).1 read e
          go (Some bs) e = absurd (every-none (large_object (map.entries texts)) (list_map row_at row.larges) bs (row_at l) e (among-rows row.larges l m) (not-in (large_object (map.entries texts) (row_at l)) refl))

      pub seen-not : IsBadRow (held objects) its row place → OfObjects told now (λ texts. bad_entry stream_graph (version now) (map.entries texts) ≡ Some id)
      seen-not bad = λ tells texts h. elim bad [
        | inl none ↦ not-given (version now) texts its last place seen.below (seen.found tells texts h) (row-of tells texts h) id bytes (has tells texts h) odd later (no-object tells texts h) row read none
        | inr (inl other) ↦ twice (version now) texts its last place seen.below (seen.found tells texts h) (row-of tells texts h) id bytes (has tells texts h) odd later (no-object tells texts h) row read other.0 other.1
        | inr (inr lack) ↦ (let l = not-there (held objects) row.larges lack in
            lost (version now) texts its last place seen.below (seen.found tells texts h) (row-of tells texts h) id bytes (has tells texts h) odd later (no-object tells texts h) row read (lacks tells texts h l.0 l.1 l.2))
      ]

      pub seen-row : (place' : Places) (counts' : BTreeMap ℕ Bool) → KeepsRow (held objects) its id row place place' counts counts' → HasSeen told now id its place' counts'
      seen-row place' counts' k = record {
        below = λ sig uid q at. low sig uid q at;
        found = λ tells texts h.
            let names : names_in texts id ≡ objects_named row.larges = ap names_at (has tells texts h) ∙ names-are bytes row read in
            row-next told objects numbers unit outside kept tells texts h its last id next place (names_in texts) row
            (record { bytes = bytes; object = has tells texts h; read = read; are_bytes = are }) odd k.given (even-rows bytes row read) (all-there (held objects) row.larges k.there)
            place' (names_in texts) k.free k.placed k.others names (λ r differ. refl) (seen.found tells texts h);
        counted = λ tells texts h.
            subst (λ (ns : List ℕ). AreCounts ns counts') (ap (λ (ns : List ℕ). named_to last texts ++ ns) (sym (names-are bytes row read)) ∙ sym (named-next texts id last bytes (has tells texts h) odd later (no-object tells texts h)))
            (k.counted (named_to last texts) (seen.counted tells texts h));
      }
        where
          low : (sig uid q : ℕ) → place' sig uid ≡ Some q → q < id + 1
          low sig uid q at = elim (same-key sig uid row.soup row.uid) [
            | inl same ↦ (let one : q ≡ id = some-same q id (sym at ∙ (λ i. place' (same.0 i) (same.1 i)) ∙ k.placed) in omega (arith, one))
            | inr other ↦ (let before = seen.below sig uid q (sym (k.others sig uid other) ∙ at) in omega (arith, before, later))
          ]

-- ---- none yet, and all

pub seen-none : (told : Bool) (img : List ℕ) (d : Store) (place : Places) (counts : BTreeMap ℕ Bool) → ((sig uid : ℕ) → place sig uid ≡ None) → AreCounts [] counts → HasSeen told img 0 d place counts
seen-none told img d place counts none are = record {
  below = λ sig uid id at. absurd (none-some id (sym (none sig uid) ∙ at));
  found = λ tells texts h. found-none texts d place (names_in texts) none;
  counted = λ tells texts h. subst (λ (ns : List ℕ). AreCounts ns counts) (sym (named-none texts)) are;
}

pub seen-all : (told : Bool) (img : List ℕ) (d : Store) (last : ℕ) (place : Places) (counts : BTreeMap ℕ Bool) → HasSeen told img last d place counts → IsTrue told → (texts : Objects) → HoldsObjects img texts
    → ((q : ℕ) → last + 1 ≤ q → map.get texts q ≡ None) → AreCounts (all_named (map.entries texts)) counts × AreRecordBytes texts
seen-all told img d last place counts seen tells texts h none = (
  subst (λ (ns : List ℕ). AreCounts ns counts) (named-all texts last none) (seen.counted tells texts h),
  (λ id bytes at odd. elim (cases_lt id (last + 1)) [
    | inl low ↦ ((seen.found tells texts h).records id bytes at odd low).2.are_bytes
    | inr high ↦ absurd (none-some bytes (sym (none id high) ∙ at))
  ]),
)

-- where no object is left, no record breaks a rule
pub none-found : (told : Bool) (objects : Held) (numbers : Numbers) (unit : ℕ) (outside : Outside) (kept : AreKept told objects numbers unit outside) (d : Directory) (last : ℕ) (place : Places) (counts : BTreeMap ℕ Bool)
    → HasSeen told (image unit outside.now) last (bare_store d) place counts → OfObjects told (image unit outside.now) (IsRoot (version (image unit outside.now)) d) → ((q : ℕ) → last + 1 ≤ q → held objects q ≡ None)
    → OfObjects told (image unit outside.now) (λ texts. None ≡ bad_entry stream_graph (version (image unit outside.now)) (map.entries texts))
none-found told objects numbers unit outside kept d last place counts seen root end = λ tells texts h.
    sym (none-bad (version (image unit outside.now)) texts (bare_store d) last place seen.below (seen.found tells texts h) (root-is (image unit outside.now) d texts (root tells texts h))
    (λ q from. kept-none told objects numbers unit outside kept tells texts h q (end q from)))

-- what is read of the bytes of object 0 is the directory of the image, or it has none
pub root-by : (told : Bool) (img bytes text : List ℕ) (number : ℕ) (found : Option Directory) → OfObjects told img (HasObject 0 bytes) → text ≡ bytes → (IsTrue told → number ≡ version img)
    → MatchOption found (directory_read stream_graph number text ≡ None) (λ d. directory_read stream_graph number text ≡ Some (bare_store d)) → AreBytes text
    → MatchOption found (OfObjects told img (λ texts. directory_in stream_graph (version img) (map.entries texts) ≡ None)) (IsDirectory told img)
root-by told img bytes text number None has same is read are = λ tells texts h.
    root-bad img texts bytes (has tells texts h) ((λ i. directory_read stream_graph (sym (is tells) i) (sym same i)) ∙ read)
root-by told img bytes text number (Some d) has same is read are = record {
  root = λ tells texts h. record {
    bytes = bytes;
    object = has tells texts h;
    read = (λ i. directory_read stream_graph (sym (is tells) i) (sym same i)) ∙ read;
    are_bytes = subst AreBytes same are;
  };
  formed = now-formed number text (bare_store d) read;
}
