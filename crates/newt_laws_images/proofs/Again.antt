-- A store that is read lies in the objects, each entry in its place.
use Rattle.std.proofs.Common.{arith, ◌≡◌, ◌≢◌, refl, ap, sym, ◌∙◌, subst, ℕ, ◌%◌, ◌<◌, List, [], ◌∷◌, true, false, Bool, ◌&&◌, cond, inl, inr, ◌⊎◌, Option, Some, None, option_map, find, length, sum_by, ◌==◌}
use Rattle.std.specs.FinMap as map
use Rattle.std.proofs.lemmas.Bool.{eqb-true, eq-eqb, and_parts, and_from, leb-true}
use Rattle.newt_graph.specs.Graph.{RawGraph, IsGraph}
use Rattle.newt_spec_image.specs.Objects.{pages_for, Objects}
use Rattle.newt_spec_image.specs.Pages.{cap}
use Rattle.newt_spec_nsof.specs.Text.{AreBytes}
use Rattle.newt_spec_graph.specs.Lists.{Pairs, Among}
use Rattle.newt_spec_graph.proofs.Lists.{each-at, some-same, none-some, among-filter, filter-among, pairs-more}
use Rattle.newt_spec_store.specs.Lies.{LiesIn, Places, ReadsGraphs}
use Rattle.newt_spec_store.specs.Store.{Entry, Soup, Store}
use Rattle.newt_spec_store.specs.StoreOf.{EntryRow, entry_row, store_of}
use Rattle.newt_spec_store.specs.Valid.{well_formed, fits}
use Rattle.newt_laws_images.specs.Found.{ids_named}
use Rattle.newt_laws_images.proofs.Directories.{directory-infos}
use Rattle.newt_laws_images.proofs.Finite.{entry-get, get-entry}
use Rattle.newt_laws_images.proofs.Known.{IsEntryIn, all-read, read-directory, read-good, read-bare, named-once, named-apart, even-named, records-differ, Differ, bare-good}
use Rattle.newt_laws_images.proofs.Both.{both-left, both-more}
use Rattle.newt_laws_images.proofs.Made.{odds, IsEntryOf, Gathered, made-lies, small-of}
use Rattle.newt_laws_images.proofs.Parts.{IsReading, reading}
use Rattle.newt_laws_images.proofs.Rows.{ReadAs}
use Rattle.newt_laws_images.proofs.Spelt.{Small, directory-spelt}
use Rattle.newt_laws_images.proofs.Totals.{lies-total}

-- the row is of this soup and this id
abbrev row_names : ℕ → ℕ → Option EntryRow → Bool
row_names sig uid None = false
row_names sig uid (Some row) = (row.soup == sig) && (row.uid == uid)

abbrev names : ℕ → ℕ → ℕ × List ℕ → Bool
names sig uid o = row_names sig uid (entry_row o.1)

-- the object whose record is of this soup and this id
abbrev pub place_in : Objects → Places
place_in objects sig uid = option_map (λ (o : ℕ × List ℕ). o.0) (find (names sig uid) (odds objects))

-- what the bytes of an object name, where there are such
abbrev names_at : Option (List ℕ) → List ℕ
names_at None = []
names_at (Some bytes) = ids_named bytes

-- the ids that the object of this id names, where it is a record
abbrev pub named_by : Objects → ℕ → List ℕ
named_by objects id = cond (id % 2 == 1) (names_at (map.get objects id)) []

pub found-test : {X : Type 0} (test : X → Bool) (xs : List X) (x : X) → find test xs ≡ Some x → Among xs x × (test x ≡ true)
found-test test [] x h = absurd (none-some x h)
found-test {X} test (y ∷ xs) x h = go (found-test test xs x) (test y) refl h
  where
    go : (find test xs ≡ Some x → Among xs x × (test x ≡ true)) → (b : Bool) → test y ≡ b → cond b (Some y) (find test xs) ≡ Some x → Among (y ∷ xs) x × (test x ≡ true)
    go more true e k = let same = some-same y x k in (inl same, ap test (sym same) ∙ e)
    go more false e k = let r = more k in (inr r.0, r.1)

find-one : {X : Type 0} (test : X → Bool) (xs : List X) (x : X) → Pairs (λ a b. test a ≡ true → test b ≡ true → ⊥) xs → Among xs x → test x ≡ true → find test xs ≡ Some x
find-one test [] x h m t = absurd m
find-one {X} test (y ∷ xs) x h m t = go (λ n. find-one test xs x h.1 n t) (test y) refl m
  where
    no : test y ≡ true → Among xs x → ⊥
    no e n = each-at (λ b. test y ≡ true → test b ≡ true → ⊥) xs x h.0 n e t

    go : (Among xs x → find test xs ≡ Some x) → (b : Bool) → test y ≡ b → Among (y ∷ xs) x → cond b (Some y) (find test xs) ≡ Some x
    go more true e (inl k) = ap Some k
    go more true e (inr n) = absurd (no e n)
    go more false e (inl k) = absurd (both false (sym e ∙ ap test k ∙ t))
      where
        both : (b : Bool) → false ≡ true → ⊥
        both b p = cc
    go more false e (inr n) = more n

read-names : (graph_of : List ℕ → Option RawGraph) (objects : Objects) (sig uid : ℕ) (bytes : List ℕ) (a : ℕ) (e : Entry) → ReadAs graph_of objects bytes a e → row_names sig uid (entry_row bytes) ≡ ((a == sig) && (e.uid == uid))
read-names graph_of objects sig uid bytes a e r = ap (row_names sig uid) r.is_row ∙ (λ i. (r.of_row.of_soup i == sig) && (r.of_row.of_uid i == uid))

module _ (graph_of : List ℕ → Option RawGraph) (version : ℕ) (objects : Objects) (blocks : ℕ) (s : Store) (r : IsReading graph_of version (map.entries objects) blocks s)
    (small : (id : ℕ) (bytes : List ℕ) → map.get objects id ≡ Some bytes → (id ≡ 0) ⊎ (id % 2 ≡ 1) → Small bytes) where
  -- the entry of a record
  record-of : (o : ℕ × List ℕ) → Among (odds objects) o → (x : ℕ × Entry) × Among r.es x × IsEntryIn graph_of objects r.d o x
  record-of o m = both-left (IsEntryIn graph_of objects r.d) (odds objects) r.es o (all-read graph_of version objects blocks s r) m

  names-apart : (sig uid : ℕ) → Pairs (λ a b. names sig uid a ≡ true → names sig uid b ≡ true → ⊥) (odds objects)
  names-apart sig uid = pairs-more (Differ graph_of version objects blocks s r) (λ a b. names sig uid a ≡ true → names sig uid b ≡ true → ⊥) (odds objects)
      (λ a b m n differ p q.
      let x = record-of a m in
      let y = record-of b n in
      let u = and_parts (x.0.0 == sig) (x.0.1.uid == uid) (sym (read-names graph_of objects sig uid a.1 x.0.0 x.0.1 x.2.read) ∙ p) in
      let v = and_parts (y.0.0 == sig) (y.0.1.uid == uid) (sym (read-names graph_of objects sig uid b.1 y.0.0 y.0.1 y.2.read) ∙ q) in
      differ x.0 y.0 x.2.read y.2.read (eqb-true x.0.0 sig u.0 ∙ sym (eqb-true y.0.0 sig v.0)) (eqb-true x.0.1.uid uid u.1 ∙ sym (eqb-true y.0.1.uid uid v.1)))
      (records-differ graph_of version objects blocks s r)

  its-place : (o : ℕ × List ℕ) (x : ℕ × Entry) → Among (odds objects) o → IsEntryIn graph_of objects r.d o x → place_in objects x.0 x.1.uid ≡ Some o.0
  its-place o x m is = ap (option_map (λ (o : ℕ × List ℕ). o.0)) (find-one (names x.0 x.1.uid) (odds objects) o (names-apart x.0 x.1.uid) m
      (read-names graph_of objects x.0 x.1.uid o.1 x.0 x.1 is.read ∙ and_from (x.0 == x.0) (x.1.uid == x.1.uid) (eq-eqb x.0 x.0 refl) (eq-eqb x.1.uid x.1.uid refl)))

  its-entry : (sig uid id : ℕ) → place_in objects sig uid ≡ Some id → (e : Entry) × Among r.es (sig, e) × (e.uid ≡ uid)
  its-entry sig uid id h = go (find (names sig uid) (odds objects)) refl h
    where
      go : (o : Option (ℕ × List ℕ)) → find (names sig uid) (odds objects) ≡ o → option_map (λ (o : ℕ × List ℕ). o.0) o ≡ Some id → (e : Entry) × Among r.es (sig, e) × (e.uid ≡ uid)
      go None k p = absurd (none-some id p)
      go (Some o) k p =
          let f = found-test (names sig uid) (odds objects) o k in
          let x = record-of o f.0 in
          let u = and_parts (x.0.0 == sig) (x.0.1.uid == uid) (sym (read-names graph_of objects sig uid o.1 x.0.0 x.0.1 x.2.read) ∙ f.1) in
          (x.0.1, subst (λ n. Among r.es (n, x.0.1)) (eqb-true x.0.0 sig u.0) x.1, eqb-true x.0.1.uid uid u.1)

  -- a record names what its bytes name, and nothing else names anything
  record-names : (o : ℕ × List ℕ) → o.0 % 2 ≡ 1 → map.get objects o.0 ≡ Some o.1 → named_by objects o.0 ≡ ids_named o.1
  record-names o odd there = ap (λ b. cond b (names_at (map.get objects o.0)) []) (eq-eqb (o.0 % 2) 1 odd) ∙ ap names_at there

  its-record : (id o : ℕ) → Among (named_by objects id) o → (bytes : List ℕ) × (map.get objects id ≡ Some bytes) × (id % 2 ≡ 1) × Among (ids_named bytes) o
  its-record id o m = go (id % 2 == 1) refl (map.get objects id) refl m
    where
      go : (b : Bool) → (id % 2 == 1) ≡ b → (t : Option (List ℕ)) → map.get objects id ≡ t → Among (cond b (names_at t) []) o → (bytes : List ℕ) × (map.get objects id ≡ Some bytes) × (id % 2 ≡ 1) × Among (ids_named bytes) o
      go false e t k m = absurd m
      go true e None k m = absurd m
      go true e (Some bytes) k m = (bytes, k, eqb-true (id % 2) 1 e, m)

  in-odds : (id : ℕ) (bytes : List ℕ) → map.get objects id ≡ Some bytes → id % 2 ≡ 1 → Among (odds objects) (id, bytes)
  in-odds id bytes there odd = filter-among (λ (o : ℕ × List ℕ). o.0 % 2 == 1) (map.entries objects) (id, bytes) (get-entry objects id bytes there) (eq-eqb (id % 2) 1 odd)

  its-apart : (id : ℕ) → Pairs (λ a b. a ≢ b) (named_by objects id)
  its-apart id = go (id % 2 == 1) refl (map.get objects id) refl
    where
      go : (b : Bool) → (id % 2 == 1) ≡ b → (t : Option (List ℕ)) → map.get objects id ≡ t → Pairs (λ a b. a ≢ b) (cond b (names_at t) [])
      go false e t k = tt
      go true e None k = tt
      go true e (Some bytes) k = named-apart graph_of version objects blocks s r (id, bytes) (in-odds id bytes k (eqb-true (id % 2) 1 e))

  infos-read : ReadsGraphs graph_of → (p : Soup) (g : RawGraph) → Among r.d.soups p → p.info ≡ Some g → IsGraph g
  infos-read reads p g m e = let k = directory-infos graph_of r.bytes r.d r.is_directory p g m e in reads.graphs k.0 g k.1

  gathered-again : Gathered graph_of objects (place_in objects) (named_by objects) r.d r.es
  gathered-again = record {
    directory = read-directory graph_of version objects blocks s r ∙ ap Some (directory-spelt graph_of r.bytes r.d (small 0 r.bytes (read-directory graph_of version objects blocks s r) (inl refl)) r.is_directory);
    good = ap well_formed (read-bare graph_of version objects blocks s r) ∙ bare-good s (read-good graph_of version objects blocks s r);
    both = both-more (IsEntryIn graph_of objects r.d) (IsEntryOf graph_of objects (place_in objects) (named_by objects) r.d) (odds objects) r.es
        (λ o x m n is.
        let there = entry-get objects o.0 o.1 (among-filter (λ (o : ℕ × List ℕ). o.0 % 2 == 1) (map.entries objects) o m).0 in
        record { odd = is.odd; small = small o.0 o.1 there (inr is.odd); read = is.read; given = is.given; at = its-place o x m is; names_are = record-names o is.odd there })
        (all-read graph_of version objects blocks s r);
    places = its-entry;
    names = λ id o m. let k = its-record id o m in (k.0, k.1, k.2);
    others = λ id bytes there n even.
        let k = even-named graph_of version objects blocks s r id bytes there n even in
        let f = among-filter (λ (o : ℕ × List ℕ). o.0 % 2 == 1) (map.entries objects) k.0 k.1 in
        (k.0.0, subst (λ (ns : List ℕ). Among ns id) (sym (record-names k.0 (eqb-true (k.0.0 % 2) 1 f.1) (entry-get objects k.0.0 k.0.1 f.0))) k.2);
    once = λ id other o m n.
        let a = its-record id o m in
        let b = its-record other o n in
        ap {A = ℕ × List ℕ} {B = ℕ} (λ o. o.0) (named-once graph_of version objects blocks s r (id, a.0) (other, b.0) o (in-odds id a.0 a.1 a.2) (in-odds other b.0 b.1 b.2) a.3 b.3);
    apart = its-apart;
  }

  lies-again : ReadsGraphs graph_of → LiesIn objects (place_in objects) s
  lies-again reads = subst (λ (t : Store). LiesIn objects (place_in objects) t) r.is (made-lies graph_of reads objects (place_in objects) (named_by objects) r.d r.es (infos-read reads) gathered-again)

module _ (graph_of : List ℕ → Option RawGraph) (version : ℕ) (objects : Objects) (blocks : ℕ) (s : Store) (reads : ReadsGraphs graph_of)
    (are_bytes : (id : ℕ) (bytes : List ℕ) → map.get objects id ≡ Some bytes → (id ≡ 0) ⊎ (id % 2 ≡ 1) → AreBytes bytes) (h : store_of graph_of version (map.entries objects) blocks ≡ Some s) where
  pub read-lies : (place : Places) × LiesIn objects place s
  read-lies = (place_in objects, lies-again graph_of version objects blocks s (reading graph_of version (map.entries objects) blocks s h) (λ id bytes at which. small-of bytes (are_bytes id bytes at which)) reads)

  pub over : cap blocks < sum_by (λ (o : ℕ × List ℕ). pages_for (length o.1)) (map.entries objects) → ⊥
  over more =
      let r = reading graph_of version (map.entries objects) blocks s h in
      let v = and_parts (well_formed s) (fits blocks s) r.good in
      let total = lies-total objects read-lies.0 s read-lies.1 v.0 in
      let few = leb-true _ (cap blocks) v.1 in
      omega (arith, more, total, few)
