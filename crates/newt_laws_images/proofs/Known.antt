-- A store that was read: its directory, one record for each of its entries, and the objects that these name.
use Rattle.std.proofs.Common.{arith, ◌≡◌, ◌≢◌, not, refl, ap, sym, ◌∙◌, subst, ℕ, ◌%◌, ◌<◌, List, [], ◌∷◌, ◌++◌, true, false, Bool, ◌&&◌, ◌||◌, ◌⊎◌, inl, inr, cond, Option, Some, None, map, filter, flat_map, ◌==◌}
use Rattle.std.specs.List.{list_all, list_any}
use Rattle.std.specs.FinMap as map
use Rattle.std.proofs.lemmas.Bool.{eqb-true, eq-eqb, and_parts, or_cases}
use Rattle.newt_base.specs.Names.{equal_text}
use Rattle.newt_graph.specs.Graph.{RawGraph}
use Rattle.newt_spec_image.specs.Objects.{Objects}
use Rattle.newt_spec_graph.specs.Lists.{Pairs, Among, rises, all_apart}
use Rattle.newt_spec_graph.proofs.Lists.{each-at, each-from, each-list_all, pairs-more, pairs-map, among-left, among-right, among-filter, filter-among, among-flat_map, flat_map-among, rises-pairs}
use Rattle.newt_spec_store.specs.Laid.{ApartIds, bare, bare_soup}
use Rattle.newt_spec_store.specs.Lies.{IsIn, directory_read}
use Rattle.newt_spec_store.specs.Sorted.{sorted_by}
use Rattle.newt_spec_store.specs.Store.{Entry, Soup, Store}
use Rattle.newt_spec_store.specs.StoreOf.{EntryRow, LargeRow, only, entry_row, entry_of_row, with_entries, in_a_soup}
use Rattle.newt_spec_store.specs.Valid.{well_formed, fits, keeps_version, valid_soup, valid_entry}
use Rattle.newt_laws_images.specs.Found.{HasGiven, ids_in, ids_named}
use Rattle.newt_laws_images.proofs.Assembled.{map-among, among-map, chosen, uid_cmp_of}
use Rattle.newt_laws_images.proofs.Finite.{object-get, get-entry}
use Rattle.newt_laws_images.proofs.Both.{Both, both-left, both-pairs, every-both, both-flip, both-join, both-more}
use Rattle.newt_laws_images.proofs.Directories.{directory-bare}
use Rattle.newt_laws_images.proofs.Made.{built, in-sorted, odds, all-map, map-length, map-kept}
use Rattle.newt_laws_images.proofs.Parts.{apart-from, sort-back, IsReading}
use Rattle.newt_laws_images.proofs.Placed.{its-id, its-soup}
use Rattle.newt_laws_images.proofs.Rows.{row-of, ReadAs, read-same}
use Rattle.newt_laws_images.proofs.Stores.{is-store, store-is, is-soup, soup-is}

-- ---- the store without its entries

pub bare-good : (s : Store) → well_formed s ≡ true → well_formed (bare s) ≡ true
bare-good s w = let r = is-store s w in store-is (bare s) (record {
  named = r.named;
  sig_fits = r.sig_fits;
  next = r.next;
  count = omega (arith, map-length bare_soup s.soups, r.count);
  sigs = ap (rises 0 s.next_soup) (map-kept (λ (p : Soup). p.sig) bare_soup (λ p. refl) s.soups) ∙ r.sigs;
  names_apart = ap (all_apart equal_text) (map-kept (λ (p : Soup). p.name) bare_soup (λ p. refl) s.soups) ∙ r.names_apart;
  soups_fit = all-map valid_soup bare_soup s.soups (λ p m. let q = is-soup p (each-at (λ (p : Soup). valid_soup p ≡ true) s.soups p (each-list_all valid_soup s.soups r.soups_fit) m) in soup-is (bare_soup p) (record {
    named = q.named;
    next = q.next;
    uids = refl;
    count = q.count;
    specs_fit = q.specs_fit;
    specs_apart = q.specs_apart;
    tags_fit = q.tags_fit;
    info_fits = q.info_fits;
    entries_fit = refl;
  }));
})

-- ---- lists

any-among : {X : Type 0} (test : X → Bool) (xs : List X) → list_any test xs ≡ true → (x : X) × Among xs x × (test x ≡ true)
any-among test [] h = cc
any-among test (x ∷ xs) h = go (any-among test xs) (or_cases (test x) (list_any test xs) h)
  where
    go : (list_any test xs ≡ true → (y : _) × Among xs y × (test y ≡ true)) → (test x ≡ true) ⊎ (list_any test xs ≡ true) → (y : _) × Among (x ∷ xs) y × (test y ≡ true)
    go more (inl e) = (x, inl refl, e)
    go more (inr e) = let r = more e in (r.0, inr r.1, r.2)

pub pairs-two : {X : Type 0} (R : X → X → Type 0) (xs : List X) (a b : X) → Pairs R xs → Among xs a → Among xs b → (a ≡ b → ⊥) → R a b ⊎ R b a
pairs-two R [] a b h m n k = absurd m
pairs-two R (x ∷ xs) a b h (inl e) (inl f) k = absurd (k (sym e ∙ f))
pairs-two R (x ∷ xs) a b h (inl e) (inr n) k = inl (subst (λ v. R v b) e (each-at (R x) xs b h.0 n))
pairs-two R (x ∷ xs) a b h (inr m) (inl f) k = inr (subst (λ v. R v a) f (each-at (R x) xs a h.0 m))
pairs-two R (x ∷ xs) a b h (inr m) (inr n) k = pairs-two R xs a b h.1 m n k

-- no two elements of joined lists agree, so none is in two of them
pairs-parts : {X : Type 0} (R : X → X → Type 0) (xs ys : List X) → Pairs R (xs ++ ys) → Pairs R xs × Pairs R ys × ((a b : X) → Among xs a → Among ys b → R a b)
pairs-parts R [] ys h = (tt, h, λ a b m n. absurd m)
pairs-parts {X} R (x ∷ xs) ys h =
    let r = pairs-parts R xs ys h.1 in
    ((each-from (R x) xs (λ z m. each-at (R x) (xs ++ ys) z h.0 (among-left xs ys z m)), r.0), r.1, across r.2)
  where
    across : ((a b : X) → Among xs a → Among ys b → R a b) → (a b : X) → Among (x ∷ xs) a → Among ys b → R a b
    across more a b (inl e) n = subst (λ v. R v b) e (each-at (R x) (xs ++ ys) b h.0 (among-right xs ys b n))
    across more a b (inr m) n = more a b m n

pub flat-pairs : {X Y : Type 0} (R : Y → Y → Type 0) (f : X → List Y) (xs : List X) (x : X) → Pairs R (flat_map f xs) → Among xs x → Pairs R (f x)
flat-pairs R f [] x h m = absurd m
flat-pairs R f (y ∷ xs) x h (inl e) = subst (λ v. Pairs R (f v)) e (pairs-parts R (f y) (flat_map f xs) h).0
flat-pairs R f (y ∷ xs) x h (inr m) = flat-pairs R f xs x (pairs-parts R (f y) (flat_map f xs) h).1 m

pub flat-once : {X Y : Type 0} (f : X → List Y) (xs : List X) (x y : X) (z : Y) → Pairs (λ a b. a ≢ b) (flat_map f xs) → Among xs x → Among xs y → Among (f x) z → Among (f y) z → x ≡ y
flat-once f [] x y z h m n k l = absurd m
flat-once f (v ∷ xs) x y z h (inl e) (inl g) k l = sym e ∙ g
flat-once f (v ∷ xs) x y z h (inl e) (inr n) k l =
    absurd ((pairs-parts (λ a b. a ≢ b) (f v) (flat_map f xs) h).2 z z (subst (λ u. Among (f u) z) (sym e) k) (flat_map-among f xs y z n l) refl)
flat-once f (v ∷ xs) x y z h (inr m) (inl g) k l =
    absurd ((pairs-parts (λ a b. a ≢ b) (f v) (flat_map f xs) h).2 z z (subst (λ u. Among (f u) z) (sym g) l) (flat_map-among f xs x z m k) refl)
flat-once f (v ∷ xs) x y z h (inr m) (inr n) k l = flat-once f xs x y z (pairs-parts (λ a b. a ≢ b) (f v) (flat_map f xs) h).1 m n k l

any-not : {X : Type 0} (test : X → Bool) (xs : List X) (x : X) → not (list_any test xs) ≡ true → Among xs x → test x ≡ true → ⊥
any-not test [] x h m t = absurd m
any-not test (y ∷ xs) x h (inl e) t = no (test y) (list_any test xs) h (ap test e ∙ t)
  where
    no : (a b : Bool) → not (a || b) ≡ true → a ≡ true → ⊥
    no true b h k = cc
    no false b h k = cc
any-not test (y ∷ xs) x h (inr m) t = any-not test xs x (rest (test y) (list_any test xs) h) m t
  where
    rest : (a b : Bool) → not (a || b) ≡ true → not b ≡ true
    rest true b h = cc
    rest false b h = h

apart-pairs : (ns : List ℕ) → all_apart (λ a b. a == b) ns ≡ true → Pairs (λ a b. a ≢ b) ns
apart-pairs [] h = tt
apart-pairs (n ∷ ns) h =
    let r = and_parts (not (list_any (λ m. n == m) ns)) (all_apart (λ a b. a == b) ns) h in
    (each-from (λ m. n ≢ m) ns (λ m k e. any-not (λ m. n == m) ns m r.0 k (eq-eqb n m e)), apart-pairs ns r.1)

-- the ids that objects with odd ids name
abbrev names_of : List (ℕ × List ℕ) → List ℕ
names_of os = flat_map (λ (o : ℕ × List ℕ). ids_named o.1) os

rows-named : (os : List (ℕ × List ℕ)) (rows : List EntryRow) → Both (λ o row. entry_row o.1 ≡ Some row) os rows
    → flat_map (λ (r : EntryRow). map (λ (l : LargeRow). l.1) r.larges) rows ≡ names_of os
rows-named [] [] h = refl
rows-named [] (r ∷ rows) h = absurd h
rows-named (o ∷ os) [] h = absurd h
rows-named (o ∷ os) (r ∷ rows) h = λ i. ids_in (sym h.0 i) ++ rows-named os rows h.1 i

-- ---- the parts of a reading

-- the object is the record of this entry, which is of a soup that is there
pub record IsEntryIn (graph_of : List ℕ → Option RawGraph) (objects : Objects) (d : Store) (o : ℕ × List ℕ) (x : ℕ × Entry) : Type 0 where
  pub odd : o.0 % 2 ≡ 1
  pub read : ReadAs graph_of objects o.1 x.0 x.1
  pub given : HasGiven d x.0 x.1.uid

module _ (graph_of : List ℕ → Option RawGraph) (version : ℕ) (objects : Objects) (blocks : ℕ) (s : Store) (r : IsReading graph_of version (map.entries objects) blocks s) where
  pub read-good : well_formed s ≡ true
  read-good = (and_parts (well_formed s) (fits blocks s) r.good).0

  pub read-directory : map.get objects 0 ≡ Some r.bytes
  read-directory = sym (object-get objects 0) ∙ r.at_zero

  pub read-bare : r.d ≡ bare s
  read-bare = sym (directory-bare graph_of r.bytes r.d r.is_directory) ∙ sym (ap {A = List Soup} {B = Store} (λ ps. record r.d { soups = ps }) (map-kept bare_soup (with_entries graph_of r.es) (λ p. refl) r.d.soups)) ∙ ap bare r.is

  pub read-whole : directory_read graph_of version r.bytes ≡ Some (bare s)
  read-whole = ap (only well_formed) (ap (only (keeps_version version)) r.is_directory ∙ ap (λ b. cond b (Some r.d) None) r.keeps ∙ ap Some read-bare) ∙ ap (λ b. cond b (Some (bare s)) None) (bare-good s read-good)

  built-good : well_formed (built graph_of r.d r.es) ≡ true
  built-good = ap well_formed r.is ∙ read-good

  soup-of : (x : ℕ × Entry) → Among r.es x → (p : Soup) × Among r.d.soups p × (p.sig ≡ x.0)
  soup-of x m =
      let k = any-among (λ (p : Soup). p.sig == x.0) r.d.soups (each-at (λ x. in_a_soup graph_of r.d x ≡ true) r.es x (each-list_all (in_a_soup graph_of r.d) r.es r.inside) m) in
      (k.0, k.1, eqb-true k.0.sig x.0 k.2)

  in-built : (x : ℕ × Entry) → (m : Among r.es x) → IsIn (built graph_of r.d r.es) x.0 x.1
  in-built x m = record {
    soup = with_entries graph_of r.es (soup-of x m).0;
    is_soup = map-among (with_entries graph_of r.es) r.d.soups (soup-of x m).0 (soup-of x m).1;
    of_sig = (soup-of x m).2;
    is_entry = in-sorted r.es (soup-of x m).0.sig x.1 (subst (λ n. Among r.es (n, x.1)) (sym (soup-of x m).2) m);
  }

  pub read-in : (x : ℕ × Entry) → Among r.es x → IsIn s x.0 x.1
  read-in x m = subst (λ (t : Store). IsIn t x.0 x.1) r.is (in-built x m)

  pub entry-good : (x : ℕ × Entry) → Among r.es x → valid_entry x.1 ≡ true
  entry-good x m = let is = in-built x m in
      each-at (λ (e : Entry). valid_entry e ≡ true) is.soup.entries x.1 (each-list_all valid_entry is.soup.entries (its-soup (built graph_of r.d r.es) x.0 x.1 built-good is).entries_fit) is.is_entry

  read-given : (x : ℕ × Entry) → Among r.es x → HasGiven r.d x.0 x.1.uid
  unfolding in-built
  read-given x m = record { soup = (soup-of x m).0; is_soup = (soup-of x m).1; of_sig = (soup-of x m).2; below = its-id (built graph_of r.d r.es) x.0 x.1 built-good (in-built x m) }

  soup-apart : (sig : ℕ) (es : List Entry) → chosen sig r.es ≡ es → Pairs (λ (a b : Entry). a.uid ≡ b.uid → ⊥) es
  unfolding in-built
  soup-apart sig [] e = tt
  soup-apart sig (k ∷ es) e =
      let v = among-map (λ (y : ℕ × Entry). y.1) (filter (λ (y : ℕ × Entry). y.0 == sig) r.es) k (subst (λ (zs : List Entry). Among zs k) (sym e) (inl refl)) in
      let f = among-filter (λ (y : ℕ × Entry). y.0 == sig) r.es v.0 v.1 in
      let same : v.0.0 ≡ sig = eqb-true v.0.0 sig f.1 in
      let p = soup-of v.0 f.0 in
      let sorted = its-soup (built graph_of r.d r.es) v.0.0 v.0.1 built-good (in-built v.0 f.0) in
      let rising = pairs-map (λ m n. m < n) (λ (e : Entry). e.uid) (sorted_by uid_cmp_of (chosen p.0.sig r.es)) (rises-pairs 0 p.0.next_uid (map (λ (e : Entry). e.uid) (sorted_by uid_cmp_of (chosen p.0.sig r.es))) sorted.uids) in
      let apart = sort-back (λ (a b : Entry). a.uid ≡ b.uid → ⊥) uid_cmp_of (λ a b h k. h (sym k)) (chosen p.0.sig r.es)
      (pairs-more (λ (a b : Entry). a.uid < b.uid) (λ (a b : Entry). a.uid ≡ b.uid → ⊥) (sorted_by uid_cmp_of (chosen p.0.sig r.es)) (λ a b _ _ less eq. absurd (omega (arith, less, eq))) rising) in
      subst (λ (zs : List Entry). Pairs (λ (a b : Entry). a.uid ≡ b.uid → ⊥) zs) (ap (λ n. chosen n r.es) (p.2 ∙ same) ∙ e) apart

  pub read-apart : Pairs ApartIds r.es
  read-apart = apart-from r.es (λ sig. soup-apart sig (chosen sig r.es) refl)

  abbrev RowOf : ℕ × List ℕ → EntryRow → Type 0
  RowOf o row = entry_row o.1 ≡ Some row

  abbrev EntryOf : EntryRow → ℕ × Entry → Type 0
  EntryOf row x = entry_of_row graph_of (map.entries objects) row ≡ Some x

  rows-read : Both RowOf (odds objects) r.rows
  rows-read = every-both (λ (o : ℕ × List ℕ). entry_row o.1) (odds objects) r.rows r.are_rows

  entries-read : Both EntryOf r.rows r.es
  entries-read = every-both (entry_of_row graph_of (map.entries objects)) r.rows r.es r.are_entries

  pub all-read : Both (IsEntryIn graph_of objects r.d) (odds objects) r.es
  all-read = both-more (λ (o : ℕ × List ℕ) (x : ℕ × Entry). (row : EntryRow) × RowOf o row × EntryOf row x) (IsEntryIn graph_of objects r.d) (odds objects) r.es
      (λ o x m n k. record {
        odd = eqb-true (o.0 % 2) 1 (among-filter (λ (o : ℕ × List ℕ). o.0 % 2 == 1) (map.entries objects) o m).1;
        read = record { row = k.0; is_row = k.1; of_row = row-of graph_of (map.entries objects) k.0 x.0 x.1 k.2; is_valid = entry-good x n };
        given = read-given x n;
      })
      (both-join RowOf EntryOf (λ o x. (row : EntryRow) × RowOf o row × EntryOf row x) (λ o row x a b. (row, a, b)) (odds objects) r.rows r.es rows-read entries-read)

  -- ---- what the records name

  named-parts : (all_apart (λ a b. a == b) (names_of (odds objects)) ≡ true) × (list_all (λ (o : ℕ × List ℕ). (o.0 % 2 == 1) || (o.0 == 0) || list_any (λ n. n == o.0) (names_of (odds objects))) (map.entries objects) ≡ true)
  named-parts = and_parts _ _ (subst (λ ns. (all_apart (λ a b. a == b) ns && list_all (λ (o : ℕ × List ℕ). (o.0 % 2 == 1) || (o.0 == 0) || list_any (λ n. n == o.0) ns) (map.entries objects)) ≡ true)
      (rows-named (odds objects) r.rows rows-read) r.named)

  pub names-apart : Pairs (λ a b. a ≢ b) (names_of (odds objects))
  names-apart = apart-pairs (names_of (odds objects)) named-parts.0

  -- one record names each object, and it names it once
  pub named-once : (a b : ℕ × List ℕ) (o : ℕ) → Among (odds objects) a → Among (odds objects) b → Among (ids_named a.1) o → Among (ids_named b.1) o → a ≡ b
  named-once a b o m n k l = flat-once (λ (o : ℕ × List ℕ). ids_named o.1) (odds objects) a b o names-apart m n k l

  pub named-apart : (a : ℕ × List ℕ) → Among (odds objects) a → Pairs (λ a b. a ≢ b) (ids_named a.1)
  named-apart a m = flat-pairs (λ a b. a ≢ b) (λ (o : ℕ × List ℕ). ids_named o.1) (odds objects) a names-apart m

  pub even-named : (id : ℕ) (bytes : List ℕ) → map.get objects id ≡ Some bytes → (id ≡ 0 → ⊥) → id % 2 ≡ 0 → (o : ℕ × List ℕ) × Among (odds objects) o × Among (ids_named o.1) id
  even-named id bytes there n even =
      go (or_cases ((id % 2 == 1) || (id == 0)) _ (each-at (λ (o : ℕ × List ℕ). ((o.0 % 2 == 1) || (o.0 == 0) || list_any (λ n. n == o.0) (names_of (odds objects))) ≡ true) (map.entries objects) (id, bytes)
      (each-list_all _ (map.entries objects) named-parts.1) (get-entry objects id bytes there)))
    where
      no : ((id % 2 == 1) ≡ true) ⊎ ((id == 0) ≡ true) → ⊥
      no (inl e) = let odd = eqb-true (id % 2) 1 e in omega (arith, odd, even)
      no (inr e) = n (eqb-true id 0 e)

      go : (((id % 2 == 1) || (id == 0)) ≡ true) ⊎ (list_any (λ n. n == id) (names_of (odds objects)) ≡ true) → (o : ℕ × List ℕ) × Among (odds objects) o × Among (ids_named o.1) id
      go (inl e) = absurd (no (or_cases (id % 2 == 1) (id == 0) e))
      go (inr e) =
          let k = any-among (λ n. n == id) (names_of (odds objects)) e in
          among-flat_map (λ (o : ℕ × List ℕ). ids_named o.1) (odds objects) id (subst (Among (names_of (odds objects))) (eqb-true k.0 id k.2) k.1)

  -- the entry of a record
  pub of-object : (id : ℕ) (bytes : List ℕ) → map.get objects id ≡ Some bytes → id % 2 ≡ 1 → (x : ℕ × Entry) × Among r.es x × IsEntryIn graph_of objects r.d (id, bytes) x
  of-object id bytes there odd = both-left (IsEntryIn graph_of objects r.d) (odds objects) r.es (id, bytes) all-read
      (filter-among (λ (o : ℕ × List ℕ). o.0 % 2 == 1) (map.entries objects) (id, bytes) (get-entry objects id bytes there) (eq-eqb (id % 2) 1 odd))

  -- two records are of two entries
  abbrev pub Differ : ℕ × List ℕ → ℕ × List ℕ → Type 0
  Differ a b = (x y : ℕ × Entry) → ReadAs graph_of objects a.1 x.0 x.1 → ReadAs graph_of objects b.1 y.0 y.1 → ApartIds x y

  pub records-differ : Pairs Differ (odds objects)
  records-differ = both-pairs (λ (x : ℕ × Entry) (o : ℕ × List ℕ). IsEntryIn graph_of objects r.d o x) ApartIds Differ
      (λ x y a b p q apart v u h k soup uid. apart
      (ap {A = ℕ × Entry} {B = ℕ} (λ z. z.0) (read-same graph_of objects a.1 x.0 v.0 x.1 v.1 p.read h) ∙ soup ∙ ap {A = ℕ × Entry} {B = ℕ} (λ z. z.0) (sym (read-same graph_of objects b.1 y.0 u.0 y.1 u.1 q.read k)))
      (ap {A = ℕ × Entry} {B = ℕ} (λ z. z.1.uid) (read-same graph_of objects a.1 x.0 v.0 x.1 v.1 p.read h) ∙ uid ∙ ap {A = ℕ × Entry} {B = ℕ} (λ z. z.1.uid) (sym (read-same graph_of objects b.1 y.0 u.0 y.1 u.1 q.read k))))
      r.es (odds objects) (both-flip (IsEntryIn graph_of objects r.d) (odds objects) r.es all-read) read-apart
