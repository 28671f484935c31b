-- A directory, records of entries of its soups and the objects that they name make a store, which lies in these objects.
use Rattle.std.proofs.Common.{arith, ◌≡◌, ◌≢◌, refl, ap, sym, ◌∙◌, subst, ℕ, zero, suc, ◌+◌, ◌%◌, ◌<◌, ◌≤◌, List, [], ◌∷◌, ◌++◌, true, Bool, ◌⊎◌, inl, inr, Option, Some, map, filter, flat_map, zip, length, ◌==◌}
use Rattle.std.specs.List.{list_all}
use Rattle.std.specs.FinMap as map
use Rattle.std.specs.Ordering.{nat_cmp}
use Rattle.std.specs.declared.cmp.Ordering.TheVariants.{Less}
use Rattle.std.proofs.lemmas.Bool.{eqb-true, eq-eqb}
use Rattle.std.proofs.lemmas.List.Elements.{All-head, All-tail}
use Rattle.newt_base.specs.Text.{be16, be32}
use Rattle.newt_base.specs.Names.{equal_text}
use Rattle.newt_graph.specs.Graph.{RawGraph, IsGraph}
use Rattle.newt_spec_image.specs.Objects.{Objects}
use Rattle.newt_spec_nsof.specs.Text.{AreBytes}
use Rattle.newt_spec_nsof.specs.Flat.{flat}
use Rattle.newt_spec_nsof.specs.Lengths.{skeleton}
use Rattle.newt_spec_graph.specs.Lists.{Each, Pairs, Among, rises, all_apart}
use Rattle.newt_spec_graph.proofs.Lists.{each-at, each-from, each-list_all, list_all-each, among-filter, filter-among, some-same, pairs-more, pairs-filter}
use Rattle.newt_spec_store.proofs.Sorting.{Untied, sorted-rises, among-fold, fold-among}
use Rattle.newt_spec_store.specs.Cost.{directory_bytes, soup_bytes, text_bytes}
use Rattle.newt_spec_store.specs.Image.{larges, entry_bytes}
use Rattle.newt_spec_store.specs.Laid.{ApartIds, IsThere, bare, bare_soup}
use Rattle.newt_spec_store.specs.Lies.{LiesIn, Places, IsIn, HasLarge, AreLarges, ReadsGraphs}
use Rattle.newt_spec_store.specs.Reading.{whole, directory}
use Rattle.newt_spec_store.specs.Sorted.{sorted_by}
use Rattle.newt_spec_store.specs.Store.{Entry, Soup, Store}
use Rattle.newt_spec_store.specs.StoreOf.{LargeRow, with_entries}
use Rattle.newt_spec_store.specs.Valid.{well_formed, keeps_version, valid_soup, valid_entry}
use Rattle.newt_laws_images.specs.Found.{HasGiven, IsFound, ids_in, ids_named}
use Rattle.newt_laws_images.proofs.Assembled.{bare-keeps, among-map, map-among, one-sig, chosen, chosen-apart, uid_cmp_of, uid_total, tied-same, less-rise}
use Rattle.newt_laws_images.proofs.Both.{Both, both-from, both-left, both-right, both-pairs}
use Rattle.newt_laws_images.proofs.Directories.{directory-bare, directory-infos, directory-parts}
use Rattle.newt_laws_images.proofs.Finite.{object-get, entries-rising, entry-get, get-entry}
use Rattle.newt_laws_images.proofs.Placed.{soups-rise}
pub use Rattle.newt_laws_images.proofs.Records.{map-length}
use Rattle.newt_laws_images.proofs.Rows.{ids_of, ReadAs, read-as, read-same, bytes-are}
use Rattle.newt_laws_images.proofs.Spelt.{Small, directory-spelt}
use Rattle.newt_laws_images.proofs.Stores.{is-store, store-is, is-soup, soup-is}

-- ---- lists

pub map-kept : {X Y : Type 0} (g : X → Y) (f : X → X) → ((x : X) → g (f x) ≡ g x) → (xs : List X) → map g (map f xs) ≡ map g xs
map-kept g f h [] = refl
map-kept g f h (x ∷ xs) = λ i. h x i ∷ map-kept g f h xs i

flat-kept : {X : Type 0} (g : X → List ℕ) (f : X → X) → ((x : X) → g (f x) ≡ g x) → (xs : List X) → flat_map g (map f xs) ≡ flat_map g xs
flat-kept g f h [] = refl
flat-kept g f h (x ∷ xs) = λ i. h x i ++ flat-kept g f h xs i

pub all-map : {X : Type 0} (test : X → Bool) (f : X → X) (xs : List X) → ((x : X) → Among xs x → test (f x) ≡ true) → list_all test (map f xs) ≡ true
all-map test f xs h = list_all-each test (map f xs) (each-from (λ y. test y ≡ true) (map f xs) (λ y m. let v = among-map f xs y m in ap test (sym v.2) ∙ h v.0 v.1))

rises-from : (low high : ℕ) (ns : List ℕ) → Each (λ n. (low ≤ n) × (n < high)) ns → Pairs (λ m n. m < n) ns → rises low high ns ≡ true
rises-from low high [] h k = refl
rises-from low high (n ∷ ns) h k = grind (
  arith,
  h.0.0,
  h.0.1,
  rises-from (n + 1) high ns
      (each-from (λ m. (n + 1 ≤ m) × (m < high)) ns (λ m at. (omega (arith, each-at (λ m. n < m) ns m k.0 at), (each-at (λ m. (low ≤ m) × (m < high)) ns m h.1 at).1))) k.1,
)

pub small-of : (bytes : List ℕ) → AreBytes bytes → Small bytes
small-of [] h = tt
small-of (b ∷ bytes) h = (All-head (λ b. b < 256) b bytes h, small-of bytes (All-tail (λ b. b < 256) b bytes h))

-- ---- what was gathered

abbrev pub odds : Objects → List (ℕ × List ℕ)
odds objects = filter (λ (o : ℕ × List ℕ). o.0 % 2 == 1) (map.entries objects)

-- a number is even or odd
pub even-or-odd : (n : ℕ) → (n % 2 ≡ 0) ⊎ (n % 2 ≡ 1)
even-or-odd n = go (n % 2) (omega arith)
  where
    go : (m : ℕ) → m < 2 → (m ≡ 0) ⊎ (m ≡ 1)
    go zero h = inl refl
    go (suc zero) h = inr refl
    go (suc (suc m)) h = absurd (omega (arith, h))

-- the object is the record of this entry, in its place, and names these objects
pub record IsEntryOf (graph_of : List ℕ → Option RawGraph) (objects : Objects) (place : Places) (named : ℕ → List ℕ) (d : Store) (o : ℕ × List ℕ) (x : ℕ × Entry) : Type 0 where
  pub odd : o.0 % 2 ≡ 1
  pub small : Small o.1
  pub read : ReadAs graph_of objects o.1 x.0 x.1
  pub given : HasGiven d x.0 x.1.uid
  pub at : place x.0 x.1.uid ≡ Some o.0
  pub names_are : named o.0 ≡ ids_named o.1

-- a directory, and the entries of all records, in the order of the records' ids
pub record Gathered (graph_of : List ℕ → Option RawGraph) (objects : Objects) (place : Places) (named : ℕ → List ℕ) (d : Store) (es : List (ℕ × Entry)) : Type 0 where
  pub directory : map.get objects 0 ≡ Some (directory_bytes d)
  pub good : well_formed d ≡ true
  pub both : Both (IsEntryOf graph_of objects place named d) (odds objects) es
  pub places : (sig uid id : ℕ) → place sig uid ≡ Some id → (e : Entry) × Among es (sig, e) × (e.uid ≡ uid)
  pub names : (r o : ℕ) → Among (named r) o → (bytes : List ℕ) × (map.get objects r ≡ Some bytes) × (r % 2 ≡ 1)
  pub others : (id : ℕ) (bytes : List ℕ) → map.get objects id ≡ Some bytes → (id ≡ 0 → ⊥) → id % 2 ≡ 0 → (r : ℕ) × Among (named r) id
  pub once : (id other o : ℕ) → Among (named id) o → Among (named other) o → id ≡ other
  pub apart : (id : ℕ) → Pairs (λ a b. a ≢ b) (named id)

-- ---- the entries of one soup

pub sorted-in : (es : List (ℕ × Entry)) (sig : ℕ) (e : Entry) → Among (sorted_by uid_cmp_of (chosen sig es)) e → Among es (sig, e)
sorted-in es sig e m = go (among-fold uid_cmp_of [] (chosen sig es) e m)
  where
    go : Among [] e ⊎ Among (chosen sig es) e → Among es (sig, e)
    go (inl n) = absurd n
    go (inr n) =
        let x = among-map (λ (y : ℕ × Entry). y.1) (filter (λ (y : ℕ × Entry). y.0 == sig) es) e n in
        let f = among-filter (λ (y : ℕ × Entry). y.0 == sig) es x.0 x.1 in
        let same : x.0.0 ≡ sig = eqb-true x.0.0 sig f.1 in
        subst (Among es) (λ i. (same i, x.2 i)) f.0

pub in-sorted : (es : List (ℕ × Entry)) (sig : ℕ) (e : Entry) → Among es (sig, e) → Among (sorted_by uid_cmp_of (chosen sig es)) e
in-sorted es sig e m = fold-among uid_cmp_of [] (chosen sig es) e (inr (map-among (λ (y : ℕ × Entry). y.1) (filter (λ (y : ℕ × Entry). y.0 == sig) es) (sig, e)
    (filter-among (λ (y : ℕ × Entry). y.0 == sig) es (sig, e) m (eq-eqb sig sig refl))))

-- the directory with the entries
abbrev pub built : (List ℕ → Option RawGraph) → Store → List (ℕ × Entry) → Store
built graph_of d es = record d { soups = map (with_entries graph_of es) d.soups }

-- what a row names, where its entry is read so
its-ids : (graph_of : List ℕ → Option RawGraph) (objects : Objects) (bytes : List ℕ) (sig : ℕ) (e : Entry) (r : ReadAs graph_of objects bytes sig e) → ids_named bytes ≡ ids_of r.row.larges
its-ids graph_of objects bytes sig e r = ap ids_in r.is_row

large-objects : (objects : Objects) (ls : List (ℕ × List ℕ)) (ids : List ℕ) → length ls ≡ length ids → Each (IsThere (map.entries objects)) (zip ls ids) → Each (λ (i : ℕ). i < 4294967296) ids
    → Each (HasLarge objects) (zip ls ids)
large-objects objects [] ids h there small = tt
large-objects objects (l ∷ ls) [] h there small = tt
large-objects objects (l ∷ ls) (i ∷ ids) h there small =
    ((there.0.0, there.0.1, small.0, sym (object-get objects i) ∙ there.0.2), large-objects objects ls ids (omega (arith, h)) there.1 small.1)

small-ids : (ls : List LargeRow) → Each (λ (l : LargeRow). l.1 < 4294967296) ls → Each (λ (i : ℕ). i < 4294967296) (ids_of ls)
small-ids [] h = tt
small-ids (l ∷ ls) h = (h.0, small-ids ls h.1)

module _ (graph_of : List ℕ → Option RawGraph) (reads : ReadsGraphs graph_of) (objects : Objects) (place : Places) (named : ℕ → List ℕ) (d : Store) (es : List (ℕ × Entry))
    (infos : (p : Soup) (g : RawGraph) → Among d.soups p → p.info ≡ Some g → IsGraph g) (g : Gathered graph_of objects place named d es) where
  of-entry : (x : ℕ × Entry) → Among es x → (o : ℕ × List ℕ) × Among (odds objects) o × IsEntryOf graph_of objects place named d o x
  of-entry x m = both-right (IsEntryOf graph_of objects place named d) (odds objects) es x g.both m

  in-es : (sig : ℕ) (e : Entry) → IsIn (built graph_of d es) sig e → Among es (sig, e)
  in-es sig e is =
      let v = among-map (with_entries graph_of es) d.soups is.soup is.is_soup in
      let same : v.0.sig ≡ sig = ap (λ (p : Soup). p.sig) v.2 ∙ is.of_sig in
      subst (λ n. Among es (n, e)) same (sorted-in es v.0.sig e (subst (λ (p : Soup). Among p.entries e) (sym v.2) is.is_entry))

  is-in : (x : ℕ × Entry) → Among es x → IsIn (built graph_of d es) x.0 x.1
  is-in x m =
      let r = of-entry x m in
      let h = r.2.given in
      record {
        soup = with_entries graph_of es h.soup;
        is_soup = map-among (with_entries graph_of es) d.soups h.soup h.is_soup;
        of_sig = h.of_sig;
        is_entry = in-sorted es h.soup.sig x.1 (subst (λ n. Among es (n, x.1)) (sym h.of_sig) m);
      }

  once : Pairs ApartIds es
  once = both-pairs (IsEntryOf graph_of objects place named d) (λ (a b : ℕ × List ℕ). a.0 < b.0) ApartIds
      (λ a b x y r s less soup uid. let same : a.0 ≡ b.0 = some-same a.0 b.0 (sym r.at ∙ ap (λ n. place n x.1.uid) soup ∙ ap (place y.0) uid ∙ s.at) in absurd (omega (arith, less, same)))
      (odds objects) es g.both (pairs-filter (λ (a b : ℕ × List ℕ). a.0 < b.0) (λ (o : ℕ × List ℕ). o.0 % 2 == 1) (map.entries objects) (entries-rising objects))

  below : (p : Soup) → Among d.soups p → (e : Entry) → Among (sorted_by uid_cmp_of (chosen p.sig es)) e → e.uid < p.next_uid
  below p m e n =
      let h = (of-entry (p.sig, e) (sorted-in es p.sig e n)).2.given in
      let same : h.soup ≡ p = one-sig d.soups h.soup p (soups-rise d g.good) h.is_soup m h.of_sig in
      subst (λ (q : Soup). e.uid < q.next_uid) same h.below

  map-pairs : (xs : List Entry) → Pairs (λ (a b : Entry). a.uid < b.uid) xs → Pairs (λ m n. m < n) (map (λ (e : Entry). e.uid) xs)
  map-pairs xs h = Rattle.newt_laws_images.proofs.Placed.pairs-map-from (λ m n. m < n) (λ (e : Entry). e.uid) xs h

  soup-good : (p : Soup) → Among d.soups p → valid_soup (with_entries graph_of es p) ≡ true
  soup-good p m = let r = is-soup p (each-at (λ (p : Soup). valid_soup p ≡ true) d.soups p (each-list_all valid_soup d.soups (is-store d g.good).soups_fit) m) in soup-is (with_entries graph_of es p) (record {
    named = r.named;
    next = r.next;
    uids = rises-from 0 p.next_uid (map (λ (e : Entry). e.uid) (sorted_by uid_cmp_of (chosen p.sig es)))
        (each-from (λ n. (0 ≤ n) × (n < p.next_uid)) (map (λ (e : Entry). e.uid) (sorted_by uid_cmp_of (chosen p.sig es)))
        (λ n k. let v = among-map (λ (e : Entry). e.uid) (sorted_by uid_cmp_of (chosen p.sig es)) n k in (omega arith, subst (λ n. n < p.next_uid) v.2 (below p m v.0 v.1))))
        (map-pairs (sorted_by uid_cmp_of (chosen p.sig es)) (pairs-more (λ (a b : Entry). nat_cmp a.uid b.uid ≡ Less) (λ (a b : Entry). a.uid < b.uid) (sorted_by uid_cmp_of (chosen p.sig es))
        (λ a b _ _ lt. less-rise a.uid b.uid lt)
        (sorted-rises uid_cmp_of uid_total (chosen p.sig es) (pairs-more (λ (a b : Entry). a.uid ≡ b.uid → ⊥) (Untied uid_cmp_of) (chosen p.sig es) (λ a b _ _ r t. r (tied-same a.uid b.uid t)) (chosen-apart p.sig es once)))));
    count = r.count;
    specs_fit = r.specs_fit;
    specs_apart = r.specs_apart;
    tags_fit = r.tags_fit;
    info_fits = r.info_fits;
    entries_fit = list_all-each valid_entry (sorted_by uid_cmp_of (chosen p.sig es)) (each-from _ (sorted_by uid_cmp_of (chosen p.sig es)) (λ e n. (of-entry (p.sig, e) (sorted-in es p.sig e n)).2.read.is_valid));
  })

  pub made-good : well_formed (built graph_of d es) ≡ true
  made-good = let r = is-store d g.good in store-is (built graph_of d es) (record {
    named = r.named;
    sig_fits = r.sig_fits;
    next = r.next;
    count = omega (arith, map-length (with_entries graph_of es) d.soups, r.count);
    sigs = ap (rises 0 d.next_soup) (map-kept (λ (p : Soup). p.sig) (with_entries graph_of es) (λ p. refl) d.soups) ∙ r.sigs;
    names_apart = ap (all_apart equal_text) (map-kept (λ (p : Soup). p.name) (with_entries graph_of es) (λ p. refl) d.soups) ∙ r.names_apart;
    soups_fit = all-map valid_soup (with_entries graph_of es) d.soups soup-good;
  })

  pub made-bare : bare (built graph_of d es) ≡ bare d
  made-bare = ap {A = List Soup} {B = Store} (λ ps. record d { soups = ps }) (map-kept bare_soup (with_entries graph_of es) (λ p. refl) d.soups)

  directory-kept : directory_bytes (built graph_of d es) ≡ directory_bytes d
  directory-kept = λ i. text_bytes d.name ++ be32 d.sig ++ be16 d.next_soup ++ (map-length (with_entries graph_of es) d.soups i ∷ flat-kept soup_bytes (with_entries graph_of es) (λ p. refl) d.soups i)

  -- the ids that the record of an entry names are those of its row
  row-names : (o : ℕ × List ℕ) (x : ℕ × Entry) (r : IsEntryOf graph_of objects place named d o x) → named o.0 ≡ ids_of r.read.row.larges
  row-names o x r = r.names_are ∙ its-ids graph_of objects o.1 x.0 x.1 r.read

  its-larges : (o : ℕ × List ℕ) (x : ℕ × Entry) → IsEntryOf graph_of objects place named d o x → AreLarges objects x.1.graph (named o.0)
  its-larges o x r =
      let ids = row-names o x r in
      let k = r.read.of_row in
      record {
        each_named = k.each_named ∙ ap length (sym ids);
        there = subst (λ (ns : List ℕ). Each (HasLarge objects) (zip (larges x.1.graph) ns)) (sym ids)
            (large-objects objects (larges x.1.graph) (ids_of r.read.row.larges) k.each_named k.there (small-ids r.read.row.larges (bytes-are graph_of objects o.1 x.0 x.1 r.small r.read).2));
        apart = g.apart o.0;
      }

  -- the entry of a record
  of-record : (id : ℕ) (bytes : List ℕ) → map.get objects id ≡ Some bytes → id % 2 ≡ 1 → (x : ℕ × Entry) × Among es x × IsEntryOf graph_of objects place named d (id, bytes) x
  of-record id bytes there odd = both-left (IsEntryOf graph_of objects place named d) (odds objects) es (id, bytes) g.both
      (filter-among (λ (o : ℕ × List ℕ). o.0 % 2 == 1) (map.entries objects) (id, bytes) (get-entry objects id bytes there) (eq-eqb (id % 2) 1 odd))

  pub made-lies : LiesIn objects place (built graph_of d es)
  made-lies = record {
    named = named;
    directory = g.directory ∙ ap Some (sym directory-kept);
    records = λ sig e is. let r = of-entry (sig, e) (in-es sig e is) in (
      r.0.0,
      r.2.at,
      r.2.odd,
      entry-get objects r.0.0 r.0.1 (among-filter (λ (o : ℕ × List ℕ). o.0 % 2 == 1) (map.entries objects) r.0 r.1).0
          ∙ ap Some ((bytes-are graph_of objects r.0.1 sig e r.2.small r.2.read).0 ∙ ap (entry_bytes sig e) (sym (row-names r.0 (sig, e) r.2))),
      its-larges r.0 (sig, e) r.2,
    );
    once = g.once;
    only_these = λ id bytes there n. elim (even-or-odd id) [
      | inl even ↦ inr (g.others id bytes there n even)
      | inr odd ↦ let r = of-record id bytes there odd in inl (r.0.0, r.0.1, is-in r.0 r.1, r.2.at)
    ];
    names = λ r o m. let n = g.names r o m in let k = of-record r n.0 n.1 n.2 in (k.0.0, k.0.1, is-in k.0 k.1, k.2.at);
    places = λ sig uid id h. let r = g.places sig uid id h in (r.0, is-in (sig, r.0) r.1, r.2);
    infos = λ p k m e. let v = among-map (with_entries graph_of es) d.soups p m in infos v.0 k v.1 (ap (λ (q : Soup). q.info) v.2 ∙ e);
    skeletons = λ sig e is. let r = of-entry (sig, e) (in-es sig e is) in reads.graphs (flat (skeleton e.graph)) (skeleton e.graph) r.2.read.of_row.reads;
    times = λ sig e is. let r = of-entry (sig, e) (in-es sig e is) in (bytes-are graph_of objects r.0.1 sig e r.2.small r.2.read).1;
  }

-- ---- from what was found

module _ (graph_of : List ℕ → Option RawGraph) (version : ℕ) (objects : Objects) (place : Places) (named : ℕ → List ℕ) (d : Store) (f : IsFound graph_of version objects place named d) where
  is-entry : (o : ℕ × List ℕ) → Among (odds objects) o → (x : ℕ × Entry) × IsEntryOf graph_of objects place named d o x
  is-entry o m =
      let k = among-filter (λ (o : ℕ × List ℕ). o.0 % 2 == 1) (map.entries objects) o m in
      let odd : o.0 % 2 ≡ 1 = eqb-true (o.0 % 2) 1 k.1 in
      let r = f.records o.0 o.1 (entry-get objects o.0 o.1 k.0) odd in
      ((r.0, r.1), record { odd = odd; small = small-of o.1 r.2.are_bytes; read = read-as graph_of objects o.1 r.0 r.1 r.2.read; given = r.2.given; at = r.3; names_are = r.4 })

  gathered : (es : List (ℕ × Entry)) × Gathered graph_of objects place named d es
  gathered =
      let b = both-from (IsEntryOf graph_of objects place named d) (odds objects) (each-from _ (odds objects) is-entry) in
      let k = directory-parts graph_of version f.directory.0 d f.directory.2 in (
        b.0,
        record {
          directory = f.directory.1 ∙ ap Some (directory-spelt graph_of f.directory.0 d (small-of f.directory.0 f.directory.3) k.0);
          good = k.2;
          both = b.1;
          places = λ sig uid id at.
              let p = f.places sig uid id at in
              let m = filter-among (λ (o : ℕ × List ℕ). o.0 % 2 == 1) (map.entries objects) (id, p.0) (get-entry objects id p.0 p.2) (eq-eqb (id % 2) 1 p.3) in
              let r = both-left (IsEntryOf graph_of objects place named d) (odds objects) b.0 (id, p.0) b.1 m in
              (p.1, subst (Among b.0) (read-same graph_of objects p.0 r.0.0 sig r.0.1 p.1 r.2.read (read-as graph_of objects p.0 sig p.1 p.4.read)) r.1, p.5);
          names = f.names;
          others = f.others;
          once = f.once;
          apart = f.apart;
        },
      )

  its-directory : whole (directory graph_of) f.directory.0 ≡ Some d
  its-directory = (directory-parts graph_of version f.directory.0 d f.directory.2).0

  its-bare : bare d ≡ d
  its-bare = directory-bare graph_of f.directory.0 d its-directory

  its-infos : ReadsGraphs graph_of → (p : Soup) (g : RawGraph) → Among d.soups p → p.info ≡ Some g → IsGraph g
  its-infos reads p g m e = let k = directory-infos graph_of f.directory.0 d its-directory p g m e in reads.graphs k.0 g k.1

  pub found-lies : ReadsGraphs graph_of
      → (s : Store) × (lies : LiesIn objects place s) × ((id : ℕ) → lies.named id ≡ named id) × (well_formed s ≡ true) × (keeps_version version s ≡ true) × (bare s ≡ d)
  unfolding made-lies
  found-lies reads =
      let es = gathered.0 in
      let g = gathered.1 in
      let is-bare : bare (built graph_of d es) ≡ d = made-bare graph_of reads objects place named d es (its-infos reads) g ∙ its-bare in (
        built graph_of d es,
        made-lies graph_of reads objects place named d es (its-infos reads) g,
        (λ id. refl),
        made-good graph_of reads objects place named d es (its-infos reads) g,
        sym (bare-keeps version (built graph_of d es)) ∙ ap (keeps_version version) is-bare ∙ (directory-parts graph_of version f.directory.0 d f.directory.2).1,
        is-bare,
      )
