-- A store that lies in objects: its entries and its records are the same in number and in kind.
use Rattle.std.proofs.Common.{arith, ◌≡◌, refl, ap, sym, ◌∙◌, subst, ℕ, ◌+◌, ◌%◌, ◌<◌, ◌≤◌, List, [], ◌∷◌, true, ◌&&◌, ◌⊎◌, inl, inr, Some, map, filter, zip, length, nat_le, is_some, ◌==◌}
use Rattle.std.specs.List.{list_all}
use Rattle.std.specs.FinMap as map
use Rattle.std.proofs.lemmas.Bool.{eqb-true, eq-eqb, and_parts, leb-true}
use Rattle.std.proofs.lemmas.List.{length-map}
use Rattle.newt_graph.specs.Draft.{is_small}
use Rattle.newt_graph.specs.declared.node.Node.{Node}
use Rattle.newt_graph.specs.declared.node.Node.TheVariants.{Symbol, Str, Binary, Large, Array, Frame}
use Rattle.newt_graph.specs.Graph.{RawGraph}
use Rattle.newt_graph.specs.Meeting.{normal_form}
use Rattle.newt_spec_image.specs.Objects.{Objects}
use Rattle.newt_spec_nsof.specs.Lengths.{bare as bare_node}
use Rattle.newt_spec_graph.specs.Graph.{is_frame, object}
use Rattle.newt_spec_graph.specs.Limits.{within_limits}
use Rattle.newt_spec_graph.specs.Lists.{Each, Pairs, Among}
use Rattle.newt_spec_graph.proofs.Lists.{each-at, each-from, each-more, each-list_all, among-filter, filter-among, among-flat_map, some-same, pairs-more, pairs-map, pairs-filter, rises-above, rises-pairs, flat_map-among}
use Rattle.newt_spec_store.specs.Cost.{skeleton_length}
use Rattle.newt_spec_store.specs.Store.{Entry, Soup, Store}
use Rattle.newt_spec_store.specs.Image.{larges, entry_bytes, all_entries}
use Rattle.newt_spec_store.specs.Laid.{ApartIds, AreEntries, Laid, record_of, FitsRow, FitsRecord, row_of}
use Rattle.newt_spec_store.specs.Lies.{LiesIn, Places, IsIn, HasLarge, AreLarges}
use Rattle.newt_spec_store.specs.StoreOf.{EntryRow, entry_row}
use Rattle.newt_spec_store.specs.Valid.{well_formed, valid_soup, valid_entry}
use Rattle.newt_laws_images.proofs.Assembled.{among-map, map-among, one-sig}
use Rattle.newt_laws_images.proofs.Finite.{Rising, entries-rising, entry-get, get-entry}
use Rattle.newt_laws_images.proofs.Read.{valid-fields}
use Rattle.newt_laws_images.proofs.Records.{larges_from, record-back}
use Rattle.newt_laws_images.proofs.Stores.{is-store, IsSoup, is-soup}

-- ---- entries of a store

pub in-all : (s : Store) (sig : ℕ) (e : Entry) → IsIn s sig e → Among (all_entries s) (sig, e)
in-all s sig e is = subst (λ n. Among (all_entries s) (n, e)) is.of_sig
    (flat_map-among (λ (p : Soup). map (λ (e : Entry). (p.sig, e)) p.entries) s.soups is.soup (is.soup.sig, e) is.is_soup (map-among (λ (e : Entry). (is.soup.sig, e)) is.soup.entries e is.is_entry))

pub all-in : (s : Store) (y : ℕ × Entry) → Among (all_entries s) y → IsIn s y.0 y.1
all-in s y m =
    let q = among-flat_map (λ (p : Soup). map (λ (e : Entry). (p.sig, e)) p.entries) s.soups y m in
    let v = among-map (λ (e : Entry). (q.0.sig, e)) q.0.entries y q.2 in
    record { soup = q.0; is_soup = q.1; of_sig = ap {A = ℕ × Entry} {B = ℕ} (λ p. p.0) v.2; is_entry = subst (Among q.0.entries) (ap {A = ℕ × Entry} {B = Entry} (λ p. p.1) v.2) v.1 }

pub its-soup : (s : Store) (sig : ℕ) (e : Entry) → well_formed s ≡ true → (is : IsIn s sig e) → IsSoup is.soup
its-soup s sig e w is = is-soup is.soup (each-at (λ (p : Soup). valid_soup p ≡ true) s.soups is.soup (each-list_all valid_soup s.soups (is-store s w).soups_fit) is.is_soup)

pub its-id : (s : Store) (sig : ℕ) (e : Entry) → well_formed s ≡ true → (is : IsIn s sig e) → e.uid < is.soup.next_uid
its-id s sig e w is = (each-at (λ n. (0 ≤ n) × (n < is.soup.next_uid)) (map (λ (e : Entry). e.uid) is.soup.entries) e.uid
    (rises-above 0 is.soup.next_uid (map (λ (e : Entry). e.uid) is.soup.entries) (its-soup s sig e w is).uids) (map-among (λ (e : Entry). e.uid) is.soup.entries e is.is_entry)).1

pub soups-rise : (s : Store) → well_formed s ≡ true → Pairs (λ (a b : Soup). a.sig < b.sig) s.soups
soups-rise s w = pairs-map (λ m n. m < n) (λ (p : Soup). p.sig) s.soups (rises-pairs 0 s.next_soup (map (λ (p : Soup). p.sig) s.soups) (is-store s w).sigs)

-- one entry of an id in a soup
one-uid : (es : List Entry) (x y : Entry) → Pairs (λ (a b : Entry). a.uid < b.uid) es → Among es x → Among es y → x.uid ≡ y.uid → x ≡ y
one-uid [] x y h m n e = absurd m
one-uid (z ∷ es) x y h (inl a) (inl b) e = sym a ∙ b
one-uid (z ∷ es) x y h (inl a) (inr n) e = absurd (omega (arith, each-at (λ (b : Entry). z.uid < b.uid) es y h.0 n, ap (λ (v : Entry). v.uid) a, e))
one-uid (z ∷ es) x y h (inr m) (inl b) e = absurd (omega (arith, each-at (λ (b : Entry). z.uid < b.uid) es x h.0 m, ap (λ (v : Entry). v.uid) b, e))
one-uid (z ∷ es) x y h (inr m) (inr n) e = one-uid es x y h.1 m n e

pub one-entry : (s : Store) (sig : ℕ) (e k : Entry) → well_formed s ≡ true → IsIn s sig e → IsIn s sig k → e.uid ≡ k.uid → e ≡ k
one-entry s sig e k w a b same =
    let soup : b.soup ≡ a.soup = one-sig s.soups b.soup a.soup (soups-rise s w) b.is_soup a.is_soup (b.of_sig ∙ sym a.of_sig) in
    one-uid a.soup.entries e k (pairs-map (λ m n. m < n) (λ (e : Entry). e.uid) a.soup.entries (rises-pairs 0 a.soup.next_uid (map (λ (e : Entry). e.uid) a.soup.entries) (its-soup s sig e w a).uids))
    a.is_entry (subst (λ (p : Soup). Among p.entries k) soup b.is_entry) same

-- ---- the large binaries of an entry

-- one of the first list stands beside each of the second
zip-right : {X Y : Type 0} (xs : List X) (ys : List Y) (y : Y) → length xs ≡ length ys → Among ys y → (x : X) × Among (zip xs ys) (x, y)
zip-right xs [] y h m = absurd m
zip-right [] (z ∷ ys) y h m = absurd (omega (arith, h))
zip-right {X} {Y} (x ∷ xs) (z ∷ ys) y h (inl e) = (x, inl (ap {A = Y} {B = X × Y} (λ v. (x, v)) e))
zip-right (x ∷ xs) (z ∷ ys) y h (inr m) = let r = zip-right xs ys y (omega (arith, h)) m in (r.0, inr r.1)

pub has-large : (objects : Objects) (g : RawGraph) (ids : List ℕ) (o : ℕ) → AreLarges objects g ids → Among ids o → (l : ℕ × List ℕ) × Among (zip (larges g) ids) (l, o) × HasLarge objects (l, o)
has-large objects g ids o are m =
    let r = zip-right (larges g) ids o are.each_named m in
    (r.0, r.1, each-at (HasLarge objects) (zip (larges g) ids) (r.0, o) are.there r.1)

more-nodes : (k : ℕ) (x : Node) (nodes : List Node) → Each (λ (l : ℕ × List ℕ). (l.0 < k + 1 + length nodes) × (length l.1 ≤ 1000000)) (larges_from (k + 1) nodes)
    → Each (λ (l : ℕ × List ℕ). (l.0 < k + length (x ∷ nodes)) × (length l.1 ≤ 1000000)) (larges_from (k + 1) nodes)
more-nodes k x nodes h = each-more (λ (l : ℕ × List ℕ). (l.0 < k + 1 + length nodes) × (length l.1 ≤ 1000000)) (λ (l : ℕ × List ℕ). (l.0 < k + length (x ∷ nodes)) × (length l.1 ≤ 1000000)) (larges_from (k + 1) nodes)
    (λ l p. (omega (arith, p.0), p.1)) h

-- numbers below that of the nodes, and lengths within the limit
large-nodes : (k : ℕ) (nodes : List Node) → list_all is_small nodes ≡ true → Each (λ (l : ℕ × List ℕ). (l.0 < k + length nodes) × (length l.1 ≤ 1000000)) (larges_from k nodes)
large-nodes k [] h = tt
large-nodes k (Large c bytes ∷ nodes) h =
    let r = and_parts (is_small (Large c bytes)) (list_all is_small nodes) h in
    let few = leb-true (length bytes) 1000000 r.0 in
    ((omega arith, few), more-nodes k (Large c bytes) nodes (large-nodes (k + 1) nodes r.1))
large-nodes k (Symbol s ∷ nodes) h = more-nodes k (Symbol s) nodes (large-nodes (k + 1) nodes (and_parts (is_small (Symbol s)) (list_all is_small nodes) h).1)
large-nodes k (Str s ∷ nodes) h = more-nodes k (Str s) nodes (large-nodes (k + 1) nodes (and_parts (is_small (Str s)) (list_all is_small nodes) h).1)
large-nodes k (Binary c b ∷ nodes) h = more-nodes k (Binary c b) nodes (large-nodes (k + 1) nodes (and_parts (is_small (Binary c b)) (list_all is_small nodes) h).1)
large-nodes k (Array c v ∷ nodes) h = more-nodes k (Array c v) nodes (large-nodes (k + 1) nodes (and_parts (is_small (Array c v)) (list_all is_small nodes) h).1)
large-nodes k (Frame t v ∷ nodes) h = more-nodes k (Frame t v) nodes (large-nodes (k + 1) nodes (and_parts (is_small (Frame t v)) (list_all is_small nodes) h).1)

count-larges : (k : ℕ) (nodes : List Node) → length (larges_from k nodes) ≤ length nodes
count-larges k [] = omega arith
count-larges k (Large c bytes ∷ nodes) = omega (arith, count-larges (k + 1) nodes)
count-larges k (Symbol s ∷ nodes) = omega (arith, count-larges (k + 1) nodes)
count-larges k (Str s ∷ nodes) = omega (arith, count-larges (k + 1) nodes)
count-larges k (Binary c b ∷ nodes) = omega (arith, count-larges (k + 1) nodes)
count-larges k (Array c v ∷ nodes) = omega (arith, count-larges (k + 1) nodes)
count-larges k (Frame t v ∷ nodes) = omega (arith, count-larges (k + 1) nodes)

-- an entry of a store is within the limits of one graph
entry-within : (s : Store) (sig : ℕ) (e : Entry) → well_formed s ≡ true → IsIn s sig e → within_limits e.graph ≡ true
entry-within s sig e w is =
    let ok = each-at (λ (e : Entry). valid_entry e ≡ true) is.soup.entries e (each-list_all valid_entry is.soup.entries (its-soup s sig e w is).entries_fit) is.is_entry in
    let framed = is_frame (object e.graph.nodes e.graph.root) in
    (and_parts framed (within_limits e.graph) (and_parts (framed && within_limits e.graph) (nat_le (skeleton_length e.graph) 64_000) ok).0).1

-- ---- records of a store

rows-fit : (objects : Objects) (n : ℕ) (ls : List (ℕ × List ℕ)) (ids : List ℕ) → n < 4294967296 → Each (λ (l : ℕ × List ℕ). (l.0 < n) × (length l.1 ≤ 1000000)) ls → Each (HasLarge objects) (zip ls ids) → Each FitsRow (zip ls ids)
rows-fit objects n [] ids small h k = tt
rows-fit objects n (l ∷ ls) [] small h k = tt
rows-fit objects n (l ∷ ls) (i ∷ ids) small h k = ((omega (arith, small, h.0.0), k.0.2, omega (arith, h.0.1)), rows-fit objects n ls ids small h.1 k.1)

pub entry-fits : (objects : Objects) (place : Places) (s : Store) (sig : ℕ) (e : Entry) (ids : List ℕ) → LiesIn objects place s → well_formed s ≡ true → IsIn s sig e → AreLarges objects e.graph ids → FitsRecord sig e ids
entry-fits objects place s sig e ids lies w is are =
    let f = each-at (λ (p : Soup). (p.sig < 65536) × (p.next_uid < 4294967296)) s.soups is.soup (valid-fields s w).2 is.is_soup in
    let few : length e.graph.nodes ≤ 65535 = subst (λ n. n ≤ 65535) (length-map e.graph.nodes bare_node) (lies.skeletons sig e is).few in
    let within = (and_parts (is_some (normal_form e.graph)) (list_all is_small e.graph.nodes) (entry-within s sig e w is)).1 in
    record {
      soup_fits = subst (λ n. n < 65536) is.of_sig f.0;
      count_fits = omega (arith, few, count-larges 0 e.graph.nodes, are.each_named);
      uid_fits = omega (arith, its-id s sig e w is, f.1);
      time_fits = lies.times sig e is;
      each_named = are.each_named;
      rows_fit = rows-fit objects (0 + length e.graph.nodes) (larges e.graph) ids (omega (arith, few)) (large-nodes 0 e.graph.nodes within) are.there;
    }

row-same : (a b : EntryRow) → Some a ≡ Some b → (a.soup ≡ b.soup) × (a.uid ≡ b.uid)
row-same a b h = let k = some-same a b h in (ap (λ (r : EntryRow). r.soup) k, ap (λ (r : EntryRow). r.uid) k)

-- an object that lies in its place
pub record IsPlaced (objects : Objects) (place : Places) (named : ℕ → List ℕ) (s : Store) (x : Laid) : Type 0 where
  pub of_ids : x.ids ≡ named x.object
  pub is_in : IsIn s x.soup x.entry
  pub at : place x.soup x.entry.uid ≡ Some x.object
  pub larges_are : AreLarges objects x.entry.graph x.ids

-- an object that a record names is no record
pub even-named : (objects : Objects) (place : Places) (s : Store) (lies : LiesIn objects place s) (r o : ℕ) → Among (lies.named r) o → o % 2 ≡ 0
even-named objects place s lies r o m =
    let n = lies.names r o m in
    let q = lies.records n.0 n.1 n.2 in
    let same : r ≡ q.0 = some-same r q.0 (sym n.3 ∙ q.1) in
    (has-large objects n.1.graph (lies.named q.0) o q.4 (subst (λ k. Among (lies.named k) o) same m)).2.0

placed-one : (objects : Objects) (place : Places) (s : Store) (lies : LiesIn objects place s) → (o : ℕ × List ℕ) → Among (map.entries objects) o → (o.0 % 2 == 1) ≡ true
    → (x : Laid) × (record_of x ≡ o) × IsPlaced objects place lies.named s x
placed-one objects place s lies o m odd = go (lies.only_these o.0 o.1 there (λ (z : o.0 ≡ 0). absurd (omega (arith, k, z))))
  where
    there : map.get objects o.0 ≡ Some o.1
    there = entry-get objects o.0 o.1 m

    k : o.0 % 2 ≡ 1
    k = eqb-true (o.0 % 2) 1 odd

    go : ((sig : ℕ) × (e : Entry) × IsIn s sig e × (place sig e.uid ≡ Some o.0)) ⊎ ((r : ℕ) × Among (lies.named r) o.0) → (x : Laid) × (record_of x ≡ o) × IsPlaced objects place lies.named s x
    go (inl r) =
        let q = lies.records r.0 r.1 r.2 in
        let same : q.0 ≡ o.0 = some-same q.0 o.0 (sym q.1 ∙ r.3) in
        let bytes : entry_bytes r.0 r.1 (lies.named o.0) ≡ o.1 = some-same (entry_bytes r.0 r.1 (lies.named o.0)) o.1 (sym (subst (λ n. map.get objects n ≡ Some (entry_bytes r.0 r.1 (lies.named n))) same q.3) ∙ there) in (
          record { object = o.0; soup = r.0; entry = r.1; ids = lies.named o.0 },
          (λ i. (o.0, bytes i)),
          record { of_ids = refl; is_in = r.2; at = r.3; larges_are = subst (λ n. AreLarges objects r.1.graph (lies.named n)) same q.4 },
        )
    go (inr n) = absurd (omega (arith, k, even-named objects place s lies n.0 o.0 n.1))

laids : (P : Laid → Type 0) (os : List (ℕ × List ℕ)) → Each (λ o. (x : Laid) × (record_of x ≡ o) × P x) os → (laid : List Laid) × (os ≡ map record_of laid) × Each P laid
laids P [] h = ([], refl, tt)
laids P (o ∷ os) h = let r = laids P os h.1 in (h.0.0 ∷ r.0, (λ i. sym h.0.1 i ∷ r.1 i), (h.0.2, r.2))

-- The store's records, in the order of their ids.
pub record Layout (objects : Objects) (place : Places) (named : ℕ → List ℕ) (s : Store) : Type 0 where
  pub laid : List Laid
  pub records : filter (λ (o : ℕ × List ℕ). o.0 % 2 == 1) (map.entries objects) ≡ map record_of laid
  pub placed : Each (IsPlaced objects place named s) laid
  pub are : AreEntries s (map (λ (x : Laid). (x.soup, x.entry)) laid)
  pub rising : Pairs (λ (x y : Laid). x.object < y.object) laid
  pub all : (sig : ℕ) (e : Entry) (id : ℕ) → IsIn s sig e → place sig e.uid ≡ Some id → (x : Laid) × Among laid x × (x.object ≡ id)

each-map-from : {X Y : Type 0} (P : Y → Type 0) (f : X → Y) (xs : List X) → Each (λ x. P (f x)) xs → Each P (map f xs)
each-map-from P f [] h = tt
each-map-from P f (x ∷ xs) h = (h.0, each-map-from P f xs h.1)

pub pairs-map-from : {X Y : Type 0} (R : Y → Y → Type 0) (f : X → Y) (xs : List X) → Pairs (λ a b. R (f a) (f b)) xs → Pairs R (map f xs)
pairs-map-from R f [] h = tt
pairs-map-from R f (x ∷ xs) h = (each-map-from (R (f x)) f xs h.0, pairs-map-from R f xs h.1)

pub layout : (objects : Objects) (place : Places) (s : Store) (lies : LiesIn objects place s) → well_formed s ≡ true → Layout objects place lies.named s
layout objects place s lies w = record { laid = all.0; records = all.1; placed = all.2; are = record { sound = sound; complete = complete; once = once }; rising = ordered; all = found }
  where
    all : (laid : List Laid) × (filter (λ (o : ℕ × List ℕ). o.0 % 2 == 1) (map.entries objects) ≡ map record_of laid) × Each (IsPlaced objects place lies.named s) laid
    all = laids (IsPlaced objects place lies.named s) (filter (λ (o : ℕ × List ℕ). o.0 % 2 == 1) (map.entries objects)) (each-from _ (filter (λ (o : ℕ × List ℕ). o.0 % 2 == 1) (map.entries objects))
        (λ o m. let k = among-filter (λ (o : ℕ × List ℕ). o.0 % 2 == 1) (map.entries objects) o m in placed-one objects place s lies o k.0 k.1))

    placed : (x : Laid) → Among all.0 x → IsPlaced objects place lies.named s x
    placed x m = each-at (IsPlaced objects place lies.named s) all.0 x all.2 m

    sound : (y : ℕ × Entry) → Among (map (λ (x : Laid). (x.soup, x.entry)) all.0) y → Among (all_entries s) y
    sound y m =
        let v = among-map (λ (x : Laid). (x.soup, x.entry)) all.0 y m in
        let p = placed v.0 v.1 in
        subst (Among (all_entries s)) v.2 (in-all s v.0.soup v.0.entry p.is_in)

    -- the record of an entry, among those that were laid
    here : (sig : ℕ) (e : Entry) (is : IsIn s sig e) → (x : Laid) × Among all.0 x × (x.object ≡ (lies.records sig e is).0) × (entry_bytes x.soup x.entry x.ids ≡ entry_bytes sig e (lies.named (lies.records sig e is).0))
    here sig e is =
        let q = lies.records sig e is in
        let o : ℕ × List ℕ = (q.0, entry_bytes sig e (lies.named q.0)) in
        let in-odds = filter-among (λ (o : ℕ × List ℕ). o.0 % 2 == 1) (map.entries objects) o (get-entry objects q.0 (entry_bytes sig e (lies.named q.0)) q.3) (eq-eqb (q.0 % 2) 1 q.2) in
        let v = among-map record_of all.0 o (subst (λ (os : List (ℕ × List ℕ)). Among os o) all.1 in-odds) in
        (v.0, v.1, ap {A = ℕ × List ℕ} {B = ℕ} (λ o. o.0) v.2, ap {A = ℕ × List ℕ} {B = List ℕ} (λ o. o.1) v.2)

    found : (sig : ℕ) (e : Entry) (id : ℕ) → IsIn s sig e → place sig e.uid ≡ Some id → (x : Laid) × Among all.0 x × (x.object ≡ id)
    found sig e id is at = let r = here sig e is in (r.0, r.1, r.2 ∙ some-same (lies.records sig e is).0 id (sym (lies.records sig e is).1 ∙ at))

    complete : (y : ℕ × Entry) → Among (all_entries s) y → Among (map (λ (x : Laid). (x.soup, x.entry)) all.0) y
    complete y m =
        let is = all-in s y m in
        let q = lies.records y.0 y.1 is in
        let v = here y.0 y.1 is in
        let p = placed v.0 v.1 in
        let rows = row-same (row_of v.0.soup v.0.entry v.0.ids) (row_of y.0 y.1 (lies.named q.0))
        (sym (record-back v.0.soup v.0.entry v.0.ids (entry-fits objects place s v.0.soup v.0.entry v.0.ids lies w p.is_in p.larges_are)) ∙ ap entry_row v.3
        ∙ record-back y.0 y.1 (lies.named q.0) (entry-fits objects place s y.0 y.1 (lies.named q.0) lies w is q.4)) in
        let there = subst (λ n. IsIn s n v.0.entry) rows.0 p.is_in in
        let same : v.0.entry ≡ y.1 = one-entry s y.0 v.0.entry y.1 w there is rows.1 in
        subst (Among (map (λ (x : Laid). (x.soup, x.entry)) all.0)) (λ i. (rows.0 i, same i)) (map-among (λ (x : Laid). (x.soup, x.entry)) all.0 v.0 v.1)

    apart : (x y : Laid) → Among all.0 x → Among all.0 y → x.object < y.object → ApartIds (x.soup, x.entry) (y.soup, y.entry)
    apart x y m n less soup uid =
        let same : x.object ≡ y.object = some-same x.object y.object (sym (placed x m).at ∙ ap (λ n. place n x.entry.uid) soup ∙ ap (place y.soup) uid ∙ (placed y n).at) in
        absurd (omega (arith, less, same))

    ordered : Pairs (λ (x y : Laid). x.object < y.object) all.0
    ordered = pairs-map (λ (a b : ℕ × List ℕ). a.0 < b.0) record_of all.0
        (subst Rising all.1 (pairs-filter (λ (a b : ℕ × List ℕ). a.0 < b.0) (λ (o : ℕ × List ℕ). o.0 % 2 == 1) (map.entries objects) (entries-rising objects)))

    once : Pairs ApartIds (map (λ (x : Laid). (x.soup, x.entry)) all.0)
    once = pairs-map-from ApartIds (λ (x : Laid). (x.soup, x.entry)) all.0 (pairs-more (λ (x y : Laid). x.object < y.object) (λ x y. ApartIds (x.soup, x.entry) (y.soup, y.entry)) all.0 apart ordered)
