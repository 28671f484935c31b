-- What is written is read back: the whole store from its directory and its entries.
use Rattle.std.proofs.Common.{arith, ◌≡◌, refl, ap, sym, ◌∙◌, subst, ℕ, ◌<◌, List, [], ◌∷◌, true, false, not, suc, Bool, nat_le, length, is_none, ◌&&◌, ◌||◌, ◌⊎◌, inl, inr, cond, Option, Some, None, option_and_then, option_map, map, filter, ◌==◌}
use Rattle.std.specs.List.{list_all, list_any}
use Rattle.std.specs.declared.cmp.Ordering.{Ordering}
use Rattle.std.specs.declared.cmp.Ordering.TheVariants.{Less, Equal}
use Rattle.std.specs.Cmp.{IsTotalOrder}
use Rattle.std.specs.Ordering.{nat_cmp}
use Rattle.std.proofs.lemmas.Cmp.{nat_cmp_total, on_total}
use Rattle.std.proofs.lemmas.Bool.{eq-eqb, eqb-true, and_parts}
use Rattle.newt_graph.specs.Graph.{RawGraph}
use Rattle.newt_spec_store.specs.Store.{Entry, Soup, Store}
use Rattle.newt_spec_store.specs.Sorted.{sorted_by}
use Rattle.newt_spec_store.specs.Valid.{valid, keeps_version, well_formed, fits, valid_soup}
use Rattle.newt_spec_store.specs.Image.{ObjectList, all_entries}
use Rattle.newt_spec_store.specs.Reading.{whole, directory}
use Rattle.newt_spec_graph.specs.Graph.{every}
use Rattle.newt_spec_store.specs.StoreOf.{EntryRow, only, object_bytes, entry_of_row, rows_of, named_once, with_entries, in_a_soup, assembled, store_of}
use Rattle.newt_spec_graph.specs.Lists.{Each, Pairs, Among}
use Rattle.newt_spec_store.specs.Laid.{ApartIds, AreEntries, Laid, record_of, row_of, IsLaid, bare, bare_soup}
use Rattle.newt_laws_images.proofs.Records.{all-true, record-back, entry-back}
use Rattle.newt_spec_store.specs.StoreOf.{entry_row}
use Rattle.newt_spec_graph.proofs.Lists.{each-at, each-from, each-list_all, list_all-each, among-filter, filter-among, among-flat_map, flat_map-among, pairs-filter, pairs-more, pairs-map, rises-pairs}
use Rattle.newt_spec_store.proofs.Sorting.{Untied, sorted-rises, among-fold, fold-among}
use Rattle.newt_laws_images.proofs.Stores.{is-store, is-soup}
use Rattle.newt_laws_images.proofs.Read.{directory-back}

-- ---- two rising lists with the same elements are one

pub among-map : {X Y : Type 0} (f : X → Y) (xs : List X) (z : Y) → Among (map f xs) z → (x : X) × Among xs x × (f x ≡ z)
among-map f [] z m = absurd m
among-map f (x ∷ xs) z (inl e) = (x, inl refl, e)
among-map f (x ∷ xs) z (inr m) = let r = among-map f xs z m in (r.0, inr r.1, r.2)

pub map-among : {X Y : Type 0} (f : X → Y) (xs : List X) (x : X) → Among xs x → Among (map f xs) (f x)
map-among f [] x m = absurd m
map-among f (y ∷ xs) x (inl e) = inl (ap f e)
map-among f (y ∷ xs) x (inr m) = inr (map-among f xs x m)

pub rising-same : {X : Type 0} (R : X → X → Type 0) → ((a : X) → R a a → ⊥) → ((a b c : X) → R a b → R b c → R a c) → (xs ys : List X) → Pairs R xs → Pairs R ys
    → ((z : X) → Among xs z → Among ys z) → ((z : X) → Among ys z → Among xs z) → xs ≡ ys
rising-same R irr join [] [] h k f g = refl
rising-same R irr join [] (y ∷ ys) h k f g = absurd (g y (inl refl))
rising-same R irr join (x ∷ xs) [] h k f g = absurd (f x (inl refl))
rising-same R irr join (x ∷ xs) (y ∷ ys) h k f g =
    ap (λ v. v ∷ xs) heads ∙ ap (λ vs. y ∷ vs) (rising-same R irr join xs ys h.1 k.1
    (λ z m. tail-of z (f z (inr m)) (λ e. irr x (subst (R x) (sym (heads ∙ e)) (each-at (R x) xs z h.0 m))))
    (λ z m. tail-of' z (g z (inr m)) (λ e. irr y (subst (R y) (sym (sym heads ∙ e)) (each-at (R y) ys z k.0 m)))))
  where
    first : Among (y ∷ ys) x → Among (x ∷ xs) y → x ≡ y
    first (inl e) n = sym e
    first (inr m) (inl e) = e
    first (inr m) (inr n) = absurd (irr x (join x y x (each-at (R x) xs y h.0 n) (each-at (R y) ys x k.0 m)))

    heads : x ≡ y
    heads = first (f x (inl refl)) (g y (inl refl))

    tail-of : (z : _) → Among (y ∷ ys) z → (y ≡ z → ⊥) → Among ys z
    tail-of z (inl e) n = absurd (n e)
    tail-of z (inr m) n = m

    tail-of' : (z : _) → Among (x ∷ xs) z → (x ≡ z → ⊥) → Among xs z
    tail-of' z (inl e) n = absurd (n e)
    tail-of' z (inr m) n = m

-- ---- the entries of one soup

abbrev pub uid_cmp_of : Entry → Entry → Ordering
uid_cmp_of a b = nat_cmp a.uid b.uid

pub uid_total : IsTotalOrder uid_cmp_of
uid_total = on_total (λ (e : Entry). e.uid) nat_cmp_total

rise-less : (a b : ℕ) → a < b → nat_cmp a b ≡ Less
rise-less a b h = grind arith

pub less-rise : (a b : ℕ) → nat_cmp a b ≡ Less → a < b
less-rise a b h = grind arith

pub tied-same : (a b : ℕ) → nat_cmp a b ≡ Equal → a ≡ b
tied-same a b h = grind arith

in-store : (s : Store) (p : Soup) (e : Entry) → Among s.soups p → Among p.entries e → Among (all_entries s) (p.sig, e)
in-store s p e m n = flat_map-among (λ (p : Soup). map (λ (e : Entry). (p.sig, e)) p.entries) s.soups p (p.sig, e) m (map-among (λ (e : Entry). (p.sig, e)) p.entries e n)

-- one soup of a signature
pub one-sig : (ps : List Soup) (p q : Soup) → Pairs (λ (a b : Soup). a.sig < b.sig) ps → Among ps p → Among ps q → p.sig ≡ q.sig → p ≡ q
one-sig [] p q h m n e = absurd m
one-sig (x ∷ ps) p q h (inl a) (inl b) e = sym a ∙ b
one-sig (x ∷ ps) p q h (inl a) (inr n) e = absurd (omega (arith, each-at (λ (b : Soup). x.sig < b.sig) ps q h.0 n, ap (λ (v : Soup). v.sig) a, e))
one-sig (x ∷ ps) p q h (inr m) (inl b) e = absurd (omega (arith, each-at (λ (b : Soup). x.sig < b.sig) ps p h.0 m, ap (λ (v : Soup). v.sig) b, e))
one-sig (x ∷ ps) p q h (inr m) (inr n) e = one-sig ps p q h.1 m n e

abbrev pub chosen : ℕ → List (ℕ × Entry) → List Entry
chosen sig entries = map (λ (e : ℕ × Entry). e.1) (filter (λ (e : ℕ × Entry). e.0 == sig) entries)

pub chosen-apart : (sig : ℕ) (entries : List (ℕ × Entry)) → Pairs ApartIds entries → Pairs (λ (a b : Entry). a.uid ≡ b.uid → ⊥) (chosen sig entries)
chosen-apart sig entries h = map-pairs (filter (λ (e : ℕ × Entry). e.0 == sig) entries)
    (pairs-more ApartIds (λ a b. a.1.uid ≡ b.1.uid → ⊥) (filter (λ (e : ℕ × Entry). e.0 == sig) entries)
    (λ a b m n r. r (eqb-true a.0 sig (among-filter (λ (e : ℕ × Entry). e.0 == sig) entries a m).1 ∙ sym (eqb-true b.0 sig (among-filter (λ (e : ℕ × Entry). e.0 == sig) entries b n).1)))
    (pairs-filter ApartIds (λ (e : ℕ × Entry). e.0 == sig) entries h))
  where
    map-each : (a : ℕ × Entry) (xs : List (ℕ × Entry)) → Each (λ (b : ℕ × Entry). a.1.uid ≡ b.1.uid → ⊥) xs → Each (λ (b : Entry). a.1.uid ≡ b.uid → ⊥) (map (λ (e : ℕ × Entry). e.1) xs)
    map-each a [] h = tt
    map-each a (x ∷ xs) h = (h.0, map-each a xs h.1)

    map-pairs : (xs : List (ℕ × Entry)) → Pairs (λ (a b : ℕ × Entry). a.1.uid ≡ b.1.uid → ⊥) xs → Pairs (λ (a b : Entry). a.uid ≡ b.uid → ⊥) (map (λ (e : ℕ × Entry). e.1) xs)
    map-pairs [] h = tt
    map-pairs (x ∷ xs) h = (map-each x xs h.0, map-pairs xs h.1)

soup-back : (s : Store) (p : Soup) (entries : List (ℕ × Entry)) → well_formed s ≡ true → Among s.soups p → AreEntries s entries → sorted_by uid_cmp_of (chosen p.sig entries) ≡ p.entries
soup-back s p entries w m are = rising-same (λ (a b : Entry). nat_cmp a.uid b.uid ≡ Less) (λ a h. omega (arith, less-rise a.uid a.uid h))
    (λ a b c h k. rise-less a.uid c.uid (omega (arith, less-rise a.uid b.uid h, less-rise b.uid c.uid k)))
    (sorted_by uid_cmp_of (chosen p.sig entries)) p.entries
    (sorted-rises uid_cmp_of uid_total (chosen p.sig entries) (pairs-more (λ (a b : Entry). a.uid ≡ b.uid → ⊥) (Untied uid_cmp_of) (chosen p.sig entries) (λ a b _ _ r t. r (tied-same a.uid b.uid t)) (chosen-apart p.sig entries are.once)))
    (pairs-more (λ (a b : Entry). a.uid < b.uid) (λ (a b : Entry). nat_cmp a.uid b.uid ≡ Less) p.entries (λ a b _ _ lt. rise-less a.uid b.uid lt)
    (pairs-map (λ m n. m < n) (λ (e : Entry). e.uid) p.entries (rises-pairs 0 p.next_uid (map (λ (e : Entry). e.uid) p.entries) good.uids)))
    (λ z n. out z (among-fold uid_cmp_of [] (chosen p.sig entries) z n))
    (λ z n. fold-among uid_cmp_of [] (chosen p.sig entries) z (inr (into z n)))
  where
    good : Rattle.newt_laws_images.proofs.Stores.IsSoup p
    good = is-soup p (each-at (λ (p : Soup). valid_soup p ≡ true) s.soups p (each-list_all valid_soup s.soups (is-store s w).soups_fit) m)

    sigs : Pairs (λ (a b : Soup). a.sig < b.sig) s.soups
    sigs = pairs-map (λ m n. m < n) (λ (p : Soup). p.sig) s.soups (rises-pairs 0 s.next_soup (map (λ (p : Soup). p.sig) s.soups) (is-store s w).sigs)

    into : (z : Entry) → Among p.entries z → Among (chosen p.sig entries) z
    into z n = map-among (λ (e : ℕ × Entry). e.1) (filter (λ (e : ℕ × Entry). e.0 == p.sig) entries) (p.sig, z)
        (filter-among (λ (e : ℕ × Entry). e.0 == p.sig) entries (p.sig, z) (are.complete (p.sig, z) (in-store s p z m n)) (eq-eqb p.sig p.sig refl))

    from : (x : ℕ × Entry) → x.0 ≡ p.sig → Among (all_entries s) x → Among p.entries x.1
    from x e k =
        let q = among-flat_map (λ (p : Soup). map (λ (e : Entry). (p.sig, e)) p.entries) s.soups x k in
        let v = among-map (λ (e : Entry). (q.0.sig, e)) q.0.entries x q.2 in
        let same = one-sig s.soups q.0 p sigs q.1 m (ap {A = ℕ × Entry} {B = ℕ} (λ y. y.0) v.2 ∙ e) in
        subst (λ (r : Soup). Among r.entries x.1) same (subst (Among q.0.entries) (ap {A = ℕ × Entry} {B = Entry} (λ y. y.1) v.2) v.1)

    out : (z : Entry) → Among [] z ⊎ Among (chosen p.sig entries) z → Among p.entries z
    out z (inl n) = absurd n
    out z (inr n) =
        let x = among-map (λ (e : ℕ × Entry). e.1) (filter (λ (e : ℕ × Entry). e.0 == p.sig) entries) z n in
        let f = among-filter (λ (e : ℕ × Entry). e.0 == p.sig) entries x.0 x.1 in
        subst (Among p.entries) x.2 (from x.0 (eqb-true x.0.0 p.sig f.1) (are.sound x.0 f.0))

-- ---- the store

map-same : {X : Type 0} (f : X → X) (xs : List X) → Each (λ x. f x ≡ x) xs → map f xs ≡ xs
map-same f [] h = refl
map-same f (x ∷ xs) h = ap (λ y. y ∷ map f xs) h.0 ∙ ap (λ ys. x ∷ ys) (map-same f xs h.1)

map-map : {X Y Z : Type 0} (f : Y → Z) (g : X → Y) (xs : List X) → map f (map g xs) ≡ map (λ x. f (g x)) xs
map-map f g [] = refl
map-map f g (x ∷ xs) = ap (λ ys. f (g x) ∷ ys) (map-map f g xs)

any-sig : (ps : List Soup) (p : Soup) → Among ps p → list_any (λ (q : Soup). q.sig == p.sig) (map bare_soup ps) ≡ true
any-sig [] p m = absurd m
any-sig (x ∷ ps) p (inl e) = ap (λ b. b || list_any (λ (q : Soup). q.sig == p.sig) (map bare_soup ps)) (eq-eqb x.sig p.sig (ap (λ (q : Soup). q.sig) e))
any-sig (x ∷ ps) p (inr m) = go (x.sig == p.sig) (any-sig ps p m)
  where
    go : (b : Bool) → list_any (λ (q : Soup). q.sig == p.sig) (map bare_soup ps) ≡ true → (b || list_any (λ (q : Soup). q.sig == p.sig) (map bare_soup ps)) ≡ true
    go true h = refl
    go false h = h

pub assembled-back : (graph_of : List ℕ → Option RawGraph) (objects : ObjectList) (blocks : ℕ) (s : Store) (rows : List EntryRow) (entries : List (ℕ × Entry)) → valid blocks s ≡ true
    → named_once graph_of objects rows ≡ true → AreEntries s entries → assembled graph_of objects blocks (bare s) rows entries ≡ Some s
assembled-back graph_of objects blocks s rows entries v once are =
    ap {A = List Soup} {B = Option Store} (λ ps. cond (named_once graph_of objects rows && list_all (in_a_soup graph_of (bare s)) entries && valid blocks (record s { soups = ps })) (Some (record s { soups = ps })) None) soups
    ∙ ap (λ b. cond b (Some s) None) (all-true _ _ _ once inside v)
  where
    w : well_formed s ≡ true
    w = (and_parts (well_formed s) (fits blocks s) v).0

    soups : map (with_entries graph_of entries) (map bare_soup s.soups) ≡ s.soups
    soups = map-map (with_entries graph_of entries) bare_soup s.soups ∙ map-same (λ p. with_entries graph_of entries (bare_soup p)) s.soups
        (each-from (λ p. with_entries graph_of entries (bare_soup p) ≡ p) s.soups (λ p m. ap {A = List Entry} {B = Soup} (λ es. record p { entries = es }) (soup-back s p entries (and_parts (well_formed s) (fits blocks s) v).0 m are)))

    one : (x : ℕ × Entry) → Among (all_entries s) x → in_a_soup graph_of (bare s) x ≡ true
    one x m =
        let q = among-flat_map (λ (p : Soup). map (λ (e : Entry). (p.sig, e)) p.entries) s.soups x m in
        let u = among-map (λ (e : Entry). (q.0.sig, e)) q.0.entries x q.2 in
        ap {A = ℕ} {B = Bool} (λ n. list_any (λ (p : Soup). p.sig == n) (map bare_soup s.soups)) (sym (ap {A = ℕ × Entry} {B = ℕ} (λ y. y.0) u.2)) ∙ any-sig s.soups q.0 q.1

    inside : list_all (in_a_soup graph_of (bare s)) entries ≡ true
    inside = list_all-each (in_a_soup graph_of (bare s)) entries (each-from _ entries (λ x m. one x (are.sound x m)))

rows-back : (laid : List Laid) → Each (λ x. Rattle.newt_spec_store.specs.Laid.FitsRecord x.soup x.entry x.ids) laid → every (map (λ (o : ℕ × List ℕ). entry_row o.1) (map record_of laid)) ≡ Some (map (λ x. row_of x.soup x.entry x.ids) laid)
rows-back [] h = refl
rows-back (x ∷ laid) h = ap (λ o. every (o ∷ map (λ (o : ℕ × List ℕ). entry_row o.1) (map record_of laid))) (record-back x.soup x.entry x.ids h.0)
    ∙ ap (option_map (λ rs. row_of x.soup x.entry x.ids ∷ rs)) (rows-back laid h.1)

entries-back : (graph_of : List ℕ → Option RawGraph) (objects : ObjectList) (laid : List Laid) → Each (λ x. Rattle.newt_spec_store.specs.Laid.FitsRecord x.soup x.entry x.ids) laid
    → Each (λ x. graph_of (Rattle.newt_spec_nsof.specs.Flat.flat (Rattle.newt_spec_nsof.specs.Lengths.skeleton x.entry.graph)) ≡ Some (Rattle.newt_spec_nsof.specs.Lengths.skeleton x.entry.graph)) laid
    → Each (λ x. Each (Rattle.newt_spec_store.specs.Laid.IsThere objects) (Rattle.std.specs.Prelude.zip (Rattle.newt_spec_store.specs.Image.larges x.entry.graph) x.ids)) laid
    → every (map (entry_of_row graph_of objects) (map (λ x. row_of x.soup x.entry x.ids) laid)) ≡ Some (map (λ x. (x.soup, x.entry)) laid)
entries-back graph_of objects [] f d t = refl
entries-back graph_of objects (x ∷ laid) f d t =
    ap (λ o. every (o ∷ map (entry_of_row graph_of objects) (map (λ x. row_of x.soup x.entry x.ids) laid))) (entry-back graph_of objects x.soup x.entry x.ids d.0 f.0.each_named t.0)
    ∙ ap (option_map (λ es. (x.soup, x.entry) ∷ es)) (entries-back graph_of objects laid f.1 d.1 t.1)

soups-bare : (ps : List Soup) → (length (map bare_soup ps) ≡ length ps) × (list_all (λ (p : Soup). is_none p.info) (map bare_soup ps) ≡ list_all (λ (p : Soup). is_none p.info) ps)
soups-bare [] = (refl, refl)
soups-bare (p ∷ ps) = let r = soups-bare ps in (ap suc r.0, ap (λ b. is_none p.info && b) r.1)

-- a store keeps its version as its directory does
pub bare-keeps : (version : ℕ) (s : Store) → keeps_version version (bare s) ≡ keeps_version version s
bare-keeps version s = let r = soups-bare s.soups in λ i. not (version == 1) || (nat_le (r.0 i) 64 && r.1 i)

pub store-back : (graph_of : List ℕ → Option RawGraph) (version : ℕ) (objects : ObjectList) (blocks : ℕ) (s : Store) (laid : List Laid) → keeps_version version s ≡ true → valid blocks s ≡ true
    → IsLaid graph_of objects s laid → store_of graph_of version objects blocks ≡ Some s
store-back graph_of version objects blocks s laid keeps v is =
    ap (option_and_then (λ d. option_and_then (λ rows. option_and_then (λ entries. assembled graph_of objects blocks d rows entries) (every (map (entry_of_row graph_of objects) rows))) (rows_of graph_of objects)))
    (ap (option_and_then (λ bytes. only (keeps_version version) (whole (directory graph_of) bytes))) is.written
    ∙ ap (only (keeps_version version)) (directory-back graph_of s is.infos (and_parts (well_formed s) (fits blocks s) v).0)
    ∙ ap (λ b. cond b (Some (bare s)) None) (bare-keeps version s ∙ keeps))
    ∙ ap (option_and_then (λ rows. option_and_then (λ entries. assembled graph_of objects blocks (bare s) rows entries) (every (map (entry_of_row graph_of objects) rows))))
    (ap (λ os. every (map (λ (o : ℕ × List ℕ). entry_row o.1) os)) is.records ∙ rows-back laid is.fit)
    ∙ ap (option_and_then (λ entries. assembled graph_of objects blocks (bare s) (map (λ x. row_of x.soup x.entry x.ids) laid) entries)) (entries-back graph_of objects laid is.fit is.decoded is.there)
    ∙ assembled-back graph_of objects blocks s (map (λ x. row_of x.soup x.entry x.ids) laid) (map (λ x. (x.soup, x.entry)) laid) v is.once is.entries

-- ---- what is read is valid

checked-some : (a b : Bool) (s t : Store) → cond (a && b) (Some s) None ≡ Some t → (b ≡ true) × (s ≡ t)
checked-some true true s t h = (refl, Rattle.newt_spec_graph.proofs.Lists.some-same s t h)
checked-some true false s t h = cc
checked-some false b s t h = cc

pub read-valid : (graph_of : List ℕ → Option RawGraph) (version : ℕ) (objects : ObjectList) (blocks : ℕ) (s : Store) → store_of graph_of version objects blocks ≡ Some s → valid blocks s ≡ true
read-valid graph_of version objects blocks s = from-directory (option_and_then (λ bytes. only (keeps_version version) (whole (directory graph_of) bytes)) (object_bytes objects 0))
  where
    built : (d : Store) (rows : List EntryRow) (entries : List (ℕ × Entry)) → assembled graph_of objects blocks d rows entries ≡ Some s → valid blocks s ≡ true
    built d rows entries h =
        let r = checked-some (named_once graph_of objects rows && list_all (in_a_soup graph_of d) entries) (valid blocks (record d { soups = map (with_entries graph_of entries) d.soups }))
        (record d { soups = map (with_entries graph_of entries) d.soups }) s h in
        ap (valid blocks) (sym r.1) ∙ r.0

    from-entries : (d : Store) (rows : List EntryRow) (o : Option (List (ℕ × Entry))) → option_and_then (λ entries. assembled graph_of objects blocks d rows entries) o ≡ Some s → valid blocks s ≡ true
    from-entries d rows None h = cc
    from-entries d rows (Some es) h = built d rows es h

    from-rows : (d : Store) (o : Option (List EntryRow)) → option_and_then (λ rows. option_and_then (λ entries. assembled graph_of objects blocks d rows entries) (every (map (entry_of_row graph_of objects) rows))) o ≡ Some s → valid blocks s ≡ true
    from-rows d None h = cc
    from-rows d (Some rows) h = from-entries d rows (every (map (entry_of_row graph_of objects) rows)) h

    from-directory : (o : Option Store) → option_and_then (λ d. option_and_then (λ rows. option_and_then (λ entries. assembled graph_of objects blocks d rows entries) (every (map (entry_of_row graph_of objects) rows))) (rows_of graph_of objects)) o ≡ Some s → valid blocks s ≡ true
    from-directory None h = cc
    from-directory (Some d) h = from-rows d (rows_of graph_of objects) h
