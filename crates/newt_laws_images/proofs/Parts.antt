-- What holds of objects that are read as a store: the directory, the rows and the entries that were read.
use Rattle.std.proofs.Common.{◌≡◌, refl, ap, sym, ◌∙◌, subst, ℕ, List, [], ◌∷◌, true, false, Bool, ◌&&◌, inl, inr, cond, Option, Some, None, option_and_then, map, filter, fold, ◌==◌}
use Rattle.std.specs.List.{list_all}
use Rattle.std.specs.declared.cmp.Ordering.{Ordering}
use Rattle.std.specs.Ordering.{is_lt}
use Rattle.std.proofs.lemmas.Bool.{eq-eqb}
use Rattle.newt_graph.specs.Graph.{RawGraph}
use Rattle.newt_spec_graph.specs.Graph.{every}
use Rattle.newt_spec_graph.specs.Lists.{Each, Pairs, Among}
use Rattle.newt_spec_graph.proofs.Lists.{each-at, each-from, some-same, none-some, filter-among}
use Rattle.newt_spec_store.proofs.Sorting.{insert-among}
use Rattle.newt_spec_store.specs.Image.{ObjectList}
use Rattle.newt_spec_store.specs.Laid.{ApartIds}
use Rattle.newt_spec_store.specs.Reading.{whole, directory}
use Rattle.newt_spec_store.specs.Sorted.{insert_by, sorted_by}
use Rattle.newt_spec_store.specs.Store.{Entry, Store}
use Rattle.newt_spec_store.specs.StoreOf.{EntryRow, only, object_bytes, entry_of_row, rows_of, named_once, in_a_soup, assembled, store_of}
use Rattle.newt_spec_store.specs.Valid.{valid, keeps_version}
use Rattle.newt_laws_images.proofs.Assembled.{map-among, chosen}
use Rattle.newt_laws_images.proofs.Made.{built}
use Rattle.newt_laws_images.proofs.Rows.{only-parts}

-- ---- lists

-- what holds of each two elements after the sort held before it
insert-back : {X : Type 0} (R : X → X → Type 0) (cmp : X → X → Ordering) → ((a b : X) → R a b → R b a) → (ys : List X) (x : X) → Pairs R (insert_by cmp ys x) → Each (R x) ys × Pairs R ys
insert-back R cmp back [] x h = (tt, tt)
insert-back {X} R cmp back (y ∷ ys) x h = go (insert-back R cmp back ys x) (is_lt (cmp x y)) h
  where
    go : (Pairs R (insert_by cmp ys x) → Each (R x) ys × Pairs R ys) → (b : Bool) → Pairs R (cond b (x ∷ y ∷ ys) (y ∷ insert_by cmp ys x)) → Each (R x) (y ∷ ys) × Pairs R (y ∷ ys)
    go more true k = (k.0, k.1)
    go more false k =
        let r = more k.1 in
        ((back y x (each-at (R y) (insert_by cmp ys x) x k.0 (insert-among cmp ys x x (inl refl))), r.0), (each-from (R y) ys (λ z m. each-at (R y) (insert_by cmp ys x) z k.0 (insert-among cmp ys x z (inr m))), r.1))

fold-back : {X : Type 0} (R : X → X → Type 0) (cmp : X → X → Ordering) → ((a b : X) → R a b → R b a) → (ys xs : List X) → Pairs R (fold (insert_by cmp) ys xs)
    → Pairs R ys × Pairs R xs × Each (λ x. Each (R x) ys) xs
fold-back R cmp back ys [] h = (h, tt, tt)
fold-back {X} R cmp back ys (x ∷ xs) h =
    let r = fold-back R cmp back (insert_by cmp ys x) xs h in
    let k = insert-back R cmp back ys x r.0 in (
      k.1,
      (each-from (R x) xs (λ z m. back z x (each-at (R z) (insert_by cmp ys x) x (each-at (λ v. Each (R v) (insert_by cmp ys x)) xs z r.2 m) (insert-among cmp ys x x (inl refl)))), r.1),
      (k.0, each-from (λ v. Each (R v) ys) xs (λ v m. each-from (R v) ys (λ z n. each-at (R v) (insert_by cmp ys x) z (each-at (λ v. Each (R v) (insert_by cmp ys x)) xs v r.2 m) (insert-among cmp ys x z (inr n))))),
    )

pub sort-back : {X : Type 0} (R : X → X → Type 0) (cmp : X → X → Ordering) → ((a b : X) → R a b → R b a) → (xs : List X) → Pairs R (sorted_by cmp xs) → Pairs R xs
sort-back R cmp back xs h = (fold-back R cmp back [] xs h).1

abbrev ApartUids : Entry → Entry → Type 0
ApartUids a b = a.uid ≡ b.uid → ⊥

-- entries of which no two of one soup have one id
pub apart-from : (es : List (ℕ × Entry)) → ((sig : ℕ) → Pairs ApartUids (chosen sig es)) → Pairs ApartIds es
apart-from [] h = tt
apart-from (x ∷ es) h = (
  each-from (ApartIds x) es (λ y m soup uid. each-at (ApartUids x.1) (chosen x.0 es) y.1 (here x.0 (eq-eqb x.0 x.0 refl) (h x.0)).0 (there y m (sym soup)) uid),
  apart-from es (λ sig. rest sig (x.0 == sig) (h sig)),
)
  where
    here : (sig : ℕ) → (x.0 == sig) ≡ true → Pairs ApartUids (map (λ (e : ℕ × Entry). e.1) (cond (x.0 == sig) (x ∷ filter (λ (e : ℕ × Entry). e.0 == sig) es) (filter (λ (e : ℕ × Entry). e.0 == sig) es)))
        → Pairs ApartUids (x.1 ∷ chosen sig es)
    here sig e k = subst (λ b. Pairs ApartUids (map (λ (e : ℕ × Entry). e.1) (cond b (x ∷ filter (λ (e : ℕ × Entry). e.0 == sig) es) (filter (λ (e : ℕ × Entry). e.0 == sig) es)))) e k

    there : (y : ℕ × Entry) → Among es y → y.0 ≡ x.0 → Among (chosen x.0 es) y.1
    there y m e = map-among (λ (e : ℕ × Entry). e.1) (filter (λ (e : ℕ × Entry). e.0 == x.0) es) y (filter-among (λ (e : ℕ × Entry). e.0 == x.0) es y m (eq-eqb y.0 x.0 e))

    rest : (sig : ℕ) (b : Bool) → Pairs ApartUids (map (λ (e : ℕ × Entry). e.1) (cond b (x ∷ filter (λ (e : ℕ × Entry). e.0 == sig) es) (filter (λ (e : ℕ × Entry). e.0 == sig) es))) → Pairs ApartUids (chosen sig es)
    rest sig true k = k.1
    rest sig false k = k

-- ---- what was read

pub record IsReading (graph_of : List ℕ → Option RawGraph) (version : ℕ) (objects : ObjectList) (blocks : ℕ) (s : Store) : Type 0 where
  pub bytes : List ℕ
  pub at_zero : object_bytes objects 0 ≡ Some bytes
  pub d : Store
  pub is_directory : whole (directory graph_of) bytes ≡ Some d
  pub keeps : keeps_version version d ≡ true
  pub rows : List EntryRow
  pub are_rows : rows_of graph_of objects ≡ Some rows
  pub es : List (ℕ × Entry)
  pub are_entries : every (map (entry_of_row graph_of objects) rows) ≡ Some es
  pub named : named_once graph_of objects rows ≡ true
  pub inside : list_all (in_a_soup graph_of d) es ≡ true
  pub good : valid blocks s ≡ true
  pub is : built graph_of d es ≡ s

checked-parts : (a b c : Bool) (s t : Store) → cond (a && b && c) (Some s) None ≡ Some t → (a ≡ true) × (b ≡ true) × (c ≡ true) × (s ≡ t)
checked-parts true true true s t h = (refl, refl, refl, some-same s t h)
checked-parts true true false s t h = cc
checked-parts true false c s t h = cc
checked-parts false b c s t h = cc

pub reading : (graph_of : List ℕ → Option RawGraph) (version : ℕ) (objects : ObjectList) (blocks : ℕ) (s : Store) → store_of graph_of version objects blocks ≡ Some s → IsReading graph_of version objects blocks s
reading graph_of version objects blocks s h = from-bytes (object_bytes objects 0) refl h
  where
    from-entries : (bytes : List ℕ) → object_bytes objects 0 ≡ Some bytes → (d : Store) → (whole (directory graph_of) bytes ≡ Some d) × (keeps_version version d ≡ true) → (rows : List EntryRow) → rows_of graph_of objects ≡ Some rows
        → (o : Option (List (ℕ × Entry))) → every (map (entry_of_row graph_of objects) rows) ≡ o → option_and_then (λ entries. assembled graph_of objects blocks d rows entries) o ≡ Some s → IsReading graph_of version objects blocks s
    from-entries bytes a d b rows c None e k = absurd (none-some s k)
    from-entries bytes a d b rows c (Some es) e k =
        let r = checked-parts (named_once graph_of objects rows) (list_all (in_a_soup graph_of d) es) (valid blocks (built graph_of d es)) (built graph_of d es) s k in
        record { bytes = bytes; at_zero = a; d = d; is_directory = b.0; keeps = b.1; rows = rows; are_rows = c; es = es; are_entries = e; named = r.0; inside = r.1; good = ap (valid blocks) (sym r.3) ∙ r.2; is = r.3 }

    from-rows : (bytes : List ℕ) → object_bytes objects 0 ≡ Some bytes → (d : Store) → (whole (directory graph_of) bytes ≡ Some d) × (keeps_version version d ≡ true) → (o : Option (List EntryRow)) → rows_of graph_of objects ≡ o
        → option_and_then (λ rows. option_and_then (λ entries. assembled graph_of objects blocks d rows entries) (every (map (entry_of_row graph_of objects) rows))) o ≡ Some s → IsReading graph_of version objects blocks s
    from-rows bytes a d b None e k = absurd (none-some s k)
    from-rows bytes a d b (Some rows) e k = from-entries bytes a d b rows e (every (map (entry_of_row graph_of objects) rows)) refl k

    from-directory : (bytes : List ℕ) → object_bytes objects 0 ≡ Some bytes → (o : Option Store) → only (keeps_version version) (whole (directory graph_of) bytes) ≡ o
        → option_and_then (λ d. option_and_then (λ rows. option_and_then (λ entries. assembled graph_of objects blocks d rows entries) (every (map (entry_of_row graph_of objects) rows))) (rows_of graph_of objects)) o ≡ Some s
        → IsReading graph_of version objects blocks s
    from-directory bytes a None e k = absurd (none-some s k)
    from-directory bytes a (Some d) e k = from-rows bytes a d (only-parts (keeps_version version) (whole (directory graph_of) bytes) d e) (rows_of graph_of objects) refl k

    from-bytes : (o : Option (List ℕ)) → object_bytes objects 0 ≡ o
        → option_and_then (λ d. option_and_then (λ rows. option_and_then (λ entries. assembled graph_of objects blocks d rows entries) (every (map (entry_of_row graph_of objects) rows))) (rows_of graph_of objects))
        (option_and_then (λ bytes. only (keeps_version version) (whole (directory graph_of) bytes)) o) ≡ Some s → IsReading graph_of version objects blocks s
    from-bytes None e k = absurd (none-some s k)
    from-bytes (Some bytes) e k = from-directory bytes e (only (keeps_version version) (whole (directory graph_of) bytes)) refl k
