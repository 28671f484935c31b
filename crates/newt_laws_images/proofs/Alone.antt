-- What a record is read as alone, and what it is read as among objects.
use Rattle.std.proofs.Common.{arith, ◌≡◌, refl, ap, sym, ◌∙◌, ℕ, ◌%◌, List, [], ◌∷◌, true, false, Bool, ◌&&◌, cond, Option, Some, None, option_and_then, option_map, length, fold, map, zip, nat_le, ◌==◌}
use Rattle.std.specs.Prelude.{bytes_eq, replicate}
use Rattle.std.specs.List.{list_all}
use Rattle.std.specs.FinMap as map
use Rattle.std.proofs.lemmas.Bool.{eq-eqb, lt-ltb, and_parts}
use Rattle.std.proofs.lemmas.List.{length-replicate}
use Rattle.newt_graph.specs.Graph.{RawGraph}
use Rattle.newt_spec_image.specs.Objects.{Objects}
use Rattle.newt_spec_graph.specs.Graph.{every, object, is_frame}
use Rattle.newt_spec_graph.specs.Limits.{within_limits}
use Rattle.newt_spec_nsof.specs.Lengths.{skeleton}
use Rattle.newt_spec_nsof.specs.Flat.{flat}
use Rattle.newt_spec_graph.proofs.Lists.{some-same, none-some}
use Rattle.newt_spec_store.specs.Cost.{skeleton_length}
use Rattle.newt_spec_store.specs.Image.{larges}
use Rattle.newt_spec_store.specs.Lies.{entry_read, record_read, is_record, stretched, may_be_large}
use Rattle.newt_spec_store.specs.Store.{Entry}
use Rattle.newt_spec_store.specs.Reading.{written}
use Rattle.newt_spec_store.specs.StoreOf.{LargeRow, EntryRow, large_object, fill, only, names_larges, with_larges, entry_row, entry_of_row}
use Rattle.newt_spec_store.specs.Valid.{valid_entry}
use Rattle.newt_laws_images.proofs.Both.{Both, every-both}
use Rattle.newt_laws_images.proofs.Filled.{AsLong, filled_with, filled-skeleton, filled-limits, filled-frame}
use Rattle.newt_laws_images.proofs.Rows.{text-same, large-parts, only-parts}

-- the graph of a row, with these bytes
abbrev pub with_rows : List LargeRow → RawGraph → List (List ℕ) → RawGraph
with_rows ls g bs = fold fill g (zip (map (λ (l : LargeRow). l.0) ls) bs)

abbrev pub zeros : List LargeRow → List (List ℕ)
zeros ls = map (λ (l : LargeRow). replicate l.2 0) ls

pub zipped : (ls : List LargeRow) → zip (map (λ (l : LargeRow). l.0) ls) (zeros ls) ≡ map (λ (l : LargeRow). (l.0, replicate l.2 0)) ls
zipped [] = refl
zipped (l ∷ ls) = ap (λ zs. (l.0, replicate l.2 0) ∷ zs) (zipped ls)

as-long : (objects : List (ℕ × List ℕ)) (ls : List LargeRow) (bs : List (List ℕ)) → Both (λ l b. large_object objects l ≡ Some b) ls bs → Both AsLong bs (zeros ls)
as-long objects [] [] h = tt
as-long objects [] (b ∷ bs) h = absurd h
as-long objects (l ∷ ls) [] h = absurd h
as-long objects (l ∷ ls) (b ∷ bs) h = ((large-parts objects l b h.0).3 ∙ sym (length-replicate l.2 0), as-long objects ls bs h.1)

may-be : (objects : List (ℕ × List ℕ)) (ls : List LargeRow) (bs : List (List ℕ)) → Both (λ l b. large_object objects l ≡ Some b) ls bs → list_all may_be_large ls ≡ true
may-be objects [] [] h = refl
may-be objects [] (b ∷ bs) h = absurd h
may-be objects (l ∷ ls) [] h = absurd h
may-be objects (l ∷ ls) (b ∷ bs) h =
    let p = large-parts objects l b h.0 in
    and-true _ _ (and-true _ _ (eq-eqb (l.1 % 2) 0 p.0) (lt-ltb 0 l.1 p.1)) (may-be objects ls bs h.1)
  where
    and-true : (a b : Bool) → a ≡ true → b ≡ true → (a && b) ≡ true
    and-true a b h k = grind (arith, h, k)

-- an entry may have the graph with bytes exactly where it may have the one with as many zeros
filled-valid : (objects : List (ℕ × List ℕ)) (row : EntryRow) (g : RawGraph) (bs : List (List ℕ)) → names_larges row g ≡ true → Both (λ l b. large_object objects l ≡ Some b) row.larges bs
    → valid_entry (record { uid = row.uid; time = row.time; graph = with_rows row.larges g bs }) ≡ valid_entry (record { uid = row.uid; time = row.time; graph = stretched row.larges g })
filled-valid objects row g bs names both = λ i. (framed i && limits i) && nat_le (shorts i) 64_000
  where
    numbers : map (λ (l : ℕ × List ℕ). l.0) (larges g) ≡ map (λ (l : LargeRow). l.0) row.larges
    numbers = text-same _ _ (and_parts (bytes_eq (map (λ (l : ℕ × List ℕ). l.0) (larges g)) (map (λ (l : LargeRow). l.0) row.larges)) (list_all (λ (l : ℕ × List ℕ). length l.1 == 0) (larges g)) names).0

    long : Both AsLong bs (zeros row.larges)
    long = as-long objects row.larges bs both

    with-bytes : filled_with g bs ≡ with_rows row.larges g bs
    with-bytes = ap {A = List ℕ} {B = RawGraph} (λ ns. fold fill g (zip ns bs)) numbers

    with-zeros : filled_with g (zeros row.larges) ≡ stretched row.larges g
    with-zeros = ap {A = List ℕ} {B = RawGraph} (λ ns. fold fill g (zip ns (zeros row.larges))) numbers ∙ ap {A = List (ℕ × List ℕ)} {B = RawGraph} (fold fill g) (zipped row.larges)

    is_framed : RawGraph → Bool
    is_framed k = is_frame (object k.nodes k.root)

    framed : is_framed (with_rows row.larges g bs) ≡ is_framed (stretched row.larges g)
    framed = ap is_framed (sym with-bytes) ∙ filled-frame g bs (zeros row.larges) long ∙ ap is_framed with-zeros

    limits : within_limits (with_rows row.larges g bs) ≡ within_limits (stretched row.larges g)
    limits = ap within_limits (sym with-bytes) ∙ filled-limits g bs (zeros row.larges) long ∙ ap within_limits with-zeros

    shorts : skeleton_length (with_rows row.larges g bs) ≡ skeleton_length (stretched row.larges g)
    shorts = ap {A = RawGraph} {B = ℕ} (λ k. length (flat k)) (ap skeleton (sym with-bytes) ∙ filled-skeleton g bs ∙ sym (filled-skeleton g (zeros row.larges)) ∙ ap skeleton with-zeros)

-- ---- the parts of a record

pub record IsAlone (graph_of : List ℕ → Option RawGraph) (bytes : List ℕ) (row : EntryRow) (g : RawGraph) : Type 0 where
  pub is_row : entry_row bytes ≡ Some row
  pub is_written : written graph_of row.text ≡ Some g
  pub is_good : is_record (row, g) ≡ true

pub alone : (graph_of : List ℕ → Option RawGraph) (bytes : List ℕ) (row : EntryRow) (g : RawGraph) → record_read graph_of bytes ≡ Some (row, g) → IsAlone graph_of bytes row g
alone graph_of bytes row g h = rows (entry_row bytes) refl (only-parts {X = EntryRow × RawGraph} is_record _ (row, g) h)
  where
    graphs : (k : EntryRow) (o : Option RawGraph) → entry_row bytes ≡ Some k → written graph_of k.text ≡ o → ◌≡◌ {A = Option (EntryRow × RawGraph)} (option_map (λ g. (k, g)) o) (Some (row, g)) → is_record (row, g) ≡ true
        → IsAlone graph_of bytes row g
    graphs k None e w s good = absurd (none-some {X = EntryRow × RawGraph} (row, g) s)
    graphs k (Some x) e w s good =
        let same = some-same {X = EntryRow × RawGraph} (k, x) (row, g) s in
        let rows : k ≡ row = ap {A = EntryRow × RawGraph} {B = EntryRow} (λ p. p.0) same in
        record { is_row = e ∙ ap Some rows; is_written = ap (λ (r : EntryRow). written graph_of r.text) (sym rows) ∙ w ∙ ap {A = EntryRow × RawGraph} {B = Option RawGraph} (λ p. Some p.1) same; is_good = good }

    rows : (o : Option EntryRow) → entry_row bytes ≡ o
        → (◌≡◌ {A = Option (EntryRow × RawGraph)} (option_and_then (λ row. option_map (λ g. (row, g)) (written graph_of row.text)) o) (Some (row, g))) × (is_record (row, g) ≡ true) → IsAlone graph_of bytes row g
    rows None e k = absurd (none-some {X = EntryRow × RawGraph} (row, g) k.0)
    rows (Some k) e s = graphs k (written graph_of k.text) e refl s.0 s.1

pub alone-back : (graph_of : List ℕ → Option RawGraph) (bytes : List ℕ) (row : EntryRow) (g : RawGraph) → IsAlone graph_of bytes row g → record_read graph_of bytes ≡ Some (row, g)
alone-back graph_of bytes row g k =
    ap (λ o. only is_record (option_and_then (λ row. option_map (λ g. (row, g)) (written graph_of row.text)) o)) k.is_row
    ∙ ap (λ o. only is_record (option_map (λ g. (row, g)) o)) k.is_written
    ∙ ap {A = Bool} {B = Option (EntryRow × RawGraph)} (λ b. cond b (Some (row, g)) None) k.is_good

record-tests : (row : EntryRow) (g : RawGraph) → is_record (row, g) ≡ true
    → (names_larges row g ≡ true) × (valid_entry (record { uid = row.uid; time = row.time; graph = stretched row.larges g }) ≡ true)
record-tests row g h =
    let e = valid_entry (record { uid = row.uid; time = row.time; graph = stretched row.larges g }) in
    let r = and_parts (names_larges row g && list_all may_be_large row.larges) e h in
    ((and_parts (names_larges row g) (list_all may_be_large row.larges) r.0).0, r.1)

-- ---- among objects

-- the entry of a row with these bytes
abbrev pub entry_with : EntryRow → RawGraph → List (List ℕ) → ℕ × Entry
entry_with row g bs = (row.soup, record { uid = row.uid; time = row.time; graph = with_rows row.larges g bs })

abbrev rest : EntryRow → RawGraph → Bool → Option (List (List ℕ)) → Option (ℕ × Entry)
rest row g b o = only (λ x. valid_entry x.1) (option_map (λ k. (row.soup, record { uid = row.uid; time = row.time; graph = k })) (cond b (option_map (with_rows row.larges g) o) None))

by-parts : (graph_of : List ℕ → Option RawGraph) (objects : Objects) (bytes : List ℕ) (row : EntryRow) (g : RawGraph) → IsAlone graph_of bytes row g
    → entry_read graph_of objects bytes ≡ rest row g true (every (map (large_object (map.entries objects)) row.larges))
by-parts graph_of objects bytes row g k =
    ap (λ o. only (λ (x : ℕ × Entry). valid_entry x.1) (option_and_then (entry_of_row graph_of (map.entries objects)) o)) k.is_row
    ∙ ap (λ o. only (λ (x : ℕ × Entry). valid_entry x.1) (option_map (λ k. (row.soup, record { uid = row.uid; time = row.time; graph = k })) (option_and_then (with_larges graph_of (map.entries objects) row) o))) k.is_written
    ∙ ap (λ b. rest row g b (every (map (large_object (map.entries objects)) row.larges))) (record-tests row g k.is_good).0

pub among : (graph_of : List ℕ → Option RawGraph) (objects : Objects) (bytes : List ℕ) (row : EntryRow) (g : RawGraph) (bs : List (List ℕ)) → record_read graph_of bytes ≡ Some (row, g)
    → every (map (large_object (map.entries objects)) row.larges) ≡ Some bs → entry_read graph_of objects bytes ≡ Some (entry_with row g bs)
among graph_of objects bytes row g bs h e =
    let k = alone graph_of bytes row g h in
    let t = record-tests row g k.is_good in
    by-parts graph_of objects bytes row g k ∙ ap (rest row g true) e
    ∙ ap {A = Bool} {B = Option (ℕ × Entry)} (λ b. cond b (Some (entry_with row g bs)) None)
    (filled-valid (map.entries objects) row g bs t.0 (every-both (large_object (map.entries objects)) row.larges bs e) ∙ t.1)

pub missing : (graph_of : List ℕ → Option RawGraph) (objects : Objects) (bytes : List ℕ) (row : EntryRow) (g : RawGraph) → record_read graph_of bytes ≡ Some (row, g)
    → every (map (large_object (map.entries objects)) row.larges) ≡ None → entry_read graph_of objects bytes ≡ None
missing graph_of objects bytes row g h e = by-parts graph_of objects bytes row g (alone graph_of bytes row g h) ∙ ap (rest row g true) e

-- an entry that is read among objects is one whose record is read alone
its-record : (graph_of : List ℕ → Option RawGraph) (objects : Objects) (bytes : List ℕ) (x : ℕ × Entry) → entry_read graph_of objects bytes ≡ Some x → (r : EntryRow × RawGraph) × (record_read graph_of bytes ≡ Some r)
its-record graph_of objects bytes x h = rows (entry_row bytes) refl h
  where
    done : (row : EntryRow) (g : RawGraph) (bs : List (List ℕ)) → entry_row bytes ≡ Some row → written graph_of row.text ≡ Some g → names_larges row g ≡ true
        → every (map (large_object (map.entries objects)) row.larges) ≡ Some bs → valid_entry (entry_with row g bs).1 ≡ true → (r : EntryRow × RawGraph) × (record_read graph_of bytes ≡ Some r)
    done row g bs e w t k v =
        let both = every-both (large_object (map.entries objects)) row.larges bs k in
        let good = and-true _ _ (and-true _ _ t (may-be (map.entries objects) row.larges bs both)) (sym (filled-valid (map.entries objects) row g bs t both) ∙ v) in
        ((row, g), alone-back graph_of bytes row g (record { is_row = e; is_written = w; is_good = good }))
      where
        and-true : (a b : Bool) → a ≡ true → b ≡ true → (a && b) ≡ true
        and-true a b h k = grind (arith, h, k)

    bytes-of : (row : EntryRow) (g : RawGraph) → entry_row bytes ≡ Some row → written graph_of row.text ≡ Some g → names_larges row g ≡ true
        → (o : Option (List (List ℕ))) → every (map (large_object (map.entries objects)) row.larges) ≡ o → rest row g true o ≡ Some x → (r : EntryRow × RawGraph) × (record_read graph_of bytes ≡ Some r)
    bytes-of row g e w t None k s = absurd (none-some x s)
    bytes-of row g e w t (Some bs) k s =
        let p = only-parts {X = ℕ × Entry} (λ y. valid_entry y.1) (Some (entry_with row g bs)) x s in
        let same : entry_with row g bs ≡ x = some-same (entry_with row g bs) x p.0 in
        done row g bs e w t k (ap {A = ℕ × Entry} {B = Bool} (λ y. valid_entry y.1) same ∙ p.1)

    tests : (row : EntryRow) (g : RawGraph) → entry_row bytes ≡ Some row → written graph_of row.text ≡ Some g
        → (b : Bool) → names_larges row g ≡ b → rest row g b (every (map (large_object (map.entries objects)) row.larges)) ≡ Some x → (r : EntryRow × RawGraph) × (record_read graph_of bytes ≡ Some r)
    tests row g e w true t s = bytes-of row g e w t (every (map (large_object (map.entries objects)) row.larges)) refl s
    tests row g e w false t s = absurd (none-some x s)

    graphs : (row : EntryRow) → entry_row bytes ≡ Some row → (o : Option RawGraph) → written graph_of row.text ≡ o
        → only (λ y. valid_entry y.1) (option_map (λ k. (row.soup, record { uid = row.uid; time = row.time; graph = k })) (option_and_then (with_larges graph_of (map.entries objects) row) o)) ≡ Some x
        → (r : EntryRow × RawGraph) × (record_read graph_of bytes ≡ Some r)
    graphs row e None w s = absurd (none-some x s)
    graphs row e (Some g) w s = tests row g e w (names_larges row g) refl s

    rows : (o : Option EntryRow) → entry_row bytes ≡ o → only (λ y. valid_entry y.1) (option_and_then (entry_of_row graph_of (map.entries objects)) o) ≡ Some x → (r : EntryRow × RawGraph) × (record_read graph_of bytes ≡ Some r)
    rows None e s = absurd (none-some x s)
    rows (Some row) e s = graphs row e (written graph_of row.text) refl s

pub bad-alone : (graph_of : List ℕ → Option RawGraph) (objects : Objects) (bytes : List ℕ) → record_read graph_of bytes ≡ None → entry_read graph_of objects bytes ≡ None
bad-alone graph_of objects bytes none = go (entry_read graph_of objects bytes) refl
  where
    go : (o : Option (ℕ × Entry)) → entry_read graph_of objects bytes ≡ o → o ≡ None
    go None e = refl
    go (Some x) e = let r = its-record graph_of objects bytes x e in absurd (none-some r.0 (sym none ∙ r.1))
