-- What the row of a record and the entry that it is read as have to do with one another.
use Rattle.std.proofs.Common.{arith, ◌≡◌, refl, ap, sym, ◌∙◌, subst, ℕ, suc, ◌%◌, ◌<◌, List, [], ◌∷◌, ◌++◌, true, false, Bool, ◌&&◌, cond, Option, Some, None, option_and_then, option_map, length, flat_map, fold, map, zip, nat_lt, ◌==◌}
use Rattle.std.specs.List.{list_all}
use Rattle.std.specs.Prelude.{bytes_eq}
use Rattle.std.specs.FinMap as map
use Rattle.std.proofs.lemmas.Bool.{eqb-true, and_parts, ltb-true}
use Rattle.newt_graph.specs.Graph.{RawGraph}
use Rattle.newt_spec_image.specs.Objects.{Objects as Texts}
use Rattle.newt_spec_graph.specs.Graph.{every}
use Rattle.newt_spec_graph.specs.Lists.{Each}
use Rattle.newt_spec_nsof.specs.Flat.{flat}
use Rattle.newt_spec_nsof.specs.Lengths.{skeleton}
use Rattle.newt_spec_graph.proofs.Lists.{some-same, none-some}
use Rattle.newt_spec_store.specs.Store.{Entry}
use Rattle.newt_base.specs.Text.{be16, be32}
use Rattle.newt_spec_store.specs.Image.{ObjectList, larges, entry_bytes, large_row as large_row_bytes}
use Rattle.newt_spec_store.specs.StoreOf.{LargeRow, EntryRow, only, object_bytes, large_object, fill, names_larges, with_larges, entry_row, entry_of_row}
use Rattle.newt_spec_store.specs.Laid.{Named, row_of_large, row_of, IsThere}
use Rattle.newt_spec_store.specs.Lies.{entry_read}
use Rattle.newt_spec_store.specs.Reading.{written}
use Rattle.newt_spec_store.specs.Valid.{valid_entry}
use Rattle.newt_laws_images.proofs.Both.{Both, every-both}
use Rattle.newt_laws_images.proofs.Filled.{filled_with, filled-skeleton, filled-larges, own-skeleton}
use Rattle.newt_laws_images.proofs.Records.{entry-back, map-length}
pub use Rattle.newt_laws_images.proofs.Texts.{text-same}
use Rattle.newt_laws_images.proofs.Texts.{written-parts}
use Rattle.newt_laws_images.proofs.Spelt.{Small, row_bytes, large_bytes, record-spelt}

-- ---- large binaries

pub large-parts : (objects : ObjectList) (l : LargeRow) (b : List ℕ) → large_object objects l ≡ Some b → (l.1 % 2 ≡ 0) × (0 < l.1) × (object_bytes objects l.1 ≡ Some b) × (length b ≡ l.2)
large-parts objects l b h = go (object_bytes objects l.1) refl h
  where
    test : (t : Bool) (x : List ℕ) → ((l.1 % 2 == 0) && nat_lt 0 l.1 && (length x == l.2)) ≡ t → object_bytes objects l.1 ≡ Some x → cond t (Some x) None ≡ Some b
        → (l.1 % 2 ≡ 0) × (0 < l.1) × (object_bytes objects l.1 ≡ Some b) × (length b ≡ l.2)
    test true x t e k =
        let u = and_parts ((l.1 % 2 == 0) && nat_lt 0 l.1) (length x == l.2) t in
        let v = and_parts (l.1 % 2 == 0) (nat_lt 0 l.1) u.0 in
        let same = some-same x b k in
        (eqb-true (l.1 % 2) 0 v.0, ltb-true 0 l.1 v.1, e ∙ k, ap length (sym same) ∙ eqb-true (length x) l.2 u.1)
    test false x t e k = absurd (none-some b k)

    go : (o : Option (List ℕ)) → object_bytes objects l.1 ≡ o → option_and_then (λ x. cond ((l.1 % 2 == 0) && nat_lt 0 l.1 && (length x == l.2)) (Some x) None) o ≡ Some b
        → (l.1 % 2 ≡ 0) × (0 < l.1) × (object_bytes objects l.1 ≡ Some b) × (length b ≡ l.2)
    go None e k = absurd (none-some b k)
    go (Some x) e k = test _ x refl e k

abbrev nodes_of : List LargeRow → List ℕ
nodes_of ls = map (λ (l : LargeRow). l.0) ls

-- the ids of the objects that rows name
abbrev pub ids_of : List LargeRow → List ℕ
ids_of ls = map (λ (l : LargeRow). l.1) ls

abbrev IsObject : ObjectList → LargeRow → List ℕ → Type 0
IsObject objects l b = large_object objects l ≡ Some b

rows-are : (objects : ObjectList) (ls : List LargeRow) (bs : List (List ℕ)) → Both (IsObject objects) ls bs → ls ≡ map row_of_large (zip (zip (nodes_of ls) bs) (ids_of ls))
rows-are objects [] [] h = refl
rows-are objects [] (b ∷ bs) h = absurd h
rows-are objects (l ∷ ls) [] h = absurd h
rows-are objects (l ∷ ls) (b ∷ bs) h = let p = large-parts objects l b h.0 in λ i. (l.0, l.1, sym p.3 i) ∷ rows-are objects ls bs h.1 i

rows-there : (objects : ObjectList) (ls : List LargeRow) (bs : List (List ℕ)) → Both (IsObject objects) ls bs → Each (IsThere objects) (zip (zip (nodes_of ls) bs) (ids_of ls))
rows-there objects [] [] h = tt
rows-there objects [] (b ∷ bs) h = absurd h
rows-there objects (l ∷ ls) [] h = absurd h
rows-there objects (l ∷ ls) (b ∷ bs) h = let p = large-parts objects l b h.0 in ((p.0, p.1, p.2), rows-there objects ls bs h.1)

rows-long : (objects : ObjectList) (ls : List LargeRow) (bs : List (List ℕ)) → Both (IsObject objects) ls bs → length (nodes_of ls) ≡ length bs
rows-long objects [] [] h = refl
rows-long objects [] (b ∷ bs) h = absurd h
rows-long objects (l ∷ ls) [] h = absurd h
rows-long objects (l ∷ ls) (b ∷ bs) h = ap suc (rows-long objects ls bs h.1)

zip-long : (ns : List ℕ) (bs : List (List ℕ)) → length ns ≡ length bs → length (zip ns bs) ≡ length ns
zip-long [] bs h = refl
zip-long (n ∷ ns) [] h = absurd (omega (arith, h))
zip-long (n ∷ ns) (b ∷ bs) h = grind (arith, zip-long ns bs (omega (arith, h)))

-- What a row has to do with its entry, whose large binaries have these objects.
pub record IsRowOf (graph_of : List ℕ → Option RawGraph) (objects : ObjectList) (row : EntryRow) (sig : ℕ) (e : Entry) : Type 0 where
  pub of_soup : row.soup ≡ sig
  pub of_uid : row.uid ≡ e.uid
  pub of_time : row.time ≡ e.time
  pub of_larges : row.larges ≡ map row_of_large (zip (larges e.graph) (ids_of row.larges))
  pub each_named : length (larges e.graph) ≡ length (ids_of row.larges)
  pub there : Each (IsThere objects) (zip (larges e.graph) (ids_of row.larges))
  pub text : row.text ≡ flat (skeleton e.graph)
  pub reads : graph_of (flat (skeleton e.graph)) ≡ Some (skeleton e.graph)

-- the same of a graph
record IsFilled (objects : ObjectList) (row : EntryRow) (g k : RawGraph) : Type 0 where
  of_larges : row.larges ≡ map row_of_large (zip (larges k) (ids_of row.larges))
  each_named : length (larges k) ≡ length (ids_of row.larges)
  there : Each (IsThere objects) (zip (larges k) (ids_of row.larges))
  skeleton_is : skeleton k ≡ g

is-filled : (graph_of : List ℕ → Option RawGraph) (objects : ObjectList) (row : EntryRow) (g k : RawGraph) → with_larges graph_of objects row g ≡ Some k → IsFilled objects row g k
is-filled graph_of objects row g k h = test (names_larges row g) refl h
  where
    done : names_larges row g ≡ true → (bs : List (List ℕ)) → Both (IsObject objects) row.larges bs → fold fill g (zip (nodes_of row.larges) bs) ≡ k → IsFilled objects row g k
    done t bs both e = record {
      of_larges = rows-are objects row.larges bs both ∙ ap {A = List (ℕ × List ℕ)} (λ ls. map row_of_large (zip ls (ids_of row.larges))) (sym ls);
      each_named = ap length ls ∙ zip-long (nodes_of row.larges) bs long ∙ map-length (λ (l : LargeRow). l.0) row.larges ∙ sym (map-length (λ (l : LargeRow). l.1) row.larges);
      there = subst (λ (ls : List (ℕ × List ℕ)). Each (IsThere objects) (zip ls (ids_of row.larges))) (sym ls) (rows-there objects row.larges bs both);
      skeleton_is = ap skeleton (sym is) ∙ filled-skeleton g bs ∙ own-skeleton g parts.1;
    }
      where
        parts : (bytes_eq (map (λ (l : ℕ × List ℕ). l.0) (larges g)) (nodes_of row.larges) ≡ true) × (list_all (λ (l : ℕ × List ℕ). length l.1 == 0) (larges g) ≡ true)
        parts = and_parts (bytes_eq (map (λ (l : ℕ × List ℕ). l.0) (larges g)) (nodes_of row.larges)) (list_all (λ (l : ℕ × List ℕ). length l.1 == 0) (larges g)) t

        numbers : map (λ (l : ℕ × List ℕ). l.0) (larges g) ≡ nodes_of row.larges
        numbers = text-same _ _ parts.0

        long : length (nodes_of row.larges) ≡ length bs
        long = rows-long objects row.larges bs both

        is : filled_with g bs ≡ k
        is = ap {A = List ℕ} {B = RawGraph} (λ ns. fold fill g (zip ns bs)) numbers ∙ e

        ls : larges k ≡ zip (nodes_of row.larges) bs
        ls = ap larges (sym is) ∙ filled-larges g bs (sym (map-length (λ (l : ℕ × List ℕ). l.0) (larges g)) ∙ ap length numbers ∙ long) ∙ ap {A = List ℕ} (λ ns. zip ns bs) numbers

    bytes : names_larges row g ≡ true → (o : Option (List (List ℕ))) → every (map (large_object objects) row.larges) ≡ o → option_map (λ bs. fold fill g (zip (nodes_of row.larges) bs)) o ≡ Some k → IsFilled objects row g k
    bytes t None w e = absurd (none-some k e)
    bytes t (Some bs) w e = done t bs (every-both (large_object objects) row.larges bs w) (some-same _ k e)

    test : (b : Bool) → names_larges row g ≡ b → cond b (option_map (λ bs. fold fill g (zip (nodes_of row.larges) bs)) (every (map (large_object objects) row.larges))) None ≡ Some k → IsFilled objects row g k
    test true t e = bytes t (every (map (large_object objects) row.larges)) refl e
    test false t e = absurd (none-some k e)

pair-parts : (a b : ℕ) (x y : Entry) → ◌≡◌ {A = Option (ℕ × Entry)} (Some (a, x)) (Some (b, y)) → (a ≡ b) × (x ≡ y)
pair-parts a b x y h = let k = some-same {X = ℕ × Entry} (a, x) (b, y) h in (ap {A = ℕ × Entry} (λ p. p.0) k, ap {A = ℕ × Entry} (λ p. p.1) k)

pub row-of : (graph_of : List ℕ → Option RawGraph) (objects : ObjectList) (row : EntryRow) (sig : ℕ) (e : Entry) → entry_of_row graph_of objects row ≡ Some (sig, e) → IsRowOf graph_of objects row sig e
row-of graph_of objects row sig e h = text (written graph_of row.text) refl h
  where
    done : (g k : RawGraph) → written graph_of row.text ≡ Some g → with_larges graph_of objects row g ≡ Some k
        → ◌≡◌ {A = Option (ℕ × Entry)} (Some (row.soup, record { uid = row.uid; time = row.time; graph = k })) (Some (sig, e)) → IsRowOf graph_of objects row sig e
    done g k w l s =
        let p = pair-parts row.soup sig (record { uid = row.uid; time = row.time; graph = k }) e s in
        let is : k ≡ e.graph = ap (λ (v : Entry). v.graph) p.1 in
        let f = subst (IsFilled objects row g) is (is-filled graph_of objects row g k l) in
        let r = written-parts graph_of row.text g w in
        let text : row.text ≡ flat (skeleton e.graph) = sym r.1 ∙ ap flat (sym f.skeleton_is) in
        record {
          of_soup = p.0;
          of_uid = ap (λ (v : Entry). v.uid) p.1;
          of_time = ap (λ (v : Entry). v.time) p.1;
          of_larges = f.of_larges;
          each_named = f.each_named;
          there = f.there;
          text = text;
          reads = ap graph_of (sym text) ∙ r.0 ∙ ap Some (sym f.skeleton_is);
        }

    filled : (g : RawGraph) (o : Option RawGraph) → written graph_of row.text ≡ Some g → with_larges graph_of objects row g ≡ o
        → ◌≡◌ {A = Option (ℕ × Entry)} (option_map (λ k. (row.soup, record { uid = row.uid; time = row.time; graph = k })) o) (Some (sig, e)) → IsRowOf graph_of objects row sig e
    filled g None w l s = absurd (none-some {X = ℕ × Entry} (sig, e) s)
    filled g (Some k) w l s = done g k w l s

    text : (o : Option RawGraph) → written graph_of row.text ≡ o
        → ◌≡◌ {A = Option (ℕ × Entry)} (option_map (λ k. (row.soup, record { uid = row.uid; time = row.time; graph = k })) (option_and_then (with_larges graph_of objects row) o)) (Some (sig, e)) → IsRowOf graph_of objects row sig e
    text None w s = absurd (none-some {X = ℕ × Entry} (sig, e) s)
    text (Some g) w s = filled g (with_larges graph_of objects row g) w refl s

-- a row of an entry is the one that is written
pub is-row : (graph_of : List ℕ → Option RawGraph) (objects : ObjectList) (row : EntryRow) (sig : ℕ) (e : Entry) → IsRowOf graph_of objects row sig e → row ≡ row_of sig e (ids_of row.larges)
is-row graph_of objects row sig e p = λ i. record { soup = p.of_soup i; uid = p.of_uid i; time = p.of_time i; text = p.text i; larges = p.of_larges i }

pub row-back : (graph_of : List ℕ → Option RawGraph) (objects : ObjectList) (row : EntryRow) (sig : ℕ) (e : Entry) → IsRowOf graph_of objects row sig e → entry_of_row graph_of objects row ≡ Some (sig, e)
row-back graph_of objects row sig e p = ap (entry_of_row graph_of objects) (is-row graph_of objects row sig e p)
    ∙ entry-back graph_of objects sig e (ids_of row.larges) p.reads p.each_named p.there

-- ---- records

-- what a record is read as among objects
pub record ReadAs (graph_of : List ℕ → Option RawGraph) (objects : Texts) (bytes : List ℕ) (sig : ℕ) (e : Entry) : Type 0 where
  pub row : EntryRow
  pub is_row : entry_row bytes ≡ Some row
  pub of_row : IsRowOf graph_of (map.entries objects) row sig e
  pub is_valid : valid_entry e ≡ true

pub only-parts : {X : Type 0} (test : X → Bool) (o : Option X) (x : X) → only test o ≡ Some x → (o ≡ Some x) × (test x ≡ true)
only-parts test None x h = absurd (none-some x h)
only-parts {X} test (Some y) x h = go (test y) refl h
  where
    go : (b : Bool) → test y ≡ b → cond b (Some y) None ≡ Some x → (Some y ≡ Some x) × (test x ≡ true)
    go true e k = (k, ap test (sym (some-same y x k)) ∙ e)
    go false e k = absurd (none-some x k)

pub read-as : (graph_of : List ℕ → Option RawGraph) (objects : Texts) (bytes : List ℕ) (sig : ℕ) (e : Entry) → entry_read graph_of objects bytes ≡ Some (sig, e) → ReadAs graph_of objects bytes sig e
read-as graph_of objects bytes sig e h = go (entry_row bytes) refl (only-parts {X = ℕ × Entry} (λ x. valid_entry x.1) _ (sig, e) h)
  where
    go : (o : Option EntryRow) → entry_row bytes ≡ o → (option_and_then (entry_of_row graph_of (map.entries objects)) o ≡ Some (sig, e)) × (valid_entry e ≡ true) → ReadAs graph_of objects bytes sig e
    go None is k = absurd (none-some {X = ℕ × Entry} (sig, e) k.0)
    go (Some row) is k = record { row = row; is_row = is; of_row = row-of graph_of (map.entries objects) row sig e k.0; is_valid = k.1 }

-- a record that is read so, by the reader of one record
pub as-read : (graph_of : List ℕ → Option RawGraph) (objects : Texts) (bytes : List ℕ) (sig : ℕ) (e : Entry) → ReadAs graph_of objects bytes sig e → entry_read graph_of objects bytes ≡ Some (sig, e)
as-read graph_of objects bytes sig e r =
    ap (λ o. only (λ (x : ℕ × Entry). valid_entry x.1) (option_and_then (entry_of_row graph_of (map.entries objects)) o)) r.is_row
    ∙ ap (only (λ (x : ℕ × Entry). valid_entry x.1)) (row-back graph_of (map.entries objects) r.row sig e r.of_row)
    ∙ ap {A = Bool} {B = Option (ℕ × Entry)} (λ b. cond b (Some (sig, e)) None) r.is_valid

-- one record is read as one entry
pub read-same : (graph_of : List ℕ → Option RawGraph) (objects : Texts) (bytes : List ℕ) (a b : ℕ) (x y : Entry) → ReadAs graph_of objects bytes a x → ReadAs graph_of objects bytes b y → ◌≡◌ {A = ℕ × Entry} (a, x) (b, y)
read-same graph_of objects bytes a b x y r s = some-same {X = ℕ × Entry} (a, x) (b, y) (sym (as-read graph_of objects bytes a x r) ∙ as-read graph_of objects bytes b y s)

same-bytes : (zs : List Named) → flat_map large_bytes (map row_of_large zs) ≡ flat_map large_row_bytes zs
same-bytes [] = refl
same-bytes (z ∷ zs) = ap (λ bs. large_row_bytes z ++ bs) (same-bytes zs)

zip-count : (ls : List (ℕ × List ℕ)) (ids : List ℕ) → length ls ≡ length ids → length (map row_of_large (zip ls ids)) ≡ length ids
zip-count [] [] h = refl
zip-count [] (i ∷ ids) h = absurd (omega (arith, h))
zip-count (l ∷ ls) [] h = absurd (omega (arith, h))
zip-count (l ∷ ls) (i ∷ ids) h = grind (arith, zip-count ls ids (omega (arith, h)))

-- bytes that are read as an entry are its record's, whose minute and whose ids of objects fit in four bytes
pub bytes-are : (graph_of : List ℕ → Option RawGraph) (objects : Texts) (bytes : List ℕ) (sig : ℕ) (e : Entry) → Small bytes → (r : ReadAs graph_of objects bytes sig e)
    → (bytes ≡ entry_bytes sig e (ids_of r.row.larges)) × (e.time < 4294967296) × Each (λ (l : LargeRow). l.1 < 4294967296) r.row.larges
bytes-are graph_of objects bytes sig e small r =
    let spelt = record-spelt bytes r.row small r.is_row in
    let ids = ids_of r.row.larges in
    let zs = zip (larges e.graph) ids in (
      spelt.0 ∙ ap row_bytes (is-row graph_of (map.entries objects) r.row sig e r.of_row)
          ∙ (λ i. be16 sig ++ be16 (zip-count (larges e.graph) ids r.of_row.each_named i) ++ be32 e.uid ++ be32 e.time ++ flat (skeleton e.graph) ++ same-bytes zs i),
      subst (λ n. n < 4294967296) r.of_row.of_time spelt.1,
      spelt.2,
    )
