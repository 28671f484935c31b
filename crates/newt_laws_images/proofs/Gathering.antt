-- The table that is computed of pages is the table of these pages, and so are the objects.
use Rattle.std.proofs.Common.{arith, ◌≡◌, refl, ap, sym, ◌∙◌, subst, ℕ, zero, suc, ◌+◌, ◌<◌, List, [], ◌∷◌, true, false, Bool, ◌&&◌, cond, inl, inr, ◌⊎◌, Option, Some, None, option_map, option_and_then, map, find, fold, length, slice_get, get_or, ◌==◌}
use Rattle.std.specs.List.{list_all, range_with_len}
use Rattle.std.specs.Option.{unwrap_or}
use Rattle.std.specs.Ordering.{nat_cmp, eq_by_cmp}
use Rattle.std.specs.FinMap as map
use Rattle.std.proofs.lemmas.Cmp.{nat_cmp_total}
use Rattle.std.proofs.lemmas.Bool.{eqb-true, eq-eqb, and_parts, and_from, cases_eq}
use Rattle.std.proofs.lemmas.Option.{slice_get-get_or}
use Rattle.newt_graph.specs.Graph.{RawGraph}
use Rattle.newt_spec_image.specs.Objects.{Extent, Table, IsTableOf, Objects, AreObjectsOf, joined, pages_for}
use Rattle.newt_spec_image.specs.Records.{version}
use Rattle.newt_spec_image.specs.Pages.{Pages, pages, object_id, part_number, object_length}
use Rattle.newt_spec_graph.specs.Graph.{every}
use Rattle.newt_spec_graph.specs.Lists.{Among}
use Rattle.newt_spec_graph.proofs.Lists.{each-at, each-from, each-list_all, list_all-each, some-same, none-some}
use Rattle.newt_spec_store.specs.ImageStore.{page_of, extent_by, table_of, is_number, is_page_of, with_extent, objects_of, store_of_image}
use Rattle.newt_spec_store.specs.OfImage.{IsStoreOf, blocks_of}
use Rattle.newt_spec_store.specs.Store.{Store}
use Rattle.newt_spec_store.specs.StoreOf.{store_of}
use Rattle.newt_laws_images.proofs.Again.{found-test}
use Rattle.newt_laws_images.proofs.Finite.{entry-get, get-entry}
use Rattle.newt_laws_images.proofs.Both.{Both, every-both}
use Rattle.newt_laws_images.proofs.OneStore.{objects-same, first-part}

-- ---- lists

find-some : {X : Type 0} (test : X → Bool) (xs : List X) (x : X) → Among xs x → test x ≡ true → (y : X) × (find test xs ≡ Some y)
find-some test [] x m t = absurd m
find-some {X} test (y ∷ xs) x m t = go (λ n. find-some test xs x n t) (test y) refl m
  where
    differ : test y ≡ false → y ≡ x → ⊥
    differ e k = both (sym e ∙ ap test k ∙ t)
      where
        both : false ≡ true → ⊥
        both p = cc

    go : (Among xs x → (z : X) × (find test xs ≡ Some z)) → (b : Bool) → test y ≡ b → Among (y ∷ xs) x → (z : X) × (cond b (Some y) (find test xs) ≡ Some z)
    go more true e n = (y, refl)
    go more false e (inl k) = absurd (differ e k)
    go more false e (inr n) = more n

-- what each number of a range gives, in order
range-gets : (f : ℕ → Option ℕ) (a n : ℕ) (ys : List ℕ) → Both (λ k y. f k ≡ Some y) (range_with_len a n) ys → (length ys ≡ n) × ((k y : ℕ) → slice_get ys k ≡ Some y → f (a + k) ≡ Some y)
range-gets f a zero [] h = (refl, λ k y e. absurd (none-some y e))
range-gets f a zero (y ∷ ys) h = absurd h
range-gets f a (suc n) [] h = absurd h
range-gets f a (suc n) (y ∷ ys) h = let r = range-gets f (a + 1) n ys h.1 in (ap suc r.0, at r.1)
  where
    at : ((k z : ℕ) → slice_get ys k ≡ Some z → f (a + 1 + k) ≡ Some z) → (k z : ℕ) → slice_get (y ∷ ys) k ≡ Some z → f (a + k) ≡ Some z
    at more zero z e = ap f (omega arith) ∙ h.0 ∙ e
    at more (suc k) z e = ap f (omega arith) ∙ more k z e

gets-range : (f : ℕ → Option ℕ) (a : ℕ) (ys : List ℕ) → ((k : ℕ) → k < length ys → f (a + k) ≡ slice_get ys k) → every (map f (range_with_len a (length ys))) ≡ Some ys
gets-range f a [] h = refl
gets-range f a (y ∷ ys) h =
    ap (λ o. every (o ∷ map f (range_with_len (a + 1) (length ys)))) (ap f (omega arith) ∙ h 0 (omega arith))
    ∙ ap (option_map (λ zs. y ∷ zs)) (gets-range f (a + 1) ys (λ k less. ap f (omega arith) ∙ h (suc k) (omega (arith, less))))

-- ---- pages of parts

abbrev says : ℕ → ℕ → ℕ × List ℕ → Bool
says id part e = (object_id e.1 == id) && (part_number e.1 == part)

page-found : (live : Pages) (id part number : ℕ) → page_of live id part ≡ Some number → (page : List ℕ) × (map.get live number ≡ Some page) × (object_id page ≡ id) × (part_number page ≡ part)
page-found live id part number h = go (find (says id part) (map.entries live)) refl h
  where
    go : (o : Option (ℕ × List ℕ)) → find (says id part) (map.entries live) ≡ o → option_map (λ (e : ℕ × List ℕ). e.0) o ≡ Some number
        → (page : List ℕ) × (map.get live number ≡ Some page) × (object_id page ≡ id) × (part_number page ≡ part)
    go None e k = absurd (none-some number k)
    go (Some p) e k =
        let f = found-test (says id part) (map.entries live) p e in
        let t = and_parts (object_id p.1 == id) (part_number p.1 == part) f.1 in
        (p.1, ap (map.get live) (sym (some-same p.0 number k)) ∙ entry-get live p.0 p.1 f.0, eqb-true (object_id p.1) id t.0, eqb-true (part_number p.1) part t.1)

page-there : (live : Pages) (id part number : ℕ) (page : List ℕ) → map.get live number ≡ Some page → object_id page ≡ id → part_number page ≡ part → (n : ℕ) × (page_of live id part ≡ Some n)
page-there live id part number page h a b =
    let r = find-some (says id part) (map.entries live) (number, page) (get-entry live number page h) (and_from (object_id page == id) (part_number page == part) (eq-eqb (object_id page) id a) (eq-eqb (part_number page) part b)) in
    (r.0.0, ap (option_map (λ (e : ℕ × List ℕ). e.0)) r.1)

-- ---- the table that is computed

extent-parts : (live : Pages) (id size : ℕ) (x : Extent) → extent_by live id size ≡ Some x
    → (x.length ≡ size) × (length x.numbers ≡ pages_for size) × ((part number : ℕ) → slice_get x.numbers part ≡ Some number → page_of live id part ≡ Some number)
extent-parts live id size x h = go (every (map (page_of live id) (range_with_len 0 (pages_for size)))) refl h
  where
    go : (o : Option (List ℕ)) → every (map (page_of live id) (range_with_len 0 (pages_for size))) ≡ o → option_map (λ numbers. record { length = size; numbers = numbers }) o ≡ Some x
        → (x.length ≡ size) × (length x.numbers ≡ pages_for size) × ((part number : ℕ) → slice_get x.numbers part ≡ Some number → page_of live id part ≡ Some number)
    go None e k = absurd (none-some x k)
    go (Some ns) e k =
        let same : ◌≡◌ {A = Extent} (record { length = size; numbers = ns }) x = some-same {X = Extent} (record { length = size; numbers = ns }) x k in
        let r = range-gets (page_of live id) 0 (pages_for size) ns (every-both (page_of live id) (range_with_len 0 (pages_for size)) ns e) in (
          sym (ap (λ (y : Extent). y.length) same),
          ap (λ (y : Extent). length y.numbers) (sym same) ∙ r.0,
          λ part number at. ap (page_of live id) (omega arith) ∙ r.1 part number (ap (λ (y : Extent). slice_get y.numbers part) same ∙ at),
        )

-- the extents of a computed table
record HasPages (live : Pages) (id : ℕ) (x : Extent) : Type 0 where
  first : ℕ
  is_first : page_of live id 0 ≡ Some first
  whole : length x.numbers ≡ pages_for x.length
  each : (part number : ℕ) → slice_get x.numbers part ≡ Some number → page_of live id part ≡ Some number

extent-lies : (live : Pages) (id : ℕ) (x : Extent) → table_of live id ≡ Some x → HasPages live id x
extent-lies live id x h = go (page_of live id 0) refl h
  where
    go : (o : Option ℕ) → page_of live id 0 ≡ o → option_and_then (λ first. extent_by live id (object_length (unwrap_or (map.get live first) []))) o ≡ Some x → HasPages live id x
    go None e k = absurd (none-some x k)
    go (Some first) e k =
        let r = extent-parts live id (object_length (unwrap_or (map.get live first) [])) x k in
        record { first = first; is_first = e; whole = r.1 ∙ ap pages_for (sym r.0); each = r.2 }

page-of-parts : (o : Option Extent) (e : ℕ × List ℕ) → is_page_of o e ≡ true → (x : Extent) × (o ≡ Some x) × (object_length e.1 ≡ x.length) × (slice_get x.numbers (part_number e.1) ≡ Some e.0)
page-of-parts None e h = cc
page-of-parts (Some x) e h =
    let t = and_parts (object_length e.1 == x.length) (is_number e.0 (slice_get x.numbers (part_number e.1))) h in
    (x, refl, eqb-true (object_length e.1) x.length t.0, number (slice_get x.numbers (part_number e.1)) t.1)
  where
    number : (o : Option ℕ) → is_number e.0 o ≡ true → o ≡ Some e.0
    number None k = cc
    number (Some n) k = ap Some (sym (eqb-true e.0 n k))

abbrev checked : Pages → Bool
checked live = list_all (λ (e : ℕ × List ℕ). is_page_of (table_of live (object_id e.1)) e) (map.entries live)

module _ (live : Pages) (ok : checked live ≡ true) where
  its-extent : (number : ℕ) (page : List ℕ) → map.get live number ≡ Some page
      → (x : Extent) × (table_of live (object_id page) ≡ Some x) × (object_length page ≡ x.length) × (slice_get x.numbers (part_number page) ≡ Some number)
  its-extent number page h = page-of-parts (table_of live (object_id page)) (number, page)
      (each-at (λ (e : ℕ × List ℕ). is_page_of (table_of live (object_id e.1)) e ≡ true) (map.entries live) (number, page)
      (each-list_all (λ (e : ℕ × List ℕ). is_page_of (table_of live (object_id e.1)) e) (map.entries live) ok) (get-entry live number page h))

  computed-table : IsTableOf live (table_of live)
  computed-table = record {
    whole = λ id x at. (extent-lies live id x at).whole;
    parts = λ id part number x at here.
        let p = page-found live id part number ((extent-lies live id x at).each part number here) in
        let y = its-extent number p.0 p.1 in
        let same : y.0 ≡ x = some-same y.0 x (sym y.1 ∙ ap (table_of live) p.2 ∙ at) in
        (p.0, p.1, record { of_object = p.2; of_part = p.3; of_size = y.2 ∙ ap (λ (z : Extent). z.length) same });
    pages = λ number page at. let y = its-extent number page at in (y.0, y.1, y.3);
  }

  -- ---- the objects

  abbrev put : Objects → ℕ × List ℕ → Objects
  put objects e = with_extent live objects (object_id e.1) (table_of live (object_id e.1))

  put-other : (objects : Objects) (e : ℕ × List ℕ) (id : ℕ) → (object_id e.1 ≡ id → ⊥) → map.get (put objects e) id ≡ map.get objects id
  put-other objects e id n = go (table_of live (object_id e.1))
    where
      key : (a b : ℕ) → (b ≡ a → ⊥) → eq_by_cmp nat_cmp a b ≡ false
      key a b h = grind (arith, h)

      go : (o : Option Extent) → map.get (with_extent live objects (object_id e.1) o) id ≡ map.get objects id
      go None = refl
      go (Some x) = map.get-insert nat_cmp_total objects (object_id e.1) (joined live x) id ∙ ap (λ b. cond b (Some (joined live x)) (map.get objects id)) (key id (object_id e.1) n)

  put-same : (objects : Objects) (e : ℕ × List ℕ) (id : ℕ) (x : Extent) → object_id e.1 ≡ id → table_of live id ≡ Some x → map.get (put objects e) id ≡ Some (joined live x)
  put-same objects e id x same at = ap (λ o. map.get (with_extent live objects (object_id e.1) o) id) (ap (table_of live) same ∙ at)
      ∙ map.get-insert nat_cmp_total objects (object_id e.1) (joined live x) id ∙ ap (λ b. cond b (Some (joined live x)) (map.get objects id)) (key id (object_id e.1) same)
    where
      key : (a b : ℕ) → b ≡ a → eq_by_cmp nat_cmp a b ≡ true
      key a b h = grind (arith, h)

  fold-some : (es : List (ℕ × List ℕ)) (objects : Objects) (id : ℕ) (x : Extent) → table_of live id ≡ Some x → (map.get objects id ≡ Some (joined live x)) ⊎ ((e : ℕ × List ℕ) × Among es e × (object_id e.1 ≡ id))
      → map.get (fold put objects es) id ≡ Some (joined live x)
  fold-some [] objects id x at (inl h) = h
  fold-some [] objects id x at (inr h) = absurd h.1
  fold-some (e ∷ es) objects id x at h = fold-some es (put objects e) id x at (go (cases_eq (object_id e.1) id) h)
    where
      go : (object_id e.1 ≡ id) ⊎ (object_id e.1 ≡ id → ⊥) → (map.get objects id ≡ Some (joined live x)) ⊎ ((f : ℕ × List ℕ) × Among (e ∷ es) f × (object_id f.1 ≡ id))
          → (map.get (put objects e) id ≡ Some (joined live x)) ⊎ ((f : ℕ × List ℕ) × Among es f × (object_id f.1 ≡ id))
      go (inl same) k = inl (put-same objects e id x same at)
      go (inr n) (inl k) = inl (put-other objects e id n ∙ k)
      go (inr n) (inr (f, inl k, l)) = absurd (n (ap (λ (p : ℕ × List ℕ). object_id p.1) k ∙ l))
      go (inr n) (inr (f, inr m, l)) = inr (f, m, l)

  fold-none : (es : List (ℕ × List ℕ)) (objects : Objects) (id : ℕ) → table_of live id ≡ None → map.get objects id ≡ None → map.get (fold put objects es) id ≡ None
  fold-none [] objects id at h = h
  fold-none (e ∷ es) objects id at h = fold-none es (put objects e) id at (go (cases_eq (object_id e.1) id))
    where
      go : (object_id e.1 ≡ id) ⊎ (object_id e.1 ≡ id → ⊥) → map.get (put objects e) id ≡ None
      go (inl same) = ap (λ o. map.get (with_extent live objects (object_id e.1) o) id) (ap (table_of live) same ∙ at) ∙ h
      go (inr n) = put-other objects e id n ∙ h

  computed-objects : AreObjectsOf live (fold put map.empty (map.entries live))
  computed-objects = record { table = table_of live; is_table = computed-table; each = λ id. go id (table_of live id) refl }
    where
      go : (id : ℕ) (o : Option Extent) → table_of live id ≡ o → map.get (fold put map.empty (map.entries live)) id ≡ option_map (joined live) (table_of live id)
      go id None e = fold-none (map.entries live) map.empty id e (map.get-empty nat_cmp id) ∙ ap (option_map (joined live)) (sym e)
      go id (Some x) e =
          let l = extent-lies live id x e in
          let p = page-found live id 0 l.first l.is_first in
          fold-some (map.entries live) map.empty id x e (inr ((l.first, p.0), get-entry live l.first p.0 p.1, p.2)) ∙ ap (option_map (joined live)) (sym e)

pub objects-sound : (live : Pages) (objects : Objects) → objects_of live ≡ Some objects → AreObjectsOf live objects
objects-sound live objects h = go (checked live) refl h
  where
    go : (b : Bool) → checked live ≡ b
        → cond b (Some (fold (λ objects (e : ℕ × List ℕ). with_extent live objects (object_id e.1) (table_of live (object_id e.1))) map.empty (map.entries live))) None ≡ Some objects → AreObjectsOf live objects
    go true ok k = subst (AreObjectsOf live) (some-same _ objects k) (computed-objects live ok)
    go false ok k = absurd (none-some objects k)

-- ---- the table of pages is the one that is computed

module _ (live : Pages) (table : Table) (is : IsTableOf live table) where
  pages-agree : (id part : ℕ) → page_of live id part ≡ option_and_then (λ (x : Extent). slice_get x.numbers part) (table id)
  pages-agree id part = found (page_of live id part) refl
    where
      missing : (o : Option Extent) → table id ≡ o → page_of live id part ≡ None → None ≡ option_and_then (λ (x : Extent). slice_get x.numbers part) o
      missing None e k = refl
      missing (Some x) e k = at (slice_get x.numbers part) refl
        where
          at : (o : Option ℕ) → slice_get x.numbers part ≡ o → None ≡ slice_get x.numbers part
          at None h = sym h
          at (Some n) h =
              let p = is.parts id part n x e h in
              let r = page-there live id part n p.0 p.1 p.2.of_object p.2.of_part in
              absurd (none-some r.0 (sym k ∙ r.1))

      found : (o : Option ℕ) → page_of live id part ≡ o → page_of live id part ≡ option_and_then (λ (x : Extent). slice_get x.numbers part) (table id)
      found None e = e ∙ missing (table id) refl e
      found (Some n) e =
          let p = page-found live id part n e in
          let x = is.pages n p.0 p.1 in
          e ∙ sym (ap (option_and_then (λ (x : Extent). slice_get x.numbers part)) (ap table (sym p.2) ∙ x.1) ∙ ap (slice_get x.0.numbers) (sym p.3) ∙ x.2)

  tables-are : (id : ℕ) → table_of live id ≡ table id
  tables-are id = go (table id) refl
    where
      go : (o : Option Extent) → table id ≡ o → table_of live id ≡ table id
      go None e = ap (option_and_then (λ first. extent_by live id (object_length (unwrap_or (map.get live first) [])))) (pages-agree id 0 ∙ ap (option_and_then (λ (x : Extent). slice_get x.numbers 0)) e) ∙ sym e
      go (Some x) e =
          let least : 0 < length x.numbers = first-part live table is id x e in
          let first : ℕ = get_or x.numbers 0 0 in
          let here : slice_get x.numbers 0 ≡ Some first = slice_get-get_or x.numbers 0 0 least in
          let p = is.parts id 0 first x e here in
          let size : object_length (unwrap_or (map.get live first) []) ≡ x.length = ap (λ o. object_length (unwrap_or o [])) p.1 ∙ p.2.of_size in
          let agree = λ (part : ℕ). pages-agree id part ∙ ap (option_and_then (λ (x : Extent). slice_get x.numbers part)) e in
          let long : length x.numbers ≡ pages_for x.length = is.whole id x e in
          ap (option_and_then (λ first. extent_by live id (object_length (unwrap_or (map.get live first) [])))) (agree 0 ∙ here)
          ∙ ap (extent_by live id) size
          ∙ ap (λ n. option_map (λ numbers. record { length = x.length; numbers = numbers }) (every (map (page_of live id) (range_with_len 0 n)))) (sym long)
          ∙ ap (option_map (λ numbers. record { length = x.length; numbers = numbers })) (gets-range (page_of live id) 0 x.numbers (λ k _. ap (page_of live id) (omega arith) ∙ agree k))
          ∙ sym e

  pages-pass : checked live ≡ true
  pages-pass = list_all-each (λ (e : ℕ × List ℕ). is_page_of (table_of live (object_id e.1)) e) (map.entries live) (each-from _ (map.entries live) (λ e m.
      let at = entry-get live e.0 e.1 m in
      let x = is.pages e.0 e.1 at in
      let p = is.parts (object_id e.1) (part_number e.1) e.0 x.0 x.1 x.2 in
      let size : object_length e.1 ≡ x.0.length = ap object_length (some-same e.1 p.0 (sym at ∙ p.1)) ∙ p.2.of_size in
      ap (λ o. is_page_of o e) (tables-are (object_id e.1) ∙ x.1)
      ∙ and_from (object_length e.1 == x.0.length) (is_number e.0 (slice_get x.0.numbers (part_number e.1))) (eq-eqb (object_length e.1) x.0.length size)
      (ap (is_number e.0) x.2 ∙ eq-eqb e.0 e.0 refl)))

pub objects-complete : (live : Pages) (objects : Objects) → AreObjectsOf live objects → objects_of live ≡ Some objects
objects-complete live objects are =
    let ok = pages-pass live are.table are.is_table in
    ap (λ b. cond b (Some (fold (λ objects (e : ℕ × List ℕ). with_extent live objects (object_id e.1) (table_of live (object_id e.1))) map.empty (map.entries live))) None) ok
    ∙ ap Some (objects-same live _ objects (computed-objects live ok) are)

-- ---- the store

pub image-sound : (graph_of : List ℕ → Option RawGraph) (image : List ℕ) (s : Store) → store_of_image graph_of image ≡ Some s → IsStoreOf graph_of image s
image-sound graph_of image s h = from-pages (pages image) refl h
  where
    from-objects : (live : Pages) → pages image ≡ Some live → (o : Option Objects) → objects_of live ≡ o
        → option_and_then (λ objects. store_of graph_of (version image) (map.entries objects) (blocks_of image)) o ≡ Some s → IsStoreOf graph_of image s
    from-objects live e None k p = absurd (none-some s p)
    from-objects live e (Some objects) k p = record { live = live; has_pages = e; objects = objects; has_objects = objects-sound live objects k; reads = p }

    from-pages : (o : Option Pages) → pages image ≡ o → option_and_then (λ live. option_and_then (λ objects. store_of graph_of (version image) (map.entries objects) (blocks_of image)) (objects_of live)) o ≡ Some s
        → IsStoreOf graph_of image s
    from-pages None e k = absurd (none-some s k)
    from-pages (Some live) e k = from-objects live e (objects_of live) refl k

pub image-complete : (graph_of : List ℕ → Option RawGraph) (image : List ℕ) (s : Store) → IsStoreOf graph_of image s → store_of_image graph_of image ≡ Some s
image-complete graph_of image s is =
    ap (option_and_then (λ live. option_and_then (λ objects. store_of graph_of (version image) (map.entries objects) (blocks_of image)) (objects_of live))) is.has_pages
    ∙ ap (option_and_then (λ (objects : Objects). store_of graph_of (version image) (map.entries objects) (blocks_of image))) (objects-complete is.live is.objects is.has_objects)
    ∙ is.reads

pub image-by-objects : (graph_of : List ℕ → Option RawGraph) (image : List ℕ) (live : Pages) (objects : Objects) → pages image ≡ Some live → AreObjectsOf live objects
    → store_of_image graph_of image ≡ store_of graph_of (version image) (map.entries objects) (blocks_of image)
image-by-objects graph_of image live objects has are =
    ap (option_and_then (λ live. option_and_then (λ objects. store_of graph_of (version image) (map.entries objects) (blocks_of image)) (objects_of live))) has
    ∙ ap (option_and_then (λ (objects : Objects). store_of graph_of (version image) (map.entries objects) (blocks_of image))) (objects-complete live objects are)

pub image-no-pages : (graph_of : List ℕ → Option RawGraph) (image : List ℕ) → pages image ≡ None → store_of_image graph_of image ≡ None
image-no-pages graph_of image none = ap (option_and_then (λ live. option_and_then (λ objects. store_of graph_of (version image) (map.entries objects) (blocks_of image)) (objects_of live))) none

pub image-no-table : (graph_of : List ℕ → Option RawGraph) (image : List ℕ) (live : Pages) → pages image ≡ Some live → ((table : Table) → IsTableOf live table → ⊥) → store_of_image graph_of image ≡ None
image-no-table graph_of image live has none =
    ap (option_and_then (λ live. option_and_then (λ objects. store_of graph_of (version image) (map.entries objects) (blocks_of image)) (objects_of live))) has
    ∙ go (objects_of live) refl
  where
    go : (o : Option Objects) → objects_of live ≡ o → option_and_then (λ (objects : Objects). store_of graph_of (version image) (map.entries objects) (blocks_of image)) o ≡ None
    go None e = refl
    go (Some objects) e = let are = objects-sound live objects e in absurd (none are.table are.is_table)
