-- An entry that lies in objects is read from its record and its large binaries.
use Rattle.std.proofs.Common.{arith, ◌≡◌, refl, ap, sym, ◌∙◌, subst, ℕ, suc, ◌+◌, ◌-◌, ◌*◌, ◌<◌, ◌≤◌, List, [], ◌∷◌, ◌++◌, length, take, drop, get_or, zip, sum_by, map as map_list, Some, append_assoc}
use Rattle.std.specs.FinMap as map
use Rattle.std.specs.List.{flat_map, sum}
use Rattle.std.proofs.lemmas.List.{append-nil, map-append}
use Rattle.std.proofs.lemmas.List.Sums.{sum_by-cons, sum_by-append}
use Rattle.std.proofs.lemmas.Simd.{map-map}
use Rattle.newt_graph.specs.declared.node.Node.{Node}
use Rattle.newt_graph.specs.declared.node.Node.TheVariants.{Large}
use Rattle.newt_host.specs.Moments.{Moment, image}
use Rattle.newt_host.specs.Outside.{Outside, Spends}
use Rattle.newt_host.proofs.Outside.{Spends-append, Spends-widen}
use Rattle.newt_spec_image.specs.Objects.{pages_for, Objects}
use Rattle.newt_pagebook.proofs.Tests.{some_inj}
use Rattle.newt_objects.specs.Changing.{HoldsObjects}
use Rattle.newt_spec_graph.specs.Graph.{every}
use Rattle.newt_spec_graph.specs.Lists.{Each}
use Rattle.newt_spec_graph.proofs.Lists.{each-more}
use Rattle.newt_spec_store.specs.Cost.{entry_pages, large_length, large_lengths, skeleton_length}
use Rattle.newt_spec_store.specs.Image.{entry_bytes, larges}
use Rattle.newt_spec_store.specs.Laid.{Named, row_of, row_of_large, IsThere}
use Rattle.newt_spec_store.specs.Lies.{HasLarge, record_read}
use Rattle.newt_spec_store.specs.Store.{Entry}
use Rattle.newt_spec_store.specs.StoreOf.{LargeRow, EntryRow as PlainRow, large_object}
use Rattle.newt_laws_images.proofs.Alone.{alone, among}
use Rattle.newt_laws_images.proofs.Finite.{object-get}
use Rattle.newt_laws_images.proofs.Records.{larges_from, record-back, every-back, entry-length}
use Rattle.newt_entries.specs.declared.row.EntryRow.{EntryRow}
use Rattle.newt_entries.specs.declared.row.LargeAt.{LargeAt}
use Rattle.newt_nsof_flat.specs.Stream.{stream_graph}
use Rattle.newt_entries.specs.Entry.{row_at, said, filled}
use Rattle.newt_entries.proofs.Steps.{rest-is}
use Rattle.newt_store_catalog.specs.Reading.{IsLaidAt, HaveBytes}

-- ---- the row that is read

-- the bytes of an entry's large binaries, in order
abbrev pub its_bytes : Entry → List ℕ → List (List ℕ)
its_bytes e ids = map_list (λ (n : Named). n.0.1) (zip (larges e.graph) ids)

module _ (texts : Objects) (id sig : ℕ) (e : Entry) (ids : List ℕ) (laid : IsLaidAt texts id sig e ids) (row : EntryRow) (read : record_read stream_graph (entry_bytes sig e ids) ≡ Some (said row)) where
  plain-is : (said row).0 ≡ row_of sig e ids
  plain-is = some_inj {A = PlainRow} (said row).0 (row_of sig e ids) (sym (alone stream_graph (entry_bytes sig e ids) (said row).0 row.skeleton read).is_row ∙ record-back sig e ids laid.fits)

  pub rows-are : map_list row_at row.larges ≡ map_list row_of_large (zip (larges e.graph) ids)
  rows-are = ap (λ (r : PlainRow). r.larges) plain-is

  pub have-bytes : HaveBytes texts row.larges (its_bytes e ids)
  have-bytes =
      sym (map-map (λ (r : LargeRow). map.get texts r.1) row_at row.larges) ∙ ap (map_list (λ (r : LargeRow). map.get texts r.1)) rows-are ∙ go (zip (larges e.graph) ids) laid.larges_are.there
    where
      go : (ls : List Named) → Each (HasLarge texts) ls → map_list (λ (r : LargeRow). map.get texts r.1) (map_list row_of_large ls) ≡ map_list (λ (b : List ℕ). Some b) (map_list (λ (n : Named). n.0.1) ls)
      go [] h = refl
      go (n ∷ ls) h = λ i. h.0.3 i ∷ go ls h.1 i

  -- the entry is the row's, with these bytes
  pub entry-is : ◌≡◌ {A = Entry} (record { uid = row.uid; time = row.time; graph = filled (map_list row_at row.larges) row.skeleton (its_bytes e ids) }) e
  entry-is =
      let found = among stream_graph texts (entry_bytes sig e ids) (said row).0 row.skeleton (its_bytes e ids) read
      (ap (λ (ls : List LargeRow). every (map_list (large_object (map.entries texts)) ls)) rows-are
      ∙ every-back (map.entries texts) (zip (larges e.graph) ids) (each-more (HasLarge texts) (IsThere (map.entries texts)) (zip (larges e.graph) ids) (λ l k. (k.0, k.1, object-get texts l.1 ∙ k.3)) laid.larges_are.there)) in
      ap {A = ℕ × Entry} {B = Entry} (λ x. x.1) (some_inj {A = ℕ × Entry} _ (sig, e) (sym found ∙ laid.read))

-- ---- what it costs

abbrev pub pages_of : List ℕ → ℕ
pages_of b = pages_for (length b)

lengths-from : (k : ℕ) (nodes : List Node) → map_list (λ (l : ℕ × List ℕ). length l.1) (larges_from k nodes) ≡ flat_map large_length nodes
lengths-from k [] = refl
lengths-from k (Large c bytes ∷ nodes) = ap (λ ns. length bytes ∷ ns) (lengths-from (k + 1) nodes)
lengths-from k (x ∷ nodes) = lengths-from (k + 1) nodes

bytes-pages : (ls : List (ℕ × List ℕ)) (ids : List ℕ) → length ls ≡ length ids
    → sum_by pages_of (map_list (λ (n : Named). n.0.1) (zip ls ids)) ≡ sum (map_list pages_for (map_list (λ (l : ℕ × List ℕ). length l.1) ls))
bytes-pages [] ids h = refl
bytes-pages (l ∷ ls) [] h = absurd (omega (arith, h))
bytes-pages (l ∷ ls) (i ∷ ids) h =
    sum_by-cons pages_of l.1 (map_list (λ (n : Named). n.0.1) (zip ls ids)) ∙ ap (λ n. pages_for (length l.1) + n) (bytes-pages ls ids (omega (arith, h)))
    ∙ sym (sum_by-cons (λ m. m) (pages_for (length l.1)) (map_list pages_for (map_list (λ (l : ℕ × List ℕ). length l.1) ls)))

count-from : (ls : List (ℕ × List ℕ)) → length (map_list (λ (l : ℕ × List ℕ). length l.1) ls) ≡ length ls
count-from [] = refl
count-from (l ∷ ls) = ap suc (count-from ls)

pub whole-pages : (sig : ℕ) (e : Entry) (ids : List ℕ) → length (larges e.graph) ≡ length ids → pages_for (length (entry_bytes sig e ids)) + sum_by pages_of (its_bytes e ids) ≡ entry_pages e
whole-pages sig e ids h =
    let lengths = lengths-from 0 e.graph.nodes in
    let long : length ids ≡ length (large_lengths e.graph) = sym h ∙ sym (count-from (larges e.graph)) ∙ ap length lengths in
    (λ i. pages_for (entry-length sig e ids h i) + (bytes-pages (larges e.graph) ids h ∙ ap (λ ns. sum (map_list pages_for ns)) lengths) i)
    ∙ ap (λ n. pages_for (12 + skeleton_length e.graph + 12 * n) + sum (map_list pages_for (large_lengths e.graph))) long

-- ---- large binaries, one after another

-- Large binaries were read so far: these are done, and the others are as many as rows are left.
pub record WentOn (texts : Objects) (left : List LargeAt) (bs done : List (List ℕ)) (unit : ℕ) (old new : Outside) : Type 0 where
  pub rest : List (List ℕ)
  pub has : HaveBytes texts left rest
  pub all : done ++ rest ≡ bs
  pub spent : Spends unit 0 (512 * sum_by pages_of done) old new

-- the first of some lists
abbrev pub head-of : List (List ℕ) → List ℕ
head-of [] = []
head-of (b ∷ bs) = b

abbrev others-of : List (List ℕ) → List (List ℕ)
others-of [] = []
others-of (b ∷ bs) = bs

has-head : (texts : Objects) (left : List LargeAt) (rest : List (List ℕ)) (d : LargeAt) → HaveBytes texts left rest → 1 ≤ length left → map.get texts (get_or left 0 d).object ≡ Some (head-of rest)
has-head texts [] rest d has some = absurd (omega (arith, some))
has-head texts (l ∷ left) [] d has some = absurd cc
has-head texts (l ∷ left) (b ∷ rest) d has some = cc

has-others : (texts : Objects) (left : List LargeAt) (rest : List (List ℕ)) → HaveBytes texts left rest → 1 ≤ length left → HaveBytes texts (take (length left - 1) (drop 1 left)) (others-of rest)
has-others texts [] rest has some = absurd (omega (arith, some))
has-others texts (l ∷ left) [] has some = absurd cc
has-others texts (l ∷ left) (b ∷ rest) has some =
    let tails : map_list (λ (l : LargeAt). map.get texts l.object) left ≡ map_list (λ (b : List ℕ). Some b) rest = cc in
    ap (map_list (λ (l : LargeAt). map.get texts l.object)) (rest-is 1 (l ∷ left)) ∙ tails

has-both : (texts : Objects) (left : List LargeAt) (rest : List (List ℕ)) → HaveBytes texts left rest → 1 ≤ length left → rest ≡ head-of rest ∷ others-of rest
has-both texts [] rest has some = absurd (omega (arith, some))
has-both texts (l ∷ left) [] has some = absurd cc
has-both texts (l ∷ left) (b ∷ rest) has some = refl

pub spent-both : (unit m n total : ℕ) (old mid new : Outside) → m + n ≤ total → Spends unit 0 (512 * m) old mid → Spends unit 0 (512 * n) mid new → Spends unit 0 (512 * total) old new
spent-both unit m n total old mid new most one two = Spends-widen (0 + 0) (512 * m + 512 * n) 0 (512 * total) (omega arith) (omega (arith, most)) (Spends-append 0 (512 * m) 0 (512 * n) one two)

module _ (texts : Objects) (left : List LargeAt) (bs done : List (List ℕ)) (unit : ℕ) (old mid : Outside) (w : WentOn texts left bs done unit old mid) (some : 1 ≤ length left) where
  pub next-there : (d : LargeAt) → map.get texts (get_or left 0 d).object ≡ Some (head-of w.rest)
  next-there d = has-head texts left w.rest d w.has some

  pub goes-on : (new : Outside) (got : List ℕ) (more : List (List ℕ)) → got ≡ head-of w.rest → more ≡ done ++ got ∷ [] → Spends unit 0 (512 * pages_of (head-of w.rest)) mid new
      → WentOn texts (take (length left - 1) (drop 1 left)) bs more unit old new
  goes-on new got more same push spends = record {
    rest = others-of w.rest;
    has = has-others texts left w.rest w.has some;
    all = (λ i. push i ++ others-of w.rest) ∙ append_assoc done (got ∷ []) (others-of w.rest) ∙ (λ i. done ++ (same i ∷ others-of w.rest)) ∙ ap (λ bs. done ++ bs) (sym (has-both texts left w.rest w.has some)) ∙ w.all;
    spent = spent-both unit (sum_by pages_of done) (pages_of (head-of w.rest)) (sum_by pages_of more) old mid new sizes w.spent spends;
  }
    where
      sizes : sum_by pages_of done + pages_of (head-of w.rest) ≤ sum_by pages_of more
      sizes =
          let one = ap (sum_by pages_of) push ∙ sum_by-append pages_of done (got ∷ []) in
          let last = sum_by-cons pages_of got [] in
          let size = ap pages_of same in
          omega (arith, one, last, size)

  pub stops-on : (new : Outside) → Spends unit 0 (512 * pages_of (head-of w.rest)) mid new → Spends unit 0 (512 * sum_by pages_of bs) old new
  stops-on new spends = spent-both unit (sum_by pages_of done) (pages_of (head-of w.rest)) (sum_by pages_of bs) old mid new sizes w.spent spends
    where
      sizes : sum_by pages_of done + pages_of (head-of w.rest) ≤ sum_by pages_of bs
      sizes =
          let one = ap (sum_by pages_of) (sym w.all) ∙ sum_by-append pages_of done w.rest in
          let two = ap (sum_by pages_of) (has-both texts left w.rest w.has some) ∙ sum_by-cons pages_of (head-of w.rest) (others-of w.rest) in
          omega (arith, one, two)

-- the lengths that were read, and those of the rows that are left
pub lengths-on : {V : Type 0} (size : V → ℕ) (done next : List V) (v : V) (left : List LargeAt) (d : LargeAt) (all : List ℕ) → 1 ≤ length left → size v ≡ (get_or left 0 d).length → next ≡ done ++ v ∷ []
    → map_list size done ++ map_list (λ (l : LargeAt). l.length) left ≡ all → map_list size next ++ map_list (λ (l : LargeAt). l.length) (take (length left - 1) (drop 1 left)) ≡ all
lengths-on size done next v [] d all some same push so_far = absurd (omega (arith, some))
lengths-on size done next v (l ∷ left) d all some same push so_far =
    (λ i. map_list size (push i) ++ map_list (λ (l : LargeAt). l.length) (rest-is 1 (l ∷ left) i))
    ∙ ap (λ ns. ns ++ map_list (λ (l : LargeAt). l.length) left) (map-append size done (v ∷ []))
    ∙ append_assoc (map_list size done) (size v ∷ []) (map_list (λ (l : LargeAt). l.length) left)
    ∙ (λ i. map_list size done ++ (same i ∷ map_list (λ (l : LargeAt). l.length) left)) ∙ so_far

-- the image still holds these objects
pub holds-on : (texts : Objects) (unit unit' : ℕ) (old new : Moment) → unit' ≡ unit → new ≡ old → HoldsObjects (image unit old) texts → HoldsObjects (image unit' new) texts
holds-on texts unit unit' old new place now = subst (λ (img : List ℕ). HoldsObjects img texts) (λ i. image (sym place i) (sym now i))

pub spends-at : (unit unit' fetches : ℕ) (old new : Outside) → unit' ≡ unit → Spends unit' 0 fetches old new → Spends unit 0 fetches old new
spends-at unit unit' fetches old new place = subst (λ (u : ℕ). Spends u 0 fetches old new) place

-- the record and the large binaries of an entry cost its pages
module _ (sig : ℕ) (e : Entry) (ids : List ℕ) (each : length (larges e.graph) ≡ length ids) where
  pub whole-spent : (unit unit' : ℕ) (old mid new : Outside) → unit' ≡ unit → Spends unit 0 (512 * pages_for (length (entry_bytes sig e ids))) old mid → Spends unit' 0 (512 * sum_by pages_of (its_bytes e ids)) mid new
      → Spends unit 0 (512 * entry_pages e) old new
  whole-spent unit unit' old mid new place one two =
      let pages = whole-pages sig e ids each in
      spent-both unit (pages_for (length (entry_bytes sig e ids))) (sum_by pages_of (its_bytes e ids)) (entry_pages e) old mid new (omega (arith, pages)) one
      (spends-at unit unit' (512 * sum_by pages_of (its_bytes e ids)) mid new place two)

  pub row-spent : (unit : ℕ) (old new : Outside) → Spends unit 0 (512 * pages_for (length (entry_bytes sig e ids))) old new → Spends unit 0 (512 * entry_pages e) old new
  row-spent unit old new one =
      let pages = whole-pages sig e ids each in
      Spends-widen 0 (512 * pages_for (length (entry_bytes sig e ids))) 0 (512 * entry_pages e) (omega arith) (omega (arith, pages)) one

-- where all rows are done
pub went-all : (texts : Objects) (left : List LargeAt) (bs done : List (List ℕ)) (unit : ℕ) (old new : Outside) → WentOn texts left bs done unit old new → length left < 1 → done ≡ bs
went-all texts [] bs done unit old new w none = sym (append-nil done) ∙ ap (λ rs. done ++ rs) (nil w.rest w.has) ∙ w.all
  where
    nil : (rest : List (List ℕ)) → HaveBytes texts [] rest → [] ≡ rest
    nil [] h = refl
    nil (b ∷ rest) h = absurd cc
went-all texts (l ∷ left) bs done unit old new w none = absurd (omega (arith, none))

-- where some are done, no more was spent than for all
pub went-some : (texts : Objects) (left : List LargeAt) (bs done : List (List ℕ)) (unit : ℕ) (old new : Outside) → WentOn texts left bs done unit old new → Spends unit 0 (512 * sum_by pages_of bs) old new
went-some texts left bs done unit old new w =
    let one = ap (sum_by pages_of) (sym w.all) ∙ sum_by-append pages_of done w.rest in
    Spends-widen 0 (512 * sum_by pages_of done) 0 (512 * sum_by pages_of bs) (omega arith) (omega (arith, one)) w.spent
