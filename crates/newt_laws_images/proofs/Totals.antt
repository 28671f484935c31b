-- What a store costs is what its objects take in pages.
use Rattle.std.proofs.Common.{arith, ◌≡◌, ◌≢◌, refl, ap, sym, ◌∙◌, subst, ℕ, ◌+◌, ◌*◌, ◌%◌, ◌<◌, List, [], ◌∷◌, ◌++◌, true, false, Bool, not, ◌⊎◌, inl, inr, cond, Some, map, filter, flat_map, zip, length, sum, sum_by, ◌==◌}
use Rattle.std.proofs.lemmas.Bool.{eq-eqb, eqb-true}
use Rattle.std.proofs.lemmas.List.Sums.{sum_by-cons}
use Rattle.std.specs.FinMap as map
use Rattle.newt_graph.specs.declared.node.Node.{Node}
use Rattle.newt_graph.specs.declared.node.Node.TheVariants.{Symbol, Str, Binary, Large, Array, Frame}
use Rattle.newt_spec_image.specs.Objects.{pages_for, Objects}
use Rattle.newt_spec_graph.specs.Lists.{Each, Pairs, Among}
use Rattle.newt_spec_graph.proofs.Lists.{each-at, each-from, among-filter, filter-among, among-flat_map, flat_map-among, some-same, pairs-more, pairs-map, pairs-filter, pairs-flat_map, rises-pairs, each-list_all}
use Rattle.newt_spec_store.specs.Store.{Entry, Soup, Store}
use Rattle.newt_spec_store.specs.Cost.{cost, directory_bytes, entry_pages, soup_pages, large_length, large_lengths, skeleton_length}
use Rattle.newt_spec_store.specs.Image.{larges, all_entries}
use Rattle.newt_spec_store.specs.Laid.{ApartIds, Named, Laid, record_of}
use Rattle.newt_spec_store.specs.Lies.{LiesIn, Places, HasLarge}
use Rattle.newt_spec_store.specs.Valid.{well_formed, valid_soup}
use Rattle.newt_laws_images.proofs.Assembled.{among-map, map-among}
use Rattle.newt_laws_images.proofs.Finite.{entries-rising, entry-get, get-entry}
use Rattle.newt_laws_images.proofs.Placed.{IsPlaced, soups-rise, pairs-map-from, has-large}
use Rattle.newt_laws_images.proofs.Records.{larges_from, map-length, entry-length}
use Rattle.newt_laws_images.proofs.Stores.{is-store, is-soup}
use Rattle.newt_laws_images.proofs.Whole.{laid_ids, its-layout, is-one-of, ids-apart}

-- ---- sums

-- a sum, by recursion
unfoldable pub total : {X : Type 0} → (X → ℕ) → List X → ℕ
total f [] = 0
total f (x ∷ xs) = f x + total f xs

pub sum-total : {X : Type 0} (f : X → ℕ) (xs : List X) → sum_by f xs ≡ total f xs
unfolding total
sum-total f [] = refl
sum-total f (x ∷ xs) = sum_by-cons f x xs ∙ ap (λ n. f x + n) (sum-total f xs)

total-map : {X Y : Type 0} (f : Y → ℕ) (g : X → Y) (xs : List X) → total f (map g xs) ≡ total (λ x. f (g x)) xs
unfolding total
total-map f g [] = refl
total-map f g (x ∷ xs) = ap (λ n. f (g x) + n) (total-map f g xs)

total-append : {X : Type 0} (f : X → ℕ) (xs ys : List X) → total f (xs ++ ys) ≡ total f xs + total f ys
unfolding total
total-append f [] ys = omega arith
total-append f (x ∷ xs) ys = let k = total-append f xs ys in omega (arith, k)

total-flat : {X Y : Type 0} (f : Y → ℕ) (g : X → List Y) (xs : List X) → total f (flat_map g xs) ≡ total (λ x. total f (g x)) xs
unfolding total
total-flat f g [] = refl
total-flat f g (x ∷ xs) = total-append f (g x) (flat_map g xs) ∙ ap (λ n. total f (g x) + n) (total-flat f g xs)

total-same : {X : Type 0} (f g : X → ℕ) (xs : List X) → Each (λ x. f x ≡ g x) xs → total f xs ≡ total g xs
unfolding total
total-same f g [] h = refl
total-same f g (x ∷ xs) h = let k = total-same f g xs h.1 in let e = h.0 in omega (arith, k, e)

total-split : {X : Type 0} (f : X → ℕ) (test : X → Bool) (xs : List X) → total f xs ≡ total f (filter test xs) + total f (filter (λ x. not (test x)) xs)
unfolding total
total-split f test [] = refl
total-split f test (x ∷ xs) = go (total-split f test xs) (test x)
  where
    go : total f xs ≡ total f (filter test xs) + total f (filter (λ x. not (test x)) xs) → (b : Bool)
        → f x + total f xs ≡ total f (cond b (x ∷ filter test xs) (filter test xs)) + total f (cond (not b) (x ∷ filter (λ x. not (test x)) xs) (filter (λ x. not (test x)) xs))
    go more true = omega (arith, more)
    go more false = omega (arith, more)

total-both : {X : Type 0} (f g : X → ℕ) (xs : List X) → total f xs + total g xs ≡ total (λ x. f x + g x) xs
unfolding total
total-both f g [] = refl
total-both f g (x ∷ xs) = let k = total-both f g xs in omega (arith, k)

-- ---- two lists with the same elements, each once

-- the list without one element
abbrev without : {X : Type 0} (xs : List X) (z : X) → Among xs z → List X
without [] z m = []
without (x ∷ xs) z (inl e) = xs
without (x ∷ xs) z (inr m) = x ∷ without xs z m

total-without : {X : Type 0} (f : X → ℕ) (xs : List X) (z : X) (m : Among xs z) → total f xs ≡ f z + total f (without xs z m)
unfolding total
total-without f [] z m = absurd m
total-without f (x ∷ xs) z (inl e) = ap (λ y. f y + total f xs) e
total-without f (x ∷ xs) z (inr m) = let k = total-without f xs z m in omega (arith, k)

without-among : {X : Type 0} (xs : List X) (z : X) (m : Among xs z) (y : X) → Among xs y → (z ≡ y → ⊥) → Among (without xs z m) y
without-among [] z m y n h = absurd m
without-among (x ∷ xs) z (inl e) y (inl k) h = absurd (h (sym e ∙ k))
without-among (x ∷ xs) z (inl e) y (inr n) h = n
without-among (x ∷ xs) z (inr m) y (inl k) h = inl k
without-among (x ∷ xs) z (inr m) y (inr n) h = inr (without-among xs z m y n h)

among-without : {X : Type 0} (xs : List X) (z : X) (m : Among xs z) (y : X) → Among (without xs z m) y → Among xs y
among-without [] z m y n = n
among-without (x ∷ xs) z (inl e) y n = inr n
among-without (x ∷ xs) z (inr m) y (inl k) = inl k
among-without (x ∷ xs) z (inr m) y (inr n) = inr (among-without xs z m y n)

-- what stands once is not among the others
gone : {X : Type 0} (R : X → X → Type 0) → ((a : X) → R a a → ⊥) → (xs : List X) (z : X) (m : Among xs z) → Pairs R xs → Among (without xs z m) z → ⊥
gone R irr [] z m h n = absurd m
gone R irr (x ∷ xs) z (inl e) h n = irr z (subst (λ y. R y z) e (each-at (R x) xs z h.0 n))
gone R irr (x ∷ xs) z (inr m) h (inl k) = irr z (subst (λ y. R y z) k (each-at (R x) xs z h.0 m))
gone R irr (x ∷ xs) z (inr m) h (inr n) = gone R irr xs z m h.1 n

pairs-without : {X : Type 0} (R : X → X → Type 0) (xs : List X) (z : X) (m : Among xs z) → Pairs R xs → Pairs R (without xs z m)
pairs-without R [] z m h = tt
pairs-without R (x ∷ xs) z (inl e) h = h.1
pairs-without R (x ∷ xs) z (inr m) h = (each-from (R x) (without xs z m) (λ y n. each-at (R x) xs y h.0 (among-without xs z m y n)), pairs-without R xs z m h.1)

same-total : {X : Type 0} (R : X → X → Type 0) → ((a : X) → R a a → ⊥) → (f : X → ℕ) (xs ys : List X) → Pairs R xs → Pairs R ys
    → ((z : X) → Among xs z → Among ys z) → ((z : X) → Among ys z → Among xs z) → total f xs ≡ total f ys
unfolding total
same-total R irr f [] [] h k into from = refl
same-total R irr f [] (y ∷ ys) h k into from = absurd (from y (inl refl))
same-total R irr f (x ∷ xs) ys h k into from =
    let m = into x (inl refl) in
    ap (λ n. f x + n) (same-total R irr f xs (without ys x m) h.1 (pairs-without R ys x m k)
    (λ z n. without-among ys x m z (into z (inr n)) (λ e. irr x (subst (R x) (sym e) (each-at (R x) xs z h.0 n))))
    (λ z n. after z (from z (among-without ys x m z n)) (λ e. gone R irr ys x m k (subst (Among (without ys x m)) (sym e) n))))
    ∙ sym (total-without f ys x m)
  where
    after : (z : _) → Among (x ∷ xs) z → (x ≡ z → ⊥) → Among xs z
    after z (inl e) n = absurd (n e)
    after z (inr m) n = m

-- ---- the entries of a store

pub entries-apart : (s : Store) → well_formed s ≡ true → Pairs ApartIds (all_entries s)
entries-apart s w = pairs-flat_map ApartIds (λ (p : Soup). map (λ (e : Entry). (p.sig, e)) p.entries) s.soups
    (each-from _ s.soups (λ p m. pairs-map-from ApartIds (λ (e : Entry). (p.sig, e)) p.entries (pairs-more (λ (a b : Entry). a.uid < b.uid) (λ (a b : Entry). ApartIds (p.sig, a) (p.sig, b)) p.entries
    (λ a b _ _ less _ same. absurd (omega (arith, less, same)))
    (pairs-map (λ m n. m < n) (λ (e : Entry). e.uid) p.entries (rises-pairs 0 p.next_uid (map (λ (e : Entry). e.uid) p.entries)
    (is-soup p (each-at (λ (p : Soup). valid_soup p ≡ true) s.soups p (each-list_all valid_soup s.soups (is-store s w).soups_fit) m)).uids)))))
    (pairs-more (λ (a b : Soup). a.sig < b.sig) (λ (p q : Soup). (x y : ℕ × Entry) → Among (map (λ (e : Entry). (p.sig, e)) p.entries) x → Among (map (λ (e : Entry). (q.sig, e)) q.entries) y → ApartIds x y) s.soups
    (λ p q _ _ less x y m n same _. let v = among-map (λ (e : Entry). (p.sig, e)) p.entries x m in let u = among-map (λ (e : Entry). (q.sig, e)) q.entries y n in
    let a : p.sig ≡ x.0 = ap {A = ℕ × Entry} {B = ℕ} (λ z. z.0) v.2 in
    let b : q.sig ≡ y.0 = ap {A = ℕ × Entry} {B = ℕ} (λ z. z.0) u.2 in
    absurd (omega (arith, less, same, a, b)))
    (soups-rise s w))

store-total : (s : Store) → total (λ (y : ℕ × Entry). entry_pages y.1) (all_entries s) ≡ total soup_pages s.soups
store-total s = total-flat (λ (y : ℕ × Entry). entry_pages y.1) (λ (p : Soup). map (λ (e : Entry). (p.sig, e)) p.entries) s.soups
    ∙ total-same (λ (p : Soup). total (λ (y : ℕ × Entry). entry_pages y.1) (map (λ (e : Entry). (p.sig, e)) p.entries)) soup_pages s.soups
    (each-from _ s.soups (λ p m. total-map (λ (y : ℕ × Entry). entry_pages y.1) (λ (e : Entry). (p.sig, e)) p.entries ∙ sym (sum-total entry_pages p.entries)))

sum-more : (n : ℕ) (ns : List ℕ) → sum (n ∷ ns) ≡ n + sum ns
sum-more n ns = sum_by-cons (λ m. m) n ns

-- ---- the objects of one entry

-- the objects that hold an entry's large binaries
abbrev large_objects : Laid → List (ℕ × List ℕ)
large_objects x = map (λ (l : Named). (l.1, l.0.1)) (zip (larges x.entry.graph) x.ids)

abbrev pages : ℕ × List ℕ → ℕ
pages o = pages_for (length o.1)

lengths-from : (k : ℕ) (nodes : List Node) → map (λ (l : ℕ × List ℕ). length l.1) (larges_from k nodes) ≡ flat_map large_length nodes
lengths-from k [] = refl
lengths-from k (Large c bytes ∷ nodes) = ap (λ ns. length bytes ∷ ns) (lengths-from (k + 1) nodes)
lengths-from k (Symbol _ ∷ nodes) = lengths-from (k + 1) nodes
lengths-from k (Str _ ∷ nodes) = lengths-from (k + 1) nodes
lengths-from k (Binary _ _ ∷ nodes) = lengths-from (k + 1) nodes
lengths-from k (Array _ _ ∷ nodes) = lengths-from (k + 1) nodes
lengths-from k (Frame _ _ ∷ nodes) = lengths-from (k + 1) nodes

large-total : (ls : List (ℕ × List ℕ)) (ids : List ℕ) → length ls ≡ length ids
    → total pages (map (λ (l : Named). (l.1, l.0.1)) (zip ls ids)) ≡ sum (map pages_for (map (λ (l : ℕ × List ℕ). length l.1) ls))
unfolding total
large-total [] [] h = refl
large-total [] (i ∷ ids) h = absurd (omega (arith, h))
large-total (l ∷ ls) [] h = absurd (omega (arith, h))
large-total (l ∷ ls) (i ∷ ids) h = ap (λ n. pages_for (length l.1) + n) (large-total ls ids (omega (arith, h))) ∙ sym (sum-more (pages_for (length l.1)) (map pages_for (map (λ (l : ℕ × List ℕ). length l.1) ls)))

-- an entry's record and its large binaries take the entry's pages
entry-total : (x : Laid) → length (larges x.entry.graph) ≡ length x.ids → pages (record_of x) + total pages (large_objects x) ≡ entry_pages x.entry
entry-total x h =
    let lengths = lengths-from 0 x.entry.graph.nodes in
    let long : length x.ids ≡ length (large_lengths x.entry.graph) = sym h ∙ sym (map-length (λ (l : ℕ × List ℕ). length l.1) (larges x.entry.graph)) ∙ ap length lengths in
    ap (λ n. pages_for n + total pages (large_objects x)) (entry-length x.soup x.entry x.ids h)
    ∙ ap (λ n. pages_for (12 + skeleton_length x.entry.graph + 12 * n) + total pages (large_objects x)) long
    ∙ ap (λ n. pages_for (12 + skeleton_length x.entry.graph + 12 * length (large_lengths x.entry.graph)) + n)
    (large-total (larges x.entry.graph) x.ids h ∙ ap (λ ns. sum (map pages_for ns)) lengths)

object-ids : (ls : List (ℕ × List ℕ)) (ids : List ℕ) → length ls ≡ length ids → map (λ (o : ℕ × List ℕ). o.0) (map (λ (l : Named). (l.1, l.0.1)) (zip ls ids)) ≡ ids
object-ids [] [] h = refl
object-ids [] (i ∷ ids) h = absurd (omega (arith, h))
object-ids (l ∷ ls) [] h = absurd (omega (arith, h))
object-ids (l ∷ ls) (i ∷ ids) h = ap (λ ns. i ∷ ns) (object-ids ls ids (omega (arith, h)))

map-append : (f : ℕ × List ℕ → ℕ) (xs ys : List (ℕ × List ℕ)) → map f (xs ++ ys) ≡ map f xs ++ map f ys
map-append f [] ys = refl
map-append f (x ∷ xs) ys = ap (λ ns. f x ∷ ns) (map-append f xs ys)

all-ids : (laid : List Laid) → Each (λ (x : Laid). length (larges x.entry.graph) ≡ length x.ids) laid → map (λ (o : ℕ × List ℕ). o.0) (flat_map large_objects laid) ≡ laid_ids laid
all-ids [] h = refl
all-ids (x ∷ laid) h = map-append (λ (o : ℕ × List ℕ). o.0) (large_objects x) (flat_map large_objects laid) ∙ (λ i. object-ids (larges x.entry.graph) x.ids h.0 i ++ all-ids laid h.1 i)

-- ---- the objects

abbrev is_odd : ℕ × List ℕ → Bool
is_odd o = o.0 % 2 == 1

not-true : (b : Bool) → not b ≡ true → b ≡ true → ⊥
not-true true h k = cc
not-true false h k = cc

pub true-not : (b : Bool) → (b ≡ true → ⊥) → not b ≡ true
true-not true h = absurd (h refl)
true-not false h = refl

module _ (objects : Objects) (place : Places) (s : Store) (lies : LiesIn objects place s) (w : well_formed s ≡ true) where
  abbrev laid : List Laid
  laid = (its-layout objects place s lies w).laid

  placed : (x : Laid) → Among laid x → IsPlaced objects place lies.named s x
  placed x m = each-at (IsPlaced objects place lies.named s) laid x (its-layout objects place s lies w).placed m

  each-placed : (P : Laid → Type 0) → ((x : Laid) → IsPlaced objects place lies.named s x → P x) → Each P laid
  each-placed P f = each-from P laid (λ x m. f x (placed x m))

  -- the directory, and the objects of all large binaries
  abbrev evens : List (ℕ × List ℕ)
  evens = (0, directory_bytes s) ∷ flat_map large_objects laid

  abbrev Other : ℕ × List ℕ → ℕ × List ℕ → Type 0
  Other a b = a.0 ≢ b.0

  -- an object of a large binary
  large-there : (o : ℕ × List ℕ) → Among (flat_map large_objects laid) o → (o.0 % 2 ≡ 0) × (0 < o.0) × (map.get objects o.0 ≡ Some o.1)
  large-there o m =
      let x = among-flat_map large_objects laid o m in
      let l = among-map (λ (l : Named). (l.1, l.0.1)) (zip (larges x.0.entry.graph) x.0.ids) o x.2 in
      let k = each-at (HasLarge objects) (zip (larges x.0.entry.graph) x.0.ids) l.0 (placed x.0 x.1).larges_are.there l.1 in
      subst (λ (o : ℕ × List ℕ). (o.0 % 2 ≡ 0) × (0 < o.0) × (map.get objects o.0 ≡ Some o.1)) l.2 (k.0, k.1, k.3)

  evens-apart : Pairs Other evens
  evens-apart = (
    each-from (Other (0, directory_bytes s)) (flat_map large_objects laid) (λ o m e. let k = large-there o m in omega (arith, k.1, e)),
    pairs-map (λ a b. a ≢ b) (λ (o : ℕ × List ℕ). o.0) (flat_map large_objects laid)
        (subst (Pairs (λ a b. a ≢ b)) (sym (all-ids laid (each-placed _ (λ x p. p.larges_are.each_named)))) (ids-apart objects place s lies w)),
  )

  abbrev rest : List (ℕ × List ℕ)
  rest = filter (λ o. not (is_odd o)) (map.entries objects)

  rest-apart : Pairs Other rest
  rest-apart = pairs-filter Other (λ o. not (is_odd o)) (map.entries objects) (pairs-more (λ (a b : ℕ × List ℕ). a.0 < b.0) Other (map.entries objects) (λ a b _ _ less e. omega (arith, less, e)) (entries-rising objects))

  into : (o : ℕ × List ℕ) → Among rest o → Among evens o
  into o m = go (is-one-of objects place s lies w o k.0)
    where
      k : Among (map.entries objects) o × (not (is_odd o) ≡ true)
      k = among-filter (λ o. not (is_odd o)) (map.entries objects) o m

      there : map.get objects o.0 ≡ Some o.1
      there = entry-get objects o.0 o.1 k.0

      go : (o.0 ≡ 0) ⊎ (o.0 % 2 ≡ 1) ⊎ Among (laid_ids laid) o.0 → Among evens o
      go (inl zero) =
          let bytes : o.1 ≡ directory_bytes s = some-same o.1 (directory_bytes s) (sym there ∙ ap (map.get objects) zero ∙ lies.directory) in
          inl (λ i. (sym zero i, sym bytes i))
      go (inr (inl odd)) = absurd (not-true (is_odd o) k.1 (eq-eqb (o.0 % 2) 1 odd))
      go (inr (inr n)) =
          let x = among-flat_map (λ (x : Laid). x.ids) laid o.0 n in
          let l = has-large objects x.0.entry.graph x.0.ids o.0 (placed x.0 x.1).larges_are x.2 in
          let bytes : l.0.1 ≡ o.1 = some-same l.0.1 o.1 (sym l.2.3 ∙ there) in
          inr (flat_map-among large_objects laid x.0 o x.1 (subst (λ (b : List ℕ). Among (large_objects x.0) (o.0, b)) bytes (map-among (λ (l : Named). (l.1, l.0.1)) (zip (larges x.0.entry.graph) x.0.ids) (l.0, o.0) l.1)))

  from : (o : ℕ × List ℕ) → Among evens o → Among rest o
  from o (inl e) = subst (Among rest) e (filter-among (λ o. not (is_odd o)) (map.entries objects) (0, directory_bytes s) (get-entry objects 0 (directory_bytes s) lies.directory) refl)
  from o (inr m) =
      let k = large-there o m in
      filter-among (λ o. not (is_odd o)) (map.entries objects) o (get-entry objects o.0 o.1 k.2) (true-not (is_odd o) (λ e. let odd = eqb-true (o.0 % 2) 1 e in omega (arith, odd, k.0)))

  evens-total : total pages rest ≡ pages_for (length (directory_bytes s)) + total (λ x. total pages (large_objects x)) laid
  unfolding total
  evens-total = same-total Other (λ a h. h refl) pages rest evens rest-apart evens-apart into from ∙ ap (λ n. pages_for (length (directory_bytes s)) + n) (total-flat pages large_objects laid)

  entries-total : total (λ x. pages (record_of x)) laid + total (λ x. total pages (large_objects x)) laid ≡ total soup_pages s.soups
  entries-total = total-both (λ x. pages (record_of x)) (λ x. total pages (large_objects x)) laid
      ∙ total-same (λ x. pages (record_of x) + total pages (large_objects x)) (λ (x : Laid). entry_pages x.entry) laid (each-placed _ (λ x p. entry-total x p.larges_are.each_named))
      ∙ sym (total-map (λ (y : ℕ × Entry). entry_pages y.1) (λ (x : Laid). (x.soup, x.entry)) laid)
      ∙ same-total ApartIds (λ a h. h refl refl) (λ (y : ℕ × Entry). entry_pages y.1) (map (λ (x : Laid). (x.soup, x.entry)) laid) (all_entries s)
      (its-layout objects place s lies w).are.once (entries-apart s w) (its-layout objects place s lies w).are.sound (its-layout objects place s lies w).are.complete
      ∙ store-total s

  odds-total : total pages (filter is_odd (map.entries objects)) ≡ total (λ x. pages (record_of x)) laid
  odds-total = ap (total pages) (its-layout objects place s lies w).records ∙ total-map pages record_of laid

  pub lies-total : sum_by (λ (o : ℕ × List ℕ). pages_for (length o.1)) (map.entries objects) ≡ cost s
  lies-total =
      let split = total-split pages is_odd (map.entries objects) in
      let soups = sum-total soup_pages s.soups in
      sum-total pages (map.entries objects) ∙ joined _ _ _ _ _ _ _ _ split odds-total evens-total entries-total soups
    where
      joined : (a b c d e f g h : ℕ) → a ≡ b + c → b ≡ d → c ≡ e + f → d + f ≡ g → h ≡ g → a ≡ e + h
      joined a b c d e f g h k l m n o = omega (arith, k, l, m, n, o)
