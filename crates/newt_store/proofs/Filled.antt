-- A store that is written to a unit whole: the ids of its objects, and that it lies in them.
use Rattle.std.proofs.Common.{◌≡◌, ◌≢◌, ◌⊎◌, inl, inr, refl, sym, ◌∙◌, ap, subst, arith, Bool, true, ◌&&◌, ◌==◌, ℕ, suc, ◌+◌, ◌-◌, ◌%◌, ◌<◌, ◌≤◌, All, List, [], ◌∷◌, ◌++◌, length, append-nil, take, drop, get_or, append_assoc, map as map_list, flat_map, sum_by, Option, Some, None, IfSome, option_map}
use Rattle.std.specs.FinMap as map
use Rattle.std.specs.List.{find}
use Rattle.std.specs.Ordering.{nat_cmp}
use Rattle.std.proofs.lemmas.Bool.{and_parts, eqb-true, eq-eqb}
use Rattle.std.proofs.lemmas.List.{map-append, take_all}
use Rattle.std.proofs.lemmas.List.Elements.{All-nil, All-cons}
use Rattle.std.proofs.lemmas.List.Sums.{sum_by-append, sum_by-cons}
use Rattle.newt_graph.specs.Graph.{RawGraph, IsGraph}
use Rattle.newt_spec_image.specs.Pages.{Change}
use Rattle.newt_spec_image.specs.Objects.{Objects, pages_for}
use Rattle.newt_spec_image.specs.Records.{version}
use Rattle.newt_spec_graph.specs.Lists.{Among, Each, Pairs}
use Rattle.newt_spec_graph.proofs.Lists.{among-append, among-left, among-right, each-at, each-from, none-some, some-same, pairs-append, pairs-map, pairs-more, rises-above}
use Rattle.newt_spec_store.specs.Cost.{cost, directory_bytes, directory_pages, entry_pages, soup_pages}
use Rattle.newt_spec_store.specs.Image.{all_entries, entry_bytes}
use Rattle.newt_spec_store.specs.Laid.{ApartIds}
use Rattle.newt_spec_store.specs.Lies.{AreLarges, IsIn, LiesIn, Places}
use Rattle.newt_spec_store.specs.Store.{Entry, Soup, Store}
use Rattle.newt_spec_store.specs.Valid.{fits, valid, well_formed}
use Rattle.newt_laws_images.proofs.Assembled.{among-map, map-among}
use Rattle.newt_laws_images.proofs.Chosen.{find-one, find-passes}
use Rattle.newt_laws_images.proofs.Gathering.{image-by-objects}
use Rattle.newt_laws_images.proofs.Known.{bare-good}
use Rattle.newt_laws_images.proofs.Placed.{all-in, in-all, pairs-map-from}
use Rattle.newt_laws_images.proofs.Skeletons.{skeleton-graph}
use Rattle.newt_laws_images.proofs.Stores.{is-store}
use Rattle.newt_laws_images.proofs.Totals.{entries-apart}
use Rattle.newt_laws_images.proofs.Whole.{lies-read}
use Rattle.newt_laws_changes.proofs.Lying.{among-or-not}
use Rattle.newt_laws_changes.proofs.Members.{same-or-not}
use Rattle.newt_laws_changes.proofs.Places.{odd-is-not}
use Rattle.newt_nsof_flat.specs.Stream.{stream_graph}
use Rattle.newt_nsof_flat.proofs.Streams.{reads_graphs}
use Rattle.newt_pagebook.specs.Batch.{no_change}
use Rattle.newt_objects.specs.Extents.{numbers_of}
use Rattle.newt_objects.specs.Held.{Held, held}
use Rattle.newt_objects.specs.Changing.{HoldsObjects}
use Rattle.newt_soupdir.specs.Bare.{bare_store}
use Rattle.newt_soupdir.specs.declared.rows.Directory.{Directory}
use Rattle.newt_entries.specs.Full.{as_entry, told}
use Rattle.newt_entries.specs.declared.full.FullEntry.{FullEntry}
use Rattle.newt_objects_commit.specs.Batch.{AddsPages, AreApart, HasEntries, HasIds, HasPut, LeavesUnplanned, all_pages_held, large_ids, new_pages, over_pages, pages_held}
use Rattle.newt_objects_commit.specs.declared.batch.NewEntry.{NewEntry}
use Rattle.newt_objects_commit.specs.declared.batch.NewLarge.{NewLarge}
use Rattle.newt_objects_commit.proofs.Planning.{adds-also, adds-as, entries-first, entries-more, odd_even}
use Rattle.newt_store.specs.Fill.{AreFreeFrom, AreNew, AreNextIds, AreStore, IsNewOf, IsNumbered, PlansEntries, PlansOneEntry, entry_name, new_name}
use Rattle.newt_store.specs.Next.{IsEntryOf}
use Rattle.newt_spec_store.specs.OfImage.{blocks_of}
use Rattle.newt_spec_store.specs.ImageStore.{store_of_image}
use Rattle.newt_store.proofs.Ids.{are-larges, entry-pages}
use Rattle.newt_store.proofs.Reading.{keeps-all}
use Rattle.newt_store.proofs.Turning.{bytes-of}

among-one : {X : Type 0} (x z : X) → Among (x ∷ []) z → x ≡ z
among-one x z (inl e) = e
among-one x z (inr m) = absurd m

-- ---- ids

pub next-ids-more : (first last next : ℕ) (ids : List ℕ) → AreNextIds first last ids → next ≡ last + 2 → next < 4294967296 → AreNextIds first next (ids ++ next ∷ [])
next-ids-more first last next ids so is below = record {
  last_even = next-even;
  no_less = omega (arith, so.no_less, is);
  even = each (λ n. n % 2 ≡ 0) so.even next-even;
  fit = each (λ n. n < 4294967296) so.fit below;
  above = each (λ n. first < n) so.above (omega (arith, so.no_less, is));
  most = each (λ n. n ≤ next) (λ n m. let low = so.most n m in omega (arith, low, is)) (omega arith);
  once = pairs-append (λ a b. a ≢ b) ids (next ∷ []) so.once (tt, tt) (each-from (λ a. Each (λ b. a ≢ b) (next ∷ [])) ids (λ a m. (λ same. let low = so.most a m in absurd (omega (arith, low, is, same)), tt)));
}
  where
    next-even : next % 2 ≡ 0
    next-even = omega (arith, so.last_even, is)

    each : (P : ℕ → Type 0) → ((n : ℕ) → Among ids n → P n) → P next → (n : ℕ) → Among (ids ++ next ∷ []) n → P n
    each P old new n m = elim (among-append ids (next ∷ []) n m) [ inl k ↦ old n k | inr k ↦ subst P (among-one next n k) new ]

-- the same of the large binaries that have them
pub next-larges-more : (first last : ℕ) (done : List NewLarge) (l : NewLarge) → AreNextIds first last (map_list (λ (x : NewLarge). x.id) done) → l.id ≡ last + 2 → l.id < 4294967296
    → AreNextIds first l.id (map_list (λ (x : NewLarge). x.id) (done ++ l ∷ []))
next-larges-more first last done l so is below = subst (AreNextIds first l.id) (sym (map-append (λ (x : NewLarge). x.id) done (l ∷ []))) (next-ids-more first last l.id (map_list (λ (x : NewLarge). x.id) done) so is below)

-- ---- entries, one after another

abbrev pages-new : NewEntry → ℕ
pages-new n = new_pages (Some n)

abbrev pub pages-full : FullEntry → ℕ
pages-full e = entry_pages (as_entry e)

sum-one : {X : Type 0} (f : X → ℕ) (x : X) → sum_by f (x ∷ []) ≡ f x
sum-one f x = omega arith

pub new-first : AreNew [] 1 0 []
new-first = record {
  names = refl;
  of_entries = λ n m. absurd m;
  each_written = λ e m. absurd m;
  apart = tt;
  below = λ n m. absurd m;
  most = λ n o m. absurd m;
  pages = refl;
}

one-apart : (es : List FullEntry) (e : FullEntry) (ns : List NewEntry) (n : NewEntry) (id last next : ℕ) → AreNew es id last ns → IsNumbered e id last next n → (a : NewEntry) → Among ns a → AreApart a n
one-apart es e ns n id last next so is a m = record {
  records_apart = λ same. let low = so.below a m in let at = is.id_is in absurd (omega (arith, low, at, same));
  larges_apart = λ o k l. let low = so.most a o m k in let high = is.above o l in absurd (omega (arith, low, high));
}

pub new-more : (es : List FullEntry) (e : FullEntry) (ns : List NewEntry) (n : NewEntry) (id last next : ℕ) → AreNew es id last ns → IsNumbered e id last next n
    → AreNew (es ++ e ∷ []) (id + 2) next (ns ++ n ∷ [])
new-more es e ns n id last next so is = record {
  names = map-append new_name ns (n ∷ []) ∙ (λ i. so.names i ++ (is.of_entry.of_sig i, is.of_entry.of_uid i) ∷ []) ∙ sym told-names;
  of_entries = λ x m. elim (among-append ns (n ∷ []) x m) [
    | inl before ↦ (let w = so.of_entries x before in (w.0, among-left es (e ∷ []) w.0 w.1, w.2))
    | inr last ↦ (e, among-right es (e ∷ []) e (inl refl), subst (λ (y : NewEntry). IsNewOf e y) (among-one n x last) is.of_entry)
  ];
  each_written = λ x m. elim (among-append es (e ∷ []) x m) [
    | inl before ↦ (let w = so.each_written x before in (w.0, among-left ns (n ∷ []) w.0 w.1, w.2))
    | inr last ↦ (n, among-right ns (n ∷ []) n (inl refl), subst (λ (y : FullEntry). IsNewOf y n) (among-one e x last) is.of_entry)
  ];
  apart = pairs-append AreApart ns (n ∷ []) so.apart (tt, tt) (each-from (λ a. Each (AreApart a) (n ∷ [])) ns (λ a m. (one-apart es e ns n id last next so is a m, tt)));
  below = λ x m. elim (among-append ns (n ∷ []) x m) [
    | inl before ↦ (let low = so.below x before in omega (arith, low))
    | inr last ↦ subst (λ (y : NewEntry). y.id < id + 2) (among-one n x last) its-low
  ];
  most = λ x o m k. elim (among-append ns (n ∷ []) x m) [
    | inl before ↦ (let low = so.most x o before k in let more = is.no_less in omega (arith, low, more))
    | inr last ↦ is.most o (subst (λ (y : NewEntry). Among (large_ids y) o) (sym (among-one n x last)) k)
  ];
  pages = sum_by-append pages-new ns (n ∷ []) ∙ (λ i. so.pages i + one i) ∙ sym (sum_by-append pages-full es (e ∷ []));
}
  where
    told-names : map_list entry_name (map_list told (es ++ e ∷ [])) ≡ map_list entry_name (map_list told es) ++ (e.soup, e.uid) ∷ []
    told-names = ap (map_list entry_name) (map-append told es (e ∷ [])) ∙ map-append entry_name (map_list told es) (told e ∷ [])

    its-low : n.id < id + 2
    its-low = let at = is.id_is in omega (arith, at)

    one : sum_by pages-new (n ∷ []) ≡ sum_by pages-full (e ∷ [])
    one = sum-one pages-new n ∙ entry-pages e.soup e.uid e.time e.graph n is.of_entry ∙ sym (sum-one pages-full e)

-- ---- plans

-- objects that are not there have no pages
none-held : (objects : Held) → ((o : ℕ) → held objects o ≡ None) → (ids : List ℕ) → all_pages_held objects ids ≡ 0
none-held objects none [] = refl
none-held objects none (id ∷ ids) = sum_by-cons (pages_held objects) id ids ∙ (λ i. length (numbers_of (none id i)) + none-held objects none ids i)

pub none-over : (objects : Held) (n : NewEntry) → ((o : ℕ) → held objects o ≡ None) → over_pages objects (Some n) ≡ 0
none-over objects n none = λ i. length (numbers_of (none n.id i)) + none-held objects none (large_ids n) i

-- the ids after those of the entry stay free
pub new-free : (e : FullEntry) (id last next : ℕ) (n : NewEntry) (old new : Held) → IsNumbered e id last next n → AreFreeFrom id last old
    → LeavesUnplanned (λ other. (x : NewEntry) → Some n ≡ Some x → (other ≢ x.id) × (Among (large_ids x) other → ⊥)) old new → AreFreeFrom (id + 2) next new
new-free e id last next n old new is free leaves = (
  λ o odd low. leaves o (λ x same. subst (λ (y : NewEntry). (o ≢ y.id) × (Among (large_ids y) o → ⊥)) (some-same n x same) (
    λ at. (let here = is.id_is in absurd (omega (arith, low, at, here))),
    λ large. odd_even o odd (is.of_entry.ids.even o large).0,
  )) (free.0 o odd (omega (arith, low))),
  λ o even high. leaves o (λ x same. subst (λ (y : NewEntry). (o ≢ y.id) × (Among (large_ids y) o → ⊥)) (some-same n x same) (
    λ at. odd_even o (subst (λ (k : ℕ). k % 2 ≡ 1) (sym at) is.of_entry.ids.odd) even,
    λ large. (let low = is.most o large in absurd (omega (arith, low, high))),
  )) (free.1 o even (let more = is.no_less in omega (arith, more, high))),
)

-- what is left after the first
pub opened : {X : Type 0} (x : X) (left : List X) → 1 ≤ length left → x ≡ get_or left 0 x → left ≡ x ∷ take (length left - 1) (drop 1 left)
opened x [] some is = absurd (omega (arith, some))
opened x (y ∷ ys) some is = ap (λ z. z ∷ ys) (sym is) ∙ ap (λ l. x ∷ l) (sym (take_all (suc (length ys) - 1) ys (less (length ys))))
  where
    less : (n : ℕ) → n ≤ suc n - 1
    less n = omega arith

pub moved-on : {X : Type 0} (all done left : List X) (x : X) → all ≡ done ++ left → 1 ≤ length left → x ≡ get_or left 0 x → all ≡ (done ++ x ∷ []) ++ take (length left - 1) (drop 1 left)
moved-on all done left x is some first = is ∙ ap (λ l. done ++ l) (opened x left some first) ∙ sym (append_assoc done (x ∷ []) (take (length left - 1) (drop 1 left)))

pub all-done : {X : Type 0} (all done left : List X) → all ≡ done ++ left → length left < 1 → done ≡ all
all-done all done [] is none = sym (is ∙ append-nil done)
all-done all done (x ∷ left) is none = absurd (omega (arith, none))

-- so many pages in all
pub filled-pages : (first mid last : Change) (p q n : ℕ) → first ≡ no_change → n ≡ 0 → AddsPages p n first mid → AddsPages q 0 mid last → (length last.puts ≡ p + q) × (length last.deletes ≡ 0)
filled-pages first mid last p q n none empty a b =
    let puts : length first.puts ≡ 0 = ap (λ (c : Change). length c.puts) none in
    let deletes : length first.deletes ≡ 0 = ap (λ (c : Change). length c.deletes) none in
    let all = adds-also _ _ _ _ _ _ _ a b in
    let one = all.more_puts in
    let two = all.more_deletes in
    (omega (arith, puts, one), omega (arith, deletes, two, empty))

pub nil-of : (xs : List ℕ) → length xs ≡ 0 → xs ≡ []
nil-of [] none = refl
nil-of (x ∷ xs) none = absurd (omega (arith, none))

pub plans-first : (start : Held) (first : Change) → AreFreeFrom 1 0 start → PlansEntries [] 1 0 start first start first
plans-first start first free = record {
  ones = [];
  are = new-first;
  way = λ live texts w. (texts, w, entries-first texts);
  pages = record { more_puts = omega arith; more_deletes = omega arith };
  free = free;
}

pub plans-more : (es : List FullEntry) (e : FullEntry) (id last next : ℕ) (start mid now : Held) (first batch after : Change) → PlansEntries es id last start first mid batch → PlansOneEntry e id last next mid batch now after
    → PlansEntries (es ++ e ∷ []) (id + 2) next start first now after
plans-more es e id last next start mid now first batch after so one = record {
  ones = so.ones ++ one.one ∷ [];
  are = new-more es e so.ones one.one id last next so.are one.is;
  way = λ live texts w.
      let a = so.way live texts w in
      let b = one.way live a.0 a.1 in
      (b.0, b.1, entries-more so.ones one.one texts a.0 b.0 (one-apart es e so.ones one.one id last next so.are one.is) (λ x m. (so.are.of_entries x m).2.ids) one.is.of_entry.ids a.2 b.2);
  pages = adds-as _ _ _ _ _ _ (sym (sum_by-append pages-full es (e ∷ []) ∙ ap (λ n. sum_by pages-full es + n) (sum-one pages-full e))) refl (adds-also _ _ _ _ _ _ _ so.pages one.pages);
  free = one.free;
}

-- ---- lists of new entries

-- two elements are one, or one of them stands after the other
pairs-two : {X : Type 0} (R : X → X → Type 0) (xs : List X) (a b : X) → Pairs R xs → Among xs a → Among xs b → (a ≡ b) ⊎ (R a b ⊎ R b a)
pairs-two R [] a b h m n = absurd m
pairs-two R (x ∷ xs) a b h (inl e) (inl f) = inl (sym e ∙ f)
pairs-two R (x ∷ xs) a b h (inl e) (inr n) = inr (inl (subst (λ y. R y b) e (each-at (R x) xs b h.0 n)))
pairs-two R (x ∷ xs) a b h (inr m) (inl f) = inr (inr (subst (λ y. R y a) f (each-at (R x) xs a h.0 m)))
pairs-two R (x ∷ xs) a b h (inr m) (inr n) = pairs-two R xs a b h.1 m n

-- an object of one of them, or of none
abbrev Has : NewEntry → ℕ → Type 0
Has n o = (n.id ≡ o) ⊎ Among (large_ids n) o

has-or-not : (n : NewEntry) (o : ℕ) → Has n o ⊎ ((n.id ≢ o) × (Among (large_ids n) o → ⊥))
has-or-not n o = go (same-or-not n.id o) (among-or-not (large_ids n) o)
  where
    go : (n.id ≡ o) ⊎ (n.id ≢ o) → Among (large_ids n) o ⊎ (Among (large_ids n) o → ⊥) → Has n o ⊎ ((n.id ≢ o) × (Among (large_ids n) o → ⊥))
    go (inl e) k = inl (inl e)
    go (inr d) (inl m) = inl (inr m)
    go (inr d) (inr k) = inr (d, k)

some-has : (ns : List NewEntry) (o : ℕ) → ((n : NewEntry) × Among ns n × Has n o) ⊎ ((n : NewEntry) → Among ns n → (n.id ≢ o) × (Among (large_ids n) o → ⊥))
some-has [] o = inr (λ n m. absurd m)
some-has (x ∷ ns) o = go (has-or-not x o) (some-has ns o)
  where
    go : Has x o ⊎ ((x.id ≢ o) × (Among (large_ids x) o → ⊥)) → ((n : NewEntry) × Among ns n × Has n o) ⊎ ((n : NewEntry) → Among ns n → (n.id ≢ o) × (Among (large_ids n) o → ⊥))
        → ((n : NewEntry) × Among (x ∷ ns) n × Has n o) ⊎ ((n : NewEntry) → Among (x ∷ ns) n → (n.id ≢ o) × (Among (large_ids n) o → ⊥))
    go (inl h) k = inl (x, inl refl, h)
    go (inr h) (inl w) = inl (w.0, inr w.1, w.2)
    go (inr h) (inr k) = inr (λ n m. elim m [ inl e ↦ subst (λ (y : NewEntry). (y.id ≢ o) × (Among (large_ids y) o → ⊥)) e h | inr m ↦ k n m ])

-- what the record names, if there is one
abbrev pub names-if : Option NewEntry → List ℕ
names-if None = []
names-if (Some n) = large_ids n

-- ---- a store that was written lies in the objects

module _ (blocks : ℕ) (s : Store) (d : Directory) (es : List FullEntry) (is : AreStore blocks s d es) (id last : ℕ) (ns : List NewEntry) (are : AreNew es id last ns)
    (first texts : Objects) (put : HasPut 0 (directory_bytes (bare_store d)) map.empty first) (has : HasEntries ns first texts) where
  formed : well_formed s ≡ true
  formed = (and_parts (well_formed s) (fits blocks s) is.is_valid).0

  given : (sig : ℕ) (e : Entry) → IsIn s sig e → (f : FullEntry) × Among es f × (told f ≡ (sig, e))
  given sig e i = among-map told es (sig, e) (subst (λ (l : List (ℕ × Entry)). Among l (sig, e)) is.entries (in-all s sig e i))

  in-store : (f : FullEntry) → Among es f → IsIn s f.soup (as_entry f)
  in-store f m = all-in s (told f) (subst (λ (l : List (ℕ × Entry)). Among l (told f)) (sym is.entries) (map-among told es f m))

  written : (sig : ℕ) (e : Entry) → IsIn s sig e → (n : NewEntry) × Among ns n × IsEntryOf sig e.uid e.time e.graph n
  written sig e i =
      let g = given sig e i in
      let w = are.each_written g.0 g.1 in
      (w.0, w.1, subst (λ (x : ℕ × Entry). IsEntryOf x.0 x.1.uid x.1.time x.1.graph w.0) g.2 w.2)

  ids : (n : NewEntry) → Among ns n → HasIds n
  ids n m = (are.of_entries n m).2.ids

  -- ---- names and ids that find them

  names-apart : Pairs (λ (a b : NewEntry). a.sig ≡ b.sig → a.uid ≡ b.uid → ⊥) ns
  names-apart = pairs-map (λ (a b : ℕ × ℕ). a.0 ≡ b.0 → a.1 ≡ b.1 → ⊥) new_name ns (subst (λ (l : List (ℕ × ℕ)). Pairs (λ (a b : ℕ × ℕ). a.0 ≡ b.0 → a.1 ≡ b.1 → ⊥) l) (sym are.names)
      (pairs-map-from (λ (a b : ℕ × ℕ). a.0 ≡ b.0 → a.1 ≡ b.1 → ⊥) entry_name (map_list told es) (subst (λ (l : List (ℕ × Entry)). Pairs ApartIds l) is.entries (entries-apart s formed))))

  abbrev pub is-its : ℕ → ℕ → NewEntry → Bool
  is-its sig uid n = (n.sig == sig) && (n.uid == uid)

  its-names : (sig uid : ℕ) (n : NewEntry) → is-its sig uid n ≡ true → (n.sig ≡ sig) × (n.uid ≡ uid)
  its-names sig uid n h = let p = and_parts (n.sig == sig) (n.uid == uid) h in (eqb-true n.sig sig p.0, eqb-true n.uid uid p.1)

  is-it : (n : NewEntry) → is-its n.sig n.uid n ≡ true
  is-it n = both (n.sig == n.sig) (n.uid == n.uid) (eq-eqb n.sig n.sig refl) (eq-eqb n.uid n.uid refl)
    where
      both : (a b : Bool) → a ≡ true → b ≡ true → (a && b) ≡ true
      both a b h k = grind (arith, h, k)

  abbrev pub place : Places
  place sig uid = option_map (λ (n : NewEntry). n.id) (find (is-its sig uid) ns)

  placed : (n : NewEntry) → Among ns n → place n.sig n.uid ≡ Some n.id
  placed n m = ap (option_map (λ (x : NewEntry). x.id)) (find-one (is-its n.sig n.uid) ns n (pairs-more (λ (a b : NewEntry). a.sig ≡ b.sig → a.uid ≡ b.uid → ⊥) (λ a b. is-its n.sig n.uid a ≡ true → is-its n.sig n.uid b ≡ true → ⊥) ns
      (λ a b _ _ apart h k. let p = its-names n.sig n.uid a h in let q = its-names n.sig n.uid b k in apart (p.0 ∙ sym q.0) (p.1 ∙ sym q.1)) names-apart) m (is-it n))

  placed-of : (n : NewEntry) → Among ns n → (sig uid : ℕ) → n.sig ≡ sig → n.uid ≡ uid → place sig uid ≡ Some n.id
  placed-of n m sig uid a b = ap (λ v. place v uid) (sym a) ∙ ap (place n.sig) (sym b) ∙ placed n m

  abbrev pub named : ℕ → List ℕ
  named r = names-if (find (λ (n : NewEntry). n.id == r) ns)

  named-is : (n : NewEntry) → Among ns n → named n.id ≡ large_ids n
  named-is n m = ap names-if (find-one (λ (x : NewEntry). x.id == n.id) ns n (pairs-more AreApart (λ a b. (a.id == n.id) ≡ true → (b.id == n.id) ≡ true → ⊥) ns
      (λ a b _ _ apart h k. apart.records_apart (eqb-true a.id n.id h ∙ sym (eqb-true b.id n.id k))) are.apart) m (eq-eqb n.id n.id refl))

  named-from : (r o : ℕ) → Among (named r) o → (n : NewEntry) × Among ns n × (n.id ≡ r) × Among (large_ids n) o
  named-from r o m = go (find (λ (n : NewEntry). n.id == r) ns) refl m
    where
      go : (x : Option NewEntry) → find (λ (n : NewEntry). n.id == r) ns ≡ x → Among (names-if x) o → (n : NewEntry) × Among ns n × (n.id ≡ r) × Among (large_ids n) o
      go None e m = absurd m
      go (Some n) e m = let w = find-passes (λ (n : NewEntry). n.id == r) ns n e in (n, w.1, eqb-true n.id r w.0, m)

  place-from : (sig uid o : ℕ) → place sig uid ≡ Some o → (n : NewEntry) × Among ns n × (n.sig ≡ sig) × (n.uid ≡ uid)
  place-from sig uid o at = go (find (is-its sig uid) ns) refl at
    where
      go : (x : Option NewEntry) → find (is-its sig uid) ns ≡ x → option_map (λ (n : NewEntry). n.id) x ≡ Some o → (n : NewEntry) × Among ns n × (n.sig ≡ sig) × (n.uid ≡ uid)
      go None e at = absurd (none-some o at)
      go (Some n) e at = let w = find-passes (is-its sig uid) ns n e in let p = its-names sig uid n w.0 in (n, w.1, p.0, p.1)

  -- its place is that of its entry
  entry-place : (n : NewEntry) → Among ns n → (sig : ℕ) × (e : Entry) × IsIn s sig e × (place sig e.uid ≡ Some n.id)
  entry-place n m = let w = are.of_entries n m in (w.0.soup, as_entry w.0, in-store w.0 w.1, placed-of n m w.0.soup w.0.uid w.2.of_sig w.2.of_uid)

  named-once : (r other o : ℕ) → Among (named r) o → Among (named other) o → r ≡ other
  named-once r other o m n = let a = named-from r o m in let b = named-from other o n in go a.0 b.0 a.2 b.2 a.3 b.3 (pairs-two AreApart ns a.0 b.0 are.apart a.1 b.1)
    where
      go : (a b : NewEntry) → a.id ≡ r → b.id ≡ other → Among (large_ids a) o → Among (large_ids b) o → (a ≡ b) ⊎ (AreApart a b ⊎ AreApart b a) → r ≡ other
      go a b p q m n (inl e) = sym p ∙ ap (λ (x : NewEntry). x.id) e ∙ q
      go a b p q m n (inr (inl apart)) = absurd (apart.larges_apart o m n)
      go a b p q m n (inr (inr apart)) = absurd (apart.larges_apart o n m)

  pub filled-lies : LiesIn texts place s
  filled-lies = record {
    named = named;
    directory = has.others 0 (λ n m. (odd-is-not n.id (ids n m).odd, λ k. let low = ((ids n m).even 0 k).1 in absurd (omega (arith, low)))) ∙ put.object ∙ ap Some (bytes-of d s is.directory);
    records = λ sig e i.
        let w = written sig e i in
        let of = w.2 in (
          w.0.id,
          placed-of w.0 w.1 sig e.uid of.of_sig of.of_uid,
          of.ids.odd,
          has.records_are w.0 w.1 ∙ ap Some of.bytes ∙ ap (λ (l : List ℕ). Some (entry_bytes sig e l)) (sym (named-is w.0 w.1)),
          subst (λ (l : List ℕ). AreLarges texts e.graph l) (sym (named-is w.0 w.1)) (are-larges texts sig e.uid e.time e.graph w.0 of (λ l k. has.larges_are w.0 l w.1 k)),
        );
    once = named-once;
    only_these = λ o bytes at ne. elim (some-has ns o) [
      | inl w ↦ its-object o w.0 w.1 w.2
      | inr out ↦ absurd (none-some bytes (sym (has.others o out ∙ put.others o ne ∙ map.get-empty nat_cmp o) ∙ at))
    ];
    names = λ r o m. let w = named-from r o m in let p = entry-place w.0 w.1 in (p.0, p.1, p.2, p.3 ∙ ap Some w.2);
    places = λ sig uid o at.
        let w = place-from sig uid o at in
        let f = are.of_entries w.0 w.1 in
        (as_entry f.0, subst (λ (k : ℕ). IsIn s k (as_entry f.0)) (sym f.2.of_sig ∙ w.2) (in-store f.0 f.1), sym f.2.of_uid ∙ w.3);
    infos = λ p g m e. subst (λ (o : Option RawGraph). IfSome o IsGraph) e (each-at (λ (p : Soup). IfSome p.info IsGraph) s.soups p is.infos m);
    skeletons = λ sig e i. skeleton-graph e.graph (sound sig e i).0;
    times = λ sig e i. (sound sig e i).1;
  }
    where
      sound : (sig : ℕ) (e : Entry) → IsIn s sig e → IsGraph e.graph × (e.time < 4294967296)
      sound sig e i = each-at (λ (x : ℕ × Entry). IsGraph x.1.graph × (x.1.time < 4294967296)) (all_entries s) (sig, e) is.graphs (in-all s sig e i)

      its-object : (o : ℕ) (n : NewEntry) → Among ns n → Has n o → ((sig : ℕ) × (e : Entry) × IsIn s sig e × (place sig e.uid ≡ Some o)) ⊎ ((r : ℕ) × Among (named r) o)
      its-object o n m (inl same) = let p = entry-place n m in inl (p.0, p.1, p.2, p.3 ∙ ap Some same)
      its-object o n m (inr large) = inr (n.id, subst (λ (l : List ℕ). Among l o) (sym (named-is n m)) large)

  -- so it lies in them
  pub store-lies : (p : Places) × LiesIn texts p s
  store-lies = (place, filled-lies)

-- ---- what is known of a directory and entries that are a store

module _ (blocks : ℕ) (s : Store) (d : Directory) (es : List FullEntry) (is : AreStore blocks s d es) where
  is-formed : well_formed s ≡ true
  is-formed = (and_parts (well_formed s) (fits blocks s) is.is_valid).0

  pub directory-formed : well_formed (bare_store d) ≡ true
  directory-formed = subst (λ (t : Store). well_formed t ≡ true) is.directory (bare-good s is-formed)

  its-sig : (e : FullEntry) → Among es e → e.soup < 65536
  its-sig e m =
      let i = all-in s (told e) (subst (λ (l : List (ℕ × Entry)). Among l (told e)) (sym is.entries) (map-among told es e m)) in
      let r = is-store s is-formed in
      let low = (each-at (λ n. (0 ≤ n) × (n < s.next_soup)) (map_list (λ (p : Soup). p.sig) s.soups) i.soup.sig (rises-above 0 s.next_soup (map_list (λ (p : Soup). p.sig) s.soups) r.sigs) (map-among (λ (p : Soup). p.sig) s.soups i.soup i.is_soup)).1 in
      let same : i.soup.sig ≡ e.soup = i.of_sig in
      let next = r.next in
      omega (arith, low, same, next)

  pub entries-small : All (λ (e : FullEntry). e.soup < 65536) es
  entries-small = all es its-sig
    where
      all : (xs : List FullEntry) → ((e : FullEntry) → Among xs e → e.soup < 65536) → All (λ (e : FullEntry). e.soup < 65536) xs
      all [] h = All-nil (λ (e : FullEntry). e.soup < 65536)
      all (x ∷ xs) h = All-cons (λ (e : FullEntry). e.soup < 65536) x xs (h x (inl refl)) (all xs (λ e m. h e (inr m)))

-- an image of version 2 that holds objects in which a store lies is read as this store
pub filled-read : (s : Store) (blocks : ℕ) (img : List ℕ) (texts : Objects) (p : Places) → LiesIn texts p s → HoldsObjects img texts → version img ≡ 2 → blocks_of img ≡ blocks → valid blocks s ≡ true → store_of_image stream_graph img ≡ Some s
filled-read s blocks img texts p lies holds new size good =
    image-by-objects stream_graph img holds.live texts holds.of_image holds.are
    ∙ lies-read stream_graph (version img) texts p (blocks_of img) s reads_graphs lies (keeps-all img s new) (subst (λ (b : ℕ). valid b s ≡ true) (sym size) good)

-- ---- what it costs

map-sum : (sig : ℕ) (es : List Entry) → sum_by (λ (y : ℕ × Entry). entry_pages y.1) (map_list (λ (e : Entry). (sig, e)) es) ≡ sum_by entry_pages es
map-sum sig [] = refl
map-sum sig (e ∷ es) = sum_by-cons (λ (y : ℕ × Entry). entry_pages y.1) (sig, e) (map_list (λ (e : Entry). (sig, e)) es) ∙ ap (λ n. entry_pages e + n) (map-sum sig es) ∙ sym (sum_by-cons entry_pages e es)

soups-sum : (ps : List Soup) → sum_by (λ (y : ℕ × Entry). entry_pages y.1) (flat_map (λ (p : Soup). map_list (λ (e : Entry). (p.sig, e)) p.entries) ps) ≡ sum_by soup_pages ps
soups-sum [] = refl
soups-sum (p ∷ ps) =
    sum_by-append (λ (y : ℕ × Entry). entry_pages y.1) (map_list (λ (e : Entry). (p.sig, e)) p.entries) (flat_map (λ (p : Soup). map_list (λ (e : Entry). (p.sig, e)) p.entries) ps)
    ∙ (λ i. map-sum p.sig p.entries i + soups-sum ps i) ∙ sym (sum_by-cons soup_pages p ps)

told-sum : (es : List FullEntry) → sum_by (λ (y : ℕ × Entry). entry_pages y.1) (map_list told es) ≡ sum_by pages-full es
told-sum [] = refl
told-sum (e ∷ es) = sum_by-cons (λ (y : ℕ × Entry). entry_pages y.1) (told e) (map_list told es) ∙ ap (λ n. pages-full e + n) (told-sum es) ∙ sym (sum_by-cons pages-full e es)

-- the pages of the directory and of the entries are what the store costs
pub filled-cost : (blocks : ℕ) (s : Store) (d : Directory) (es : List FullEntry) → AreStore blocks s d es → pages_for (length (directory_bytes (bare_store d))) + sum_by pages-full es ≡ cost s
filled-cost blocks s d es is =
    ap (λ (b : List ℕ). pages_for (length b) + sum_by pages-full es) (bytes-of d s is.directory)
    ∙ ap (λ n. directory_pages s + n) (sym (told-sum es) ∙ ap (λ (l : List (ℕ × Entry)). sum_by (λ (y : ℕ × Entry). entry_pages y.1) l) (sym is.entries) ∙ soups-sum s.soups)
