-- Changes of soups and stores that keep them well formed.
use Rattle.std.proofs.Common.{arith, ◌≡◌, refl, ap, ◌∙◌, ℕ, ◌+◌, ◌<◌, ◌≤◌, List, [], ◌∷◌, ◌++◌, true, false, Bool, not, ◌||◌, cond, Option, Some, None, map, filter, length, find, ◌==◌}
use Rattle.std.specs.List.{list_all, list_any}
use Rattle.newt_base.specs.Names.{equal_text, same_name}
use Rattle.newt_graph.specs.Graph.{RawGraph}
use Rattle.newt_spec_store.specs.Store.{Store, Soup, Entry, soup_named, entry_of, change_first, change_soup, change_entry, make_soup, drop_soup, add_entry, remove_entry, TagTable, with_index, without_index, with_tags, with_info}
use Rattle.newt_base.specs.Names.{is_name}
use Rattle.newt_spec_graph.specs.Lists.{all_apart, rises}
use Rattle.newt_spec_store.specs.Valid.{well_formed, valid_soup, valid_entry, valid_spec, valid_tags, valid_info}
use Rattle.newt_laws_images.proofs.Records.{push-length}
use Rattle.newt_laws_images.proofs.Stores.{is-soup, soup-is, is-store, store-is}
use Rattle.newt_spec_store.specs.Keys.{Path, IndexSpec, paths_of, same_paths}

-- ---- lists

pub first-all : {X : Type 0} (good test : X → Bool) (change : X → X) (xs : List X) → list_all good xs ≡ true
    → ((x : X) → find test xs ≡ Some x → good x ≡ true → good (change x) ≡ true) → list_all good (change_first test change xs) ≡ true
first-all good test change [] h k = refl
first-all good test change (x ∷ xs) h k = go (first-all good test change xs) (test x) k
  where
    go : (list_all good xs ≡ true → ((y : _) → find test xs ≡ Some y → good y ≡ true → good (change y) ≡ true) → list_all good (change_first test change xs) ≡ true)
        → (b : Bool) → ((y : _) → cond b (Some x) (find test xs) ≡ Some y → good y ≡ true → good (change y) ≡ true)
        → list_all good (cond b (change x ∷ xs) (x ∷ change_first test change xs)) ≡ true
    go more true k = grind (arith, k x refl (grind arith))
    go more false k = grind (arith, more (grind arith) k)

-- where the one that passes is seen as before
first-map-at : {X Y : Type 0} (g : X → Y) (test : X → Bool) (change : X → X) (xs : List X) → ((x : X) → find test xs ≡ Some x → g (change x) ≡ g x)
    → map g (change_first test change xs) ≡ map g xs
first-map-at g test change [] h = refl
first-map-at g test change (x ∷ xs) h = go (first-map-at g test change xs) (test x) h
  where
    go : (((y : _) → find test xs ≡ Some y → g (change y) ≡ g y) → map g (change_first test change xs) ≡ map g xs) → (b : Bool)
        → ((y : _) → cond b (Some x) (find test xs) ≡ Some y → g (change y) ≡ g y) → map g (cond b (change x ∷ xs) (x ∷ change_first test change xs)) ≡ map g (x ∷ xs)
    go more true k = ap (λ y. y ∷ map g xs) (k x refl)
    go more false k = ap (λ ys. g x ∷ ys) (more k)

pub first-map : {X Y : Type 0} (g : X → Y) (test : X → Bool) (change : X → X) (xs : List X) → ((x : X) → g (change x) ≡ g x) → map g (change_first test change xs) ≡ map g xs
first-map g test change xs h = first-map-at g test change xs (λ x _. h x)

pub first-length : {X : Type 0} (test : X → Bool) (change : X → X) (xs : List X) → length (change_first test change xs) ≡ length xs
first-length test change [] = refl
first-length test change (x ∷ xs) = go (first-length test change xs) (test x)
  where
    go : length (change_first test change xs) ≡ length xs → (b : Bool) → length (cond b (change x ∷ xs) (x ∷ change_first test change xs)) ≡ length (x ∷ xs)
    go more true = grind arith
    go more false = grind arith

pub filter-all : {X : Type 0} (good test : X → Bool) (xs : List X) → list_all good xs ≡ true → list_all good (filter test xs) ≡ true
filter-all good test [] h = refl
filter-all good test (x ∷ xs) h = go (filter-all good test xs (grind arith)) (test x)
  where
    go : list_all good (filter test xs) ≡ true → (b : Bool) → list_all good (cond b (x ∷ filter test xs) (filter test xs)) ≡ true
    go more true = grind arith
    go more false = more

pub filter-length : {X : Type 0} (test : X → Bool) (xs : List X) → length (filter test xs) ≤ length xs
filter-length test [] = grind arith
filter-length test (x ∷ xs) = go (filter-length test xs) (test x)
  where
    go : length (filter test xs) ≤ length xs → (b : Bool) → length (cond b (x ∷ filter test xs) (filter test xs)) ≤ length (x ∷ xs)
    go more true = grind arith
    go more false = grind arith

pub filter-none : {X Y : Type 0} (same : Y → Bool) (g : X → Y) (test : X → Bool) (xs : List X) → list_any same (map g xs) ≡ false → list_any same (map g (filter test xs)) ≡ false
filter-none same g test [] h = refl
filter-none same g test (x ∷ xs) h = go (filter-none same g test xs (grind arith)) (test x)
  where
    go : list_any same (map g (filter test xs)) ≡ false → (b : Bool) → list_any same (map g (cond b (x ∷ filter test xs) (filter test xs))) ≡ false
    go more true = grind arith
    go more false = more

pub filter-apart : {X Y : Type 0} (same : Y → Y → Bool) (g : X → Y) (test : X → Bool) (xs : List X) → all_apart same (map g xs) ≡ true → all_apart same (map g (filter test xs)) ≡ true
filter-apart same g test [] h = refl
filter-apart same g test (x ∷ xs) h = go (filter-apart same g test xs (grind arith)) (filter-none (same (g x)) g test xs (grind arith)) (test x)
  where
    go : all_apart same (map g (filter test xs)) ≡ true → list_any (same (g x)) (map g (filter test xs)) ≡ false → (b : Bool)
        → all_apart same (map g (cond b (x ∷ filter test xs) (filter test xs))) ≡ true
    go more none true = grind arith
    go more none false = more

pub rises-lower : (low lower high : ℕ) (ns : List ℕ) → lower ≤ low → rises low high ns ≡ true → rises lower high ns ≡ true
rises-lower low lower high [] h k = refl
rises-lower low lower high (n ∷ ns) h k = grind arith

-- numbers that rise between two are no more than these are apart
pub rising-length : (low high : ℕ) (ns : List ℕ) → low ≤ high → rises low high ns ≡ true → low + length ns ≤ high
rising-length low high [] fits h = omega arith
rising-length low high (n ∷ ns) fits h = let more = rising-length (n + 1) high ns (grind arith) (grind arith) in let first : low ≤ n = grind arith in omega (arith, more, first)

pub filter-rises : {X : Type 0} (g : X → ℕ) (test : X → Bool) (low high : ℕ) (xs : List X) → rises low high (map g xs) ≡ true → rises low high (map g (filter test xs)) ≡ true
filter-rises g test low high [] h = refl
filter-rises g test low high (x ∷ xs) h =
    go (filter-rises g test (g x + 1) high xs (grind arith)) (test x)
  where
    le : low ≤ g x + 1
    le = grind arith

    go : rises (g x + 1) high (map g (filter test xs)) ≡ true → (b : Bool) → rises low high (map g (cond b (x ∷ filter test xs) (filter test xs))) ≡ true
    go more true = grind arith
    go more false = rises-lower (g x + 1) low high (map g (filter test xs)) le more

pub push-rises : {X : Type 0} (g : X → ℕ) (low high : ℕ) (xs : List X) (x : X) → low ≤ high → g x ≡ high → rises low high (map g xs) ≡ true
    → rises low (high + 1) (map g (xs ++ x ∷ [])) ≡ true
push-rises g low high [] x le is h = grind arith
push-rises g low high (y ∷ xs) x le is h = grind (arith, push-rises g (g y + 1) high xs x)

pub push-all : {X : Type 0} (good : X → Bool) (xs : List X) (x : X) → list_all good xs ≡ true → good x ≡ true → list_all good (xs ++ x ∷ []) ≡ true
push-all good [] x h k = grind arith
push-all good (y ∷ xs) x h k = grind (arith, push-all good xs x)

pub push-none : {X Y : Type 0} (same : Y → Bool) (g : X → Y) (xs : List X) (x : X) → list_any same (map g xs) ≡ false → same (g x) ≡ false → list_any same (map g (xs ++ x ∷ [])) ≡ false
push-none same g [] x h k = grind arith
push-none same g (y ∷ xs) x h k = grind (arith, push-none same g xs x)

-- a new last one that none of the others agrees with
pub push-apart : {X Y : Type 0} (same : Y → Y → Bool) (g : X → Y) (xs : List X) (x : X) → all_apart same (map g xs) ≡ true
    → list_any (λ y. same (g y) (g x)) xs ≡ false → all_apart same (map g (xs ++ x ∷ [])) ≡ true
push-apart same g [] x h k = refl
push-apart same g (y ∷ xs) x h k = grind (arith, push-none (same (g y)) g xs x (grind arith) (grind arith), push-apart same g xs x (grind arith) (grind arith))

pub found-good : {X : Type 0} (good test : X → Bool) (xs : List X) (x : X) → list_all good xs ≡ true → find test xs ≡ Some x → good x ≡ true
found-good good test [] x h k = cc
found-good good test (y ∷ xs) x h k = go (found-good good test xs x (grind arith)) (test y) k
  where
    go : (find test xs ≡ Some x → good x ≡ true) → (b : Bool) → cond b (Some y) (find test xs) ≡ Some x → good x ≡ true
    go more true e = grind arith
    go more false e = more e

pub find-none : {X : Type 0} (test : X → Bool) (xs : List X) → find test xs ≡ None → list_any test xs ≡ false
find-none test [] h = refl
find-none test (x ∷ xs) h = go (find-none test xs) (test x) refl h
  where
    go : (find test xs ≡ None → list_any test xs ≡ false) → (b : Bool) → test x ≡ b → cond b (Some x) (find test xs) ≡ None → (test x || list_any test xs) ≡ false
    go more true e k = cc
    go more false e k = grind (arith, more k)

-- ---- soups

pub with-entry : (time : ℕ) (g : RawGraph) (p : Soup) → valid_soup p ≡ true → (p.next_uid ≡ 536870911 → ⊥)
    → valid_entry (record { uid = p.next_uid; time = time; graph = g }) ≡ true → valid_soup (add_entry time g p) ≡ true
with-entry time g p h room fits = let r = is-soup p h in soup-is (add_entry time g p) (record {
  named = r.named;
  next = grind (arith, room, r.next);
  uids = push-rises (λ (e : Entry). e.uid) 0 p.next_uid p.entries _ (omega arith) refl r.uids;
  count = r.count;
  specs_fit = r.specs_fit;
  specs_apart = r.specs_apart;
  tags_fit = r.tags_fit;
  info_fits = r.info_fits;
  entries_fit = push-all valid_entry p.entries _ r.entries_fit fits;
})

pub with-change-at : (uid : ℕ) (f : Entry → Entry) (p : Soup) → valid_soup p ≡ true → ((e : Entry) → entry_of uid p ≡ Some e → (f e).uid ≡ e.uid)
    → ((e : Entry) → entry_of uid p ≡ Some e → valid_entry e ≡ true → valid_entry (f e) ≡ true) → valid_soup (change_entry uid f p) ≡ true
with-change-at uid f p h same fits = let r = is-soup p h in soup-is (change_entry uid f p) (record {
  named = r.named;
  next = r.next;
  uids = ap (rises 0 p.next_uid) (first-map-at (λ (e : Entry). e.uid) (λ e. e.uid == uid) f p.entries same) ∙ r.uids;
  count = r.count;
  specs_fit = r.specs_fit;
  specs_apart = r.specs_apart;
  tags_fit = r.tags_fit;
  info_fits = r.info_fits;
  entries_fit = first-all valid_entry (λ e. e.uid == uid) f p.entries r.entries_fit fits;
})

pub with-change : (uid : ℕ) (f : Entry → Entry) (p : Soup) → valid_soup p ≡ true → ((e : Entry) → (f e).uid ≡ e.uid)
    → ((e : Entry) → entry_of uid p ≡ Some e → valid_entry e ≡ true → valid_entry (f e) ≡ true) → valid_soup (change_entry uid f p) ≡ true
with-change uid f p h same fits = with-change-at uid f p h (λ e _. same e) fits

pub without-entry : (uid : ℕ) (p : Soup) → valid_soup p ≡ true → valid_soup (remove_entry uid p) ≡ true
without-entry uid p h = let r = is-soup p h in soup-is (remove_entry uid p) (record {
  named = r.named;
  next = r.next;
  uids = filter-rises (λ (e : Entry). e.uid) _ 0 p.next_uid p.entries r.uids;
  count = r.count;
  specs_fit = r.specs_fit;
  specs_apart = r.specs_apart;
  tags_fit = r.tags_fit;
  info_fits = r.info_fits;
  entries_fit = filter-all valid_entry _ p.entries r.entries_fit;
})

-- ---- declarations

pub with-index : (spec : IndexSpec) (p : Soup) → valid_soup p ≡ true → valid_spec spec ≡ true → length p.specs < 16
    → list_any (λ t. same_paths (paths_of t) (paths_of spec)) p.specs ≡ false → valid_soup (with_index spec p) ≡ true
with-index spec p h fits room new = let r = is-soup p h in soup-is (with_index spec p) (record {
  named = r.named;
  next = r.next;
  uids = r.uids;
  count = omega (arith, push-length p.specs spec, room);
  specs_fit = push-all valid_spec p.specs spec r.specs_fit fits;
  specs_apart = push-apart same_paths paths_of p.specs spec r.specs_apart new;
  tags_fit = r.tags_fit;
  info_fits = r.info_fits;
  entries_fit = r.entries_fit;
})

pub without-index : (paths : List Path) (p : Soup) → valid_soup p ≡ true → valid_soup (without_index paths p) ≡ true
without-index paths p h = let r = is-soup p h in soup-is (without_index paths p) (record {
  named = r.named;
  next = r.next;
  uids = r.uids;
  count = omega (arith, filter-length (λ spec. not (same_paths (paths_of spec) paths)) p.specs, r.count);
  specs_fit = filter-all valid_spec _ p.specs r.specs_fit;
  specs_apart = filter-apart same_paths paths_of _ p.specs r.specs_apart;
  tags_fit = r.tags_fit;
  info_fits = r.info_fits;
  entries_fit = r.entries_fit;
})

pub with-tags : (tags : Option TagTable) (p : Soup) → valid_tags tags ≡ true → valid_soup p ≡ true → valid_soup (with_tags tags p) ≡ true
with-tags tags p fits h = let r = is-soup p h in soup-is (with_tags tags p) (record {
  named = r.named;
  next = r.next;
  uids = r.uids;
  count = r.count;
  specs_fit = r.specs_fit;
  specs_apart = r.specs_apart;
  tags_fit = fits;
  info_fits = r.info_fits;
  entries_fit = r.entries_fit;
})

pub with-info : (info : Option RawGraph) (p : Soup) → valid_info info ≡ true → valid_soup p ≡ true → valid_soup (with_info info p) ≡ true
with-info info p fits h = let r = is-soup p h in soup-is (with_info info p) (record {
  named = r.named;
  next = r.next;
  uids = r.uids;
  count = r.count;
  specs_fit = r.specs_fit;
  specs_apart = r.specs_apart;
  tags_fit = r.tags_fit;
  info_fits = fits;
  entries_fit = r.entries_fit;
})

-- ---- stores

pub with-soup : (name : List ℕ) (f : Soup → Soup) (s : Store) → well_formed s ≡ true → ((p : Soup) → (f p).name ≡ p.name) → ((p : Soup) → (f p).sig ≡ p.sig)
    → ((p : Soup) → soup_named name s ≡ Some p → valid_soup p ≡ true → valid_soup (f p) ≡ true) → well_formed (change_soup name f s) ≡ true
with-soup name f s h same_name same_sig fits = let r = is-store s h in store-is (change_soup name f s) (record {
  named = r.named;
  sig_fits = r.sig_fits;
  next = r.next;
  count = omega (arith, first-length (λ p. equal_text p.name name) f s.soups, r.count);
  sigs = ap (rises 0 s.next_soup) (first-map (λ (p : Soup). p.sig) _ f s.soups same_sig) ∙ r.sigs;
  names_apart = ap (all_apart equal_text) (first-map (λ (p : Soup). p.name) _ f s.soups same_name) ∙ r.names_apart;
  soups_fit = first-all valid_soup _ f s.soups r.soups_fit fits;
})

pub with-new-soup : (name : List ℕ) (s : Store) → well_formed s ≡ true → is_name name ≡ true → soup_named name s ≡ None → length s.soups < 250 → (s.next_soup ≡ 65535 → ⊥)
    → well_formed (make_soup name s) ≡ true
with-new-soup name s h good new room ids = let r = is-store s h in store-is (make_soup name s) (record {
  named = r.named;
  sig_fits = r.sig_fits;
  next = grind (arith, ids, r.next);
  count = omega (arith, push-length s.soups (record { name = name; sig = s.next_soup; next_uid = 0; specs = []; tags = None; info = None; entries = [] }), room);
  sigs = push-rises (λ (p : Soup). p.sig) 0 s.next_soup s.soups _ (omega arith) refl r.sigs;
  names_apart = push-apart equal_text (λ (p : Soup). p.name) s.soups _ r.names_apart (find-none (λ p. equal_text p.name name) s.soups new);
  soups_fit = push-all valid_soup s.soups _ r.soups_fit (grind (arith, good));
})

pub without-soup : (name : List ℕ) (s : Store) → well_formed s ≡ true → well_formed (drop_soup name s) ≡ true
without-soup name s h = let r = is-store s h in store-is (drop_soup name s) (record {
  named = r.named;
  sig_fits = r.sig_fits;
  next = r.next;
  count = omega (arith, filter-length (λ p. not (equal_text p.name name)) s.soups, r.count);
  sigs = filter-rises (λ (p : Soup). p.sig) _ 0 s.next_soup s.soups r.sigs;
  names_apart = filter-apart equal_text (λ (p : Soup). p.name) _ s.soups r.names_apart;
  soups_fit = filter-all valid_soup _ s.soups r.soups_fit;
})
