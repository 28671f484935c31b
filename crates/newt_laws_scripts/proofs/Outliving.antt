-- Runs one after another, where devices may fail and a crash may come at any moment.
use Rattle.std.proofs.Common.{ℕ, zero, suc, ◌≡◌, ◌⊎◌, inl, inr, ◌+◌, ◌≤◌, ◌<◌, refl, sym, ◌∙◌, ap, subst, arith, true, false, Bool, cond, IsTrue, List, [], ◌∷◌, ◌++◌, length, map, Option, Some, None}
use Rattle.std.specs.Prelude.{option_and_then, Result}
use Rattle.std.proofs.lemmas.List.{append-nil, append_cancel_left, length-append, take_all}
use Rattle.newt_host.specs.Meanings.{held, out_of}
use Rattle.newt_host.specs.Outside.{Outside}
use Rattle.newt_laws_changes.specs.Later.{EntryGone, SoupGone, SoupLater, StoreLater}
use Rattle.newt_laws_changes.proofs.Later.{entry-gone, soup-gone, store-not, store-trans}
use Rattle.newt_laws_images.proofs.Assembled.{map-among, one-sig}
use Rattle.newt_laws_images.proofs.Placed.{soups-rise}
use Rattle.newt_laws_images.proofs.Stores.{IsSoup, is-soup, is-store}
use Rattle.newt_laws_scripts.specs.Crashed.{CrashedAt, CrashedAfter, HasEntry, IdGiven, ReadsLater}
use Rattle.newt_laws_scripts.proofs.Follows.{begins}
use Rattle.newt_laws_steps.specs.Answering.{ReadsOneOf}
use Rattle.newt_laws_steps.specs.Steps.{StoresLater}
use Rattle.newt_laws_steps.proofs.Stepping.{stores-trans}
use Rattle.newt_laws_whole.proofs.Sound.{between-later}
use Rattle.newt_laws_world.proofs.Aliases.{named-by}
use Rattle.newt_script_session.specs.Counted.{HasLeftCounted}
use Rattle.newt_script_session.specs.Moments.{LeftAfter, HasLeft, replies_begun}
use Rattle.newt_script_session.specs.Named.{CountedNamed, RanNamed, first_world, held_by}
use Rattle.newt_script_session.specs.Script.{script_items}
use Rattle.newt_script_session.specs.declared.halt.Halt.{Halt}
use Rattle.newt_spec_graph.specs.Lists.{Among, Each}
use Rattle.newt_spec_graph.proofs.Lists.{among-append, each-at, each-from, each-list_all, none-some, rises-above, some-same}
use Rattle.newt_spec_script.specs.Rows.{IsRun, Row, world_at, last_world}
use Rattle.newt_spec_script.specs.Script.{Item}
use Rattle.newt_spec_store.specs.Store.{Entry, Soup, Store}
use Rattle.newt_spec_store.specs.Valid.{valid_soup, well_formed}
use Rattle.newt_spec_whole.specs.Step.{WholeStep}
use Rattle.newt_spec_whole.specs.Whole.{Whole, stores_on}
use Rattle.newt_spec_world.specs.Alias.{Alias, Spot, resolved}
use Rattle.newt_spec_world.specs.World as worlds
use Rattle.newt_spec_world.specs.World.{World, Device, Media, blank, one, two, lost, device, mounted_store, store_if_mounted, store_of, store_on_unit, stores_of}

-- ---- a row for each item

run-length : (h : Whole) (items : List Item) (rows : List (Row Whole)) → IsRun WholeStep h items rows → length rows ≡ length items
run-length h [] [] run = refl
run-length h [] (row ∷ rows) run = absurd run
run-length h (x ∷ xs) [] run = absurd run
run-length h (x ∷ xs) (row ∷ rows) run = ap suc (run-length row.0 xs rows run.1)

-- ---- what a crash leaves

module _ (reads : List ℕ → Option Store) where
  -- an image that is read as one of later stores
  reads-later : (before after : List Store) (image : List ℕ) → ((t : Store) → Among after t → (s : Store) × Among before s × StoreLater s t)
      → ReadsOneOf reads after image → ReadsLater reads before image
  reads-later before after image each r = let q = each r.0 r.1 in record { found = r.0; read = r.2; was = q.0; among = q.1; later = q.2 }

  -- an image that is read as a store
  pub made-later : (s : Store) (image : List ℕ) → reads image ≡ Some s → ReadsLater reads (s ∷ []) image
  made-later s image is = record { found = s; read = is; was = s; among = inl refl; later = store-not s }

  -- after a number of rows, or one more
  pub left-later : (h : Whole) (items : List Item) (rows : List (Row Whole)) (k m unit : ℕ) (s : Store) (image : List ℕ) → IsRun WholeStep h items rows → k ≤ m
      → Among (stores_on (world_at h rows k) unit) s
      → ((t : Store) → Among (stores_on (world_at h rows m) unit) t → ReadsOneOf reads (stores_on (world_at h rows m) unit ++ stores_on (world_at h rows (m + 1)) unit) image)
      → ReadsLater reads (stores_on (world_at h rows k) unit) image
  left-later h items rows k m unit s image run low there left =
      reads-later (stores_on (world_at h rows k) unit) (stores_on (world_at h rows m) unit ++ stores_on (world_at h rows (m + 1)) unit) image each
      (left now.some.0 now.some.1)
    where
      now : StoresLater (stores_on (world_at h rows k) unit) (stores_on (world_at h rows m) unit)
      now = between-later h items rows k m run low unit s there

      next : StoresLater (stores_on (world_at h rows k) unit) (stores_on (world_at h rows (m + 1)) unit)
      next = between-later h items rows k (m + 1) run (omega (arith, low)) unit s there

      each : (t : Store) → Among (stores_on (world_at h rows m) unit ++ stores_on (world_at h rows (m + 1)) unit) t → (s : Store) × Among (stores_on (world_at h rows k) unit) s × StoreLater s t
      each t k = elim (among-append (stores_on (world_at h rows m) unit) (stores_on (world_at h rows (m + 1)) unit) t k) [
        | inl a ↦ now.each t a
        | inr a ↦ next.each t a
      ]

  module _ (limit : ℕ) (result : Result (Unit {0}) Halt) (names : List (List ℕ)) (old new : Outside) (ran : RanNamed WholeStep reads limit result names old new) where
    abbrev first : Whole
    first = first_world reads names old

    abbrev rows : List (Row Whole)
    rows = ran.played.given.rows

    pub run-left : (k unit : ℕ) (s : Store) (image : List ℕ) → CrashedAfter rows old new k unit image → Among (stores_on (world_at first rows k) unit) s
        → ReadsLater reads (stores_on (world_at first rows k) unit) image
    run-left k unit s image c there =
        left-later first ran.played.given.first rows k (replies_begun rows (length c.shown)) unit s image ran.played.given.run c.begun there here.stores
      where
        l : HasLeft reads first ran.played.given.first rows (held_by names old unit) (out_of old) (out_of old ++ c.shown) unit image
        l = ran.crash unit c.crashed.start image (out_of old ++ c.shown) c.crashed.attached c.crashed.left

        same : c.shown ≡ l.shown
        same = append_cancel_left (out_of old) c.shown l.shown l.grown

        here : LeftAfter reads (λ bytes. held_by names old unit ≡ Some bytes) first (ran.played.given.first ++ []) rows (replies_begun rows (length c.shown)) unit image
        here = subst (λ (x : List ℕ). LeftAfter reads (λ bytes. held_by names old unit ≡ Some bytes) first (ran.played.given.first ++ []) rows (replies_begun rows (length x)) unit image) (sym same)
            (subst (λ (x : List (Row Whole)). LeftAfter reads (λ bytes. held_by names old unit ≡ Some bytes) first (ran.played.given.first ++ []) x (replies_begun x (length l.shown)) unit image) (append-nil rows)
            (l.leaves [] []))

  -- a run whose replies are counted
  pub counted-left : (script : List ℕ) (result : Result (Unit {0}) Halt) (names : List (List ℕ)) (old new : Outside) (ran : CountedNamed WholeStep reads script result names old new)
      → (unit : ℕ) (s : Store) (image shown : List ℕ) → CrashedAt old new unit image shown → Among (stores_on (first_world reads names old) unit) s
      → ReadsLater reads (stores_on (first_world reads names old) unit) image
  counted-left script result names old new ran unit s image shown c there =
      left-later first ran.given.first rows zero d.0 unit s image ran.given.run (omega arith) there
      (subst (λ (x : List (Row Whole)). LeftAfter reads (λ bytes. held_by names old unit ≡ Some bytes) first (items ++ []) x d.0 unit image) (append-nil rows) d.2).stores
    where
      first : Whole
      first = first_world reads names old

      rows : List (Row Whole)
      rows = ran.given.rows

      items : List Item
      items = script_items script

      l : HasLeftCounted reads first items rows (held_by names old unit) (out_of old) (out_of old ++ shown) unit image
      l = ran.crash unit c.start image (out_of old ++ shown) c.attached c.left

      d : (done : ℕ) × (0 < length l.shown → done ≡ length items) × LeftAfter reads (λ bytes. held_by names old unit ≡ Some bytes) first (items ++ []) (rows ++ []) done unit image
      d = l.leaves [] []

  -- once a byte of the summary is out: as after all of them
  pub summed-left : (script : List ℕ) (result : Result (Unit {0}) Halt) (names : List (List ℕ)) (old new : Outside) (ran : CountedNamed WholeStep reads script result names old new)
      → (unit : ℕ) (s : Store) (image shown : List ℕ) → CrashedAt old new unit image shown → 0 < length shown → Among (stores_on (last_world (first_world reads names old) ran.given.rows) unit) s
      → ReadsLater reads (stores_on (last_world (first_world reads names old) ran.given.rows) unit) image
  summed-left script result names old new ran unit s image shown c some there =
      subst (λ (w : Whole). ReadsLater reads (stores_on w unit) image) all
      (left-later first ran.given.first rows d.0 d.0 unit s image ran.given.run (omega arith)
      (subst (λ (w : Whole). Among (stores_on w unit) s) (sym all) there)
      (subst (λ (x : List (Row Whole)). LeftAfter reads (λ bytes. held_by names old unit ≡ Some bytes) first (items ++ []) x d.0 unit image) (append-nil rows) d.2).stores)
    where
      first : Whole
      first = first_world reads names old

      rows : List (Row Whole)
      rows = ran.given.rows

      items : List Item
      items = script_items script

      l : HasLeftCounted reads first items rows (held_by names old unit) (out_of old) (out_of old ++ shown) unit image
      l = ran.crash unit c.start image (out_of old ++ shown) c.attached c.left

      d : (done : ℕ) × (0 < length l.shown → done ≡ length items) × LeftAfter reads (λ bytes. held_by names old unit ≡ Some bytes) first (items ++ []) (rows ++ []) done unit image
      d = l.leaves [] []

      out : 0 < length l.shown
      out = subst (λ (x : List ℕ). 0 < length x) (append_cancel_left (out_of old) shown l.shown l.grown) some

      enough : length rows ≤ d.0
      enough = let a = run-length first ran.given.first rows ran.given.run in
          let b = ap {A = List Item} {B = ℕ} (λ xs. length xs) ran.given.split ∙ length-append ran.given.first ran.given.rest in
          let e = d.1 out in omega (arith, a, b, e)

      all : world_at first rows d.0 ≡ last_world first rows
      all = ap (λ (x : List (Row Whole)). last_world first x) (take_all d.0 rows enough)

  -- ---- the next run

  -- the unit begins with the one store that its image is read as
  module _ (before : List Store) (image : List ℕ) (r : ReadsLater reads before image) (names : List (List ℕ)) (old : Outside) (u : ℕ) (few : length names ≤ 8) (found : held_by names old u ≡ Some image) where
    starts : stores_on (first_world reads names old) u ≡ r.found ∷ []
    starts = only (device w u) (begins reads (held old) names u image r.found few found r.read)
      where
        w : World
        w = (first_world reads names old).world

        media : (m : Media) → store_of m ≡ Some r.found → stores_of m ≡ r.found ∷ []
        media blank e = absurd (none-some r.found e)
        media (one s) e = ap (λ (x : Store). x ∷ []) (some-same s r.found e)
        media (two a b) e = absurd (none-some r.found e)
        media lost e = absurd (none-some r.found e)

        at : Option Device → List Store
        at o = elim o [ None ↦ [] | Some d ↦ stores_of d.media ]

        only : (o : Option Device) → option_and_then (λ (d : Device). store_of d.media) o ≡ Some r.found → at o ≡ r.found ∷ []
        only None e = absurd (none-some r.found e)
        only (Some d) e = media d.media e

    begin : StoresLater before (stores_on (first_world reads names old) u)
    begin = subst (StoresLater before) (sym starts) (record { each = λ t k. among t k; some = (r.found, inl refl) })
      where
        among : (t : Store) → (r.found ≡ t) ⊎ ⊥ → (s : Store) × Among before s × StoreLater s t
        among t (inl e) = (r.was, r.among, subst (StoreLater r.was) e r.later)
        among t (inr k) = absurd k

    pub next-later : (items : List Item) (rows : List (Row Whole)) (k : ℕ) → IsRun WholeStep (first_world reads names old) items rows
        → StoresLater before (stores_on (world_at (first_world reads names old) rows k) u)
    next-later items rows k run =
        let more = between-later (first_world reads names old) items rows zero k run (omega arith) u begin.some.0 begin.some.1 in
        stores-trans before (stores_on (first_world reads names old) u) (stores_on (world_at (first_world reads names old) rows k) u) begin more

    -- what is read later than the stores at the start
    since-start : (left : List ℕ) → ReadsLater reads (stores_on (first_world reads names old) u) left → ReadsLater reads before left
    since-start left n = let q = begin.each n.was n.among in record { found = n.found; read = n.read; was = q.0; among = q.1; later = store-trans q.0 n.was n.found q.2 n.later }

    pub next-left : (limit : ℕ) (result : Result (Unit {0}) Halt) (new : Outside) (ran : RanNamed WholeStep reads limit result names old new) (left : List ℕ)
        → CrashedAfter ran.played.given.rows old new 0 u left → ReadsLater reads before left
    next-left limit result new ran left c = since-start left (run-left limit result names old new ran zero u begin.some.0 left c begin.some.1)

    pub next-counted : (script : List ℕ) (result : Result (Unit {0}) Halt) (new : Outside) (ran : CountedNamed WholeStep reads script result names old new) (left shown : List ℕ)
        → CrashedAt old new u left shown → ReadsLater reads before left
    next-counted script result new ran left shown c = since-start left (counted-left script result names old new ran u begin.some.0 left shown c begin.some.1)

-- ---- ids and aliases

-- what later stores keep
each-later : (P : Store → Type 0) → ((s t : Store) → StoreLater s t → P s → P t) → (before after : List Store) → Each P before → StoresLater before after → Each P after
each-later P keeps before after each later = each-from P after (λ t k. let q = later.each t k in keeps q.0 t q.2 (each-at P before q.0 each q.1))

pub entries-later : (before after : List Store) (sig uid : ℕ) → Each (EntryGone sig uid) before → StoresLater before after → Each (EntryGone sig uid) after
entries-later before after sig uid = each-later (EntryGone sig uid) (λ s t later gone. entry-gone sig uid s t later gone) before after

pub soups-later : (before after : List Store) (sig : ℕ) → Each (SoupGone sig) before → StoresLater before after → Each (SoupGone sig) after
soups-later before after sig = each-later (SoupGone sig) (λ s t later gone. soup-gone sig s t later gone) before after

-- given once, given later
given-later : (s t : Store) (sig uid : ℕ) → StoreLater s t → IdGiven sig uid s → IdGiven sig uid t
given-later s t sig uid later g = record {
  sig_given = let low = g.sig_given in let more = later.next in omega (arith, low, more);
  uid_given = λ q m is. soups q is (later.soups q m);
}
  where
    soups : (q : Soup) → q.sig ≡ sig → ((p : Soup) × Among s.soups p × SoupLater p q) ⊎ (s.next_soup ≤ q.sig) → uid < q.next_uid
    soups q is (inl p) = let low = g.uid_given p.0 p.1 (sym p.2.sig_same ∙ is) in let more = p.2.next in omega (arith, low, more)
    soups q is (inr high) = let low = g.sig_given in absurd (omega (arith, low, high, is))

pub ids-later : (before after : List Store) (sig uid : ℕ) → Each (IdGiven sig uid) before → StoresLater before after → Each (IdGiven sig uid) after
ids-later before after sig uid = each-later (IdGiven sig uid) (λ s t later g. given-later s t sig uid later g) before after

-- an entry of a later store whose id had been given was there
still-there : (s t : Store) (sig uid : ℕ) → IdGiven sig uid s → StoreLater s t → HasEntry sig uid t → HasEntry sig uid s
still-there s t sig uid given later has = soups (later.soups has.soup has.is_soup)
  where
    entries : (p : Soup) → Among s.soups p → SoupLater p has.soup → ((d : Entry) × Among p.entries d × (d.uid ≡ has.entry.uid)) ⊎ (p.next_uid ≤ has.entry.uid) → HasEntry sig uid s
    entries p is l (inl d) = record { soup = p; is_soup = is; sig_is = sym l.sig_same ∙ has.sig_is; entry = d.0; is_entry = d.1; uid_is = d.2 ∙ has.uid_is }
    entries p is l (inr high) = let low = given.uid_given p is (sym l.sig_same ∙ has.sig_is) in absurd (omega (arith, high, low, has.uid_is))

    soups : ((p : Soup) × Among s.soups p × SoupLater p has.soup) ⊎ (s.next_soup ≤ has.soup.sig) → HasEntry sig uid s
    soups (inl p) = entries p.0 p.1 p.2 (p.2.uids has.entry has.is_entry)
    soups (inr high) = let low = given.sig_given in absurd (omega (arith, high, low, has.sig_is))

-- a mounted store is the only one that its unit has
pub mounted-only : (w : World) (u : ℕ) (t : Store) → mounted_store w u ≡ Some t → worlds.stores_on w u ≡ t ∷ []
mounted-only w u t on = go (device w u) on
  where
    media : (b : Bool) (m : Media) → cond b (store_of m) None ≡ Some t → stores_of m ≡ t ∷ []
    media false m e = absurd (none-some t e)
    media true blank e = absurd (none-some t e)
    media true (one s) e = ap (λ (x : Store). x ∷ []) (some-same s t e)
    media true (two a b) e = absurd (none-some t e)
    media true lost e = absurd (none-some t e)

    at : Option Device → List Store
    at o = elim o [ None ↦ [] | Some d ↦ stores_of d.media ]

    go : (o : Option Device) → option_and_then store_if_mounted o ≡ Some t → at o ≡ t ∷ []
    go None e = absurd (none-some t e)
    go (Some d) e = media d.mounted d.media e

-- what an alias resolves to on a unit is an entry of a store that the unit has
resolves-there : (w : World) (a : Alias) (spot : Spot) → resolved w a ≡ Some spot → (t : Store) × Among (worlds.stores_on w spot.unit) t × HasEntry a.soup a.uid t
resolves-there w a spot is = let n = named-by w a spot is in (
  n.on,
  subst (λ (ss : List Store). Among ss n.on) (sym (mounted-only w spot.unit n.on n.mounted_there)) (inl refl),
  record { soup = spot.soup; is_soup = n.is_soup; sig_is = n.soup_is; entry = spot.entry; is_entry = n.is_entry; uid_is = n.uid_is },
)

pub resolves-later : (before : List Store) (w : World) (u : ℕ) (a : Alias) (spot : Spot) → Each (IdGiven a.soup a.uid) before → StoresLater before (worlds.stores_on w u)
    → resolved w a ≡ Some spot → spot.unit ≡ u → (s : Store) × Among before s × HasEntry a.soup a.uid s
resolves-later before w u a spot given later is at =
    let t = resolves-there w a spot is in
    let q = later.each t.0 (subst (λ (n : ℕ). Among (worlds.stores_on w n) t.0) at t.1) in
    (q.0, q.1, still-there q.0 t.0 a.soup a.uid (each-at (IdGiven a.soup a.uid) before q.0 given q.1) q.2 t.2)

pub resolves-nowhere : (before : List Store) (w : World) (u : ℕ) (a : Alias) (spot : Spot) → Each (EntryGone a.soup a.uid) before → StoresLater before (worlds.stores_on w u)
    → resolved w a ≡ Some spot → spot.unit ≡ u → ⊥
resolves-nowhere before w u a spot gone later is at =
    let t = resolves-there w a spot is in
    let g = each-at (EntryGone a.soup a.uid) (worlds.stores_on w u) t.0 (entries-later before (worlds.stores_on w u) a.soup a.uid gone later)
    (subst (λ (n : ℕ). Among (worlds.stores_on w n) t.0) at t.1) in
    g.not_there t.2.soup t.2.entry t.2.is_soup t.2.sig_is t.2.is_entry t.2.uid_is

-- ---- an id of an entry that is there

pub given-there : (s : Store) (sig uid : ℕ) → IsTrue (well_formed s) → HasEntry sig uid s → IdGiven sig uid s
given-there s sig uid w has = record {
  sig_given = subst (λ (n : ℕ). n < s.next_soup) has.sig_is (sig-below has.soup has.is_soup);
  uid_given = λ p m is. let same = one-sig s.soups p has.soup (soups-rise s w) m has.is_soup (is ∙ sym has.sig_is) in
      subst (λ (q : Soup). uid < q.next_uid) (sym same) (subst (λ (n : ℕ). n < has.soup.next_uid) has.uid_is (uid-below has.soup has.is_soup has.entry has.is_entry));
}
  where
    sig-below : (p : Soup) → Among s.soups p → p.sig < s.next_soup
    sig-below p m = (each-at (λ n. (0 ≤ n) × (n < s.next_soup)) (map (λ (p : Soup). p.sig) s.soups) p.sig
        (rises-above 0 s.next_soup (map (λ (p : Soup). p.sig) s.soups) (is-store s w).sigs) (map-among (λ (p : Soup). p.sig) s.soups p m)).1

    uid-below : (p : Soup) → Among s.soups p → (e : Entry) → Among p.entries e → e.uid < p.next_uid
    uid-below p m e k = (each-at (λ n. (0 ≤ n) × (n < p.next_uid)) (map (λ (e : Entry). e.uid) p.entries) e.uid
        (rises-above 0 p.next_uid (map (λ (e : Entry). e.uid) p.entries) (good p m).uids) (map-among (λ (e : Entry). e.uid) p.entries e k)).1
      where
        good : (p : Soup) → Among s.soups p → IsSoup p
        good p m = is-soup p (each-at (λ (p : Soup). valid_soup p ≡ true) s.soups p (each-list_all valid_soup s.soups (is-store s w).soups_fit) m)
