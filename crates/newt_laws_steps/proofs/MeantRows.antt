-- The tables do not go by what is held on a unit of which nothing is known.
use Rattle.std.proofs.Common.{◌≡◌, refl, ap, sym, ◌∙◌, ℕ, ◌+◌, List, [], ◌∷◌, ◌++◌, length, map, filter, find, true, false, Bool, not, ◌||◌, ◌&&◌, cond, Option, Some, None, option_map, option_and_then, is_none, unwrap_or, if◌then◌else◌, nat_lt, nat_le, ◌==◌, ◌⊎◌, inl, inr}
use Rattle.std.specs.Prelude.{filter_map, is_some}
use Rattle.std.specs.List.{list_any}
use Rattle.newt_base.specs.Refusals.{Checks, first_of}
use Rattle.newt_base.specs.declared.Refusal.{Refusal}
use Rattle.newt_base.specs.declared.Refusal.TheVariants.{Unit as NoUnit, Blocks, Mounted, Notmounted, Nostore, Store as HasStore, Stores as ManyStores, Signature, Soup as NoSoup, Exists, Entry as NoEntry, Path as NoPath, Range, Index as BadIndex, Key as BadKey, Limit, Size, Ids, Full}
use Rattle.newt_graph.specs.Graph.{RawGraph}
use Rattle.newt_graph.specs.Meeting.{normal_form}
use Rattle.newt_spec_graph.specs.Limits.{is_within}
use Rattle.newt_spec_graph.specs.Larges.{large_at, large_bytes}
use Rattle.newt_spec_graph.specs.Slots.{put}
use Rattle.newt_spec_image.specs.Pages.{cap}
use Rattle.newt_spec_store.specs.Keys.{Path, IndexSpec, has_paths}
use Rattle.newt_spec_store.specs.Store.{Store, Soup, Entry, soup_named, entry_of, change_soup, change_entry, make_soup, drop_soup, add_entry, remove_entry, new_store, with_index, without_index, with_graph, with_tags, with_info}
use Rattle.newt_spec_store.specs.Cost.{cost, skeleton_length}
use Rattle.newt_spec_query.specs.Spec.{query_paths, keys_fit, spec_of}
use Rattle.newt_spec_query.specs.Hits.{Query, Hit, hits, in_scope}
use Rattle.newt_spec_query.specs.Cursor.{Cursor, first_place, last_place, next_place, previous_place, moved}
use Rattle.newt_spec_world.specs.declared.command.Command.{Command}
use Rattle.newt_spec_world.specs.declared.command.Command.TheVariants as command
use Rattle.newt_spec_world.specs.World.{World, Device, Media, blank, one, two, lost, is_unsure, default_unit, flat, device, on_unit, store_of, store_on_unit, mounted, mounted_store, mounted_stores, soup_in, entry_in, cursor, free_cursor, hits_of, unsure_on, change_device, change_store, change_media, change_soup_in, settle, settle_cursor}
use Rattle.newt_spec_world.specs.Changed.{changed, mark, default_without, first_of_list, copy_to, sig_of, index_in_soup, index_for, index_of, query_of, open_at, open_cursor, opened, Step as Stepped, step_from, stepped, hit_in, hit_for, put_on, go_to, cloned, go_to_key, graph_after_set, info_from, spec_of_words, patched}
use Rattle.newt_spec_world.specs.Refused.{Check, checks, on_some, either, no_unit, bad_blocks, is_mounted, not_mounted, no_store, has_store, four_mounted, same_signature, no_soup, soup_exists, no_entry, no_more_ids, no_more_soups, soup_limit, full, not_frame, too_large, no_path, past_limits, set_too_large, no_large, out_of_range, index_exists, no_index, real_part, index_limit, bad_info, info_too_large, no_soup_anywhere, bad_query, no_query_index, bad_keys, no_free_cursor, no_cursor, not_a_hit}
use Rattle.newt_spec_world.specs.Alias.{Alias, Spot, resolved}
use Rattle.newt_spec_world.specs.Answer.{spot_of}
use Rattle.newt_spec_world.specs.Step.{look_checks, unsure_look, looks_anew}
use Rattle.newt_laws_world.proofs.Kept.{AllFalse, all-false}
use Rattle.newt_laws_world.proofs.Units.{mapped, same-or-not, device-other, device-same}
use Rattle.newt_spec_graph.proofs.Lists.{none-some}
use Rattle.newt_laws_steps.specs.Meant.{over, over_device, meant_by, MountedSure}
use Rattle.newt_laws_steps.proofs.Kept.{kept-copy, unsure-by}
use Rattle.newt_laws_steps.proofs.Stepping.{kept-sure, row-sure}
use Rattle.newt_laws_steps.proofs.Meant.{device-m, change-m, stores-m, mounted-m, store-m, soup-m, entry-m}

-- ---- words

pub both-ways : {A : Type 0} (b : Bool) → b ≡ true → b ≡ false → A
both-ways b h k = cc

pub left-false : (a b : Bool) → (a || b) ≡ false → a ≡ false
left-false true b h = cc
left-false false b h = refl

pub right-false : (a b : Bool) → (a || b) ≡ false → b ≡ false
right-false true b h = cc
right-false false b h = h

is-none-map : {X Y : Type 0} (g : X → Y) (o : Option X) → is_none (option_map g o) ≡ is_none o
is-none-map g None = refl
is-none-map g (Some x) = refl

-- tests in front are the same, and where none of them holds, those after are
with-rest : (ks ls ms ns : Checks) → ks ≡ ls → (first_of ls ≡ None → ms ≡ ns) → first_of (ks ++ ms) ≡ first_of (ls ++ ns)
with-rest ks ls ms ns same rest = ap (λ (x : Checks). first_of (x ++ ms)) same ∙ after ls rest
  where
    after : (ls : Checks) → (first_of ls ≡ None → ms ≡ ns) → first_of (ls ++ ms) ≡ first_of (ls ++ ns)
    after [] rest = ap first_of (rest refl)
    after ((r, true) ∷ ls) rest = refl
    after ((r, false) ∷ ls) rest = after ls rest

over-change : (m : Media) (h : Store → Store) (n : Media) → is_unsure n ≡ false → change_media h (over m n) ≡ over m (change_media h n)
over-change m h blank e = refl
over-change m h (one s) e = refl
over-change m h (two a b) e = refl
over-change m h lost e = cc

over-store : (m n : Media) → is_unsure n ≡ false → store_of (over m n) ≡ store_of n
over-store m blank e = refl
over-store m (one s) e = refl
over-store m (two a b) e = refl
over-store m lost e = cc

-- ---- a unit of which it is known what it holds

module _ (f : ℕ → Media) (w : World) where
  store-change-m : (u : ℕ) (h : Store → Store) → unsure_on w u ≡ false → change_store (meant_by f w) u h ≡ meant_by f (change_store w u h)
  store-change-m u h sure = change-m f w u (λ d. record d { media = change_media h d.media }) (λ d e. ap {A = Media} {B = Device} (λ x. record d { media = x }) (over-change (f u) h d.media (sym (unsure-by w u d e) ∙ sure)))

  soup-change-m : (u : ℕ) (name : List ℕ) (h : Soup → Soup) → unsure_on w u ≡ false → change_soup_in (meant_by f w) u name h ≡ meant_by f (change_soup_in w u name h)
  soup-change-m u name h sure = store-change-m u (change_soup name h) sure

  copy-change-m : (u : ℕ) (name : List ℕ) (o : Option Entry) → unsure_on w u ≡ false → copy_to (meant_by f w) u name o ≡ meant_by f (copy_to w u name o)
  copy-change-m u name None sure = refl
  copy-change-m u name (Some e) sure = soup-change-m u name (add_entry w.minute e.graph) sure

  unit-store-m : (u : ℕ) → unsure_on w u ≡ false → store_on_unit (meant_by f w) u ≡ store_on_unit w u
  unit-store-m u sure = ap (option_and_then (λ (d : Device). store_of d.media)) (device-m f w u) ∙ go (device w u) refl
    where
      go : (o : Option Device) → device w u ≡ o → option_and_then (λ (d : Device). store_of d.media) (option_map (over_device (f u)) o) ≡ option_and_then (λ (d : Device). store_of d.media) o
      go None e = refl
      go (Some d) e = over-store (f u) d.media (sym (unsure-by w u d e) ∙ sure)

-- the cost of what is held is tested
abbrev cost_test : Option Device → Check
cost_test o = (Full, on_some o (λ d. on_some (store_of d.media) (λ s. nat_lt (cap d.blocks) (cost s))))

cost-m : (f : ℕ → Media) (x : World) (u : ℕ) → unsure_on x u ≡ false → cost_test (device (meant_by f x) u) ≡ cost_test (device x u)
cost-m f x u sure = ap cost_test (device-m f x u) ∙ go (device x u) refl
  where
    go : (o : Option Device) → device x u ≡ o → cost_test (option_map (over_device (f u)) o) ≡ cost_test o
    go None e = refl
    go (Some d) e = ap (λ (o : Option Store). let k : Check = (Full, on_some o (λ s. nat_lt (cap d.blocks) (cost s))) in k) (over-store (f u) d.media (sym (unsure-by x u d e) ∙ sure))

-- it is known of the units whose stores a command changes what they hold
abbrev pub Touched : World → Command → Type 0
Touched w (command.Soup u s) = unsure_on w u ≡ false
Touched w (command.Drop u s) = unsure_on w u ≡ false
Touched w (command.Index u s parts) = unsure_on w u ≡ false
Touched w (command.Unindex u s paths) = unsure_on w u ≡ false
Touched w (command.SetTags u s path symbols) = unsure_on w u ≡ false
Touched w (command.SetInfo u s g) = unsure_on w u ≡ false
Touched w (command.Add u s g) = unsure_on w u ≡ false
Touched w (command.Addx u s g) = unsure_on w u ≡ false
Touched w (command.Addu s g) = unsure_on w (default_unit w) ≡ false
Touched w (command.Set u s uid path g) = unsure_on w u ≡ false
Touched w (command.Change u s uid g) = unsure_on w u ≡ false
Touched w (command.Remove u s uid) = unsure_on w u ≡ false
Touched w (command.Vwrite u s uid path at bytes) = unsure_on w u ≡ false
Touched w (command.Copy u s uid v t) = unsure_on w v ≡ false
Touched w (command.Move u s uid v t) = (unsure_on w u ≡ false) × (unsure_on w v ≡ false)
Touched w c = Unit {0}

-- the entry of an alias among mounted stores
abbrev resolved_in : List (ℕ × Store) → Alias → Option Spot
resolved_in ms a = option_and_then (λ m. option_and_then (λ p. option_map (λ e. record { unit = m.0; soup = p; entry = e })
    (entry_of a.uid p)) (find (λ p. p.sig == a.soup) m.1.soups))
    (find (λ m. m.1.sig == a.store) ms)

module _ (f : ℕ → Media) (w : World) (sure : MountedSure w) where
  pub hits-m : (q : Query) → hits_of (meant_by f w) q ≡ hits_of w q
  hits-m q = ap (λ (ss : List Store). hits ss q) (stores-m f w sure)

  sig-m : (u : ℕ) → sig_of (meant_by f w) u ≡ sig_of w u
  sig-m u = ap (λ (o : Option Store). let n : ℕ = elim o [ None ↦ 0 | Some s ↦ s.sig ] in n) (store-m f w sure u)

  index-for-m : (scope : Option ℕ) (name : List ℕ) (paths : List Path) → index_for (meant_by f w) scope name paths ≡ index_for w scope name paths
  index-for-m scope name paths = ap (λ (ss : List Store). first_of_list (filter_map (λ s. index_in_soup paths (soup_named name s)) (filter (in_scope scope) ss))) (stores-m f w sure)

  index-m : (scope : Option ℕ) (name : List ℕ) (g : RawGraph) → index_of (meant_by f w) scope name g ≡ index_of w scope name g
  index-m scope name g = go (query_paths g)
    where
      go : (o : Option (List Path)) → ◌≡◌ {A = Option IndexSpec} (elim o [ None ↦ Some [] | Some paths ↦ index_for (meant_by f w) scope name paths ]) (elim o [ None ↦ Some [] | Some paths ↦ index_for w scope name paths ])
      go None = refl
      go (Some paths) = index-for-m scope name paths

  query-m : (scope : Option ℕ) (name : List ℕ) (g : RawGraph) → query_of (meant_by f w) scope name g ≡ query_of w scope name g
  query-m scope name g = ap {A = Option IndexSpec} {B = Query} (λ o. record { scope = scope; name = name; spec = spec_of g (unwrap_or o []) }) (index-m scope name g)

  hit-m : (u uid : ℕ) (k : Cursor) → hit_for (meant_by f w) u uid k ≡ hit_for w u uid k
  hit-m u uid k = ap (λ (o : Option Soup). hit_in (meant_by f w) u uid k o) (soup-m f w sure u k.query.name) ∙ go (soup_in w u k.query.name)
    where
      go : (o : Option Soup) → hit_in (meant_by f w) u uid k o ≡ hit_in w u uid k o
      go None = refl
      go (Some p) = λ i. find (λ h. (h.store == sig-m u i) && (h.soup == p.sig) && (h.uid == uid)) (hits-m k.query i)

  pub resolved-m : (a : Alias) → resolved (meant_by f w) a ≡ resolved w a
  resolved-m a = ap (λ (ms : List (ℕ × Store)). resolved_in ms a) (mounted-m f w sure)

  pub spot-m : (h : Hit) → spot_of (meant_by f w) h ≡ spot_of w h
  spot-m h = resolved-m (record { store = h.store; soup = h.soup; uid = h.uid })

  -- ---- the tests

  no_unit-m : (u : ℕ) → no_unit (meant_by f w) u ≡ no_unit w u
  no_unit-m u = ap {A = Bool} {B = Check} (λ b. (NoUnit, b)) (ap is_none (device-m f w u) ∙ is-none-map (over_device (f u)) (device w u))

  bad_blocks-m : (u : ℕ) → bad_blocks (meant_by f w) u ≡ bad_blocks w u
  bad_blocks-m u = ap tested (device-m f w u) ∙ go (device w u)
    where
      tested : Option Device → Check
      tested o = (Blocks, elim o [ None ↦ true | Some d ↦ nat_lt d.blocks 13 || nat_lt 4099 d.blocks ])

      go : (o : Option Device) → tested (option_map (over_device (f u)) o) ≡ tested o
      go None = refl
      go (Some d) = refl

  is_mounted-m : (u : ℕ) → is_mounted (meant_by f w) u ≡ is_mounted w u
  is_mounted-m u = ap (λ (o : Option Store). let k : Check = (Mounted, is_some o) in k) (store-m f w sure u)

  not_mounted-m : (u : ℕ) → not_mounted (meant_by f w) u ≡ not_mounted w u
  not_mounted-m u = ap (λ (o : Option Store). let k : Check = (Notmounted, is_none o) in k) (store-m f w sure u)

  no_store-m : (u : ℕ) → unsure_on w u ≡ false → no_store (meant_by f w) u ≡ no_store w u
  no_store-m u h = ap (λ (o : Option Store). let k : Check = (Nostore, is_none o) in k) (unit-store-m f w u h)

  has_store-m : (u : ℕ) → unsure_on w u ≡ false → has_store (meant_by f w) u ≡ has_store w u
  has_store-m u h = ap (λ (o : Option Store). let k : Check = (HasStore, is_some o) in k) (unit-store-m f w u h)

  four_mounted-m : four_mounted (meant_by f w) ≡ four_mounted w
  four_mounted-m = ap (λ (ms : List (ℕ × Store)). let k : Check = (ManyStores, nat_le 4 (length ms)) in k) (mounted-m f w sure)

  same_signature-m : (u : ℕ) → unsure_on w u ≡ false → same_signature (meant_by f w) u ≡ same_signature w u
  same_signature-m u h = λ i. (Signature, elim (unit-store-m f w u h i) [ None ↦ false | Some s ↦ list_any (λ t. t.sig == s.sig) (stores-m f w sure i) ])

  no_soup-m : (u : ℕ) (name : List ℕ) → no_soup (meant_by f w) u name ≡ no_soup w u name
  no_soup-m u name = ap (λ (o : Option Soup). let k : Check = (NoSoup, is_none o) in k) (soup-m f w sure u name)

  soup_exists-m : (u : ℕ) (name : List ℕ) → soup_exists (meant_by f w) u name ≡ soup_exists w u name
  soup_exists-m u name = ap (λ (o : Option Soup). let k : Check = (Exists, is_some o) in k) (soup-m f w sure u name)

  no_entry-m : (u : ℕ) (name : List ℕ) (uid : ℕ) → no_entry (meant_by f w) u name uid ≡ no_entry w u name uid
  no_entry-m u name uid = ap (λ (o : Option Entry). let k : Check = (NoEntry, is_none o) in k) (entry-m f w sure u name uid)

  on-soup : (r : Refusal) (t : Soup → Bool) (u : ℕ) (name : List ℕ) → ◌≡◌ {A = Check} (r, on_some (soup_in (meant_by f w) u name) t) (r, on_some (soup_in w u name) t)
  on-soup r t u name = ap (λ (o : Option Soup). let k : Check = (r, on_some o t) in k) (soup-m f w sure u name)

  on-entry : (r : Refusal) (t : Entry → Bool) (u : ℕ) (name : List ℕ) (uid : ℕ) → ◌≡◌ {A = Check} (r, on_some (entry_in (meant_by f w) u name uid) t) (r, on_some (entry_in w u name uid) t)
  on-entry r t u name uid = ap (λ (o : Option Entry). let k : Check = (r, on_some o t) in k) (entry-m f w sure u name uid)

  on-store : (r : Refusal) (t : Store → Bool) (u : ℕ) → ◌≡◌ {A = Check} (r, on_some (mounted_store (meant_by f w) u) t) (r, on_some (mounted_store w u) t)
  on-store r t u = ap (λ (o : Option Store). let k : Check = (r, on_some o t) in k) (store-m f w sure u)

  no_more_ids-m : (u : ℕ) (name : List ℕ) → no_more_ids (meant_by f w) u name ≡ no_more_ids w u name
  no_more_ids-m u name = on-soup Ids (λ p. p.next_uid == 536_870_911) u name

  no_more_soups-m : (u : ℕ) → no_more_soups (meant_by f w) u ≡ no_more_soups w u
  no_more_soups-m u = on-store Ids (λ s. s.next_soup == 65_535) u

  soup_limit-m : (u : ℕ) → soup_limit (meant_by f w) u ≡ soup_limit w u
  soup_limit-m u = on-store Limit (λ s. nat_le 250 (length s.soups)) u

  no_path-m : (u : ℕ) (s : List ℕ) (uid : ℕ) (path : Path) (g : RawGraph) → no_path (meant_by f w) u s uid path g ≡ no_path w u s uid path g
  no_path-m u s uid path g = on-entry NoPath (λ e. is_none (put e.graph path g)) u s uid

  past_limits-m : (u : ℕ) (s : List ℕ) (uid : ℕ) (path : Path) (g : RawGraph) → past_limits (meant_by f w) u s uid path g ≡ past_limits w u s uid path g
  past_limits-m u s uid path g = on-entry Limit (λ e. on_some (put e.graph path g) (λ h. not (is_within (normal_form h)))) u s uid

  set_too_large-m : (u : ℕ) (s : List ℕ) (uid : ℕ) (path : Path) (g : RawGraph) → set_too_large (meant_by f w) u s uid path g ≡ set_too_large w u s uid path g
  set_too_large-m u s uid path g = on-entry Size (λ e. nat_lt 64_000 (skeleton_length (graph_after_set path g e.graph))) u s uid

  no_large-m : (u : ℕ) (s : List ℕ) (uid : ℕ) (path : Path) → no_large (meant_by f w) u s uid path ≡ no_large w u s uid path
  no_large-m u s uid path = on-entry NoPath (λ e. is_none (large_at e.graph path)) u s uid

  out_of_range-m : (u : ℕ) (s : List ℕ) (uid : ℕ) (path : Path) (upto : ℕ) → out_of_range (meant_by f w) u s uid path upto ≡ out_of_range w u s uid path upto
  out_of_range-m u s uid path upto = on-entry Range (λ e. nat_lt (length (large_bytes e.graph path)) upto) u s uid

  index_exists-m : (u : ℕ) (s : List ℕ) (paths : List Path) → index_exists (meant_by f w) u s paths ≡ index_exists w u s paths
  index_exists-m u s paths = on-soup BadIndex (λ p. has_paths paths p.specs) u s

  no_index-m : (u : ℕ) (s : List ℕ) (paths : List Path) → no_index (meant_by f w) u s paths ≡ no_index w u s paths
  no_index-m u s paths = ap (λ (o : Option Soup). let k : Check = (BadIndex, not (on_some o (λ p. has_paths paths p.specs))) in k) (soup-m f w sure u s)

  index_limit-m : (u : ℕ) (s : List ℕ) → index_limit (meant_by f w) u s ≡ index_limit w u s
  index_limit-m u s = on-soup Limit (λ p. nat_le 16 (length p.specs)) u s

  no_soup_anywhere-m : (name : List ℕ) → no_soup_anywhere (meant_by f w) name ≡ no_soup_anywhere w name
  no_soup_anywhere-m name = λ i. (NoSoup, not (list_any (λ m. is_some (soup-m f w sure m.0 name i)) (mounted-m f w sure i)))

  no_query_index-m : (scope : Option ℕ) (name : List ℕ) (g : RawGraph) → no_query_index (meant_by f w) scope name g ≡ no_query_index w scope name g
  no_query_index-m scope name g = ap (λ (o : Option IndexSpec). let k : Check = (BadIndex, is_none o) in k) (index-m scope name g)

  bad_keys-m : (scope : Option ℕ) (name : List ℕ) (g : RawGraph) → bad_keys (meant_by f w) scope name g ≡ bad_keys w scope name g
  bad_keys-m scope name g = ap (λ (o : Option IndexSpec). let k : Check = (BadKey, on_some o (λ spec. not (keys_fit g spec))) in k) (index-m scope name g)

  not_a_hit-m : (c u uid : ℕ) → not_a_hit (meant_by f w) c u uid ≡ not_a_hit w c u uid
  not_a_hit-m c u uid = λ i. (NoEntry, on_some (cursor w c) (λ k. is_none (hit-m u uid k i)))

  -- ---- what is mounted is known

  pub sure-of : (u : ℕ) → is_none (mounted_store w u) ≡ false → unsure_on w u ≡ false
  sure-of u h = go (device w u) refl h
    where
      by : (d : Device) → device w u ≡ Some d → (b : Bool) → d.mounted ≡ b → is_none (cond b (store_of d.media) None) ≡ false → is_unsure d.media ≡ false
      by d e true m k = sure u d e m
      by d e false m k = cc

      go : (o : Option Device) → device w u ≡ o → is_none (on_unit o) ≡ false → unsure_on w u ≡ false
      go None e k = cc
      go (Some d) e k = unsure-by w u d e ∙ by d e d.mounted refl k

  looked : (u : ℕ) → unsure_look w u ≡ None → first_of (look_checks w u) ≡ None → unsure_on w u ≡ false
  looked u anew none = go (unsure_on w u) refl
    where
      go : (b : Bool) → unsure_on w u ≡ b → unsure_on w u ≡ false
      go false e = e
      go true e = absurd (none-some u (sym anew ∙ ap (λ (o : Option Refusal). let x : Option ℕ = if is_none o && unsure_on w u then Some u else None in x) none
          ∙ ap (λ (b : Bool). let x : Option ℕ = if b then Some u else None in x) e))

  -- ---- the table of changes

  open-m : (k : Cursor) (o : Option ℕ) → open_at (meant_by f w) k o ≡ meant_by f (open_at w k o)
  open-m k None = refl
  open-m k (Some c) = refl

  opened-m : (q : Query) → opened (meant_by f w) q ≡ meant_by f (opened w q)
  opened-m q = ap (λ (hs : List Hit). open_cursor (meant_by f w) (record { query = q; place = first_place hs })) (hits-m q) ∙ open-m (record { query = q; place = first_place (hits_of w q) }) (free_cursor w)

  stepped-m : (c : ℕ) (step : Stepped) → stepped (meant_by f w) c step ≡ meant_by f (stepped w c step)
  stepped-m c step = go (cursor w c)
    where
      go : (o : Option Cursor) → step_from (meant_by f w) c step o ≡ meant_by f (step_from w c step o)
      go None = refl
      go (Some k) = ap (λ (hs : List Hit). Rattle.newt_spec_world.specs.World.set_place (meant_by f w) c (step hs k.query.spec.index k.place)) (hits-m k.query)

  put-m : (c : ℕ) (o : Option Hit) → put_on (meant_by f w) c o ≡ meant_by f (put_on w c o)
  put-m c None = refl
  put-m c (Some h) = refl

  goto-m : (c u uid : ℕ) → go_to (meant_by f w) c u uid ≡ meant_by f (go_to w c u uid)
  goto-m c u uid = go (cursor w c)
    where
      go : (o : Option Cursor) → put_on (meant_by f w) c (option_and_then (hit_for (meant_by f w) u uid) o) ≡ meant_by f (put_on w c (option_and_then (hit_for w u uid) o))
      go None = refl
      go (Some k) = ap (put_on (meant_by f w) c) (hit-m u uid k) ∙ put-m c (hit_for w u uid k)

  cloned-m : (o : Option Cursor) → cloned (meant_by f w) o ≡ meant_by f (cloned w o)
  cloned-m None = refl
  cloned-m (Some k) = open-m k (free_cursor w)

  mark-m : (u : ℕ) (b : Bool) → mark (meant_by f w) u b ≡ meant_by f (mark w u b)
  mark-m u b = change-m f w u (λ d. record d { mounted = b }) (λ d e. refl)

pub without-m : (f : ℕ → Media) (v : World) (u : ℕ) → MountedSure v → default_without (meant_by f v) u ≡ default_without v u
without-m f v u sure = ap (λ (ms : List (ℕ × Store)). let o : Option ℕ = elim v.default [
  | None ↦ None
  | Some d ↦ cond (u == d) (option_map (λ m. m.0) (first_of_list ms)) (Some d)
] in o) (mounted-m f v sure)

module _ (f : ℕ → Media) (w : World) (sure : MountedSure w) where
  query_index-m : (u : ℕ) (s : List ℕ) (g : RawGraph) → no_query_index (meant_by f w) (Some (sig_of (meant_by f w) u)) s g ≡ no_query_index w (Some (sig_of w u)) s g
  query_index-m u s g = ap (λ n. no_query_index (meant_by f w) (Some n) s g) (sig-m f w sure u) ∙ no_query_index-m f w sure (Some (sig_of w u)) s g

  query_keys-m : (u : ℕ) (s : List ℕ) (g : RawGraph) → bad_keys (meant_by f w) (Some (sig_of (meant_by f w) u)) s g ≡ bad_keys w (Some (sig_of w u)) s g
  query_keys-m u s g = ap (λ n. bad_keys (meant_by f w) (Some n) s g) (sig-m f w sure u) ∙ bad_keys-m f w sure (Some (sig_of w u)) s g

  marked-sure : (u : ℕ) → MountedSure (mark w u false)
  marked-sure u n d e m = go (same-or-not n u)
    where
      go : (n ≡ u) ⊎ (n ≡ u → ⊥) → is_unsure d.media ≡ false
      go (inl is) = let r = mapped (λ (x : Device). record x { mounted = false }) (device w u) d (sym (device-same w u (λ x. record x { mounted = false })) ∙ ap (device (mark w u false)) (sym is) ∙ e) in
          both-ways false (ap (λ (x : Device). x.mounted) r.2 ∙ m) refl
      go (inr differs) = sure n d (sym (device-other w u (λ x. record x { mounted = false }) n differs) ∙ e) m

  pub changed-m : (c : Command) → Touched w c → changed (meant_by f w) c ≡ meant_by f (changed w c)
  unfolding changed
  changed-m (command.Time t) h = refl
  changed-m (command.Format u name sig) h = change-m f w u (λ d. record d { media = one (new_store name sig); mounted = false }) (λ d e. refl)
  changed-m (command.Mount u) h = ap {A = World} {B = World} (λ x. record x { default = Some (unwrap_or w.default u) }) (mark-m f w sure u true)
  changed-m (command.Unmount u) h = ap {A = World} {B = World} (λ x. record x { default = default_without x u }) (mark-m f w sure u false)
      ∙ ap {A = Option ℕ} {B = World} (λ o. record (meant_by f (mark w u false)) { default = o }) (without-m f (mark w u false) u (marked-sure u))
  changed-m (command.Default u) h = refl
  changed-m (command.Soup u name) h = store-change-m f w u (make_soup name) h
  changed-m (command.Drop u s) h = store-change-m f w u (drop_soup s) h
  changed-m (command.Index u s parts) h = soup-change-m f w u s (with_index (spec_of_words parts)) h
  changed-m (command.Unindex u s paths) h = soup-change-m f w u s (without_index paths) h
  changed-m (command.SetTags u s path symbols) h = soup-change-m f w u s (with_tags (Some (record { path = path; symbols = symbols }))) h
  changed-m (command.SetInfo u s g) h = soup-change-m f w u s (with_info (info_from g)) h
  changed-m (command.Add u s g) h = soup-change-m f w u s (add_entry w.minute g) h
  changed-m (command.Addx u s g) h = soup-change-m f w u s (add_entry w.minute g) h
  changed-m (command.Addu s g) h = soup-change-m f w (default_unit w) s (add_entry w.minute g) h
  changed-m (command.Set u s uid path g) h = soup-change-m f w u s (change_entry uid (λ e. with_graph w.minute (graph_after_set path g e.graph) e)) h
  changed-m (command.Change u s uid g) h = soup-change-m f w u s (change_entry uid (with_graph w.minute g)) h
  changed-m (command.Remove u s uid) h = soup-change-m f w u s (remove_entry uid) h
  changed-m (command.Copy u s uid v t) h = ap (copy_to (meant_by f w) v t) (entry-m f w sure u s uid) ∙ copy-change-m f w v t (entry_in w u s uid) h
  changed-m (command.Move u s uid v t) h =
      ap (λ (x : World). change_soup_in x u s (remove_entry uid)) (ap (copy_to (meant_by f w) v t) (entry-m f w sure u s uid) ∙ copy-change-m f w v t (entry_in w u s uid) h.1)
      ∙ soup-change-m f (copy_to w v t (entry_in w u s uid)) u s (remove_entry uid) (kept-sure w (copy_to w v t (entry_in w u s uid)) u (kept-copy w v t (entry_in w u s uid) u) h.0)
  changed-m (command.Vwrite u s uid path at bytes) h = soup-change-m f w u s (change_entry uid (λ e. record e { graph = patched path at bytes e.graph })) h
  changed-m (command.Query u s g) h = ap (opened (meant_by f w)) (ap (λ n. query_of (meant_by f w) (Some n) s g) (sig-m f w sure u) ∙ query-m f w sure (Some (sig_of w u)) s g) ∙ opened-m f w sure (query_of w (Some (sig_of w u)) s g)
  changed-m (command.QueryAll s g) h = ap (opened (meant_by f w)) (query-m f w sure None s g) ∙ opened-m f w sure (query_of w None s g)
  changed-m (command.Next c) h = stepped-m f w sure c next_place
  changed-m (command.Prev c) h = stepped-m f w sure c previous_place
  changed-m (command.Reset c) h = stepped-m f w sure c (λ hs _ _. first_place hs)
  changed-m (command.End c) h = stepped-m f w sure c (λ hs _ _. last_place hs)
  changed-m (command.Moveby c k) h = stepped-m f w sure c (moved k)
  changed-m (command.Goto c u uid) h = goto-m f w sure c u uid
  changed-m (command.Gotokey c g) h = stepped-m f w sure c (go_to_key g)
  changed-m (command.Clone c) h = cloned-m f w sure (cursor w c)
  changed-m (command.Close c) h = refl
  changed-m c h = refl

  full-m : (u : ℕ) (c : Command) → Touched w c → unsure_on w u ≡ false → full (meant_by f w) u c ≡ full w u c
  full-m u c touched h = ap (λ (x : World). cost_test (device x u)) (changed-m c touched) ∙ cost-m f (changed w c) u (row-sure w c u h)

module _ (f : ℕ → Media) (w : World) (sure : MountedSure w) where
  -- tests in front that are the same, and that of the cost after them
  then-full : (u : ℕ) (c : Command) (front : World → Checks) → front (meant_by f w) ≡ front w → (AllFalse (front w) → Touched w c × (unsure_on w u ≡ false))
      → first_of (front (meant_by f w) ++ full (meant_by f w) u c ∷ []) ≡ first_of (front w ++ full w u c ∷ [])
  then-full u c front same known = with-rest (front (meant_by f w)) (front w) (full (meant_by f w) u c ∷ []) (full w u c ∷ []) same
      (λ none. let k = known (all-false (front w) none) in ap {A = Check} (λ x. x ∷ []) (full-m f w sure u c k.0 k.1))

  -- of a command that changes a unit that is mounted
  own-full : (u : ℕ) (c : Command) (front : World → Checks) → front (meant_by f w) ≡ front w → (unsure_on w u ≡ false → Touched w c) → (AllFalse (front w) → is_none (mounted_store w u) ≡ false)
      → first_of (front (meant_by f w) ++ full (meant_by f w) u c ∷ []) ≡ first_of (front w ++ full w u c ∷ [])
  own-full u c front same touched on = then-full u c front same (λ tests. let k = sure-of f w sure u (on tests) in (touched k, k))

  -- the other of two units is mounted
  other-known : (u v : ℕ) → (either (not_mounted w u) (not_mounted w v)).1 ≡ false → unsure_on w v ≡ false
  other-known u v none = sure-of f w sure v (right-false (not_mounted w u).1 (not_mounted w v).1 none)

  one-known : (u v : ℕ) → (either (not_mounted w u) (not_mounted w v)).1 ≡ false → unsure_on w u ≡ false
  one-known u v none = sure-of f w sure u (left-false (not_mounted w u).1 (not_mounted w v).1 none)

  -- the tests of a soup on a unit, of an entry of it, and of two soups
  soup-tests : (u : ℕ) (s : List ℕ) → ◌≡◌ {A = Checks} (no_unit (meant_by f w) u ∷ not_mounted (meant_by f w) u ∷ no_soup (meant_by f w) u s ∷ []) (no_unit w u ∷ not_mounted w u ∷ no_soup w u s ∷ [])
  soup-tests u s = λ i. no_unit-m f w sure u i ∷ not_mounted-m f w sure u i ∷ no_soup-m f w sure u s i ∷ []

  entry-tests : (u : ℕ) (s : List ℕ) (uid : ℕ)
      → ◌≡◌ {A = Checks} (no_unit (meant_by f w) u ∷ not_mounted (meant_by f w) u ∷ no_soup (meant_by f w) u s ∷ no_entry (meant_by f w) u s uid ∷ []) (no_unit w u ∷ not_mounted w u ∷ no_soup w u s ∷ no_entry w u s uid ∷ [])
  entry-tests u s uid = λ i. no_unit-m f w sure u i ∷ not_mounted-m f w sure u i ∷ no_soup-m f w sure u s i ∷ no_entry-m f w sure u s uid i ∷ []

  abbrev copy_tests : World → ℕ → List ℕ → ℕ → ℕ → List ℕ → Checks
  copy_tests x u s uid v t = either (no_unit x u) (no_unit x v) ∷ either (not_mounted x u) (not_mounted x v) ∷ either (no_soup x u s) (no_soup x v t) ∷ no_entry x u s uid ∷ no_more_ids x v t ∷ []

  copy-tests : (u : ℕ) (s : List ℕ) (uid v : ℕ) (t : List ℕ) → copy_tests (meant_by f w) u s uid v t ≡ copy_tests w u s uid v t
  copy-tests u s uid v t = λ i. either (no_unit-m f w sure u i) (no_unit-m f w sure v i) ∷ either (not_mounted-m f w sure u i) (not_mounted-m f w sure v i)
      ∷ either (no_soup-m f w sure u s i) (no_soup-m f w sure v t i) ∷ no_entry-m f w sure u s uid i ∷ no_more_ids-m f w sure v t i ∷ []

  abbrev add_tests : World → ℕ → List ℕ → RawGraph → Checks
  add_tests x u s g = no_unit x u ∷ not_mounted x u ∷ no_soup x u s ∷ not_frame g ∷ too_large g ∷ no_more_ids x u s ∷ []

  add-tests : (u : ℕ) (s : List ℕ) (g : RawGraph) → add_tests (meant_by f w) u s g ≡ add_tests w u s g
  add-tests u s g = λ i. no_unit-m f w sure u i ∷ not_mounted-m f w sure u i ∷ no_soup-m f w sure u s i ∷ not_frame g ∷ too_large g ∷ no_more_ids-m f w sure u s i ∷ []

  pub first-m : (c : Command) → looks_anew w c ≡ None → first_of (checks (meant_by f w) c) ≡ first_of (checks w c)
  unfolding checks
  first-m (command.Unmount u) anew = λ i. first_of (no_unit-m f w sure u i ∷ not_mounted-m f w sure u i ∷ [])
  first-m (command.Default u) anew = λ i. first_of (no_unit-m f w sure u i ∷ not_mounted-m f w sure u i ∷ [])
  first-m (command.Soup u s) anew = own-full u (command.Soup u s) (λ x. no_unit x u ∷ not_mounted x u ∷ soup_exists x u s ∷ soup_limit x u ∷ no_more_soups x u ∷ [])
      (λ i. no_unit-m f w sure u i ∷ not_mounted-m f w sure u i ∷ soup_exists-m f w sure u s i ∷ soup_limit-m f w sure u i ∷ no_more_soups-m f w sure u i ∷ []) (λ k. k) (λ tests. tests.1.0)
  first-m (command.Soups u) anew = λ i. first_of (no_unit-m f w sure u i ∷ not_mounted-m f w sure u i ∷ [])
  first-m (command.Drop u s) anew = ap first_of (soup-tests u s)
  first-m (command.Index u s parts) anew = own-full u (command.Index u s parts)
      (λ x. no_unit x u ∷ not_mounted x u ∷ no_soup x u s ∷ index_exists x u s (map (λ p. p.path) parts) ∷ real_part parts ∷ index_limit x u s ∷ [])
      (λ i. no_unit-m f w sure u i ∷ not_mounted-m f w sure u i ∷ no_soup-m f w sure u s i ∷ index_exists-m f w sure u s (map (λ p. p.path) parts) i ∷ real_part parts ∷ index_limit-m f w sure u s i ∷ [])
      (λ k. k) (λ tests. tests.1.0)
  first-m (command.Unindex u s paths) anew = λ i. first_of (no_unit-m f w sure u i ∷ not_mounted-m f w sure u i ∷ no_soup-m f w sure u s i ∷ no_index-m f w sure u s paths i ∷ [])
  first-m (command.Indexes u s) anew = ap first_of (soup-tests u s)
  first-m (command.Tags u s) anew = ap first_of (soup-tests u s)
  first-m (command.SetTags u s path symbols) anew = own-full u (command.SetTags u s path symbols) (λ x. no_unit x u ∷ not_mounted x u ∷ no_soup x u s ∷ (Limit, nat_lt 64 (length symbols)) ∷ [])
      (λ i. no_unit-m f w sure u i ∷ not_mounted-m f w sure u i ∷ no_soup-m f w sure u s i ∷ (Limit, nat_lt 64 (length symbols)) ∷ []) (λ k. k) (λ tests. tests.1.0)
  first-m (command.Info u s) anew = ap first_of (soup-tests u s)
  first-m (command.SetInfo u s g) anew = own-full u (command.SetInfo u s g) (λ x. no_unit x u ∷ not_mounted x u ∷ no_soup x u s ∷ bad_info g ∷ info_too_large g ∷ [])
      (λ i. no_unit-m f w sure u i ∷ not_mounted-m f w sure u i ∷ no_soup-m f w sure u s i ∷ bad_info g ∷ info_too_large g ∷ []) (λ k. k) (λ tests. tests.1.0)
  first-m (command.Add u s g) anew = own-full u (command.Add u s g) (λ x. add_tests x u s g) (add-tests u s g) (λ k. k) (λ tests. tests.1.0)
  first-m (command.Addx u s g) anew = own-full u (command.Addx u s g) (λ x. add_tests x u s g) (add-tests u s g) (λ k. k) (λ tests. tests.1.0)
  first-m (command.Addu s g) anew = own-full (default_unit w) (command.Addu s g)
      (λ x. not_mounted x (default_unit w) ∷ no_soup x (default_unit w) s ∷ not_frame g ∷ too_large g ∷ no_more_ids x (default_unit w) s ∷ [])
      (λ i. not_mounted-m f w sure (default_unit w) i ∷ no_soup-m f w sure (default_unit w) s i ∷ not_frame g ∷ too_large g ∷ no_more_ids-m f w sure (default_unit w) s i ∷ []) (λ k. k) (λ tests. tests.0)
  first-m (command.Get u s uid) anew = ap first_of (entry-tests u s uid)
  first-m (command.Getx u s uid) anew = ap first_of (entry-tests u s uid)
  first-m (command.Set u s uid path g) anew = own-full u (command.Set u s uid path g)
      (λ x. no_unit x u ∷ not_mounted x u ∷ no_soup x u s ∷ no_entry x u s uid ∷ no_path x u s uid path g ∷ past_limits x u s uid path g ∷ set_too_large x u s uid path g ∷ [])
      (λ i. no_unit-m f w sure u i ∷ not_mounted-m f w sure u i ∷ no_soup-m f w sure u s i ∷ no_entry-m f w sure u s uid i ∷ no_path-m f w sure u s uid path g i ∷ past_limits-m f w sure u s uid path g i
      ∷ set_too_large-m f w sure u s uid path g i ∷ []) (λ k. k) (λ tests. tests.1.0)
  first-m (command.Change u s uid g) anew = own-full u (command.Change u s uid g) (λ x. no_unit x u ∷ not_mounted x u ∷ no_soup x u s ∷ no_entry x u s uid ∷ not_frame g ∷ too_large g ∷ [])
      (λ i. no_unit-m f w sure u i ∷ not_mounted-m f w sure u i ∷ no_soup-m f w sure u s i ∷ no_entry-m f w sure u s uid i ∷ not_frame g ∷ too_large g ∷ []) (λ k. k) (λ tests. tests.1.0)
  first-m (command.Remove u s uid) anew = ap first_of (entry-tests u s uid)
  first-m (command.Copy u s uid v t) anew = then-full v (command.Copy u s uid v t) (λ x. copy_tests x u s uid v t) (copy-tests u s uid v t) (λ tests. let k = other-known u v tests.1.0 in (k, k))
  first-m (command.Move u s uid v t) anew = then-full v (command.Move u s uid v t) (λ x. copy_tests x u s uid v t) (copy-tests u s uid v t)
      (λ tests. let k = other-known u v tests.1.0 in ((one-known u v tests.1.0, k), k))
  first-m (command.Vread u s uid path at len) anew = λ i. first_of (no_unit-m f w sure u i ∷ not_mounted-m f w sure u i ∷ no_soup-m f w sure u s i ∷ no_entry-m f w sure u s uid i
      ∷ no_large-m f w sure u s uid path i ∷ out_of_range-m f w sure u s uid path (at + len) i ∷ [])
  first-m (command.Vwrite u s uid path at bytes) anew = λ i. first_of (no_unit-m f w sure u i ∷ not_mounted-m f w sure u i ∷ no_soup-m f w sure u s i ∷ no_entry-m f w sure u s uid i
      ∷ no_large-m f w sure u s uid path i ∷ out_of_range-m f w sure u s uid path (at + length bytes) i ∷ [])
  first-m (command.Alias u s uid) anew = ap first_of (entry-tests u s uid)
  first-m (command.Resolve g) anew = refl
  first-m (command.Query u s g) anew = λ i. first_of (no_unit-m f w sure u i ∷ not_mounted-m f w sure u i ∷ no_soup-m f w sure u s i ∷ bad_query g ∷ query_index-m f w sure u s g i
      ∷ query_keys-m f w sure u s g i ∷ no_free_cursor w ∷ [])
  first-m (command.QueryAll s g) anew = λ i. first_of (no_soup_anywhere-m f w sure s i ∷ bad_query g ∷ no_query_index-m f w sure None s g i ∷ bad_keys-m f w sure None s g i ∷ no_free_cursor w ∷ [])
  first-m (command.Goto c u uid) anew = λ i. first_of (no_unit-m f w sure u i ∷ not_mounted-m f w sure u i ∷ no_cursor w c ∷ not_a_hit-m f w sure c u uid i ∷ [])
  first-m (command.Format u name sig) anew = with-rest (look_checks (meant_by f w) u) (look_checks w u) (has_store (meant_by f w) u ∷ []) (has_store w u ∷ [])
      (λ i. no_unit-m f w sure u i ∷ bad_blocks-m f w sure u i ∷ is_mounted-m f w sure u i ∷ []) (λ none. λ i. has_store-m f w sure u (looked f w sure u anew none) i ∷ [])
  first-m (command.Mount u) anew = with-rest (look_checks (meant_by f w) u) (look_checks w u)
      (no_store (meant_by f w) u ∷ four_mounted (meant_by f w) ∷ same_signature (meant_by f w) u ∷ []) (no_store w u ∷ four_mounted w ∷ same_signature w u ∷ [])
      (λ i. no_unit-m f w sure u i ∷ bad_blocks-m f w sure u i ∷ is_mounted-m f w sure u i ∷ [])
      (λ none. λ i. no_store-m f w sure u (looked f w sure u anew none) i ∷ four_mounted-m f w sure i ∷ same_signature-m f w sure u (looked f w sure u anew none) i ∷ [])
  first-m c anew = refl
