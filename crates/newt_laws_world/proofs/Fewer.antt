-- Commands that leave a settled world settled by themselves.
use Rattle.newt_graph.specs.Graph.{RawGraph}
use Rattle.std.proofs.Common.{arith, ◌≡◌, refl, ap, sym, ◌∙◌, subst, ℕ, zero, suc, List, [], ◌∷◌, true, false, Bool, IsTrue, not, ◌||◌, ◌⊎◌, inl, inr, cond, Option, Some, None, option_map, option_and_then, filter, filter_map, slice_set, ◌==◌}
use Rattle.std.specs.Prelude.{slice_get}
use Rattle.std.specs.List.{list_any, cons_option}
use Rattle.std.proofs.lemmas.Bool.{and_parts}
use Rattle.newt_base.specs.Names.{equal_text}
use Rattle.newt_spec_store.specs.Keys.{IndexSpec, Key, Path, same_spec}
use Rattle.newt_spec_store.specs.Store.{Store, Soup, Entry, change_soup, make_soup, drop_soup, remove_entry, new_store, without_index, with_info}
use Rattle.newt_spec_store.specs.Valid.{well_formed, fits, valid}
use Rattle.newt_spec_query.specs.Hits.{Hit, Query, hits, in_scope, carries, passes}
use Rattle.newt_spec_query.specs.Cursor.{Place, on, Cursor, first_place, last_place, next_place, previous_place, moved}
use Rattle.newt_spec_world.specs.declared.command.Command.{Command}
use Rattle.newt_spec_world.specs.declared.command.Command.TheVariants as command
use Rattle.newt_spec_world.specs.World.{World, Device, Media, blank, one, two, lost, device, store_of, store_if_mounted, on_unit, mounted_store, mounted_stores, soup_in, hits_of, flat, cursor, free_cursor, change_device, change_store, change_media, set_place}
use Rattle.newt_spec_world.specs.Changed.{changed, mark, Step, stepped, step_from, open_cursor, open_at, query_of, put_on, cloned, go_to, hit_for, hit_in, go_to_key, to_key, key_from, sig_of, info_from}
use Rattle.newt_spec_graph.specs.Lists.{Each, Pairs, Among}
use Rattle.newt_laws_world.specs.Worlds.{OnMedia, AllValid}
use Rattle.newt_laws_world.specs.Settled.{IsSettled, MountedApart, moves_keys}
use Rattle.newt_spec_graph.proofs.Lists.{each-from, among-append, among-filter, some-same, none-some}
use Rattle.newt_laws_images.proofs.Chosen.{among-first}
use Rattle.newt_laws_world.proofs.Found.{Other, hits-apart, hit-found, found-hit}
use Rattle.newt_laws_world.proofs.Units.{has-mounted, same-or-not, device-other, device-same}
use Rattle.newt_laws_world.proofs.Kept.{Wf, Every, media-more}
use Rattle.newt_laws_world.proofs.Settled.{OnCursor, Shows, AllShow, Stands, shows-from, settled-from, cursors-more, shows-fewer, shows-hit, next-stands, previous-stands, moved-stands, reset-stands, end-stands, key-stands, each-change-at, each-set, find-passes}

-- ---- the mounted stores, by unit

pub among-mounted : (us : List (Option Device)) (s : Store) → Among (filter_map on_unit us) s → (n : ℕ) × (on_unit (flat (slice_get us n)) ≡ Some s)
among-mounted [] s m = absurd m
among-mounted (d ∷ us) s m = go (among-mounted us s) (on_unit d) refl m
  where
    go : (Among (filter_map on_unit us) s → (n : ℕ) × (on_unit (flat (slice_get us n)) ≡ Some s)) → (o : Option Store) → on_unit d ≡ o
        → Among (cons_option o (filter_map on_unit us)) s → (n : ℕ) × (on_unit (flat (slice_get (d ∷ us) n)) ≡ Some s)
    go more None e k = let r = more k in (suc r.0, r.1)
    go more (Some t) e (inl k) = (0, e ∙ ap Some k)
    go more (Some t) e (inr k) = let r = more k in (suc r.0, r.1)

pub mounted-among : (us : List (Option Device)) (s : Store) (n : ℕ) → on_unit (flat (slice_get us n)) ≡ Some s → Among (filter_map on_unit us) s
mounted-among [] s n h = absurd (none-some s h)
mounted-among (d ∷ us) s zero h = subst (λ o. Among (cons_option o (filter_map on_unit us)) s) (sym h) (inl refl)
mounted-among (d ∷ us) s (suc n) h = go (on_unit d) (mounted-among us s n h)
  where
    go : (o : Option Store) → Among (filter_map on_unit us) s → Among (cons_option o (filter_map on_unit us)) s
    go None k = k
    go (Some t) k = inr k

-- ---- stores with fewer entries that a query can find

pub record Keeps (s : Store) (p : Soup) (e : Entry) : Type 0 where
  pub from : Soup
  pub is_there : Among s.soups from
  pub name_same : from.name ≡ p.name
  pub sig_same : from.sig ≡ p.sig
  pub tags_same : from.tags ≡ p.tags
  pub has : Among from.entries e
  pub carried : (index : IndexSpec) → carries index p ≡ true → carries index from ≡ true

pub record Shrinks (t s : Store) : Type 0 where
  pub sig_same : t.sig ≡ s.sig
  pub each : (p : Soup) → Among t.soups p → (e : Entry) → Among p.entries e → Keeps s p e

itself : (s : Store) (p : Soup) → Among s.soups p → (e : Entry) → Among p.entries e → Keeps s p e
itself s p m e n = record { from = p; is_there = m; name_same = refl; sig_same = refl; tags_same = refl; has = n; carried = λ index h. h }

pub shrinks-not : (s : Store) → Shrinks s s
shrinks-not s = record { sig_same = refl; each = itself s }

shrinks-make : (name : List ℕ) (s : Store) → Shrinks (make_soup name s) s
shrinks-make name s = record { sig_same = refl; each = λ p m e n. go p e n (among-append s.soups _ p m) }
  where
    go : (p : Soup) (e : Entry) → Among p.entries e → Among s.soups p ⊎ Among (record { name = name; sig = s.next_soup; next_uid = 0; specs = []; tags = None; info = None; entries = [] } ∷ []) p → Keeps s p e
    go p e n (inl m) = itself s p m e n
    go p e n (inr (inl is)) = absurd (subst (λ es. Among es e) (sym (ap (λ (q : Soup). q.entries) is)) n)
    go p e n (inr (inr m)) = absurd m

shrinks-drop : (name : List ℕ) (s : Store) → Shrinks (drop_soup name s) s
shrinks-drop name s = record { sig_same = refl; each = λ p m e n. itself s p (among-filter _ s.soups p m).0 e n }

any-filter : {X : Type 0} (test keep : X → Bool) (xs : List X) → list_any test (filter keep xs) ≡ true → list_any test xs ≡ true
any-filter test keep [] h = h
any-filter test keep (x ∷ xs) h = go (any-filter test keep xs) (keep x) h
  where
    go : (list_any test (filter keep xs) ≡ true → list_any test xs ≡ true) → (b : Bool) → list_any test (cond b (x ∷ filter keep xs) (filter keep xs)) ≡ true → (test x || list_any test xs) ≡ true
    go more true k = grind (arith, more)
    go more false k = grind (arith, more k)

carries-fewer : (index : IndexSpec) (paths : List Path) (p : Soup) → carries index (without_index paths p) ≡ true → carries index p ≡ true
carries-fewer [] paths p h = refl
carries-fewer (i ∷ index) paths p h = any-filter (same_spec (i ∷ index)) _ p.specs h

shrinks-unindex : (name : List ℕ) (paths : List Path) (s : Store) → Shrinks (change_soup name (without_index paths) s) s
shrinks-unindex name paths s = record { sig_same = refl; each = λ p m e n. go p e n (among-first _ (without_index paths) s.soups p m) }
  where
    go : (p : Soup) (e : Entry) → Among p.entries e → Among s.soups p ⊎ ((x : Soup) × Among s.soups x × (without_index paths x ≡ p)) → Keeps s p e
    go p e n (inl m) = itself s p m e n
    go p e n (inr r) = record {
      from = r.0;
      is_there = r.1;
      name_same = ap (λ (q : Soup). q.name) r.2;
      sig_same = ap (λ (q : Soup). q.sig) r.2;
      tags_same = ap (λ (q : Soup). q.tags) r.2;
      has = subst (λ es. Among es e) (sym (ap (λ (q : Soup). q.entries) r.2)) n;
      carried = λ index h. carries-fewer index paths r.0 (ap (carries index) r.2 ∙ h);
    }

carries-same : (index : IndexSpec) (uid : ℕ) (p : Soup) → carries index (remove_entry uid p) ≡ true → carries index p ≡ true
carries-same [] uid p h = refl
carries-same (i ∷ index) uid p h = h

shrinks-remove : (name : List ℕ) (uid : ℕ) (s : Store) → Shrinks (change_soup name (remove_entry uid) s) s
shrinks-remove name uid s = record { sig_same = refl; each = λ p m e n. go p e n (among-first _ (remove_entry uid) s.soups p m) }
  where
    go : (p : Soup) (e : Entry) → Among p.entries e → Among s.soups p ⊎ ((x : Soup) × Among s.soups x × (remove_entry uid x ≡ p)) → Keeps s p e
    go p e n (inl m) = itself s p m e n
    go p e n (inr r) = record {
      from = r.0;
      is_there = r.1;
      name_same = ap (λ (q : Soup). q.name) r.2;
      sig_same = ap (λ (q : Soup). q.sig) r.2;
      tags_same = ap (λ (q : Soup). q.tags) r.2;
      has = (among-filter (λ (x : Entry). not (x.uid == uid)) r.0.entries e (subst (λ es. Among es e) (sym (ap (λ (q : Soup). q.entries) r.2)) n)).0;
      carried = λ index h. carries-same index uid r.0 (ap (carries index) r.2 ∙ h);
    }

carries-info : (index : IndexSpec) (info : Option RawGraph) (p : Soup) → carries index (with_info info p) ≡ true → carries index p ≡ true
carries-info [] info p h = refl
carries-info (i ∷ index) info p h = h

shrinks-info : (name : List ℕ) (info : Option RawGraph) (s : Store) → Shrinks (change_soup name (with_info info) s) s
shrinks-info name info s = record { sig_same = refl; each = λ p m e n. go p e n (among-first _ (with_info info) s.soups p m) }
  where
    go : (p : Soup) (e : Entry) → Among p.entries e → Among s.soups p ⊎ ((x : Soup) × Among s.soups x × (with_info info x ≡ p)) → Keeps s p e
    go p e n (inl m) = itself s p m e n
    go p e n (inr r) = record {
      from = r.0;
      is_there = r.1;
      name_same = ap (λ (q : Soup). q.name) r.2;
      sig_same = ap (λ (q : Soup). q.sig) r.2;
      tags_same = ap (λ (q : Soup). q.tags) r.2;
      has = subst (λ es. Among es e) (sym (ap (λ (q : Soup). q.entries) r.2)) n;
      carried = λ index h. carries-info index info r.0 (ap (carries index) r.2 ∙ h);
    }

-- ---- fewer hits

abbrev pub Fewer : List Store → List Store → Type 0
Fewer ts ss = (t : Store) → Among ts t → (s : Store) × Among ss s × Shrinks t s

pub scope-same : (scope : Option ℕ) (s t : Store) → t.sig ≡ s.sig → in_scope scope t ≡ true → in_scope scope s ≡ true
scope-same None s t e h = refl
scope-same (Some n) s t e h = ap (λ k. k == n) (sym e) ∙ h

pub fewer-hits : (ts ss : List Store) (q : Query) → Fewer ts ss → (h : Hit) → Among (hits ts q) h → Among (hits ss q) h
fewer-hits ts ss q fewer h m =
    let r = hit-found ts q h m in
    let s = fewer r.«in» r.is_store in
    let k = s.2.each r.of r.is_soup r.entry r.is_entry in
    found-hit ss q h (record {
      «in» = s.0;
      of = k.from;
      entry = r.entry;
      is_store = s.1;
      scoped = scope-same q.scope s.0 r.«in» s.2.sig_same r.scoped;
      is_soup = k.is_there;
      named = ap (λ n. equal_text n q.name) k.name_same ∙ r.named;
      carried = k.carried q.spec.index r.carried;
      is_entry = k.has;
      keyed = r.keyed;
      is_above = r.is_above;
      is_below = r.is_below;
      passed = ap (λ t. passes q.spec t r.entry.graph) k.tags_same ∙ r.passed;
      store_is = r.store_is ∙ s.2.sig_same;
      soup_is = r.soup_is ∙ sym k.sig_same;
      uid_is = r.uid_is;
    })

-- the hits of a world are of different entries
pub world-apart : (w : World) → Every Wf w → MountedApart w → (q : Query) → Pairs Other (hits_of w q)
world-apart w all apart q = hits-apart (mounted_stores w) q apart (each-from _ (mounted_stores w) (λ s m.
    let n = among-mounted w.units s m in
    let d = has-mounted w n.0 s n.1 in
    subst (OnMedia Wf d.1.on.blocks) d.1.has (all n.0 tt d.1.on d.1.is)))

-- the same cursors over fewer hits
pub fewer-settled : (v w : World) → v.cursors ≡ w.cursors → Fewer (mounted_stores v) (mounted_stores w) → Every Wf w → MountedApart w → IsSettled w → IsSettled v
fewer-settled v w same fewer all apart h = settled-from v (subst (AllShow (hits_of v)) (sym same) (cursors-more (Shows (hits_of w)) (Shows (hits_of v)) w.cursors
    (λ k e. shows-fewer (hits_of w k.query) (hits_of v k.query) (world-apart w all apart k.query) (fewer-hits (mounted_stores v) (mounted_stores w) k.query fewer) k.place e)
    (shows-from w h)))

-- ---- rows on units

change-fewer : (w : World) (u : ℕ) (f : Device → Device) → ((d : Device) (t : Store) → device w u ≡ Some d → store_if_mounted (f d) ≡ Some t → (s : Store) × (store_if_mounted d ≡ Some s) × Shrinks t s)
    → Fewer (mounted_stores (change_device w u f)) (mounted_stores w)
change-fewer w u f keeps t m = let n = among-mounted (change_device w u f).units t m in go n.0 n.1 (same-or-not n.0 u)
  where
    here : (o : Option Device) → device w u ≡ o → option_and_then store_if_mounted (option_map f o) ≡ Some t → (s : Store) × Among (mounted_stores w) s × Shrinks t s
    here None e k = absurd (none-some t k)
    here (Some d) e k = let r = keeps d t e k in (r.0, mounted-among w.units r.0 u (ap on_unit e ∙ r.1), r.2)

    go : (n : ℕ) → mounted_store (change_device w u f) n ≡ Some t → (n ≡ u) ⊎ (n ≡ u → ⊥) → (s : Store) × Among (mounted_stores w) s × Shrinks t s
    go n k (inl e) = here (device w u) refl (ap (option_and_then store_if_mounted) (sym (device-same w u f)) ∙ ap (mounted_store (change_device w u f)) (sym e) ∙ k)
    go n k (inr e) = (t, mounted-among w.units t n (ap on_unit (sym (device-other w u f n e)) ∙ k), shrinks-not t)

store-fewer : (w : World) (u : ℕ) (f : Store → Store) → ((s : Store) → Shrinks (f s) s) → Fewer (mounted_stores (change_store w u f)) (mounted_stores w)
store-fewer w u f shrinks = change-fewer w u (λ d. record d { media = change_media f d.media }) (λ d t e k. go t d.mounted d.media k)
  where
    media : (t : Store) (m : Media) → store_of (change_media f m) ≡ Some t → (s : Store) × (store_of m ≡ Some s) × Shrinks t s
    media t blank k = absurd (none-some t k)
    media t (two a b) k = absurd (none-some t k)
    media t lost k = absurd (none-some t k)
    media t (one s) k = (s, refl, subst (λ x. Shrinks x s) (some-same (f s) t k) (shrinks s))

    go : (t : Store) (b : Bool) (m : Media) → cond b (store_of (change_media f m)) None ≡ Some t → (s : Store) × (cond b (store_of m) None ≡ Some s) × Shrinks t s
    go t true m k = media t m k
    go t false m k = absurd (none-some t k)

-- ---- rows on cursors

at-cursor : (P : Cursor → Type 0) (cs : List (Option Cursor)) (c : ℕ) (k : Cursor) → Each (OnCursor P) cs → flat (slice_get cs c) ≡ Some k → P k
at-cursor P [] c k h e = absurd (none-some k e)
at-cursor P (None ∷ cs) zero k h e = absurd (none-some k e)
at-cursor P (Some x ∷ cs) zero k h e = subst P (some-same x k e) h.0
at-cursor P (x ∷ cs) (suc c) k h e = at-cursor P cs c k h.1 e

placed : (w : World) (c : ℕ) (place : Place) (k : Cursor) → cursor w c ≡ Some k → Stands (hits_of w k.query) place → IsSettled w → IsSettled (set_place w c place)
placed w c place k is stands h = settled-from (set_place w c place) (each-change-at (Shows (hits_of w)) (OnCursor (Shows (hits_of w))) (λ x p. p) (λ x p. p) c (λ k. record k { place = place }) w.cursors (shows-from w h)
    (λ x e p. subst (λ (y : Cursor). Stands (hits_of w y.query) place) (some-same k x (sym is ∙ e)) stands))

step-row : (w : World) (c : ℕ) (step : Step) → ((k : Cursor) → Stands (hits_of w k.query) k.place → Stands (hits_of w k.query) (step (hits_of w k.query) k.query.spec.index k.place))
    → IsSettled w → IsSettled (stepped w c step)
step-row w c step stands h = go (cursor w c) refl
  where
    go : (o : Option Cursor) → cursor w c ≡ o → IsSettled (step_from w c step o)
    go None e = h
    go (Some k) e = placed w c (step (hits_of w k.query) k.query.spec.index k.place) k e (stands k (at-cursor (Shows (hits_of w)) w.cursors c k (shows-from w h) e)) h

goto-row : (w : World) (c u uid : ℕ) → ((q : Query) → Pairs Other (hits_of w q)) → IsSettled w → IsSettled (go_to w c u uid)
goto-row w c u uid apart h = go (cursor w c) refl
  where
    at-hit : (k : Cursor) (p : Option Soup) (x : Hit) → hit_in w u uid k p ≡ Some x → Among (hits_of w k.query) x
    at-hit k None x e = absurd (none-some x e)
    at-hit k (Some p) x e = (find-passes _ (hits_of w k.query) x e).1

    put-row : (k : Cursor) → cursor w c ≡ Some k → (o : Option Hit) → hit_for w u uid k ≡ o → IsSettled (put_on w c o)
    put-row k e None f = h
    put-row k e (Some x) f = placed w c (on x) k e (shows-hit (hits_of w k.query) x (apart k.query) (at-hit k (soup_in w u k.query.name) x f)) h

    go : (o : Option Cursor) → cursor w c ≡ o → IsSettled (put_on w c (option_and_then (hit_for w u uid) o))
    go None e = h
    go (Some k) e = put-row k e (hit_for w u uid k) refl

open-row : (w : World) (k : Cursor) → Stands (hits_of w k.query) k.place → IsSettled w → IsSettled (open_cursor w k)
open-row w k stands h = go (free_cursor w)
  where
    go : (o : Option ℕ) → IsSettled (open_at w k o)
    go None = h
    go (Some c) = settled-from (open_at w k (Some c)) (each-set (OnCursor (Shows (hits_of w))) w.cursors c (Some k) (shows-from w h) stands)

clone-row : (w : World) (c : ℕ) → IsSettled w → IsSettled (cloned w (cursor w c))
clone-row w c h = go (cursor w c) refl
  where
    go : (o : Option Cursor) → cursor w c ≡ o → IsSettled (cloned w o)
    go None e = h
    go (Some k) e = open-row w k (at-cursor (Shows (hits_of w)) w.cursors c k (shows-from w h) e) h

close-row : (w : World) (c : ℕ) → IsSettled w → IsSettled (record w { cursors = slice_set w.cursors c None })
close-row w c h = settled-from (record w { cursors = slice_set w.cursors c None }) (each-set (OnCursor (Shows (hits_of w))) w.cursors c None (shows-from w h) tt)

key-row : (hs : List Hit) (o : Option Key) (index : IndexSpec) (place : Place) → Pairs Other hs → Stands hs place → Stands hs (to_key o hs index place)
key-row hs None index place apart h = h
key-row hs (Some k) index place apart h = key-stands hs index k apart

-- ---- the table

pub row-settled : (w : World) (c : Command) → Every Wf w → MountedApart w → IsSettled w → moves_keys c ≡ false → IsSettled (changed w c)
unfolding changed moves_keys
row-settled w (command.Time t) all apart h k = ap {A = World} {B = World} (λ v. record v { minute = t }) h
row-settled w (command.Format u name sig) all apart h k = fewer-settled (change_device w u (λ d. record d { media = one (new_store name sig); mounted = false })) w refl
    (change-fewer w u (λ d. record d { media = one (new_store name sig); mounted = false }) (λ d t e f. absurd (none-some t f))) all apart h
row-settled w (command.Mount _) all apart h k = cc
row-settled w (command.Unmount u) all apart h k = ap {A = World} {B = World} (λ v. record v { default = Rattle.newt_spec_world.specs.Changed.default_without (mark w u false) u })
    (fewer-settled (mark w u false) w refl (change-fewer w u (λ d. record d { mounted = false }) (λ d t e f. absurd (none-some t f))) all apart h)
row-settled w (command.Default u) all apart h k = ap {A = World} {B = World} (λ v. record v { default = Some u }) h
row-settled w (command.Soup u name) all apart h k = fewer-settled (change_store w u (make_soup name)) w refl (store-fewer w u (make_soup name) (shrinks-make name)) all apart h
row-settled w (command.Drop u s) all apart h k = fewer-settled (change_store w u (drop_soup s)) w refl (store-fewer w u (drop_soup s) (shrinks-drop s)) all apart h
row-settled w (command.Unindex u s paths) all apart h k = fewer-settled (change_store w u (change_soup s (without_index paths))) w refl (store-fewer w u (change_soup s (without_index paths)) (shrinks-unindex s paths)) all apart h
row-settled w (command.Index _ _ _) all apart h k = cc
row-settled w (command.SetTags _ _ _ _) all apart h k = cc
row-settled w (command.SetInfo u s g) all apart h k = fewer-settled (change_store w u (change_soup s (with_info (info_from g)))) w refl (store-fewer w u (change_soup s (with_info (info_from g))) (shrinks-info s (info_from g))) all apart h
row-settled w (command.Add _ _ _) all apart h k = cc
row-settled w (command.Addx _ _ _) all apart h k = cc
row-settled w (command.Addu _ _) all apart h k = cc
row-settled w (command.Set _ _ _ _ _) all apart h k = cc
row-settled w (command.Change _ _ _ _) all apart h k = cc
row-settled w (command.Remove u s uid) all apart h k = fewer-settled (change_store w u (change_soup s (remove_entry uid))) w refl (store-fewer w u (change_soup s (remove_entry uid)) (shrinks-remove s uid)) all apart h
row-settled w (command.Copy _ _ _ _ _) all apart h k = cc
row-settled w (command.Move _ _ _ _ _) all apart h k = cc
row-settled w (command.Vwrite _ _ _ _ _ _) all apart h k = cc
row-settled w (command.Query u s g) all apart h k = let q = query_of w (Some (sig_of w u)) s g in open-row w (record { query = q; place = first_place (hits_of w q) }) (reset-stands (hits_of w q) (world-apart w all apart q)) h
row-settled w (command.QueryAll s g) all apart h k = let q = query_of w None s g in open-row w (record { query = q; place = first_place (hits_of w q) }) (reset-stands (hits_of w q) (world-apart w all apart q)) h
row-settled w (command.Next c) all apart h k = step-row w c next_place (λ x p. next-stands (hits_of w x.query) x.query.spec.index x.place (world-apart w all apart x.query)) h
row-settled w (command.Prev c) all apart h k = step-row w c previous_place (λ x p. previous-stands (hits_of w x.query) x.query.spec.index x.place (world-apart w all apart x.query)) h
row-settled w (command.Reset c) all apart h k = step-row w c (λ hs _ _. first_place hs) (λ x p. reset-stands (hits_of w x.query) (world-apart w all apart x.query)) h
row-settled w (command.End c) all apart h k = step-row w c (λ hs _ _. last_place hs) (λ x p. end-stands (hits_of w x.query) (world-apart w all apart x.query)) h
row-settled w (command.Moveby c n) all apart h k = step-row w c (moved n) (λ x p. moved-stands n (hits_of w x.query) x.query.spec.index x.place (world-apart w all apart x.query) p) h
row-settled w (command.Goto c u uid) all apart h k = goto-row w c u uid (world-apart w all apart) h
row-settled w (command.Gotokey c g) all apart h k = step-row w c (go_to_key g) (λ x p. key-row (hits_of w x.query) (key_from x.query.spec.index g) x.query.spec.index x.place (world-apart w all apart x.query) p) h
row-settled w (command.Clone c) all apart h k = clone-row w c h
row-settled w (command.Close c) all apart h k = close-row w c h
row-settled w _ all apart h k = h

pub wf-from : (w : World) → AllValid w → Every Wf w
wf-from w all u k d is = media-more (λ blocks s. IsTrue (valid blocks s)) Wf d.blocks d.media (λ s h. (and_parts (well_formed s) (fits d.blocks s) h).0) (all u tt d is)
