-- The cursors that a command reaches.
use Rattle.std.proofs.Common.{arith, ◌≡◌, refl, ap, sym, ◌∙◌, subst, ℕ, List, [], ◌∷◌, true, false, Bool, ◌&&◌, ◌⊎◌, inl, inr, cond, Option, Some, None, option_map, option_and_then, unwrap_or, map, find, not, ◌==◌}
use Rattle.std.proofs.lemmas.Bool.{eq-eqb, eqb-true}
use Rattle.newt_base.specs.Names.{equal_text}
use Rattle.newt_graph.specs.Graph.{RawGraph}
use Rattle.newt_spec_graph.specs.Lists.{Among, Pairs}
use Rattle.newt_spec_graph.proofs.Lists.{among-append, among-filter, both-ways, none-some, some-same}
use Rattle.newt_spec_store.specs.Keys.{IndexSpec}
use Rattle.newt_spec_store.specs.Store.{Store, Soup, Entry, add_entry, change_entry, change_first, change_soup, remove_entry, soup_named, with_graph, with_index, with_tags}
use Rattle.newt_spec_query.specs.Hits.{Hit, Query, carries, hits, passes}
use Rattle.newt_spec_query.specs.Cursor.{Cursor, Place, start, finish, on, same_identity, settled}
use Rattle.newt_spec_world.specs.declared.command.Command.{Command}
use Rattle.newt_spec_world.specs.declared.command.Command.TheVariants as command
use Rattle.newt_spec_world.specs.World.{World, Device, Media, blank, one, two, lost, change_device, change_media, change_soup_in, change_store, default_unit, device, entry_in, hits_of, mounted_store, mounted_stores, on_unit, settle, settle_cursor, store_if_mounted, store_of, store_on_unit}
use Rattle.newt_spec_world.specs.Changed.{changed, copy_to, graph_after_set, mark, patched, spec_of_words}
use Rattle.newt_laws_world.specs.Settled.{IsSettled, MountedApart, moves_keys}
use Rattle.newt_laws_images.proofs.Chosen.{find-passes}
use Rattle.newt_laws_world.proofs.Fewer.{Keeps, among-mounted, mounted-among, row-settled, scope-same, world-apart}
use Rattle.newt_laws_world.proofs.Found.{Other, hit-found, found-hit}
use Rattle.newt_laws_world.proofs.Kept.{Every, Wf}
use Rattle.newt_laws_world.proofs.Settled.{AllShow, Shows, find-some, only-one, shows-from, three-equal}
use Rattle.newt_laws_world.proofs.Units.{device-other, device-same, same-or-not}
use Rattle.newt_laws_reach.specs.Reach.{Reach, nowhere, on_store, on_soup, on_entry, reaches, is_reached, settle_where, settle_reached, in_soup, in_store, soup_reach, entry_reach, next_reach, store_reach, reach}

-- ---- one place

reaches-same : (r : Reach) (a b : Hit) → same_identity a b ≡ true → reaches r a ≡ reaches r b
reaches-same nowhere a b h = refl
reaches-same (on_store store) a b h = let e = three-equal a b h in ap (λ n. n == store) e.0
reaches-same (on_soup store soup) a b h = let e = three-equal a b h in λ i. (e.0 i == store) && (e.1 i == soup)
reaches-same (on_entry store soup uid) a b h = let e = three-equal a b h in λ i. (e.0 i == store) && (e.1 i == soup) && (e.2 i == uid)

-- a place that is not reached stays settled where only hits that are reached are new
unreached : (hs others : List Hit) (r : Reach) → Pairs Other hs → ((h : Hit) → reaches r h ≡ false → Among others h → Among hs h) → (place : Place)
    → settled hs place ≡ place → is_reached r place ≡ false → settled others place ≡ place
unreached hs others r apart sub start h out = refl
unreached hs others r apart sub finish h out = refl
unreached hs others r apart sub (on at) h out = go (find (same_identity at) others) refl
  where
    go : (o : Option Hit) → find (same_identity at) others ≡ o → unwrap_or (option_map on o) (on at) ≡ on at
    go None e = refl
    go (Some x) e =
        let p = find-passes (same_identity at) others x e in
        let m = sub x (sym (reaches-same r at x p.0) ∙ out) p.1 in
        let f = find-some (same_identity at) hs x m p.0 in
        let q = find-passes (same_identity at) hs f.0 f.1 in
        let i = three-equal at x p.0 in
        let j = three-equal at f.0 q.0 in
        ap on (only-one hs x f.0 apart m q.1 (sym i.0 ∙ j.0) (sym i.1 ∙ j.1) (sym i.2 ∙ j.2))
        ∙ sym (ap (λ o. unwrap_or (option_map on o) (on at)) f.1) ∙ h

-- ---- all cursors

-- each hit that is not reached was one before
abbrev Subs : Reach → World → World → Type 0
Subs r v w = (q : Query) (h : Hit) → reaches r h ≡ false → Among (hits_of v q) h → Among (hits_of w q) h

reached-settles : (r : Reach) (v w : World) → v.cursors ≡ w.cursors → Subs r v w → Every Wf w → MountedApart w → IsSettled w → settle v ≡ settle_reached r v
reached-settles r v w same sub all apart h = ap {A = List (Option Cursor)} {B = World} (λ cs. record v { cursors = cs }) (maps v.cursors (subst (AllShow (hits_of w)) (sym same) (shows-from w h)))
  where
    single : (k : Cursor) → Shows (hits_of w) k → settle_cursor v k ≡ settle_where r v k
    single k e = go (is_reached r k.place) refl
      where
        go : (b : Bool) → is_reached r k.place ≡ b → settle_cursor v k ≡ cond b (settle_cursor v k) k
        go true out = refl
        go false out = ap {A = Place} {B = Cursor} (λ p. record k { place = p }) (unreached (hits_of w k.query) (hits_of v k.query) r (world-apart w all apart k.query) (sub k.query) k.place e out)

    maps : (cs : List (Option Cursor)) → AllShow (hits_of w) cs → map (option_map (settle_cursor v)) cs ≡ map (option_map (settle_where r v)) cs
    maps [] h = refl
    maps (None ∷ cs) h = ap (λ xs. None ∷ xs) (maps cs h.1)
    maps (Some k ∷ cs) h = λ i. Some (single k h.0 i) ∷ maps cs h.1 i

pub nowhere-stays : (v : World) → settle_reached nowhere v ≡ v
nowhere-stays v = ap {A = List (Option Cursor)} {B = World} (λ cs. record v { cursors = cs }) (maps v.cursors)
  where
    single : (k : Cursor) → settle_where nowhere v k ≡ k
    single k = go k.place
      where
        go : (p : Place) → cond (is_reached nowhere p) (settle_cursor v k) k ≡ k
        go start = refl
        go finish = refl
        go (on at) = refl

    maps : (cs : List (Option Cursor)) → map (option_map (settle_where nowhere v)) cs ≡ cs
    maps [] = refl
    maps (None ∷ cs) = ap (λ xs. None ∷ xs) (maps cs)
    maps (Some k ∷ cs) = λ i. Some (single k i) ∷ maps cs i

-- ---- stores with more entries that a query can find

-- a hit of this entry is reached
abbrev Reached : Reach → ℕ → ℕ → ℕ → Type 0
Reached r store soup uid = (h : Hit) → h.store ≡ store → h.soup ≡ soup → h.uid ≡ uid → reaches r h ≡ true

record Adds (r : Reach) (t s : Store) : Type 0 where
  sig_same : t.sig ≡ s.sig
  each : (p : Soup) → Among t.soups p → (e : Entry) → Among p.entries e → Keeps s p e ⊎ Reached r t.sig p.sig e.uid

itself : (s : Store) (p : Soup) → Among s.soups p → (e : Entry) → Among p.entries e → Keeps s p e
itself s p m e n = record { from = p; is_there = m; name_same = refl; sig_same = refl; tags_same = refl; has = n; carried = λ index h. h }

adds-not : (r : Reach) (s : Store) → Adds r s s
adds-not r s = record { sig_same = refl; each = λ p m e n. inl (itself s p m e n) }

-- a store has new entries that are reached, or is itself reached
abbrev Brought : Reach → List Store → Store → Type 0
Brought r ss t = ((s : Store) × Among ss s × Adds r t s) ⊎ ((h : Hit) → h.store ≡ t.sig → reaches r h ≡ true)

abbrev Brings : Reach → List Store → List Store → Type 0
Brings r ts ss = (t : Store) → Among ts t → Brought r ss t

brings-hits : (r : Reach) (ts ss : List Store) (q : Query) → Brings r ts ss → (h : Hit) → reaches r h ≡ false → Among (hits ts q) h → Among (hits ss q) h
brings-hits r ts ss q brings h out m = go (brings found.«in» found.is_store)
  where
    found : Rattle.newt_laws_world.specs.Found.IsHit ts q h
    found = hit-found ts q h m

    soup : (s : Store) → Among ss s → Adds r found.«in» s → Keeps s found.of found.entry ⊎ Reached r found.«in».sig found.of.sig found.entry.uid → Among (hits ss q) h
    soup s n a (inr new) = absurd (both-ways (sym out ∙ new h found.store_is found.soup_is found.uid_is))
    soup s n a (inl k) = found-hit ss q h (record {
      «in» = s;
      of = k.from;
      entry = found.entry;
      is_store = n;
      scoped = scope-same q.scope s found.«in» a.sig_same found.scoped;
      is_soup = k.is_there;
      named = ap (λ n. equal_text n q.name) k.name_same ∙ found.named;
      carried = k.carried q.spec.index found.carried;
      is_entry = k.has;
      keyed = found.keyed;
      is_above = found.is_above;
      is_below = found.is_below;
      passed = ap (λ t. passes q.spec t found.entry.graph) k.tags_same ∙ found.passed;
      store_is = found.store_is ∙ a.sig_same;
      soup_is = found.soup_is ∙ sym k.sig_same;
      uid_is = found.uid_is;
    })

    go : ((s : Store) × Among ss s × Adds r found.«in» s) ⊎ ((h : Hit) → h.store ≡ found.«in».sig → reaches r h ≡ true) → Among (hits ss q) h
    go (inl s) = soup s.0 s.1 s.2 (s.2.each found.of found.is_soup found.entry found.is_entry)
    go (inr all) = absurd (both-ways (sym out ∙ all h found.store_is))

-- ---- one unit

device-brings : (r : Reach) (w : World) (u : ℕ) (f : Device → Device)
    → ((d : Device) (t : Store) → device w u ≡ Some d → store_if_mounted (f d) ≡ Some t → ((s : Store) × (store_if_mounted d ≡ Some s) × Adds r t s) ⊎ ((h : Hit) → h.store ≡ t.sig → reaches r h ≡ true))
    → Brings r (mounted_stores (change_device w u f)) (mounted_stores w)
device-brings r w u f keeps t m = let n = among-mounted (change_device w u f).units t m in go n.0 n.1 (same-or-not n.0 u)
  where
    at : (d : Device) → device w u ≡ Some d → ((s : Store) × (store_if_mounted d ≡ Some s) × Adds r t s) ⊎ ((h : Hit) → h.store ≡ t.sig → reaches r h ≡ true) → Brought r (mounted_stores w) t
    at d e (inl s) = inl (s.0, mounted-among w.units s.0 u (ap on_unit e ∙ s.1), s.2)
    at d e (inr all) = inr all

    here : (o : Option Device) → device w u ≡ o → option_and_then store_if_mounted (option_map f o) ≡ Some t → Brought r (mounted_stores w) t
    here None e k = absurd (none-some t k)
    here (Some d) e k = at d e (keeps d t e k)

    go : (n : ℕ) → mounted_store (change_device w u f) n ≡ Some t → (n ≡ u) ⊎ (n ≡ u → ⊥) → Brought r (mounted_stores w) t
    go n k (inl e) = here (device w u) refl (ap (option_and_then store_if_mounted) (sym (device-same w u f)) ∙ ap (mounted_store (change_device w u f)) (sym e) ∙ k)
    go n k (inr e) = inl (t, mounted-among w.units t n (ap on_unit (sym (device-other w u f n e)) ∙ k), adds-not r t)

store-brings : (r : Reach) (w : World) (u : ℕ) (f : Store → Store) → ((s : Store) → mounted_store w u ≡ Some s → Adds r (f s) s) → Subs r (change_store w u f) w
store-brings r w u f adds q = brings-hits r (mounted_stores (change_store w u f)) (mounted_stores w) q (device-brings r w u (λ d. record d { media = change_media f d.media }) (λ d t e k. inl (go t d.mounted d.media (λ s i. adds s (ap on_unit e ∙ i)) k)))
  where
    media : (t : Store) (m : Media) → ((s : Store) → store_of m ≡ Some s → Adds r (f s) s) → store_of (change_media f m) ≡ Some t → (s : Store) × (store_of m ≡ Some s) × Adds r t s
    media t blank a k = absurd (none-some t k)
    media t (two x y) a k = absurd (none-some t k)
    media t lost a k = absurd (none-some t k)
    media t (one s) a k = (s, refl, subst (λ x. Adds r x s) (some-same (f s) t k) (a s refl))

    go : (t : Store) (b : Bool) (m : Media) → ((s : Store) → cond b (store_of m) None ≡ Some s → Adds r (f s) s) → cond b (store_of (change_media f m)) None ≡ Some t
        → (s : Store) × (cond b (store_of m) None ≡ Some s) × Adds r t s
    go t true m a k = media t m a k
    go t false m a k = absurd (none-some t k)

-- ---- one soup

chosen-first : {X : Type 0} (test : X → Bool) (f : X → X) (xs : List X) (z : X) → Among (change_first test f xs) z → Among xs z ⊎ ((x : X) × (find test xs ≡ Some x) × (f x ≡ z))
chosen-first test f [] z m = absurd m
chosen-first test f (x ∷ xs) z m = go (chosen-first test f xs z) (test x) m
  where
    go : (Among (change_first test f xs) z → Among xs z ⊎ ((y : _) × (find test xs ≡ Some y) × (f y ≡ z))) → (b : Bool) → Among (cond b (f x ∷ xs) (x ∷ change_first test f xs)) z
        → Among (x ∷ xs) z ⊎ ((y : _) × (cond b (Some x) (find test xs) ≡ Some y) × (f y ≡ z))
    go more true (inl e) = inr (x, refl, e)
    go more true (inr m) = inl (inr m)
    go more false (inl e) = inl (inl e)
    go more false (inr m) = elim (more m) [ inl k ↦ inl (inr k) | inr r ↦ inr (r.0, r.1, r.2) ]

-- what is said of each entry of the soup that is changed
abbrev Changes : Reach → Store → Soup → Soup → Type 0
Changes r s p p2 = (e : Entry) → Among p2.entries e → Keeps s p2 e ⊎ Reached r s.sig p2.sig e.uid

soup-adds : (r : Reach) (name : List ℕ) (f : Soup → Soup) (s : Store) → ((p : Soup) → soup_named name s ≡ Some p → Among s.soups p → Changes r s p (f p)) → Adds r (change_soup name f s) s
soup-adds r name f s all = record { sig_same = refl; each = λ p m e n. go p e n (chosen-first (λ p. equal_text p.name name) f s.soups p m) }
  where
    go : (p : Soup) (e : Entry) → Among p.entries e → Among s.soups p ⊎ ((x : Soup) × (soup_named name s ≡ Some x) × (f x ≡ p)) → Keeps s p e ⊎ Reached r s.sig p.sig e.uid
    go p e n (inl m) = inl (itself s p m e n)
    go p e n (inr x) = subst (λ (p : Soup). Among p.entries e → Keeps s p e ⊎ Reached r s.sig p.sig e.uid) x.2 (all x.0 x.1 (find-passes (λ p. equal_text p.name name) s.soups x.0 x.1).1 e) n

-- a row that changes a soup
soup-row : (r : Reach) (w : World) (u : ℕ) (name : List ℕ) (f : Soup → Soup) → ((s : Store) (p : Soup) → mounted_store w u ≡ Some s → soup_named name s ≡ Some p → Among s.soups p → Changes r s p (f p))
    → Subs r (change_soup_in w u name f) w
soup-row r w u name f all = store-brings r w u (change_soup name f) (λ s is. soup-adds r name f s (λ p named there. all s p is named there))

-- what is reached of a soup that is there
reached-in : (made : Store → Soup → Reach) (w : World) (u : ℕ) (name : List ℕ) (s : Store) (p : Soup) → mounted_store w u ≡ Some s → soup_named name s ≡ Some p → in_store made name (mounted_store w u) ≡ made s p
reached-in made w u name s p unit named = ap (in_store made name) unit ∙ ap (in_soup (made s)) named

and-both : (a b : Bool) → a ≡ true → b ≡ true → (a && b) ≡ true
and-both a b h k = grind (arith, h, k)

-- an entry that is as it was
kept-entry : (s : Store) (p p2 : Soup) (e : Entry) → Among s.soups p → p.name ≡ p2.name → p.sig ≡ p2.sig → p.tags ≡ p2.tags → p2.specs ≡ p.specs → Among p.entries e → Keeps s p2 e
kept-entry s p p2 e there name sig tags specs has = record {
  from = p;
  is_there = there;
  name_same = name;
  sig_same = sig;
  tags_same = tags;
  has = has;
  carried = λ index h. go index h;
}
  where
    go : (index : IndexSpec) → carries index p2 ≡ true → carries index p ≡ true
    go [] h = refl
    go (i ∷ index) h = ap (λ specs. Rattle.std.specs.List.list_any (Rattle.newt_spec_store.specs.Keys.same_spec (i ∷ index)) specs) (sym specs) ∙ h

-- all of the soup is reached
whole-row : (w : World) (u : ℕ) (name : List ℕ) (f : Soup → Soup) → ((p : Soup) → (f p).sig ≡ p.sig) → Subs (soup_reach w u name) (change_soup_in w u name f) w
whole-row w u name f same = soup-row (soup_reach w u name) w u name f (λ s p unit named there e n. inr (λ h a b c.
    subst (λ r. reaches r h ≡ true) (sym (reached-in (λ s p. on_soup s.sig p.sig) w u name s p unit named)) (and-both (h.store == s.sig) (h.soup == p.sig) (eq-eqb h.store s.sig a) (eq-eqb h.soup p.sig (b ∙ same p)))))

-- one entry of it is
one-reached : (store soup uid : ℕ) (h : Hit) → h.store ≡ store → h.soup ≡ soup → h.uid ≡ uid → reaches (on_entry store soup uid) h ≡ true
one-reached store soup uid h a b c = grind (arith, a, b, c)

entry-row : (w : World) (u : ℕ) (name : List ℕ) (uid : ℕ) (f : Entry → Entry) → ((e : Entry) → (f e).uid ≡ e.uid) → Subs (entry_reach w u name uid) (change_soup_in w u name (change_entry uid f)) w
entry-row w u name uid f same = soup-row (entry_reach w u name uid) w u name (change_entry uid f) (λ s p unit named there e n. go s p unit named there e (chosen-first (λ e. e.uid == uid) f p.entries e n))
  where
    go : (s : Store) (p : Soup) → mounted_store w u ≡ Some s → soup_named name s ≡ Some p → Among s.soups p → (e : Entry) → Among p.entries e ⊎ ((x : Entry) × (find (λ e. e.uid == uid) p.entries ≡ Some x) × (f x ≡ e))
        → Keeps s (change_entry uid f p) e ⊎ Reached (entry_reach w u name uid) s.sig p.sig e.uid
    go s p unit named there e (inl m) = inl (kept-entry s p (change_entry uid f p) e there refl refl refl refl m)
    go s p unit named there e (inr x) = inr (λ h a b c. subst (λ r. reaches r h ≡ true) (sym (reached-in (λ s p. on_entry s.sig p.sig uid) w u name s p unit named))
        (one-reached s.sig p.sig uid h a b (c ∙ sym (ap (λ (e : Entry). e.uid) x.2) ∙ same x.0 ∙ eqb-true x.0.uid uid (find-passes (λ (e : Entry). e.uid == uid) p.entries x.0 x.1).0)))

add-row : (w : World) (u : ℕ) (name : List ℕ) (time : ℕ) (g : RawGraph) → Subs (next_reach w u name) (change_soup_in w u name (add_entry time g)) w
add-row w u name time g = soup-row (next_reach w u name) w u name (add_entry time g) (λ s p unit named there e n. go s p unit named there e (among-append p.entries _ e n))
  where
    go : (s : Store) (p : Soup) → mounted_store w u ≡ Some s → soup_named name s ≡ Some p → Among s.soups p → (e : Entry) → Among p.entries e ⊎ Among (record { uid = p.next_uid; time = time; graph = g } ∷ []) e
        → Keeps s (add_entry time g p) e ⊎ Reached (next_reach w u name) s.sig p.sig e.uid
    go s p unit named there e (inl m) = inl (kept-entry s p (add_entry time g p) e there refl refl refl refl m)
    go s p unit named there e (inr (inl is)) = inr (λ h a b c. subst (λ r. reaches r h ≡ true) (sym (reached-in (λ s p. on_entry s.sig p.sig p.next_uid) w u name s p unit named))
        (one-reached s.sig p.sig p.next_uid h a b (c ∙ sym (ap (λ (e : Entry). e.uid) is))))
    go s p unit named there e (inr (inr m)) = absurd m

copy-row : (w : World) (u : ℕ) (name : List ℕ) (o : Option Entry) → Subs (next_reach w u name) (copy_to w u name o) w
copy-row w u name None = λ q h out m. m
copy-row w u name (Some e) = add-row w u name w.minute e.graph

remove-row : (r : Reach) (w : World) (u : ℕ) (name : List ℕ) (uid : ℕ) → Subs r (change_soup_in w u name (remove_entry uid)) w
remove-row r w u name uid = soup-row r w u name (remove_entry uid) (λ s p unit named there e n. inl (kept-entry s p (remove_entry uid p) e there refl refl refl refl (among-filter (λ (x : Entry). not (x.uid == uid)) p.entries e n).0))

copy-cursors : (w : World) (u : ℕ) (name : List ℕ) (o : Option Entry) → (copy_to w u name o).cursors ≡ w.cursors
copy-cursors w u name None = refl
copy-cursors w u name (Some e) = refl

mount-row : (w : World) (u : ℕ) → Subs (store_reach (store_on_unit w u)) (mark w u true) w
mount-row w u q = brings-hits (store_reach (store_on_unit w u)) (mounted_stores (mark w u true)) (mounted_stores w) q (device-brings (store_reach (store_on_unit w u)) w u (λ d. record d { mounted = true })
    (λ d t e k. inr (λ h a. subst (λ o. reaches (store_reach o) h ≡ true) (sym (ap (option_and_then (λ (d : Device). store_of d.media)) e ∙ k)) (eq-eqb h.store t.sig a))))

-- ---- the table

pub still-nowhere : (w : World) (c : Command) → moves_keys c ≡ false → reach w c ≡ nowhere
unfolding moves_keys reach
still-nowhere w (command.Mount _) h = cc
still-nowhere w (command.Index _ _ _) h = cc
still-nowhere w (command.SetTags _ _ _ _) h = cc
still-nowhere w (command.Add _ _ _) h = cc
still-nowhere w (command.Addx _ _ _) h = cc
still-nowhere w (command.Addu _ _) h = cc
still-nowhere w (command.Set _ _ _ _ _) h = cc
still-nowhere w (command.Change _ _ _ _) h = cc
still-nowhere w (command.Copy _ _ _ _ _) h = cc
still-nowhere w (command.Move _ _ _ _ _) h = cc
still-nowhere w (command.Vwrite _ _ _ _ _ _) h = cc
still-nowhere w _ h = refl

still-reached : (w : World) (c : Command) → Every Wf w → MountedApart w → IsSettled w → moves_keys c ≡ false → settle (changed w c) ≡ settle_reached (reach w c) (changed w c)
still-reached w c all apart h few = row-settled w c all apart h few ∙ sym (nowhere-stays (changed w c)) ∙ ap (λ r. settle_reached r (changed w c)) (sym (still-nowhere w c few))

pub row-reached : (w : World) (c : Command) → Every Wf w → MountedApart w → IsSettled w → settle (changed w c) ≡ settle_reached (reach w c) (changed w c)
unfolding changed reach moves_keys
row-reached w (command.Mount u) all apart h = reached-settles (store_reach (store_on_unit w u)) (changed w (command.Mount u)) w refl (mount-row w u) all apart h
row-reached w (command.Index u s parts) all apart h = reached-settles (soup_reach w u s) (changed w (command.Index u s parts)) w refl (whole-row w u s (with_index (spec_of_words parts)) (λ p. refl)) all apart h
row-reached w (command.SetTags u s path symbols) all apart h = reached-settles (soup_reach w u s) (changed w (command.SetTags u s path symbols)) w refl (whole-row w u s (with_tags (Some (record { path = path; symbols = symbols }))) (λ p. refl)) all apart h
row-reached w (command.Add u s g) all apart h = reached-settles (next_reach w u s) (changed w (command.Add u s g)) w refl (add-row w u s w.minute g) all apart h
row-reached w (command.Addx u s g) all apart h = reached-settles (next_reach w u s) (changed w (command.Addx u s g)) w refl (add-row w u s w.minute g) all apart h
row-reached w (command.Addu s g) all apart h = reached-settles (next_reach w (default_unit w) s) (changed w (command.Addu s g)) w refl (add-row w (default_unit w) s w.minute g) all apart h
row-reached w (command.Set u s uid path g) all apart h = reached-settles (entry_reach w u s uid) (changed w (command.Set u s uid path g)) w refl (entry-row w u s uid (λ e. with_graph w.minute (graph_after_set path g e.graph) e) (λ e. refl)) all apart h
row-reached w (command.Change u s uid g) all apart h = reached-settles (entry_reach w u s uid) (changed w (command.Change u s uid g)) w refl (entry-row w u s uid (with_graph w.minute g) (λ e. refl)) all apart h
row-reached w (command.Copy u s uid v t) all apart h = reached-settles (next_reach w v t) (copy_to w v t (entry_in w u s uid)) w (copy-cursors w v t (entry_in w u s uid)) (copy-row w v t (entry_in w u s uid)) all apart h
row-reached w (command.Move u s uid v t) all apart h = let x = copy_to w v t (entry_in w u s uid) in
    reached-settles (next_reach w v t) (change_soup_in x u s (remove_entry uid)) w (copy-cursors w v t (entry_in w u s uid))
    (λ q k out m. copy-row w v t (entry_in w u s uid) q k out (remove-row (next_reach w v t) x u s uid q k out m)) all apart h
row-reached w (command.Vwrite u s uid path at bytes) all apart h = reached-settles (entry_reach w u s uid) (changed w (command.Vwrite u s uid path at bytes)) w refl (entry-row w u s uid (λ e. record e { graph = patched path at bytes e.graph }) (λ e. refl)) all apart h
row-reached w c all apart h = still-reached w c all apart h refl
