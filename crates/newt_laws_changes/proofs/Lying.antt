-- A store with a soup or an entry more or less lies in the changed objects.
use Rattle.std.proofs.Common.{arith, ◌≡◌, ◌≢◌, refl, ap, sym, ◌∙◌, subst, ℕ, ◌<◌, ◌%◌, List, [], ◌∷◌, IsTrue, Option, Some, None, ◌⊎◌, inl, inr}
use Rattle.std.specs.FinMap as map
use Rattle.newt_graph.specs.Graph.{RawGraph, IsGraph}
use Rattle.newt_spec_image.specs.Objects.{Objects}
use Rattle.newt_spec_nsof.specs.Lengths.{skeleton}
use Rattle.newt_spec_graph.specs.Lists.{Among}
use Rattle.newt_spec_graph.proofs.Lists.{none-some, some-same}
use Rattle.newt_spec_store.specs.Cost.{directory_bytes}
use Rattle.newt_spec_store.specs.Image.{entry_bytes}
use Rattle.newt_spec_store.specs.Lies.{Places, IsIn, AreLarges, LiesIn}
use Rattle.newt_spec_store.specs.Store.{Store, Soup, Entry, change_soup, make_soup, drop_soup, add_entry, remove_entry, soup_of}
use Rattle.newt_spec_store.specs.Valid.{well_formed}
use Rattle.newt_laws_changes.specs.Written.{Names, HeadWritten, EntryWritten, EntryErased, SoupErased}
use Rattle.newt_laws_changes.proofs.Bytes.{removed-directory}
use Rattle.newt_laws_changes.proofs.Infos.{AreNormal, changed-infos, dropped-infos, made-infos}
use Rattle.newt_laws_changes.proofs.Members.{same-or-not, in-below, added-in, in-added, new-in, removed-in, in-removed, dropped-in, in-dropped, made-in, in-made}
use Rattle.newt_laws_changes.proofs.Places.{odd-is-not, odd-or-even, above-is-not, place-there, named-there, places_apart}
use Rattle.newt_laws_changes.proofs.Turned.{IsNew, turned_lies}

-- ---- words

-- the entry is the new one, in its soup, and has the new record
abbrev pub Same : ℕ → Entry → ℕ → ℕ → Entry → ℕ → Type 0
Same sig new id t e k = (t ≡ sig) × (new ≡ e) × (k ≡ id)

pub same-carried : (P : ℕ → Entry → ℕ → Type 0) (sig t : ℕ) (new e : Entry) (id k : ℕ) → Same sig new id t e k → P sig new id → P t e k
same-carried P sig t new e id k h p = subst (λ v. P v e k) (sym h.0) (subst (λ (d : Entry). P sig d k) h.1 (subst (P sig new) (sym h.2) p))

pub among-or-not : (os : List ℕ) (o : ℕ) → Among os o ⊎ (Among os o → ⊥)
among-or-not [] o = inr (λ m. m)
among-or-not (q ∷ os) o = go (same-or-not q o) (among-or-not os o)
  where
    go : (q ≡ o) ⊎ (q ≡ o → ⊥) → Among os o ⊎ (Among os o → ⊥) → Among (q ∷ os) o ⊎ (Among (q ∷ os) o → ⊥)
    go (inl e) k = inl (inl e)
    go (inr n) (inl m) = inl (inr m)
    go (inr n) (inr k) = inr (λ m. elim m [ inl e ↦ n e | inr h ↦ k h ])

pub either-way : (t u sig uid : ℕ) → ((t ≡ sig) × (u ≡ uid)) ⊎ (t ≡ sig → u ≡ uid → ⊥)
either-way t u sig uid = go (same-or-not t sig) (same-or-not u uid)
  where
    go : (t ≡ sig) ⊎ (t ≡ sig → ⊥) → (u ≡ uid) ⊎ (u ≡ uid → ⊥) → ((t ≡ sig) × (u ≡ uid)) ⊎ (t ≡ sig → u ≡ uid → ⊥)
    go (inl a) (inl b) = inl (a, b)
    go (inl a) (inr n) = inr (λ _ b. n b)
    go (inr n) k = inr (λ a _. n a)

-- a place of two names
pub at-other : (place : Places) (t u sig uid : ℕ) → t ≡ sig → u ≡ uid → place t u ≡ place sig uid
at-other place t u sig uid a b = ap (λ v. place v u) a ∙ ap (place sig) b

-- ---- other words in the directory

-- the entries stay and only object 0 is written
pub headed_lies : (objects objects' : Objects) (place : Places) (s t : Store) (lies : LiesIn objects place s) → HeadWritten (directory_bytes t) objects objects'
    → ((sig : ℕ) (e : Entry) → IsIn t sig e → IsIn s sig e) → ((sig : ℕ) (e : Entry) → IsIn s sig e → IsIn t sig e)
    → AreNormal t → (lies' : LiesIn objects' place t) × ((r : ℕ) → lies'.named r ≡ lies.named r)
headed_lies objects objects' place s t lies h back forth normal = turned_lies objects objects' place place lies.named s t (λ k. ⊥) (λ v e k. ⊥) lies (record {
  head_is = h.head_is;
  back = λ v e i. inl (back v e i, λ k at g. g);
  stays = λ v e k i at n. (forth v e i, at);
  records_stay = λ k bytes got odd n. (h.others k (odd-is-not k odd) ∙ got, refl);
  larges_stay = λ r o bytes got even above m n. h.others o (above-is-not o above) ∙ got;
  new_is = λ v e k n. absurd n;
  one_new = λ v e k x d other n m. absurd n;
  apart = λ v e k o r n m l. n;
  places_back = λ v u k at. inl (at, λ g. g);
  objects_back = λ o bytes got n. inl (sym (h.others o n) ∙ got, (λ g. g), λ r m g. g);
  infos = normal;
  names_back = λ r o m. inl (m, λ g. g);
})

-- a soup more
pub made_lies : (name : List ℕ) (objects objects' : Objects) (place : Places) (s : Store) (lies : LiesIn objects place s) → HeadWritten (directory_bytes (make_soup name s)) objects objects'
    → (lies' : LiesIn objects' place (make_soup name s)) × ((r : ℕ) → lies'.named r ≡ lies.named r)
made_lies name objects objects' place s lies h = headed_lies objects objects' place s (make_soup name s) lies h (made-in name s) (in-made name s) (made-infos name s lies.infos)

-- ---- a soup less

module _ (sig : ℕ) (objects objects' : Objects) (place place' : Places) (named' : Names) (s : Store) (p : Soup) (lies : LiesIn objects place s) (w : IsTrue (well_formed s))
    (found : soup_of sig s ≡ Some p) (h : SoupErased sig (directory_bytes (drop_soup p.name s)) objects objects' place place' lies.named named') where
  -- the records that are gone
  abbrev OfSoup : ℕ → Type 0
  OfSoup r = (u : ℕ) × (place sig u ≡ Some r)

  of-soup-or-not : (r : ℕ) → OfSoup r ⊎ (OfSoup r → ⊥)
  of-soup-or-not r = go (map.get objects r) refl (same-or-not r 0)
    where
      which : (bytes : List ℕ) → map.get objects r ≡ Some bytes → (n : r ≢ 0)
          → ((t : ℕ) × (e : Entry) × IsIn s t e × (place t e.uid ≡ Some r)) ⊎ ((q : ℕ) × Among (lies.named q) r) → OfSoup r ⊎ (OfSoup r → ⊥)
      which bytes there n (inl k) = of-soup (same-or-not k.0 sig)
        where
          of-soup : (k.0 ≡ sig) ⊎ (k.0 ≡ sig → ⊥) → OfSoup r ⊎ (OfSoup r → ⊥)
          of-soup (inl e) = inl (k.1.uid, ap (λ v. place v k.1.uid) (sym e) ∙ k.3)
          of-soup (inr m) = inr (λ g. m (places_apart objects place s lies w k.0 k.1.uid sig g.0 r k.3 g.1).0)
      which bytes there n (inr k) = inr (λ g. odd-or-even r (place-there objects place s sig g.0 r lies g.1).3 (named-there objects place s lies k.0 r k.1).2)

      go : (o : Option (List ℕ)) → map.get objects r ≡ o → (r ≡ 0) ⊎ (r ≡ 0 → ⊥) → OfSoup r ⊎ (OfSoup r → ⊥)
      go None there k = inr (λ g. none-some _ (sym there ∙ (place-there objects place s sig g.0 r lies g.1).4))
      go (Some bytes) there (inl z) = inr (λ g. odd-is-not r (place-there objects place s sig g.0 r lies g.1).3 z)
      go (Some bytes) there (inr n) = which bytes there n (lies.only_these r bytes there n)

  drop-stays : (t : ℕ) (e : Entry) (k : ℕ) → IsIn s t e → place t e.uid ≡ Some k → (OfSoup k → ⊥) → IsIn (drop_soup p.name s) t e × (place' t e.uid ≡ Some k)
  drop-stays t e k i at n =
      let differ : t ≢ sig = λ same. n (e.uid, ap (λ v. place v e.uid) (sym same) ∙ at) in
      (in-dropped s sig p w found t e i differ, h.other_places t e.uid differ ∙ at)

  drop-names : (r o : ℕ) → Among (named' r) o → OfSoup r ⊎ (OfSoup r → ⊥) → (Among (lies.named r) o × (OfSoup r → ⊥)) ⊎ ((t : ℕ) × (e : Entry) × ⊥)
  drop-names r o m (inl g) = absurd (subst (λ (ids : List ℕ). Among ids o) (h.no_names g.0 r g.1) m)
  drop-names r o m (inr n) = inl (subst (λ (ids : List ℕ). Among ids o) (h.other_names r (λ u at. n (u, at))) m, n)

  drop-objects : (o : ℕ) (bytes : List ℕ) → map.get objects' o ≡ Some bytes → o ≢ 0
      → (map.get objects o ≡ Some bytes) × (OfSoup o → ⊥) × ((r : ℕ) → Among (lies.named r) o → OfSoup r → ⊥)
  drop-objects o bytes got n =
      let here : OfSoup o → ⊥ = λ g. none-some bytes (sym (h.are_gone g.0 o g.1) ∙ got) in
      let still : (r : ℕ) → Among (lies.named r) o → OfSoup r → ⊥ = λ r m g. none-some bytes (sym (h.names_are_gone g.0 r o g.1 m) ∙ got) in
      (sym (h.others o n (λ u at. here (u, at)) (λ u r at m. still r m (u, at))) ∙ got, here, still)

  pub dropped_lies : (lies' : LiesIn objects' place' (drop_soup p.name s)) × ((r : ℕ) → lies'.named r ≡ named' r)
  dropped_lies = turned_lies objects objects' place place' named' s (drop_soup p.name s) OfSoup (λ t e k. ⊥) lies (record {
    head_is = h.head_is;
    back = λ t e i.
        let d = dropped-in s sig p w found t e i in
        inl (d.1, λ k at g. d.0 (places_apart objects place s lies w t e.uid sig g.0 k at g.1).0);
    stays = drop-stays;
    records_stay = λ k bytes got odd n. (
      h.others k (odd-is-not k odd) (λ u at. n (u, at)) (λ u r at m. odd-or-even k odd (named-there objects place s lies r k m).2) ∙ got,
      h.other_names k (λ u at. n (u, at)),
    );
    larges_stay = λ r o bytes got even above m n.
        h.others o (above-is-not o above) (λ u at. odd-or-even o (place-there objects place s sig u o lies at).3 even)
        (λ u q at k. n (u, subst (λ v. place sig u ≡ Some v) (lies.once q r o k m) at)) ∙ got;
    new_is = λ t e k n. absurd n;
    one_new = λ t e k v d other n m. absurd n;
    apart = λ t e k o r n m l. absurd n;
    places_back = λ t u k at.
        let differ : t ≢ sig = λ same. none-some k (sym (h.not_placed u) ∙ ap (λ v. place' v u) (sym same) ∙ at) in
        let was = sym (h.other_places t u differ) ∙ at in
        inl (was, λ g. differ (places_apart objects place s lies w t u sig g.0 k was g.1).0);
    objects_back = λ o bytes got n. inl (drop-objects o bytes got n);
    infos = dropped-infos p.name s lies.infos;
    names_back = λ r o m. drop-names r o m (of-soup-or-not r);
  })

-- ---- an entry less

module _ (sig uid id : ℕ) (objects objects' : Objects) (place place' : Places) (named' : Names) (s : Store) (p : Soup) (lies : LiesIn objects place s) (w : IsTrue (well_formed s))
    (found : soup_of sig s ≡ Some p) (h : EntryErased sig uid id objects objects' place place' lies.named named') where
  gone-here : (t u : ℕ) → place t u ≡ Some id → (t ≡ sig) × (u ≡ uid)
  gone-here t u at = places_apart objects place s lies w t u sig uid id at h.was_placed

  gone-odd : id % 2 ≡ 1
  gone-odd = (place-there objects place s sig uid id lies h.was_placed).3

  remove-objects : (o : ℕ) (bytes : List ℕ) → map.get objects' o ≡ Some bytes → (map.get objects o ≡ Some bytes) × (o ≡ id → ⊥) × ((r : ℕ) → Among (lies.named r) o → r ≡ id → ⊥)
  remove-objects o bytes got =
      let here : o ≡ id → ⊥ = λ g. none-some bytes (sym h.is_gone ∙ ap (map.get objects') (sym g) ∙ got) in
      let still : Among (lies.named id) o → ⊥ = λ m. none-some bytes (sym (h.are_gone o m) ∙ got) in
      (sym (h.others o here still) ∙ got, here, λ r m g. still (subst (λ v. Among (lies.named v) o) g m))

  remove-names : (r o : ℕ) → Among (named' r) o → (r ≡ id) ⊎ (r ≡ id → ⊥) → (Among (lies.named r) o × (r ≡ id → ⊥)) ⊎ ((t : ℕ) × (e : Entry) × ⊥)
  remove-names r o m (inl g) = absurd (subst (λ (ids : List ℕ). Among ids o) h.names_are.names_it (subst (λ v. Among (named' v) o) g m))
  remove-names r o m (inr n) = inl (subst (λ (ids : List ℕ). Among ids o) (h.names_are.other_names r n) m, n)

  pub removed_lies : (lies' : LiesIn objects' place' (change_soup p.name (remove_entry uid) s)) × ((r : ℕ) → lies'.named r ≡ named' r)
  removed_lies = turned_lies objects objects' place place' named' s (change_soup p.name (remove_entry uid) s) (λ k. k ≡ id) (λ t e k. ⊥) lies (record {
    head_is = h.others 0 (λ e. odd-is-not id gone-odd (sym e)) (λ m. above-is-not 0 (named-there objects place s lies id 0 m).3 refl) ∙ lies.directory ∙ ap Some (sym (removed-directory p.name uid s));
    back = λ t e i.
        let d = removed-in s sig p w found uid t e i in
        inl (d.0, λ k at g. let a = gone-here t e.uid (subst (λ n. place t e.uid ≡ Some n) g at) in d.1 a.0 a.1);
    stays = λ t e k i at n.
        let m : t ≡ sig → e.uid ≡ uid → ⊥ = λ a b. n (some-same k id (sym at ∙ at-other place t e.uid sig uid a b ∙ h.was_placed)) in
        (in-removed s sig p w found uid t e i m, h.other_places t e.uid m ∙ at);
    records_stay = λ k bytes got odd n. (h.others k n (λ m. odd-or-even k odd (named-there objects place s lies id k m).2) ∙ got, h.names_are.other_names k n);
    larges_stay = λ r o bytes got even above m n. h.others o (λ e. odd-or-even o (subst (λ v. v % 2 ≡ 1) (sym e) gone-odd) even) (λ k. n (lies.once r id o m k)) ∙ got;
    new_is = λ t e k n. absurd n;
    one_new = λ t e k v d other n m. absurd n;
    apart = λ t e k o r n m l. absurd n;
    places_back = λ t u k at.
        let m : t ≡ sig → u ≡ uid → ⊥ = λ a b. none-some k (sym h.not_placed ∙ sym (at-other place' t u sig uid a b) ∙ at) in
        let was = sym (h.other_places t u m) ∙ at in
        inl (was, λ g. let a = gone-here t u (subst (λ n. place t u ≡ Some n) g was) in m a.0 a.1);
    objects_back = λ o bytes got n. inl (remove-objects o bytes got);
    infos = changed-infos p.name (remove_entry uid) s (λ q. refl) lies.infos;
    names_back = λ r o m. remove-names r o m (same-or-not r id);
  })

-- ---- an entry more

-- objects that there were not are none of those that there were
pub is-not-free : (objects : Objects) (ids : List ℕ) (o : ℕ) (bytes : List ℕ) → ((q : ℕ) → Among ids q → map.get objects q ≡ None) → map.get objects o ≡ Some bytes → Among ids o → ⊥
is-not-free objects ids o bytes free got m = none-some bytes (sym (free o m) ∙ got)

module _ (sig id now : ℕ) (ids : List ℕ) (g : RawGraph) (objects objects' : Objects) (place place' : Places) (named' : Names) (s : Store) (p : Soup) (lies : LiesIn objects place s)
    (w : IsTrue (well_formed s)) (found : soup_of sig s ≡ Some p) (graph : IsGraph (skeleton g)) (time : now < 4294967296)
    (h : EntryWritten sig (record { uid = p.next_uid; time = now; graph = g }) id ids (directory_bytes (change_soup p.name (add_entry now g) s)) objects objects' place place' lies.named named') where
  abbrev added : Entry
  added = record { uid = p.next_uid; time = now; graph = g }

  abbrev after-add : Store
  after-add = change_soup p.name (add_entry now g) s

  is-none : (o : ℕ) (bytes : List ℕ) → map.get objects o ≡ Some bytes → o ≡ id → ⊥
  is-none o bytes got e = none-some bytes (sym h.is_new ∙ ap (map.get objects) (sym e) ∙ got)

  add-keeps : (o : ℕ) (bytes : List ℕ) → map.get objects o ≡ Some bytes → o ≢ 0 → map.get objects' o ≡ Some bytes
  add-keeps o bytes got n = h.others o n (is-none o bytes got) (is-not-free objects ids o bytes h.are_new got) ∙ got

  not-added : (t : ℕ) (e : Entry) → IsIn s t e → t ≡ sig → e.uid ≡ p.next_uid → ⊥
  not-added t e i a b = let below = in-below s sig p w found e (subst (λ v. IsIn s v e) a i) in omega (arith, below, b)

  the-added : IsNew objects' place' named' after-add sig added id
  the-added = record {
    is_in = new-in s sig p w found now g;
    placed = h.placed;
    odd = h.odd;
    record_is = subst (λ (v : List ℕ). map.get objects' id ≡ Some (entry_bytes sig added v)) (sym h.names_are.names_it) h.record_is;
    larges_are = subst (AreLarges objects' g) (sym h.names_are.names_it) h.larges_are;
    graph = graph;
    time = time;
  }

  add-back : (t : ℕ) (e : Entry) → (IsIn s t e × (t ≡ sig → e.uid ≡ p.next_uid → ⊥)) ⊎ ((t ≡ sig) × (added ≡ e))
      → (IsIn s t e × ((k : ℕ) → place t e.uid ≡ Some k → ⊥ → ⊥)) ⊎ ((k : ℕ) × Same sig added id t e k)
  add-back t e (inl k) = inl (k.0, λ v at g. g)
  add-back t e (inr k) = inr (id, (k.0, k.1, refl))

  add-places : (t u k : ℕ) → place' t u ≡ Some k → ((t ≡ sig) × (u ≡ p.next_uid)) ⊎ (t ≡ sig → u ≡ p.next_uid → ⊥)
      → ((place t u ≡ Some k) × (⊥ → ⊥)) ⊎ ((e : Entry) × Same sig added id t e k × (e.uid ≡ u))
  add-places t u k at (inl a) = inr (added, (a.0, refl, some-same k id (sym at ∙ at-other place' t u sig p.next_uid a.0 a.1 ∙ h.placed)), sym a.1)
  add-places t u k at (inr n) = inl (sym (h.other_places t u n) ∙ at, λ g. g)

  add-objects : (o : ℕ) (bytes : List ℕ) → map.get objects' o ≡ Some bytes → o ≢ 0 → (o ≡ id) ⊎ (o ≡ id → ⊥) → Among ids o ⊎ (Among ids o → ⊥)
      → ((map.get objects o ≡ Some bytes) × (⊥ → ⊥) × ((r : ℕ) → Among (lies.named r) o → ⊥ → ⊥)) ⊎ (((t : ℕ) × (e : Entry) × Same sig added id t e o) ⊎ ((r : ℕ) × Among (named' r) o))
  add-objects o bytes got n (inl e) k = inr (inl (sig, added, (refl, refl, e)))
  add-objects o bytes got n (inr m) (inl k) = inr (inr (id, subst (λ (v : List ℕ). Among v o) (sym h.names_are.names_it) k))
  add-objects o bytes got n (inr m) (inr l) = inl (sym (h.others o n m l) ∙ got, (λ g. g), λ r k g. g)

  add-names : (r o : ℕ) → Among (named' r) o → (r ≡ id) ⊎ (r ≡ id → ⊥) → (Among (lies.named r) o × (⊥ → ⊥)) ⊎ ((t : ℕ) × (e : Entry) × Same sig added id t e r)
  add-names r o m (inl e) = inr (sig, added, (refl, refl, e))
  add-names r o m (inr n) = inl (subst (λ (v : List ℕ). Among v o) (h.names_are.other_names r n) m, λ g. g)

  pub added_lies : (lies' : LiesIn objects' place' (change_soup p.name (add_entry now g) s)) × ((r : ℕ) → lies'.named r ≡ named' r)
  added_lies = turned_lies objects objects' place place' named' s after-add (λ k. ⊥) (Same sig added id) lies (record {
    head_is = h.head_is;
    back = λ t e i. add-back t e (added-in s sig p w found now g t e i);
    stays = λ t e k i at n. (in-added s sig p w found now g t e i, h.other_places t e.uid (not-added t e i) ∙ at);
    records_stay = λ k bytes got odd n. (add-keeps k bytes got (odd-is-not k odd), h.names_are.other_names k (is-none k bytes got));
    larges_stay = λ r o bytes got even above m n. add-keeps o bytes got (above-is-not o above);
    new_is = λ t e k n. same-carried (IsNew objects' place' named' after-add) sig t added e id k n the-added;
    one_new = λ t e k v d other n m. n.2 ∙ sym m.2;
    apart = λ t e k o r n m l.
        let b = named-there objects place s lies r o l in
        is-not-free objects ids o b.0 h.are_new b.1 (subst (λ (v : List ℕ). Among v o) h.names_are.names_it (subst (λ v. Among (named' v) o) n.2 m));
    places_back = λ t u k at. add-places t u k at (either-way t u sig p.next_uid);
    infos = changed-infos p.name (add_entry now g) s (λ q. refl) lies.infos;
    objects_back = λ o bytes got n. add-objects o bytes got n (same-or-not o id) (among-or-not ids o);
    names_back = λ r o m. add-names r o m (same-or-not r id);
  })
