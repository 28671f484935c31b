-- An entry moved within one store: an entry more in one soup and one less in another, in one step.
use Rattle.std.proofs.Common.{arith, ◌≡◌, ◌≢◌, refl, ap, sym, ◌∙◌, subst, ℕ, ◌<◌, ◌%◌, List, true, false, Bool, IsTrue, cond, Some, ◌⊎◌, inl, inr, ◌==◌}
use Rattle.std.proofs.lemmas.Bool.{eqb-true, eq-eqb}
use Rattle.std.proofs.lemmas.Cmp.{nat_cmp_total}
use Rattle.std.specs.Cmp.{unsigned_tied}
use Rattle.std.specs.FinMap as map
use Rattle.std.specs.FinMap.{get-insert}
use Rattle.newt_base.specs.Names.{equal_text}
use Rattle.newt_graph.specs.Graph.{RawGraph, IsGraph}
use Rattle.newt_spec_image.specs.Objects.{Objects}
use Rattle.newt_spec_nsof.specs.Lengths.{skeleton}
use Rattle.newt_spec_graph.specs.Lists.{Among}
use Rattle.newt_spec_graph.proofs.Lists.{none-some, some-same}
use Rattle.newt_spec_store.specs.Cost.{directory_bytes}
use Rattle.newt_spec_store.specs.Image.{entry_bytes}
use Rattle.newt_spec_store.specs.Lies.{Places, IsIn, AreLarges, LiesIn}
use Rattle.newt_spec_store.specs.Store.{Store, Soup, Entry, change_soup, add_entry, remove_entry, soup_of}
use Rattle.newt_spec_store.specs.Valid.{well_formed, valid_entry}
use Rattle.newt_laws_images.proofs.Stores.{is-store}
use Rattle.newt_laws_changes.specs.Written.{Names, EntryMoved}
use Rattle.newt_laws_images.proofs.Chosen.{find-one, first-among, first-others, one-sig-of, soup-there, found_by_name}
use Rattle.newt_laws_changes.proofs.Formed.{added_formed}
use Rattle.newt_laws_changes.proofs.Lying.{Same, same-carried, among-or-not, either-way, at-other, is-not-free}
use Rattle.newt_laws_changes.proofs.Infos.{changed-infos}
use Rattle.newt_laws_changes.proofs.Members.{same-or-not, same-name, in-below, added-in, in-added, new-in, removed-in, in-removed}
use Rattle.newt_laws_changes.proofs.Places.{odd-is-not, odd-or-even, above-is-not, place-there, named-there, places_apart}
use Rattle.newt_laws_changes.proofs.Soups.{first-map}
use Rattle.newt_laws_changes.proofs.Turned.{IsNew, turned_lies}

-- ---- a soup when an entry has been added to another or to it

pub soup_after_add : (sig to : ℕ) (s : Store) (p q : Soup) (now : ℕ) (g : RawGraph) → IsTrue (well_formed s) → soup_of sig s ≡ Some p → soup_of to s ≡ Some q
    → (r : Soup) × (soup_of sig (change_soup q.name (add_entry now g) s) ≡ Some r) × (r.name ≡ p.name)
soup_after_add sig to s p q now g w found target = go (same-or-not sig to)
  where
    test : Soup → Bool
    test r = equal_text r.name q.name

    one : (r : Soup) → Among (change_soup q.name (add_entry now g) s).soups r → r.sig ≡ sig → soup_of sig (change_soup q.name (add_entry now g) s) ≡ Some r
    one r m e = find-one (λ (r : Soup). r.sig == sig) (change_soup q.name (add_entry now g) s).soups r
        (one-sig-of sig s.next_soup (change_soup q.name (add_entry now g) s).soups
        (ap (Rattle.newt_spec_graph.specs.Lists.rises 0 s.next_soup) (first-map (λ (r : Soup). r.sig) (λ r. equal_text r.name q.name) (add_entry now g) s.soups (λ r. refl)) ∙ (is-store s w).sigs))
        m (eq-eqb r.sig sig e)

    go : (sig ≡ to) ⊎ (sig ≡ to → ⊥) → (r : Soup) × (soup_of sig (change_soup q.name (add_entry now g) s) ≡ Some r) × (r.name ≡ p.name)
    go (inl e) = (
      add_entry now g q,
      one (add_entry now g q) (first-among (λ r. equal_text r.name q.name) (add_entry now g) s.soups q (found_by_name to s q w target)) ((soup-there to s q target).0 ∙ sym e),
      ap (λ (r : Soup). r.name) (some-same q p (sym target ∙ ap (λ v. soup_of v s) (sym e) ∙ found)),
    )
    go (inr n) = (
      p,
      one p (first-others (λ r. equal_text r.name q.name) (add_entry now g) s.soups p (soup-there sig s p found).1
          (λ h. n (sym (soup-there sig s p found).0 ∙ ap (λ (r : Soup). r.sig) (same-name s to q w target p (soup-there sig s p found).1 h) ∙ (soup-there to s q target).0)))
          (soup-there sig s p found).0,
      refl,
    )

-- ---- maps

pub inserted-at : (m : Objects) (k : ℕ) (v : List ℕ) → map.get (map.insert m k v) k ≡ Some v
inserted-at m k v = get-insert nat_cmp_total m k v k ∙ ap (λ b. cond b (Some v) (map.get m k)) (unsigned_tied k k ∙ eq-eqb k k refl)

pub inserted-other : (m : Objects) (k : ℕ) (v : List ℕ) (q : ℕ) → q ≢ k → map.get (map.insert m k v) q ≡ map.get m q
inserted-other m k v q n = get-insert nat_cmp_total m k v q ∙ go (q == k) refl
  where
    go : (b : Bool) → (q == k) ≡ b → cond (Rattle.std.specs.Ordering.eq_by_cmp Rattle.std.specs.Ordering.nat_cmp q k) (Some v) (map.get m q) ≡ map.get m q
    go true e = absurd (n (eqb-true q k e))
    go false e = ap (λ b. cond b (Some v) (map.get m q)) (unsigned_tied q k ∙ e)

-- ---- the move

module _ (sig uid old to id now : ℕ) (ids : List ℕ) (g : RawGraph) (objects objects' : Objects) (place place' : Places) (named' : Names) (s : Store) (p q : Soup)
    (lies : LiesIn objects place s) (w : IsTrue (well_formed s)) (found : soup_of sig s ≡ Some p) (target : soup_of to s ≡ Some q) (graph : IsGraph (skeleton g)) (time : now < 4294967296)
    (room : q.next_uid < 536870911) (fits : IsTrue (valid_entry (record { uid = q.next_uid; time = now; graph = g })))
    (h : EntryMoved sig uid old to (record { uid = q.next_uid; time = now; graph = g }) id ids (directory_bytes (change_soup p.name (remove_entry uid) (change_soup q.name (add_entry now g) s)))
    objects objects' place place' lies.named named') where
  abbrev moved : Entry
  moved = record { uid = q.next_uid; time = now; graph = g }

  -- the store with the entry in both soups
  abbrev between : Store
  between = change_soup q.name (add_entry now g) s

  abbrev after-move : Store
  after-move = change_soup p.name (remove_entry uid) between

  between-formed : IsTrue (well_formed between)
  between-formed = added_formed to s q now g w target room fits

  between-soup : (r : Soup) × (soup_of sig between ≡ Some r) × (r.name ≡ p.name)
  between-soup = soup_after_add sig to s p q now g w found target

  moved-in : (t : ℕ) (e : Entry) → IsIn after-move t e → IsIn between t e × (t ≡ sig → e.uid ≡ uid → ⊥)
  moved-in = subst (λ (name : List ℕ). (t : ℕ) (e : Entry) → IsIn (change_soup name (remove_entry uid) between) t e → IsIn between t e × (t ≡ sig → e.uid ≡ uid → ⊥)) between-soup.2
      (λ t e i. removed-in between sig between-soup.0 between-formed between-soup.1 uid t e i)

  in-moved : (t : ℕ) (e : Entry) → IsIn between t e → (t ≡ sig → e.uid ≡ uid → ⊥) → IsIn after-move t e
  in-moved = subst (λ (name : List ℕ). (t : ℕ) (e : Entry) → IsIn between t e → (t ≡ sig → e.uid ≡ uid → ⊥) → IsIn (change_soup name (remove_entry uid) between) t e) between-soup.2
      (λ t e i n. in-removed between sig between-soup.0 between-formed between-soup.1 uid t e i n)

  move-here : (t u : ℕ) → place t u ≡ Some old → (t ≡ sig) × (u ≡ uid)
  move-here t u at = places_apart objects place s lies w t u sig uid old at h.was_placed

  move-odd : old % 2 ≡ 1
  move-odd = (place-there objects place s sig uid old lies h.was_placed).3

  is-none : (o : ℕ) (bytes : List ℕ) → map.get objects o ≡ Some bytes → o ≡ id → ⊥
  is-none o bytes got e = none-some bytes (sym h.is_new ∙ ap (map.get objects) (sym e) ∙ got)

  not-moved : (t : ℕ) (e : Entry) → IsIn s t e → t ≡ to → e.uid ≡ q.next_uid → ⊥
  not-moved t e i a b = let below = in-below s to q w target e (subst (λ v. IsIn s v e) a i) in omega (arith, below, b)

  -- the new place is not the old one
  not-both : to ≡ sig → q.next_uid ≡ uid → ⊥
  not-both a b = none-some id (sym h.not_placed ∙ sym (at-other place' to q.next_uid sig uid a b) ∙ h.placed)

  the-moved : IsNew objects' place' named' after-move to moved id
  the-moved = record {
    is_in = in-moved to moved (new-in s to q w target now g) not-both;
    placed = h.placed;
    odd = h.odd;
    record_is = subst (λ (v : List ℕ). map.get objects' id ≡ Some (entry_bytes to moved v)) (sym h.names_it) h.record_is;
    larges_are = subst (AreLarges objects' g) (sym h.names_it) h.larges_are;
    graph = graph;
    time = time;
  }

  move-back : (t : ℕ) (e : Entry) → (t ≡ sig → e.uid ≡ uid → ⊥) → (IsIn s t e × (t ≡ to → e.uid ≡ q.next_uid → ⊥)) ⊎ ((t ≡ to) × (moved ≡ e))
      → (IsIn s t e × ((k : ℕ) → place t e.uid ≡ Some k → k ≡ old → ⊥)) ⊎ ((k : ℕ) × Same to moved id t e k)
  move-back t e n (inl k) = inl (k.0, λ v at f. let a = move-here t e.uid (subst (λ m. place t e.uid ≡ Some m) f at) in n a.0 a.1)
  move-back t e n (inr k) = inr (id, (k.0, k.1, refl))

  move-stays : (t : ℕ) (e : Entry) (k : ℕ) → IsIn s t e → place t e.uid ≡ Some k → (k ≡ old → ⊥) → IsIn after-move t e × (place' t e.uid ≡ Some k)
  move-stays t e k i at n =
      let m : t ≡ sig → e.uid ≡ uid → ⊥ = λ a b. n (some-same k old (sym at ∙ at-other place t e.uid sig uid a b ∙ h.was_placed)) in
      (in-moved t e (in-added s to q w target now g t e i) m, h.other_places t e.uid (not-moved t e i) m ∙ at)

  move-places : (t u k : ℕ) → place' t u ≡ Some k → ((t ≡ to) × (u ≡ q.next_uid)) ⊎ (t ≡ to → u ≡ q.next_uid → ⊥)
      → ((place t u ≡ Some k) × (k ≡ old → ⊥)) ⊎ ((e : Entry) × Same to moved id t e k × (e.uid ≡ u))
  move-places t u k at (inl a) = inr (moved, (a.0, refl, some-same k id (sym at ∙ at-other place' t u to q.next_uid a.0 a.1 ∙ h.placed)), sym a.1)
  move-places t u k at (inr n) =
      let m : t ≡ sig → u ≡ uid → ⊥ = λ a b. none-some k (sym h.not_placed ∙ sym (at-other place' t u sig uid a b) ∙ at) in
      let was = sym (h.other_places t u n m) ∙ at in
      inl (was, λ f. let a = move-here t u (subst (λ v. place t u ≡ Some v) f was) in m a.0 a.1)

  move-objects : (o : ℕ) (bytes : List ℕ) → map.get objects' o ≡ Some bytes → o ≢ 0 → (o ≡ id) ⊎ (o ≡ id → ⊥) → Among ids o ⊎ (Among ids o → ⊥)
      → ((map.get objects o ≡ Some bytes) × (o ≡ old → ⊥) × ((r : ℕ) → Among (lies.named r) o → r ≡ old → ⊥))
      ⊎ (((t : ℕ) × (e : Entry) × Same to moved id t e o) ⊎ ((r : ℕ) × Among (named' r) o))
  move-objects o bytes got z (inl e) k = inr (inl (to, moved, (refl, refl, e)))
  move-objects o bytes got z (inr m) (inl k) = inr (inr (id, subst (λ (v : List ℕ). Among v o) (sym h.names_it) k))
  move-objects o bytes got z (inr m) (inr l) =
      let here : o ≡ old → ⊥ = λ f. none-some bytes (sym h.is_gone ∙ ap (map.get objects') (sym f) ∙ got) in
      let still : Among (lies.named old) o → ⊥ = λ k. none-some bytes (sym (h.are_gone o k) ∙ got) in
      inl (sym (h.others o z m l here still) ∙ got, here, λ r k f. still (subst (λ v. Among (lies.named v) o) f k))

  move-names : (r o : ℕ) → Among (named' r) o → (r ≡ id) ⊎ (r ≡ id → ⊥) → (r ≡ old) ⊎ (r ≡ old → ⊥)
      → (Among (lies.named r) o × (r ≡ old → ⊥)) ⊎ ((t : ℕ) × (e : Entry) × Same to moved id t e r)
  move-names r o m (inl e) k = inr (to, moved, (refl, refl, e))
  move-names r o m (inr n) (inl e) = absurd (subst (λ (v : List ℕ). Among v o) h.names_none (subst (λ v. Among (named' v) o) e m))
  move-names r o m (inr n) (inr k) = inl (subst (λ (v : List ℕ). Among v o) (h.other_names r n k) m, k)

  pub moved_lies : (lies' : LiesIn objects' place' (change_soup p.name (remove_entry uid) (change_soup q.name (add_entry now g) s))) × ((r : ℕ) → lies'.named r ≡ named' r)
  moved_lies = turned_lies objects objects' place place' named' s after-move (λ k. k ≡ old) (Same to moved id) lies (record {
    head_is = h.head_is;
    back = λ t e i. let d = moved-in t e i in move-back t e d.1 (added-in s to q w target now g t e d.0);
    stays = move-stays;
    records_stay = λ k bytes got odd n. (
      h.others k (odd-is-not k odd) (is-none k bytes got) (is-not-free objects ids k bytes h.are_new got) n (λ m. odd-or-even k odd (named-there objects place s lies old k m).2) ∙ got,
      h.other_names k (is-none k bytes got) n,
    );
    larges_stay = λ r o bytes got even above m n.
        h.others o (above-is-not o above) (is-none o bytes got) (is-not-free objects ids o bytes h.are_new got)
        (λ e. odd-or-even o (subst (λ v. v % 2 ≡ 1) (sym e) move-odd) even) (λ k. n (lies.once r old o m k)) ∙ got;
    new_is = λ t e k n. same-carried (IsNew objects' place' named' after-move) to t moved e id k n the-moved;
    one_new = λ t e k v d other n m. n.2 ∙ sym m.2;
    apart = λ t e k o r n m l.
        let b = named-there objects place s lies r o l in
        absurd (is-not-free objects ids o b.0 h.are_new b.1 (subst (λ (v : List ℕ). Among v o) h.names_it (subst (λ v. Among (named' v) o) n.2 m)));
    places_back = λ t u k at. move-places t u k at (either-way t u to q.next_uid);
    infos = changed-infos p.name (remove_entry uid) between (λ r. refl) (changed-infos q.name (add_entry now g) s (λ r. refl) lies.infos);
    objects_back = λ o bytes got n. move-objects o bytes got n (same-or-not o id) (among-or-not ids o);
    names_back = λ r o m. move-names r o m (same-or-not r id) (same-or-not r old);
  })
