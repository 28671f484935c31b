-- An entry replaced by another of its id, one with other bytes in a large binary, and a soup with other declarations, in the changed objects.
use Rattle.std.proofs.Common.{◌≡◌, ◌≢◌, refl, ap, sym, ◌∙◌, subst, ℕ, ◌<◌, ◌%◌, List, true, IsTrue, Some, ◌⊎◌, inl, inr, ◌==◌}
use Rattle.std.specs.FinMap as map
use Rattle.std.proofs.lemmas.Bool.{eqb-true, eq-eqb}
use Rattle.newt_graph.specs.Graph.{RawGraph, IsGraph}
use Rattle.newt_spec_image.specs.Objects.{Objects}
use Rattle.newt_spec_nsof.specs.Lengths.{skeleton}
use Rattle.newt_spec_graph.specs.Lists.{Among}
use Rattle.newt_spec_graph.proofs.Lists.{get-among, some-same, none-some}
use Rattle.newt_spec_store.specs.Cost.{directory_bytes}
use Rattle.newt_spec_store.specs.Image.{entry_bytes}
use Rattle.newt_spec_store.specs.Lies.{Places, IsIn, AreLarges, LiesIn}
use Rattle.newt_spec_store.specs.Store.{Store, Soup, Entry, entry_of, change_soup, change_entry, soup_of}
use Rattle.newt_spec_store.specs.Valid.{well_formed}
use Rattle.newt_laws_changes.specs.Written.{Names, HeadWritten, EntryRewritten, EntryPatched}
use Rattle.newt_laws_changes.proofs.Bytes.{same-directory}
use Rattle.newt_laws_images.proofs.Chosen.{find-passes, first-among, first-others, first-parts, one-uid, soup-there, soup-good}
use Rattle.newt_laws_changes.proofs.Lying.{Same, same-carried, among-or-not, either-way, at-other, headed_lies, is-not-free}
use Rattle.newt_laws_changes.proofs.Infos.{changed-infos, declared-infos}
use Rattle.newt_laws_changes.proofs.Members.{same-or-not, entry_is_in, in-one, one-in, changed-in, in-changed, others-in}
use Rattle.newt_laws_changes.proofs.Patched.{with_patch, patched-skeleton, patched-bytes, patched-there}
use Rattle.newt_laws_changes.proofs.Places.{odd-is-not, odd-or-even, above-is-not, named-there, places_apart}
use Rattle.newt_laws_changes.proofs.Turned.{IsNew, turned_lies}

module _ (s : Store) (sig : ℕ) (p : Soup) (w : IsTrue (well_formed s)) (found : soup_of sig s ≡ Some p) where
  -- ---- an entry in place of another

  module _ (uid : ℕ) (old : Entry) (here : entry_of uid p ≡ Some old) (f : Entry → Entry) (same_uid : (f old).uid ≡ old.uid) where
    old-is : old.uid ≡ uid
    old-is = eqb-true old.uid uid (find-passes (λ (e : Entry). e.uid == uid) p.entries old here).0

    pub replaced-in : (t : ℕ) (e : Entry) → IsIn (change_soup p.name (change_entry uid f) s) t e → (IsIn s t e × (t ≡ sig → e.uid ≡ uid → ⊥)) ⊎ ((t ≡ sig) × (f old ≡ e))
    replaced-in t e i = go (changed-in s sig p w found (change_entry uid f) refl t e i)
      where
        one : t ≡ sig → (f old ≡ e) ⊎ (Among p.entries e × ((e.uid == uid) ≡ true → ⊥)) → (IsIn s t e × (t ≡ sig → e.uid ≡ uid → ⊥)) ⊎ ((t ≡ sig) × (f old ≡ e))
        one same (inl k) = inr (same, k)
        one same (inr k) = inl (subst (λ v. IsIn s v e) (sym same) (one-in s sig p w found e k.0), λ _ u. k.1 (eq-eqb e.uid uid u))

        go : ((t ≡ sig) × Among (change_entry uid f p).entries e) ⊎ ((t ≡ sig → ⊥) × IsIn s t e) → (IsIn s t e × (t ≡ sig → e.uid ≡ uid → ⊥)) ⊎ ((t ≡ sig) × (f old ≡ e))
        go (inl k) = one k.0 (first-parts (λ (e : Entry). e.uid == uid) f p.entries old e (one-uid uid p (soup-good s p w (soup-there sig s p found).1).uids) here k.1)
        go (inr k) = inl (k.1, λ same _. k.0 same)

    pub in-replaced : (t : ℕ) (e : Entry) → IsIn s t e → (t ≡ sig → e.uid ≡ uid → ⊥) → IsIn (change_soup p.name (change_entry uid f) s) t e
    in-replaced t e i n = go (same-or-not t sig)
      where
        go : (t ≡ sig) ⊎ (t ≡ sig → ⊥) → IsIn (change_soup p.name (change_entry uid f) s) t e
        go (inl same) = subst (λ v. IsIn (change_soup p.name (change_entry uid f) s) v e) (sym same) (in-changed s sig p w found (change_entry uid f) refl e
            (first-others (λ (d : Entry). d.uid == uid) f p.entries e (in-one s sig p w found e (subst (λ v. IsIn s v e) same i)) (λ h. n same (eqb-true e.uid uid h))))
        go (inr other) = others-in s sig p w found (change_entry uid f) t e i other

    pub new-replaced : IsIn (change_soup p.name (change_entry uid f) s) sig (f old)
    new-replaced = in-changed s sig p w found (change_entry uid f) refl (f old) (first-among (λ (d : Entry). d.uid == uid) f p.entries old here)

  -- ---- other declarations

  pub declared-in : (f : Soup → Soup) → (f p).sig ≡ p.sig → (f p).entries ≡ p.entries → (t : ℕ) (e : Entry) → IsIn (change_soup p.name f s) t e → IsIn s t e
  declared-in f keeps same_entries t e i = elim (changed-in s sig p w found f keeps t e i) [
    | inl k ↦ subst (λ v. IsIn s v e) (sym k.0) (one-in s sig p w found e (subst (λ es. Among es e) same_entries k.1))
    | inr k ↦ k.1
  ]

  pub in-declared : (f : Soup → Soup) → (f p).sig ≡ p.sig → (f p).entries ≡ p.entries → (t : ℕ) (e : Entry) → IsIn s t e → IsIn (change_soup p.name f s) t e
  in-declared f keeps same_entries t e i = go (same-or-not t sig)
    where
      go : (t ≡ sig) ⊎ (t ≡ sig → ⊥) → IsIn (change_soup p.name f s) t e
      go (inl k) = subst (λ v. IsIn (change_soup p.name f s) v e) (sym k) (in-changed s sig p w found f keeps e (subst (λ es. Among es e) (sym same_entries) (in-one s sig p w found e (subst (λ v. IsIn s v e) k i))))
      go (inr n) = others-in s sig p w found f t e i n

pub declared_lies : (sig : ℕ) (change : Soup → Soup) (objects objects' : Objects) (place : Places) (s : Store) (p : Soup) (lies : LiesIn objects place s) → IsTrue (well_formed s)
    → soup_of sig s ≡ Some p → (change p).sig ≡ p.sig → (change p).entries ≡ p.entries → ((g : RawGraph) → (change p).info ≡ Some g → IsGraph g) → HeadWritten (directory_bytes (change_soup p.name change s)) objects objects'
    → (lies' : LiesIn objects' place (change_soup p.name change s)) × ((r : ℕ) → lies'.named r ≡ lies.named r)
declared_lies sig change objects objects' place s p lies w found same_sig same_entries normal h = headed_lies objects objects' place s (change_soup p.name change s) lies h
    (declared-in s sig p w found change same_sig same_entries) (in-declared s sig p w found change same_sig same_entries) (declared-infos s sig p w found change normal lies.infos)

-- ---- an entry whose record is written anew

module _ (sig uid id : ℕ) (change : Entry → Entry) (objects : Objects) (place : Places) (s : Store) (p : Soup) (old : Entry) (lies : LiesIn objects place s) (w : IsTrue (well_formed s))
    (found : soup_of sig s ≡ Some p) (here : entry_of uid p ≡ Some old) (same_uid : (change old).uid ≡ old.uid) (is_placed : place sig uid ≡ Some id) where
  abbrev after : Store
  after = change_soup p.name (change_entry uid change) s

  its-record : (id % 2 ≡ 1) × (map.get objects id ≡ Some (entry_bytes sig old (lies.named id))) × AreLarges objects old.graph (lies.named id)
  its-record =
      let i = entry_is_in sig uid s p old found here in
      let r = lies.records sig old i.0 in
      let same : r.0 ≡ id = some-same r.0 id (sym r.1 ∙ ap (place sig) i.1 ∙ is_placed) in (
        subst (λ v. v % 2 ≡ 1) same r.2,
        subst (λ v. map.get objects v ≡ Some (entry_bytes sig old (lies.named v))) same r.3,
        subst (λ v. AreLarges objects old.graph (lies.named v)) same r.4,
      )

  its-place : (t u k : ℕ) → place t u ≡ Some k → k ≡ id → (t ≡ sig) × (u ≡ uid)
  its-place t u k at e = places_apart objects place s lies w t u sig uid id (subst (λ v. place t u ≡ Some v) e at) is_placed

  its-uid : (change old).uid ≡ uid
  its-uid = same_uid ∙ old-is s sig p w found uid old here change same_uid

  its-back : (t : ℕ) (e : Entry) → IsIn after t e → (IsIn s t e × ((k : ℕ) → place t e.uid ≡ Some k → k ≡ id → ⊥)) ⊎ ((k : ℕ) × Same sig (change old) id t e k)
  its-back t e i = elim (replaced-in s sig p w found uid old here change same_uid t e i) [
    | inl k ↦ inl (k.0, λ v at g. let a = its-place t e.uid v at g in k.1 a.0 a.1)
    | inr k ↦ inr (id, (k.0, k.1, refl))
  ]

  its-stays : (t : ℕ) (e : Entry) (k : ℕ) → IsIn s t e → place t e.uid ≡ Some k → (k ≡ id → ⊥) → IsIn after t e × (place t e.uid ≡ Some k)
  its-stays t e k i at n = (in-replaced s sig p w found uid old here change same_uid t e i (λ a b. n (some-same k id (sym at ∙ at-other place t e.uid sig uid a b ∙ is_placed))), at)

  its-places : (t u k : ℕ) → place t u ≡ Some k → ((t ≡ sig) × (u ≡ uid)) ⊎ (t ≡ sig → u ≡ uid → ⊥)
      → ((place t u ≡ Some k) × (k ≡ id → ⊥)) ⊎ ((e : Entry) × Same sig (change old) id t e k × (e.uid ≡ u))
  its-places t u k at (inl a) = inr (change old, (a.0, refl, some-same k id (sym at ∙ at-other place t u sig uid a.0 a.1 ∙ is_placed)), its-uid ∙ sym a.1)
  its-places t u k at (inr n) = inl (at, λ g. let a = its-place t u k at g in n a.0 a.1)

  its-names : (named' : Names) → ((r : ℕ) → r ≢ id → named' r ≡ lies.named r) → (r o : ℕ) → Among (named' r) o → (r ≡ id) ⊎ (r ≡ id → ⊥)
      → (Among (lies.named r) o × (r ≡ id → ⊥)) ⊎ ((t : ℕ) × (e : Entry) × Same sig (change old) id t e r)
  its-names named' others r o m (inl e) = inr (sig, change old, (refl, refl, e))
  its-names named' others r o m (inr n) = inl (subst (λ (v : List ℕ). Among v o) (others r n) m, n)

  -- ---- by another

  module _ (ids : List ℕ) (objects' : Objects) (named' : Names) (graph : IsGraph (skeleton (change old).graph)) (time : (change old).time < 4294967296)
      (h : EntryRewritten sig uid (change old) id ids objects objects' place lies.named named') where
    the-replaced : IsNew objects' place named' after sig (change old) id
    the-replaced = record {
      is_in = new-replaced s sig p w found uid old here change same_uid;
      placed = ap (place sig) its-uid ∙ is_placed;
      odd = its-record.0;
      record_is = subst (λ (v : List ℕ). map.get objects' id ≡ Some (entry_bytes sig (change old) v)) (sym h.names_are.names_it) h.record_is;
      larges_are = subst (AreLarges objects' (change old).graph) (sym h.names_are.names_it) h.larges_are;
      graph = graph;
      time = time;
    }

    replace-objects : (o : ℕ) (bytes : List ℕ) → map.get objects' o ≡ Some bytes → (o ≡ id) ⊎ (o ≡ id → ⊥) → Among ids o ⊎ (Among ids o → ⊥)
        → ((map.get objects o ≡ Some bytes) × (o ≡ id → ⊥) × ((r : ℕ) → Among (lies.named r) o → r ≡ id → ⊥))
        ⊎ (((t : ℕ) × (e : Entry) × Same sig (change old) id t e o) ⊎ ((r : ℕ) × Among (named' r) o))
    replace-objects o bytes got (inl e) k = inr (inl (sig, change old, (refl, refl, e)))
    replace-objects o bytes got (inr m) (inl k) = inr (inr (id, subst (λ (v : List ℕ). Among v o) (sym h.names_are.names_it) k))
    replace-objects o bytes got (inr m) (inr l) =
        let still : Among (lies.named id) o → ⊥ = λ k. none-some bytes (sym (h.are_gone o k) ∙ got) in
        inl (sym (h.others o m l still) ∙ got, m, λ r k g. still (subst (λ v. Among (lies.named v) o) g k))

    replace-lies : (lies' : LiesIn objects' place after) × ((r : ℕ) → lies'.named r ≡ named' r)
    replace-lies = turned_lies objects objects' place place named' s after (λ k. k ≡ id) (Same sig (change old) id) lies (record {
      head_is =
          h.others 0 (λ e. odd-is-not id its-record.0 (sym e)) (is-not-free objects ids 0 (directory_bytes s) h.are_new lies.directory)
          (λ m. above-is-not 0 (named-there objects place s lies id 0 m).3 refl)
          ∙ lies.directory ∙ ap Some (sym (same-directory p.name (change_entry uid change) s (λ q. refl)));
      back = its-back;
      stays = its-stays;
      records_stay = λ k bytes got odd n. (
        h.others k n (is-not-free objects ids k bytes h.are_new got) (λ m. odd-or-even k odd (named-there objects place s lies id k m).2) ∙ got,
        h.names_are.other_names k n,
      );
      larges_stay = λ r o bytes got even above m n.
          h.others o (λ e. odd-or-even o (subst (λ v. v % 2 ≡ 1) (sym e) its-record.0) even) (is-not-free objects ids o bytes h.are_new got) (λ k. n (lies.once r id o m k)) ∙ got;
      new_is = λ t e k n. same-carried (IsNew objects' place named' after) sig t (change old) e id k n the-replaced;
      one_new = λ t e k v d other n m. n.2 ∙ sym m.2;
      apart = λ t e k o r n m l.
          let b = named-there objects place s lies r o l in
          absurd (is-not-free objects ids o b.0 h.are_new b.1 (subst (λ (v : List ℕ). Among v o) h.names_are.names_it (subst (λ v. Among (named' v) o) n.2 m)));
      places_back = λ t u k at. its-places t u k at (either-way t u sig uid);
      infos = changed-infos p.name (change_entry uid change) s (λ q. refl) lies.infos;
      objects_back = λ o bytes got n. replace-objects o bytes got (same-or-not o id) (among-or-not ids o);
      names_back = λ r o m. its-names named' h.names_are.other_names r o m (same-or-not r id);
    })

  -- ---- by itself with other bytes in one of its large binaries

  module _ (node o : ℕ) (bytes : List ℕ) (objects' : Objects) (changes : change old ≡ with_patch old node bytes) (h : EntryPatched sig uid id node o old.graph bytes objects objects' place lies.named) where
    patch-names : Among (lies.named id) o
    patch-names = get-among (lies.named id) h.at o h.is_named

    -- the object that is written is a large binary
    patch-even : (q : ℕ) → q ≡ o → q % 2 ≡ 0
    patch-even q e = subst (λ v. v % 2 ≡ 0) (sym e) (named-there objects place s lies id o patch-names).2

    the-patched : IsNew objects' place lies.named after sig (change old) id
    the-patched = record {
      is_in = new-replaced s sig p w found uid old here change same_uid;
      placed = ap (place sig) its-uid ∙ is_placed;
      odd = its-record.0;
      record_is = h.others id (λ e. odd-or-even id its-record.0 (patch-even id e)) ∙ its-record.1
          ∙ ap Some (sym (ap (λ (e : Entry). entry_bytes sig e (lies.named id)) changes ∙ patched-bytes sig old (lies.named id) h.at node h.old bytes h.is_large h.as_many));
      larges_are = subst (λ (e : Entry). AreLarges objects' e.graph (lies.named id)) (sym changes)
          (patched-there objects objects' old.graph (lies.named id) h.at node o h.old bytes h.is_large h.is_named h.object_is h.others its-record.2);
      graph = subst (λ (e : Entry). IsGraph (skeleton e.graph)) (sym changes)
          (subst IsGraph (sym (patched-skeleton old.graph node bytes)) (lies.skeletons sig old (entry_is_in sig uid s p old found here).0));
      time = subst (λ (e : Entry). e.time < 4294967296) (sym changes) (lies.times sig old (entry_is_in sig uid s p old found here).0);
    }

    patch-objects : (q : ℕ) (b : List ℕ) → map.get objects' q ≡ Some b → (q ≡ id) ⊎ (q ≡ id → ⊥) → Among (lies.named id) q ⊎ (Among (lies.named id) q → ⊥)
        → ((map.get objects q ≡ Some b) × (q ≡ id → ⊥) × ((r : ℕ) → Among (lies.named r) q → r ≡ id → ⊥))
        ⊎ (((t : ℕ) × (e : Entry) × Same sig (change old) id t e q) ⊎ ((r : ℕ) × Among (lies.named r) q))
    patch-objects q b got (inl e) k = inr (inl (sig, change old, (refl, refl, e)))
    patch-objects q b got (inr m) (inl k) = inr (inr (id, k))
    patch-objects q b got (inr m) (inr l) =
        inl (sym (h.others q (λ e. l (subst (Among (lies.named id)) (sym e) patch-names))) ∙ got, m, λ r k g. l (subst (λ v. Among (lies.named v) q) g k))

    patch-lies : (lies' : LiesIn objects' place after) × ((r : ℕ) → lies'.named r ≡ lies.named r)
    patch-lies = turned_lies objects objects' place place lies.named s after (λ k. k ≡ id) (Same sig (change old) id) lies (record {
      head_is = h.others 0 (λ e. above-is-not o (named-there objects place s lies id o patch-names).3 (sym e))
          ∙ lies.directory ∙ ap Some (sym (same-directory p.name (change_entry uid change) s (λ q. refl)));
      back = its-back;
      stays = its-stays;
      records_stay = λ k b got odd n. (h.others k (λ e. odd-or-even k odd (patch-even k e)) ∙ got, refl);
      larges_stay = λ r q b got even above m n. h.others q (λ e. n (lies.once r id q m (subst (Among (lies.named id)) (sym e) patch-names))) ∙ got;
      new_is = λ t e k n. same-carried (IsNew objects' place lies.named after) sig t (change old) e id k n the-patched;
      one_new = λ t e k v d other n m. n.2 ∙ sym m.2;
      apart = λ t e k q r n m l. lies.once r k q l m ∙ n.2;
      places_back = λ t u k at. its-places t u k at (either-way t u sig uid);
      infos = changed-infos p.name (change_entry uid change) s (λ q. refl) lies.infos;
      objects_back = λ q b got n. patch-objects q b got (same-or-not q id) (among-or-not (lies.named id) q);
      names_back = λ r q m. its-names lies.named (λ v n. refl) r q m (same-or-not r id);
    })

pub replaced_lies : (sig uid id : ℕ) (ids : List ℕ) (change : Entry → Entry) (objects objects' : Objects) (place : Places) (named' : Names) (s : Store) (p : Soup) (e : Entry)
    → (lies : LiesIn objects place s) → IsTrue (well_formed s) → soup_of sig s ≡ Some p → entry_of uid p ≡ Some e → (change e).uid ≡ e.uid → IsGraph (skeleton (change e).graph)
    → (change e).time < 4294967296 → EntryRewritten sig uid (change e) id ids objects objects' place lies.named named'
    → (lies' : LiesIn objects' place (change_soup p.name (change_entry uid change) s)) × ((r : ℕ) → lies'.named r ≡ named' r)
replaced_lies sig uid id ids change objects objects' place named' s p e lies w found here same_uid graph time h =
    replace-lies sig uid id change objects place s p e lies w found here same_uid h.is_placed ids objects' named' graph time h

pub patched_lies : (sig uid id node o : ℕ) (bytes : List ℕ) (change : Entry → Entry) (objects objects' : Objects) (place : Places) (s : Store) (p : Soup) (e : Entry)
    → (lies : LiesIn objects place s) → IsTrue (well_formed s) → soup_of sig s ≡ Some p → entry_of uid p ≡ Some e → change e ≡ with_patch e node bytes
    → EntryPatched sig uid id node o e.graph bytes objects objects' place lies.named
    → (lies' : LiesIn objects' place (change_soup p.name (change_entry uid change) s)) × ((r : ℕ) → lies'.named r ≡ lies.named r)
patched_lies sig uid id node o bytes change objects objects' place s p e lies w found here changes h =
    patch-lies sig uid id change objects place s p e lies w found here (ap (λ (d : Entry). d.uid) changes) h.is_placed node o bytes objects' changes h
