-- The entries of a changed store.
use Rattle.std.proofs.Common.{arith, ◌≡◌, refl, ap, sym, ◌∙◌, subst, ℕ, ◌<◌, List, [], ◌∷◌, true, false, Bool, IsTrue, not, Some, None, ◌⊎◌, inl, inr, ◌==◌}
use Rattle.std.proofs.lemmas.Bool.{eqb-true, eqb-false, eq-eqb}
use Rattle.newt_base.specs.Names.{equal_text}
use Rattle.newt_graph.specs.Graph.{RawGraph}
use Rattle.newt_spec_graph.specs.Lists.{Among}
use Rattle.newt_spec_graph.proofs.Lists.{among-append, among-left, among-right, among-filter, filter-among, both-ways}
use Rattle.newt_spec_store.specs.Lies.{IsIn}
use Rattle.newt_spec_store.specs.Store.{Store, Soup, Entry, entry_of, change_soup, make_soup, drop_soup, add_entry, remove_entry, soup_of}
use Rattle.newt_spec_store.specs.Valid.{well_formed}
use Rattle.newt_laws_images.proofs.Chosen.{only-one, one-sig, one-name, find-passes, first-among, first-others, first-parts, same-text, soup-there, there-soup, there-entry, found_by_name, soup-good, entry-below}
use Rattle.newt_laws_images.proofs.Totals.{true-not}

pub same-or-not : (a b : ℕ) → (a ≡ b) ⊎ (a ≡ b → ⊥)
same-or-not a b = go (a == b) refl
  where
    go : (c : Bool) → (a == b) ≡ c → (a ≡ b) ⊎ (a ≡ b → ⊥)
    go true e = inl (eqb-true a b e)
    go false e = inr (eqb-false a b e)

pub not-itself : (b : Bool) → not b ≡ true → b ≡ true → ⊥
not-itself true h k = both-ways h
not-itself false h k = both-ways k

-- ---- the entry that is found

pub entry_is_in : (sig uid : ℕ) (s : Store) (p : Soup) (e : Entry) → soup_of sig s ≡ Some p → entry_of uid p ≡ Some e → IsIn s sig e × (e.uid ≡ uid)
entry_is_in sig uid s p e found here =
    let r = soup-there sig s p found in
    let k = find-passes (λ (e : Entry). e.uid == uid) p.entries e here in
    (record { soup = p; is_soup = r.1; of_sig = r.0; is_entry = k.1 }, eqb-true e.uid uid k.0)

pub is_in_found : (sig : ℕ) (s : Store) (e : Entry) → IsTrue (well_formed s) → IsIn s sig e → (p : Soup) × (soup_of sig s ≡ Some p) × (entry_of e.uid p ≡ Some e)
is_in_found sig s e w i = (
  i.soup,
  subst (λ t. soup_of t s ≡ Some i.soup) i.of_sig (there-soup s i.soup w i.is_soup),
  there-entry i.soup e (soup-good s i.soup w i.is_soup) i.is_entry,
)

-- ---- one soup changed, or gone

module _ (s : Store) (sig : ℕ) (p : Soup) (w : IsTrue (well_formed s)) (found : soup_of sig s ≡ Some p) where
  pub same-sig : (q : Soup) → Among s.soups q → q.sig ≡ sig → q ≡ p
  same-sig q m h = only-one (λ (r : Soup). r.sig == sig) s.soups q p (one-sig sig s w) m (soup-there sig s p found).1 (eq-eqb q.sig sig h) (eq-eqb p.sig sig (soup-there sig s p found).0)

  pub same-name : (q : Soup) → Among s.soups q → equal_text q.name p.name ≡ true → q ≡ p
  same-name q m h = only-one (λ (r : Soup). equal_text r.name p.name) s.soups q p (one-name p.name s w) m (soup-there sig s p found).1 h (same-text p.name)

  -- the entries of this signature are those of the soup
  pub in-one : (e : Entry) → IsIn s sig e → Among p.entries e
  in-one e i = subst (λ (q : Soup). Among q.entries e) (same-sig i.soup i.is_soup i.of_sig) i.is_entry

  pub one-in : (e : Entry) → Among p.entries e → IsIn s sig e
  one-in e m = record { soup = p; is_soup = (soup-there sig s p found).1; of_sig = (soup-there sig s p found).0; is_entry = m }

  -- an id that is given is below the next one
  pub in-below : (e : Entry) → IsIn s sig e → e.uid < p.next_uid
  in-below e i = entry-below p e (soup-good s p w (soup-there sig s p found).1) (in-one e i)

  pub changed-in : (f : Soup → Soup) → (f p).sig ≡ p.sig → (t : ℕ) (e : Entry) → IsIn (change_soup p.name f s) t e → ((t ≡ sig) × Among (f p).entries e) ⊎ ((t ≡ sig → ⊥) × IsIn s t e)
  changed-in f keeps t e i = go (first-parts (λ (q : Soup). equal_text q.name p.name) f s.soups p i.soup (one-name p.name s w) (found_by_name sig s p w found) i.is_soup)
    where
      go : (f p ≡ i.soup) ⊎ (Among s.soups i.soup × (equal_text i.soup.name p.name ≡ true → ⊥)) → ((t ≡ sig) × Among (f p).entries e) ⊎ ((t ≡ sig → ⊥) × IsIn s t e)
      go (inl k) = inl (sym i.of_sig ∙ ap (λ (q : Soup). q.sig) (sym k) ∙ keeps ∙ (soup-there sig s p found).0, subst (λ (q : Soup). Among q.entries e) (sym k) i.is_entry)
      go (inr k) = inr (
        λ same. k.1 (ap (λ (q : Soup). equal_text q.name p.name) (same-sig i.soup k.0 (i.of_sig ∙ same)) ∙ same-text p.name),
        record { soup = i.soup; is_soup = k.0; of_sig = i.of_sig; is_entry = i.is_entry },
      )

  pub in-changed : (f : Soup → Soup) → (f p).sig ≡ p.sig → (e : Entry) → Among (f p).entries e → IsIn (change_soup p.name f s) sig e
  in-changed f keeps e m = record {
    soup = f p;
    is_soup = first-among (λ (q : Soup). equal_text q.name p.name) f s.soups p (found_by_name sig s p w found);
    of_sig = keeps ∙ (soup-there sig s p found).0;
    is_entry = m;
  }

  pub others-in : (f : Soup → Soup) (t : ℕ) (e : Entry) → IsIn s t e → (t ≡ sig → ⊥) → IsIn (change_soup p.name f s) t e
  others-in f t e i n = record {
    soup = i.soup;
    is_soup = first-others (λ (q : Soup). equal_text q.name p.name) f s.soups i.soup i.is_soup
        (λ h. n (sym i.of_sig ∙ ap (λ (q : Soup). q.sig) (same-name i.soup i.is_soup h) ∙ (soup-there sig s p found).0));
    of_sig = i.of_sig;
    is_entry = i.is_entry;
  }

  pub dropped-in : (t : ℕ) (e : Entry) → IsIn (drop_soup p.name s) t e → (t ≡ sig → ⊥) × IsIn s t e
  dropped-in t e i =
      let r = among-filter (λ (q : Soup). not (equal_text q.name p.name)) s.soups i.soup i.is_soup in (
        λ same. not-itself (equal_text i.soup.name p.name) r.1 (ap (λ (q : Soup). equal_text q.name p.name) (same-sig i.soup r.0 (i.of_sig ∙ same)) ∙ same-text p.name),
        record { soup = i.soup; is_soup = r.0; of_sig = i.of_sig; is_entry = i.is_entry },
      )

  pub in-dropped : (t : ℕ) (e : Entry) → IsIn s t e → (t ≡ sig → ⊥) → IsIn (drop_soup p.name s) t e
  in-dropped t e i n = record {
    soup = i.soup;
    is_soup = filter-among (λ (q : Soup). not (equal_text q.name p.name)) s.soups i.soup i.is_soup
        (true-not (equal_text i.soup.name p.name) (λ h. n (sym i.of_sig ∙ ap (λ (q : Soup). q.sig) (same-name i.soup i.is_soup h) ∙ (soup-there sig s p found).0)));
    of_sig = i.of_sig;
    is_entry = i.is_entry;
  }

  -- ---- an entry more, or less

  pub added-in : (now : ℕ) (g : RawGraph) (t : ℕ) (e : Entry) → IsIn (change_soup p.name (add_entry now g) s) t e
      → (IsIn s t e × (t ≡ sig → e.uid ≡ p.next_uid → ⊥)) ⊎ ((t ≡ sig) × (record { uid = p.next_uid; time = now; graph = g } ≡ e))
  added-in now g t e i = go (changed-in (add_entry now g) refl t e i)
    where
      ends : t ≡ sig → Among p.entries e ⊎ Among (record { uid = p.next_uid; time = now; graph = g } ∷ []) e
          → (IsIn s t e × (t ≡ sig → e.uid ≡ p.next_uid → ⊥)) ⊎ ((t ≡ sig) × (record { uid = p.next_uid; time = now; graph = g } ≡ e))
      ends same (inl m) = inl (subst (λ v. IsIn s v e) (sym same) (one-in e m), λ _ u. let below = in-below e (one-in e m) in omega (arith, below, u))
      ends same (inr (inl k)) = inr (same, k)
      ends same (inr (inr m)) = absurd m

      go : ((t ≡ sig) × Among (add_entry now g p).entries e) ⊎ ((t ≡ sig → ⊥) × IsIn s t e)
          → (IsIn s t e × (t ≡ sig → e.uid ≡ p.next_uid → ⊥)) ⊎ ((t ≡ sig) × (record { uid = p.next_uid; time = now; graph = g } ≡ e))
      go (inl k) = ends k.0 (among-append p.entries (record { uid = p.next_uid; time = now; graph = g } ∷ []) e k.1)
      go (inr k) = inl (k.1, λ same _. k.0 same)

  pub in-added : (now : ℕ) (g : RawGraph) (t : ℕ) (e : Entry) → IsIn s t e → IsIn (change_soup p.name (add_entry now g) s) t e
  in-added now g t e i = go (same-or-not t sig)
    where
      go : (t ≡ sig) ⊎ (t ≡ sig → ⊥) → IsIn (change_soup p.name (add_entry now g) s) t e
      go (inl same) = subst (λ v. IsIn (change_soup p.name (add_entry now g) s) v e) (sym same)
          (in-changed (add_entry now g) refl e (among-left p.entries (record { uid = p.next_uid; time = now; graph = g } ∷ []) e (in-one e (subst (λ v. IsIn s v e) same i))))
      go (inr n) = others-in (add_entry now g) t e i n

  pub new-in : (now : ℕ) (g : RawGraph) → IsIn (change_soup p.name (add_entry now g) s) sig (record { uid = p.next_uid; time = now; graph = g })
  new-in now g = in-changed (add_entry now g) refl (record { uid = p.next_uid; time = now; graph = g })
      (among-right p.entries (record { uid = p.next_uid; time = now; graph = g } ∷ []) (record { uid = p.next_uid; time = now; graph = g }) (inl refl))

  pub removed-in : (uid t : ℕ) (e : Entry) → IsIn (change_soup p.name (remove_entry uid) s) t e → IsIn s t e × (t ≡ sig → e.uid ≡ uid → ⊥)
  removed-in uid t e i = go (changed-in (remove_entry uid) refl t e i)
    where
      go : ((t ≡ sig) × Among (remove_entry uid p).entries e) ⊎ ((t ≡ sig → ⊥) × IsIn s t e) → IsIn s t e × (t ≡ sig → e.uid ≡ uid → ⊥)
      go (inl k) = let r = among-filter (λ (d : Entry). not (d.uid == uid)) p.entries e k.1 in
          (subst (λ v. IsIn s v e) (sym k.0) (one-in e r.0), λ _ u. not-itself (e.uid == uid) r.1 (eq-eqb e.uid uid u))
      go (inr k) = (k.1, λ same _. k.0 same)

  pub in-removed : (uid t : ℕ) (e : Entry) → IsIn s t e → (t ≡ sig → e.uid ≡ uid → ⊥) → IsIn (change_soup p.name (remove_entry uid) s) t e
  in-removed uid t e i n = go (same-or-not t sig)
    where
      go : (t ≡ sig) ⊎ (t ≡ sig → ⊥) → IsIn (change_soup p.name (remove_entry uid) s) t e
      go (inl same) = subst (λ v. IsIn (change_soup p.name (remove_entry uid) s) v e) (sym same) (in-changed (remove_entry uid) refl e
          (filter-among (λ (d : Entry). not (d.uid == uid)) p.entries e (in-one e (subst (λ v. IsIn s v e) same i)) (true-not (e.uid == uid) (λ h. n same (eqb-true e.uid uid h)))))
      go (inr other) = others-in (remove_entry uid) t e i other

-- ---- a soup more

pub made-in : (name : List ℕ) (s : Store) (t : ℕ) (e : Entry) → IsIn (make_soup name s) t e → IsIn s t e
made-in name s t e i = go i.soup (among-append s.soups _ i.soup i.is_soup) i.of_sig i.is_entry
  where
    go : (q : Soup) → Among s.soups q ⊎ Among (record { name = name; sig = s.next_soup; next_uid = 0; specs = []; tags = None; info = None; entries = [] } ∷ []) q → q.sig ≡ t → Among q.entries e → IsIn s t e
    go q (inl m) is n = record { soup = q; is_soup = m; of_sig = is; is_entry = n }
    go q (inr (inl k)) is n = absurd (subst (λ (r : Soup). Among r.entries e) (sym k) n)
    go q (inr (inr m)) is n = absurd m

pub in-made : (name : List ℕ) (s : Store) (t : ℕ) (e : Entry) → IsIn s t e → IsIn (make_soup name s) t e
in-made name s t e i = record { soup = i.soup; is_soup = among-left s.soups _ i.soup i.is_soup; of_sig = i.of_sig; is_entry = i.is_entry }
