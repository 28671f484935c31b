-- Ids and signatures are not given again by a change of a store.
use Rattle.std.proofs.Common.{arith, ◌≡◌, refl, ap, sym, ◌∙◌, subst, ℕ, ◌<◌, ◌≤◌, List, [], ◌∷◌, ◌⊎◌, inl, inr, None, ◌==◌}
use Rattle.newt_graph.specs.Graph.{RawGraph}
use Rattle.newt_spec_graph.specs.Lists.{Among}
use Rattle.newt_spec_graph.proofs.Lists.{among-append, among-filter}
use Rattle.newt_spec_store.specs.Store.{Store, Soup, Entry, change_soup, change_entry, make_soup, drop_soup, add_entry, remove_entry}
use Rattle.newt_laws_changes.specs.Later.{SoupLater, StoreLater, EntryGone, SoupGone}
use Rattle.newt_laws_images.proofs.Chosen.{among-first}

-- ---- soups

pub soup-not : (p : Soup) → SoupLater p p
soup-not p = record { sig_same = refl; next = omega arith; uids = λ e m. inl (e, m, refl) }

pub soup-trans : (p q r : Soup) → SoupLater p q → SoupLater q r → SoupLater p r
soup-trans p q r h k = record { sig_same = k.sig_same ∙ h.sig_same; next = omega (arith, h.next, k.next); uids = λ e m. go e (k.uids e m) }
  where
    before : (e d : Entry) → d.uid ≡ e.uid → ((x : Entry) × Among p.entries x × (x.uid ≡ d.uid)) ⊎ (p.next_uid ≤ d.uid) → ((x : Entry) × Among p.entries x × (x.uid ≡ e.uid)) ⊎ (p.next_uid ≤ e.uid)
    before e d s (inl x) = inl (x.0, x.1, x.2 ∙ s)
    before e d s (inr le) = inr (omega (arith, le, s))

    go : (e : Entry) → ((d : Entry) × Among q.entries d × (d.uid ≡ e.uid)) ⊎ (q.next_uid ≤ e.uid) → ((x : Entry) × Among p.entries x × (x.uid ≡ e.uid)) ⊎ (p.next_uid ≤ e.uid)
    go e (inl d) = before e d.0 d.2 (h.uids d.0 d.1)
    go e (inr le) = inr (omega (arith, le, h.next))

pub later-add : (time : ℕ) (g : RawGraph) (p : Soup) → SoupLater p (add_entry time g p)
later-add time g p = record { sig_same = refl; next = omega arith; uids = λ e m. go e (among-append p.entries _ e m) }
  where
    go : (e : Entry) → Among p.entries e ⊎ Among (record { uid = p.next_uid; time = time; graph = g } ∷ []) e → ((d : Entry) × Among p.entries d × (d.uid ≡ e.uid)) ⊎ (p.next_uid ≤ e.uid)
    go e (inl m) = inl (e, m, refl)
    go e (inr (inl is)) = inr (omega (arith, ap (λ (x : Entry). x.uid) is))
    go e (inr (inr m)) = absurd m

pub later-change : (uid : ℕ) (f : Entry → Entry) → ((e : Entry) → (f e).uid ≡ e.uid) → (p : Soup) → SoupLater p (change_entry uid f p)
later-change uid f same p = record { sig_same = refl; next = omega arith; uids = λ e m. go e (among-first (λ x. x.uid == uid) f p.entries e m) }
  where
    go : (e : Entry) → Among p.entries e ⊎ ((x : Entry) × Among p.entries x × (f x ≡ e)) → ((d : Entry) × Among p.entries d × (d.uid ≡ e.uid)) ⊎ (p.next_uid ≤ e.uid)
    go e (inl m) = inl (e, m, refl)
    go e (inr x) = inl (x.0, x.1, sym (same x.0) ∙ ap (λ (y : Entry). y.uid) x.2)

pub later-remove : (uid : ℕ) (p : Soup) → SoupLater p (remove_entry uid p)
later-remove uid p = record { sig_same = refl; next = omega arith; uids = λ e m. inl (e, (among-filter _ p.entries e m).0, refl) }

-- ---- stores

pub store-not : (s : Store) → StoreLater s s
store-not s = record { sig_same = refl; next = omega arith; soups = λ q m. inl (q, m, soup-not q) }

pub store-trans : (s t x : Store) → StoreLater s t → StoreLater t x → StoreLater s x
store-trans s t x h k = record { sig_same = k.sig_same ∙ h.sig_same; next = omega (arith, h.next, k.next); soups = λ r m. go r (k.soups r m) }
  where
    before : (r q : Soup) → SoupLater q r → ((p : Soup) × Among s.soups p × SoupLater p q) ⊎ (s.next_soup ≤ q.sig) → ((p : Soup) × Among s.soups p × SoupLater p r) ⊎ (s.next_soup ≤ r.sig)
    before r q l (inl p) = inl (p.0, p.1, soup-trans p.0 q r p.2 l)
    before r q l (inr le) = inr (omega (arith, le, l.sig_same))

    go : (r : Soup) → ((q : Soup) × Among t.soups q × SoupLater q r) ⊎ (t.next_soup ≤ r.sig) → ((p : Soup) × Among s.soups p × SoupLater p r) ⊎ (s.next_soup ≤ r.sig)
    go r (inl q) = before r q.0 q.2 (h.soups q.0 q.1)
    go r (inr le) = inr (omega (arith, le, h.next))

pub later-make : (name : List ℕ) (s : Store) → StoreLater s (make_soup name s)
later-make name s = record { sig_same = refl; next = omega arith; soups = λ q m. go q (among-append s.soups _ q m) }
  where
    go : (q : Soup) → Among s.soups q ⊎ Among (record { name = name; sig = s.next_soup; next_uid = 0; specs = []; tags = None; info = None; entries = [] } ∷ []) q → ((p : Soup) × Among s.soups p × SoupLater p q) ⊎ (s.next_soup ≤ q.sig)
    go q (inl m) = inl (q, m, soup-not q)
    go q (inr (inl is)) = inr (omega (arith, ap (λ (x : Soup). x.sig) is))
    go q (inr (inr m)) = absurd m

pub later-drop : (name : List ℕ) (s : Store) → StoreLater s (drop_soup name s)
later-drop name s = record { sig_same = refl; next = omega arith; soups = λ q m. inl (q, (among-filter _ s.soups q m).0, soup-not q) }

pub later-soup : (name : List ℕ) (f : Soup → Soup) → ((p : Soup) → SoupLater p (f p)) → (s : Store) → StoreLater s (change_soup name f s)
later-soup name f each s = record { sig_same = refl; next = omega arith; soups = λ q m. go q (among-first _ f s.soups q m) }
  where
    go : (q : Soup) → Among s.soups q ⊎ ((x : Soup) × Among s.soups x × (f x ≡ q)) → ((p : Soup) × Among s.soups p × SoupLater p q) ⊎ (s.next_soup ≤ q.sig)
    go q (inl m) = inl (q, m, soup-not q)
    go q (inr x) = inl (x.0, x.1, subst (SoupLater x.0) x.2 (each x.0))

-- a soup with another declaration
pub soup-same : (p q : Soup) → q.sig ≡ p.sig → q.next_uid ≡ p.next_uid → q.entries ≡ p.entries → SoupLater p q
soup-same p q s n es = record { sig_same = s; next = omega (arith, n); uids = λ e m. inl (e, subst (λ xs. Among xs e) es m, refl) }

-- ---- what is gone stays gone

pub entry-gone : (sig uid : ℕ) (s t : Store) → StoreLater s t → EntryGone sig uid s → EntryGone sig uid t
entry-gone sig uid s t l g = record {
  sig_given = omega (arith, l.next, g.sig_given);
  uid_given = λ q m is. given q is (l.soups q m);
  not_there = λ q e m is n same. there q e is n same (l.soups q m);
}
  where
    given : (q : Soup) → q.sig ≡ sig → ((p : Soup) × Among s.soups p × SoupLater p q) ⊎ (s.next_soup ≤ q.sig) → uid < q.next_uid
    given q is (inl p) = omega (arith, g.uid_given p.0 p.1 (sym p.2.sig_same ∙ is), p.2.next)
    given q is (inr le) = absurd (omega (arith, le, is, g.sig_given))

    was : (p : Soup) (q : Soup) (e : Entry) → Among s.soups p → p.sig ≡ sig → e.uid ≡ uid → ((d : Entry) × Among p.entries d × (d.uid ≡ e.uid)) ⊎ (p.next_uid ≤ e.uid) → ⊥
    was p q e m is same (inl d) = g.not_there p d.0 m is d.1 (d.2 ∙ same)
    was p q e m is same (inr le) = omega (arith, le, same, g.uid_given p m is)

    there : (q : Soup) (e : Entry) → q.sig ≡ sig → Among q.entries e → e.uid ≡ uid → ((p : Soup) × Among s.soups p × SoupLater p q) ⊎ (s.next_soup ≤ q.sig) → ⊥
    there q e is n same (inl p) = was p.0 q e p.1 (sym p.2.sig_same ∙ is) same (p.2.uids e n)
    there q e is n same (inr le) = omega (arith, le, is, g.sig_given)

pub soup-gone : (sig : ℕ) (s t : Store) → StoreLater s t → SoupGone sig s → SoupGone sig t
soup-gone sig s t l g = record { sig_given = omega (arith, l.next, g.sig_given); not_there = λ q m is. go q is (l.soups q m) }
  where
    go : (q : Soup) → q.sig ≡ sig → ((p : Soup) × Among s.soups p × SoupLater p q) ⊎ (s.next_soup ≤ q.sig) → ⊥
    go q is (inl p) = g.not_there p.0 p.1 (sym p.2.sig_same ∙ is)
    go q is (inr le) = omega (arith, le, is, g.sig_given)
