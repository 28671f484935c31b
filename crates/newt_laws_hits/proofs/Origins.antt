-- The entry that a hit is of.
use Rattle.std.proofs.Common.{◌≡◌, refl, ap, sym, ◌∙◌, subst, ℕ, Bool, true, false, ◌&&◌, ◌==◌, ◌⊎◌, inl, inr, List, [], find, filter, filter_map, flat_map, Option, Some, None, option_map, option_and_then, cond, unwrap_or}
use Rattle.std.proofs.lemmas.Bool.{and_parts, eqb-true, eq-eqb}
use Rattle.newt_base.specs.Names.{equal_text}
use Rattle.newt_spec_graph.specs.Lists.{Each, Pairs, Among}
use Rattle.newt_spec_graph.proofs.Lists.{each-at, among-flat_map, flat_map-among, among-filter, filter-among, among-filter_map, filter_map-among, pairs-more, none-some, some-same}
use Rattle.newt_spec_store.specs.Keys.{Key, key}
use Rattle.newt_spec_store.specs.Store.{Entry, Soup, Store, entry_of, soup_of}
use Rattle.newt_spec_store.specs.Valid.{well_formed}
use Rattle.newt_spec_store.proofs.Sorting.{among-fold, fold-among}
use Rattle.newt_spec_query.specs.Spec.{Spec}
use Rattle.newt_spec_query.specs.Hits.{Query, Hit, hits, hit_cmp, hit_of, kept, soup_hits, in_scope, carries}
use Rattle.newt_spec_query.specs.Cursor.{on, same_identity, hit_at, settled}
use Rattle.newt_spec_world.specs.World.{World, hits_of, mounted_stores}
use Rattle.newt_spec_world.specs.Alias.{resolved}
use Rattle.newt_spec_world.specs.Answer.{spot_of}
use Rattle.newt_laws_images.proofs.Chosen.{OnePasses, find-passes, find-one, there-soup, there-entry, soup-good}
use Rattle.newt_laws_world.proofs.Found.{Apart, Other, hits-apart}
use Rattle.newt_laws_hits.specs.Located.{Located, located, takes_part, located_hit, looked_up}

-- a located entry of the stores that is a hit
pub record Origin (stores : List Store) (q : Query) (h : Hit) : Type 0 where
  pub at : Located
  pub is_store : Among stores at.store
  pub is_soup : Among at.store.soups at.soup
  pub is_entry : Among at.soup.entries at.entry
  pub is_hit : located_hit q at ≡ Some h

pub origin : (stores : List Store) (q : Query) (h : Hit) → Among (hits stores q) h → Origin stores q h
origin stores q h m = go (among-fold (hit_cmp q.spec.index) [] _ h m)
  where
    part : (s : Store) (p : Soup) → Among stores s → in_scope q.scope s ≡ true → Among s.soups p → (b : Bool) → (equal_text p.name q.name && carries q.spec.index p) ≡ b
        → Among (cond b (filter_map (hit_of q.spec s p) p.entries) []) h → Origin stores q h
    part s p a b c false e n = absurd n
    part s p a b c true e n =
        let r = among-filter_map (hit_of q.spec s p) p.entries h n in
        record {
          at = record { store = s; soup = p; entry = r.0 };
          is_store = a;
          is_soup = c;
          is_entry = r.1;
          is_hit = (λ i. cond (b i && e i) (hit_of q.spec s p r.0) None) ∙ r.2;
        }

    go : Among [] h ⊎ Among (flat_map (λ s. flat_map (soup_hits q s) s.soups) (filter (in_scope q.scope) stores)) h → Origin stores q h
    go (inl n) = absurd n
    go (inr n) =
        let a = among-flat_map (λ s. flat_map (soup_hits q s) s.soups) (filter (in_scope q.scope) stores) h n in
        let b = among-filter (in_scope q.scope) stores a.0 a.1 in
        let c = among-flat_map (soup_hits q a.0) a.0.soups h a.2 in
        part a.0 c.0 b.0 b.1 c.1 _ refl c.2

-- an entry that is a hit takes part
pub taken : (q : Query) (f : Located) (h : Hit) → located_hit q f ≡ Some h → (takes_part q f.store f.soup ≡ true) × (hit_of q.spec f.store f.soup f.entry ≡ Some h)
taken q f h = go (takes_part q f.store f.soup) refl
  where
    go : (b : Bool) → takes_part q f.store f.soup ≡ b → cond b (hit_of q.spec f.store f.soup f.entry) None ≡ Some h
        → (takes_part q f.store f.soup ≡ true) × (hit_of q.spec f.store f.soup f.entry ≡ Some h)
    go true t e = (t, e)
    go false t e = absurd (none-some h e)

pub among-hits : (stores : List Store) (q : Query) (h : Hit) → Origin stores q h → Among (hits stores q) h
among-hits stores q h r =
    let s = r.at.store in
    let p = r.at.soup in
    let t = taken q r.at h r.is_hit in
    let b = and_parts (in_scope q.scope s) (equal_text p.name q.name && carries q.spec.index p) t.0 in
    fold-among (hit_cmp q.spec.index) [] _ h (inr (flat_map-among (λ s. flat_map (soup_hits q s) s.soups) (filter (in_scope q.scope) stores) s h
    (filter-among (in_scope q.scope) stores s r.is_store b.0)
    (flat_map-among (soup_hits q s) s.soups p h r.is_soup
    (subst (λ b. Among (cond b (filter_map (hit_of q.spec s p) p.entries) []) h) (sym b.1) (filter_map-among (hit_of q.spec s p) p.entries r.at.entry h r.is_entry t.1)))))

-- ---- identities

-- a hit's identity is that of its entry
pub record HasIdentity (h : Hit) (store soup uid : ℕ) : Type 0 where
  pub store_is : h.store ≡ store
  pub soup_is : h.soup ≡ soup
  pub uid_is : h.uid ≡ uid

pub identity : (q : Spec) (s : Store) (p : Soup) (e : Entry) (h : Hit) → hit_of q s p e ≡ Some h → HasIdentity h s.sig p.sig e.uid
identity q s p e h = go (kept q p e (key e.graph q.index))
  where
    go : (o : Option Key) → option_map (λ k. record { key = k; store = s.sig; soup = p.sig; uid = e.uid }) o ≡ Some h → HasIdentity h s.sig p.sig e.uid
    go None i = absurd (none-some h i)
    go (Some k) i =
        let same = some-same (record { key = k; store = s.sig; soup = p.sig; uid = e.uid }) h i in
        record { store_is = ap (λ (x : Hit). x.store) (sym same); soup_is = ap (λ (x : Hit). x.soup) (sym same); uid_is = ap (λ (x : Hit). x.uid) (sym same) }

-- what is located is there
pub record IsLocated (stores : List Store) (store soup uid : ℕ) (f : Located) : Type 0 where
  pub is_store : Among stores f.store
  pub is_soup : Among f.store.soups f.soup
  pub is_entry : Among f.soup.entries f.entry
  pub store_is : f.store.sig ≡ store
  pub soup_is : f.soup.sig ≡ soup
  pub uid_is : f.entry.uid ≡ uid

pub is-located : (stores : List Store) (store soup uid : ℕ) (f : Located) → located stores store soup uid ≡ Some f → IsLocated stores store soup uid f
is-located stores store soup uid f = on_store (find (λ s. s.sig == store) stores) refl
  where
    -- a store, a soup and an entry that were found
    made : (s : Store) (p : Soup) (x : Entry) → ((s.sig == store) ≡ true) × Among stores s → ((p.sig == soup) ≡ true) × Among s.soups p → ((x.uid == uid) ≡ true) × Among p.entries x
        → IsLocated stores store soup uid (record { store = s; soup = p; entry = x })
    made s p x a b c = record {
      is_store = a.1;
      is_soup = b.1;
      is_entry = c.1;
      store_is = eqb-true s.sig store a.0;
      soup_is = eqb-true p.sig soup b.0;
      uid_is = eqb-true x.uid uid c.0;
    }

    on_entry : (s : Store) (p : Soup) → ((s.sig == store) ≡ true) × Among stores s → ((p.sig == soup) ≡ true) × Among s.soups p → (o : Option Entry) → entry_of uid p ≡ o
        → option_map (λ e. record { store = s; soup = p; entry = e }) o ≡ Some f → IsLocated stores store soup uid f
    on_entry s p a b None i e = absurd (none-some f e)
    on_entry s p a b (Some x) i e =
        subst (IsLocated stores store soup uid) (some-same (record { store = s; soup = p; entry = x }) f e) (made s p x a b (find-passes (λ (d : Entry). d.uid == uid) p.entries x i))

    on_soup : (s : Store) → ((s.sig == store) ≡ true) × Among stores s → (o : Option Soup) → soup_of soup s ≡ o
        → option_and_then (λ p. option_map (λ e. record { store = s; soup = p; entry = e }) (entry_of uid p)) o ≡ Some f → IsLocated stores store soup uid f
    on_soup s a None i e = absurd (none-some f e)
    on_soup s a (Some p) i e = on_entry s p a (find-passes (λ (p : Soup). p.sig == soup) s.soups p i) (entry_of uid p) refl e

    on_store : (o : Option Store) → find (λ s. s.sig == store) stores ≡ o
        → option_and_then (λ s. option_and_then (λ p. option_map (λ e. record { store = s; soup = p; entry = e }) (entry_of uid p)) (soup_of soup s)) o ≡ Some f
        → IsLocated stores store soup uid f
    on_store None i e = absurd (none-some f e)
    on_store (Some s) i e = on_soup s (find-passes (λ (s : Store). s.sig == store) stores s i) (soup_of soup s) refl e

-- a hit that is looked up is one, and has the identity
pub looked-up-is : (stores : List Store) (q : Query) (store soup uid : ℕ) (h : Hit) → looked_up stores q store soup uid ≡ Some h → Origin stores q h × HasIdentity h store soup uid
looked-up-is stores q store soup uid h = go (located stores store soup uid) refl
  where
    go : (o : Option Located) → located stores store soup uid ≡ o → option_and_then (located_hit q) o ≡ Some h → Origin stores q h × HasIdentity h store soup uid
    go None e i = absurd (none-some h i)
    go (Some f) e i =
        let l = is-located stores store soup uid f e in
        let d = identity q.spec f.store f.soup f.entry h (taken q f h i).1 in (
          record { at = f; is_store = l.is_store; is_soup = l.is_soup; is_entry = l.is_entry; is_hit = i },
          record { store_is = d.store_is ∙ l.store_is; soup_is = d.soup_is ∙ l.soup_is; uid_is = d.uid_is ∙ l.uid_is },
        )

module _ (stores : List Store) (apart : Pairs Apart stores) (formed : Each (λ s. well_formed s ≡ true) stores) where
  -- where the store and the soup are known
  pub known-located : (s : Store) (p : Soup) (uid : ℕ) → Among stores s → Among s.soups p
      → located stores s.sig p.sig uid ≡ option_map (λ e. record { store = s; soup = p; entry = e }) (entry_of uid p)
  known-located s p uid a b =
      let sig = p.sig in
      ap (option_and_then (λ s. option_and_then (λ p. option_map (λ e. record { store = s; soup = p; entry = e }) (entry_of uid p)) (soup_of sig s)))
      (find-one (λ (t : Store). t.sig == s.sig) stores s one a (eq-eqb s.sig s.sig refl))
      ∙ ap (option_and_then (λ p. option_map (λ e. record { store = s; soup = p; entry = e }) (entry_of uid p))) (there-soup s p (each-at (λ s. well_formed s ≡ true) stores s formed a) b)
    where
      one : OnePasses (λ (t : Store). t.sig == s.sig) stores
      one = pairs-more Apart (λ x y. (x.sig == s.sig) ≡ true → (y.sig == s.sig) ≡ true → ⊥) stores
          (λ x y _ _ differ e f. differ (eqb-true x.sig s.sig e ∙ sym (eqb-true y.sig s.sig f))) apart

  pub hit-located : (q : Query) (h : Hit) → (r : Origin stores q h) → located stores h.store h.soup h.uid ≡ Some r.at
  hit-located q h r =
      let d = identity q.spec r.at.store r.at.soup r.at.entry h (taken q r.at h r.is_hit).1 in
      (λ i. located stores (d.store_is i) (d.soup_is i) (d.uid_is i))
      ∙ known-located r.at.store r.at.soup r.at.entry.uid r.is_store r.is_soup
      ∙ ap (option_map (λ e. record { store = r.at.store; soup = r.at.soup; entry = e }))
      (there-entry r.at.soup r.at.entry (soup-good r.at.store r.at.soup (each-at (λ s. well_formed s ≡ true) stores r.at.store formed r.is_store) r.is_soup) r.is_entry)

  -- ---- the hit that is found is the one that is looked up

  module _ (q : Query) (store soup uid : ℕ) (test : Hit → Bool) (tells : (h : Hit) → test h ≡ true → HasIdentity h store soup uid)
      (told : (h : Hit) → HasIdentity h store soup uid → test h ≡ true) where
    one-passes : OnePasses test (hits stores q)
    one-passes = pairs-more Other (λ a b. test a ≡ true → test b ≡ true → ⊥) (hits stores q)
        (λ a b _ _ other s t. let d = tells a s in let e = tells b t in other (d.store_is ∙ sym e.store_is) (d.soup_is ∙ sym e.soup_is) (d.uid_is ∙ sym e.uid_is))
        (hits-apart stores q apart formed)

    none-found : looked_up stores q store soup uid ≡ None → (o : Option Hit) → find test (hits stores q) ≡ o → o ≡ None
    none-found e None f = refl
    none-found e (Some h) f =
        let p = find-passes test (hits stores q) h f in
        let d = tells h p.0 in
        let r = origin stores q h p.1 in
        absurd (none-some h (sym e ∙ (λ i. looked_up stores q (sym d.store_is i) (sym d.soup_is i) (sym d.uid_is i)) ∙ ap (option_and_then (located_hit q)) (hit-located q h r) ∙ r.is_hit))

    pub found-looked-up : find test (hits stores q) ≡ looked_up stores q store soup uid
    found-looked-up = go (looked_up stores q store soup uid) refl
      where
        go : (o : Option Hit) → looked_up stores q store soup uid ≡ o → find test (hits stores q) ≡ o
        go None e = none-found e (find test (hits stores q)) refl
        go (Some h) e = let r = looked-up-is stores q store soup uid h e in find-one test (hits stores q) h one-passes (among-hits stores q h r.0) (told h r.1)

  pub same-looked-up : (q : Query) (at : Hit) → find (same_identity at) (hits stores q) ≡ looked_up stores q at.store at.soup at.uid
  same-looked-up q at = found-looked-up q at.store at.soup at.uid (same_identity at) tells told
    where
      tells : (h : Hit) → same_identity at h ≡ true → HasIdentity h at.store at.soup at.uid
      tells h e =
          let p = and_parts ((at.store == h.store) && (at.soup == h.soup)) (at.uid == h.uid) e in
          let r = and_parts (at.store == h.store) (at.soup == h.soup) p.0 in
          record { store_is = sym (eqb-true at.store h.store r.0); soup_is = sym (eqb-true at.soup h.soup r.1); uid_is = sym (eqb-true at.uid h.uid p.1) }

      told : (h : Hit) → HasIdentity h at.store at.soup at.uid → same_identity at h ≡ true
      told h d = λ i. eq-eqb at.store h.store (sym d.store_is) i && eq-eqb at.soup h.soup (sym d.soup_is) i && eq-eqb at.uid h.uid (sym d.uid_is) i

  pub named-looked-up : (q : Query) (store soup uid : ℕ)
      → find (λ (h : Hit). (h.store == store) && (h.soup == soup) && (h.uid == uid)) (hits stores q) ≡ looked_up stores q store soup uid
  named-looked-up q store soup uid = found-looked-up q store soup uid (λ h. (h.store == store) && (h.soup == soup) && (h.uid == uid)) tells told
    where
      tells : (h : Hit) → ((h.store == store) && (h.soup == soup) && (h.uid == uid)) ≡ true → HasIdentity h store soup uid
      tells h e =
          let p = and_parts ((h.store == store) && (h.soup == soup)) (h.uid == uid) e in
          let r = and_parts (h.store == store) (h.soup == soup) p.0 in
          record { store_is = eqb-true h.store store r.0; soup_is = eqb-true h.soup soup r.1; uid_is = eqb-true h.uid uid p.1 }

      told : (h : Hit) → HasIdentity h store soup uid → ((h.store == store) && (h.soup == soup) && (h.uid == uid)) ≡ true
      told h d = λ i. eq-eqb h.store store d.store_is i && eq-eqb h.soup soup d.soup_is i && eq-eqb h.uid uid d.uid_is i

  pub settled-looked-up : (q : Query) (at : Hit) → settled (hits stores q) (on at) ≡ unwrap_or (option_map on (looked_up stores q at.store at.soup at.uid)) (on at)
  settled-looked-up q at = ap (λ o. unwrap_or (option_map on o) (on at)) (same-looked-up q at)

-- ---- what a cursor shows

pub shown-looked-up : (w : World) (q : Query) (at : Hit) → Pairs Apart (mounted_stores w) → Each (λ s. well_formed s ≡ true) (mounted_stores w)
    → option_and_then (spot_of w) (hit_at (hits_of w q) (on at))
    ≡ option_and_then (λ (h : Hit). resolved w (record { store = at.store; soup = at.soup; uid = at.uid })) (looked_up (mounted_stores w) q at.store at.soup at.uid)
shown-looked-up w q at apart formed =
    ap (option_and_then (spot_of w)) (same-looked-up (mounted_stores w) apart formed q at) ∙ go (looked_up (mounted_stores w) q at.store at.soup at.uid) refl
  where
    go : (o : Option Hit) → looked_up (mounted_stores w) q at.store at.soup at.uid ≡ o
        → option_and_then (spot_of w) o ≡ option_and_then (λ (h : Hit). resolved w (record { store = at.store; soup = at.soup; uid = at.uid })) o
    go None e = refl
    go (Some h) e =
        let d = (looked-up-is (mounted_stores w) q at.store at.soup at.uid h e).1 in
        λ i. resolved w (record { store = d.store_is i; soup = d.soup_is i; uid = d.uid_is i })
