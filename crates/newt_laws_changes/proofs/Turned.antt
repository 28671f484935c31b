-- A store of which some records are gone and some are new, and all others are as they were, lies in the changed objects. What is said of the objects, the places and
-- the names is said of each alone, so that any way of writing them fits.
use Rattle.std.proofs.Common.{◌≡◌, ◌≢◌, refl, sym, ◌∙◌, subst, ℕ, ◌<◌, ◌%◌, List, [], ◌∷◌, Some, ◌⊎◌, inl, inr, zip}
use Rattle.std.specs.FinMap as map
use Rattle.newt_graph.specs.Graph.{RawGraph, IsGraph}
use Rattle.newt_spec_image.specs.Objects.{Objects}
use Rattle.newt_spec_nsof.specs.Lengths.{skeleton}
use Rattle.newt_spec_graph.specs.Lists.{Each, Among}
use Rattle.newt_spec_graph.proofs.Lists.{some-same}
use Rattle.newt_spec_store.specs.Cost.{directory_bytes}
use Rattle.newt_spec_store.specs.Image.{larges, entry_bytes}
use Rattle.newt_spec_store.specs.Lies.{Places, IsIn, HasLarge, AreLarges, LiesIn}
use Rattle.newt_spec_store.specs.Store.{Store, Soup, Entry}
use Rattle.newt_laws_changes.specs.Written.{Names}

-- a new record: its entry is in the store, it lies at its place, and it names the objects of the entry's large binaries
pub record IsNew (objects' : Objects) (place' : Places) (named' : Names) (t : Store) (sig : ℕ) (e : Entry) (id : ℕ) : Type 0 where
  pub is_in : IsIn t sig e
  pub placed : place' sig e.uid ≡ Some id
  pub odd : id % 2 ≡ 1
  pub record_is : map.get objects' id ≡ Some (entry_bytes sig e (named' id))
  pub larges_are : AreLarges objects' e.graph (named' id)
  pub graph : IsGraph (skeleton e.graph)
  pub time : e.time < 4294967296

-- The objects, places and names of the store t are those of s, but for the records that are gone and those that are new.
pub record IsTurned (objects objects' : Objects) (place place' : Places) (named named' : Names) (s t : Store) (Gone : ℕ → Type 0) (New : ℕ → Entry → ℕ → Type 0) : Type 0 where
  pub head_is : map.get objects' 0 ≡ Some (directory_bytes t)
  pub back : (sig : ℕ) (e : Entry) → IsIn t sig e → (IsIn s sig e × ((id : ℕ) → place sig e.uid ≡ Some id → Gone id → ⊥)) ⊎ ((id : ℕ) × New sig e id)
  pub stays : (sig : ℕ) (e : Entry) (id : ℕ) → IsIn s sig e → place sig e.uid ≡ Some id → (Gone id → ⊥) → IsIn t sig e × (place' sig e.uid ≡ Some id)
  pub records_stay : (id : ℕ) (bytes : List ℕ) → map.get objects id ≡ Some bytes → id % 2 ≡ 1 → (Gone id → ⊥) → (map.get objects' id ≡ Some bytes) × (named' id ≡ named id)
  pub larges_stay : (r o : ℕ) (bytes : List ℕ) → map.get objects o ≡ Some bytes → o % 2 ≡ 0 → 0 < o → Among (named r) o → (Gone r → ⊥) → map.get objects' o ≡ Some bytes
  pub new_is : (sig : ℕ) (e : Entry) (id : ℕ) → New sig e id → IsNew objects' place' named' t sig e id
  pub one_new : (sig : ℕ) (e : Entry) (id : ℕ) (v : ℕ) (d : Entry) (other : ℕ) → New sig e id → New v d other → id ≡ other
  pub apart : (sig : ℕ) (e : Entry) (id o r : ℕ) → New sig e id → Among (named' id) o → Among (named r) o → Gone r
  pub places_back : (sig uid id : ℕ) → place' sig uid ≡ Some id → ((place sig uid ≡ Some id) × (Gone id → ⊥)) ⊎ ((e : Entry) × New sig e id × (e.uid ≡ uid))
  pub objects_back : (o : ℕ) (bytes : List ℕ) → map.get objects' o ≡ Some bytes → o ≢ 0
      → ((map.get objects o ≡ Some bytes) × (Gone o → ⊥) × ((r : ℕ) → Among (named r) o → Gone r → ⊥)) ⊎ (((sig : ℕ) × (e : Entry) × New sig e o) ⊎ ((r : ℕ) × Among (named' r) o))
  pub infos : (p : Soup) (g : RawGraph) → Among t.soups p → p.info ≡ Some g → IsGraph g
  pub names_back : (r o : ℕ) → Among (named' r) o → (Among (named r) o × (Gone r → ⊥)) ⊎ ((sig : ℕ) × (e : Entry) × New sig e r)

kept-there : (objects objects' : Objects) (ls : List (ℕ × List ℕ)) (ids : List ℕ)
    → ((o : ℕ) (bytes : List ℕ) → Among ids o → o % 2 ≡ 0 → 0 < o → map.get objects o ≡ Some bytes → map.get objects' o ≡ Some bytes)
    → Each (HasLarge objects) (zip ls ids) → Each (HasLarge objects') (zip ls ids)
kept-there objects objects' [] ids keep h = tt
kept-there objects objects' (l ∷ ls) [] keep h = tt
kept-there objects objects' (l ∷ ls) (i ∷ ids) keep h = ((h.0.0, h.0.1, h.0.2, keep i l.1 (inl refl) h.0.0 h.0.1 h.0.3), kept-there objects objects' ls ids (λ o bytes m. keep o bytes (inr m)) h.1)

-- the large binaries of a graph whose objects stay
pub kept-larges : (objects objects' : Objects) (g : RawGraph) (ids : List ℕ)
    → ((o : ℕ) (bytes : List ℕ) → Among ids o → o % 2 ≡ 0 → 0 < o → map.get objects o ≡ Some bytes → map.get objects' o ≡ Some bytes)
    → AreLarges objects g ids → AreLarges objects' g ids
kept-larges objects objects' g ids keep h = record { each_named = h.each_named; there = kept-there objects objects' (larges g) ids keep h.there; apart = h.apart }

module _ (objects objects' : Objects) (place place' : Places) (named' : Names) (s t : Store) (Gone : ℕ → Type 0) (New : ℕ → Entry → ℕ → Type 0) (lies : LiesIn objects place s)
    (h : IsTurned objects objects' place place' lies.named named' s t Gone New) where
  -- the record of an entry that stays
  stayed : (sig : ℕ) (e : Entry) → IsIn s sig e → ((id : ℕ) → place sig e.uid ≡ Some id → Gone id → ⊥)
      → (id : ℕ) × (place' sig e.uid ≡ Some id) × (id % 2 ≡ 1) × (map.get objects' id ≡ Some (entry_bytes sig e (named' id))) × AreLarges objects' e.graph (named' id)
  stayed sig e i n =
      let r = lies.records sig e i in
      let still = n r.0 r.1 in
      let k = h.records_stay r.0 (entry_bytes sig e (lies.named r.0)) r.3 r.2 still in (
        r.0,
        (h.stays sig e r.0 i r.1 still).1,
        r.2,
        subst (λ ids. map.get objects' r.0 ≡ Some (entry_bytes sig e ids)) (sym k.1) k.0,
        subst (AreLarges objects' e.graph) (sym k.1)
            (kept-larges objects objects' e.graph (lies.named r.0) (λ o bytes m even above got. h.larges_stay r.0 o bytes got even above m still) r.4),
      )

  -- what names an object and stays, names it still
  names-still : (r o : ℕ) → Among (lies.named r) o → (Gone r → ⊥) → Among (named' r) o
  names-still r o m n =
      let k = lies.names r o m in
      let q = lies.records k.0 k.1 k.2 in
      let same : q.0 ≡ r = some-same q.0 r (sym q.1 ∙ k.3) in
      let there = subst (λ v. map.get objects v ≡ Some (entry_bytes k.0 k.1 (lies.named q.0))) same q.3 in
      let odd = subst (λ v. v % 2 ≡ 1) same q.2 in
      subst (λ ids. Among ids o) (sym (h.records_stay r (entry_bytes k.0 k.1 (lies.named q.0)) there odd n).1) m

  recorded : (sig : ℕ) (e : Entry) → IsIn t sig e
      → (id : ℕ) × (place' sig e.uid ≡ Some id) × (id % 2 ≡ 1) × (map.get objects' id ≡ Some (entry_bytes sig e (named' id))) × AreLarges objects' e.graph (named' id)
  recorded sig e i = go (h.back sig e i)
    where
      go : (IsIn s sig e × ((id : ℕ) → place sig e.uid ≡ Some id → Gone id → ⊥)) ⊎ ((id : ℕ) × New sig e id)
          → (id : ℕ) × (place' sig e.uid ≡ Some id) × (id % 2 ≡ 1) × (map.get objects' id ≡ Some (entry_bytes sig e (named' id))) × AreLarges objects' e.graph (named' id)
      go (inl k) = stayed sig e k.0 k.1
      go (inr k) = let n = h.new_is sig e k.0 k.1 in (k.0, n.placed, n.odd, n.record_is, n.larges_are)

  named-once : (id other o : ℕ) → Among (named' id) o → Among (named' other) o → id ≡ other
  named-once id other o m n = go (h.names_back id o m) (h.names_back other o n)
    where
      go : (Among (lies.named id) o × (Gone id → ⊥)) ⊎ ((sig : ℕ) × (e : Entry) × New sig e id) → (Among (lies.named other) o × (Gone other → ⊥)) ⊎ ((sig : ℕ) × (e : Entry) × New sig e other) → id ≡ other
      go (inl a) (inl b) = lies.once id other o a.0 b.0
      go (inl a) (inr b) = absurd (a.1 (h.apart b.0 b.1 other o id b.2 n a.0))
      go (inr a) (inl b) = absurd (b.1 (h.apart a.0 a.1 id o other a.2 m b.0))
      go (inr a) (inr b) = h.one_new a.0 a.1 id b.0 b.1 other a.2 b.2

  only-these : (o : ℕ) (bytes : List ℕ) → map.get objects' o ≡ Some bytes → o ≢ 0 → ((sig : ℕ) × (e : Entry) × IsIn t sig e × (place' sig e.uid ≡ Some o)) ⊎ ((r : ℕ) × Among (named' r) o)
  only-these o bytes got n = go (h.objects_back o bytes got n)
    where
      old : (Gone o → ⊥) → ((r : ℕ) → Among (lies.named r) o → Gone r → ⊥) → ((sig : ℕ) × (e : Entry) × IsIn s sig e × (place sig e.uid ≡ Some o)) ⊎ ((r : ℕ) × Among (lies.named r) o)
          → ((sig : ℕ) × (e : Entry) × IsIn t sig e × (place' sig e.uid ≡ Some o)) ⊎ ((r : ℕ) × Among (named' r) o)
      old here still (inl k) = let q = h.stays k.0 k.1 o k.2 k.3 here in inl (k.0, k.1, q.0, q.1)
      old here still (inr k) = inr (k.0, names-still k.0 o k.1 (still k.0 k.1))

      go : ((map.get objects o ≡ Some bytes) × (Gone o → ⊥) × ((r : ℕ) → Among (lies.named r) o → Gone r → ⊥)) ⊎ (((sig : ℕ) × (e : Entry) × New sig e o) ⊎ ((r : ℕ) × Among (named' r) o))
          → ((sig : ℕ) × (e : Entry) × IsIn t sig e × (place' sig e.uid ≡ Some o)) ⊎ ((r : ℕ) × Among (named' r) o)
      go (inl k) = old k.1 k.2 (lies.only_these o bytes k.0 n)
      go (inr (inl k)) = let q = h.new_is k.0 k.1 o k.2 in inl (k.0, k.1, q.is_in, q.placed)
      go (inr (inr k)) = inr k

  names-its : (r o : ℕ) → Among (named' r) o → (sig : ℕ) × (e : Entry) × IsIn t sig e × (place' sig e.uid ≡ Some r)
  names-its r o m = go (h.names_back r o m)
    where
      go : (Among (lies.named r) o × (Gone r → ⊥)) ⊎ ((sig : ℕ) × (e : Entry) × New sig e r) → (sig : ℕ) × (e : Entry) × IsIn t sig e × (place' sig e.uid ≡ Some r)
      go (inl k) = let n = lies.names r o k.0 in let q = h.stays n.0 n.1 r n.2 n.3 k.1 in (n.0, n.1, q.0, q.1)
      go (inr k) = let q = h.new_is k.0 k.1 r k.2 in (k.0, k.1, q.is_in, q.placed)

  places-its : (sig uid id : ℕ) → place' sig uid ≡ Some id → (e : Entry) × IsIn t sig e × (e.uid ≡ uid)
  places-its sig uid id at = go (h.places_back sig uid id at)
    where
      go : ((place sig uid ≡ Some id) × (Gone id → ⊥)) ⊎ ((e : Entry) × New sig e id × (e.uid ≡ uid)) → (e : Entry) × IsIn t sig e × (e.uid ≡ uid)
      go (inl k) =
          let r = lies.places sig uid id k.0 in
          (r.0, (h.stays sig r.0 id r.1 (subst (λ u. place sig u ≡ Some id) (sym r.2) k.0) k.1).0, r.2)
      go (inr k) = (k.0, (h.new_is sig k.0 id k.1).is_in, k.2)

  pub turned_lies : (lies' : LiesIn objects' place' t) × ((r : ℕ) → lies'.named r ≡ named' r)
  turned_lies = (
    record {
      named = named';
      directory = h.head_is;
      records = recorded;
      once = named-once;
      only_these = only-these;
      names = names-its;
      places = places-its;
      infos = h.infos;
      skeletons = λ sig e i. elim (h.back sig e i) [ inl k ↦ lies.skeletons sig e k.0 | inr k ↦ (h.new_is sig e k.0 k.1).graph ];
      times = λ sig e i. elim (h.back sig e i) [ inl k ↦ lies.times sig e k.0 | inr k ↦ (h.new_is sig e k.0 k.1).time ];
    },
    λ r. refl,
  )
