-- The soups that are searched, and the keys of the hits that are found.
use Rattle.std.proofs.Common.{arith, ◌≡◌, refl, ap, sym, ◌∙◌, subst, ℕ, Bool, true, false, ◌&&◌, ◌==◌, List, [], ◌∷◌, ◌++◌, length, map, filter, find, cond, Option, Some, None, option_map, option_and_then, inl, inr, ◌⊎◌, drop, ◌+◌, ◌<◌, append_assoc}
use Rattle.std.specs.Prelude.{zip, flat_map, filter_map, IfSome}
use Rattle.std.proofs.lemmas.List.{append-nil}
use Rattle.std.specs.List.{All, list_all, cons_option}
use Rattle.std.proofs.lemmas.Bool.{and_parts, eqb-true}
use Rattle.std.proofs.lemmas.List.Elements.{All-head, All-tail, All-nil, All-cons}
use Rattle.newt_base.specs.Names.{same_path}
use Rattle.newt_spec_graph.specs.Lists.{Among}
use Rattle.newt_spec_graph.proofs.Lists.{some-same, none-some, among-filter, among-flat_map}
use Rattle.newt_spec_store.specs.Keys.{IndexSpec, Key, same_kind, same_direction, same_part, same_spec}
use Rattle.newt_spec_store.specs.Store.{Store, Soup, soup_named, soup_of}
use Rattle.newt_spec_store.proofs.Sorting.{among-fold}
use Rattle.newt_spec_query.specs.Hits.{Query, Hit, hit_cmp, in_scope}
use Rattle.newt_spec_world.specs.First.{unit_numbers}
use Rattle.newt_spec_world.specs.World.{World, mounted_store, mounted_stores, on_unit}
use Rattle.newt_host.specs.Outside.{Outside}
use Rattle.newt_index.specs.declared.identity.Spot.{Spot}
use Rattle.newt_keys.specs.KeyForm.{IsKeyOf}
use Rattle.newt_laws_images.proofs.Chosen.{find-passes}
use Rattle.newt_laws_hits.proofs.Agreeing.{kind-same, direction-same}
use Rattle.newt_index.specs.Pairs.{Pair, IsPair, IsSorted, Sorted, parts_of}
use Rattle.newt_index.specs.Range.{range_of}
use Rattle.newt_index.specs.Kept.{IsProbeOf}
use Rattle.newt_index_ranges.specs.Range.{range_in, range_of_soup}
use Rattle.newt_union.specs.Merged.{Member, hit, hits_of, merged, Agree, AllAgree, IsProbeIn, at_or_after}
use Rattle.newt_union.specs.Seen.{AreSorted}
use Rattle.newt_union.proofs.Orders.{same_bytes, same_keys}
use Rattle.newt_laws_answers.specs.WorldAt.{device_at}
use Rattle.newt_laws_hits.specs.Taking.{declared, member_of, members_of}
use Rattle.newt_laws_hits.proofs.Cuts.{first-among, last-among}
use Rattle.newt_engine_units.specs.declared.units.Units.{Units}
use Rattle.newt_engine_units.specs.Stands.{Stands, Eight, due_in, mounted_in, world_of}
use Rattle.newt_engine_units.proofs.Known.{Laws, at-device}
use Rattle.newt_engine_units.proofs.Shown.{drop-step}
use Rattle.newt_index.specs.Spots.{spot_hit}
use Rattle.newt_engine_hits.specs.Searched.{agrees, AreMembers, member_in}
use Rattle.newt_engine_hits.proofs.Stores.{chosen-map}
use Rattle.newt_engine_hits.specs.Ways.{met, beyond}
use Rattle.newt_engine_hits.specs.declared.ways.Way.{Way}
use Rattle.newt_engine_hits.specs.declared.ways.Way.TheVariants.{On, Back}

-- ---- declarations that agree

parts-agree : (ps qs : IndexSpec) → length ps ≡ length qs → list_all (λ p. same_part p.0 p.1) (zip ps qs) ≡ true → Agree ps qs
parts-agree [] [] l h = tt
parts-agree [] (q ∷ qs) l h = absurd (omega (arith, l))
parts-agree (p ∷ ps) [] l h = absurd (omega (arith, l))
parts-agree (p ∷ ps) (q ∷ qs) l h =
    let a = and_parts (same_part p q) (list_all (λ p. same_part p.0 p.1) (zip ps qs)) h in
    let b = and_parts (same_path p.path q.path && same_kind p.kind q.kind) (same_direction p.direction q.direction) a.0 in
    let c = and_parts (same_path p.path q.path) (same_kind p.kind q.kind) b.0 in
    (kind-same p.kind q.kind c.1, direction-same p.direction q.direction b.1, parts-agree ps qs (omega (arith, l)) a.1)

spec-agrees : (ps qs : IndexSpec) → same_spec ps qs ≡ true → Agree ps qs
spec-agrees ps qs h =
    let a = and_parts (length ps == length qs) (list_all (λ p. same_part p.0 p.1) (zip ps qs)) h in
    parts-agree ps qs (eqb-true (length ps) (length qs) a.0) a.1

agree-back : (a b : IndexSpec) → Agree a b → Agree b a
agree-back [] [] h = tt
agree-back [] (q ∷ qs) h = absurd h
agree-back (p ∷ ps) [] h = absurd h
agree-back (p ∷ ps) (q ∷ qs) h = (sym h.0, sym h.1, agree-back ps qs h.2)

pub agrees-agree : (d : Option IndexSpec) (index : IndexSpec) → agrees d (declared index) ≡ true → Agree index (parts_of d)
agrees-agree None [] h = tt
agrees-agree (Some d) [] h = cc
agrees-agree None (i ∷ index) h = cc
agrees-agree (Some d) (i ∷ index) h = spec-agrees (i ∷ index) d h

-- the range that is found for a declaration is by one that agrees with it
pub range-agrees : (sig : ℕ) (index : IndexSpec) (s : Store) (v : Sorted) → range_in sig (declared index) s ≡ Some v → agrees v.spec (declared index) ≡ true
range-agrees sig index s v h = go (soup_of sig s) h
  where
    same : (a b : Sorted) → Some a ≡ Some b → a ≡ b
    same a b h = cc

    soup : (index : IndexSpec) (p : Soup) → range_of_soup (declared index) p ≡ Some v → agrees v.spec (declared index) ≡ true
    soup [] p h = ap (λ (v : Sorted). agrees v.spec None) (sym (same (range_of None p.entries) v h))
    soup (i ∷ index) p h = by (find (same_spec (i ∷ index)) p.specs) refl h
      where
        by : (o : Option IndexSpec) → find (same_spec (i ∷ index)) p.specs ≡ o → option_map (λ d. range_of (Some d) p.entries) o ≡ Some v
            → agrees v.spec (Some (i ∷ index)) ≡ true
        by None e h = absurd (none-some v h)
        by (Some d) e h =
            ap (λ (v : Sorted). agrees v.spec (Some (i ∷ index))) (sym (same (range_of (Some d) p.entries) v h))
            ∙ (find-passes (same_spec (i ∷ index)) p.specs d e).0

    go : (o : Option Soup) → option_and_then (range_of_soup (declared index)) o ≡ Some v → agrees v.spec (declared index) ≡ true
    go None h = absurd (none-some v h)
    go (Some p) h = soup index p h

-- ---- keys

abbrev OneAgrees : IndexSpec → Member → Type 0
OneAgrees index m = Agree index (parts_of m.range.spec)

abbrev OneSorted : Member → Type 0
OneSorted m = IsSorted m.range

pair-key : (index : IndexSpec) (m : Member) → Agree index (parts_of m.range.spec) → (ps : List Pair) → All (IsPair (parts_of m.range.spec)) ps → (h : Hit) → Among (map (hit m) ps) h
    → IsKeyOf index h.key
pair-key index m a [] f h n = absurd n
pair-key index m a (p ∷ ps) f h (inl e) = subst (λ (g : Hit). IsKeyOf index g.key) e (same_keys index (parts_of m.range.spec) a p.0 (All-head (IsPair (parts_of m.range.spec)) p ps f).is_key)
pair-key index m a (p ∷ ps) f h (inr n) = pair-key index m a ps (All-tail (IsPair (parts_of m.range.spec)) p ps f) h n

members-key : (index : IndexSpec) (ms : List Member) → AllAgree index ms → AreSorted ms → (m : Member) → Among ms m → (h : Hit) → Among (hits_of m) h → IsKeyOf index h.key
members-key index [] a s m n h k = absurd n
members-key index (x ∷ ms) a s m (inl e) h k =
    pair-key index x (All-head (OneAgrees index) x ms a) x.range.pairs (All-head OneSorted x ms s).each h (subst (λ (m : Member). Among (hits_of m) h) (sym e) k)
members-key index (x ∷ ms) a s m (inr n) h k = members-key index ms (All-tail (OneAgrees index) x ms a) (All-tail OneSorted x ms s) m n h k

merged-key : (index : IndexSpec) (ms : List Member) → AreMembers index ms → (h : Hit) → Among (merged index ms) h → IsKeyOf index h.key
merged-key index ms are h n = go (among-fold (hit_cmp index) [] (flat_map hits_of ms) h n)
  where
    go : Among [] h ⊎ Among (flat_map hits_of ms) h → IsKeyOf index h.key
    go (inl e) = absurd e
    go (inr k) = let m = among-flat_map hits_of ms h k in members-key index ms are.agree are.sorted m.0 m.1 h m.2

-- what a search of the merge finds has a key of the index
met-among : (way : Way) (hs : List Hit) (h : Hit) → met way hs ≡ Some h → Among hs h
met-among On hs h e = first-among hs h e
met-among Back hs h e = last-among hs h e

beyond-among : (way : Way) (index : IndexSpec) (ms : List Member) (at h : Hit) → beyond way index ms at ≡ Some h → Among (merged index ms) h
beyond-among On index ms at h e = (among-filter _ (merged index ms) h (first-among _ h e)).0
beyond-among Back index ms at h e = (among-filter _ (merged index ms) h (last-among _ h e)).0

-- the spot is none, or has a key of the index
spot-key : (index : IndexSpec) (found : Option Spot) (o : Option Hit) → option_map spot_hit found ≡ o → ((h : Hit) → o ≡ Some h → IsKeyOf index h.key) → IfSome found (λ spot. IsKeyOf index spot.key)
spot-key index None o e k = tt
spot-key index (Some spot) o e k = k (spot_hit spot) (sym e)

module _ (index : IndexSpec) (ms : List Member) (are : AreMembers index ms) (found : Option Spot) where
  pub met-key : (way : Way) → option_map spot_hit found ≡ met way (merged index ms) → IfSome found (λ spot. IsKeyOf index spot.key)
  met-key way e = spot-key index found (met way (merged index ms)) e (λ h k. merged-key index ms are h (met-among way (merged index ms) h k))

  pub beyond-key : (way : Way) (at : Hit) → option_map spot_hit found ≡ beyond way index ms at → IfSome found (λ spot. IsKeyOf index spot.key)
  beyond-key way at e = spot-key index found (beyond way index ms at) e (λ h k. merged-key index ms are h (beyond-among way index ms at h k))

  pub at-key : (key : Key) → option_map spot_hit found ≡ at_or_after index ms key → IfSome found (λ spot. IsKeyOf index spot.key)
  at-key key e = spot-key index found (at_or_after index ms key) e (λ h k. merged-key index ms are h (among-filter _ (merged index ms) h (first-among _ h k)).0)

-- the spot is none, or one of the hits
spot-among : (hs : List Hit) (found : Option Spot) (o : Option Hit) → option_map spot_hit found ≡ o → ((h : Hit) → o ≡ Some h → Among hs h) → IfSome found (λ spot. Among hs (spot_hit spot))
spot-among hs None o e k = tt
spot-among hs (Some spot) o e k = k (spot_hit spot) (sym e)

module _ (index : IndexSpec) (ms : List Member) (found : Option Spot) where
  pub met-indexed : (way : Way) → option_map spot_hit found ≡ met way (merged index ms) → IfSome found (λ spot. Among (merged index ms) (spot_hit spot))
  met-indexed way e = spot-among (merged index ms) found (met way (merged index ms)) e (met-among way (merged index ms))

  pub beyond-indexed : (way : Way) (at : Hit) → option_map spot_hit found ≡ beyond way index ms at → IfSome found (λ spot. Among (merged index ms) (spot_hit spot))
  beyond-indexed way at e = spot-among (merged index ms) found (beyond way index ms at) e (beyond-among way index ms at)

  pub at-indexed : (key : Key) → option_map spot_hit found ≡ at_or_after index ms key → IfSome found (λ spot. Among (merged index ms) (spot_hit spot))
  at-indexed key e = spot-among (merged index ms) found (at_or_after index ms key) e (λ h k. (among-filter _ (merged index ms) h (first-among _ h k)).0)

-- bytes of a key of the index are those of a key of each member
abbrev OneProbe : Key → List ℕ → Member → Type 0
OneProbe key bytes m = IsProbeOf m.range.spec key bytes

declared-probe : (index : IndexSpec) (key : Key) (bytes : List ℕ) → IsProbeOf (declared index) key bytes → IsProbeOf (Some index) key bytes
declared-probe [] key bytes p = record { is_key = p.is_key; same = p.same }
declared-probe (i ∷ index) key bytes p = p

probe-in : (index : IndexSpec) (key : Key) (bytes : List ℕ) (ms : List Member) → AllAgree index ms → IsProbeOf (Some index) key bytes → IsProbeIn ms key bytes
probe-in index key bytes [] a p = All-nil (OneProbe key bytes)
probe-in index key bytes (m ∷ ms) a p =
    let agree = All-head (OneAgrees index) m ms a in
    All-cons (OneProbe key bytes) m ms
    (record { is_key = same_keys (parts_of m.range.spec) index (agree-back index (parts_of m.range.spec) agree) key p.is_key; same = p.same ∙ same_bytes index (parts_of m.range.spec) agree key })
    (probe-in index key bytes ms (All-tail (OneAgrees index) m ms a) p)

pub members-probe-in : (index : IndexSpec) (key : Key) (bytes : List ℕ) (ms : List Member) → AreMembers index ms → IsProbeOf (declared index) key bytes → IsProbeIn ms key bytes
members-probe-in index key bytes ms are p = probe-in index key bytes ms are.agree (declared-probe index key bytes p)

pub no-members : (index : IndexSpec) → AreMembers index []
no-members index = record { agree = All-nil (OneAgrees index); sorted = All-nil OneSorted }

all-push : {X : Type 0} (P : X → Type 0) (xs : List X) (x : X) → All P xs → P x → All P (xs ++ x ∷ [])
all-push P [] x a p = All-cons P x [] p (All-nil P)
all-push P (y ∷ xs) x a p = All-cons P y (xs ++ x ∷ []) (All-head P y xs a) (all-push P xs x (All-tail P y xs a) p)

pub one-member : (index : IndexSpec) (ms : List Member) (m : Member) → AreMembers index ms → Agree index (parts_of m.range.spec) → IsSorted m.range → AreMembers index (ms ++ m ∷ [])
one-member index ms m are a s = record { agree = all-push (OneAgrees index) ms m are.agree a; sorted = all-push OneSorted ms m are.sorted s }

pub chosen-kept : {X Y : Type 0} (f : X → Option Y) (test : X → Bool) (xs : List X) → filter_map f (filter test xs) ≡ filter_map (λ x. cond (test x) (f x) None) xs
chosen-kept f test [] = refl
chosen-kept f test (x ∷ xs) = go (test x) (chosen-kept f test xs)
  where
    go : (b : Bool) → filter_map f (filter test xs) ≡ filter_map (λ x. cond (test x) (f x) None) xs
        → filter_map f (cond b (x ∷ filter test xs) (filter test xs)) ≡ cons_option (cond b (f x) None) (filter_map (λ x. cond (test x) (f x) None) xs)
    go true h = ap (cons_option (f x)) h
    go false h = h

pub chosen-twice : {X Y Z : Type 0} (f : Y → Option Z) (g : X → Option Y) (xs : List X) → filter_map f (filter_map g xs) ≡ filter_map (λ x. option_and_then f (g x)) xs
chosen-twice f g [] = refl
chosen-twice f g (x ∷ xs) = go (g x) (chosen-twice f g xs)
  where
    go : (o : Option _) → filter_map f (filter_map g xs) ≡ filter_map (λ x. option_and_then f (g x)) xs
        → filter_map f (cons_option o (filter_map g xs)) ≡ cons_option (option_and_then f o) (filter_map (λ x. option_and_then f (g x)) xs)
    go None h = h
    go (Some y) h = ap (cons_option (f y)) h

-- the member of a unit
abbrev pub unit_member : Query → World → ℕ → Option Member
unit_member q w u = option_and_then (member_in q) (mounted_store w u)

-- what the member of a unit is
module _ (q : Query) (w : World) (u : ℕ) where
  pub unit-none : mounted_store w u ≡ None → None ≡ unit_member q w u
  unit-none m = sym (ap (option_and_then (member_in q)) m)

  module _ (s : Store) (m : mounted_store w u ≡ Some s) where
    in-unit : unit_member q w u ≡ member_in q s
    in-unit = ap (option_and_then (member_in q)) m

    pub unit-out : false ≡ in_scope q.scope s → None ≡ unit_member q w u
    unit-out e = sym (in-unit ∙ ap (λ b. cond b (option_and_then (member_of q s) (soup_named q.name s)) None) (sym e))

    scoped : true ≡ in_scope q.scope s → unit_member q w u ≡ option_and_then (member_of q s) (soup_named q.name s)
    scoped e = in-unit ∙ ap (λ b. cond b (option_and_then (member_of q s) (soup_named q.name s)) None) (sym e)

    pub unit-no-soup : true ≡ in_scope q.scope s → None ≡ option_map (λ p. p.sig) (soup_named q.name s) → None ≡ unit_member q w u
    unit-no-soup e n = sym (scoped e ∙ go (soup_named q.name s) n)
      where
        go : (o : Option Soup) → None ≡ option_map (λ p. p.sig) o → option_and_then (member_of q s) o ≡ None
        go None n = refl
        go (Some p) n = absurd (none-some p.sig n)

    pub unit-soup : true ≡ in_scope q.scope s → (sig : ℕ) → Some sig ≡ option_map (λ p. p.sig) (soup_named q.name s)
        → unit_member q w u ≡ option_map (λ r. record { store = s.sig; soup = sig; range = r }) (range_in sig (declared q.spec.index) s)
    unit-soup e sig n = scoped e ∙ go (soup_named q.name s) n
      where
        go : (o : Option Soup) → Some sig ≡ option_map (λ p. p.sig) o
            → option_and_then (member_of q s) o ≡ option_map (λ r. record { store = s.sig; soup = sig; range = r }) (range_in sig (declared q.spec.index) s)
        go None n = absurd (none-some sig (sym n))
        go (Some p) n = ap (λ (k : ℕ). option_map {U = Member} (λ r. record { store = s.sig; soup = k; range = r }) (range_in k (declared q.spec.index) s)) (sym (some-same sig p.sig n))

module _ {C : Type 0} {reads : List ℕ → Option Store} {place : C → ℕ} {soups : C → Store} {stands : Bool → C → Outside → Type 0} (l : Laws reads place soups stands)
    (units : Units C) (o : Outside) (e : Eight o) (s : Stands place stands true units o) where
  -- the members of all units are those of the mounted stores
  pub unit-members : (q : Query) → filter_map (unit_member q (world_of reads units o)) unit_numbers ≡ members_of (mounted_stores (world_of reads units o)) q
  unit-members q =
      (λ i. filter_map (λ u. option_and_then (member_in q) (on_unit (at-device l units o e s u i))) unit_numbers)
      ∙ sym (ap (filter_map (member_in q)) (chosen-map on_unit (device_at reads (due_in units.slots.items) (mounted_in units.slots.items) o) unit_numbers)
      ∙ chosen-twice (member_in q) (λ u. on_unit (device_at reads (due_in units.slots.items) (mounted_in units.slots.items) o u)) unit_numbers)
      ∙ sym (chosen-kept (λ (s : Store). option_and_then (member_of q s) (soup_named q.name s)) (in_scope q.scope) (mounted_stores (world_of reads units o)))

-- a unit more
module _ (f : ℕ → Option Member) where
  pub member-none : (ms : List Member) (n : ℕ) → n < 8 → ms ++ filter_map f (drop n unit_numbers) ≡ filter_map f unit_numbers → f n ≡ None
      → ms ++ filter_map f (drop (n + 1) unit_numbers) ≡ filter_map f unit_numbers
  member-none ms n lt h e =
      sym (ap (λ (us : List ℕ). ms ++ filter_map f us) (drop-step (λ u. u) n lt) ∙ ap (λ o. ms ++ cons_option o (filter_map f (drop (n + 1) unit_numbers))) e) ∙ h

  pub member-more : (ms : List Member) (m : Member) (n : ℕ) → n < 8 → ms ++ filter_map f (drop n unit_numbers) ≡ filter_map f unit_numbers → f n ≡ Some m
      → (ms ++ m ∷ []) ++ filter_map f (drop (n + 1) unit_numbers) ≡ filter_map f unit_numbers
  member-more ms m n lt h e =
      append_assoc ms (m ∷ []) (filter_map f (drop (n + 1) unit_numbers))
      ∙ sym (ap (λ (us : List ℕ). ms ++ filter_map f us) (drop-step (λ u. u) n lt) ∙ ap (λ o. ms ++ cons_option o (filter_map f (drop (n + 1) unit_numbers))) e) ∙ h

  pub members-all : (ms : List Member) (n : ℕ) → n ≡ 8 → ms ++ filter_map f (drop n unit_numbers) ≡ filter_map f unit_numbers → ms ≡ filter_map f unit_numbers
  members-all ms n is h = sym (append-nil ms) ∙ sym (ap (λ n. ms ++ filter_map f (drop n unit_numbers)) is) ∙ h
