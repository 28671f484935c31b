-- The best of the members' candidates is what the merged list has.
use Rattle.std.proofs.Common.{◌≡◌, refl, sym, ◌∙◌, ap, subst, Bool, true, false, not, cond, List, [], ◌∷◌, ◌++◌, map, filter, fold, Option, Some, None, ◌⊎◌, inl, inr}
use Rattle.std.specs.Prelude.{option_map, flat_map}
use Rattle.std.specs.List.{All}
use Rattle.std.specs.declared.cmp.Ordering.{Ordering}
use Rattle.std.specs.declared.cmp.Ordering.TheVariants.{Less, Equal, Greater}
use Rattle.std.specs.Cmp.{IsTotalOrder}
use Rattle.std.specs.Ordering.{nat_cmp, ordering_then, ordering_reverse, is_lt, is_gt, match_ordering}
use Rattle.std.proofs.lemmas.Cmp.{back_total}
use Rattle.std.proofs.lemmas.List.Elements.{All-head, All-tail}
use Rattle.newt_spec_graph.specs.Lists.{Each, Pairs, Among}
use Rattle.newt_spec_graph.proofs.Lists.{among-left, among-right, among-append}
use Rattle.newt_spec_store.specs.Keys.{Key, IndexSpec, key_cmp}
use Rattle.newt_spec_query.specs.Hits.{Hit, hit_cmp}
use Rattle.newt_spec_query.proofs.Order.{hit_total}
use Rattle.newt_keys.specs.KeyForm.{IsKeyOf}
use Rattle.newt_index.specs.Pairs.{Pair, parts_of, pair_cmp, first, last, IsPair, IsSorted}
use Rattle.newt_index.specs.Pairs as pairs
use Rattle.newt_union.specs.Merged.{Member, hit, hits_of, merged, Agree, AllAgree, after, before, at_or_after}
use Rattle.newt_union.specs.Candidates.{side, first_in, last_in, after_in, before_in, at_or_after_in, lesser, with_lesser, with_greater}
use Rattle.newt_union.specs.Seen.{AreSorted}
use Rattle.newt_union.proofs.Best.{IsLeast, Passing, NotAfter, only_least, least_of_same, lesser_least, first_passing, last_passing, first_sorted, last_sorted}
use Rattle.newt_union.proofs.Orders.{same_order, same_keys, same_hit_order, tied_hits, sided, own_order, from_key, to_key, past_key, short_of_key, turns}

-- ---- one member

-- the hits of a member are in order
no_turn : (r s : Ordering) → r ≡ Less → r ≡ ordering_reverse s → s ≡ Less → ⊥
no_turn Less s e f g = cc
no_turn Equal s e f g = cc
no_turn Greater s e f g = cc

rising_each : (spec : IndexSpec) (m : Member) → Agree spec (parts_of m.range.spec) → (p : Pair) (qs : List Pair)
    → Each (λ q. pair_cmp (parts_of m.range.spec) p q ≡ Less) qs → Each (NotAfter (hit_cmp spec) (hit m p)) (map (hit m) qs)
rising_each spec m s p [] h = tt
rising_each spec m s p (q ∷ qs) h = (
  λ l. no_turn (hit_cmp spec (hit m p) (hit m q)) (hit_cmp spec (hit m q) (hit m p)) (own_order spec m p q s ∙ h.0) ((hit_total spec).antisymm (hit m p) (hit m q)) l,
  rising_each spec m s p qs h.1,
)

rising : (spec : IndexSpec) (m : Member) → Agree spec (parts_of m.range.spec) → (ps : List Pair)
    → Pairs (λ p q. pair_cmp (parts_of m.range.spec) p q ≡ Less) ps → Pairs (NotAfter (hit_cmp spec)) (map (hit m) ps)
rising spec m s [] h = tt
rising spec m s (p ∷ ps) h = (rising_each spec m s p ps h.0, rising spec m s ps h.1)

-- the pairs that pass are the hits that pass
passed : (m : Member) (own : Pair → Bool) (test : Hit → Bool) (ps : List Pair) → All (IsPair (parts_of m.range.spec)) ps
    → ((p : Pair) → IsPair (parts_of m.range.spec) p → test (hit m p) ≡ own p) → filter test (map (hit m) ps) ≡ map (hit m) (filter own ps)
passed m own test [] h same = refl
passed m own test (p ∷ ps) h same =
    go (test (hit m p)) (own p) (same p (All-head (IsPair (parts_of m.range.spec)) p ps h)) (passed m own test ps (All-tail (IsPair (parts_of m.range.spec)) p ps h) same)
  where
    go : (a b : Bool) → a ≡ b → filter test (map (hit m) ps) ≡ map (hit m) (filter own ps)
        → cond a (hit m p ∷ filter test (map (hit m) ps)) (filter test (map (hit m) ps)) ≡ map (hit m) (cond b (p ∷ filter own ps) (filter own ps))
    go true true e more = ap (λ hs. hit m p ∷ hs) more
    go false false e more = more
    go true false e more = cc
    go false true e more = cc

first_hit : (m : Member) (ps : List Pair) → first (map (hit m) ps) ≡ option_map (hit m) (first ps)
first_hit m [] = refl
first_hit m (p ∷ ps) = refl

last_hit : (m : Member) (ps : List Pair) → last (map (hit m) ps) ≡ option_map (hit m) (last ps)
last_hit m [] = refl
last_hit m (p ∷ []) = refl
last_hit m (p ∷ q ∷ ps) = last_hit m (q ∷ ps)

pub all_pass : {X : Type 0} (xs : List X) → filter (λ x. true) xs ≡ xs
all_pass [] = refl
all_pass (x ∷ xs) = ap (λ ys. x ∷ ys) (all_pass xs)

-- ---- all members

-- a candidate is the first of the member's hits that pass
abbrev pub IsFirstOf : (Hit → Bool) → Member → Option Hit → Type 0
IsFirstOf test m found = first (filter test (hits_of m)) ≡ found

abbrev pub IsLastOf : (Hit → Bool) → Member → Option Hit → Type 0
IsLastOf test m found = last (filter test (hits_of m)) ≡ found

-- keys of the members are keys of the declaration
keys_in : (spec : IndexSpec) (m : Member) → Agree spec (parts_of m.range.spec) → (ps : List Pair) → All (IsPair (parts_of m.range.spec)) ps
    → (h : Hit) → Among (map (hit m) ps) h → IsKeyOf spec h.key
keys_in spec m s [] f h n = absurd n
keys_in spec m s (p ∷ ps) f h (inl e) = subst (λ (g : Hit). IsKeyOf spec g.key) e (same_keys spec (parts_of m.range.spec) s p.0 (All-head (IsPair (parts_of m.range.spec)) p ps f).is_key)
keys_in spec m s (p ∷ ps) f h (inr n) = keys_in spec m s ps (All-tail (IsPair (parts_of m.range.spec)) p ps f) h n

abbrev OneAgrees : IndexSpec → Member → Type 0
OneAgrees spec m = Agree spec (parts_of m.range.spec)

abbrev OneSorted : Member → Type 0
OneSorted m = IsSorted m.range

keys_of_all : (spec : IndexSpec) (ms : List Member) → AllAgree spec ms → AreSorted ms → (h : Hit) → Among (flat_map hits_of ms) h → IsKeyOf spec h.key
keys_of_all spec [] s f h n = absurd n
keys_of_all spec (m ∷ ms) s f h n = elim (among-append (hits_of m) (flat_map hits_of ms) h n) [
  | inl k ↦ keys_in spec m (All-head (OneAgrees spec) m ms s) m.range.pairs (All-head OneSorted m ms f).each h k
  | inr k ↦ keys_of_all spec ms (All-tail (OneAgrees spec) m ms s) (All-tail OneSorted m ms f) h k
]

lesser_same : (R S : Hit → Hit → Ordering) → ((g h : Hit) → R g h ≡ S g h) → (a b : Option Hit) → lesser R a b ≡ lesser S a b
lesser_same R S same None b = refl
lesser_same R S same (Some a) None = refl
lesser_same R S same (Some a) (Some b) = ap (λ o. cond (is_lt o) (Some b) (Some a)) (same b a)

-- in any order that each member's own is, the best of the members' best is the best of all
module _ (R : Hit → Hit → Ordering) (total : IsTotalOrder R) (test : Hit → Bool) (step : Option Hit → Member → Option Hit) (candidate : Member → Option Hit) where
  abbrev Joins : Member → Type 0
  Joins m = ((found : Option Hit) → step found m ≡ lesser R found (candidate m)) × IsLeast R (Passing test (hits_of m)) (candidate m)

  joined : (In : Hit → Type 0) (found : Option Hit) (ms : List Member) → IsLeast R In found → Each Joins ms
      → IsLeast R (λ h. In h ⊎ Passing test (flat_map hits_of ms) h) (fold step found ms)
  joined In found [] h j = least_of_same R In (λ g. In g ⊎ Passing test [] g) (λ g n. inl n) (λ g n. elim n [ inl k ↦ k | inr k ↦ absurd k.0 ]) found h
  joined In found (m ∷ ms) h j =
      least_of_same R (λ g. (In g ⊎ Passing test (hits_of m) g) ⊎ Passing test (flat_map hits_of ms) g) (λ g. In g ⊎ Passing test (hits_of m ++ flat_map hits_of ms) g)
      to back (fold step (step found m) ms)
      (joined (λ g. In g ⊎ Passing test (hits_of m) g) (step found m) ms
      (subst (IsLeast R (λ g. In g ⊎ Passing test (hits_of m) g)) (sym (j.0.0 found)) (lesser_least R total In (Passing test (hits_of m)) found (candidate m) h j.0.1)) j.1)
    where
      to : (g : Hit) → (In g ⊎ Passing test (hits_of m) g) ⊎ Passing test (flat_map hits_of ms) g → In g ⊎ Passing test (hits_of m ++ flat_map hits_of ms) g
      to g (inl (inl k)) = inl k
      to g (inl (inr k)) = inr (among-left (hits_of m) (flat_map hits_of ms) g k.0, k.1)
      to g (inr k) = inr (among-right (hits_of m) (flat_map hits_of ms) g k.0, k.1)

      back : (g : Hit) → In g ⊎ Passing test (hits_of m ++ flat_map hits_of ms) g → (In g ⊎ Passing test (hits_of m) g) ⊎ Passing test (flat_map hits_of ms) g
      back g (inl k) = inl (inl k)
      back g (inr k) = elim (among-append (hits_of m) (flat_map hits_of ms) g k.0) [ inl n ↦ inl (inr (n, k.1)) | inr n ↦ inr (n, k.1) ]

  pub best_of : (ms : List Member) → Each Joins ms → IsLeast R (Passing test (flat_map hits_of ms)) (fold step None ms)
  best_of ms j = least_of_same R (λ h. ⊥ ⊎ Passing test (flat_map hits_of ms) h) (Passing test (flat_map hits_of ms))
      (λ g n. elim n [ inl k ↦ absurd k | inr k ↦ k ]) (λ g n. inr n) (fold step None ms)
      (joined (λ h. ⊥) None ms (λ g n. n) j)

module _ (spec : IndexSpec) (test : Hit → Bool) (candidate : Member → Option Hit) where
  abbrev back : Hit → Hit → Ordering
  back a b = hit_cmp spec b a

  join_first : (ms : List Member) → AllAgree spec ms → AreSorted ms → ((m : Member) → Agree spec (parts_of m.range.spec) → IsSorted m.range → IsFirstOf test m (candidate m))
      → Each (Joins (hit_cmp spec) (hit_total spec) test (with_lesser candidate) candidate) ms
  join_first [] s f own = tt
  join_first (m ∷ ms) s f own =
      let a = All-head (OneAgrees spec) m ms s in
      let o = All-head OneSorted m ms f in (
        (
          λ found. sym (lesser_same (hit_cmp spec) (hit_cmp (parts_of m.range.spec)) (same_hit_order spec (parts_of m.range.spec) a) found (candidate m)),
          subst (IsLeast (hit_cmp spec) (Passing test (hits_of m))) (own m a o) (first_passing (hit_cmp spec) (hit_total spec) test (hits_of m) (rising spec m a m.range.pairs o.rise)),
        ),
        join_first ms (All-tail (OneAgrees spec) m ms s) (All-tail OneSorted m ms f) own,
      )

  join_last : (ms : List Member) → AllAgree spec ms → AreSorted ms → ((m : Member) → Agree spec (parts_of m.range.spec) → IsSorted m.range → IsLastOf test m (candidate m))
      → Each (Joins back (back_total (hit_total spec)) test (with_greater candidate) candidate) ms
  join_last [] s f own = tt
  join_last (m ∷ ms) s f own =
      let a = All-head (OneAgrees spec) m ms s in
      let o = All-head OneSorted m ms f in (
        (
          λ found. sym (lesser_same back (λ g h. hit_cmp (parts_of m.range.spec) h g) (λ g h. same_hit_order spec (parts_of m.range.spec) a h g) found (candidate m)),
          subst (IsLeast back (Passing test (hits_of m))) (own m a o) (last_passing (hit_cmp spec) (hit_total spec) test (hits_of m) (rising spec m a m.range.pairs o.rise)),
        ),
        join_last ms (All-tail (OneAgrees spec) m ms s) (All-tail OneSorted m ms f) own,
      )

  pub least_is : (ms : List Member) → AllAgree spec ms → AreSorted ms → ((m : Member) → Agree spec (parts_of m.range.spec) → IsSorted m.range → IsFirstOf test m (candidate m))
      → fold (with_lesser candidate) None ms ≡ first (filter test (merged spec ms))
  least_is ms s f own =
      only_least (hit_cmp spec) (hit_total spec) (Passing test (flat_map hits_of ms))
      (λ a b n k e. tied_hits spec a b (keys_of_all spec ms s f a n.0) (keys_of_all spec ms s f b k.0) e)
      (fold (with_lesser candidate) None ms) (first (filter test (merged spec ms)))
      (best_of (hit_cmp spec) (hit_total spec) test (with_lesser candidate) candidate ms (join_first ms s f own))
      (first_sorted (hit_cmp spec) (hit_total spec) test (flat_map hits_of ms))

  pub greatest_is : (ms : List Member) → AllAgree spec ms → AreSorted ms → ((m : Member) → Agree spec (parts_of m.range.spec) → IsSorted m.range → IsLastOf test m (candidate m))
      → fold (with_greater candidate) None ms ≡ last (filter test (merged spec ms))
  greatest_is ms s f own =
      only_least back (back_total (hit_total spec)) (Passing test (flat_map hits_of ms))
      (λ a b n k e. sym (tied_hits spec b a (keys_of_all spec ms s f b k.0) (keys_of_all spec ms s f a n.0) e))
      (fold (with_greater candidate) None ms) (last (filter test (merged spec ms)))
      (best_of back (back_total (hit_total spec)) test (with_greater candidate) candidate ms (join_last ms s f own))
      (last_sorted (hit_cmp spec) (hit_total spec) test (flat_map hits_of ms))

-- ---- the searches

pub first_is : (spec : IndexSpec) (ms : List Member) → AllAgree spec ms → AreSorted ms → fold (with_lesser first_in) None ms ≡ first (merged spec ms)
first_is spec ms s f =
    least_is spec (λ h. true) first_in ms s f (λ m a o. ap first (all_pass (hits_of m)) ∙ first_hit m m.range.pairs)
    ∙ ap first (all_pass (merged spec ms))

pub last_is : (spec : IndexSpec) (ms : List Member) → AllAgree spec ms → AreSorted ms → fold (with_greater last_in) None ms ≡ last (merged spec ms)
last_is spec ms s f =
    greatest_is spec (λ h. true) last_in ms s f (λ m a o. ap last (all_pass (hits_of m)) ∙ last_hit m m.range.pairs)
    ∙ ap last (all_pass (merged spec ms))

pub at_or_after_is : (spec : IndexSpec) (key : Key) (ms : List Member) → AllAgree spec ms → AreSorted ms → fold (with_lesser (at_or_after_in key)) None ms ≡ at_or_after spec ms key
at_or_after_is spec key ms s f =
    least_is spec (λ (g : Hit). not (is_lt (key_cmp spec g.key key))) (at_or_after_in key) ms s f
    (λ m a o.
    ap first (passed m (λ p. not (is_lt (key_cmp (parts_of m.range.spec) p.0 key))) (λ (g : Hit). not (is_lt (key_cmp spec g.key key))) m.range.pairs o.each
    (λ p h. ap (λ r. not (is_lt r)) (same_order spec (parts_of m.range.spec) a p.0 key)))
    ∙ first_hit m (filter (λ p. not (is_lt (key_cmp (parts_of m.range.spec) p.0 key))) m.range.pairs))

abbrev KeyOrder : Hit → Member → Pair → Ordering
KeyOrder h m p = key_cmp (parts_of m.range.spec) h.key p.0

own_after : (spec : IndexSpec) (h : Hit) (m : Member) → Agree spec (parts_of m.range.spec) → IsSorted m.range → IsFirstOf (λ g. is_lt (hit_cmp spec h g)) m (after_in h m)
own_after spec h m a o = go (side h m) refl
  where
    by : (own : Pair → Bool) → ((p : Pair) → IsPair (parts_of m.range.spec) p → is_lt (hit_cmp spec h (hit m p)) ≡ own p)
        → first (filter (λ g. is_lt (hit_cmp spec h g)) (hits_of m)) ≡ option_map (hit m) (first (filter own m.range.pairs))
    by own same = ap first (passed m own (λ g. is_lt (hit_cmp spec h g)) m.range.pairs o.each same) ∙ first_hit m (filter own m.range.pairs)

    at : (p : Pair) (r : Ordering) → side h m ≡ r → is_lt (hit_cmp spec h (hit m p)) ≡ is_lt (ordering_then (KeyOrder h m p) (ordering_then r (nat_cmp h.uid p.1)))
    at p r e = ap is_lt (sided spec h m p a) ∙ ap (λ v. is_lt (ordering_then (KeyOrder h m p) (ordering_then v (nat_cmp h.uid p.1)))) e

    go : (r : Ordering) → side h m ≡ r → first (filter (λ g. is_lt (hit_cmp spec h g)) (hits_of m)) ≡ option_map (hit m) (match_ordering r
        (pairs.at_or_after (parts_of m.range.spec) m.range.pairs h.key)
        (pairs.after (parts_of m.range.spec) m.range.pairs (h.key, h.uid))
        (pairs.after (parts_of m.range.spec) m.range.pairs (h.key, 4294967295)))
    go Less e = by (λ p. not (is_lt (key_cmp (parts_of m.range.spec) p.0 h.key)))
        (λ p k. at p Less e ∙ from_key (KeyOrder h m p) (key_cmp (parts_of m.range.spec) p.0 h.key) (turns (parts_of m.range.spec) h.key p.0))
    go Equal e = by (λ p. is_lt (pair_cmp (parts_of m.range.spec) (h.key, h.uid) p)) (λ p k. at p Equal e)
    go Greater e = by (λ p. is_lt (pair_cmp (parts_of m.range.spec) (h.key, 4294967295) p)) (λ p k. at p Greater e ∙ past_key (KeyOrder h m p) p.1 k.fits)

own_before : (spec : IndexSpec) (h : Hit) (m : Member) → Agree spec (parts_of m.range.spec) → IsSorted m.range → IsLastOf (λ g. is_gt (hit_cmp spec h g)) m (before_in h m)
own_before spec h m a o = go (side h m) refl
  where
    by : (own : Pair → Bool) → ((p : Pair) → IsPair (parts_of m.range.spec) p → is_gt (hit_cmp spec h (hit m p)) ≡ own p)
        → last (filter (λ g. is_gt (hit_cmp spec h g)) (hits_of m)) ≡ option_map (hit m) (last (filter own m.range.pairs))
    by own same = ap last (passed m own (λ g. is_gt (hit_cmp spec h g)) m.range.pairs o.each same) ∙ last_hit m (filter own m.range.pairs)

    at : (p : Pair) (r : Ordering) → side h m ≡ r → is_gt (hit_cmp spec h (hit m p)) ≡ is_gt (ordering_then (KeyOrder h m p) (ordering_then r (nat_cmp h.uid p.1)))
    at p r e = ap is_gt (sided spec h m p a) ∙ ap (λ v. is_gt (ordering_then (KeyOrder h m p) (ordering_then v (nat_cmp h.uid p.1)))) e

    go : (r : Ordering) → side h m ≡ r → last (filter (λ g. is_gt (hit_cmp spec h g)) (hits_of m)) ≡ option_map (hit m) (match_ordering r
        (pairs.before (parts_of m.range.spec) m.range.pairs (h.key, 0))
        (pairs.before (parts_of m.range.spec) m.range.pairs (h.key, h.uid))
        (pairs.at_or_before (parts_of m.range.spec) m.range.pairs h.key))
    go Less e = by (λ p. is_gt (pair_cmp (parts_of m.range.spec) (h.key, 0) p)) (λ p k. at p Less e ∙ short_of_key (KeyOrder h m p) p.1)
    go Equal e = by (λ p. is_gt (pair_cmp (parts_of m.range.spec) (h.key, h.uid) p)) (λ p k. at p Equal e)
    go Greater e = by (λ p. not (is_gt (key_cmp (parts_of m.range.spec) p.0 h.key)))
        (λ p k. at p Greater e ∙ to_key (KeyOrder h m p) (key_cmp (parts_of m.range.spec) p.0 h.key) (turns (parts_of m.range.spec) h.key p.0))

pub after_is : (spec : IndexSpec) (h : Hit) (ms : List Member) → AllAgree spec ms → AreSorted ms → fold (with_lesser (after_in h)) None ms ≡ after spec ms h
after_is spec h ms s f = least_is spec (λ g. is_lt (hit_cmp spec h g)) (after_in h) ms s f (own_after spec h)

pub before_is : (spec : IndexSpec) (h : Hit) (ms : List Member) → AllAgree spec ms → AreSorted ms → fold (with_greater (before_in h)) None ms ≡ before spec ms h
before_is spec h ms s f = greatest_is spec (λ g. is_gt (hit_cmp spec h g)) (before_in h) ms s f (own_before spec h)
