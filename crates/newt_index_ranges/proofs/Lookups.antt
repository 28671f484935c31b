-- The key of an id among pairs, and the entry of an id among entries, after a change.
use Rattle.std.proofs.Common.{◌≡◌, ℕ, ◌==◌, Bool, true, false, not, cond, List, [], ◌∷◌, ◌++◌, filter, find, Option, Some, None, option_map, refl, sym, ◌∙◌, ap, inl, inr}
use Rattle.std.specs.declared.cmp.Ordering.{Ordering}
use Rattle.std.specs.declared.cmp.Ordering.TheVariants.{Less, Equal, Greater}
use Rattle.std.specs.Ordering.{match_ordering}
use Rattle.std.proofs.lemmas.Bool.{eqb-true, eq-eqb}
use Rattle.newt_spec_graph.specs.Lists.{Each, Pairs, Among}
use Rattle.newt_spec_graph.proofs.Lists.{each-at, pairs-filter, some-same, none-some, both-ways}
use Rattle.newt_spec_store.specs.Keys.{Key, IndexSpec}
use Rattle.newt_spec_store.specs.Store.{Entry, change_first}
use Rattle.newt_index.specs.Pairs.{key_at, Pair, pair_cmp, with_pair}
use Rattle.newt_index_ranges.proofs.Ordered.{same_uid}

abbrev pub Once : List Pair → Type 0
Once ps = Pairs (λ p q. p.1 ≡ q.1 → ⊥) ps

-- ---- tests of ids

-- ids that agree with a third agree, and one that agrees with none of two equal ids does not
pub agree : (m n : ℕ) → (m == n) ≡ true → m ≡ n
agree m n h = eqb-true m n h

pub other : (m n w : ℕ) → (m == n) ≡ false → (n == w) ≡ true → (m == w) ≡ false
other m n w h k = ap (λ w. m == w) (sym (agree n w k)) ∙ h

pub another : (m n w : ℕ) → (m == n) ≡ true → (n == w) ≡ false → (m == w) ≡ false
another m n w h k = ap (λ m. m == w) (agree m n h) ∙ k

differ : (m n : ℕ) → (m == n) ≡ false → m ≡ n → ⊥
differ m n h e = both-ways (sym h ∙ eq-eqb m n e)

pub unchanged : {X : Type 0} (c : Bool) (o : Option X) → o ≡ None → o ≡ cond c None o
unchanged true o h = h
unchanged false o h = refl

-- ---- keys

pub none_here : {X : Type 0} (b : Bool) (x : X) (rest : Option X) → cond b (Some x) rest ≡ None → (b ≡ false) × (rest ≡ None)
none_here true x rest h = absurd (none-some x (sym h))
none_here false x rest h = (refl, h)

pub no_id : (ps : List Pair) (u : ℕ) → key_at ps u ≡ None → Each (λ q. u ≡ q.1 → ⊥) ps
no_id [] u h = tt
no_id (q ∷ qs) u h = let n = none_here (q.1 == u) q.0 (key_at qs u) h in ((λ e. differ q.1 u n.0 (sym e)), no_id qs u n.1)

pub key-among : (ps : List Pair) (k : Key) (u : ℕ) → key_at ps u ≡ Some k → Among ps (k, u)
key-among [] k u h = absurd (none-some k h)
key-among (q ∷ qs) k u h = go (key-among qs k u) (q.1 == u) refl h
  where
    go : (key_at qs u ≡ Some k → Among qs (k, u)) → (b : Bool) → (q.1 == u) ≡ b → cond b (Some q.0) (key_at qs u) ≡ Some k → Among (q ∷ qs) (k, u)
    go more true e f = inl (λ i. (some-same q.0 k f i, agree q.1 u e i))
    go more false e f = inr (more f)

pub among-key : (ps : List Pair) (z : Pair) → Once ps → Among ps z → key_at ps z.1 ≡ Some z.0
among-key [] z once m = absurd m
among-key (q ∷ qs) z once (inl e) = ap (λ b. cond b (Some q.0) (key_at qs z.1)) (eq-eqb q.1 z.1 (ap (λ (p : Pair). p.1) e)) ∙ ap (λ (p : Pair). Some p.0) e
among-key (q ∷ qs) z once (inr m) = go (among-key qs z once.1 m) (q.1 == z.1) refl
  where
    go : key_at qs z.1 ≡ Some z.0 → (b : Bool) → (q.1 == z.1) ≡ b → cond b (Some q.0) (key_at qs z.1) ≡ Some z.0
    go rest true e = absurd (each-at (λ (p : Pair). q.1 ≡ p.1 → ⊥) qs z once.0 m (agree q.1 z.1 e))
    go rest false e = rest

-- a pair that has another id is no other pair
unlike : (spec : IndexSpec) (p q : Pair) (o : Ordering) → pair_cmp spec p q ≡ o → (p.1 ≡ q.1 → ⊥) → o ≡ Equal → ⊥
unlike spec p q o e apart same = apart (same_uid spec p q (e ∙ same))

-- a pair more
pub key_added : (spec : IndexSpec) (ps : List Pair) (k : Key) (u w : ℕ) → key_at ps u ≡ None → key_at (with_pair spec ps (k, u)) w ≡ cond (u == w) (Some k) (key_at ps w)
key_added spec [] k u w h = refl
key_added spec (q ∷ qs) k u w h =
    let n = none_here (q.1 == u) q.0 (key_at qs u) h in
    go (pair_cmp spec (k, u) q) (unlike spec (k, u) q (pair_cmp spec (k, u) q) refl (λ e. differ q.1 u n.0 (sym e))) n.0 (key_added spec qs k u w n.1)
  where
    past : (c d : Bool) → (u == w) ≡ c → (q.1 == w) ≡ d → (q.1 == u) ≡ false → cond d (Some q.0) (cond c (Some k) (key_at qs w)) ≡ cond c (Some k) (cond d (Some q.0) (key_at qs w))
    past true true e f apart = absurd (both-ways (sym (other q.1 u w apart e) ∙ f))
    past true false e f apart = refl
    past false true e f apart = refl
    past false false e f apart = refl

    go : (o : Ordering) → (o ≡ Equal → ⊥) → (q.1 == u) ≡ false → key_at (with_pair spec qs (k, u)) w ≡ cond (u == w) (Some k) (key_at qs w)
        → key_at (match_ordering o ((k, u) ∷ q ∷ qs) (q ∷ qs) (q ∷ with_pair spec qs (k, u))) w ≡ cond (u == w) (Some k) (key_at (q ∷ qs) w)
    go Less new apart rest = refl
    go Equal new apart rest = absurd (new refl)
    go Greater new apart rest = ap (λ (o : Option Key). cond (q.1 == w) (Some q.0) o) rest ∙ past (u == w) (q.1 == w) refl refl apart

-- an id gone
pub key_filtered : (ps : List Pair) (u w : ℕ) → key_at (filter (λ q. not (q.1 == u)) ps) w ≡ cond (u == w) None (key_at ps w)
key_filtered [] u w = unchanged (u == w) None refl
key_filtered (q ∷ qs) u w = go (q.1 == u) refl (u == w) (q.1 == w) refl refl (key_filtered qs u w)
  where
    go : (b : Bool) → (q.1 == u) ≡ b → (c d : Bool) → (u == w) ≡ c → (q.1 == w) ≡ d → key_at (filter (λ q. not (q.1 == u)) qs) w ≡ cond c None (key_at qs w)
        → key_at (cond (not b) (q ∷ filter (λ q. not (q.1 == u)) qs) (filter (λ q. not (q.1 == u)) qs)) w ≡ cond c None (cond d (Some q.0) (key_at qs w))
    go true e true d f g rest = rest
    go true e false true f g rest = absurd (both-ways (sym (another q.1 u w e f) ∙ g))
    go true e false false f g rest = rest
    go false e true true f g rest = absurd (both-ways (sym (other q.1 u w e f) ∙ g))
    go false e true false f g rest = ap (λ d. cond d (Some q.0) (key_at (filter (λ q. not (q.1 == u)) qs) w)) g ∙ rest
    go false e false true f g rest = ap (λ d. cond d (Some q.0) (key_at (filter (λ q. not (q.1 == u)) qs) w)) g
    go false e false false f g rest = ap (λ d. cond d (Some q.0) (key_at (filter (λ q. not (q.1 == u)) qs) w)) g ∙ rest

pub once_filtered : (ps : List Pair) (u : ℕ) → Once ps → Once (filter (λ q. not (q.1 == u)) ps)
once_filtered ps u once = pairs-filter (λ (p q : Pair). p.1 ≡ q.1 → ⊥) (λ (q : Pair). not (q.1 == u)) ps once

each-added : (spec : IndexSpec) (P : Pair → Type 0) (ps : List Pair) (p : Pair) → P p → Each P ps → Each P (with_pair spec ps p)
each-added spec P [] p h hs = (h, tt)
each-added spec P (q ∷ qs) p h hs = go (pair_cmp spec p q) (each-added spec P qs p h hs.1)
  where
    go : (o : Ordering) → Each P (with_pair spec qs p) → Each P (match_ordering o (p ∷ q ∷ qs) (q ∷ qs) (q ∷ with_pair spec qs p))
    go Less rest = (h, hs)
    go Equal rest = hs
    go Greater rest = (hs.0, rest)

once_apart : (spec : IndexSpec) (ps : List Pair) (p : Pair) → Each (λ q. p.1 ≡ q.1 → ⊥) ps → Once ps → Once (with_pair spec ps p)
once_apart spec [] p h o = (tt, tt)
once_apart spec (q ∷ qs) p h o = go (pair_cmp spec p q) (once_apart spec qs p h.1 o.1)
  where
    go : (r : Ordering) → Once (with_pair spec qs p) → Once (match_ordering r (p ∷ q ∷ qs) (q ∷ qs) (q ∷ with_pair spec qs p))
    go Less rest = (h, o)
    go Equal rest = o
    go Greater rest = (each-added spec (λ (r : Pair). q.1 ≡ r.1 → ⊥) qs p (λ e. h.0 (sym e)) o.0, rest)

pub once_added : (spec : IndexSpec) (ps : List Pair) (k : Key) (u : ℕ) → key_at ps u ≡ None → Once ps → Once (with_pair spec ps (k, u))
once_added spec ps k u none once = once_apart spec ps (k, u) (no_id ps u none) once

-- ---- entries

abbrev pub at_id : ℕ → Entry → Bool
at_id u e = e.uid == u

-- an entry more, whose id is not there
pub found_added : (es : List Entry) (e : Entry) (w : ℕ) → find (at_id e.uid) es ≡ None → find (at_id w) (es ++ e ∷ []) ≡ cond (e.uid == w) (Some e) (find (at_id w) es)
found_added [] e w h = refl
found_added (d ∷ es) e w h = let n = none_here (d.uid == e.uid) d (find (at_id e.uid) es) h in go (e.uid == w) (d.uid == w) refl refl n.0 (found_added es e w n.1)
  where
    go : (c b : Bool) → (e.uid == w) ≡ c → (d.uid == w) ≡ b → (d.uid == e.uid) ≡ false → find (at_id w) (es ++ e ∷ []) ≡ cond c (Some e) (find (at_id w) es)
        → cond b (Some d) (find (at_id w) (es ++ e ∷ [])) ≡ cond c (Some e) (cond b (Some d) (find (at_id w) es))
    go true true f g apart rest = absurd (both-ways (sym (other d.uid e.uid w apart f) ∙ g))
    go true false f g apart rest = rest
    go false true f g apart rest = refl
    go false false f g apart rest = rest

-- an id gone
pub found_filtered : (es : List Entry) (u w : ℕ) → find (at_id w) (filter (λ e. not (e.uid == u)) es) ≡ cond (u == w) None (find (at_id w) es)
found_filtered [] u w = unchanged (u == w) None refl
found_filtered (d ∷ es) u w = go (d.uid == u) refl (u == w) (d.uid == w) refl refl (found_filtered es u w)
  where
    go : (b : Bool) → (d.uid == u) ≡ b → (c g : Bool) → (u == w) ≡ c → (d.uid == w) ≡ g → find (at_id w) (filter (λ e. not (e.uid == u)) es) ≡ cond c None (find (at_id w) es)
        → find (at_id w) (cond (not b) (d ∷ filter (λ e. not (e.uid == u)) es) (filter (λ e. not (e.uid == u)) es)) ≡ cond c None (cond g (Some d) (find (at_id w) es))
    go true e true g f h rest = rest
    go true e false true f h rest = absurd (both-ways (sym (another d.uid u w e f) ∙ h))
    go true e false false f h rest = rest
    go false e true true f h rest = absurd (both-ways (sym (other d.uid u w e f) ∙ h))
    go false e true false f h rest = ap (λ b. cond b (Some d) (find (at_id w) (filter (λ e. not (e.uid == u)) es))) h ∙ rest
    go false e false true f h rest = ap (λ b. cond b (Some d) (find (at_id w) (filter (λ e. not (e.uid == u)) es))) h
    go false e false false f h rest = ap (λ b. cond b (Some d) (find (at_id w) (filter (λ e. not (e.uid == u)) es))) h ∙ rest

-- the entry of an id changed, which keeps its id
pub found_changed : (es : List Entry) (change : Entry → Entry) (u w : ℕ) → ((e : Entry) → (change e).uid ≡ e.uid)
    → find (at_id w) (change_first (at_id u) change es) ≡ cond (u == w) (option_map change (find (at_id u) es)) (find (at_id w) es)
found_changed [] change u w keeps = unchanged (u == w) None refl
found_changed (d ∷ es) change u w keeps = go (d.uid == u) refl (u == w) (d.uid == w) refl refl (found_changed es change u w keeps)
  where
    go : (b : Bool) → (d.uid == u) ≡ b → (c g : Bool) → (u == w) ≡ c → (d.uid == w) ≡ g
        → find (at_id w) (change_first (at_id u) change es) ≡ cond c (option_map change (find (at_id u) es)) (find (at_id w) es)
        → find (at_id w) (cond b (change d ∷ es) (d ∷ change_first (at_id u) change es)) ≡ cond c (option_map change (cond b (Some d) (find (at_id u) es))) (cond g (Some d) (find (at_id w) es))
    go true e true true f h rest = ap (λ b. cond b (Some (change d)) (find (at_id w) es)) (ap (λ n. n == w) (keeps d) ∙ h)
    go true e true false f h rest = absurd (both-ways (sym h ∙ ap (λ n. n == w) (agree d.uid u e) ∙ f))
    go true e false true f h rest = absurd (both-ways (sym (another d.uid u w e f) ∙ h))
    go true e false false f h rest = ap (λ b. cond b (Some (change d)) (find (at_id w) es)) (ap (λ n. n == w) (keeps d) ∙ h)
    go false e true true f h rest = absurd (both-ways (sym (other d.uid u w e f) ∙ h))
    go false e true false f h rest = ap (λ b. cond b (Some d) (find (at_id w) (change_first (at_id u) change es))) h ∙ rest
    go false e false true f h rest = ap (λ b. cond b (Some d) (find (at_id w) (change_first (at_id u) change es))) h
    go false e false false f h rest = ap (λ b. cond b (Some d) (find (at_id w) (change_first (at_id u) change es))) h ∙ rest
