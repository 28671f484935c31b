-- The map's changes are the list's.
use Rattle.std.proofs.Common.{◌≡◌, ◌==◌, ℕ, Bool, true, false, not, filter, cond, List, [], ◌∷◌, map, Option, refl, sym, ◌∙◌, ap, subst, ◌<◌, ◌^◌}
use Rattle.std.specs.List.{All}
use Rattle.std.specs.declared.cmp.Ordering.{Ordering}
use Rattle.std.specs.declared.cmp.Ordering.TheVariants.{Less, Equal, Greater}
use Rattle.std.specs.Ordering.{nat_cmp, is_eq, match_ordering}
use Rattle.std.specs.BTreeMap.{insert_entry, is_at}
use Rattle.std.specs.Map.{remove_entry}
use Rattle.std.proofs.lemmas.List.Elements.{All-head, All-tail, All-cons, All-nil}
use Rattle.std.specs.List.{AllByRecursion}
use Rattle.std.specs.List.Sorted.{IsStrictlySortedBy}
use Rattle.std.specs.Map.{keys_of}
use Rattle.std.specs.FinMap.{nat_cmp-IsAntisymmetric}
use Rattle.newt_spec_graph.specs.Lists.{Each, Pairs}
use Rattle.newt_spec_store.specs.Keys.{Key, IndexSpec, key_cmp}
use Rattle.newt_keys.proofs.OrderLaws.{equal_keys, tied}
use Rattle.newt_keys.specs.KeyForm.{IsKeyOf, key_bytes}
use Rattle.newt_index.specs.declared.search.Slot.{Slot}
use Rattle.newt_index.specs.Pairs.{Pair, Sorted, parts_of, pair_cmp, with_pair, removed, IsPair, IsSorted}
use Rattle.newt_index.specs.Kept.{Entry, pair_of, IsKept, AreKept, IsProbeOf, slot_cmp}
use Rattle.newt_index.proofs.Walk.{Holds, kept_cmp}

-- a pair that ties with another is the same one
tied_pairs : (spec : Option IndexSpec) (p q : Pair) → IsKeyOf (parts_of spec) p.0 → IsKeyOf (parts_of spec) q.0 → pair_cmp (parts_of spec) p q ≡ Equal → p ≡ q
tied_pairs spec p q hp hq e =
    let h = tied (key_cmp (parts_of spec) p.0 q.0) (nat_cmp p.1 q.1) e in
    λ i. (equal_keys (parts_of spec) p.0 q.0 hp hq h.0 i, nat_cmp-IsAntisymmetric p.1 q.1 h.1 i)

module _ (spec : Option IndexSpec) (slot : Slot) (key : Key) (probe : IsProbeOf spec key slot.bytes) where
  abbrev TakenOut : Entry → List Entry → Bool → Bool → Type 0
  TakenOut e es s t = (map pair_of (cond s es (e ∷ remove_entry (is_at (slot_cmp slot)) es)) ≡ cond t (map pair_of es) (pair_of e ∷ removed (parts_of spec) (map pair_of es) (key, slot.uid)))
      × AreKept spec (cond s es (e ∷ remove_entry (is_at (slot_cmp slot)) es))

  taken_out : (es : List Entry) → AreKept spec es
      → (map pair_of (remove_entry (is_at (slot_cmp slot)) es) ≡ removed (parts_of spec) (map pair_of es) (key, slot.uid)) × AreKept spec (remove_entry (is_at (slot_cmp slot)) es)
  taken_out [] kept = (refl, kept)
  taken_out (e ∷ es) kept =
      by (is_eq (slot_cmp slot e.0)) (is_eq (pair_cmp (parts_of spec) (key, slot.uid) (pair_of e)))
      (ap is_eq (kept_cmp spec slot key e probe (All-head (IsKept spec) e es kept))) (taken_out es (All-tail (IsKept spec) e es kept))
    where
      by : (s t : Bool) → s ≡ t
          → (map pair_of (remove_entry (is_at (slot_cmp slot)) es) ≡ removed (parts_of spec) (map pair_of es) (key, slot.uid)) × AreKept spec (remove_entry (is_at (slot_cmp slot)) es)
          → TakenOut e es s t
      by true true h rest = (refl, All-tail (IsKept spec) e es kept)
      by false false h rest =
          (ap (λ xs. pair_of e ∷ xs) rest.0, All-cons (IsKept spec) e (remove_entry (is_at (slot_cmp slot)) es) (All-head (IsKept spec) e es kept) rest.1)
      by s t h rest = absurd (cc)

module _ (spec : Option IndexSpec) (slot : Slot) (key : Key) (probe : IsProbeOf spec key slot.bytes) (fits : slot.uid < 2 ^ 32) where
  abbrev Put : Entry → List Entry → Ordering → Ordering → Type 0
  Put e es o p = (map pair_of (match_ordering o ((slot, key) ∷ e ∷ es) ((e.0, key) ∷ es) (e ∷ insert_entry slot_cmp es slot key))
      ≡ match_ordering p ((key, slot.uid) ∷ pair_of e ∷ map pair_of es) (pair_of e ∷ map pair_of es) (pair_of e ∷ with_pair (parts_of spec) (map pair_of es) (key, slot.uid)))
      × AreKept spec (match_ordering o ((slot, key) ∷ e ∷ es) ((e.0, key) ∷ es) (e ∷ insert_entry slot_cmp es slot key))

  put_in : (es : List Entry) → AreKept spec es
      → (map pair_of (insert_entry slot_cmp es slot key) ≡ with_pair (parts_of spec) (map pair_of es) (key, slot.uid)) × AreKept spec (insert_entry slot_cmp es slot key)
  put_in [] kept =
      (refl, All-cons (IsKept spec) (slot, key) [] (record { is_key = probe.is_key; bytes = probe.same; uid = fits }) (All-nil (IsKept spec)))
  put_in (e ∷ es) kept =
      let he = All-head (IsKept spec) e es kept in
      by (slot_cmp slot e.0) (pair_cmp (parts_of spec) (key, slot.uid) (pair_of e)) (kept_cmp spec slot key e probe he)
      (λ h. ap (λ (p : Pair). p.0) (tied_pairs spec (key, slot.uid) (pair_of e) probe.is_key he.is_key h))
      (put_in es (All-tail (IsKept spec) e es kept))
    where
      by : (o p : Ordering) → o ≡ p → (p ≡ Equal → key ≡ e.1)
          → (map pair_of (insert_entry slot_cmp es slot key) ≡ with_pair (parts_of spec) (map pair_of es) (key, slot.uid)) × AreKept spec (insert_entry slot_cmp es slot key)
          → Put e es o p
      by Less Less h same rest = (refl, All-cons (IsKept spec) (slot, key) (e ∷ es) (record { is_key = probe.is_key; bytes = probe.same; uid = fits }) kept)
      by Greater Greater h same rest =
          (ap (λ xs. pair_of e ∷ xs) rest.0, All-cons (IsKept spec) e (insert_entry slot_cmp es slot key) (All-head (IsKept spec) e es kept) rest.1)
      by Equal Equal h same rest =
          let K : Key → Type 0 = λ k. AreKept spec ((e.0, k) ∷ es) in
          (ap (λ (k : Key). let p : Pair = (k, e.0.uid) in p ∷ map pair_of es) (same refl), subst K (sym (same refl)) kept)
      by o p h same rest = absurd (cc)

-- the same over the value that a caller sees

abbrev probe_from : (spec : Option IndexSpec) (slot : Slot) (key : Key) → IsKeyOf (parts_of spec) key → slot.bytes ≡ key_bytes (parts_of spec) key → IsProbeOf spec key slot.bytes
probe_from spec slot key k b = record { is_key = k; same = b }

pub put_seen : (v : Sorted) (spec : Option IndexSpec) (es new : List Entry) (slot : Slot) (key : Key) (uid : ℕ)
    → record { spec = spec; pairs = map pair_of es } ≡ v → AreKept spec es → IsKeyOf (parts_of v.spec) key
    → slot.bytes ≡ key_bytes (parts_of spec) key → slot.uid ≡ uid → slot.uid < 2 ^ 32
    → new ≡ insert_entry slot_cmp es slot key
    → (record { spec = spec; pairs = map pair_of new } ≡ record v { pairs = with_pair (parts_of v.spec) v.pairs (key, uid) }) × AreKept spec new
put_seen v spec es new slot key uid seen kept k b u small n =
    let Q : Sorted → Type 0 = λ w. IsKeyOf (parts_of w.spec) key
    → (record { spec = spec; pairs = map pair_of new } ≡ record w { pairs = with_pair (parts_of w.spec) w.pairs (key, slot.uid) }) × AreKept spec new in
    let R : ℕ → Type 0 = λ m. (record { spec = spec; pairs = map pair_of new } ≡ record v { pairs = with_pair (parts_of v.spec) v.pairs (key, m) }) × AreKept spec new in
    subst R u (subst Q seen (λ k.
    let h = put_in spec slot key (probe_from spec slot key k b) small es kept in
    ((λ i. record { spec = spec; pairs = (ap (map pair_of) n ∙ h.0) i }), (let S : List Entry → Type 0 = λ xs. AreKept spec xs in subst S (sym n) h.1))) k)

pub removed_seen : (v : Sorted) (spec : Option IndexSpec) (es new : List Entry) (slot : Slot) (key : Key) (uid : ℕ)
    → record { spec = spec; pairs = map pair_of es } ≡ v → AreKept spec es → IsKeyOf (parts_of v.spec) key
    → slot.bytes ≡ key_bytes (parts_of spec) key → slot.uid ≡ uid
    → new ≡ remove_entry (is_at (slot_cmp slot)) es
    → (record { spec = spec; pairs = map pair_of new } ≡ record v { pairs = removed (parts_of v.spec) v.pairs (key, uid) }) × AreKept spec new
removed_seen v spec es new slot key uid seen kept k b u n =
    let Q : Sorted → Type 0 = λ w. IsKeyOf (parts_of w.spec) key
    → (record { spec = spec; pairs = map pair_of new } ≡ record w { pairs = removed (parts_of w.spec) w.pairs (key, slot.uid) }) × AreKept spec new in
    let R : ℕ → Type 0 = λ m. (record { spec = spec; pairs = map pair_of new } ≡ record v { pairs = removed (parts_of v.spec) v.pairs (key, m) }) × AreKept spec new in
    subst R u (subst Q seen (λ k.
    let h = taken_out spec slot key (probe_from spec slot key k b) es kept in
    ((λ i. record { spec = spec; pairs = (ap (map pair_of) n ∙ h.0) i }), (let S : List Entry → Type 0 = λ xs. AreKept spec xs in subst S (sym n) h.1))) k)

-- what is kept of the map is kept of the list
kept_both : (spec : Option IndexSpec) (uid : ℕ) (es : List Entry) → AreKept spec es
    → (map pair_of (filter (λ e. not (e.0.uid == uid)) es) ≡ filter (λ q. not (q.1 == uid)) (map pair_of es)) × AreKept spec (filter (λ e. not (e.0.uid == uid)) es)
kept_both spec uid [] kept = (refl, kept)
kept_both spec uid (e ∷ es) kept = by (not (e.0.uid == uid)) (kept_both spec uid es (All-tail (IsKept spec) e es kept))
  where
    by : (b : Bool) → (map pair_of (filter (λ e. not (e.0.uid == uid)) es) ≡ filter (λ q. not (q.1 == uid)) (map pair_of es)) × AreKept spec (filter (λ e. not (e.0.uid == uid)) es)
        → (map pair_of (cond b (e ∷ filter (λ e. not (e.0.uid == uid)) es) (filter (λ e. not (e.0.uid == uid)) es))
        ≡ cond b (pair_of e ∷ filter (λ q. not (q.1 == uid)) (map pair_of es)) (filter (λ q. not (q.1 == uid)) (map pair_of es)))
        × AreKept spec (cond b (e ∷ filter (λ e. not (e.0.uid == uid)) es) (filter (λ e. not (e.0.uid == uid)) es))
    by true rest = (ap (λ xs. pair_of e ∷ xs) rest.0, All-cons (IsKept spec) e (filter (λ e. not (e.0.uid == uid)) es) (All-head (IsKept spec) e es kept) rest.1)
    by false rest = rest

pub forgotten_seen : (v : Sorted) (spec : Option IndexSpec) (es new : List Entry) (slot_uid uid : ℕ) → record { spec = spec; pairs = map pair_of es } ≡ v → AreKept spec es
    → slot_uid ≡ uid → new ≡ filter (λ e. not (e.0.uid == slot_uid)) es
    → (record { spec = spec; pairs = map pair_of new } ≡ record v { pairs = filter (λ q. not (q.1 == uid)) v.pairs }) × AreKept spec new
forgotten_seen v spec es new slot_uid uid seen kept same n =
    let h = kept_both spec slot_uid es kept in
    let Q : Sorted → Type 0 = λ w. record { spec = spec; pairs = map pair_of new } ≡ record w { pairs = filter (λ q. not (q.1 == slot_uid)) w.pairs } in
    let R : ℕ → Type 0 = λ m. record { spec = spec; pairs = map pair_of new } ≡ record v { pairs = filter (λ q. not (q.1 == m)) v.pairs } in
    let S : List Entry → Type 0 = λ xs. AreKept spec xs in
    (subst R same (subst Q seen (λ i. record { spec = spec; pairs = (ap (map pair_of) n ∙ h.0) i })), subst S (sym n) h.1)

valid : (spec : Option IndexSpec) (es : List Entry) → AreKept spec es → All (IsPair (parts_of spec)) (map pair_of es)
valid spec [] h = All-nil (IsPair (parts_of spec))
valid spec (e ∷ es) h =
    let f = All-head (IsKept spec) e es h in
    All-cons (IsPair (parts_of spec)) (pair_of e) (map pair_of es) (record { is_key = f.is_key; fits = f.uid }) (valid spec es (All-tail (IsKept spec) e es h))

-- a pair is below all those that its entry is below
below_all : (spec : Option IndexSpec) (e : Entry) (es : List Entry) → IsKept spec e → AreKept spec es → AllByRecursion (λ s. slot_cmp e.0 s ≡ Less) (keys_of es)
    → Each (λ q. pair_cmp (parts_of spec) (pair_of e) q ≡ Less) (map pair_of es)
below_all spec e [] he hs h = tt
below_all spec e (f ∷ es) he hs h = (
  sym (kept_cmp spec e.0 e.1 f (record { is_key = he.is_key; same = he.bytes }) (All-head (IsKept spec) f es hs)) ∙ h.0,
  below_all spec e es he (All-tail (IsKept spec) f es hs) h.1,
)

rising : (spec : Option IndexSpec) (es : List Entry) → AreKept spec es → IsStrictlySortedBy slot_cmp (keys_of es)
    → Pairs (λ p q. pair_cmp (parts_of spec) p q ≡ Less) (map pair_of es)
unfolding IsStrictlySortedBy
rising spec [] hs h = tt
rising spec (e ∷ es) hs h =
    (below_all spec e es (All-head (IsKept spec) e es hs) (All-tail (IsKept spec) e es hs) h.0, rising spec es (All-tail (IsKept spec) e es hs) h.1)

pub sorted_seen : (v : Sorted) (spec : Option IndexSpec) (es : List Entry) → Holds v spec es → IsStrictlySortedBy slot_cmp (keys_of es) → IsSorted v
sorted_seen v spec es holds order =
    let Q : Sorted → Type 0 = λ w. IsSorted w in subst Q holds.seen (record { each = valid spec es holds.kept; rise = rising spec es holds.kept order })
