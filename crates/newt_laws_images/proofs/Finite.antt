-- Objects by their ids: what is found, what is listed, and that no id is listed twice.
use Rattle.std.proofs.Common.{arith, ◌≡◌, refl, ap, sym, ◌∙◌, subst, ℕ, ◌<◌, List, [], ◌∷◌, true, false, Bool, inl, inr, cond, Some, option_map, find, ◌==◌}
use Rattle.std.specs.Ordering.{nat_cmp, eq_by_cmp, is_lt}
use Rattle.std.specs.FinMap as map
use Rattle.std.proofs.lemmas.Bool.{and_parts}
use lib.Dec.{T}
use Rattle.newt_spec_image.specs.Objects.{Objects as Texts}
use Rattle.newt_spec_store.specs.Image.{ObjectList}
use Rattle.newt_spec_store.specs.StoreOf.{object_bytes}
use Rattle.newt_spec_graph.specs.Lists.{Each, Pairs, Among}
use Rattle.newt_spec_graph.proofs.Lists.{each-at, some-same, none-some}

same-key : (k q : ℕ) → (k == q) ≡ eq_by_cmp nat_cmp q k
same-key k q = grind arith

tied : (k : ℕ) → eq_by_cmp nat_cmp k k ≡ true
tied k = grind arith

untied : (a b : ℕ) → a < b → eq_by_cmp nat_cmp b a ≡ false
untied a b h = grind arith

key-of : (a b : ℕ) → eq_by_cmp nat_cmp a b ≡ true → a ≡ b
key-of a b h = grind arith

less-of : (a b : ℕ) → is_lt (nat_cmp a b) ≡ true → a < b
less-of a b h = grind arith

-- ---- lists of objects

found-bytes : (es : ObjectList) (id : ℕ) → object_bytes es id ≡ map.find nat_cmp id es
found-bytes [] id = refl
found-bytes (e ∷ es) id = ap (λ b. option_map (λ (o : ℕ × List ℕ). o.1) (cond b (Some e) (find (λ (o : ℕ × List ℕ). o.0 == id) es))) (same-key e.0 id)
    ∙ go (eq_by_cmp nat_cmp id e.0) (found-bytes es id)
  where
    go : (b : Bool) → object_bytes es id ≡ map.find nat_cmp id es
        → option_map (λ (o : ℕ × List ℕ). o.1) (cond b (Some e) (find (λ (o : ℕ × List ℕ). o.0 == id) es)) ≡ cond b (Some e.1) (map.find nat_cmp id es)
    go true k = refl
    go false k = k

abbrev pub Rising : ObjectList → Type 0
Rising es = Pairs (λ a b. a.0 < b.0) es

below-each : (x : ℕ) (es : ObjectList) → map.Entries.below_all nat_cmp x es ≡ true → Each (λ (e : ℕ × List ℕ). x < e.0) es
below-each x [] h = tt
below-each x (e ∷ es) h = let r = and_parts _ _ h in (less-of x e.0 r.0, below-each x es r.1)

sorted-rising : (es : ObjectList) → map.is_sorted nat_cmp es ≡ true → Rising es
sorted-rising [] h = tt
sorted-rising (e ∷ es) h = let r = and_parts _ _ h in (below-each e.0 es r.0, sorted-rising es r.1)

rising-found : (es : ObjectList) (z : ℕ × List ℕ) → Rising es → Among es z → map.find nat_cmp z.0 es ≡ Some z.1
rising-found [] z h m = absurd m
rising-found (e ∷ es) z h (inl k) = subst (λ (y : ℕ × List ℕ). cond (eq_by_cmp nat_cmp y.0 e.0) (Some e.1) (map.find nat_cmp y.0 es) ≡ Some y.1) k (ap (λ b. cond b (Some e.1) (map.find nat_cmp e.0 es)) (tied e.0))
rising-found (e ∷ es) z h (inr m) = ap (λ b. cond b (Some e.1) (map.find nat_cmp z.0 es)) (untied e.0 z.0 (each-at (λ (b : ℕ × List ℕ). e.0 < b.0) es z h.0 m)) ∙ rising-found es z h.1 m

found-among : (es : ObjectList) (id : ℕ) (bytes : List ℕ) → map.find nat_cmp id es ≡ Some bytes → Among es (id, bytes)
found-among [] id bytes h = absurd (none-some bytes h)
found-among (e ∷ es) id bytes h = go (found-among es id bytes) (eq_by_cmp nat_cmp id e.0) refl h
  where
    pair : (a b : ℕ) (x y : List ℕ) → a ≡ b → x ≡ y → ◌≡◌ {A = ℕ × List ℕ} (b, x) (a, y)
    pair a b x y p q = λ i. (sym p i, q i)

    go : (map.find nat_cmp id es ≡ Some bytes → Among es (id, bytes)) → (b : Bool) → eq_by_cmp nat_cmp id e.0 ≡ b → cond b (Some e.1) (map.find nat_cmp id es) ≡ Some bytes → Among (e ∷ es) (id, bytes)
    go more true k l = inl (pair id e.0 e.1 bytes (key-of id e.0 k) (some-same e.1 bytes l))
    go more false k l = inr (more l)

-- ---- maps of objects

T-true : (b : Bool) → T b → b ≡ true
T-true true h = refl
T-true false h = absurd h

pub object-get : (objects : Texts) (id : ℕ) → object_bytes (map.entries objects) id ≡ map.get objects id
object-get objects id = found-bytes (map.entries objects) id ∙ sym (map.get-entries objects id)

pub entries-rising : (objects : Texts) → Rising (map.entries objects)
entries-rising objects = sorted-rising (map.entries objects) (T-true _ (map.entries_sorted objects))

pub entry-get : (objects : Texts) (id : ℕ) (bytes : List ℕ) → Among (map.entries objects) (id, bytes) → map.get objects id ≡ Some bytes
entry-get objects id bytes m = map.get-entries objects id ∙ rising-found (map.entries objects) (id, bytes) (entries-rising objects) m

pub get-entry : (objects : Texts) (id : ℕ) (bytes : List ℕ) → map.get objects id ≡ Some bytes → Among (map.entries objects) (id, bytes)
get-entry objects id bytes h = found-among (map.entries objects) id bytes (sym (map.get-entries objects id) ∙ h)
