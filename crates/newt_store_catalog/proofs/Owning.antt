-- Who names an object, as it is found.
use Rattle.std.proofs.Common.{◌≡◌, ◌≢◌, ℕ, ◌<◌, ◌==◌, inl, inr, Bool, true, false, List, [], ◌∷◌, ◌++◌, length, get_or, take, Option, Some, None, IsSome, refl, sym, ◌∙◌, ap, subst, ⊎_elim}
use Rattle.std.specs.List.{list_all}
use Rattle.std.specs.Option.{option_map}
use Rattle.std.proofs.lemmas.Bool.{eqb-true, eq-eqb}
use Rattle.newt_spec_image.specs.Objects.{Extent, Table}
use Rattle.newt_spec_graph.specs.Lists.{Among}
use Rattle.newt_spec_graph.proofs.Lists.{some-same, none-some, among-append, among-left, among-right, each-at, each-from, each-list_all, pairs-append}
use Rattle.newt_entries.specs.declared.row.LargeAt.{LargeAt}
use Rattle.newt_objects_commit.proofs.Planning.{among-get, not_yet}
use Rattle.newt_store_catalog.specs.Opening.{Owners, is_long, has_length, objects_named, OwnsThese, AreOwned}
use Rattle.newt_store_catalog.proofs.Opening.{not_true, object-among}

-- ---- lengths

pub long-some : (o : Option Extent) (n size : ℕ) → Some n ≡ option_map (λ x. x.length) o → (n == size) ≡ is_long size o
long-some None n size e = absurd (none-some n (sym e))
long-some (Some x) n size e = ap (λ (m : ℕ). m == size) (some-same n x.length e)

pub long-none : (o : Option Extent) (size : ℕ) → None ≡ option_map (λ x. x.length) o → false ≡ is_long size o
long-none None size e = refl
long-none (Some x) size e = absurd (none-some x.length e)

pub long-is : (o : Option Extent) (size : ℕ) → is_long size o ≡ true → option_map (λ x. x.length) o ≡ Some size
long-is None size e = absurd (not_true false e refl)
long-is (Some x) size e = ap (λ (n : ℕ). let o : Option ℕ = Some n in o) (eqb-true x.length size e)

pub is-long : (o : Option Extent) (size : ℕ) → option_map (λ x. x.length) o ≡ Some size → is_long size o ≡ true
is-long None size e = absurd (none-some size e)
is-long (Some x) size e = eq-eqb x.length size (some-same x.length size e)

-- each object that rows name is there
pub all-there : (table : Table) (rows : List LargeAt) → list_all (λ row. has_length table row) rows ≡ true → (l : LargeAt) → Among rows l → option_map (λ x. x.length) (table l.object) ≡ Some l.length
all-there table rows all l m = long-is (table l.object) l.length (each-at (λ x. has_length table x ≡ true) rows l (each-list_all (λ x. has_length table x) rows all) m)

-- one that rows name is not there
pub not-there : (table : Table) (rows : List LargeAt) → list_all (λ row. has_length table row) rows ≡ false → (l : LargeAt) × Among rows l × (option_map (λ x. x.length) (table l.object) ≡ Some l.length → ⊥)
not-there table [] e = absurd (not_true true refl e)
not-there table (x ∷ rows) e = go (not-there table rows) (has_length table x) refl e
  where
    go : (list_all (λ row. has_length table row) rows ≡ false → (l : LargeAt) × Among rows l × (option_map (λ x. x.length) (table l.object) ≡ Some l.length → ⊥)) → (b : Bool) → has_length table x ≡ b
        → list_all (λ row. has_length table row) (x ∷ rows) ≡ false → (l : LargeAt) × Among (x ∷ rows) l × (option_map (λ x. x.length) (table l.object) ≡ Some l.length → ⊥)
    go more false t k = (x, inl refl, (λ is. not_true (has_length table x) (is-long (table x.object) x.length is) t))
    go more true t k = let r = more (rw t at k) in (r.0, inr r.1, r.2)

-- an object that rows name is there
some-there : (table : Table) (l : LargeAt) → option_map (λ x. x.length) (table l.object) ≡ Some l.length → IsSome (table l.object)
some-there table l e = go (table l.object) refl e
  where
    go : (o : Option Extent) → table l.object ≡ o → option_map (λ x. x.length) o ≡ Some l.length → IsSome (table l.object)
    go None t k = absurd (none-some l.length k)
    go (Some x) t k = subst (λ (o : Option Extent). IsSome o) (sym t) refl

-- each object that rows name is there, where each has its row's length
pub named-there : (table : Table) (rows : List LargeAt) → ((l : LargeAt) → Among rows l → option_map (λ x. x.length) (table l.object) ≡ Some l.length) → (o : ℕ) → Among (objects_named rows) o → IsSome (table o)
named-there table rows all o m = let l = object-among rows o m in subst (λ (q : ℕ). IsSome (table q)) l.2 (some-there table l.0 (all l.0 l.1))

-- ---- owners

pub owns-first : (id : ℕ) (owner : Owners) → OwnsThese [] id owner owner
owns-first id owner = record { free = λ o m. absurd m; once = tt; owned = λ o m. absurd m; others = λ o out. refl }

-- one object more
pub owns-more : (ids : List ℕ) (x id : ℕ) (first old new : Owners) → OwnsThese ids id first old → old x ≡ None → new x ≡ Some id → ((q : ℕ) → q ≢ x → new q ≡ old q) → OwnsThese (ids ++ x ∷ []) id first new
owns-more ids x id first old new so none now others = record {
  free = λ o m. ⊎_elim (λ (k : Among ids o). so.free o k) (λ (k : Among (x ∷ []) o). ap first (sym (one o k)) ∙ sym (so.others x fresh) ∙ none) (among-append ids (x ∷ []) o m);
  once = pairs-append (λ a b. a ≢ b) ids (x ∷ []) so.once (tt, tt) (each-from (λ y. Each_one y) ids (λ y m. ((λ same. fresh (subst (λ (q : ℕ). Among ids q) same m)), tt)));
  owned = λ o m. ⊎_elim (λ (k : Among ids o). others o (λ same. fresh (subst (λ (q : ℕ). Among ids q) same k)) ∙ so.owned o k) (λ (k : Among (x ∷ []) o). ap new (sym (one o k)) ∙ now) (among-append ids (x ∷ []) o m);
  others = λ o out. others o (λ same. out (among-right ids (x ∷ []) o (inl (sym same)))) ∙ so.others o (λ k. out (among-left ids (x ∷ []) o k));
} where
  Each_one : ℕ → Type 0
  Each_one y = Rattle.newt_spec_graph.specs.Lists.Each (λ b. y ≢ b) (x ∷ [])

  one : (o : ℕ) → Among (x ∷ []) o → x ≡ o
  one o (inl e) = e
  one o (inr m) = absurd m

  fresh : Among ids x → ⊥
  fresh m = none-some id (sym none ∙ so.owned x m)

-- an object that has an owner already
pub owned-already : (ids : List ℕ) (i id r : ℕ) (first old : Owners) → i < length ids → OwnsThese (take i ids) id first old → old (get_or ids i 0) ≡ Some r → AreOwned ids first
owned-already ids i id r first old low so is = λ free once.
    none-some r (sym (free (get_or ids i 0) (among-get ids i 0 low)) ∙ sym (so.others (get_or ids i 0) (λ m. not_yet ids i once low m)) ∙ is)
