-- The row of objects holds where the pages of an image are no objects.
use Rattle.std.proofs.Common.{arith, ◌≡◌, refl, ap, sym, ◌∙◌, ℕ, List, [], ◌∷◌, true, false, Bool, not, cond, map, filter, Option, Some, None}
use Rattle.std.specs.List.{list_all}
use Rattle.std.specs.FinMap as map
use Rattle.newt_spec_image.specs.Pages.{Pages, object_id}
use Rattle.newt_spec_image.specs.Objects.{Objects}
use Rattle.newt_spec_graph.proofs.Lists.{none-some, each-list_all, list_all-each}
use Rattle.newt_spec_graph.specs.Lists.{Each}
use Rattle.newt_spec_store.specs.ImageStore.{table_of, is_page_of, objects_of}
use Rattle.newt_spec_check.specs.Damage.{least, broken_ids}

least-none : (ns : List ℕ) → least ns ≡ None → ns ≡ []
least-none [] h = refl
least-none (n ∷ ns) h = absurd (none-some _ (sym h))

filter-all : {X : Type 0} (test : X → Bool) (f : X → ℕ) (xs : List X) → map f (filter (λ x. not (test x)) xs) ≡ [] → list_all test xs ≡ true
filter-all test f [] h = refl
filter-all test f (x ∷ xs) h = go (filter-all test f xs) (test x) refl h
  where
    go : (map f (filter (λ x. not (test x)) xs) ≡ [] → list_all test xs ≡ true) → (b : Bool) → test x ≡ b
        → map f (cond (not b) (x ∷ filter (λ x. not (test x)) xs) (filter (λ x. not (test x)) xs)) ≡ [] → list_all test (x ∷ xs) ≡ true
    go more true e k = grind (arith, e, more k)
    go more false e k = cc

all-filter : {X : Type 0} (test : X → Bool) (xs : List X) → Each (λ x. test x ≡ true) xs → filter (λ x. not (test x)) xs ≡ []
all-filter test [] h = refl
all-filter test (x ∷ xs) h = ap (λ b. cond (not b) (x ∷ filter (λ x. not (test x)) xs) (filter (λ x. not (test x)) xs)) h.0 ∙ all-filter test xs h.1

some-when : {X : Type 0} (b : Bool) (x : X) → b ≡ true → (y : X) × (cond b (Some x) None ≡ Some y)
some-when b x h = (x, ap (λ b. cond b (Some x) None) h)

when-some : {X : Type 0} (b : Bool) (x y : X) → cond b (Some x) None ≡ Some y → b ≡ true
when-some true x y h = refl
when-some false x y h = absurd (none-some y h)

-- the page is the one of its part
abbrev passes : Pages → ℕ × List ℕ → Bool
passes live e = is_page_of (table_of live (object_id e.1)) e

pub whole-objects : (live : Pages) → least (broken_ids live) ≡ None → (objects : Objects) × (objects_of live ≡ Some objects)
whole-objects live h = some-when (list_all (passes live) (map.entries live)) _ (filter-all (passes live) (λ (e : ℕ × List ℕ). object_id e.1) (map.entries live) (least-none (broken_ids live) h))

pub objects-whole : (live : Pages) (objects : Objects) → objects_of live ≡ Some objects → least (broken_ids live) ≡ None
objects-whole live objects h =
    let all = when-some (list_all (passes live) (map.entries live)) _ objects h in
    ap (λ (es : List (ℕ × List ℕ)). least (map (λ (e : ℕ × List ℕ). object_id e.1) es)) (all-filter (passes live) (map.entries live) (each-list_all (passes live) (map.entries live) all))
