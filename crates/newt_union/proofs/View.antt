-- The searches over the list that a caller sees.
use Rattle.std.proofs.Common.{◌≡◌, refl, sym, ◌∙◌, ap, subst, ℕ, suc, ◌+◌, Bool, true, false, cond, List, [], ◌∷◌, map, fold, length, Option, None, arith}
use Rattle.std.specs.Prelude.{flat_map}
use Rattle.std.specs.List.{sum_by}
use Rattle.std.specs.declared.cmp.Ordering.{Ordering}
use Rattle.std.specs.Ordering.{is_lt}
use Rattle.std.proofs.lemmas.List.{length-map}
use Rattle.std.proofs.lemmas.List.Concat.{length-flat_map}
use Rattle.std.proofs.lemmas.List.Elements.{All-head, All-tail, All-cons, All-nil}
use Rattle.newt_spec_store.specs.Keys.{Key, IndexSpec}
use Rattle.newt_spec_store.specs.Sorted.{insert_by, sorted_by}
use Rattle.newt_spec_query.specs.Hits.{Hit, hit_cmp}
use Rattle.newt_index.specs.Kept.{IsProbeOf}
use Rattle.newt_index.specs.Pairs.{first, last}
use Rattle.newt_union.specs.Merged as merged
use Rattle.newt_union.specs.Merged.{hit, hits_of, AllAgree, IsProbeIn}
use Rattle.newt_union.specs.Candidates.{first_in, last_in, after_in, before_in, at_or_after_in, with_lesser, with_greater}
use Rattle.newt_union.specs.Seen.{seen_place, AreSorted, HaveProbe}
use Rattle.newt_union.specs.declared.member.Member.{Member}
use Rattle.newt_union.proofs.Union.{first_is, last_is, after_is, before_is, at_or_after_is}

abbrev Fits : Key → List ℕ → merged.Member → Type 0
Fits key bytes m = IsProbeOf m.range.spec key bytes

abbrev Held : Key → List ℕ → Option Member → Type 0
Held key bytes p = IsProbeOf (seen_place p).range.spec key bytes

have_all : (key : Key) (bytes : List ℕ) (items : List (Option Member)) → IsProbeIn (map seen_place items) key bytes → HaveProbe key bytes items
have_all key bytes [] h = All-nil (Held key bytes)
have_all key bytes (p ∷ ps) h =
    All-cons (Held key bytes) p ps (All-head (Fits key bytes) (seen_place p) (map seen_place ps) h) (have_all key bytes ps (All-tail (Fits key bytes) (seen_place p) (map seen_place ps) h))

pub have_probe : (key : Key) (bytes : List ℕ) (v : List merged.Member) (items xs : List (Option Member)) → map seen_place items ≡ v → xs ≡ items → IsProbeIn v key bytes → HaveProbe key bytes xs
have_probe key bytes v items xs view value h = subst (HaveProbe key bytes) (sym value) (have_all key bytes items (subst (λ w. IsProbeIn w key bytes) (sym view) h))

module _ (v : List merged.Member) (items xs : List (Option Member)) (found : Option Hit) (view : map seen_place items ≡ v) (value : xs ≡ items) (sorted : AreSorted (map seen_place items)) where
  pub first_seen : found ≡ fold (with_lesser first_in) None (map seen_place xs) → (spec : IndexSpec) → AllAgree spec v → found ≡ first (merged.merged spec v)
  first_seen is spec agree =
      let Q : List merged.Member → Type 0 = λ w. AllAgree spec w → found ≡ first (merged.merged spec w) in
      subst Q view (λ a. is ∙ ap (λ ys. fold (with_lesser first_in) None (map seen_place ys)) value ∙ first_is spec (map seen_place items) a sorted) agree

  pub last_seen : found ≡ fold (with_greater last_in) None (map seen_place xs) → (spec : IndexSpec) → AllAgree spec v → found ≡ last (merged.merged spec v)
  last_seen is spec agree =
      let Q : List merged.Member → Type 0 = λ w. AllAgree spec w → found ≡ last (merged.merged spec w) in
      subst Q view (λ a. is ∙ ap (λ ys. fold (with_greater last_in) None (map seen_place ys)) value ∙ last_is spec (map seen_place items) a sorted) agree

  pub after_seen : (h : Hit) → found ≡ fold (with_lesser (after_in h)) None (map seen_place xs) → (spec : IndexSpec) → AllAgree spec v → found ≡ merged.after spec v h
  after_seen h is spec agree =
      let Q : List merged.Member → Type 0 = λ w. AllAgree spec w → found ≡ merged.after spec w h in
      subst Q view (λ a. is ∙ ap (λ ys. fold (with_lesser (after_in h)) None (map seen_place ys)) value ∙ after_is spec h (map seen_place items) a sorted) agree

  pub before_seen : (h : Hit) → found ≡ fold (with_greater (before_in h)) None (map seen_place xs) → (spec : IndexSpec) → AllAgree spec v → found ≡ merged.before spec v h
  before_seen h is spec agree =
      let Q : List merged.Member → Type 0 = λ w. AllAgree spec w → found ≡ merged.before spec w h in
      subst Q view (λ a. is ∙ ap (λ ys. fold (with_greater (before_in h)) None (map seen_place ys)) value ∙ before_is spec h (map seen_place items) a sorted) agree

  pub at_or_after_seen : (key : Key) → found ≡ fold (with_lesser (at_or_after_in key)) None (map seen_place xs) → (spec : IndexSpec) → AllAgree spec v → found ≡ merged.at_or_after spec v key
  at_or_after_seen key is spec agree =
      let Q : List merged.Member → Type 0 = λ w. AllAgree spec w → found ≡ merged.at_or_after spec w key in
      subst Q view (λ a. is ∙ ap (λ ys. fold (with_lesser (at_or_after_in key)) None (map seen_place ys)) value ∙ at_or_after_is spec key (map seen_place items) a sorted) agree

-- ---- the number

length_insert : {X : Type 0} (cmp : X → X → Ordering) (ys : List X) (x : X) → length (insert_by cmp ys x) ≡ suc (length ys)
length_insert cmp [] x = refl
length_insert cmp (y ∷ ys) x = go (is_lt (cmp x y)) (length_insert cmp ys x)
  where
    go : (b : Bool) → length (insert_by cmp ys x) ≡ suc (length ys) → length (cond b (x ∷ y ∷ ys) (y ∷ insert_by cmp ys x)) ≡ suc (suc (length ys))
    go true e = refl
    go false e = ap suc e

length_fold : {X : Type 0} (cmp : X → X → Ordering) (ys xs : List X) → length (fold (insert_by cmp) ys xs) ≡ length ys + length xs
length_fold cmp ys [] = omega arith
length_fold cmp ys (x ∷ xs) = let h = length_fold cmp (insert_by cmp ys x) xs in let k = length_insert cmp ys x in omega (arith, h, k)

-- a list in order is as long as before
pub length_sorted : {X : Type 0} (cmp : X → X → Ordering) (xs : List X) → length (sorted_by cmp xs) ≡ length xs
length_sorted cmp xs = let h = length_fold cmp [] xs in omega (arith, h)

sum_from : (n : ℕ) (items : List (Option Member))
    → fold (λ a (m : merged.Member). a + length (hits_of m)) n (map seen_place items) ≡ fold (λ a (p : Option Member). a + length (seen_place p).range.pairs) n items
sum_from n [] = refl
sum_from n (p ∷ ps) =
    ap (λ k. fold (λ a (x : merged.Member). a + length (hits_of x)) (n + k) (map seen_place ps)) (length-map (seen_place p).range.pairs (hit (seen_place p)))
    ∙ sum_from (n + length (seen_place p).range.pairs) ps

sum_seen : (items : List (Option Member)) → sum_by (λ (m : merged.Member). length (hits_of m)) (map seen_place items) ≡ sum_by (λ (p : Option Member). length (seen_place p).range.pairs) items
sum_seen items = sum_from 0 items

pub counted : (v : List merged.Member) (items xs : List (Option Member)) → map seen_place items ≡ v → xs ≡ items → (spec : IndexSpec)
    → sum_by (λ (p : Option Member). length (seen_place p).range.pairs) xs ≡ length (merged.merged spec v)
counted v items xs view value spec =
    ap (sum_by (λ (p : Option Member). length (seen_place p).range.pairs)) value
    ∙ sym (sum_seen items)
    ∙ sym (length-flat_map hits_of (map seen_place items))
    ∙ sym (length_sorted (hit_cmp spec) (flat_map hits_of (map seen_place items)))
    ∙ ap (λ ms. length (merged.merged spec ms)) view
