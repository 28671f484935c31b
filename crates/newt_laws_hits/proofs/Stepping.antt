-- Steps among the hits that are kept.
use Rattle.std.proofs.Common.{arith, ◌≡◌, refl, ap, sym, ◌∙◌, subst, ◌+◌, Bool, true, false, not, ◌<◌, List, [], ◌∷◌, ◌++◌, filter, length, cond, Option, Some, None, length-append}
use Rattle.std.proofs.lemmas.List.{append-nil}
use Rattle.std.proofs.lemmas.List.Elements.{filter-append}
use Rattle.std.specs.declared.cmp.Ordering.{Ordering}
use Rattle.std.specs.declared.cmp.Ordering.TheVariants.{Less, Equal, Greater}
use Rattle.std.specs.List.{last_or}
use Rattle.std.specs.Ordering.{nat_cmp, is_lt, is_gt, ordering_then, ordering_reverse}
use Rattle.newt_spec_graph.specs.Lists.{Pairs}
use Rattle.newt_spec_graph.proofs.Lists.{each-from}
use Rattle.newt_spec_store.specs.Keys.{IndexSpec, Key, key_cmp}
use Rattle.newt_spec_store.proofs.Sorting.{Rise}
use Rattle.newt_spec_query.specs.Hits.{Hit, hit_cmp}
use Rattle.newt_spec_query.specs.Cursor.{Place, start, finish, on, on_or, is_after, is_before, first_place, last_place, next_place, previous_place, place_at_key}
use Rattle.newt_spec_query.proofs.Order.{hit_total, key_total}
use Rattle.newt_index.specs.Pairs.{first, last}
use Rattle.newt_laws_hits.specs.Walk.{walked, counted, count_after, count_before}
use Rattle.newt_laws_hits.proofs.Cuts.{filter_all, filter_none, filter_swap, no-first, no-last, cut-first, cut-last}

greater-less : (r s : Ordering) → r ≡ ordering_reverse s → is_gt r ≡ is_lt s
greater-less r Less e = ap is_gt e
greater-less r Equal e = ap is_gt e
greater-less r Greater e = ap is_gt e

is-less : (r : Ordering) → is_lt r ≡ true → r ≡ Less
is-less Less e = refl
is-less Equal e = cc
is-less Greater e = cc

last_or-end : {X : Type 0} (o : Option X) (ys : List X) (x : X) → last_or o (ys ++ x ∷ []) ≡ Some x
last_or-end o [] x = refl
last_or-end o (y ∷ ys) x = last_or-end (Some y) ys x

all-pass : (xs : List Hit) → filter (λ h. true) xs ≡ xs
all-pass xs = filter_all (λ h. true) xs (each-from (λ h. true ≡ true) xs (λ h m. refl))

none-pass : (xs : List Hit) → filter (λ h. false) xs ≡ []
none-pass xs = filter_none (λ h. false) xs (each-from (λ h. false ≡ false) xs (λ h m. refl))

module _ (index : IndexSpec) where
  turned : (a b : Hit) → is_gt (hit_cmp index a b) ≡ is_lt (hit_cmp index b a)
  turned a b = greater-less (hit_cmp index a b) (hit_cmp index b a) ((hit_total index).antisymm a b)

  pub after-is : (hs : List Hit) (at : Hit) → filter (is_after index (on at)) hs ≡ filter (λ h. is_lt (hit_cmp index at h)) hs
  after-is hs at = λ i. filter (λ h. turned h at i) hs

  pub before-is : (hs : List Hit) (at : Hit) → filter (is_before index (on at)) hs ≡ filter (λ h. is_gt (hit_cmp index at h)) hs
  before-is hs at = λ i. filter (λ h. sym (turned at h) i) hs

  -- ---- what stands after a place, or from a key on, goes on to the end

  after-up : (place : Place) (a b : Hit) → is_after index place a ≡ true → hit_cmp index a b ≡ Less → is_after index place b ≡ true
  after-up start a b h l = refl
  after-up finish a b h l = cc
  after-up (on at) a b h l =
      turned b at ∙ ap is_lt ((hit_total index).trans at a b (is-less (hit_cmp index at a) (sym (turned a at) ∙ h)) l)

  before-down : (place : Place) (a b : Hit) → is_before index place b ≡ true → hit_cmp index a b ≡ Less → is_before index place a ≡ true
  before-down start a b h l = cc
  before-down finish a b h l = refl
  before-down (on at) a b h l = ap is_lt ((hit_total index).trans a b at l (is-less (hit_cmp index b at) h))

  key-up : (k : Key) (a b : Hit) → not (is_lt (key_cmp index a.key k)) ≡ true → hit_cmp index a b ≡ Less → not (is_lt (key_cmp index b.key k)) ≡ true
  key-up k a b h l = go (key_cmp index a.key b.key) (ordering_then (nat_cmp a.store b.store) (ordering_then (nat_cmp a.soup b.soup) (nat_cmp a.uid b.uid))) refl l
    where
      go : (r s : Ordering) → key_cmp index a.key b.key ≡ r → ordering_then r s ≡ Less → not (is_lt (key_cmp index b.key k)) ≡ true
      go Less s e l = by (key_cmp index b.key k) refl
        where
          by : (s : Ordering) → key_cmp index b.key k ≡ s → not (is_lt s) ≡ true
          by Less f = sym (ap (λ r. not (is_lt r)) ((key_total index).trans a.key b.key k e f)) ∙ h
          by Equal f = refl
          by Greater f = refl
      go Equal s e l = sym (ap (λ r. not (is_lt r)) ((key_total index).congr a.key b.key k e)) ∙ h
      go Greater s e l = cc

  -- ---- steps

  module _ (keep : Hit → Bool) (hs : List Hit) (rise : Pairs (Rise (hit_cmp index)) hs) where
    pub first-walked : (t : Hit → Bool) → ((a b : Hit) → t a ≡ true → hit_cmp index a b ≡ Less → t b ≡ true)
        → first_place (filter t (filter keep hs)) ≡ walked keep finish (next_place (filter keep hs) index) (first (filter t hs))
    first-walked t up = ap first_place (filter_swap t keep hs) ∙ go (first (filter t hs)) refl
      where
        at : (h : Hit) (b : Bool)
            → first_place (cond b (h ∷ filter keep (filter (is_after index (on h)) hs)) (filter keep (filter (is_after index (on h)) hs)))
            ≡ cond b (on h) (next_place (filter keep hs) index (on h))
        at h true = refl
        at h false = ap first_place (filter_swap keep (is_after index (on h)) hs)

        go : (o : Option Hit) → first (filter t hs) ≡ o → first_place (filter keep (filter t hs)) ≡ walked keep finish (next_place (filter keep hs) index) o
        go None e = ap (λ ys. first_place (filter keep ys)) (no-first (filter t hs) e)
        go (Some h) e = ap (λ ys. first_place (filter keep ys)) (cut-first (hit_cmp index) (hit_total index) t up hs h rise e) ∙ at h (keep h)

    pub last-walked : (t : Hit → Bool) → ((a b : Hit) → t b ≡ true → hit_cmp index a b ≡ Less → t a ≡ true)
        → last_place (filter t (filter keep hs)) ≡ walked keep start (previous_place (filter keep hs) index) (last (filter t hs))
    last-walked t down = ap last_place (filter_swap t keep hs) ∙ go (last (filter t hs)) refl
      where
        at : (h : Hit) (b : Bool) → last_place (filter keep (filter (is_before index (on h)) hs) ++ cond b (h ∷ []) []) ≡ cond b (on h) (previous_place (filter keep hs) index (on h))
        at h true = ap (on_or start) (last_or-end None (filter keep (filter (is_before index (on h)) hs)) h)
        at h false = ap last_place (append-nil (filter keep (filter (is_before index (on h)) hs)) ∙ filter_swap keep (is_before index (on h)) hs)

        go : (o : Option Hit) → last (filter t hs) ≡ o → last_place (filter keep (filter t hs)) ≡ walked keep start (previous_place (filter keep hs) index) o
        go None e = ap (λ ys. last_place (filter keep ys)) (no-last (filter t hs) e)
        go (Some h) e =
            ap (λ ys. last_place (filter keep ys)) (cut-last (hit_cmp index) (hit_total index) t down hs h rise e)
            ∙ ap last_place (filter-append keep (filter (is_before index (on h)) hs) (h ∷ [])) ∙ at h (keep h)

    pub first-counted : (t : Hit → Bool) → ((a b : Hit) → t a ≡ true → hit_cmp index a b ≡ Less → t b ≡ true)
        → length (filter t (filter keep hs)) ≡ counted keep (count_after index (filter keep hs)) (first (filter t hs))
    first-counted t up = ap length (filter_swap t keep hs) ∙ go (first (filter t hs)) refl
      where
        at : (h : Hit) (b : Bool)
            → length (cond b (h ∷ filter keep (filter (is_after index (on h)) hs)) (filter keep (filter (is_after index (on h)) hs)))
            ≡ cond b 1 0 + length (filter keep (filter (is_after index (on h)) hs))
        at h true = omega arith
        at h false = omega arith

        go : (o : Option Hit) → first (filter t hs) ≡ o → length (filter keep (filter t hs)) ≡ counted keep (count_after index (filter keep hs)) o
        go None e = ap (λ ys. length (filter keep ys)) (no-first (filter t hs) e)
        go (Some h) e =
            ap (λ ys. length (filter keep ys)) (cut-first (hit_cmp index) (hit_total index) t up hs h rise e) ∙ at h (keep h)
            ∙ ap (λ ys. cond (keep h) 1 0 + length ys) (filter_swap keep (is_after index (on h)) hs)

    pub next-counted : (place : Place) → count_after index (filter keep hs) place ≡ counted keep (count_after index (filter keep hs)) (first (filter (is_after index place) hs))
    next-counted place = first-counted (is_after index place) (after-up place)

    pub next-walked : (place : Place) → next_place (filter keep hs) index place ≡ walked keep finish (next_place (filter keep hs) index) (first (filter (is_after index place) hs))
    next-walked place = first-walked (is_after index place) (after-up place)

    pub previous-walked : (place : Place)
        → previous_place (filter keep hs) index place ≡ walked keep start (previous_place (filter keep hs) index) (last (filter (is_before index place) hs))
    previous-walked place = last-walked (is_before index place) (before-down place)

    pub first-is : first_place (filter keep hs) ≡ walked keep finish (next_place (filter keep hs) index) (first hs)
    first-is =
        ap first_place (sym (all-pass (filter keep hs))) ∙ first-walked (λ h. true) (λ a b h l. refl)
        ∙ ap (λ ys. walked keep finish (next_place (filter keep hs) index) (first ys)) (all-pass hs)

    pub first-counts : length (filter keep hs) ≡ counted keep (count_after index (filter keep hs)) (first hs)
    first-counts =
        ap length (sym (all-pass (filter keep hs))) ∙ first-counted (λ h. true) (λ a b h l. refl)
        ∙ ap (λ ys. counted keep (count_after index (filter keep hs)) (first ys)) (all-pass hs)

    pub last-is : last_place (filter keep hs) ≡ walked keep start (previous_place (filter keep hs) index) (last hs)
    last-is =
        ap last_place (sym (all-pass (filter keep hs))) ∙ last-walked (λ h. true) (λ a b h l. refl)
        ∙ ap (λ ys. walked keep start (previous_place (filter keep hs) index) (last ys)) (all-pass hs)

    pub at_key-walked : (k : Key) → place_at_key (filter keep hs) index k
        ≡ walked keep finish (next_place (filter keep hs) index) (first (filter (λ (h : Hit). not (is_lt (key_cmp index h.key k))) hs))
    at_key-walked k = first-walked (λ h. not (is_lt (key_cmp index h.key k))) (key-up k)

  -- ---- from the ends

  pub from-start : (hs : List Hit) → next_place hs index start ≡ first_place hs
  from-start hs = ap first_place (all-pass hs)

  pub beyond-finish : (hs : List Hit) → next_place hs index finish ≡ finish
  beyond-finish hs = ap first_place (none-pass hs)

  pub from-finish : (hs : List Hit) → previous_place hs index finish ≡ last_place hs
  from-finish hs = ap last_place (all-pass hs)

  pub beyond-start : (hs : List Hit) → previous_place hs index start ≡ start
  beyond-start hs = ap last_place (none-pass hs)

  -- ---- fewer and fewer hits

  pub fewer-after : (hs : List Hit) (place : Place) (h : Hit) → Pairs (Rise (hit_cmp index)) hs → first (filter (is_after index place) hs) ≡ Some h
      → count_after index hs (on h) < count_after index hs place
  fewer-after hs place h rise e =
      subst (λ ys. length (filter (is_after index (on h)) hs) < length ys)
      (sym (cut-first (hit_cmp index) (hit_total index) (is_after index place) (after-up place) hs h rise e)) (longer (filter (is_after index (on h)) hs))
    where
      longer : (ys : List Hit) → length ys < length (h ∷ ys)
      longer ys = omega arith

  pub fewer-before : (hs : List Hit) (place : Place) (h : Hit) → Pairs (Rise (hit_cmp index)) hs → last (filter (is_before index place) hs) ≡ Some h
      → count_before index hs (on h) < count_before index hs place
  fewer-before hs place h rise e =
      subst (λ ys. length (filter (is_before index (on h)) hs) < length ys)
      (sym (cut-last (hit_cmp index) (hit_total index) (is_before index place) (before-down place) hs h rise e)) (longer (filter (is_before index (on h)) hs))
    where
      longer : (ys : List Hit) → length ys < length (ys ++ h ∷ [])
      longer ys = omega (arith, length-append ys (h ∷ []))
