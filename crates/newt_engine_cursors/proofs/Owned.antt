-- Of which unit is what is reached.
use Rattle.std.proofs.Common.{◌≡◌, refl, ap, sym, ◌∙◌, inl, inr, ℕ, zero, suc, List, [], ◌∷◌, Option, Some, None}
use Rattle.std.specs.Prelude.{filter_map, slice_get}
use Rattle.std.specs.List.{cons_option}
use Rattle.newt_spec_graph.specs.Lists.{Among, Pairs}
use Rattle.newt_spec_graph.proofs.Lists.{each-at, none-some, some-same}
use Rattle.newt_spec_store.specs.Store.{Store}
use Rattle.newt_spec_world.specs.World.{Device, flat, on_unit}

-- a store that is mounted is one of those
among-units : (ds : List (Option Device)) (u : ℕ) (s : Store) → on_unit (flat (slice_get ds u)) ≡ Some s → Among (filter_map on_unit ds) s
among-units [] u s e = absurd (none-some s e)
among-units (d ∷ ds) zero s e = go (on_unit d) e
  where
    go : (o : Option Store) → o ≡ Some s → Among (cons_option o (filter_map on_unit ds)) s
    go None e = absurd (none-some s e)
    go (Some t) e = inl (some-same t s e)
among-units (d ∷ ds) (suc u) s e = go (on_unit d) (among-units ds u s e)
  where
    go : (o : Option Store) → Among (filter_map on_unit ds) s → Among (cons_option o (filter_map on_unit ds)) s
    go None m = m
    go (Some t) m = inr m

-- and no two of them have one signature
abbrev AreApart : List Store → Type 0
AreApart ss = Pairs (λ s t. s.sig ≡ t.sig → ⊥) ss

after : (o : Option Store) (ss : List Store) → AreApart (cons_option o ss) → AreApart ss
after None ss apart = apart
after (Some x) ss apart = apart.1

ahead : (o : Option Store) (ss : List Store) (s t : Store) → AreApart (cons_option o ss) → o ≡ Some s → Among ss t → s.sig ≡ t.sig → ⊥
ahead None ss s t apart e m same = absurd (none-some s e)
ahead (Some x) ss s t apart e m same = each-at (λ (t : Store). x.sig ≡ t.sig → ⊥) ss t apart.0 m (ap (λ (y : Store). y.sig) (some-same x s e) ∙ same)

one-unit : (ds : List (Option Device)) (u v : ℕ) (s t : Store) → AreApart (filter_map on_unit ds) → on_unit (flat (slice_get ds u)) ≡ Some s → on_unit (flat (slice_get ds v)) ≡ Some t → s.sig ≡ t.sig
    → u ≡ v
one-unit [] u v s t apart a b same = absurd (none-some s a)
one-unit (d ∷ ds) zero zero s t apart a b same = refl
one-unit (d ∷ ds) zero (suc v) s t apart a b same = absurd (ahead (on_unit d) (filter_map on_unit ds) s t apart a (among-units ds v t b) same)
one-unit (d ∷ ds) (suc u) zero s t apart a b same = absurd (ahead (on_unit d) (filter_map on_unit ds) t s apart b (among-units ds u s a) (sym same))
one-unit (d ∷ ds) (suc u) (suc v) s t apart a b same = ap suc (one-unit ds u v s t (after (on_unit d) (filter_map on_unit ds) apart) a b same)
