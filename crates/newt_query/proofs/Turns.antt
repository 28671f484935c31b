-- One value more of those that all are there, or one that is not, and one string more.
use Rattle.std.proofs.Common.{◌≡◌, ℕ, ◌+◌, ◌<◌, ◌≤◌, List, [], ◌∷◌, ◌++◌, map, drop, length, get_or, Option, Some, None, refl, sym, ap, ◌∙◌, append_assoc, append-nil}
use Rattle.std.specs.Prelude.{option_map}
use Rattle.std.proofs.lemmas.List.{at_drop_more, at_drop_all}
use Rattle.std.specs.List.{cons_option}
use Rattle.newt_graph.specs.declared.node.Node.{Node}
use Rattle.newt_query.specs.Filter.{strings_in}
use Rattle.newt_spec_graph.specs.Graph.{every}
use Rattle.newt_tags.proofs.Looked.{before}

module _ {X Y : Type 0} (f : X → Option Y) (xs : List X) (done : List Y) (whole : Option (List Y)) where
  step : (o : Option Y) (rest : List (Option Y)) (y : Y) → o ≡ Some y → before done (every (o ∷ rest)) ≡ before (done ++ y ∷ []) (every rest)
  step o rest y is = ap (λ o. before done (every (o ∷ rest))) is ∙ more (every rest)
    where
      more : (os : Option (List Y)) → before done (option_map (λ ys. y ∷ ys) os) ≡ before (done ++ y ∷ []) os
      more None = refl
      more (Some ys) = ap Some (sym (append_assoc done (y ∷ []) ys))

  abbrev left : List X → Option (List Y)
  left l = before done (every (map f l))

  pub every-more : (i : ℕ) (d : X) (y : Y) (later : List Y) → before done (every (map f (drop i xs))) ≡ whole → i < length xs → Some y ≡ f (get_or xs i d)
      → later ≡ done ++ y ∷ [] → before later (every (map f (drop (i + 1) xs))) ≡ whole
  every-more i d y later so below is more =
      ap (λ l. before l (every (map f (drop (i + 1) xs)))) more ∙ sym (step (f (get_or xs i d)) (map f (drop (i + 1) xs)) y (sym is)) ∙ sym (at_drop_more left xs i d below) ∙ so

  pub every-none : (i : ℕ) (d : X) → before done (every (map f (drop i xs))) ≡ whole → i < length xs → None ≡ f (get_or xs i d) → None ≡ whole
  every-none i d so below is =
      ap (λ o. before done (every (o ∷ map f (drop (i + 1) xs)))) is ∙ sym (at_drop_more left xs i d below) ∙ so

  pub every-end : (i : ℕ) → before done (every (map f (drop i xs))) ≡ whole → length xs ≤ i → Some done ≡ whole
  every-end i so past = sym (ap Some (append-nil done)) ∙ sym (at_drop_all left xs i past) ∙ so

-- ---- strings

one-append : {X : Type 0} (o : Option X) (xs : List X) → cons_option o [] ++ xs ≡ cons_option o xs
one-append None xs = refl
one-append (Some x) xs = refl

module _ (nodes : List Node) (done : List (List ℕ)) (whole : List (List ℕ)) where
  pub strings-more : (i : ℕ) (x : Node) (later : List (List ℕ)) → done ++ strings_in (drop i nodes) ≡ whole → i < length nodes → x ≡ get_or nodes i x
      → later ≡ done ++ strings_in (x ∷ []) → later ++ strings_in (drop (i + 1) nodes) ≡ whole
  strings-more i x later so below at more =
      let rest = drop (i + 1) nodes in
      ap (λ l. l ++ strings_in rest) more ∙ append_assoc done (strings_in (x ∷ [])) (strings_in rest)
      ∙ ap (λ l. done ++ l) (one-append _ (strings_in rest) ∙ ap (λ y. strings_in (y ∷ rest)) at)
      ∙ sym (at_drop_more (λ l. done ++ strings_in l) nodes i x below) ∙ so

  pub strings-end : (i : ℕ) → done ++ strings_in (drop i nodes) ≡ whole → length nodes ≤ i → done ≡ whole
  strings-end i so past = sym (append-nil done) ∙ sym (at_drop_all (λ l. done ++ strings_in l) nodes i past) ∙ so
