-- What is at hand of an entry tells whether it passes.
use Rattle.std.proofs.Common.{◌≡◌, ℕ, List, [], ◌∷◌, length, Bool, true, false, Option, Some, None, refl, sym, ap, ◌∙◌, arith}
use Rattle.std.specs.Prelude.{◌&&◌, ◌||◌, nat_lt, IsSome, MatchOption}
use Rattle.std.proofs.lemmas.Bool.{lt-ltb}
use Rattle.newt_graph.specs.Graph.{RawGraph}
use Rattle.newt_spec_store.specs.Keys.{Key}
use Rattle.newt_spec_store.specs.Store.{TagTable}
use Rattle.newt_spec_query.specs.Tags.{tags_of, tags_pass}
use Rattle.newt_spec_query.specs.Spec.{Spec}
use Rattle.newt_spec_query.specs.Hits.{passes, text_passes}
use Rattle.newt_tags.specs.Masks.{mask_of, tags_by}
use Rattle.newt_tags.proofs.Bits.{mask_means}
use Rattle.newt_query.specs.Filter.{AreOf, asks_texts, in_range, passes_by, texts_pass}

-- ---- no words and no texts

pub nothing_asked : (q : Spec) (g : RawGraph) → asks_texts q ≡ false → text_passes q g ≡ true
nothing_asked q g e = by q.words q.texts e
  where
    by : (ws ts : List (List ℕ)) → (nat_lt 0 (length ws) || nat_lt 0 (length ts)) ≡ false → text_passes (record q { words = ws; texts = ts }) g ≡ true
    by [] [] e = refl
    by [] (t ∷ ts) e =
        let some : nat_lt 0 (length (t ∷ ts)) ≡ true = lt-ltb 0 (length (t ∷ ts)) (omega arith) in
        absurd cc
    by (w ∷ ws) ts e =
        let some : nat_lt 0 (length (w ∷ ws)) ≡ true = lt-ltb 0 (length (w ∷ ws)) (omega arith) in
        let all : (nat_lt 0 (length (w ∷ ws)) || nat_lt 0 (length ts)) ≡ true = rw some refl in
        absurd cc

-- ---- the mask and the graph at hand

tags_are : (table : Option TagTable) (mask : ℕ) (g : RawGraph) → MatchOption table (Unit {0}) (λ t. mask ≡ mask_of t g) → tags_by table mask ≡ tags_of table g
tags_are None mask g e = refl
tags_are (Some t) mask g e = ap (tags_by (Some t)) e ∙ mask_means t g

texts_are : (q : Spec) (graph : Option RawGraph) (g : RawGraph) → (asks_texts q ≡ true → IsSome graph) → MatchOption graph (Unit {0}) (λ h. h ≡ g) → texts_pass q graph ≡ text_passes q g
texts_are q (Some h) g needed e = ap (text_passes q) e
texts_are q None g needed e = by (asks_texts q) refl
  where
    by : (b : Bool) → asks_texts q ≡ b → texts_pass q None ≡ text_passes q g
    by true asks = let none : false ≡ true = needed asks in absurd cc
    by false asks = sym (nothing_asked q g asks)

pub passes_kept : (q : Spec) (k : Key) (table : Option TagTable) (mask : ℕ) (graph : Option RawGraph) → (asks_texts q ≡ true → IsSome graph) → (g : RawGraph) → AreOf table mask graph g
    → passes_by q k table mask graph ≡ (in_range q k && passes q table g)
passes_kept q k table mask graph needed g of =
    ap (λ (tags : List (List ℕ)). in_range q k && tags_pass q.tags tags && texts_pass q graph) (tags_are table mask g of.mask)
    ∙ (ap (λ (b : Bool). in_range q k && tags_pass q.tags (tags_of table g) && b) (texts_are q graph g needed of.graph)
    ∙ and_assoc (in_range q k) (tags_pass q.tags (tags_of table g)) (text_passes q g))
  where
    and_assoc : (a b c : Bool) → (a && b && c) ≡ (a && (b && c))
    and_assoc true b c = refl
    and_assoc false b c = refl
