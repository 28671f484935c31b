-- What is kept of an entry is what the definition of hits keeps of it.
use Rattle.std.proofs.Common.{◌≡◌, ◌∙◌, refl, ap, ℕ, ◌&&◌, Bool, true, false, Option, Some, None}
use Rattle.std.specs.Prelude.{MatchOption, option_and_then}
use Rattle.newt_graph.specs.Graph.{RawGraph}
use Rattle.newt_spec_store.specs.Keys.{Key, key}
use Rattle.newt_spec_store.specs.Store.{Soup, Entry, TagTable}
use Rattle.newt_spec_query.specs.Spec.{Spec}
use Rattle.newt_spec_query.specs.Hits.{kept, passes}
use Rattle.newt_tags.specs.Masks.{mask_by, mask_of, tags_by}
use Rattle.newt_query.specs.Filter.{asks_texts, in_range, passes_by}
use Rattle.newt_query.proofs.Passing.{passes_kept}
use Rattle.newt_spec_query.specs.Tags.{tags_pass}
use Rattle.newt_query.specs.Kept.{if_kept, kept_key}

pub kept-is : (q : Spec) (p : Soup) (e : Entry) → kept q p e (key e.graph q.index) ≡ kept_key q p.tags e.graph
kept-is q p e = go (key e.graph q.index)
  where
    go : (o : Option Key) → kept q p e o ≡ option_and_then (if_kept q p.tags e.graph) o
    go None = refl
    go (Some k) = refl

pub kept-by : (q : Spec) (k : Key) (table : Option TagTable) (mask : ℕ) (g : RawGraph) → MatchOption table (Unit {0}) (λ t. mask ≡ mask_of t g)
    → passes_by q k table mask (Some g) ≡ (in_range q k && passes q table g)
kept-by q k table mask g is = passes_kept q k table mask (Some g) (λ _. refl) g (record { mask = is; graph = refl })

-- a mask that is known is the one of the declaration, if there is one
mask-is : (table : Option TagTable) (mask : ℕ) (g : RawGraph) → mask ≡ mask_by table g → MatchOption table (Unit {0}) (λ t. mask ≡ mask_of t g)
mask-is None mask g e = tt
mask-is (Some t) mask g e = e

pub kept-unread : (q : Spec) (k : Key) (table : Option TagTable) (mask : ℕ) (g : RawGraph) → asks_texts q ≡ false → mask ≡ mask_by table g
    → (in_range q k && tags_pass q.tags (tags_by table mask)) ≡ (in_range q k && passes q table g)
kept-unread q k table mask g none is =
    and-true (in_range q k && tags_pass q.tags (tags_by table mask))
    ∙ passes_kept q k table mask None (λ asks. absurd (both asks none)) g (record { mask = mask-is table mask g is; graph = tt })
  where
    and-true : (b : Bool) → b ≡ (b && true)
    and-true true = refl
    and-true false = refl

    both : {b : Bool} → b ≡ true → b ≡ false → ⊥
    both e f = cc
