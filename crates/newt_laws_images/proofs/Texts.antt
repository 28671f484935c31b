-- The graph of a text, where the text is the one that is written of it.
use Rattle.std.proofs.Common.{◌≡◌, ap, sym, ◌∙◌, refl, ℕ, List, true, false, Bool, cond, Option, Some, None, option_and_then}
use Rattle.std.specs.Prelude.{bytes_eq}
use Rattle.std.proofs.lemmas.Cmp.{nat_list_eq_equiv}
use Rattle.std.proofs.lemmas.Slice.Eq.{bytes_eq-Decides}
use Rattle.newt_graph.specs.Graph.{RawGraph}
use Rattle.newt_spec_nsof.specs.Flat.{flat}
use Rattle.newt_spec_graph.proofs.Lists.{some-same, none-some}
use Rattle.newt_spec_store.specs.Reading.{written}

pub bytes-same : (xs : List ℕ) → bytes_eq xs xs ≡ true
bytes-same xs = nat_list_eq_equiv.refl xs

pub text-same : (a b : List ℕ) → bytes_eq a b ≡ true → a ≡ b
text-same a b h = (bytes_eq-Decides a b).0 h

pub written-back : (graph_of : List ℕ → Option RawGraph) (g : RawGraph) → graph_of (flat g) ≡ Some g → written graph_of (flat g) ≡ Some g
written-back graph_of g reads =
    ap (option_and_then (λ k. cond (bytes_eq (flat k) (flat g)) (Some k) None)) reads ∙ ap (λ b. cond b (Some g) None) (bytes-same (flat g))

pub written-parts : (graph_of : List ℕ → Option RawGraph) (text : List ℕ) (g : RawGraph) → written graph_of text ≡ Some g → (graph_of text ≡ Some g) × (flat g ≡ text)
written-parts graph_of text g h = go (graph_of text) refl h
  where
    test : (b : Bool) (k : RawGraph) → bytes_eq (flat k) text ≡ b → graph_of text ≡ Some k → cond b (Some k) None ≡ Some g → (graph_of text ≡ Some g) × (flat g ≡ text)
    test true k e r s = let q = some-same k g s in (r ∙ s, ap flat (sym q) ∙ text-same (flat k) text e)
    test false k e r s = absurd (none-some g s)

    go : (o : Option RawGraph) → graph_of text ≡ o → option_and_then (λ k. cond (bytes_eq (flat k) text) (Some k) None) o ≡ Some g → (graph_of text ≡ Some g) × (flat g ≡ text)
    go None e k = absurd (none-some g k)
    go (Some k) e s = test (bytes_eq (flat k) text) k refl e s
