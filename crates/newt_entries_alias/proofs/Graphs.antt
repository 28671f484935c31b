-- The graph of an alias.
use Rattle.std.proofs.Common.{◌≡◌, ℕ, zero, suc, ◌*◌, ◌/◌, ◌%◌, ◌<◌, ◌≤◌, ◌==◌, true, List, [], ◌∷◌, ◌++◌, length, get_or, Some, None, refl, sym, ap, ◌∙◌, append_assoc, arith, pos}
use Rattle.std.specs.Prelude.{codes, decimal, slice_get}
use Rattle.std.specs.Int.{w32, cast_unsigned}
use Rattle.std.proofs.lemmas.Bool.{eq-eqb}
use Rattle.std.proofs.lemmas.List.Elements.{All-from_recursion}
use Rattle.newt_graph.specs.declared.node.Node.{Node}
use Rattle.newt_graph.specs.declared.node.Node.TheVariants.{Symbol, Str, Binary, Large, Array, Frame}
use Rattle.newt_graph.specs.declared.node.Ref.{Ref}
use Rattle.newt_graph.specs.declared.node.Ref.TheVariants as refs
use Rattle.newt_graph.specs.Graph.{RawGraph, integer, WalkLabel, Walk, Walks, IsName, IsNode, AreFoldedOnce, IsGraph}
use Rattle.newt_graph.proofs.Words.{integer_word}
use Rattle.newt_base.specs.Text.{decimal_text}
use Rattle.newt_base.proofs.Numerals.{decimal_written}
use Rattle.newt_spec_literal.specs.Printed.{word_text, literal}
use Rattle.newt_spec_graph.specs.Graph.{object}
use Rattle.newt_spec_world.specs.Alias as plain
use Rattle.newt_spec_world.specs.Reply.{items}
use Rattle.newt_entries_alias.specs.declared.alias.Alias.{Alias}
use Rattle.newt_entries_alias.specs.Alias.{alias_said, alias_nodes, alias_graph, Fits, array_alias, node_alias, IsPrinted}

name_is : IsName (codes "alias")
name_is = record {
  some = omega arith;
  few = omega arith;
  each = All-from_recursion (λ b. (32 ≤ b) × (b < 127)) (codes "alias") ((omega arith, omega arith), ((omega arith, omega arith), ((omega arith, omega arith), ((omega arith, omega arith), ((omega arith, omega arith), tt)))));
}

values_walk : (met : ℕ) (a : Alias) → Fits a → Walks 199 met (integer a.store ∷ integer a.soup ∷ integer a.uid ∷ []) []
values_walk met a h =
    Walks.more {first = []} {others = []} (Walk.word (integer_word a.store h.store))
    (Walks.more {first = []} {others = []} (Walk.word (integer_word a.soup h.soup)) (Walks.more {first = []} {others = []} (Walk.word (integer_word a.uid h.uid)) Walks.none))

once : (a : Alias) → AreFoldedOnce (alias_nodes a)
unfolding alias_nodes
once a zero k name named alike = absurd cc
once a (suc zero) zero name named alike = absurd (let e = alike.1 in cc)
once a (suc zero) (suc zero) name named alike = refl
once a (suc zero) (suc (suc k)) name named alike = absurd (let e = alike.1 in cc)
once a (suc (suc i)) k name named alike = absurd cc

pub graph_is : (a : Alias) → Fits a → IsGraph (alias_graph a)
unfolding alias_nodes
graph_is a h = record {
  walk = Walk.array {first = Symbol (codes "alias") ∷ []} {valued = []} WalkLabel.symbol (values_walk 2 a h);
  few = omega arith;
  light = omega arith;
  each = All-from_recursion (IsNode (alias_nodes a)) (alias_nodes a) (((codes "alias", refl), omega arith), (name_is, tt));
  folded_once = once a;
}

natural_is : (n : ℕ) → plain.natural (integer n) ≡ Some n
natural_is n = rw (ap (λ k. k == 0) (remainder n), quotient n) refl
  where
    remainder : (n : ℕ) → 4 * n % 4 ≡ 0
    remainder n = omega arith

    quotient : (n : ℕ) → 4 * n / 4 ≡ n
    quotient n = omega arith

pub alias_is : (a : Alias) → plain.alias_of (alias_graph a) ≡ Some (alias_said a)
unfolding alias_nodes
alias_is a = rw (natural_is a.store, natural_is a.soup, natural_is a.uid) refl

-- ---- what a graph is read as

array_is : (nodes : List Node) (class : ℕ) (values : List Ref) (root : Ref) → object nodes root ≡ Some (Array (Some class) values) → plain.alias_of (record { nodes = nodes; root = root }) ≡ array_alias nodes class values
unfolding array_alias
array_is nodes class [] root h = rw (h, plain.alias_of) refl
array_is nodes class (s ∷ []) root h = rw (h, plain.alias_of) refl
array_is nodes class (s ∷ p ∷ []) root h = rw (h, plain.alias_of) refl
array_is nodes class (s ∷ p ∷ u ∷ []) root h = rw (h, plain.alias_of) refl
array_is nodes class (s ∷ p ∷ u ∷ v ∷ vs) root h = rw (h, plain.alias_of) refl

pub read_is : (g : RawGraph) (node : Node) → object g.nodes g.root ≡ Some node → plain.alias_of g ≡ node_alias g.nodes node
read_is g (Array (Some class) values) h = array_is g.nodes class values g.root h
read_is g (Array None values) h = rw (h, plain.alias_of) refl
read_is g (Symbol name) h = rw (h, plain.alias_of) refl
read_is g (Str units) h = rw (h, plain.alias_of) refl
read_is g (Binary class bytes) h = rw (h, plain.alias_of) refl
read_is g (Large class bytes) h = rw (h, plain.alias_of) refl
read_is g (Frame tags values) h = rw (h, plain.alias_of) refl

nth : (xs : List Node) (n : ℕ) (d : Node) → n < length xs → slice_get xs n ≡ Some (get_or xs n d)
nth [] n d lt = absurd (omega (arith, lt))
nth (x ∷ xs) zero d lt = refl
nth (x ∷ xs) (suc n) d lt = nth xs n d (omega (arith, lt))

-- the alias of the node that the root leads to
pub read_at : (g : RawGraph) (ns : List Node) (n : ℕ) (node : Node) → ns ≡ g.nodes → refs.Node n ≡ g.root → n < length ns → node ≡ get_or ns n node → node_alias ns node ≡ plain.alias_of g
read_at g ns n node same root lt is =
    ap (λ (xs : List Node). node_alias xs node) same
    ∙ sym (read_is g node (ap (object g.nodes) (sym root) ∙ ap (λ (xs : List Node). slice_get xs n) (sym same) ∙ nth ns n node lt ∙ ap (λ (x : Node). Some x) (sym is)))

-- ---- what is printed

word_printed : (n : ℕ) → n ≤ 536_870_911 → word_text (pos (4 * n)) ≡ decimal_text n
word_printed n h = step ∙ sym (decimal_written n)
  where
    whole : (cast_unsigned w32 (pos (4 * n)) % 4 == 0) ≡ true
    whole = eq-eqb (cast_unsigned w32 (pos (4 * n)) % 4) 0 (omega (arith, h))

    quotient : 4 * n / 4 ≡ n
    quotient = omega arith

    step : word_text (pos (4 * n)) ≡ decimal n
    step = rw (word_text, whole, quotient) refl

abbrev spelt : List ℕ → List ℕ → List ℕ → List ℕ
spelt x y z = codes "[" ++ ((codes "alias" ++ codes ": ") ++ (x ++ (codes ", " ++ (y ++ (codes ", " ++ (z ++ codes "]"))))))

three_printed : (x y z : List ℕ) → spelt x y z ≡ codes "[alias: " ++ items (x ∷ y ∷ z ∷ []) ++ codes "]"
three_printed x y z = simp append_assoc refl

printed_for : (a : Alias) (x y z : List ℕ) → word_text (pos (4 * a.store)) ≡ x → word_text (pos (4 * a.soup)) ≡ y → word_text (pos (4 * a.uid)) ≡ z
    → literal (alias_graph a) ≡ codes "[alias: " ++ items (x ∷ y ∷ z ∷ []) ++ codes "]"
unfolding alias_nodes
printed_for a x y z h k l =
    ap (λ (t : List ℕ). spelt t (word_text (pos (4 * a.soup))) (word_text (pos (4 * a.uid)))) h ∙ ap (λ (t : List ℕ). spelt x t (word_text (pos (4 * a.uid)))) k ∙ ap (spelt x y) l ∙ three_printed x y z

pub printed_is : (a : Alias) → Fits a → IsPrinted a (alias_graph a)
unfolding IsPrinted
printed_is a h = printed_for a (decimal_text a.store) (decimal_text a.soup) (decimal_text a.uid) (word_printed a.store h.store) (word_printed a.soup h.soup) (word_printed a.uid h.uid)
