use Rattle.std.proofs.Common.{rules, arith, ◌≡◌, ◌∷◌, [], ◌++◌, ◌+◌, length, None, refl, ap, ◌∙◌}
use Rattle.std.proofs.lemmas.List.{length_push}
use Rattle.newt_graph.specs.declared.node.Node.{Node}
use Rattle.newt_graph.specs.declared.node.Node.TheVariants.{Symbol}
use Rattle.newt_graph.specs.Draft.{find_alike}
use Rattle.newt_graph.specs.Names.{Knows, number_of}
use Rattle.newt_graph.proofs.Drafts.{none_alike}
use Rattle.newt_graph.proofs.Known.{knows_noted, symbol_known}
use Rattle.newt_nsof_read.specs.Met.{Met}
use Rattle.newt_nsof_read.proofs.Once.{if_of, once_symbol}
use Rattle.newt_nsof_read.proofs.met.Seen.add_symbol.Goals as goal
use Rattle.newt_nsof_read.proofs.met.Seen.add_symbol.Goals.{in-Some+in_ok-key+in_ok-note, in_default}

pub invariant_of-self-in_err-push : goal.invariant_of-self-in_err-push
invariant_of-self-in_err-push c = elim c.match-self.branch [
  | in-Some+in_ok-key+in_ok-note w ↦
      let nodes = c.self.inside.nodes.items in
      let name = c.args.name.now in
      let none : find_alike name nodes ≡ None = ap (λ (m : Met). find_alike name m.nodes) c.self.view_is ∙ c.requires in
      let knows = if_of (λ n. Knows n.numbers nodes) c.self.inside.names w.in-Some.names w.in-Some.is c.self.invariant.knows in
      rw (c.in_err-push.ensures.items, w.self-inside-is) (record {
        few = c.self.invariant.few;
        once = c.self.invariant.once;
        knows = knows_noted (number_of w.in-Some.names.numbers) (number_of w.note.new.self.numbers) nodes name c.len-n.result knows (none_alike nodes name none) (w.in_ok-note.ensures.noted name w.in_ok-key.ensures);
      })
  | in_default w ↦ rw (c.in_err-push.ensures.items, w.self-inside-is) c.self.invariant
]

pub invariant_of-self-2 : goal.invariant_of-self-2
invariant_of-self-2 c = elim c.match-self.branch [
  | in-Some+in_ok-key+in_ok-note w ↦
      let nodes = c.self.inside.nodes.items in
      let name = c.args.name.now in
      let none : find_alike name nodes ≡ None = ap (λ (m : Met). find_alike name m.nodes) c.self.view_is ∙ c.requires in
      let knows = if_of (λ n. Knows n.numbers nodes) c.self.inside.names w.in-Some.names w.in-Some.is c.self.invariant.knows in
      let all : c.push.new.self.items ≡ nodes ++ Symbol name ∷ [] = c.in_ok-push.ensures.items ∙ rw (w.self-inside-is, c.of.ensures, c.in_ok-from_slice.ensures.items) refl in
      let len : length c.push.new.self.items ≡ length nodes + 1 = ap length all ∙ length_push nodes (Symbol name) in
      rw w.self-inside-is (record {
        few = omega (arith, c.if-n-ge-MOST_NODES.false, c.len-n.ensures, len);
        once = once_symbol nodes c.push.new.self.items name all none c.self.invariant.once;
        knows = symbol_known (number_of w.in-Some.names.numbers) (number_of w.note.new.self.numbers) nodes c.push.new.self.items name c.len-n.result (search rules) all knows none (w.in_ok-note.ensures.noted name w.in_ok-key.ensures);
      })
  | in_default w ↦
      let nodes = c.self.inside.nodes.items in
      let name = c.args.name.now in
      let none : find_alike name nodes ≡ None = ap (λ (m : Met). find_alike name m.nodes) c.self.view_is ∙ c.requires in
      let all : c.push.new.self.items ≡ nodes ++ Symbol name ∷ [] = c.in_ok-push.ensures.items ∙ rw (w.self-inside-is, c.of.ensures, c.in_ok-from_slice.ensures.items) refl in
      let len : length c.push.new.self.items ≡ length nodes + 1 = ap length all ∙ length_push nodes (Symbol name) in
      rw w.self-inside-is (record {
        few = omega (arith, c.if-n-ge-MOST_NODES.false, c.len-n.ensures, len);
        once = once_symbol nodes c.push.new.self.items name all none c.self.invariant.once;
        knows = rw w.in_default.is tt;
      })
]
