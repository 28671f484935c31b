use Rattle.std.proofs.Common.{rules, ◌≡◌, ◌-◌, ◌++◌, List, refl, subst}
use Rattle.std.specs.List.{sum_by}
use Rattle.newt_graph.specs.declared.node.Node.{Node}
use Rattle.newt_graph.specs.Graph.{payload}
use Rattle.newt_graph.specs.Import.{looked_up}
use Rattle.newt_graph.specs.Names.{number_of, Knows}
use Rattle.newt_graph.proofs.Imports.{after_kept, left_is}
use Rattle.newt_graph.proofs.Known.{knows_fewer}
use Rattle.newt_graph.proofs.builder.Builder.import.Goals as goal

pub note_all-requires-clause-once : goal.note_all-requires-clause-once
note_all-requires-clause-once c =
    let nodes = c.self.inside.nodes.items in
    let added = c.in_ok-added.added.items in
    let l = left_is (sum_by payload added) (33554432 - c.self.inside.total) c.in-Some.left (search rules) in
    rw (c.deref-5.ensures.value, c.deref-6.ensures.value) ((after_kept nodes c.args.graph.now (looked_up c.in_ok-table.table.items) added (nodes ++ added) c.self.inside.total c.in-Some.left
    (search rules) (search rules) refl (search rules) l.0 l.1 c.self.invariant.draft).0.folded_once)

pub invariant_of-self-in_err-append : goal.invariant_of-self-in_err-append
invariant_of-self-in_err-append c =
    let nodes = c.self.inside.nodes.items in
    let added = c.in_ok-added.added.items in
    let parts : c.deref-5.result.now ++ c.deref-6.result.now ≡ nodes ++ added = cc (c.deref-5.ensures.value, c.deref-6.ensures.value) in
    let known = subst (λ (ns : List Node). Knows c.note_all.new.self.numbers ns) parts c.in_ok-note_all.ensures.known in
    rw c.in_err-append.ensures.items (record { draft = c.self.invariant.draft; knows = knows_fewer (number_of c.note_all.new.self.numbers) nodes added known })

pub invariant_of-self-2 : goal.invariant_of-self-2
invariant_of-self-2 c =
    let nodes = c.self.inside.nodes.items in
    let added = c.in_ok-added.added.items in
    let l = left_is (sum_by payload added) (33554432 - c.self.inside.total) c.in-Some.left (search rules) in
    let parts : c.deref-5.result.now ++ c.deref-6.result.now ≡ c.append.new.self.items = cc (c.deref-5.ensures.value, c.deref-6.ensures.value, c.in_ok-append.ensures.items) in
    record {
      draft = after_kept nodes c.args.graph.now (looked_up c.in_ok-table.table.items) added c.append.new.self.items c.self.inside.total c.in-Some.left (search rules) (search rules) (search rules) (search rules) l.0 l.1 c.self.invariant.draft;
      knows = subst (λ (ns : List Node). Knows c.note_all.new.self.numbers ns) parts c.in_ok-note_all.ensures.known;
    }
