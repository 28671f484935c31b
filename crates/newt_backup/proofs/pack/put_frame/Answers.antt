use Rattle.std.proofs.Common.{rules, ◌≡◌, ◌∙◌, ap, [], ◌∷◌, ◌++◌}
use Rattle.std.specs.Prelude.{codes}
use Rattle.newt_graph.specs.declared.node.Node.TheVariants.{Symbol, Frame}
use Rattle.newt_graph.specs.declared.node.Ref.TheVariants.{Node as At}
use Rattle.newt_backup.proofs.Packing.{three-put}
use Rattle.newt_backup.proofs.pack.put_frame.Goals as goal

pub returns : goal.returns
returns c =
    let old = c.args.nodes.now.items in
    let first = c.push.new.self.items in
    let second = c.push-2.new.self.items in
    let new = c.push-3.new.self.items in
    let a : c.in_ok-frame.field-0 ≡ Frame (1 ∷ 2 ∷ []) (At 3 ∷ At c.args.entries_at ∷ []) = search rules in
    let b : c.in_ok-symbol.field-0 ≡ Symbol (codes "directory") = search rules in
    let d : c.in_ok-symbol-2.field-0 ≡ Symbol (codes "entries") = search rules in
    let put : first ≡ old ++ c.in_ok-frame.field-0 ∷ [] = search rules in
    let put-2 : second ≡ first ++ c.in_ok-symbol.field-0 ∷ [] = search rules in
    let put-3 : new ≡ second ++ c.in_ok-symbol-2.field-0 ∷ [] = search rules in
    three-put new second first old (Frame (1 ∷ 2 ∷ []) (At 3 ∷ At c.args.entries_at ∷ []))
    (Symbol (codes "directory")) (Symbol (codes "entries")) (put ∙ ap (λ n. old ++ n ∷ []) a) (put-2 ∙ ap (λ n. first ++ n ∷ []) b) (put-3 ∙ ap (λ n. second ++ n ∷ []) d)
