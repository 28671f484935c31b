use Rattle.std.proofs.Common.{◌≡◌, ◌++◌, ◌∷◌, [], rules, sym, ◌∙◌, ap, subst, ℕ, List, map, Vec, Global}
use Rattle.std.specs.Prelude.{All}
use Rattle.std.specs.Vec.Iter.{into_iter_items}
use Rattle.std.proofs.lemmas.List.Elements.{All-push}
use Rattle.newt_entries.specs.Filling.{put_node, put_in, HasBytes}
use Rattle.newt_entries.proofs.Steps.{put-more}
use Rattle.newt_entries.proofs.graphs.put_in.Goals as goal

abbrev items_of : List (Vec ℕ Global) → List (List ℕ)
items_of larges = map (λ bytes. bytes.items) larges

pub loop-node-preserved : goal.loop-node-preserved
loop-node-preserved c =
    let pushed : c.push.new.self.items ≡ c.loop-node.out.items ++ c.in_ok-put_node.field-0 ∷ [] = search rules in
    let bs : List (List ℕ) = items_of (into_iter_items c.loop-node.left) in
    record {
      value =
          put-more c.loop-node.out.items c.push.new.self.items c.args.nodes.now c.loop-node.node-index c.in_ok-put_node.field-0 c.node-item.result bs (items_of (into_iter_items c.put_node.new.left))
          (put_in c.args.nodes.now (items_of c.args.larges.items)) c.loop-node-test.true (ap (λ x. put_node x bs) (sym c.node-item.is) ∙ c.in_ok-put_node.ensures.value) pushed c.loop-node.invariant.value;
      counted = c.in_ok-put_node.ensures.counted;
      bytes = subst (All HasBytes) (sym pushed) (All-push HasBytes c.loop-node.out.items c.in_ok-put_node.field-0 c.loop-node.invariant.bytes c.in_ok-put_node.ensures.bytes);
    }
