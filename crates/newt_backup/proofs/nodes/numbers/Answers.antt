use Rattle.std.proofs.Common.{rules, ◌≡◌, ◌-◌, ◌+◌, ◌≤◌, ◌++◌, [], ap, subst, List, length, take, drop, map}
use Rattle.newt_entries.specs.declared.full.FullEntry.{FullEntry}
use Rattle.newt_entries.proofs.Steps.{all-rest}
use Rattle.newt_graph.specs.declared.node.Ref.{Ref}
use Rattle.newt_backup.specs.Backup.{cuts, cuts_at}
use Rattle.newt_backup.specs.Contents.{text_of, IsSmall}
use Rattle.newt_backup.proofs.Steps.{opened, number-step, number-room}
use Rattle.newt_backup.proofs.nodes.numbers.Goals as goal

pub loop-left-preserved : goal.loop-left-preserved
loop-left-preserved c =
    let left = c.loop-left.left.now in
    let x = c.entry-item.result in
    let at = c.loop-left.next in
    let values = c.loop-left.values.items in
    let rest = map text_of (take (length left - 1) (drop 1 left)) in
    let all = map text_of c.args.entries.now in
    let o = opened x left c.in-len1-up.len_at_least c.entry-item.is in
    let none : List Ref = [] in
    let e = subst (λ (l : List FullEntry). values ++ cuts_at at (map text_of l) ≡ none ++ cuts_at c.args.at all) o c.loop-left.invariant.put in
    let few = subst (λ (l : List FullEntry). at + length (cuts at (map text_of l)) ≤ 65_535) o c.loop-left.invariant.few in
    let n = ap (λ m. at + (1 + m)) c.full_pieces.ensures in
    record {
      put = number-step c.push.new.self.items none values at c.args.at (at + (1 + c.full_pieces.result)) (text_of x) rest all e (search rules) n;
      few = number-room at (at + (1 + c.full_pieces.result)) (text_of x) rest few n;
      fit = all-rest IsSmall left c.in-len1-up.len_at_least c.loop-left.invariant.fit;
    }
