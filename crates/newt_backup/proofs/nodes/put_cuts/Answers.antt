use Rattle.std.proofs.Common.{rules, ◌≡◌, ◌-◌, ◌++◌, ◌∙◌, ap, subst, List, length, take, drop, map}
use Rattle.newt_entries.specs.declared.full.FullEntry.{FullEntry}
use Rattle.newt_entries.proofs.Steps.{all-rest}
use Rattle.newt_backup.specs.Backup.{cut, cuts}
use Rattle.newt_backup.specs.Contents.{text_of, IsSmall}
use Rattle.newt_backup.proofs.Steps.{opened, cut-step, room}
use Rattle.newt_backup.proofs.nodes.put_cuts.Goals as goal

pub put_cut-requires-clause-few : goal.put_cut-requires-clause-few
put_cut-requires-clause-few c =
    let left = c.loop-left.left.now in
    let x = c.entry-item.result in
    let nodes = c.loop-left.nodes.items in
    let old = c.args.nodes.now.items in
    let all = map text_of c.args.entries.now in
    let e = subst (λ (l : List FullEntry). nodes ++ cuts (length nodes) (map text_of l) ≡ old ++ cuts (length old) all) (opened x left c.in-len1-up.len_at_least c.entry-item.is) c.loop-left.invariant.put in
    let same : c.deref.result.now ≡ text_of x = search rules in
    rw same (room nodes old (text_of x) (map text_of (take (length left - 1) (drop 1 left))) all 65_535 e c.requires.few)

pub loop-left-preserved : goal.loop-left-preserved
loop-left-preserved c =
    let left = c.loop-left.left.now in
    let x = c.entry-item.result in
    let nodes = c.loop-left.nodes.items in
    let old = c.args.nodes.now.items in
    let all = map text_of c.args.entries.now in
    let e = subst (λ (l : List FullEntry). nodes ++ cuts (length nodes) (map text_of l) ≡ old ++ cuts (length old) all) (opened x left c.in-len1-up.len_at_least c.entry-item.is) c.loop-left.invariant.put in
    let same : c.deref.result.now ≡ text_of x = search rules in
    let put : c.put_cut.new.nodes.items ≡ nodes ++ cut (length nodes) c.deref.result.now = search rules in
    record {
      put = cut-step c.put_cut.new.nodes.items old nodes (text_of x) (map text_of (take (length left - 1) (drop 1 left))) all e (put ∙ ap (λ b. nodes ++ cut (length nodes) b) same);
      fit = all-rest IsSmall left c.in-len1-up.len_at_least c.loop-left.invariant.fit;
    }
