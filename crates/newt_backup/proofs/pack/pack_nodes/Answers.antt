use Rattle.std.proofs.Common.{rules, ◌≡◌, ◌+◌, ◌-◌, length, map}
use Rattle.newt_backup.specs.Backup.{entries_at}
use Rattle.newt_backup.specs.Contents.{text_of}
use Rattle.newt_backup.proofs.Packing.{at-same, cuts-room, all-put}
use Rattle.newt_backup.proofs.pack.pack_nodes.Goals as goal

pub numbers-requires-clause-few : goal.numbers-requires-clause-few
numbers-requires-clause-few c =
    let d = c.args.directory.now in
    let at : 6 + c.pieces_for.result ≡ entries_at d = at-same d (length d - c.min.result) c.pieces_for.result (search rules) (search rules) in
    cuts-room d (map text_of c.args.entries.now) (6 + c.pieces_for.result) c.requires.can at

pub put_cuts-requires-clause-few : goal.put_cuts-requires-clause-few
put_cuts-requires-clause-few c =
    let d = c.args.directory.now in
    let es = map text_of c.args.entries.now in
    let at : 6 + c.pieces_for.result ≡ entries_at d = at-same d (length d - c.min.result) c.pieces_for.result (search rules) (search rules) in
    let all = all-put c.push.new.self.items c.put_frame.new.nodes.items c.push.new.self.items c.put_first.new.nodes.items d es (6 + c.pieces_for.result) c.in_ok-values.values.items at
    (search rules) (search rules) (search rules) (search rules) in
    rw (all.0) (cuts-room d es (6 + c.pieces_for.result) c.requires.can at)

pub returns : goal.returns
returns c =
    let d = c.args.directory.now in
    let es = map text_of c.args.entries.now in
    let at : 6 + c.pieces_for.result ≡ entries_at d = at-same d (length d - c.min.result) c.pieces_for.result (search rules) (search rules) in
    let all = all-put c.put_cuts.new.nodes.items c.put_frame.new.nodes.items c.push.new.self.items c.put_first.new.nodes.items d es (6 + c.pieces_for.result) c.in_ok-values.values.items at
    (search rules) (search rules) (search rules) (search rules) in
    all.1 (search rules)
