use Rattle.std.proofs.Common.{rules, refl, ◌-◌, length, take, drop}
use Rattle.newt_entries.proofs.Steps.{rest-is}
use Rattle.newt_backup.proofs.Packing.{first-put}
use Rattle.newt_backup.proofs.pack.put_first.Goals as goal

pub returns : goal.returns
returns c =
    let bytes = c.args.bytes.now in
    let size = c.min-size.result in
    first-put c.put_pieces.new.nodes.items c.args.nodes.now.items bytes (take (length bytes - size) (drop size bytes)) (take size bytes) size (search rules) (rest-is size bytes) refl (search rules)
