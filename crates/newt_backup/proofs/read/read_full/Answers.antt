use Rattle.std.proofs.Common.{rules, arith, ◌≡◌, ◌-◌, ◌≤◌, length, take, drop, Ok}
use Rattle.newt_entries.proofs.Steps.{rest-is}
use Rattle.newt_nsof_read.specs.Reading.{decoded}
use Rattle.newt_backup.proofs.Reading.{full-found, rest-bytes}
use Rattle.newt_backup.proofs.read.read_full.Goals as goal

pub returns-clause-found : goal.returns-clause-found
returns-clause-found c =
    let text = c.args.text.now in
    let slice = take (length text - 10) (drop 10 text) in
    let long : 10 ≤ length text = search (rules, arith) in
    let d : Ok c.in-Ok.graph ≡ decoded slice = grind (arith, c.in-Ok.ensures.reading) in
    full-found text slice c.in-Ok.graph c.from.result c.be32.result c.be32-2.result long (rest-is 10 text) (rest-bytes 10 text (λ i. omega (arith, c.type_inv.text i))) d (search rules) (search rules) (search rules)
