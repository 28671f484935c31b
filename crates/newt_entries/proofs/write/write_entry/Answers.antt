use Rattle.std.proofs.Common.{◌∙◌, ◌++◌, ap}
use Rattle.std.specs.List.{flat_map}
use Rattle.newt_entries.specs.Entry.{large_bytes}
use Rattle.newt_entries.proofs.Written.{is-record}
use Rattle.newt_entries.proofs.write.write_entry.Goals as goal

pub returns-clause-bytes : goal.returns-clause-bytes
returns-clause-bytes c =
    c.in_ok-put_larges.ensures ∙ (λ i. c.in_ok-out.ensures i ++ flat_map large_bytes (c.list.ensures i))

pub returns-clause-of_entry : goal.returns-clause-of_entry
returns-clause-of_entry c = λ e ids of_uid of_time are.
    c.in_ok-put_larges.ensures ∙ ap (λ ls. c.in_ok-out.out.items ++ flat_map large_bytes ls) c.list.ensures
    ∙ is-record c.in_ok-out.out.items c.args.row.now.soup c.args.row.now.uid c.args.row.now.time c.args.row.now.skeleton c.args.row.now.larges e ids of_uid of_time are c.in_ok-out.ensures
