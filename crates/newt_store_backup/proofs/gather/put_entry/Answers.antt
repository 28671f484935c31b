use Rattle.std.proofs.Common.{rules, refl}
use Rattle.newt_store_backup.proofs.Steps.{row-put, row-none}
use Rattle.newt_spec_store.specs.Store.{entry_at}
use Rattle.newt_entries.specs.declared.full.FullEntry.{FullEntry}
use Rattle.newt_store_backup.proofs.gather.put_entry.Goals as goal

pub returns-in_ok-push-in-Ok-Some-clause-put : goal.returns-in_ok-push-in-Ok-Some-clause-put
returns-in_ok-push-in-Ok-Some-clause-put g c = λ tells s shows.
    let e : FullEntry = record { soup = c.args.soup; uid = c.in-Ok-Some.entry.uid; time = c.in-Ok-Some.entry.time; graph = c.in-Ok-Some.entry.graph } in
    let found = rw c.in-Ok-Some.field-0-is at (c.in-Ok-Some.ensures.entry tells s shows) in
    row-put c.args.entries.now.items c.push.new.self.items e c.args.soup (entry_at c.args.soup c.args.uid s) (search rules) refl found

pub returns-in-Ok-None-clause-put : goal.returns-in-Ok-None-clause-put
returns-in-Ok-None-clause-put g c = λ tells s shows.
    let found = rw c.in-Ok-None.field-0-is at (c.in-Ok-None.ensures.entry tells s shows) in
    row-none c.args.entries.now.items c.args.soup (entry_at c.args.soup c.args.uid s) found
