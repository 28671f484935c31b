use Rattle.std.proofs.Common.{◌≡◌, ℕ, IfOk, sym, subst}
use Rattle.newt_spec_store.specs.Image.{entry_bytes}
use Rattle.newt_spec_store.specs.Store.{Entry}
use Rattle.newt_store.proofs.plan.record_of.Goals as goal

pub returns : goal.returns
returns c =
    let x : Entry = record { uid = c.args.uid; time = c.args.now; graph = c.args.graph.now } in
    let head = c.in_ok-row.ensures.head in
    subst (λ (n : ℕ). IfOk c.write_entry.result (λ bytes. bytes.items ≡ entry_bytes n x c.args.ids.now)) head.0 (c.write_entry.ensures.of_entry x c.args.ids.now (sym head.1) (sym head.2) c.in_ok-row.ensures.rows)
