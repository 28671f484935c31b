use Rattle.std.proofs.Common.{arith}
use Rattle.newt_store_catalog.proofs.Opening.{are-bytes}
use Rattle.newt_check.proofs.entries.record_of.Goals as goal

pub returns-in-Ok-clause-are_bytes : goal.returns-in-Ok-clause-are_bytes
returns-in-Ok-clause-are_bytes c = are-bytes c.args.bytes.now (λ k. omega (arith, c.type_inv.bytes k))

pub returns-in-Err-Bad-clause-are_bytes : goal.returns-in-Err-Bad-clause-are_bytes
returns-in-Err-Bad-clause-are_bytes c = are-bytes c.args.bytes.now (λ k. omega (arith, c.type_inv.bytes k))

pub returns-in-Err-Memory-clause-are_bytes : goal.returns-in-Err-Memory-clause-are_bytes
returns-in-Err-Memory-clause-are_bytes c = are-bytes c.args.bytes.now (λ k. omega (arith, c.type_inv.bytes k))
