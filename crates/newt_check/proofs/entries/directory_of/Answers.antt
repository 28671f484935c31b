use Rattle.std.proofs.Common.{arith}
use Rattle.newt_store_catalog.proofs.Opening.{are-bytes, either-version}
use Rattle.newt_check.proofs.entries.directory_of.Goals as goal

pub read_directory-requires : goal.read_directory-requires
read_directory-requires c = either-version c.args.version c.requires

pub returns-in-Ok-clause-are_bytes : goal.returns-in-Ok-clause-are_bytes
returns-in-Ok-clause-are_bytes c = are-bytes c.args.bytes.now (λ k. omega (arith, c.type_inv.bytes k))

pub returns-in-Err-Bad-clause-are_bytes : goal.returns-in-Err-Bad-clause-are_bytes
returns-in-Err-Bad-clause-are_bytes c = are-bytes c.args.bytes.now (λ k. omega (arith, c.type_inv.bytes k))

pub returns-in-Err-Memory-clause-are_bytes : goal.returns-in-Err-Memory-clause-are_bytes
returns-in-Err-Memory-clause-are_bytes c = are-bytes c.args.bytes.now (λ k. omega (arith, c.type_inv.bytes k))
