use Rattle.newt_keys.proofs.OrderLaws.{order_as_keys}
use Rattle.newt_keys.proofs.bytes.key_bytes.Goals as goal

pub returns-in_err-bytes-clause-law : goal.returns-in_err-bytes-clause-law
returns-in_err-bytes-clause-law c = order_as_keys c.args.spec.now

pub returns-in_err-put_parts-clause-law : goal.returns-in_err-put_parts-clause-law
returns-in_err-put_parts-clause-law c = order_as_keys c.args.spec.now

pub returns-clause-law : goal.returns-clause-law
returns-clause-law c = order_as_keys c.args.spec.now
