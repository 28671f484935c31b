use Rattle.std.proofs.Common.{sym}
use Rattle.std.proofs.lemmas.Option.{slice_get_past}
use Rattle.newt_spec_literal.proofs.Spelled.{spelled_nothing}
use Rattle.newt_lit_print.proofs.values.Source.symbol.Goals as goal

pub returns-then-n-self : goal.returns-then-n-self
returns-then-n-self c = rw (slice_get_past c.args.self.now.nodes.now c.args.n c.if-n-self.true) (sym (spelled_nothing c.args.page.now))
