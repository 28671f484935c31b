use Rattle.newt_spec_literal.proofs.Literal.{text_reads}
use Rattle.newt_lit_print.proofs.laws.printed_reads.Goals as goal

pub returns : goal.returns
returns c = text_reads
