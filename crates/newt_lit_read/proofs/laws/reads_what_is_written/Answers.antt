use Rattle.newt_lit_read.proofs.Whole as whole
use Rattle.newt_lit_read.proofs.laws.reads_what_is_written.Goals as goal

pub returns-clause-read : goal.returns-clause-read
returns-clause-read c = whole.so_reads

pub returns-clause-written : goal.returns-clause-written
returns-clause-written c = whole.reads_so
