use Rattle.newt_lit_read.proofs.Whole as whole
use Rattle.newt_lit_read.proofs.laws.refuses_the_rest.Goals as goal

pub returns-clause-refused : goal.returns-clause-refused
returns-clause-refused c = whole.so_refuses

pub returns-clause-nothing : goal.returns-clause-nothing
returns-clause-nothing c = whole.refuses_so
