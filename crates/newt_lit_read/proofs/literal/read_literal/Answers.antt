use Rattle.newt_lit_read.proofs.Whole as whole
use Rattle.newt_lit_read.proofs.literal.read_literal.Goals as goal

pub returns-clause-found : goal.returns-clause-found
returns-clause-found c = whole.found _ c.read.result (rw (c.deref.ensures.value, c.in_ok-characters.ensures) at c.read.ensures)

pub returns-clause-literal : goal.returns-clause-literal
returns-clause-literal c = whole.literal _ c.read.result (rw (c.deref.ensures.value, c.in_ok-characters.ensures) at c.read.ensures)

pub returns-clause-reading : goal.returns-clause-reading
returns-clause-reading c = whole.reading _ c.read.result (rw (c.deref.ensures.value, c.in_ok-characters.ensures) at c.read.ensures)
