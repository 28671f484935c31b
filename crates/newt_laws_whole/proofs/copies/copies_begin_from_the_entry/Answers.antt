use Rattle.newt_laws_whole.proofs.Drafts.{begun-open, begun-save, begun-revert}
use Rattle.newt_laws_whole.proofs.copies.copies_begin_from_the_entry.Goals as goal

pub returns-clause-opened : goal.returns-clause-opened
returns-clause-opened c = begun-open

pub returns-clause-saved : goal.returns-clause-saved
returns-clause-saved c = begun-save

pub returns-clause-reverted : goal.returns-clause-reverted
returns-clause-reverted c = begun-revert
