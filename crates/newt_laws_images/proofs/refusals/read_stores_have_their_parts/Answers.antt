use Rattle.newt_laws_images.proofs.Refused.{has-directory, has-record, has-names}
use Rattle.newt_laws_images.proofs.refusals.read_stores_have_their_parts.Goals as goal

pub returns-clause-directory : goal.returns-clause-directory
returns-clause-directory c = has-directory

pub returns-clause-record : goal.returns-clause-record
returns-clause-record c = has-record

pub returns-clause-large : goal.returns-clause-large
returns-clause-large c = has-names
