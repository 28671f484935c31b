use Rattle.newt_laws_images.proofs.Read.{directory-back}
use Rattle.newt_laws_images.proofs.Records.{record-back}
use Rattle.newt_laws_images.proofs.readings.records_are_read_back.Goals as goal

pub returns-clause-directory : goal.returns-clause-directory
returns-clause-directory c = directory-back

pub returns-clause-entry : goal.returns-clause-entry
returns-clause-entry c = record-back
