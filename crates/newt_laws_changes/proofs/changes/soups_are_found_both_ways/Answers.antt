use Rattle.newt_laws_images.proofs.Chosen.{found_by_name, found_by_signature}
use Rattle.newt_laws_changes.proofs.Members.{entry_is_in, is_in_found}
use Rattle.newt_laws_changes.proofs.Moved.{soup_after_add}
use Rattle.newt_laws_changes.proofs.changes.soups_are_found_both_ways.Goals as goal

pub returns-clause-by_name : goal.returns-clause-by_name
returns-clause-by_name c = found_by_name

pub returns-clause-by_signature : goal.returns-clause-by_signature
returns-clause-by_signature c = found_by_signature

pub returns-clause-is_in : goal.returns-clause-is_in
returns-clause-is_in c = entry_is_in

pub returns-clause-found : goal.returns-clause-found
returns-clause-found c = is_in_found

pub returns-clause-after_add : goal.returns-clause-after_add
returns-clause-after_add c sig to now g s p q w found target = soup_after_add sig to s p q now g w found target
