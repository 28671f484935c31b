use Rattle.std.proofs.Common.{◌≡◌, true, IfOk, sym, subst}
use Rattle.newt_laws_changes.proofs.Fresh.{fresh_formed}
use Rattle.newt_spec_store.specs.Cost.{directory_bytes}
use Rattle.newt_spec_store.specs.Store.{Store}
use Rattle.newt_spec_store.specs.Valid.{well_formed}
use Rattle.newt_store.proofs.format.new_bytes.Goals as goal

pub write_directory-requires : goal.write_directory-requires
write_directory-requires c = subst (λ (s : Store). well_formed s ≡ true) (sym c.in_ok-directory.ensures.made) (fresh_formed c.args.name.now c.args.sig c.new_directory.ensures.named c.requires.few)

pub returns-clause-made : goal.returns-clause-made
returns-clause-made c = subst (λ (s : Store). IfOk c.write_directory.result (λ bytes. bytes.items ≡ directory_bytes s)) c.in_ok-directory.ensures.made c.write_directory.ensures
