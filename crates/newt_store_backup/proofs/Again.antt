-- The store of which a stream is the backup.
use Rattle.std.proofs.Common.{◌≡◌, refl, sym, ◌∙◌, ap, subst, ℕ, List, Option, Result, Ok, Err}
use Rattle.newt_base.specs.declared.Refusal.{Refusal}
use Rattle.newt_graph.specs.Graph.{RawGraph}
use Rattle.newt_spec_nsof.specs.Written.{nsof}
use Rattle.newt_nsof_read.specs.Reading.{decoded}
use Rattle.newt_nsof_read.specs.declared.fault.NsofFault.{NsofFault}
use Rattle.newt_nsof_read.proofs.Decoded.{written_is_read_again}
use Rattle.newt_spec_store.specs.Store.{Store}
use Rattle.newt_backup.specs.Backup.{IsKept, backup}
use Rattle.newt_backup.proofs.Kept.{backup-graph}
use Rattle.newt_store_backup.specs.Restored.{IsAsked, IsRestored, restored}
use Rattle.newt_store_backup.proofs.Outcomes.{one-outcome}

-- the text of a store's backup asks for it
pub asks-again : (s : Store) → IsKept s → IsAsked (decoded (nsof (backup s))) (Ok s)
asks-again s kept =
    subst (λ (read : Result RawGraph NsofFault). IsAsked read (Ok s)) (sym (written_is_read_again (backup s) (backup-graph s kept))) (kept, refl)

-- so it is restored, or refused for its device
pub is-again : (s : Store) → IsKept s → (device : Option (List ℕ)) → IsRestored (nsof (backup s)) device (restored (Ok s) device)
is-again s kept device = record { asked = Ok s; is_asked = asks-again s kept; is = refl }

-- and nothing else
pub one-again : (s : Store) → IsKept s → (device : Option (List ℕ)) (outcome : Result Store Refusal) → IsRestored (nsof (backup s)) device outcome → outcome ≡ restored (Ok s) device
one-again s kept device outcome is = one-outcome (nsof (backup s)) device (restored (Ok s) device) outcome (is-again s kept device) is
