use Rattle.std.proofs.Common.{List, ℕ, Option, Err, refl, sym, subst, ap}
use Rattle.std.specs.FinMap as map
use Rattle.newt_spec_image.specs.Records.{and_then}
use Rattle.newt_spec_image.specs.Pages.{pages_after}
use Rattle.newt_journal.specs.Calls.{IsOpening}
use Rattle.newt_journal.specs.declared.fault.JournalFault.{JournalFault}
use Rattle.newt_journal.specs.declared.journal.Journal.{Journal}
use Rattle.newt_pagelog.proofs.Failing.{not-err, device-not-store, store-not-device}
use Rattle.newt_pagelog.proofs.Placing.{opened-looks}
use Rattle.newt_pagelog.proofs.opening.open_journal.Goals as goal

pub returns-in-Ok : goal.returns-in-Ok
returns-in-Ok g c = record {
  journal = c.in-Ok.ensures.journal;
  not_store = λ bad. absurd (not-err bad);
  no_other = λ bad. absurd (not-err bad);
  reads = record {
    looks = opened-looks c.open.ensures.looks;
    cause = λ bad. absurd (not-err bad);
    no_fault = λ opened. c.in-Ok.ensures.looks.no_fault opened;
  };
}

pub returns-in-Err-NotStore : goal.returns-in-Err-NotStore
returns-in-Err-NotStore g c = record {
  journal = tt;
  not_store = λ bad tells. ap (λ (r : Option (List (List ℕ))). and_then r (λ ps. pages_after ps map.empty)) (c.in-Err-NotStore.ensures.not_store (ap Err c.in-Err-NotStore.field-0-is) tells);
  no_other = λ bad. absurd (cc);
  reads = record {
    looks = opened-looks c.open.ensures.looks;
    cause = λ bad. absurd (store-not-device _ refl bad);
    no_fault = λ opened. c.in-Err-NotStore.ensures.looks.no_fault
        (subst (λ (f : JournalFault). IsOpening {T = Journal} (Err f)) (sym c.in-Err-NotStore.field-0-is) tt);
  };
}

pub returns-in-Err-Device : goal.returns-in-Err-Device
returns-in-Err-Device g c = record {
  journal = tt;
  not_store = λ bad tells. absurd (device-not-store _ refl bad);
  no_other = λ bad. absurd (cc);
  reads = record {
    looks = opened-looks c.open.ensures.looks;
    cause = λ bad. c.in-Err-Device.ensures.looks.cause (ap Err c.in-Err-Device.field-0-is);
    no_fault = λ opened. absurd opened;
  };
}
