-- What every call that reads the units promises. All of it is this project's own.
use Rattle.std.specs.Prelude.{◌≡◌, ℕ, Bool, false, List, Option, Result, IfErr, OnOk}
use Rattle.newt_host.specs.Outside.{Outside, NoFault}
use Rattle.newt_pagebook.specs.Stops.{HasStopCause}
use Rattle.newt_pagebook.specs.declared.book.Stop.{Stop}
use Rattle.newt_spec_store.specs.Store.{Store}
use Rattle.newt_engine_card.specs.Bounds.{FetchesAtMost}
use Rattle.newt_engine_units.specs.Breaks.{AtStop, FailsAlone}
use Rattle.newt_engine_units.specs.Calls.{AreRead}
use Rattle.newt_engine_units.specs.declared.units.Units.{Units}

module _ {C : Type 0} (reads : List ℕ → Option Store) (place : C → ℕ) (standing : Bool → C → Outside → Type 0) where
  -- The units stand for the world that they stood for, and nothing has happened outside but reading; an end of the run has its cause, and a device that failed
  -- is the only one; where there is an answer, no fault was counted; and nothing is fetched unless words or texts are asked for.
  pub record IsReading {T : Type 0} (asks told : Bool) (old new : Units C) (before after : Outside) (result : Result T Stop) : Type 0 where
    pub read : AreRead reads place standing told old new before after
    pub cause : IfErr result (λ stop. HasStopCause stop before after)
    pub failed : IfErr result (AtStop (FailsAlone before after))
    pub no_fault : OnOk result (NoFault before after)
    pub unread : asks ≡ false → FetchesAtMost (λ u. 0) before after
