use Rattle.std.proofs.Common.{Result, refl, sym, subst}
use Rattle.newt_host.specs.Moments.{image}
use Rattle.newt_host.proofs.Outside.{Touches-no_fault}
use Rattle.newt_journal.specs.Calls.{IsOpening}
use Rattle.newt_journal.specs.declared.fault.JournalFault.{JournalFault}
use Rattle.newt_journal.specs.declared.journal.Journal.{Journal}
use Rattle.newt_pagelog.proofs.Placing.{opened-looks}
use Rattle.newt_pagebook.specs.Stops.{StopsAt}
use Rattle.newt_store_catalog.proofs.Opening.{the-fault}
use Rattle.newt_check.proofs.Voted.{banks, some-records}
use Rattle.newt_check.proofs.bank.report_of_payloads.Goals as goal

pub lies-requires : goal.lies-requires
lies-requires g c = λ tells.
    let o = g.H.Host.outside c.args.host.now in
    let has = banks (image c.args.unit o.now) (o.blocks c.args.unit) (g.met.H.Host.sized c.args.host.now c.args.unit tells) c.requires.may_hold.enough c.requires.may_hold.few in
    some-records (image c.args.unit o.now) has (c.requires.unformed tells).whole (c.open.ensures.not_store (the-fault c.in-Err-NotStore.is c.in-Err-NotStore.field-0-is) tells)

pub returns-in-Err-NotStore-clause-looks : goal.returns-in-Err-NotStore-clause-looks
returns-in-Err-NotStore-clause-looks g c = opened-looks c.open.ensures.looks

pub returns-in-Err-NotStore-clause-ends : goal.returns-in-Err-NotStore-clause-ends
returns-in-Err-NotStore-clause-ends g c = record { cause = subst (StopsAt c.args.unit (g.H.Host.outside c.args.host.now) (g.H.Host.outside c.open.new.host)) (sym c.lies.ensures) (Touches-no_fault c.open.ensures.looks.alone (c.open.ensures.looks.no_fault (subst (λ (r : Result Journal JournalFault). IsOpening r) (sym (the-fault c.in-Err-NotStore.is c.in-Err-NotStore.field-0-is)) tt))); no_fault = tt }

pub returns-in-Err-Device-clause-looks : goal.returns-in-Err-Device-clause-looks
returns-in-Err-Device-clause-looks g c = opened-looks c.open.ensures.looks

pub returns-in-Err-Device-clause-ends : goal.returns-in-Err-Device-clause-ends
returns-in-Err-Device-clause-ends g c = record { cause = (refl, c.open.ensures.looks.cause (the-fault c.in-Err-Device.is c.in-Err-Device.field-0-is)); no_fault = tt }
