-- Nothing has happened to any device.
use Rattle.std.proofs.Common.{ap, Err}
use Rattle.newt_engine_units.proofs.Broken.{fails-alone}
use Rattle.newt_engine_units.proofs.Marked.{free-card}
use Rattle.newt_engine_units.proofs.Calls.{blames-none, on-devices, read-still}
use Rattle.newt_engine_units.proofs.units.Units.open.Goals as goal

pub returns-in-Ok-clause-looks : goal.returns-in-Ok-clause-looks
returns-in-Ok-clause-looks g c = read-still g.C.Card.reads g.met.C.Card.kept g.met.C.Card.durable c.open.ensures.looks c.requires.stands

pub returns-in-Err-NotStore-clause-looks : goal.returns-in-Err-NotStore-clause-looks
returns-in-Err-NotStore-clause-looks g c = read-still g.C.Card.reads g.met.C.Card.kept g.met.C.Card.durable c.open.ensures.looks c.requires.stands

pub returns-in-Err-Memory-clause-looks : goal.returns-in-Err-Memory-clause-looks
returns-in-Err-Memory-clause-looks g c = read-still g.C.Card.reads g.met.C.Card.kept g.met.C.Card.durable c.open.ensures.looks c.requires.stands

pub returns-in-Err-Device-clause-looks : goal.returns-in-Err-Device-clause-looks
returns-in-Err-Device-clause-looks g c = read-still g.C.Card.reads g.met.C.Card.kept g.met.C.Card.durable c.open.ensures.looks c.requires.stands

pub returns-in-Ok-clause-ends : goal.returns-in-Ok-clause-ends
returns-in-Ok-clause-ends g c = record { alone = on-devices c.open.ensures.looks.alone; cause = tt; failed = tt; no_fault = λ goes. c.in-Ok.ensures.no_fault tt }

pub returns-in-Err-NotStore-clause-ends : goal.returns-in-Err-NotStore-clause-ends
returns-in-Err-NotStore-clause-ends g c = record { alone = on-devices c.open.ensures.looks.alone; cause = tt; failed = tt; no_fault = λ goes. c.in-Err-NotStore.ensures.no_fault (blames-none g.row.C.Denot _ c.in-Err-NotStore.field-0-is tt) }

pub returns-in-Err-Memory-clause-ends : goal.returns-in-Err-Memory-clause-ends
returns-in-Err-Memory-clause-ends g c = record { alone = on-devices c.open.ensures.looks.alone; cause = c.in-Err-Memory.ensures.no_fault (blames-none g.row.C.Denot _ c.in-Err-Memory.field-0-is tt); failed = tt; no_fault = λ goes. absurd goes }

pub returns-in-Err-Device-clause-ends : goal.returns-in-Err-Device-clause-ends
returns-in-Err-Device-clause-ends g c = record { alone = on-devices c.open.ensures.looks.alone; cause = c.in-Err-Device.ensures.cause (ap Err c.in-Err-Device.field-0-is); failed = fails-alone (free-card c.requires.stands c.requires.free) c.open.ensures.looks.alone; no_fault = λ goes. absurd goes }

pub open-requires-clause-at_rest : goal.open-requires-clause-at_rest
open-requires-clause-at_rest g c t = c.requires.stands.durable t c.args.unit (free-card c.requires.stands c.requires.free) c.requires.sure
