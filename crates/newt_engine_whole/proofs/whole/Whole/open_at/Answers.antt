-- A copy is put at the least free number.
use Rattle.std.proofs.Common.{ap, refl, Err}
use Rattle.newt_spec_world.specs.Reply.{Reply}
use Rattle.newt_work.specs.Work.{opened}
use Rattle.newt_engine_whole.proofs.Opened.{puts-at, puts-nowhere}
use Rattle.newt_engine_whole.proofs.whole.Whole.open_at.Goals as goal

pub returns-in-Ok-clause-put : goal.returns-in-Ok-clause-put
returns-in-Ok-clause-put g c = puts-at c.args.self.now.works _ (opened c.args.store c.args.soup c.args.uid c.args.time c.args.graph) _ c.in-Ok.number c.in-Ok.ensures.number c.in-Ok.ensures.ok (ap Reply.number c.from.ensures)

pub returns-in-Err-Limit-clause-put : goal.returns-in-Err-Limit-clause-put
returns-in-Err-Limit-clause-put g c =
    let h = c.in-Err-Limit in
    puts-nowhere c.args.self.now.works _ (opened c.args.store c.args.soup c.args.uid c.args.time c.args.graph) _ (h.ensures.limit.0 (ap Err h.field-0-is)) h.ensures.err refl
