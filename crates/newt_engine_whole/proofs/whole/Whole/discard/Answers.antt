-- A copy that is there is discarded.
use Rattle.std.proofs.Common.{refl, sym, ◌∙◌}
use Rattle.newt_work.specs.Work.{Copy}
use Rattle.newt_engine_whole.proofs.Drafted.{discarded-there, none-discarded, none-mapped}
use Rattle.newt_engine_whole.proofs.whole.Whole.discard.Goals as goal

pub returns-then-is_none : goal.returns-then-is_none
returns-then-is_none g c = none-discarded c.args.number refl (sym c.at.ensures ∙ none-mapped {Y = Copy} (λ k. k.now) c.at.result c.if-is_none.ensures)

pub returns : goal.returns
returns g c = discarded-there c.args.number (λ k. k.now) c.at.result (sym c.at.ensures) c.if-is_none.ensures refl refl c.discard.ensures
