-- A watch that is there is taken away.
use Rattle.std.proofs.Common.{refl, sym, ◌∙◌}
use Rattle.newt_engine_whole.proofs.Noticed.{not-watched, unwatched}
use Rattle.newt_engine_whole.proofs.whole.Whole.unwatch.Goals as goal

pub returns-then-not-has : goal.returns-then-not-has
returns-then-not-has g c = not-watched c.args.number refl (sym c.has.ensures ∙ c.if-not-has.true)

pub returns : goal.returns
returns g c = unwatched c.args.number refl refl (sym c.has.ensures ∙ c.if-not-has.false) c.unwatch.ensures
