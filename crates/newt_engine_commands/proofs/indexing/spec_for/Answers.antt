-- The tests of the parts, in order.
use Rattle.std.proofs.Common.{sym, ◌∙◌, [], ◌∷◌}
use Rattle.newt_base.specs.declared.Refusal.TheVariants.{Index as BadIndex, Key as BadKey}
use Rattle.newt_laws_answers.proofs.Firsts.{first-true, first-false}
use Rattle.newt_engine_commands.specs.Declares.{has_real}
use Rattle.newt_engine_commands.proofs.indexing.spec_for.Goals as goal

pub returns-then-has_index_of-clause-may : goal.returns-then-has_index_of-clause-may
returns-then-has_index_of-clause-may g c outside eight stand blocks s p on by =
    first-true BadIndex _ ((BadKey, has_real c.args.parts.now) ∷ []) (sym (c.has_index_of.ensures outside eight stand blocks s p on by) ∙ c.if-has_index_of.true)

pub returns-then-has_real-clause-may : goal.returns-then-has_real-clause-may
returns-then-has_real-clause-may g c outside eight stand blocks s p on by =
    first-false BadIndex _ ((BadKey, has_real c.args.parts.now) ∷ []) (sym (c.has_index_of.ensures outside eight stand blocks s p on by) ∙ c.if-has_index_of.false)
    ∙ first-true BadKey _ [] (sym c.has_real.ensures ∙ c.if-has_real.true)

pub returns-clause-may : goal.returns-clause-may
returns-clause-may g c outside eight stand blocks s p on by =
    (sym (c.has_index_of.ensures outside eight stand blocks s p on by) ∙ c.if-has_index_of.false, sym c.has_real.ensures ∙ c.if-has_real.false)
