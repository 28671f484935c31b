-- The words in which it is told what was done to a store. This project's own.
use Rattle.newt_spec_world.specs.Reply.{Reply}
use Rattle.newt_engine_units.specs.declared.effects.Effect.{Effect}
use Rattle.newt_engine.specs.declared.replies.Words.{Words}
use Rattle.newt_engine.specs.declared.replies.Words.TheVariants.{Done, Number, Added}

-- the effect of a change in these words
abbrev pub in_words : Words → Effect → Reply
in_words Done e = Reply.done
in_words Number e = Reply.number e.answer
in_words Added e = Reply.added e.unit e.answer
