-- what is left is text, and has the word where the whole text has it
use Rattle.std.proofs.Common.{◌≡◌, length, chars}
use Rattle.std.specs.List.{list_any}
use Rattle.std.specs.Str.{IsUtf8}
use Rattle.newt_base.specs.Words.{has_word, word_at, places}
use Rattle.newt_fold.proofs.has_word.Given as goal

abbrev pub invariant-loop-first : goal.invariant-loop-first
invariant-loop-first l =
    IsUtf8 l.rest
    × (has_word (chars l.folded_text) (chars l.folded_word) l.entire ≡ list_any (word_at (chars l.folded_word) l.entire) (places l.before (chars l.rest)))

abbrev pub decreases-loop-first : goal.decreases-loop-first
decreases-loop-first l = length (chars l.rest)
