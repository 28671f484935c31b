-- What the rows on watches and working copies read, over the readers that stay closed.
use Rattle.std.proofs.Common.{◌≡◌, ℕ, List, codes, ◌∙◌}
use Rattle.newt_path.specs.Names.{path_of}
use Rattle.newt_spec_world.specs.declared.command.Command.TheVariants as command
use Rattle.newt_spec_script.specs.Words.{of1, word, name}
use Rattle.newt_spec_script.specs.Line.{most, watch, copy, with_literal}
use Rattle.newt_script.specs.Graphs.{literal_word}
use Rattle.newt_script_words.specs.Readers.{name_of, most_of, watch_of, copy_of, path_word, rest_of}
use Rattle.newt_script.specs.Rows.{reading, row_reading}
use Rattle.newt_script.specs.Verbs.{watch_word, watch_command, copy_word, copy_command}
use Rattle.newt_script.specs.declared.verbs.WatchVerb.{WatchVerb}
use Rattle.newt_script.specs.declared.verbs.WatchVerb.TheVariants as watch_verb
use Rattle.newt_script.specs.declared.verbs.CopyVerb.{CopyVerb}
use Rattle.newt_script.specs.declared.verbs.CopyVerb.TheVariants as copy_verb
use Rattle.newt_script.proofs.RowTable.{after, finished, with_graph, after_same, then_literal, one_word, one_literal}
use Rattle.newt_script.proofs.CursorRows.{two_chained}

pub row_watch : (cs : List ℕ) → row_reading (codes "watch") cs ≡ after (name_of cs) (λ s rest. after (most_of rest) (λ n rest. finished rest (command.Watch s n)))
unfolding row_reading name_of most_of
row_watch cs = two_chained name most command.Watch cs

pub row_of_watch : (v : WatchVerb) (cs : List ℕ) → row_reading (watch_word v) cs ≡ after (watch_of cs) (λ n rest. finished rest (watch_command v n))
unfolding row_reading watch_of
row_of_watch watch_verb.Notes cs = one_word watch command.Notes cs
row_of_watch watch_verb.Unwatch cs = one_word watch command.Unwatch cs

pub row_of_copy : (v : CopyVerb) (cs : List ℕ) → row_reading (copy_word v) cs ≡ after (copy_of cs) (λ n rest. finished rest (copy_command v n))
unfolding row_reading copy_of
row_of_copy copy_verb.Draft cs = one_word copy command.Draft cs
row_of_copy copy_verb.Save cs = one_word copy command.Save cs
row_of_copy copy_verb.Revert cs = one_word copy command.Revert cs
row_of_copy copy_verb.Discard cs = one_word copy command.Discard cs

pub row_edit : (cs : List ℕ)
    → row_reading (codes "edit") cs
    ≡ after (copy_of cs) (λ n rest. after (path_word rest) (λ p rest. with_graph (literal_word (rest_of rest)) (command.Edit n p)))
unfolding row_reading copy_of path_word
row_edit cs =
    then_literal (λ n. of1 (word path_of) (λ p g. command.Edit n p g)) (copy cs)
    ∙ after_same (λ n rest. reading (with_literal (of1 (word path_of) (λ p g. command.Edit n p g) rest)))
    (λ n rest. after (word path_of rest) (λ p rest. with_graph (literal_word (rest_of rest)) (command.Edit n p)))
    (λ n rest. one_literal (word path_of) (λ p g. command.Edit n p g) rest) (copy cs)
