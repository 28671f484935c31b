use Rattle.std.proofs.Common.{[]}
use Rattle.newt_path.specs.Names.{path_of}
use Rattle.newt_script_words.proofs.WordLists.{one_more}
use Rattle.newt_script_words.proofs.listed.all_paths.Goals as goal

pub loop-word-preserved : goal.loop-word-preserved
loop-word-preserved c =
    one_more path_of c.args.words.now c.loop-word.word-index (record { ref_ptr = (0, 0); now = [] }) c.loop-word.paths.items c.push.new.self.items c.in_ok-path.field-0 c.loop-word-test.true
    c.loop-word.invariant (c.in_ok-path.ensures (λ e. cc)) c.in_ok-push.ensures.items
