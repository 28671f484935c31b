use Rattle.std.proofs.Common.{◌≡◌, [], Err, rules, ap, ◌∙◌}
use Rattle.newt_spec_script.specs.Words.{part}
use Rattle.newt_script_words.specs.declared.fault.WordFault.TheVariants.{Memory}
use Rattle.newt_script_words.proofs.WordLists.{one_more, refused}
use Rattle.newt_script_words.proofs.listed.all_parts.Goals as goal

pub returns-in_err-part : goal.returns-in_err-part
returns-in_err-part c apart =
    let fault = c.in_err-part.field-0.0 in
    let is : c.from_residual.result ≡ Err fault = search rules in
    is
    ∙ refused part c.args.words.now c.loop-word.word-index (record { ref_ptr = (0, 0); now = [] }) fault c.loop-word-test.true
    (c.in_err-part.ensures (λ e. let memory : fault ≡ Memory = cc in apart (is ∙ ap Err memory)))

pub loop-word-preserved : goal.loop-word-preserved
loop-word-preserved c =
    one_more part c.args.words.now c.loop-word.word-index (record { ref_ptr = (0, 0); now = [] }) c.loop-word.parts.items c.push.new.self.items c.in_ok-part.field-0 c.loop-word-test.true
    c.loop-word.invariant (c.in_ok-part.ensures (λ e. cc)) c.in_ok-push.ensures.items
