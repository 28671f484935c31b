use Rattle.std.proofs.Common.{◌≡◌, [], Err, rules, ap, ◌∙◌}
use Rattle.newt_spec_script.specs.Words.{symbol}
use Rattle.newt_script_words.specs.declared.fault.WordFault.TheVariants.{Memory}
use Rattle.newt_script_words.proofs.WordLists.{one_more, refused}
use Rattle.newt_script_words.proofs.listed.all_symbols.Goals as goal

pub returns-in_err-symbol : goal.returns-in_err-symbol
returns-in_err-symbol c apart =
    let fault = c.in_err-symbol.field-0.0 in
    let is : c.from_residual.result ≡ Err fault = search rules in
    is
    ∙ refused symbol c.args.words.now c.loop-word.word-index (record { ref_ptr = (0, 0); now = [] }) fault c.loop-word-test.true
    (c.in_err-symbol.ensures (λ e. let memory : fault ≡ Memory = cc in apart (is ∙ ap Err memory)))

pub loop-word-preserved : goal.loop-word-preserved
loop-word-preserved c =
    one_more symbol c.args.words.now c.loop-word.word-index (record { ref_ptr = (0, 0); now = [] }) c.loop-word.symbols.items c.push.new.self.items c.in_ok-symbol.field-0 c.loop-word-test.true
    c.loop-word.invariant (c.in_ok-symbol.ensures (λ e. cc)) c.in_ok-push.ensures.items
