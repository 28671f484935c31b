use Rattle.std.proofs.Common.{◌≡◌, codes, cond, arith}
use Rattle.std.proofs.lemmas.Grind.{common_steps}
use Rattle.newt_spec_script.specs.Generator.{begins}
use Rattle.newt_script_session.proofs.Texts.{one_more}
use Rattle.newt_script_session.proofs.tally.Tally.add.Goals as goal

pub returns : goal.returns
returns c = λ texts tallies.
    let ok : c.from-ok.result ≡ cond (begins (codes "ok") c.args.text.now) 1 0 = grind (arith, common_steps) in
    let error : c.from-error.result ≡ cond (begins (codes "error") c.args.text.now) 1 0 = grind (arith, common_steps) in
    one_more c.args.self.now _ c.args.text.now (omega arith)
    (λ fits. omega (arith, c.saturating_add.ensures, fits))
    (λ fits. omega (arith, c.saturating_add-2.ensures, ok, fits))
    (λ fits. omega (arith, c.saturating_add-3.ensures, error, fits))
    (λ fits. omega (arith, c.saturating_add-4.ensures, fits))
    texts tallies
