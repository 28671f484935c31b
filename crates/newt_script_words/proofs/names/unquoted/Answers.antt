use Rattle.std.proofs.Common.{◌≡◌, Bool, true, not, [], ◌∷◌, ◌++◌, sym, ap, ◌∙◌, cond}
use Rattle.std.specs.Result.{is_ok}
use Rattle.newt_spec_script.specs.Words.{quoted}
use Rattle.newt_script_words.specs.Names.{with_start, goes_on}
use Rattle.newt_script_words.proofs.Quotes.{with_start-with_start}
use Rattle.newt_script_words.proofs.names.unquoted.Goals as goal

pub loop-next-preserved : goal.loop-next-preserved
loop-next-preserved c =
    let name = c.loop-next.name.items in
    let byte = c.in-Some-next.byte in
    let after = c.in-Some.after.now in
    let ok : is_ok c.push.result ≡ true = c.is_err.ensures.negation ∙ ap not c.if-is_err.false in
    let items : c.push.new.self.items ≡ name ++ byte ∷ [] = c.push.ensures.items ∙ ap (λ (b : Bool). cond b (name ++ byte ∷ []) name) ok in
    let step : quoted c.loop-next.rest.now ≡ with_start (byte ∷ []) (quoted after) = c.in-Some.ensures.step ∙ ap (λ o. goes_on o after) c.in-Some-next.is in
    rw items (sym (with_start-with_start name (byte ∷ []) (quoted after)) ∙ (ap (with_start name) (sym step) ∙ c.loop-next.invariant))
