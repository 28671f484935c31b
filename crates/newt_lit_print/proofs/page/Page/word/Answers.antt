use Rattle.std.proofs.Common.{◌∙◌, ◌++◌, List, ℕ, ℤ, ap}
use Rattle.std.specs.Int.{w32}
use Rattle.std.proofs.lemmas.Int.{to_z-of_z}
use Rattle.newt_spec_literal.specs.Printed.{word_text}
use Rattle.std.proofs.lemmas.Result.{on_ok_weaker}
use Rattle.newt_lit_print.proofs.page.Page.word.Goals as goal

pub returns : goal.returns
returns c = on_ok_weaker c.word.result (λ e. rw (← c.self.view_is) (ap (λ (text : List ℕ). (text, c.self.inside.met)) (e ∙ ap (λ (w : ℤ). c.self.inside.text.items ++ word_text w) (to_z-of_z w32 c.args.word c.ranges.word)))) c.word.ensures
