use Rattle.std.proofs.Common.{ℕ, List, Option, ap, ◌∙◌}
use Rattle.newt_spec_literal.specs.Spelling.{Page, spelled}
use Rattle.newt_spec_literal.specs.Printed.{value_at}
use Rattle.newt_lit_print.proofs.values.print.Goals as goal

pub returns : goal.returns
returns c =
    let text : List (Option ℕ) → Page → List ℕ = λ labels page. (spelled page (value_at c.args.nodes.now labels 201 c.args.root)).0 in
    c.into_text.ensures ∙ ap (λ (p : Page). p.0) c.in_ok-value.ensures ∙ ap (λ (p : Page). text c.deref.result.now p) c.after-page.ensures ∙ ap (λ (l : List (Option ℕ)). text l (c.args.text.items, 0)) (c.deref.ensures.value ∙ c.in_ok-labels.ensures)
