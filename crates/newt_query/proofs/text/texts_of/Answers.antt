use Rattle.std.proofs.Common.{◌≡◌, ℕ, List, Option, subst, rules}
use Rattle.std.specs.Prelude.{IfOk}
use Rattle.newt_query.proofs.TextForms.{texts_several}
use Rattle.newt_query.proofs.text.texts_of.Goals as goal

pub returns-in-Some-array_values : goal.returns-in-Some-array_values
returns-in-Some-array_values c =
    subst (λ (several : Option (List (List ℕ))). IfOk c.every_text.result (λ texts. texts ≡ several))
    (texts_several c.args.nodes.now c.args.value c.in-Some-array_values.values.now (search rules) (search rules)) c.every_text.ensures
