use Rattle.std.proofs.Common.{rules}
use Rattle.std.specs.Prelude.{codes}
use Rattle.newt_spec_query.specs.Spec.{given, is_tag_spec}
use Rattle.newt_query.proofs.TextForms.{form_given}
use Rattle.newt_query.proofs.shape.tag_spec.Goals as goal

pub returns-in-Ok-clause-form : goal.returns-in-Ok-clause-form
returns-in-Ok-clause-form c =
    form_given (is_tag_spec c.args.graph.now.nodes) (given c.args.graph.now.nodes c.args.graph.now.root (codes "tagSpec")) c.in-Some.value (search rules)
    (λ fails. search (rules, c.in-Ok.ensures.form.1))
