use Rattle.std.proofs.Common.{◌≡◌, ◌∙◌, ◌∷◌, ◌++◌, [], None, eqb, ap, refl}
use Rattle.std.specs.Map.{lookup}
use Rattle.indexmap.proofs.CallerLemmas.{insert_entry-new}
use Rattle.newt_spec_literal.specs.Built.{Built, node_of}
use Rattle.newt_lit_read.proofs.Labels.{label_found}
use Rattle.newt_lit_read.proofs.building.Building.label.Goals as goal

pub returns-clause-ok : goal.returns-clause-ok
returns-clause-ok c =
    let table = c.self.inside.labels in
    let absent : lookup (eqb c.args.label) table.entries ≡ None = label_found c.args.label table.entries ∙ (ap (λ (b : Built). node_of c.args.label b.labels) c.self.view_is ∙ c.requires) in
    let all : c.insert.new.self.entries ≡ table.entries ++ (c.args.label, c.len.result) ∷ [] = c.in_ok-insert.ensures.entries ∙ insert_entry-new _ table c.args.label c.len.result absent in
    rw (← c.self.view_is) (rw (all, c.len.ensures) refl)
