use Rattle.std.proofs.Common.{rules, ◌≡◌, true, sym, ◌∙◌}
use Rattle.std.specs.Prelude.{bytes_eq}
use Rattle.newt_spec_nsof.specs.Flat.{flat}
use Rattle.newt_laws_images.proofs.Texts.{text-same}
use Rattle.newt_backup.proofs.Back.{same-graph}
use Rattle.newt_backup.proofs.read.are_same.Goals as goal

pub returns-clause-yes : goal.returns-clause-yes
returns-clause-yes c = λ yes.
    let a : c.as_slice.result.now ≡ flat c.args.graph.now = search rules in
    let b : c.as_slice-2.result.now ≡ flat c.args.other.now = search rules in
    let eq : bytes_eq c.as_slice.result.now c.as_slice-2.result.now ≡ true = sym c.eq.ensures ∙ yes in
    same-graph c.args.graph.now c.args.other.now c.nodes-nodes.ensures.graph c.nodes-others.ensures.graph (sym a ∙ text-same c.as_slice.result.now c.as_slice-2.result.now eq ∙ b)
