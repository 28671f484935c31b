use Rattle.std.proofs.Common.{◌∙◌, ap, subst, sym, map}
use Rattle.newt_graph.specs.Graph.{IsGraph}
use Rattle.newt_spec_nsof.specs.Lengths.{bare}
use Rattle.newt_laws_images.proofs.Skeletons.{skeleton-graph}
use Rattle.newt_entries.proofs.graphs.skeleton.Goals as goal

pub of-requires : goal.of-requires
of-requires c =
    let nodes = c.in_ok-nodes.ensures ∙ ap (map bare) c.nodes.ensures.value in
    subst IsGraph (λ i. record { nodes = sym nodes i; root = sym c.root.ensures.value i }) (skeleton-graph c.args.graph.now c.nodes.ensures.graph)
