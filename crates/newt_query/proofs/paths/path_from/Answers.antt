use Rattle.std.proofs.Common.{sym, subst, rules}
use Rattle.newt_path.specs.Names.{IsPath}
use Rattle.newt_query.proofs.PathForms.{symbols_are_path}
use Rattle.newt_query.proofs.paths.path_from.Goals as goal

pub of-requires : goal.of-requires
of-requires c =
    subst IsPath (sym c.into_items.ensures)
    (symbols_are_path c.args.graph.now c.nodes.ensures.graph c.args.values.now c.in-Some.names c.requires.some c.requires.few (search rules))
