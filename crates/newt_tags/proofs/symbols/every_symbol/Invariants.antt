use Rattle.std.proofs.Common.{◌≡◌, drop, map}
use Rattle.newt_spec_graph.specs.Graph.{every}
use Rattle.newt_spec_query.specs.Tags.{symbol_name}
use Rattle.newt_tags.proofs.Looked.{before}
use Rattle.newt_tags.proofs.symbols.every_symbol.Given as goal

-- the names so far and those that are left are those of the whole
abbrev pub invariant-loop-value : goal.invariant-loop-value
invariant-loop-value l = before l.items.items (every (map (symbol_name l.nodes) (drop l.value-index l.values))) ≡ every (map (symbol_name l.fn.nodes) l.fn.values)
