-- The graphs that bytes are read as.
use Rattle.std.specs.Prelude.{ℕ, Bool, List, nat_lt, Option, Some, None, Result, Ok, Err, if◌then◌else◌}
use Rattle.std.specs.List.{list_all}
use Rattle.newt_graph.specs.Graph.{RawGraph}
use Rattle.newt_nsof_read.specs.declared.fault.NsofFault.{NsofFault}
use Rattle.newt_nsof_read.specs.Reading.{decoded}

-- the graph of an answer; none of a fault
abbrev pub graph_in : Result RawGraph NsofFault → Option RawGraph
graph_in (Ok g) = Some g
graph_in (Err _) = None

-- a list of numbers of which each is a byte
abbrev pub are_bytes : List ℕ → Bool
are_bytes = list_all (λ b. nat_lt b 256)

-- The graph that bytes spell in version 2 of the streamed form (Newton Formats 1.1). A list with a
-- number above 255 is not a list of bytes, and spells none.
abbrev pub stream_graph : List ℕ → Option RawGraph
stream_graph bytes = if are_bytes bytes then graph_in (decoded bytes) else None
