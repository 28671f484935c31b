-- What a reading function answers.
use Rattle.std.specs.Prelude.{◌≡◌, Option, Some, None, Result, Ok, Err}
use Rattle.newt_graph.specs.declared.fault.GraphFault.{GraphFault}
use Rattle.newt_graph.specs.declared.fault.GraphFault.TheVariants as graph
use Rattle.newt_lit_read.specs.declared.fault.LitFault.{LitFault}
use Rattle.newt_lit_read.specs.declared.fault.LitFault.TheVariants.{Literal, Memory}

-- A call failed. It is `Literal` only where reading gives none. Where memory ran out, nothing is
-- said.
abbrev pub Fails : {Y : Type 0} → LitFault → Option Y → Type 0
Fails Literal read = read ≡ None
Fails Memory read = Unit {0}

-- the result of a call, seen by `view`, is what reading gives; or the call failed
abbrev pub Gives : {X Y : Type 0} → (X → Y) → Result X LitFault → Option Y → Type 0
Gives view (Ok x) read = read ≡ Some (view x)
Gives view (Err e) read = Fails e read

-- a text that passes a limit of a graph is not a literal
abbrev pub fault_of : GraphFault → LitFault
fault_of graph.Limit = Literal
fault_of graph.Memory = Memory
