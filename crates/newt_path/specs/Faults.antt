-- What the faults of a builder become.
use Rattle.newt_graph.specs.declared.fault.GraphFault.{GraphFault}
use Rattle.newt_graph.specs.declared.fault.GraphFault.TheVariants as graph_fault
use Rattle.newt_path.specs.declared.fault.SetFault.{SetFault}
use Rattle.newt_path.specs.declared.fault.SetFault.TheVariants as fault

-- a limit stays a limit, and out of memory stays out of memory (a word of these definitions)
abbrev pub set_fault : GraphFault → SetFault
set_fault graph_fault.Limit = fault.Limit
set_fault graph_fault.Memory = fault.Memory
