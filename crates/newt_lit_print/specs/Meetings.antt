-- How many references lead to a node, counted up to two.
use Rattle.std.specs.Prelude.{Bool, true, false, List, slice_set, slice_index_or}
use Rattle.newt_graph.specs.declared.node.Ref.{Ref}
use Rattle.newt_graph.specs.declared.node.Ref.TheVariants as refs
use Rattle.newt_lit_print.specs.declared.labels.Meetings.{Meetings}
use Rattle.newt_lit_print.specs.declared.labels.Meetings.TheVariants.{None as NoMeeting, One, More}

-- one reference more
abbrev pub met : Meetings → Meetings
met NoMeeting = One
met One = More
met More = More

-- the table after one more reference
abbrev pub met_by : List Meetings → Ref → List Meetings
met_by meetings (refs.Imm word) = meetings
met_by meetings (refs.Node n) = slice_set meetings n (met (slice_index_or meetings n NoMeeting))

-- more than one reference leads there
abbrev pub is_more : Meetings → Bool
is_more NoMeeting = false
is_more One = false
is_more More = true
