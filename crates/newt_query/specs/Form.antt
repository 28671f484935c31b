-- The part of a query's form that is seen before its slots are read.
use Rattle.std.specs.Prelude.{Bool, ◌&&◌, codes}
use Rattle.newt_graph.specs.Graph.{RawGraph}
use Rattle.newt_spec_query.specs.Spec.{bound_is, has_only, is_true, query_slots, slot_is}

-- a frame that has only slots of a query, in which keys stand only beside an index path and the
-- mark for entire words is true (this project's own)
abbrev pub is_framed : RawGraph → Bool
is_framed g =
    has_only g.nodes query_slots g.root
    && bound_is g (codes "beginKey") (codes "beginExclKey")
    && bound_is g (codes "endKey") (codes "endExclKey")
    && slot_is g (codes "entireWords") is_true
