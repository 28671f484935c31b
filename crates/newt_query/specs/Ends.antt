-- How the definition sees the ends of a range of the code.
use Rattle.std.specs.declared.ops.Bound.{Bound}
use Rattle.std.specs.declared.ops.Bound.TheVariants.{Included, Excluded, Unbounded}
use Rattle.newt_spec_store.specs.Keys.{Key}
use Rattle.newt_spec_query.specs.Spec as query

-- an end of a range of the code, as the definition has it (a word of these definitions)
abbrev pub end_of : Bound Key → query.Bound
end_of Unbounded = query.unbounded
end_of (Included k) = query.including k
end_of (Excluded k) = query.excluding k
