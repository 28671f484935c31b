-- A container some of whose values are still to be read.
use Rattle.std.specs.Prelude.{ℕ, List}
use Rattle.newt_graph.specs.declared.node.Ref.{Ref}
use Rattle.newt_nsof_read.specs.declared.open.Kind.{Kind}

-- its node, what it is but for its values, how many values it has, and those that were read
pub record Opened : Type 0 where
  pub n : ℕ
  pub kind : Kind
  pub count : ℕ
  pub values : List Ref
