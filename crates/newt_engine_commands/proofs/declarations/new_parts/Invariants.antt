-- what is made and what is left are the whole
use Rattle.std.proofs.Common.{◌≡◌, ◌++◌, length}
use Rattle.newt_keys.specs.Seen.{declared_all}
use Rattle.newt_spec_world.specs.Changed.{spec_of_words}
use Rattle.newt_engine_commands.proofs.declarations.new_parts.Given as goal

abbrev pub invariant-loop-left : goal.invariant-loop-left
invariant-loop-left l = declared_all l.made.items ++ spec_of_words l.left ≡ spec_of_words l.parts

abbrev pub decreases-loop-left : goal.decreases-loop-left
decreases-loop-left l = length l.left
