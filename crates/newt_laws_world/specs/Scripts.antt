-- What holds of the items of a script.
use Rattle.std.specs.Prelude.{◌≡◌, ℕ, IsTrue, List, Some, Ok, Err, ⊤}
use Rattle.newt_graph.specs.Graph.{RawGraph}
use Rattle.newt_spec_graph.specs.Limits.{within_limits}
use Rattle.newt_spec_script.specs.Script.{Item, Readers}
use Rattle.newt_laws_world.specs.Worlds.{has_form}

-- the readings give graphs within the limits
pub record ReadsWithin (rs : Readers) : Type 0 where
  pub literals : (text : List ℕ) (g : RawGraph) → rs.literal_of text ≡ Some g → IsTrue (within_limits g)
  pub streams : (bytes : List ℕ) (g : RawGraph) → rs.stream_of bytes ≡ Ok g → IsTrue (within_limits g)

-- the words of a command have their forms; of a refusal nothing is asked
abbrev pub ItemHasForm : Item → Type 0
ItemHasForm (Ok c) = IsTrue (has_form c)
ItemHasForm (Err r) = ⊤
