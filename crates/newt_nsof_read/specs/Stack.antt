-- Reading with a stack of open containers: what is read at the front of a text, and what is still
-- to be read after it.
use Rattle.std.specs.Prelude.{◌≡◌, ℕ, ◌-◌, Bool, true, false, not, ◌&&◌, List, [], ◌∷◌, ◌++◌, length, Option, Some, None, nat_le, if◌then◌else◌, slice_get}
use Rattle.newt_graph.specs.declared.node.Node.{Node}
use Rattle.newt_graph.specs.declared.node.Node.TheVariants.{Array, Frame}
use Rattle.newt_graph.specs.declared.node.Ref.{Ref}
use Rattle.newt_graph.specs.declared.node.Ref.TheVariants as refs
use Rattle.newt_graph.specs.Limits.{most_slots, most_open}
use Rattle.newt_graph.specs.Graph.{all_distinct}
use Rattle.newt_graph.specs.Steps.{◌>>=◌}
use Rattle.newt_nsof_read.specs.declared.tag.Tag.{Tag}
use Rattle.newt_nsof_read.specs.declared.tag.Tag.TheVariants as tags
use Rattle.newt_nsof_read.specs.declared.open.Kind.{Kind}
use Rattle.newt_nsof_read.specs.declared.open.Kind.TheVariants as kinds
use Rattle.newt_nsof_read.specs.declared.open.Front.{Front}
use Rattle.newt_nsof_read.specs.declared.open.Front.TheVariants as fronts
use Rattle.newt_nsof_read.specs.Met.{Met}
use Rattle.newt_nsof_read.specs.Opened.{Opened}
use Rattle.newt_nsof_read.specs.Reading.{Reader, add, filled, count_at, label_at, many_at, tag_of, object_by, rectangle_at, is_other, object_at}

-- ---- open containers

-- a container with these values
abbrev pub node_of : Kind → List Ref → Node
node_of (kinds.Frame tags) values = Frame tags values
node_of (kinds.Array class) values = Array class values

-- a container with one more value
abbrev pub with_value : Opened → Ref → Opened
with_value o value = record { n = o.n; kind = o.kind; count = o.count; values = o.values ++ value ∷ [] }

-- a container of which no value was read
abbrev pub just_opened : ℕ → Kind → ℕ → Opened
just_opened n kind count = record { n = n; kind = kind; count = count; values = [] }

-- the node of a container, after its last values were read
abbrev pub closed : Opened → List Ref × Met × List ℕ → Option (Ref × Met × List ℕ)
closed o values = Some (refs.Node o.n, filled values.1 o.n (node_of o.kind (o.values ++ values.0)), values.2)

-- the values that a container still lacks, each with room for so many containers within it, and
-- then the container
unfoldable pub rest_at : Bool → ℕ → Opened → Reader Ref
rest_at wide room o met bytes = many_at (λ met rest. object_at wide room met rest) (o.count - length o.values) met bytes >>= closed o

-- the same, after one more value of it was read
abbrev pub onward : Bool → ℕ → Opened → Ref × Met × List ℕ → Option (Ref × Met × List ℕ)
onward wide room o value = rest_at wide room (with_value o value.0) value.1 value.2

-- Containers that are open within one another, the outermost first. Each of them lacks the value
-- that was just read, and maybe more.
unfoldable pub resumed : Bool → ℕ → List Opened → Option (Ref × Met × List ℕ) → Option (Ref × Met × List ℕ)
resumed wide room [] read = read
resumed wide room (o ∷ os) read = resumed wide (room - 1) os read >>= onward wide (room - 1) o

-- ---- the front of a text

-- a whole value; or a container that is now open, with the rest of it
abbrev pub whole : Bool → ℕ → Front × Met × List ℕ → Option (Ref × Met × List ℕ)
whole wide room (fronts.Value value, met, rest) = Some (value, met, rest)
whole wide room (fronts.Open o, met, rest) = rest_at wide room o met rest

-- a whole value, as what stands at the front of a text
abbrev pub as_front : Ref × Met × List ℕ → Option (Front × Met × List ℕ)
as_front found = Some (fronts.Value found.0, found.1, found.2)

-- the tag opens a container, of which only so many may be open within one another
abbrev pub opens : Tag → Bool
opens tags.Array = true
opens tags.PlainArray = true
opens tags.Frame = true
opens tags.Rectangle = true
opens _ = false

-- a value that leaves no container open
abbrev pub leaf_by : Bool → Met → List ℕ → Tag → Option (Ref × Met × List ℕ)
leaf_by wide met rest tags.Rectangle = rectangle_at met rest
leaf_by wide met rest tag = object_by wide None met rest tag

-- a frame up to its values, after its tag
unfoldable pub frame_front : Reader Front
frame_front met bytes = do
  count ← count_at bytes
  opened ← if nat_le count.0 most_slots then add met (Frame [] []) else None
  labels ← many_at label_at count.0 opened.1 count.1
  if all_distinct labels.0 then Some (fronts.Open (just_opened opened.0 (kinds.Frame labels.0) count.0), labels.1, labels.2) else None

-- an array without a class up to its values, after its tag
unfoldable pub plain_array_front : Reader Front
plain_array_front met bytes = do
  count ← count_at bytes
  opened ← if nat_le count.0 most_slots then add met (Array None []) else None
  Some (fronts.Open (just_opened opened.0 (kinds.Array None) count.0), opened.1, count.1)

-- an array with a class up to its values, after its tag
unfoldable pub array_front : Reader Front
array_front met bytes = do
  count ← count_at bytes
  opened ← if nat_le count.0 most_slots then add met (Array None []) else None
  label ← label_at opened.1 count.1
  Some (fronts.Open (just_opened opened.0 (kinds.Array (Some label.0)) count.0), label.1, label.2)

-- what stands after a tag: a container up to its values, or a whole value
abbrev pub front_by : Bool → Met → List ℕ → Tag → Option (Front × Met × List ℕ)
front_by wide met rest tags.Array = array_front met rest
front_by wide met rest tags.PlainArray = plain_array_front met rest
front_by wide met rest tags.Frame = frame_front met rest
front_by wide met rest tag = leaf_by wide met rest tag >>= as_front

-- the same where a container may be opened; else no container
abbrev pub allowed : Bool → Bool → Met → List ℕ → Tag → Option (Front × Met × List ℕ)
allowed wide may_open met rest tag = if opens tag && not may_open then None else front_by wide met rest tag

-- what stands at the front of a text: a tag, and what stands after it
unfoldable pub front_of : Bool → Bool → Reader Front
front_of wide may_open met [] = None
front_of wide may_open met (b ∷ rest) = tag_of b >>= allowed wide may_open met rest

-- ---- the loop

-- the node of an open container is there, and it is not a symbol
abbrev pub IsOpen : Met → Opened → Type 0
IsOpen met o = is_other (slice_get met.nodes o.n) ≡ true

-- this is so of each open container
abbrev pub AreOpen : Met → List Opened → Type 0
AreOpen met [] = Unit {0}
AreOpen met (o ∷ os) = IsOpen met o × AreOpen met os

-- this is so of the container that the front opens, if it opens one
abbrev pub FrontIsOpen : Met → Front → Type 0
FrontIsOpen met (fronts.Value value) = Unit {0}
FrontIsOpen met (fronts.Open o) = IsOpen met o

-- the root, or what is still to be read for it, where the stack waits for a value
abbrev pub awaited : Bool → Option Ref → List Opened → Met → List ℕ → Option (Ref × Met × List ℕ)
awaited wide (Some root) stack met rest = Some (root, met, rest)
awaited wide None stack met rest = resumed wide most_open stack (object_at wide (most_open - length stack) met rest)
