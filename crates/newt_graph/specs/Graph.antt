-- Graphs of objects, in the one order in which a walk from the root first meets their nodes.
use Rattle.std.specs.Prelude.{◌≡◌, ◌≢◌, ℕ, suc, ◌+◌, ◌*◌, ◌<◌, ◌≤◌, Bool, true, not, ◌&&◌, ◌==◌, nat_le, List, [], ◌∷◌, ◌++◌, length, map, All, AllPairs, Some, None, slice_get}
use Rattle.std.specs.List.{list_any, sum_by}
use Rattle.std.specs.Char.{to_ascii_lowercase}
use Rattle.std.specs.Prelude.{ℤ, pos, ◌%◌}
use Rattle.std.specs.Int.{w32, cast_unsigned}
use Rattle.std.specs.Int.RustNames.{FitsSigned}
use Rattle.newt_graph.specs.declared.node.Node.{Node}
use Rattle.newt_graph.specs.declared.node.Node.TheVariants.{Symbol, Str, Binary, Large, Array, Frame}
use Rattle.newt_graph.specs.declared.node.Ref.{Ref}
use Rattle.newt_graph.specs.declared.node.Ref.TheVariants as refs
use Rattle.newt_graph.specs.Limits.{most_slots, most_data, most_nodes, most_bytes, most_open}

-- nodes, and the value at which a walk begins
pub record RawGraph : Type 0 where
  pub nodes : List Node
  pub root : Ref

-- a name in lower case
abbrev pub folded : List ℕ → List ℕ
folded name = map to_ascii_lowercase name

-- node k is a symbol of this name
abbrev pub IsNamed : List Node → ℕ → List ℕ → Type 0
IsNamed nodes k name = slice_get nodes k ≡ Some (Symbol name)

-- node k is a symbol
abbrev pub IsSymbol : List Node → ℕ → Type 0
IsSymbol nodes k = (name : List ℕ) × IsNamed nodes k name

-- node k is a symbol that has this name but for ASCII case
abbrev pub IsAlike : List Node → ℕ → List ℕ → Type 0
IsAlike nodes k name = (old : List ℕ) × IsNamed nodes k old × (folded old ≡ folded name)

-- the name of a symbol: 1 to 254 bytes from 32 to 126
pub record IsName (name : List ℕ) : Type 0 where
  pub some : 0 < length name
  pub few : length name < 255
  pub each : All (λ b. (32 ≤ b) × (b < 127)) name

-- a word of 32 bits that stands for itself: its low two bits are not 01, which mark a pointer
pub record IsWord (w : ℤ) : Type 0 where
  pub fits : FitsSigned w32 w
  pub low : cast_unsigned w32 w % 4 ≢ 1

-- an integer that is not negative, as a value: its word is four times the number
abbrev pub integer : ℕ → Ref
integer n = refs.Imm (pos (4 * n))

-- A walk that has met so many nodes comes to a class or a tag. The list has the nodes that it meets
-- there for the first time, in order.
pub data WalkLabel : (met : ℕ) → ℕ → List Node → Type 0 where
  again : {met k : ℕ} → k < met → WalkLabel met k []
  symbol : {met : ℕ} {name : List ℕ} → WalkLabel met met (Symbol name ∷ [])

-- the same for tags, one after another
pub data WalkLabels : (met : ℕ) → List ℕ → List Node → Type 0 where
  none : {met : ℕ} → WalkLabels met [] []
  more : {met k : ℕ} {ks : List ℕ} {first others : List Node}
      → WalkLabel met k first
      → WalkLabels (met + length first) ks others
      → WalkLabels met (k ∷ ks) (first ++ others)

-- The same for a value, and for values one after another. A container comes before its tags and
-- values, and at most `room` containers are open within one another.
mutual
  pub data Walk : (room met : ℕ) → Ref → List Node → Type 0 where
    word : {room met : ℕ} {w : ℤ} → IsWord w → Walk room met (refs.Imm w) []
    again : {room met k : ℕ} → k < met → Walk room met (refs.Node k) []
    symbol : {room met : ℕ} {name : List ℕ} → Walk room met (refs.Node met) (Symbol name ∷ [])
    string : {room met : ℕ} {units : List ℕ} → Walk room met (refs.Node met) (Str units ∷ [])
    binary : {room met class : ℕ} {bytes : List ℕ} {new : List Node}
        → WalkLabel (suc met) class new
        → Walk room met (refs.Node met) (Binary class bytes ∷ new)
    large : {room met class : ℕ} {bytes : List ℕ} {new : List Node}
        → WalkLabel (suc met) class new
        → Walk room met (refs.Node met) (Large class bytes ∷ new)
    frame : {room met : ℕ} {tags : List ℕ} {values : List Ref} {tagged valued : List Node}
        → WalkLabels (suc met) tags tagged
        → Walks room (suc met + length tagged) values valued
        → Walk (suc room) met (refs.Node met) (Frame tags values ∷ (tagged ++ valued))
    plain_array : {room met : ℕ} {values : List Ref} {valued : List Node}
        → Walks room (suc met) values valued
        → Walk (suc room) met (refs.Node met) (Array None values ∷ valued)
    array : {room met class : ℕ} {values : List Ref} {first valued : List Node}
        → WalkLabel (suc met) class first
        → Walks room (suc met + length first) values valued
        → Walk (suc room) met (refs.Node met) (Array (Some class) values ∷ (first ++ valued))

  pub data Walks : (room met : ℕ) → List Ref → List Node → Type 0 where
    none : {room met : ℕ} → Walks room met [] []
    more : {room met : ℕ} {value : Ref} {values : List Ref} {first others : List Node}
        → Walk room met value first
        → Walks room (met + length first) values others
        → Walks room met (value ∷ values) (first ++ others)

-- whether no two of the numbers are the same
abbrev pub all_distinct : List ℕ → Bool
all_distinct [] = true
all_distinct (n ∷ ns) = not (list_any (λ m. n == m) ns) && all_distinct ns

-- as many tags as a frame may have, no two of them the same
pub record AreTags (tags : List ℕ) : Type 0 where
  pub few : length tags ≤ most_slots
  pub distinct : AllPairs (λ a b. a ≢ b) tags

-- a value for each tag, and each tag is a symbol
pub record IsFrame (nodes : List Node) (tags : List ℕ) (values : List Ref) : Type 0 where
  pub are_tags : AreTags tags
  pub paired : length values ≡ length tags
  pub symbols : All (IsSymbol nodes) tags

-- the 16-bit units of a string: two bytes for each and two more are within the limit
pub record IsText (units : List ℕ) : Type 0 where
  pub few : 2 * length units + 2 ≤ most_data
  pub each : All (λ u. u < 65536) units

-- the bytes of a binary: they are within the limit
pub record IsData (bytes : List ℕ) : Type 0 where
  pub few : length bytes ≤ most_data
  pub each : All (λ b. b < 256) bytes

-- the rules of a node among these nodes
abbrev pub IsNode : List Node → Node → Type 0
IsNode nodes (Symbol name) = IsName name
IsNode nodes (Frame tags values) = IsFrame nodes tags values
IsNode nodes (Str units) = IsText units
IsNode nodes (Binary class bytes) = IsSymbol nodes class × IsData bytes
IsNode nodes (Array None values) = length values ≤ most_slots
IsNode nodes (Array (Some class) values) = IsSymbol nodes class × (length values ≤ most_slots)
IsNode nodes (Large class bytes) = IsSymbol nodes class × IsData bytes

-- how many bytes a string, with its last unit, a binary or a large binary has; another node has
-- none
abbrev pub payload : Node → ℕ
payload (Symbol name) = 0
payload (Str units) = 2 * length units + 2
payload (Binary class bytes) = length bytes
payload (Large class bytes) = length bytes
payload (Array class values) = 0
payload (Frame tags values) = 0

-- the bytes of all strings, binaries and large binaries together are within the limit
abbrev pub AreLight : List Node → Type 0
AreLight nodes = sum_by payload nodes ≤ most_bytes

-- the same as a test
abbrev pub are_light : List Node → Bool
are_light nodes = nat_le (sum_by payload nodes) most_bytes

-- no two symbols are alike but for ASCII case
abbrev pub AreFoldedOnce : List Node → Type 0
AreFoldedOnce nodes = (i k : ℕ) (name : List ℕ) → IsNamed nodes i name → IsAlike nodes k name → i ≡ k

-- Normal form: the nodes stand in the order in which the walk from the root first meets them. Each
-- node is met, no two symbols are alike, and the limits hold.
pub record IsGraph (g : RawGraph) : Type 0 where
  pub walk : Walk most_open 0 g.root g.nodes
  pub few : length g.nodes ≤ most_nodes
  pub light : AreLight g.nodes
  pub each : All (IsNode g.nodes) g.nodes
  pub folded_once : AreFoldedOnce g.nodes
