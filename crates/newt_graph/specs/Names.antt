-- Symbols by their names in lower case.
use Rattle.std.specs.Prelude.{◌≡◌, ℕ, List, Bool, Option, Some, None, cond, if◌then◌else◌, slice_get}
use Rattle.std.specs.Map.{lookup}
use Rattle.std.specs.Str.{bytes_eq}
use Rattle.std.specs.BTreeMap.{BTreeMap}
use Rattle.std.specs.declared.cmp.Ordering.{Ordering}
use Rattle.std.specs.Ordering.{nat_cmp, is_eq, ordering_then}
use Rattle.std.specs.Cmp.Lexicographic.{slice_cmp}
use Rattle.std.specs.Hash.FoldHasher as folding
use Rattle.newt_graph.specs.declared.names.Key.{Key}
use Rattle.newt_graph.specs.declared.node.Node.{Node}
use Rattle.newt_graph.specs.Graph.{folded, IsNamed}
use Rattle.newt_graph.specs.Draft.{is_alike}

-- the hash of a name in lower case
unfoldable pub mixed : List ℕ → ℕ
mixed name = folding.finish (folding.write folding.initial name)

-- how a hash and a name compare with a key: by the hashes first, and then by the names
abbrev pub compared : ℕ → List ℕ → Key → Ordering
compared mix name key = ordering_then (nat_cmp mix key.mix) (slice_cmp nat_cmp name key.name.items)

-- the derived order of keys
abbrev pub key_cmp : Key → Key → Ordering
key_cmp key = compared key.mix key.name.items

-- whether a key is that of a name in lower case
abbrev pub is_under : List ℕ → Key → Bool
is_under name key = is_eq (compared (mixed name) name key)

-- a key is that of a name, whatever its case
pub record IsKeyOf (name : List ℕ) (key : Key) : Type 0 where
  pub mix : key.mix ≡ mixed (folded name)
  pub text : key.name.items ≡ folded name

-- what a table has for a name in lower case
abbrev pub number_of : BTreeMap Key ℕ → List ℕ → Option ℕ
number_of table name = lookup (is_under name) table.entries

-- A table has the number of each symbol among the nodes. For any other name it may have any number.
abbrev pub KnowsBy : (List ℕ → Option ℕ) → List Node → Type 0
KnowsBy number nodes = (k : ℕ) (name : List ℕ) → IsNamed nodes k name → number (folded name) ≡ Some k

-- the same of a table of the program
abbrev pub Knows : BTreeMap Key ℕ → List Node → Type 0
Knows table nodes = KnowsBy (number_of table) nodes

-- a name has this number from now on, and every other the one that it had
abbrev pub NotesBy : (List ℕ → Option ℕ) → List ℕ → ℕ → (List ℕ → Option ℕ) → Type 0
NotesBy old name n new = (key : List ℕ) → new key ≡ cond (bytes_eq (folded name) key) (Some n) (old key)

-- the same of tables of the program
abbrev pub Notes : BTreeMap Key ℕ → List ℕ → ℕ → BTreeMap Key ℕ → Type 0
Notes old name n new = NotesBy (number_of old) name n (number_of new)

-- the number k, where the node is a symbol of this name but for ASCII case; else none
abbrev pub checked : List ℕ → ℕ → Option Node → Option ℕ
checked name k None = None
checked name k (Some node) = if is_alike name node then Some k else None

-- the same, for the node that the number leads to
abbrev pub checked_among : List ℕ → List Node → Option ℕ → Option ℕ
checked_among name nodes None = None
checked_among name nodes (Some k) = checked name k (slice_get nodes k)
