-- The masks of a soup's entries by its tags declaration.
use Rattle.std.specs.Prelude.{◌≡◌, ℕ, ◌==◌, not, List, [], filter, Option, option_map}
use Rattle.std.specs.BTreeMap.{insert_entry}
use Rattle.std.specs.Map.{lookup}
use Rattle.std.specs.Ordering.{nat_cmp}
use Rattle.newt_graph.specs.Graph.{RawGraph}
use Rattle.newt_spec_store.specs.Store.{TagTable}
use Rattle.newt_tags.specs.Masks.{mask_of}

-- a tags declaration, and the masks by it that are kept, each with the id of its entry before it
-- (this project's own)
pub record Masks : Type 0 where
  pub table : TagTable
  pub masks : List (ℕ × ℕ)

-- the mask that is kept under an id (this project's own)
abbrev pub kept_mask : ℕ → Masks → Option ℕ
kept_mask uid m = lookup (λ k. k == uid) m.masks

-- no masks (a word of these definitions)
abbrev pub no_masks : TagTable → Masks
no_masks table = record { table = table; masks = [] }

-- the entry of this id has the mask of this graph (this project's own)
abbrev pub with_mask : ℕ → RawGraph → Masks → Masks
with_mask uid g m = record m { masks = insert_entry nat_cmp m.masks uid (mask_of m.table g) }

-- no mask of this id is kept (this project's own)
abbrev pub without_mask : ℕ → Masks → Masks
without_mask uid m = record m { masks = filter (λ e. not (e.0 == uid)) m.masks }

-- The masks are by this declaration. Under an id the mask of its graph is kept, if there is a
-- graph. (this project's own)
pub record IsMasks (table : TagTable) (graphs : ℕ → Option RawGraph) (m : Masks) : Type 0 where
  pub declared : m.table ≡ table
  pub masks : (uid : ℕ) → kept_mask uid m ≡ option_map (mask_of table) (graphs uid)
