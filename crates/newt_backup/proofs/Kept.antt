-- The backup of a store is a graph.
use Rattle.std.proofs.Common.{◌≡◌, ℕ, ◌<◌, ◌≤◌, Bool, true, ◌&&◌, List, [], ◌∷◌, map, All, arith, nat_le}
use Rattle.std.proofs.lemmas.Bool.{and_parts, le-leb, leb-true}
use Rattle.std.proofs.lemmas.List.Elements.{All-nil, All-cons}
use Rattle.newt_graph.specs.Graph.{IsGraph}
use Rattle.newt_spec_nsof.specs.Text.{AreBytes}
use Rattle.newt_spec_graph.specs.Lists.{Each}
use Rattle.newt_spec_store.specs.Store.{Entry, Store}
use Rattle.newt_spec_image.specs.Pages.{cap}
use Rattle.newt_spec_store.specs.Cost.{cost, directory_bytes}
use Rattle.newt_spec_store.specs.Image.{all_entries}
use Rattle.newt_spec_store.specs.Valid.{valid, well_formed, fits}
use Rattle.newt_backup.specs.Backup.{full, fulls, backup, IsKept, CanPack}
use Rattle.newt_backup.proofs.Graph.{packed-graph}
use Rattle.newt_backup.proofs.Bounds.{kept-few, kept-short}
use Rattle.newt_backup.proofs.Bytes.{directory-are, full-bytes}

pub kept-formed : (s : Store) → IsKept s → well_formed s ≡ true
kept-formed s k = (and_parts (well_formed s) (fits 4099 s) k.valid).0

-- what fits on a unit fits on the largest one
pub valid-most : (n : ℕ) (s : Store) → n ≤ 4099 → valid n s ≡ true → valid 4099 s ≡ true
valid-most n s h v =
    let parts = and_parts (well_formed s) (fits n s) v in
    both (well_formed s) (fits 4099 s) parts.0 (fit (cost s) n h parts.1)
  where
    both : (a b : Bool) → a ≡ true → b ≡ true → (a && b) ≡ true
    both a b e f = grind arith

    less : (n : ℕ) → n ≤ 4099 → cap n ≤ 15_978
    less n h = omega (arith, h)

    fit : (c n : ℕ) → n ≤ 4099 → nat_le c (cap n) ≡ true → nat_le c 15_978 ≡ true
    fit c n h e = le-leb c 15_978 (omega (arith, leb-true c (cap n) e, less n h))

fulls-bytes : (xs : List (ℕ × Entry)) → Each (λ x. IsGraph x.1.graph × (x.1.time < 4294967296)) xs → All AreBytes (map (λ (x : ℕ × Entry). full x.0 x.1) xs)
fulls-bytes [] h = All-nil AreBytes
fulls-bytes (x ∷ xs) h = All-cons AreBytes (full x.0 x.1) (map (λ (x : ℕ × Entry). full x.0 x.1) xs) (full-bytes x.0 x.1 h.0.0) (fulls-bytes xs h.1)

pub kept-packs : (s : Store) → IsKept s → CanPack (directory_bytes s) (fulls s)
kept-packs s k = record { directory = directory-are s (kept-formed s k) k.infos; entries = fulls-bytes (all_entries s) k.graphs; few = kept-few s k; short = kept-short s k }

-- the backup of a store is a graph
pub backup-graph : (s : Store) → IsKept s → IsGraph (backup s)
backup-graph s k = packed-graph (directory_bytes s) (fulls s) (kept-packs s k)
