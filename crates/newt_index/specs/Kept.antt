-- How an index is kept: a map from the bytes of a key with an id to the key (this project's own).
use Rattle.std.specs.Prelude.{◌≡◌, ◌<◌, ◌^◌, ℕ, List, Option, All}
use Rattle.std.specs.Borrow.{Bor}
use Rattle.std.specs.declared.cmp.Ordering.{Ordering}
use Rattle.std.specs.Ordering.{nat_cmp, ordering_then}
use Rattle.std.specs.Cmp.Lexicographic.{slice_cmp}
use Rattle.newt_spec_store.specs.Keys.{Key, IndexSpec}
use Rattle.newt_keys.specs.KeyForm.{IsKeyOf, key_bytes}
use Rattle.newt_index.specs.declared.search.Slot.{Slot}
use Rattle.newt_index.specs.Pairs.{Pair, parts_of}

-- an entry of the map (a word of these definitions)
abbrev pub Entry : Type 0
Entry = Slot × Key

-- the pair that an entry of the map is (a word of these definitions)
abbrev pub pair_of : Entry → Pair
pair_of e = (e.1, e.0.uid)

-- an entry of the map is under the bytes of its key, which is one of the declaration (this
-- project's own)
pub record IsKept (spec : Option IndexSpec) (e : Entry) : Type 0 where
  pub is_key : IsKeyOf (parts_of spec) e.1
  pub bytes : e.0.bytes ≡ key_bytes (parts_of spec) e.1
  pub uid : e.0.uid < 2 ^ 32

-- each entry is kept so (a word of these definitions)
abbrev pub AreKept : Option IndexSpec → List Entry → Type 0
AreKept spec es = All (IsKept spec) es

-- the bytes are those of the key, which is one of the declaration (this project's own)
pub record IsProbeOf (spec : Option IndexSpec) (key : Key) (bytes : List ℕ) : Type 0 where
  pub is_key : IsKeyOf (parts_of spec) key
  pub same : bytes ≡ key_bytes (parts_of spec) key

-- a pair that is lent (a word of these definitions)
abbrev pub shown : Bor Key × ℕ → Pair
shown p = (p.0.now, p.1)

-- an entry of the map that is lent (a word of these definitions)
abbrev pub lent : Bor Slot × Bor Key → Pair
lent e = (e.1.now, e.0.now.uid)

-- the derived order of the map's keys: by bytes, and then by id (this project's own)
abbrev pub slot_cmp : Slot → Slot → Ordering
slot_cmp a b = ordering_then (slice_cmp nat_cmp a.bytes b.bytes) (nat_cmp a.uid b.uid)
