-- What it is to stand for a whole. All of it is this project's own.
use Rattle.std.specs.Prelude.{◌≡◌, ℕ, Bool, IsTrue, List, Option, Some}
use Rattle.newt_host.specs.Outside.{Outside}
use Rattle.newt_notify.specs.Watch.{Watching, Kept, kept_all}
use Rattle.newt_spec_store.specs.Store.{Store}
use Rattle.newt_spec_whole.specs.Whole as plain
use Rattle.newt_laws_whole.specs.Runs.{DraftsFit}
use Rattle.newt_engine.specs.Standing.{IsStanding, means, stood_for}
use Rattle.newt_engine_whole.specs.declared.whole.Whole.{Whole}

-- they keep what watches with these notes keep
abbrev pub AreKept : List (Option Kept) → Type 0
AreKept kept = (watches : List (Option Watching)) × (kept ≡ kept_all watches)

module _ {C : Type 0} (reads : List ℕ → Option Store) (place : C → ℕ)
    (stands : Bool → C → Outside → Type 0) where
  -- It stands for a host: its world does, its watches keep the last notes of some list, and each
  -- draft can be the graph of an entry, where the devices tell their faults.
  pub record Standing (told : Bool) (it : Whole C) (outside : Outside) : Type 0 where
    pub world : IsStanding reads place stands told it.world outside
    pub watches : AreKept it.watches
    pub drafts : IsTrue told → DraftsFit it.works

-- It and the devices stand for this whole, among others: its world stands for the world, its
-- watches keep the last notes of the watches, and its copies are the copies.
pub record Means {C : Type 0} (reads : List ℕ → Option Store) (it : Whole C) (outside : Outside)
    (h : plain.Whole) : Type 0 where
  pub world : means reads it.world outside h.world
  pub watches : it.watches ≡ kept_all h.watches
  pub copies : it.works ≡ h.copies

-- the known world of its devices, with its copies; of its watches nothing is said
abbrev pub known_whole : {C : Type 0} → (List ℕ → Option Store) → Whole C → Outside → plain.Whole
known_whole reads it outside =
    record (plain.bare_whole (stood_for reads it.world outside)) { copies = it.works }
