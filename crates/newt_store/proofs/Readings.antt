-- Calls that read, one after another.
use Rattle.std.proofs.Common.{ℕ, ◌+◌, ◌*◌, ◌≤◌, Bool, List, refl, sym, ◌∙◌, subst, arith}
use Rattle.newt_host.specs.Moments.{image}
use Rattle.newt_host.specs.Outside.{Outside, Spends}
use Rattle.newt_host.proofs.Outside.{OnlyReads-refl, Spends-append, Spends-widen}
use Rattle.newt_pagebook.specs.Book.{Numbers}
use Rattle.newt_spec_store.specs.Store.{Store as PlainStore}
use Rattle.newt_store_catalog.specs.Stands.{StandsFor}
use Rattle.newt_store_catalog.specs.declared.catalog.Catalog.{Catalog}
use Rattle.newt_store.specs.declared.store.Store.{Store}
use Rattle.newt_store_catalog.proofs.Opening.{same-image}
use Rattle.newt_store_catalog.proofs.Exits.{looks-on}
use Rattle.newt_store.specs.Calls.{Shows, IsOpen, Reads}

module _ {B : Type 0} (place : B → ℕ) (numbers : B → Numbers) (stands : Bool → B → Outside → Type 0) (told : Bool) where
  -- nothing was read
  pub reads-none : (store : Store B) (outside : Outside) → IsOpen place numbers stands told store outside → Reads place numbers stands told store store outside outside
  reads-none store outside is = record { is_open = is; same_place = refl; same_numbers = refl; catalog = refl; looks = OnlyReads-refl (place store.book) outside }

  -- one call after another
  pub reads-more : (a b c : Store B) (before between after : Outside) → Reads place numbers stands told a b before between → Reads place numbers stands told b c between after
      → Reads place numbers stands told a c before after
  reads-more a b c before between after x y = record {
    is_open = y.is_open;
    same_place = y.same_place ∙ x.same_place;
    same_numbers = y.same_numbers ∙ x.same_numbers;
    catalog = y.catalog ∙ x.catalog;
    looks = looks-on x.same_place x.looks y.looks;
  }

  -- the store still shows what it did
  pub shows-on : (a b : Store B) (before between : Outside) (s : PlainStore) → Reads place numbers stands told a b before between → Shows place a before s → Shows place b between s
  shows-on a b before between s x shows =
      subst (λ (catalog : Catalog). StandsFor catalog s (image (place b.book) between.now)) (sym x.catalog)
      (subst (λ (img : List ℕ). StandsFor a.catalog s img) (sym (same-image (place a.book) (place b.book) before.now between.now x.same_place x.looks.moment)) shows)

  -- what both fetch
  pub spends-on : (a b : Store B) (before between after : Outside) (m n : ℕ) → Reads place numbers stands told a b before between → Spends (place a.book) 0 (512 * m) before between
      → Spends (place b.book) 0 (512 * n) between after → Spends (place a.book) 0 (512 * (m + n)) before after
  spends-on a b before between after m n x one two =
      Spends-widen (0 + 0) (512 * m + 512 * n) 0 (512 * (m + n)) (omega arith) (omega arith)
      (Spends-append 0 (512 * m) 0 (512 * n) one (subst (λ (u : ℕ). Spends u 0 (512 * n) between after) x.same_place two))

-- a bound in pages that is higher
pub fetches-more : (unit m n : ℕ) (before after : Outside) → m ≤ n → Spends unit 0 (512 * m) before after → Spends unit 0 (512 * n) before after
fetches-more unit m n before after low one = Spends-widen 0 (512 * m) 0 (512 * n) (omega arith) (omega (arith, low)) one
