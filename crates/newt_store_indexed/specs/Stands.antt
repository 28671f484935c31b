-- What a store on a card stands for. This project's own.
use Rattle.std.specs.Prelude.{ℕ, Bool, IsTrue, List}
use Rattle.newt_host.specs.Moments.{image}
use Rattle.newt_host.specs.Outside.{Outside}
use Rattle.newt_pagebook.specs.Book.{Numbers}
use Rattle.newt_spec_store.specs.Store.{Store as Plain}
use Rattle.newt_store_catalog.specs.declared.catalog.Catalog.{Catalog}
use Rattle.newt_store_catalog.specs.Stands.{StandsFor}
use Rattle.newt_index_ranges.specs.Stands.{AreRangesOf}
use Rattle.newt_index_ranges.specs.declared.rows.SoupRanges.{SoupRanges}
use Rattle.newt_store.specs.Calls.{IsOpen}
use Rattle.newt_store_indexed.specs.declared.store.IndexedStore.{IndexedStore}

-- memory and image stand for a plain store, and the ranges are those of that store
pub record StandsForOne (catalog : Catalog) (rows : List SoupRanges) (now : List ℕ) : Type 0 where
  pub plain : Plain
  pub stands : StandsFor catalog plain now
  pub ranges : AreRangesOf plain rows

module _ {B : Type 0} (place : B → ℕ) (numbers : B → Numbers) (stands : Bool → B → Outside → Type 0) where
  -- A store stands for its unit: it is open there, and where bytes are told memory and image stand for a plain store, whose ranges are kept.
  pub record StandsOn (told : Bool) (store : IndexedStore B) (outside : Outside) : Type 0 where
    pub is_open : IsOpen place numbers stands told store.store outside
    pub plain : IsTrue told → StandsForOne store.store.catalog store.ranges (image (place store.store.book) outside.now)
