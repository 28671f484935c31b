-- The store that a catalog and an image stand for.
use Rattle.newt_spec_image.specs.Records.{version}
use Rattle.std.specs.Prelude.{◌≡◌, ℕ, ◌≤◌, Bool, IsTrue, List}
use Rattle.newt_host.specs.Outside.{Outside}
use Rattle.newt_spec_image.specs.Pages.{cap}
use Rattle.newt_spec_image.specs.Objects.{Objects}
use Rattle.newt_pagebook.specs.Book.{Numbers}
use Rattle.newt_objects.specs.Held.{held}
use Rattle.newt_objects.specs.Changing.{HoldsObjects}
use Rattle.newt_spec_store.specs.Store.{Store}
use Rattle.newt_spec_store.specs.Cost.{cost}
use Rattle.newt_spec_store.specs.Laid.{bare}
use Rattle.newt_spec_store.specs.Lies.{LiesIn, Places}
use Rattle.newt_spec_store.specs.OfImage.{blocks_of}
use Rattle.newt_spec_store.specs.Valid.{well_formed, keeps_version}
use Rattle.newt_soupdir.specs.Bare.{bare_store}
use Rattle.newt_soupdir.specs.declared.rows.Directory.{Directory}
use Rattle.newt_objects_commit.specs.Places.{place_of, AreSoundPlaces}
use Rattle.newt_objects_commit.specs.Names.{names_of, AreSoundNames}
use Rattle.newt_laws_changes.specs.Written.{Names}
use Rattle.newt_store_catalog.specs.declared.catalog.Catalog.{Catalog}
use Rattle.newt_objects_commit.specs.Commit.{AreKept}

-- The objects and the places write down this store, its records name these objects, and this is its directory.
pub record Describes (directory : Directory) (place : Places) (names : Names) (texts : Objects) (s : Store) : Type 0 where
  pub lies : LiesIn texts place s
  pub names_are : (r : ℕ) → names r ≡ lies.named r
  pub formed : IsTrue (well_formed s)
  pub bare_is : bare s ≡ bare_store directory

-- What is kept in memory, and the image of the unit, stand for this store.
pub record StandsFor (catalog : Catalog) (s : Store) (now : List ℕ) : Type 0 where
  pub texts : Objects
  pub holds : HoldsObjects now texts
  pub describes : Describes catalog.directory (place_of catalog.places) (names_of catalog.names) texts s
  pub fits : cost s ≤ cap (blocks_of now)
  pub keeps : IsTrue (keeps_version (version now) s)

-- What holds of the memory of a store over every host: its table is that of the live pages, its places and names are sound, and its directory is one.
pub record IsSound (told : Bool) (catalog : Catalog) (numbers : Numbers) (unit : ℕ) (outside : Outside) : Type 0 where
  pub kept : AreKept told catalog.objects numbers unit outside
  pub places : AreSoundPlaces (held catalog.objects) (place_of catalog.places)
  pub names : AreSoundNames (held catalog.objects) (names_of catalog.names)
  pub formed : IsTrue (well_formed (bare_store catalog.directory))
