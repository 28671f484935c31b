-- The store that an image writes down: its records give pages, its pages objects, and its objects
-- the store. The format is this project's own.
use Rattle.std.specs.Prelude.{◌≡◌, ℕ, ◌/◌, List, length, Option, Some}
use Rattle.std.specs.FinMap.{entries}
use Rattle.newt_graph.specs.Graph.{RawGraph}
use Rattle.newt_spec_image.specs.Records.{version}
use Rattle.newt_spec_image.specs.Pages.{Pages, pages}
use Rattle.newt_spec_image.specs.Objects.{Objects, AreObjectsOf}
use Rattle.newt_spec_store.specs.Store.{Store}
use Rattle.newt_spec_store.specs.StoreOf.{store_of}

-- how many whole blocks an image has (this project's own)
abbrev pub blocks_of : List ℕ → ℕ
blocks_of image = length image / 4096

-- The image is a readable store, and it is this one, where `graph_of` reads the texts of entries.
-- (this project's own)
pub record IsStoreOf (graph_of : List ℕ → Option RawGraph) (image : List ℕ) (s : Store) : Type 0 where
  pub live : Pages
  pub has_pages : pages image ≡ Some live
  pub objects : Objects
  pub has_objects : AreObjectsOf live objects
  pub reads : store_of graph_of (version image) (entries objects) (blocks_of image) ≡ Some s
