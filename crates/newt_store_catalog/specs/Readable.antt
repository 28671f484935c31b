-- What an image is read as.
use Rattle.std.specs.Prelude.{ℕ, List, Option}
use Rattle.newt_spec_store.specs.Store.{Store}
use Rattle.newt_spec_store.specs.ImageStore.{store_of_image}
use Rattle.newt_nsof_flat.specs.Stream.{stream_graph}

-- the store that an image is read as
abbrev pub readable : List ℕ → Option Store
readable = store_of_image stream_graph
