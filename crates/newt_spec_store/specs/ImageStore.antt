-- The store of an image, as a function that computes. Its records give pages, its pages objects,
-- and its objects the store. The format is this project's own.
use Rattle.std.specs.Prelude.{ℕ, ◌==◌, ◌&&◌, Bool, false, List, [], map, find, fold, slice_get, Option, Some, None, option_map, option_and_then, if◌then◌else◌}
use Rattle.std.specs.List.{list_all, range_with_len}
use Rattle.std.specs.Option.{unwrap_or}
use Rattle.std.specs.FinMap as map
use Rattle.newt_graph.specs.Graph.{RawGraph}
use Rattle.newt_spec_image.specs.Records.{version}
use Rattle.newt_spec_image.specs.Pages.{Pages, pages, object_id, part_number, object_length}
use Rattle.newt_spec_image.specs.Objects.{Extent, Table, Objects, joined, pages_for}
use Rattle.newt_spec_graph.specs.Graph.{every}
use Rattle.newt_spec_store.specs.OfImage.{blocks_of}
use Rattle.newt_spec_store.specs.Store.{Store}
use Rattle.newt_spec_store.specs.StoreOf.{store_of}

-- the number of the first page that says it is this part of this object
abbrev pub page_of : Pages → ℕ → ℕ → Option ℕ
page_of live id part = option_map (λ e. e.0) (find (λ e. (object_id e.1 == id) && (part_number e.1 == part)) (map.entries live))

-- the extent of an object of so many bytes: a page for each part, none where one is missing
abbrev pub extent_by : Pages → ℕ → ℕ → Option Extent
extent_by live id size = option_map (λ numbers. record { length = size; numbers = numbers }) (every (map (page_of live id) (range_with_len 0 (pages_for size))))

-- the extent of each object; an object is as long as its first page says
abbrev pub table_of : Pages → Table
table_of live id = option_and_then (λ first. extent_by live id (object_length (unwrap_or (map.get live first) []))) (page_of live id 0)

-- there is a number, and it is this one
abbrev pub is_number : ℕ → Option ℕ → Bool
is_number number None = false
is_number number (Some n) = number == n

-- the page is the one of its part, and the object has the length that it says
abbrev pub is_page_of : Option Extent → ℕ × List ℕ → Bool
is_page_of None e = false
is_page_of (Some x) e = (object_length e.1 == x.length) && is_number e.0 (slice_get x.numbers (part_number e.1))

-- the objects, and this one too where it has an extent
abbrev pub with_extent : Pages → Objects → ℕ → Option Extent → Objects
with_extent live objects id None = objects
with_extent live objects id (Some x) = map.insert objects id (joined live x)

-- The objects of all pages; none where a page is not the one of its part of an object.
abbrev pub objects_of : Pages → Option Objects
objects_of live =
    if list_all (λ e. is_page_of (table_of live (object_id e.1)) e) (map.entries live)
    then Some (fold (λ objects e. with_extent live objects (object_id e.1) (table_of live (object_id e.1))) map.empty (map.entries live))
    else None

-- The store that an image is read as, where `graph_of` reads the texts of entries; none where it is
-- no readable store.
abbrev pub store_of_image : (List ℕ → Option RawGraph) → List ℕ → Option Store
store_of_image graph_of image =
    option_and_then (λ live. option_and_then (λ objects. store_of graph_of (version image) (map.entries objects) (blocks_of image)) (objects_of live)) (pages image)
