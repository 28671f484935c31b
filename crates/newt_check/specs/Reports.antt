-- What a report says of an image. This project's own.
use Rattle.std.specs.Prelude.{◌≡◌, ℕ, nat_lt, Bool, List, length, filter, map as list_map}
use Rattle.std.specs.Prelude.{Some, None}
use Rattle.std.specs.BTreeMap.{BTreeMap}
use Rattle.std.specs.FinMap as map
use Rattle.newt_nsof_flat.specs.Stream.{stream_graph}
use Rattle.newt_spec_check.specs.Damage.{damage, all_named, bad_entry}
use Rattle.newt_spec_check.specs.Damage.{no_bank, no_header, long_record}
use Rattle.newt_spec_check.specs.declared.Layer.{Layer}
use Rattle.newt_objects.specs.Changing.{HoldsObjects, total_pages}
use Rattle.newt_soupdir.specs.declared.rows.Directory.{Directory}
use Rattle.newt_spec_image.specs.Objects.{Objects, Table, IsTableOf}
use Rattle.newt_spec_image.specs.Records.{version}
use Rattle.newt_spec_store.specs.OfImage.{blocks_of}
use Rattle.newt_store_catalog.specs.Opening.{IsRoot}
use Rattle.newt_check.specs.Seen.{AreCounts, AreRecordBytes}
use Rattle.newt_spec_image.specs.Pages.{Pages, pages}
use Rattle.newt_spec_store.specs.Cost.{cost}
use Rattle.newt_spec_store.specs.Image.{all_entries}
use Rattle.newt_spec_store.specs.Store.{Store}
use Rattle.newt_store_catalog.specs.Readable.{readable}
use Rattle.newt_check.specs.declared.report.Report.{Report}
use Rattle.newt_check.specs.declared.report.Report.TheVariants.{Clean, Damaged}

-- The image is a store with so many soups and entries, which costs so many pages.
pub record IsClean (soups entries pages : ℕ) (image : List ℕ) : Type 0 where
  pub store : Store
  pub read : readable image ≡ Some store
  pub soups_are : length store.soups ≡ soups
  pub entries_are : length (all_entries store) ≡ entries
  pub pages_are : cost store ≡ pages

-- The image is no store, and the first row that holds of it is of this layer, at this place.
pub record IsDamaged (layer : Layer) (place : ℕ) (image : List ℕ) : Type 0 where
  pub no_store : readable image ≡ None
  pub first : damage stream_graph image ≡ Some (record { layer = layer; place = place })

-- The report says what the image is: a store, or none, and then the first row that holds of it.
abbrev pub IsReport : Report → List ℕ → Type 0
IsReport (Clean soups entries pages) image = IsClean soups entries pages image
IsReport (Damaged layer place) image = IsDamaged layer place image

-- none of the first three rows holds: the image has records
pub record HasRecords (image : List ℕ) : Type 0 where
  pub votes : no_bank image ≡ None
  pub header_is : no_header image ≡ None
  pub record_is : long_record image ≡ None

-- it has records, and yet no pages: a payload has not its form
pub record IsUnformed (image : List ℕ) : Type 0 where
  pub whole : HasRecords image
  pub no_pages : pages image ≡ None

-- the pages of the image are no objects
abbrev pub HasNoObjects : List ℕ → Type 0
HasNoObjects image =
    (live : Pages) (table : Table) → pages image ≡ Some live → IsTableOf live table → ⊥

-- The image holds these objects, of which object 0 is this directory and no record breaks a rule;
-- the ids above 0 and how often each id is named are known, and the pages that the objects take.
pub record HasSoundRecords (now : List ℕ) (texts : Objects) (directory : Directory) (ids : List ℕ)
    (counts : BTreeMap ℕ Bool) (blocks pages : ℕ) : Type 0 where
  pub holds : HoldsObjects now texts
  pub root : IsRoot (version now) directory texts
  pub records : bad_entry stream_graph (version now) (map.entries texts) ≡ None
  pub bytes : AreRecordBytes texts
  pub ids_are : ids ≡ list_map (λ o. o.0) (filter (λ o. nat_lt 0 o.0) (map.entries texts))
  pub counted : AreCounts (all_named (map.entries texts)) counts
  pub blocks_are : blocks_of now ≡ blocks
  pub pages_are : pages ≡ total_pages texts
