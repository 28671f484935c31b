-- What an image is read as, where a store lies in its objects.
use Rattle.newt_spec_image.specs.Records.{version}
use Rattle.std.proofs.Common.{◌≡◌, ℕ, ◌≤◌, ◌/◌, ◌&&◌, Bool, true, false, List, length, Some, refl, sym, ◌∙◌, ap, subst, arith, IsTrue}
use Rattle.std.proofs.lemmas.Bool.Decides.{nat_tests}
use Rattle.newt_spec_image.specs.Objects.{Objects}
use Rattle.newt_spec_image.specs.Pages.{cap}
use Rattle.newt_objects.specs.Changing.{HoldsObjects, total_pages}
use Rattle.newt_spec_store.specs.Store.{Store}
use Rattle.newt_spec_store.specs.Cost.{cost}
use Rattle.newt_spec_store.specs.Lies.{Places}
use Rattle.newt_spec_store.specs.OfImage.{blocks_of}
use Rattle.newt_spec_store.specs.Valid.{valid, fits, well_formed, keeps_version}
use Rattle.newt_laws_images.proofs.Gathering.{image-by-objects}
use Rattle.newt_laws_images.proofs.Whole.{lies-read}
use Rattle.newt_laws_images.proofs.Totals.{lies-total}
use Rattle.newt_laws_changes.specs.Written.{Names}
use Rattle.newt_soupdir.specs.declared.rows.Directory.{Directory}
use Rattle.newt_nsof_flat.specs.Stream.{stream_graph}
use Rattle.newt_nsof_flat.proofs.Streams.{reads_graphs}
use Rattle.newt_store_catalog.specs.Readable.{readable}
use Rattle.newt_store_catalog.specs.Stands.{Describes}

pub both : (a b : Bool) → (a && b) ≡ true → (a ≡ true) × (b ≡ true)
both true b e = (refl, e)
both false b e = absurd (cc)

pub join : (a b : Bool) → a ≡ true → b ≡ true → (a && b) ≡ true
join a b p q = ap (λ (x : Bool). x && b) p ∙ q

fits-test : (blocks : ℕ) (s : Store) → cost s ≤ cap blocks → fits blocks s ≡ true
fits-test blocks s low = grind (arith, nat_tests)

pub is-valid : (blocks : ℕ) (s : Store) → well_formed s ≡ true → cost s ≤ cap blocks → valid blocks s ≡ true
is-valid blocks s formed low = join (well_formed s) (fits blocks s) formed (fits-test blocks s low)

-- an image that holds objects which write down a store that fits, and that its version keeps, is read as this store
pub read-back : (directory : Directory) (place : Places) (names : Names) (texts : Objects) (s : Store) (left : List ℕ) → HoldsObjects left texts → Describes directory place names texts s → cost s ≤ cap (blocks_of left)
    → IsTrue (keeps_version (version left) s) → readable left ≡ Some s
read-back directory place names texts s left holds describes low keeps =
    image-by-objects stream_graph left holds.live texts holds.of_image holds.are
    ∙ lies-read stream_graph (version left) texts place (blocks_of left) s reads_graphs describes.lies keeps (is-valid (blocks_of left) s describes.formed low)

-- an image of the same version keeps the store, and one of version 2 keeps each
pub keeps-same : (now left : List ℕ) (s : Store) → version left ≡ version now → IsTrue (keeps_version (version now) s) → IsTrue (keeps_version (version left) s)
keeps-same now left s same keeps = subst (λ (v : ℕ). IsTrue (keeps_version v s)) (sym same) keeps

pub keeps-all : (left : List ℕ) (s : Store) → version left ≡ 2 → IsTrue (keeps_version (version left) s)
keeps-all left s is = subst (λ (v : ℕ). IsTrue (keeps_version v s)) (sym is) refl

-- as many pages as the store costs
pub total-cost : (directory : Directory) (place : Places) (names : Names) (texts : Objects) (s : Store) → Describes directory place names texts s → total_pages texts ≡ cost s
total-cost directory place names texts s describes = lies-total texts place s describes.lies describes.formed

-- an image with as many bytes
pub same-cap : (now left : List ℕ) (n : ℕ) → length left ≡ length now → n ≤ cap (blocks_of now) → n ≤ cap (blocks_of left)
same-cap now left n size low = subst (λ (k : ℕ). n ≤ cap (k / 4096)) (sym size) low
