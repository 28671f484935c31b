-- What the units ask of a card, of a store that stands for its unit. This project's own.
use Rattle.std.specs.Prelude.{◌≡◌, ℕ, ◌*◌, Bool, true, IsTrue, List, length, Some}
use Rattle.std.proofs.Common.{ap, subst, refl, sym, ◌∙◌}
use Rattle.newt_host.specs.Moments.{Change as Event, image, bytes_after}
use Rattle.newt_host.specs.Outside.{Outside}
use Rattle.newt_spec_image.specs.Pages.{pages}
use Rattle.newt_spec_image.specs.Records.{version}
use Rattle.newt_pagebook.specs.Book.{Numbers, IsSameFor}
use Rattle.newt_spec_store.specs.Laid.{bare}
use Rattle.newt_spec_store.specs.OfImage.{blocks_of}
use Rattle.newt_spec_store.specs.Store.{Store as Plain}
use Rattle.newt_spec_store.specs.Valid.{valid, well_formed, fits}
use Rattle.newt_laws_images.proofs.Assembled.{read-valid}
use Rattle.newt_laws_images.proofs.Gathering.{image-sound}
use Rattle.std.specs.FinMap as map
use Rattle.newt_soupdir.specs.Bare.{bare_store}
use Rattle.newt_nsof_flat.specs.Stream.{stream_graph}
use Rattle.newt_objects_commit.proofs.Committing.{blocks-are}
use Rattle.newt_objects_commit.specs.Places.{place_of}
use Rattle.newt_objects_commit.specs.Names.{names_of}
use Rattle.newt_store.proofs.Reading.{both, read-back}
use Rattle.newt_store_catalog.specs.Readable.{readable}
use Rattle.newt_store_catalog.specs.Stands.{IsSound, StandsFor}
use Rattle.newt_store_catalog.specs.declared.catalog.Catalog.{Catalog}
use Rattle.newt_index_ranges.specs.declared.rows.SoupRanges.{SoupRanges}
use Rattle.newt_store_indexed.specs.declared.store.IndexedStore.{IndexedStore}
use Rattle.newt_store_indexed.specs.Stands.{StandsForOne, StandsOn}

-- only stores of this form are read
pub formed_read : (bytes : List ℕ) (s : Plain) → readable bytes ≡ Some s → IsTrue (well_formed s)
formed_read bytes s h =
    let is = image-sound stream_graph bytes s h in
    (both (well_formed s) (fits (blocks_of bytes) s) (read-valid stream_graph (version bytes) (map.entries is.objects) (blocks_of bytes) s is.reads)).0

-- and of an image of so many blocks only stores that are valid there
pub fits_read : (blocks : ℕ) (bytes : List ℕ) (s : Plain) → length bytes ≡ blocks * 4096 → readable bytes ≡ Some s → IsTrue (valid blocks s)
fits_read blocks bytes s size h =
    let is = image-sound stream_graph bytes s h in
    subst (λ n. IsTrue (valid n s)) (blocks-are bytes blocks size) (read-valid stream_graph (version bytes) (map.entries is.objects) (blocks_of bytes) s is.reads)

-- where memory and image stand for a store, the image is read as one whose soups are known
pub read_as : (catalog : Catalog) (rows : List SoupRanges) (now : List ℕ) → StandsForOne catalog rows now → (s : Plain) × (readable now ≡ Some s) × (bare s ≡ bare_store catalog.directory)
read_as catalog rows now one = (
  one.plain,
  read-back catalog.directory (place_of catalog.places) (names_of catalog.names) one.stands.texts one.plain now one.stands.holds one.stands.describes one.stands.fits one.stands.keeps,
  one.stands.describes.bare_is,
)

-- memory stays sound while nothing that concerns the unit changes
pub sound_kept : (told : Bool) (catalog : Catalog) (numbers : Numbers) (unit : ℕ) (old new : Outside) → IsSameFor told unit old new → IsSound told catalog numbers unit old → IsSound told catalog numbers unit new
sound_kept told catalog numbers unit old new same sound =
    let are = sound.kept.are in
    record {
      kept = record {
        none = sound.kept.none;
        are = record {
          live = are.live;
          are = record { named = are.are.named; of_image = λ tells. ap (λ (c : List Event). pages (bytes_after c)) (same.changes tells) ∙ are.are.of_image tells };
          is_table = are.is_table;
        };
      };
      places = sound.places;
      names = sound.names;
      formed = sound.formed;
    }

-- and the image stands for the same
pub one_kept : (told : Bool) (catalog : Catalog) (rows : List SoupRanges) (unit : ℕ) (old new : Outside) → IsSameFor told unit old new → (IsTrue told → StandsForOne catalog rows (image unit old.now)) → IsTrue told → StandsForOne catalog rows (image unit new.now)
one_kept told catalog rows unit old new same one tells = subst (λ (c : List Event). StandsForOne catalog rows (bytes_after c)) (sym (same.changes tells)) (one tells)

module _ {B : Type 0} (place : B → ℕ) (numbers : B → Numbers) (stands : Bool → B → Outside → Type 0) where
  -- its unit is read as a store, whose soups are known
  pub plain_read : (store : IndexedStore B) (outside : Outside) → StandsOn place numbers stands true store outside
      → (s : Plain) × (readable (image (place store.store.book) outside.now) ≡ Some s) × (bare s ≡ bare_store store.store.catalog.directory)
  plain_read store outside on = read_as store.store.catalog store.ranges (image (place store.store.book) outside.now) (on.plain refl)

  -- a call on another unit, on the input or on the output keeps it, where it keeps the book
  pub kept_on : ((told : Bool) (book : B) (old new : Outside) → stands told book old → IsSameFor told (place book) old new → stands told book new)
      → (told : Bool) (store : IndexedStore B) (old new : Outside) → StandsOn place numbers stands told store old → IsSameFor told (place store.store.book) old new → StandsOn place numbers stands told store new
  kept_on book_kept told store old new on same = record {
    is_open = record {
      book = book_kept told store.store.book old new on.is_open.book same;
      sound = sound_kept told store.store.catalog (numbers store.store.book) (place store.store.book) old new same on.is_open.sound;
      shows = λ tells.
          let w = on.is_open.shows tells in
          (w.0, subst (λ (c : List Event). StandsFor store.store.catalog w.0 (bytes_after c)) (sym (same.changes tells)) w.1);
    };
    plain = one_kept told store.store.catalog store.ranges (place store.store.book) old new same on.plain;
  }
