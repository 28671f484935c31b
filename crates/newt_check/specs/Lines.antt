-- What is written of a unit whose image is looked through. All of it is this project's own.
use Rattle.std.specs.Prelude.{◌≡◌, ℕ, ◌<◌, ◌≤◌, List, [], ◌∷◌, ◌++◌, length, codes}
use Rattle.std.specs.Prelude.{Option, Some, None}
use Rattle.newt_base.specs.Text.{decimal_text}
use Rattle.newt_base.specs.declared.Refusal.TheVariants.{Unit as NoUnit, Blocks}
use Rattle.newt_check.specs.declared.report.Report.{Report}
use Rattle.newt_check.specs.declared.report.Report.TheVariants.{Clean, Damaged}
use Rattle.newt_nsof_flat.specs.Stream.{stream_graph}
use Rattle.newt_spec_check.specs.Damage.{Damage, damage}
use Rattle.newt_spec_check.specs.declared.Layer.{Layer}
use Rattle.newt_spec_check.specs.declared.Layer.TheVariants as layer
use Rattle.newt_spec_store.specs.Cost.{cost}
use Rattle.newt_spec_store.specs.Image.{all_entries}
use Rattle.newt_spec_store.specs.OfImage.{blocks_of}
use Rattle.newt_spec_store.specs.Store.{Store}
use Rattle.newt_spec_world.specs.Reply as replies
use Rattle.newt_store_catalog.specs.Readable.{readable}

-- the word of a layer
abbrev pub layer_word : Layer → List ℕ
layer_word layer.Votes = codes "votes"
layer_word layer.Header = codes "header"
layer_word layer.RecordPlace = codes "record"
layer_word layer.Payload = codes "payload"
layer_word layer.Object = codes "object"
layer_word layer.Directory = codes "directory"
layer_word layer.Entry = codes "entry"
layer_word layer.Large = codes "large"
layer_word layer.Cost = codes "cost"

-- the line of a clean image: how many soups, entries and pages it has
unfoldable pub clean_line : ℕ → ℕ → ℕ → List ℕ
clean_line soups entries pages =
    codes "ok clean "
    ++ (decimal_text soups ++ 32 ∷ (decimal_text entries ++ 32 ∷ (decimal_text pages ++ 10 ∷ [])))

-- the line of a damaged one: the word of the layer, and the place
unfoldable pub damaged_line : Layer → ℕ → List ℕ
damaged_line layer place =
    codes "ok damaged " ++ (layer_word layer ++ 32 ∷ (decimal_text place ++ 10 ∷ []))

-- the line of a report
abbrev pub report_line : Report → List ℕ
report_line (Clean soups entries pages) = clean_line soups entries pages
report_line (Damaged layer place) = damaged_line layer place

-- The text is the line of the report on an image. It says clean exactly where the image is read as
-- a store, and counts its soups, entries and pages. Otherwise it says damaged, by the first row
-- that holds.
pub record IsReported (image text : List ℕ) : Type 0 where
  pub clean : (s : Store) → readable image ≡ Some s
      → text ≡ clean_line (length s.soups) (length (all_entries s)) (cost s)
  pub damaged : readable image ≡ None
      → (d : Damage) × (damage stream_graph image ≡ Some d)
      × (text ≡ damaged_line d.layer d.place)

-- The text is what is written for a device of this image: the line of the report on it, or that it
-- has too few or too many blocks for one.
pub record IsImageText (image text : List ℕ) : Type 0 where
  pub few : blocks_of image < 13 → text ≡ replies.reply_text (replies.Reply.refused Blocks)
  pub many : 4099 < blocks_of image → text ≡ replies.reply_text (replies.Reply.refused Blocks)
  pub reported : 13 ≤ blocks_of image → blocks_of image ≤ 4099 → IsReported image text

-- the same where there may be no device
abbrev pub IsChecked : Option (List ℕ) → List ℕ → Type 0
IsChecked None text = text ≡ replies.reply_text (replies.Reply.refused NoUnit)
IsChecked (Some image) text = IsImageText image text
