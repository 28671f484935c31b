-- What is written of a unit's backup. All of it is this project's own.
use Rattle.std.specs.Prelude.{ℕ, ◌||◌, nat_lt, List, Option, Some, None, if◌then◌else◌}
use Rattle.newt_base.specs.declared.Refusal.TheVariants.{Unit as NoUnit, Blocks, Nostore}
use Rattle.newt_spec_nsof.specs.Written.{nsof}
use Rattle.newt_spec_store.specs.OfImage.{blocks_of}
use Rattle.newt_spec_store.specs.Store.{Store}
use Rattle.newt_spec_world.specs.Reply as replies
use Rattle.newt_backup.specs.Backup.{backup}
use Rattle.newt_store_catalog.specs.Readable.{readable}

-- the streamed text of a store's backup, or the line that there is none
abbrev pub store_text : Option Store → List ℕ
store_text None = replies.reply_text (replies.Reply.refused Nostore)
store_text (Some s) = nsof (backup s)

-- what is written of a device of this image: the text of its store's backup, or the line that says
-- why there is none
abbrev pub backed_up : Option (List ℕ) → List ℕ
backed_up None = replies.reply_text (replies.Reply.refused NoUnit)
backed_up (Some image) =
    if nat_lt (blocks_of image) 13 || nat_lt 4099 (blocks_of image) then replies.reply_text (replies.Reply.refused Blocks) else store_text (readable image)
