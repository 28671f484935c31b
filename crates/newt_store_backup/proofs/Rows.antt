-- Why a store is not restored, and what is written where there is no backup, worked by hand.
use Rattle.std.proofs.Common.{◌≡◌, refl, ℕ, ◌*◌, List, length, None, Some}
use Rattle.newt_base.specs.declared.Refusal.TheVariants as refusals
use Rattle.newt_spec_store.specs.Store.{Store}
use Rattle.newt_spec_world.specs.Reply as replies
use Rattle.newt_store_backup.specs.Restored.{refused_on}
use Rattle.newt_store_backup.specs.Written.{backed_up}

-- no device
no_device : (s : Store) → refused_on s None ≡ Some refusals.Unit
no_device s = refl

-- one of twelve blocks, and one of a block too many
too_few : (s : Store) (image : List ℕ) → length image ≡ 12 * 4096 → refused_on s (Some image) ≡ Some refusals.Blocks
too_few s image e = rw e refl

too_many : (s : Store) (image : List ℕ) → length image ≡ 4100 * 4096 → refused_on s (Some image) ≡ Some refusals.Blocks
too_many s image e = rw e refl

none_of_few : (image : List ℕ) → length image ≡ 12 * 4096 → backed_up (Some image) ≡ replies.reply_text (replies.Reply.refused refusals.Blocks)
none_of_few image e = rw e refl

none_of_many : (image : List ℕ) → length image ≡ 4100 * 4096 → backed_up (Some image) ≡ replies.reply_text (replies.Reply.refused refusals.Blocks)
none_of_many image e = rw e refl
