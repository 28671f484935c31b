-- What is read off a run of items.
use Rattle.std.specs.Prelude.{ℕ, Bool, true, false, List, [], ◌∷◌, flat_map, map, if◌then◌else◌}
use Rattle.newt_spec_world.specs.Reply.{Reply, reply_text}
use Rattle.newt_spec_world.specs.declared.command.Command.{Command}
use Rattle.newt_spec_script.specs.Script.{Item, is_quit, replies_to}

-- one of the items is a well-formed quit (a word of these definitions)
unfoldable pub quits_among : List Item → Bool
quits_among [] = false
quits_among (item ∷ items) = if is_quit item then true else quits_among items

module _ {W : Type 0} (answers : W → Command → W × Reply) where
  -- the texts of the replies to items, one for each (this project's own)
  abbrev pub reply_texts : W → List Item → List (List ℕ)
  reply_texts world items = map reply_text (replies_to answers world items)

  -- these texts, one after another (this project's own)
  unfoldable pub texts : W → List Item → List ℕ
  texts world items = flat_map reply_text (replies_to answers world items)
