-- What holds of the worlds of a script.
use Rattle.std.proofs.Common.{◌≡◌, refl, ℕ, List, [], ◌∷◌, map, filter_map, Option, Some, None, Ok, Err}
use Rattle.newt_spec_graph.specs.Lists.{Each}
use Rattle.newt_spec_world.specs.World.{World}
use Rattle.newt_spec_world.specs.Answer.{answer}
use Rattle.newt_spec_script.specs.Line.{Parsed, parsed}
use Rattle.newt_spec_script.specs.Script.{Item, Readers, item_of, items_of, parsed_lines, lines, without_return, world_after}
use Rattle.newt_laws_world.specs.Worlds.{AllValid}
use Rattle.newt_laws_world.specs.Settled.{IsSettled, MountedApart}
use Rattle.newt_laws_world.specs.Scripts.{ReadsWithin, ItemHasForm}
use Rattle.newt_laws_world.proofs.Forms.{Good, line-good, item-form}
use Rattle.newt_laws_world.proofs.Fitting.{answer-valid}
use Rattle.newt_laws_world.proofs.Settled.{answer-settled}
use Rattle.newt_laws_world.proofs.Mounted.{answer-apart}

lines-good : (ls : List (List ℕ)) → Each Good (filter_map (λ l. parsed (without_return l)) ls)
lines-good [] = tt
lines-good (l ∷ ls) = go (parsed (without_return l)) refl (lines-good ls)
  where
    go : (o : Option Parsed) → parsed (without_return l) ≡ o → Each Good (filter_map (λ l. parsed (without_return l)) ls)
        → Each Good (Rattle.std.specs.List.cons_option o (filter_map (λ l. parsed (without_return l)) ls))
    go None e more = more
    go (Some p) e more = (line-good (without_return l) p e, more)

item-has-form : (rs : Readers) → ReadsWithin rs → (p : Parsed) → Good p → ItemHasForm (item_of rs p)
item-has-form rs within p good = go (item_of rs p) refl
  where
    go : (item : Item) → item_of rs p ≡ item → ItemHasForm item
    go (Ok c) e = item-form rs within.literals within.streams p good c e
    go (Err r) e = tt

items-form : (rs : Readers) → ReadsWithin rs → (ps : List Parsed) → Each Good ps → Each ItemHasForm (map (item_of rs) ps)
items-form rs within [] good = tt
items-form rs within (p ∷ ps) good = (item-has-form rs within p good.0, items-form rs within ps good.1)

pub script-forms : (rs : Readers) (script : List ℕ) → ReadsWithin rs → Each ItemHasForm (items_of rs script)
script-forms rs script within = items-form rs within (parsed_lines script) (lines-good (lines script))

pub script-valid : (w : World) (items : List Item) → AllValid w → Each ItemHasForm items → AllValid (world_after answer w items)
script-valid w [] h k = h
script-valid w (Ok c ∷ items) h k = script-valid (answer w c).0 items (answer-valid w c h k.0) k.1
script-valid w (Err r ∷ items) h k = script-valid w items h k.1

pub script-settled : (w : World) (items : List Item) → IsSettled w → IsSettled (world_after answer w items)
script-settled w [] h = h
script-settled w (Ok c ∷ items) h = script-settled (answer w c).0 items (answer-settled w c h)
script-settled w (Err r ∷ items) h = script-settled w items h

pub script-apart : (w : World) (items : List Item) → MountedApart w → MountedApart (world_after answer w items)
script-apart w [] h = h
script-apart w (Ok c ∷ items) h = script-apart (answer w c).0 items (answer-apart w c h)
script-apart w (Err r ∷ items) h = script-apart w items h
