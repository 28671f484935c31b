-- Steps, worked by hand: a card that fails is thrown out, and the next mount tells which store it holds.
use Rattle.std.proofs.Common.{◌≡◌, refl, inl, inr, ℕ, List, [], ◌∷◌, ◌++◌, map, codes, Some, true, false}
use Rattle.std.specs.Prelude.{Ok}
use Rattle.newt_spec_store.specs.Store.{Store, new_store}
use Rattle.newt_spec_world.specs.declared.command.Command.{Command}
use Rattle.newt_spec_world.specs.declared.command.Command.TheVariants as command
use Rattle.newt_spec_world.specs.Answer.{after, answer}
use Rattle.newt_spec_world.specs.Reply.{Reply, reply_line}
use Rattle.newt_spec_world.specs.Step.{Step, plain, found, thrown, halfway, with_media, world_thrown, world_halfway}
use Rattle.newt_spec_world.specs.World.{World, Device, Media, blank, one, two, lost, device, stores_on}
use Rattle.newt_spec_script.specs.Rows.{IsRun, Row, thrown_count}
use Rattle.newt_spec_script.specs.Script.{Item}
use Rattle.newt_test_definitions.specs.Worlds.{N, S, add_text, blank_units, empty_frame, fresh, k, store_on}
use Rattle.newt_test_definitions.proofs.Tables.{open_tables}

-- ---- what becomes of a command

pub data Fate : Type 0 where
  -- no card fails
  goes : Fate
  -- no card fails, and this unit is found to hold this
  finds : ℕ → Media → Fate
  -- the card of this unit fails
  throws : ℕ → Fate
  -- the card of the source of a move fails, when the target has the entry
  halves : ℕ → Fate

abbrev row_of : World → Command → Fate → Row World
row_of w c goes = answer w c
row_of w c (finds u m) = answer (with_media w u m) c
row_of w c (throws u) = (world_thrown w c u, Reply.thrown u)
row_of w c (halves u) = (world_halfway w c u, Reply.thrown u)

abbrev rows_of : World → List (Command × Fate) → List (Row World)
rows_of w [] = []
rows_of w (x ∷ xs) = row_of w x.0 x.1 ∷ rows_of (row_of w x.0 x.1).0 xs

abbrev items : List (Command × Fate) → List Item
items xs = map (λ (x : Command × Fate). let item : Item = Ok x.0 in item) xs

abbrev lines : World → List (Command × Fate) → List (List ℕ)
lines w xs = map (λ (row : Row World). reply_line row.1) (rows_of w xs)

-- ---- an add whose card fails

-- a store with a soup S and no entry
abbrev with_soup : World
with_soup = after (blank_units 1) (fresh ++ command.Soup 0 S ∷ [])

abbrev empty_soup : Store
empty_soup = Rattle.newt_spec_store.specs.Store.make_soup S (new_store (codes "Internal") 7)

-- the store with the entry
abbrev one_entry : Store
one_entry = Rattle.newt_spec_store.specs.Store.change_soup S (Rattle.newt_spec_store.specs.Store.add_entry 0 empty_frame) empty_soup

abbrev failed_add : Media → List (Command × Fate)
failed_add held = (command.Add 0 S empty_frame, throws 0) ∷ (command.Get 0 S 0, goes) ∷ (command.Mount 0, finds 0 held) ∷ (command.Soups 0, goes) ∷ []

-- before the gate
lost_add : lines with_soup (failed_add (one empty_soup)) ≡ map codes ("error 50 device 0" ∷ "error 25 notmounted" ∷ "ok 7 Internal" ∷ "ok S 0 0" ∷ [])
unfolding open_tables
lost_add = refl

-- after it
kept_add : lines with_soup (failed_add (one one_entry)) ≡ map codes ("error 50 device 0" ∷ "error 25 notmounted" ∷ "ok 7 Internal" ∷ "ok S 0 1" ∷ [])
unfolding open_tables
kept_add = refl

-- both are runs, and no other store may be found
lost_is_run : IsRun Step with_soup (items (failed_add (one empty_soup))) (rows_of with_soup (failed_add (one empty_soup)))
unfolding open_tables
lost_is_run = (
  thrown {u = 0} refl refl,
  (
    plain refl refl,
    (
      found {u = 0} refl (record { on = record { blocks = 13; media = two empty_soup one_entry; mounted = false }; there = refl; holds = one empty_soup; may = inl refl; is = refl }) refl,
      (plain refl refl, tt),
    ),
  ),
)

kept_is_run : IsRun Step with_soup (items (failed_add (one one_entry))) (rows_of with_soup (failed_add (one one_entry)))
unfolding open_tables
kept_is_run = (
  thrown {u = 0} refl refl,
  (
    plain refl refl,
    (
      found {u = 0} refl (record { on = record { blocks = 13; media = two empty_soup one_entry; mounted = false }; there = refl; holds = one one_entry; may = inr refl; is = refl }) refl,
      (plain refl refl, tt),
    ),
  ),
)

-- what the unit may have, and how often it was thrown out
two_stores : map (λ (row : Row World). stores_on row.0 0) (rows_of with_soup (failed_add (one one_entry)))
    ≡ (empty_soup ∷ one_entry ∷ []) ∷ (empty_soup ∷ one_entry ∷ []) ∷ (one_entry ∷ []) ∷ (one_entry ∷ []) ∷ []
unfolding open_tables
two_stores = refl

once : thrown_count 0 (rows_of with_soup (failed_add (one one_entry))) ≡ 1
unfolding open_tables
once = refl

-- ---- a move whose source fails when the target has the entry

-- two cards with a soup N, of which the first has an entry
abbrev two_mounted : World
two_mounted = after (blank_units 2) (store_on 0 7 ++ store_on 1 9 ++ command.Soup 0 N ∷ command.Soup 1 N ∷ add_text 0 N (codes "a") ∷ [])

abbrev failed_move : List (Command × Fate)
failed_move = (command.Move 0 N 0 1 N, halves 0) ∷ (command.Get 1 N 0, goes) ∷ (command.Get 0 N 0, goes) ∷ (command.Stores, goes) ∷ []

-- the target has it, and is the default from here on
moved : lines two_mounted failed_move ≡ map codes ("error 50 device 0" ∷ "ok 0 {k: \"a\"}" ∷ "error 25 notmounted" ∷ "ok 1 9 Card" ∷ [])
unfolding open_tables
moved = refl

moved_is_run : IsRun Step two_mounted (items failed_move) (rows_of two_mounted failed_move)
unfolding open_tables
moved_is_run = (halfway {u = 0} refl refl refl refl, (plain refl refl, (plain refl refl, (plain refl refl, tt))))

default_goes_on : (world_halfway two_mounted (command.Move 0 N 0 1 N) 0).default ≡ Some 1
unfolding open_tables
default_goes_on = refl

-- ---- a format whose card fails

abbrev failed_format : Media → List (Command × Fate)
failed_format held = (command.Format 0 (codes "Internal") 7, throws 0) ∷ (command.Mount 0, throws 0) ∷ (command.Mount 0, finds 0 held) ∷ []

-- anything may be found, or nothing
nothing_found : lines (blank_units 1) (failed_format blank) ≡ map codes ("error 50 device 0" ∷ "error 50 device 0" ∷ "error 22 nostore" ∷ [])
unfolding open_tables
nothing_found = refl

something_found : lines (blank_units 1) (failed_format (one empty_soup)) ≡ map codes ("error 50 device 0" ∷ "error 50 device 0" ∷ "ok 7 Internal" ∷ [])
unfolding open_tables
something_found = refl

nothing_is_run : IsRun Step (blank_units 1) (items (failed_format blank)) (rows_of (blank_units 1) (failed_format blank))
unfolding open_tables
nothing_is_run = (
  thrown {u = 0} refl refl,
  (
    thrown {u = 0} refl refl,
    (
      found {u = 0} refl (record { on = record { blocks = 13; media = lost; mounted = false }; there = refl; holds = blank; may = inl refl; is = refl }) refl,
      tt,
    ),
  ),
)
