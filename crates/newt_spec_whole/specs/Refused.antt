-- What the commands of watches and working copies are refused for. Numbers, words and order of the
-- refusals are this project's own.
use Rattle.std.specs.Prelude.{ℕ, Bool, false, not, nat_lt, List, [], ◌∷◌, Option, Some, None}
use Rattle.std.specs.Prelude.{option_and_then, is_some, is_none}
use Rattle.newt_base.specs.declared.Refusal.{Refusal}
use Rattle.newt_base.specs.declared.Refusal.TheVariants.{Watch as NoWatch, Copy as NoCopy}
use Rattle.newt_base.specs.declared.Refusal.TheVariants.{Entry as NoEntry, Changed, Path as NoPath}
use Rattle.newt_base.specs.declared.Refusal.TheVariants.{Limit, Size, Full}
use Rattle.newt_base.specs.Refusals.{Checks}
use Rattle.newt_graph.specs.Graph.{RawGraph}
use Rattle.newt_graph.specs.Meeting.{normal_form}
use Rattle.newt_spec_graph.specs.Limits.{is_within}
use Rattle.newt_spec_store.specs.Keys.{Path}
use Rattle.newt_spec_store.specs.Cost.{skeleton_length}
use Rattle.newt_work.specs.Work.{Copy, is_based, draft_with, drafted}
use Rattle.newt_spec_world.specs.Alias.{Spot}
use Rattle.newt_spec_world.specs.Refused.{Check, checks, full, on_some, no_unit, not_mounted}
use Rattle.newt_spec_world.specs.Refused.{no_soup, no_entry}
use Rattle.newt_spec_world.specs.declared.command.Command.{Command}
use Rattle.newt_spec_world.specs.declared.command.Command.TheVariants as command
use Rattle.newt_spec_whole.specs.Whole.{Whole, watch, free_watch, copy, free_copy, living, change_of}

-- ---- watches

-- no watch has this number (this project's own)
abbrev pub no_watch : Whole → ℕ → Check
no_watch h n = (NoWatch, is_none (watch h n))

-- eight watches are there (this project's own)
abbrev pub no_free_watch : Whole → Check
no_free_watch h = (Limit, is_none (free_watch h))

-- ---- working copies

-- no working copy has this number (this project's own)
abbrev pub no_copy : Whole → ℕ → Check
no_copy h n = (NoCopy, is_none (copy h n))

-- sixteen working copies are there (this project's own)
abbrev pub no_free_copy : Whole → Check
no_free_copy h = (Limit, is_none (free_copy h))

-- the test of the copy and of its entry, where both are there, or false
-- (a word of these definitions)
abbrev pub on_living : Whole → ℕ → (Copy → Spot → Bool) → Bool
on_living h n test = on_some (copy h n) (λ k. on_some (living h k) (test k))

-- the entry of the copy is not there, or its store is not mounted (this project's own)
abbrev pub entry_gone : Whole → ℕ → Check
entry_gone h n = (NoEntry, on_some (copy h n) (λ k. is_none (living h k)))

-- the time or the graph of the entry is not that of the copy's base (this project's own)
abbrev pub entry_changed : Whole → ℕ → Check
entry_changed h n = (Changed, on_living h n (λ k s. not (is_based s.entry.time s.entry.graph k)))

-- the entry's store with the draft would cost more pages than its unit takes (this project's own)
abbrev pub no_room : Whole → ℕ → Check
no_room h n = (Full, on_living h n (λ k s. (full h.world s.unit (change_of k s)).1))

-- a slot of the draft before the last is missing, or a step is not taken from a frame
-- (this project's own)
abbrev pub no_path_in : Whole → ℕ → Path → RawGraph → Check
no_path_in h n path g = (NoPath, on_some (copy h n) (λ k. is_none (draft_with path g k)))

-- the edited draft would pass a limit of one graph (this project's own)
abbrev pub draft_past_limits : Whole → ℕ → Path → RawGraph → Check
draft_past_limits h n path g = (
  Limit,
  on_some (copy h n)
      (λ k. on_some (draft_with path g k) (λ r. not (is_within (normal_form r)))),
)

-- the skeleton of the edited draft is too large (this project's own)
abbrev pub draft_too_large : Whole → ℕ → Path → RawGraph → Check
draft_too_large h n path g = (
  Size,
  on_some (copy h n)
      (λ k. nat_lt 64_000 (skeleton_length (drafted path g k).draft)),
)

-- ---- the table

-- the table: the tests of each command in the order in which they are tried (this project's own)
unfoldable pub whole_checks : Whole → Command → Checks
whole_checks h (command.Watch s most) = no_free_watch h ∷ []
whole_checks h (command.Notes n) = no_watch h n ∷ []
whole_checks h (command.Unwatch n) = no_watch h n ∷ []
whole_checks h (command.Open u s uid) =
    no_unit h.world u ∷ not_mounted h.world u ∷ no_soup h.world u s ∷ no_entry h.world u s uid
    ∷ no_free_copy h ∷ []
whole_checks h (command.Draft n) = no_copy h n ∷ []
whole_checks h (command.Edit n path g) =
    no_copy h n ∷ no_path_in h n path g ∷ draft_past_limits h n path g ∷ draft_too_large h n path g
    ∷ []
whole_checks h (command.Save n) =
    no_copy h n ∷ entry_gone h n ∷ entry_changed h n ∷ no_room h n ∷ []
whole_checks h (command.Revert n) = no_copy h n ∷ entry_gone h n ∷ []
whole_checks h (command.Discard n) = no_copy h n ∷ []
whole_checks h c = checks h.world c
