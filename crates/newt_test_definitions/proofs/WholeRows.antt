-- Steps of the whole, worked by hand: what a watch is told and what becomes of a working copy where a card fails.
-- Beside them, how many notes a watch has lost.
use Rattle.std.proofs.Common.{◌≡◌, ◌≤◌, ◌<◌, ◌-◌, ◌^◌, arith, refl, inl, inr, ℕ, List, [], ◌∷◌}
use Rattle.std.proofs.Common.{◌++◌, map, length, codes, false}
use Rattle.std.specs.Prelude.{Ok}
use Rattle.newt_notify.specs.declared.note.Note.{Note}
use Rattle.newt_notify.specs.Watch.{lost_of}
use Rattle.newt_spec_store.specs.Store.{Store, new_store, make_soup, add_entry, change_entry, change_soup, with_graph}
use Rattle.newt_spec_world.specs.declared.command.Command.{Command}
use Rattle.newt_spec_world.specs.declared.command.Command.TheVariants as command
use Rattle.newt_spec_world.specs.Reply.{Reply, reply_line}
use Rattle.newt_spec_world.specs.Step.{with_media}
use Rattle.newt_spec_world.specs.World.{one, two}
use Rattle.newt_spec_whole.specs.Answer.{whole_answer, whole_later}
use Rattle.newt_spec_whole.specs.Step.{WholeStep, plain, found, thrown, halfway, whole_thrown, whole_halfway}
use Rattle.newt_spec_whole.specs.Whole.{Whole, bare_whole, in_world, stores_on}
use Rattle.newt_spec_script.specs.Rows.{IsRun, Row}
use Rattle.newt_spec_script.specs.Script.{Item}
use Rattle.newt_test_definitions.specs.Wholes.{a_number, with_a, with_entry}
use Rattle.newt_test_definitions.specs.Worlds.{N, S, add_text, blank_units, store_on}
use Rattle.newt_test_definitions.proofs.Tables.{open_tables}

-- ---- what becomes of a command

-- no card fails
abbrev goes : Command → Whole → Row Whole
goes c h = whole_answer h c

-- no card fails, and unit 0 is found to hold this store
abbrev finds : Store → Command → Whole → Row Whole
finds s c h = whole_answer (in_world h (with_media h.world 0 (one s))) c

-- the card of unit 0 fails in this, which is asked of the world
abbrev fails_in : Command → Whole → Row Whole
fails_in asked h = (whole_thrown h asked 0, Reply.thrown 0)

-- the card of the source of a move fails, when the target has the entry
abbrev halves : Command → Whole → Row Whole
halves c h = (whole_halfway h c 0, Reply.thrown 0)

abbrev rows_from : Whole → List (Whole → Row Whole) → List (Row Whole)
rows_from h [] = []
rows_from h (f ∷ fs) = f h ∷ rows_from (f h).0 fs

abbrev lines_of : List (Row Whole) → List (List ℕ)
lines_of rows = map (λ (row : Row Whole). reply_line row.1) rows

abbrev sent : List Command → List Item
sent cs = map (λ (c : Command). let item : Item = Ok c in item) cs

-- ---- a move whose source fails when the target has the entry

-- two cards with a soup N, of which the first has an entry, and a watch of N
abbrev watched : Whole
watched = whole_later (bare_whole (blank_units 2)) (store_on 0 7 ++ store_on 1 9 ++ command.Soup 0 N ∷ command.Soup 1 N ∷ add_text 0 N (codes "a") ∷ command.Watch N 8 ∷ [])

abbrev half_told : List (Row Whole)
half_told = rows_from watched (halves (command.Move 0 N 0 1 N) ∷ goes (command.Notes 0) ∷ [])

-- that it was added is told, and no more
added_is_told : lines_of half_told ≡ map codes ("error 50 device 0" ∷ "ok 0 add 1 0 0" ∷ [])
unfolding open_tables
added_is_told = refl

half_told_is_run : IsRun WholeStep watched (sent (command.Move 0 N 0 1 N ∷ command.Notes 0 ∷ [])) half_told
unfolding open_tables
half_told_is_run = (halfway {u = 0} refl refl refl refl, (plain refl refl, tt))

-- where the target does not have it nothing is told
abbrev not_told : List (Row Whole)
not_told = rows_from watched (fails_in (command.Move 0 N 0 1 N) ∷ goes (command.Notes 0) ∷ [])

nothing_is_told : lines_of not_told ≡ map codes ("error 50 device 0" ∷ "ok 0" ∷ [])
unfolding open_tables
nothing_is_told = refl

not_told_is_run : IsRun WholeStep watched (sent (command.Move 0 N 0 1 N ∷ command.Notes 0 ∷ [])) not_told
unfolding open_tables
not_told_is_run = (thrown {u = 0} (command.Move 0 N 0 1 N) (inl refl) refl refl, (plain refl refl, tt))

-- ---- a save whose card fails

-- the store with the entry {a: 1} of the minute 5, and with {a: 2} of the minute 6
abbrev before_save : Store
before_save = change_soup S (add_entry 5 (with_a 1)) (make_soup S (new_store (codes "Internal") 7))

abbrev after_save : Store
after_save = change_soup S (change_entry 0 (with_graph 6 (with_a 2))) before_save

-- a copy of the entry is edited, at the minute 6
abbrev edited_once : Whole
edited_once = whole_later (bare_whole (blank_units 1)) (with_entry ++ command.Open 0 S 0 ∷ command.Edit 0 (codes "a" ∷ []) (a_number 2) ∷ command.Time 6 ∷ [])

abbrev after_failure : List Command
after_failure = command.Save 0 ∷ command.Draft 0 ∷ command.Save 0 ∷ command.Mount 0 ∷ command.Save 0 ∷ []

-- it fails in the change, and this store is found then
abbrev change_failed : Store → List (Row Whole)
change_failed found_store = rows_from edited_once (fails_in (command.Change 0 S 0 (with_a 2)) ∷ goes (command.Draft 0) ∷ goes (command.Save 0) ∷ finds found_store (command.Mount 0) ∷ goes (command.Save 0) ∷ [])

-- the copy is as it was, and its entry may be saved or not
saved_again : lines_of (change_failed before_save) ≡ map codes ("error 50 device 0" ∷ "ok {a: 2}" ∷ "error 32 entry" ∷ "ok 7 Internal" ∷ "ok" ∷ [])
unfolding open_tables
saved_again = refl

saved_before : lines_of (change_failed after_save) ≡ map codes ("error 50 device 0" ∷ "ok {a: 2}" ∷ "error 32 entry" ∷ "ok 7 Internal" ∷ "error 45 changed 6" ∷ [])
unfolding open_tables
saved_before = refl

two_stores : map (λ (row : Row Whole). stores_on row.0 0) (change_failed after_save)
    ≡ (before_save ∷ after_save ∷ []) ∷ (before_save ∷ after_save ∷ []) ∷ (before_save ∷ after_save ∷ []) ∷ (after_save ∷ []) ∷ (after_save ∷ []) ∷ []
unfolding open_tables
two_stores = refl

saved_again_is_run : IsRun WholeStep edited_once (sent after_failure) (change_failed before_save)
unfolding open_tables
saved_again_is_run = (
  thrown {u = 0} (command.Change 0 S 0 (with_a 2)) (inr (inl refl)) refl refl,
  (
    plain refl refl,
    (
      plain refl refl,
      (
        found {u = 0} refl (record { on = record { blocks = 13; media = two before_save after_save; mounted = false }; there = refl; holds = one before_save; may = inl refl; is = refl }) refl,
        (plain refl refl, tt),
      ),
    ),
  ),
)

-- it fails in the reading: the unit holds what it held
abbrev reading_failed : List (Row Whole)
reading_failed = rows_from edited_once (fails_in (command.Get 0 S 0) ∷ goes (command.Draft 0) ∷ goes (command.Save 0) ∷ goes (command.Mount 0) ∷ goes (command.Save 0) ∷ [])

saved_then : lines_of reading_failed ≡ map codes ("error 50 device 0" ∷ "ok {a: 2}" ∷ "error 32 entry" ∷ "ok 7 Internal" ∷ "ok" ∷ [])
unfolding open_tables
saved_then = refl

reading_failed_is_run : IsRun WholeStep edited_once (sent after_failure) reading_failed
unfolding open_tables
reading_failed_is_run = (thrown {u = 0} (command.Get 0 S 0) (inl refl) refl refl, (plain refl refl, (plain refl refl, (plain refl refl, (plain refl refl, tt)))))

-- ---- an open and a revert whose card fails

-- no copy is opened, and the copy that is reverted keeps its draft
abbrev neither : List (Row Whole)
neither = rows_from edited_once (fails_in (command.Get 0 S 0) ∷ goes (command.Draft 1) ∷ goes (command.Mount 0) ∷ fails_in (command.Get 0 S 0) ∷ goes (command.Draft 0) ∷ [])

neither_is_said : lines_of neither ≡ map codes ("error 50 device 0" ∷ "error 46 copy" ∷ "ok 7 Internal" ∷ "error 50 device 0" ∷ "ok {a: 2}" ∷ [])
unfolding open_tables
neither_is_said = refl

neither_is_run : IsRun WholeStep edited_once (sent (command.Open 0 S 0 ∷ command.Draft 1 ∷ command.Mount 0 ∷ command.Revert 0 ∷ command.Draft 0 ∷ [])) neither
unfolding open_tables
neither_is_run = (thrown {u = 0} (command.Get 0 S 0) (inl refl) refl refl, (plain refl refl, (plain refl refl, (thrown {u = 0} (command.Get 0 S 0) (inl refl) refl refl, (plain refl refl, tt)))))

-- ---- how many notes a watch has lost

-- the count is exact up to 2^32 - 1, and stops there
counted : (most : ℕ) (notes : List Note) → length notes - most < 2 ^ 32
    → lost_of most notes ≡ length notes - most
counted most notes few = omega (arith, few)

stopped : (most : ℕ) (notes : List Note) → 2 ^ 32 ≤ length notes - most
    → lost_of most notes ≡ 4_294_967_295
stopped most notes many = omega (arith, many)
