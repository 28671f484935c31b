-- What the change that a command makes of a store programs is no more than the most that the command may.
use Rattle.std.proofs.Common.{arith, ◌≡◌, refl, ap, sym, ◌∙◌, subst, ℕ, ◌≤◌, List, [], ◌∷◌, Bool, true, false, cond, Option, Some, None, ◌==◌}
use Rattle.std.specs.Option.{is_some}
use Rattle.std.proofs.lemmas.Bool.{eq-eqb, ne_eqb}
use Rattle.newt_base.specs.Refusals.{Checks, first_of}
use Rattle.newt_graph.specs.Graph.{RawGraph}
use Rattle.newt_graph.specs.Meeting.{normal_form}
use Rattle.newt_spec_graph.specs.Limits.{within_limits}
use Rattle.newt_spec_graph.specs.Slots.{put}
use Rattle.newt_spec_query.specs.Cursor.{Cursor}
use Rattle.newt_spec_store.specs.Keys.{Path}
use Rattle.newt_spec_store.specs.Valid.{valid_entry}
use Rattle.newt_spec_store.specs.Store.{Store, Soup, Entry, soup_named, entry_of, change_soup, add_entry, remove_entry, next_uid_of}
use Rattle.newt_spec_world.specs.declared.command.Command.{Command}
use Rattle.newt_spec_world.specs.declared.command.Command.TheVariants as command
use Rattle.newt_spec_world.specs.World.{World, store_on_unit, entry_in, change_store}
use Rattle.newt_spec_world.specs.Changed.{changed}
use Rattle.newt_spec_world.specs.Refused.{checks}
use Rattle.newt_laws_world.specs.Cursors.{with_cursors, uses_cursors}
use Rattle.newt_laws_world.proofs.Uncursored.{changed-apart, checks-apart}
use Rattle.newt_laws_answers.specs.Bounds.{change_bytes, unless, listed, new_in, copied_in, touched, bytes_between, bytes_done, most_programmed}
use Rattle.newt_laws_answers.specs.There.{OnUnit}
use Rattle.newt_laws_answers.proofs.Tests.{add_tests, replaced, with_added}
use Rattle.newt_laws_answers.proofs.Units.{is-there, on-changed, on-other, soup-named}
use Rattle.newt_laws_answers.proofs.Answers.{entry-named}
use Rattle.newt_laws_answers.proofs.Replaces.{set-changed}
use Rattle.newt_laws_answers.proofs.Copies.{graph-passes, moved, moved_world, ids-first, full-there}

-- the entries that are put and let go
abbrev Touch : Type 0
Touch = Option (List Entry × List Entry)

-- ---- what is done where these tests do not refuse it

at-least : (a b : ℕ) → a ≡ b → b ≤ a
at-least a b e = omega (arith, e)

most-of : (w : World) (c : Command) (u n : ℕ) (tests : Checks) → first_of (checks w c) ≡ first_of tests → bytes_done w (changed w c) c u ≡ n → unless tests n ≤ most_programmed w c u
unfolding most_programmed
most-of w c u n tests same bytes =
    at-least (cond (is_some (first_of (checks w c))) 0 (bytes_done w (changed w c) c u)) (unless tests n)
    (ap (λ o. cond (is_some o) 0 (bytes_done w (changed w c) c u)) same ∙ ap (unless tests) bytes)

-- a change of a store of which these entries are put and let go
most-between : (written : Bool) (w : World) (c : Command) (u blocks : ℕ) (a b : Store) (put gone : List Entry) (tests : Checks)
    → bytes_done w (changed w c) c u ≡ bytes_between written (store_on_unit w u) (store_on_unit (changed w c) u) (touched w (changed w c) c u)
    → first_of (checks w c) ≡ first_of tests → OnUnit w u blocks a → OnUnit (changed w c) u blocks b → touched w (changed w c) c u ≡ Some (put, gone)
    → unless tests (change_bytes written a b put gone) ≤ most_programmed w c u
most-between written w c u blocks a b put gone tests change same before after touch = most-of w c u (change_bytes written a b put gone) tests same (change
    ∙ ap (λ s. bytes_between written s (store_on_unit (changed w c) u) (touched w (changed w c) c u)) (is-there w u blocks a before)
    ∙ ap (λ s. bytes_between written (Some a) s (touched w (changed w c) c u)) (is-there (changed w c) u blocks b after)
    ∙ ap {A = Touch} (bytes_between written (Some a) (Some b)) touch)

-- ---- the unit is the one, or is another

if-same : {X : Type 0} (u : ℕ) (x y : X) → cond (u == u) x y ≡ x
if-same u x y = ap (λ b. cond b x y) (eq-eqb u u refl)

if-other : {X : Type 0} (v u : ℕ) (x y : X) → (v ≡ u → ⊥) → cond (v == u) x y ≡ y
if-other v u x y differ = ap (λ b. cond b x y) (ne_eqb v u differ)

-- ---- an entry is added

-- the entry that is new in a soup
abbrev pub new_entry : World → Soup → RawGraph → Entry
new_entry w p g = record { uid = p.next_uid; time = w.minute; graph = g }

module _ (w : World) (u blocks : ℕ) (s : Store) (name : List ℕ) (p : Soup) (g : RawGraph) (h : OnUnit w u blocks s) (f : soup_named name s ≡ Some p) where
  new-is : new_in w u name g ≡ new_entry w p g
  new-is = ap {B = Entry} (λ o. record { uid = next_uid_of o; time = w.minute; graph = g }) (soup-named w u blocks s name h ∙ f)

-- ---- an entry is removed or its graph is replaced

module _ (w : World) (u blocks : ℕ) (s : Store) (name : List ℕ) (p : Soup) (uid : ℕ) (h : OnUnit w u blocks s) (f : soup_named name s ≡ Some p) (e : Entry) (here : entry_of uid p ≡ Some e) where
  there : entry_in w u name uid ≡ Some e
  there = entry-named w u blocks s name p uid h f ∙ here

  module _ (path : Path) (g raw : RawGraph) (is : put e.graph path g ≡ Some raw) (new : RawGraph) (form : normal_form raw ≡ Some new) (within : within_limits new ≡ true)
      (ok : valid_entry e ≡ true) where
    made : changed w (command.Set u name uid path g) ≡ change_store w u (replaced w.minute name uid new)
    made = set-changed w u blocks s name p uid h f e here path g raw is new form within ok

-- ---- an entry is copied or moved

-- the directory of a unit's store is written where the entry comes
moved-bytes : (w : World) (t x u : ℕ) (name target : List ℕ) (uid : ℕ) (written : Bool) → (x == u) ≡ written → let c : Command = command.Move t name uid x target in
    bytes_done w (changed w c) c u ≡ bytes_between written (store_on_unit w u) (store_on_unit (changed w c) u) (touched w (changed w c) c u)
moved-bytes w t x u name target uid written is = let c : Command = command.Move t name uid x target in
    ap (λ b. bytes_between b (store_on_unit w u) (store_on_unit (changed w c) u) (touched w (changed w c) c u)) is

module _ (w : World) (u blocks : ℕ) (s : Store) (name : List ℕ) (p : Soup) (uid : ℕ) (h : OnUnit w u blocks s) (f : soup_named name s ≡ Some p)
    (v other : ℕ) (t : Store) (target : List ℕ) (q : Soup) (k : OnUnit w v other t) (g : soup_named target t ≡ Some q) (e : Entry) (here : entry_of uid p ≡ Some e) where
  -- the entry that is new in the target
  copied-is : copied_in w v target (entry_in w u name uid) ≡ new_entry w q e.graph ∷ []
  copied-is = ap (copied_in w v target) (there w u blocks s name p uid h f e here) ∙ ap {A = Entry} {B = List Entry} (λ x. x ∷ []) (new-is w v other t target q e.graph k g)

  module _ (ok : valid_entry e ≡ true) where
    -- between two units
    module _ (differ : v ≡ u → ⊥) where
      move-checks : first_of (checks w (command.Move u name uid v target)) ≡ first_of (add_tests other w.minute target e.graph t q)
      move-checks = ids-first w u blocks s name p uid h f v other t target q k g e here _ (full-there w u blocks s name p uid h f v other t target q k g e here differ)
          ∙ sym (graph-passes other w.minute target e t q ok)

      -- a store that is on a unit after the move
      after-move : (x many : ℕ) (a : Store) → OnUnit (moved_world w u blocks s name p uid h f v other t target q k g e here) x many a → OnUnit (changed w (command.Move u name uid v target)) x many a
      after-move x many a on = subst (λ y. OnUnit y x many a) (sym (moved w u blocks s name p uid h f v other t target q k g e here)) on

      pub move-to-most : unless (add_tests other w.minute target e.graph t q) (change_bytes true t (change_soup target (add_entry w.minute e.graph) t) (new_entry w q e.graph ∷ []) [])
          ≤ most_programmed w (command.Move u name uid v target) v
      move-to-most = most-between true w (command.Move u name uid v target) v other t (change_soup target (add_entry w.minute e.graph) t) (new_entry w q e.graph ∷ []) []
          (add_tests other w.minute target e.graph t q) (moved-bytes w u v v name target uid true (eq-eqb v v refl)) move-checks k
          (after-move v other (change_soup target (add_entry w.minute e.graph) t) (on-other (with_added w v target e.graph) v u other _ (change_soup name (remove_entry uid)) differ
          (on-changed w v other t (change_soup target (add_entry w.minute e.graph)) k)))
          (if-same {X = Touch} v (Some (copied_in w v target (entry_in w u name uid), cond (u == v) (listed (entry_in w u name uid)) [])) _
          ∙ ap {B = Touch} (λ es. Some (copied_in w v target (entry_in w u name uid), es)) (if-other u v (listed (entry_in w u name uid)) [] (λ i. differ (sym i)))
          ∙ ap {B = Touch} (λ es. Some (es, [])) copied-is)

      pub move-from-most : first_of (add_tests other w.minute target e.graph t q) ≡ None
          → change_bytes false s (change_soup name (remove_entry uid) s) [] (e ∷ []) ≤ most_programmed w (command.Move u name uid v target) u
      move-from-most none = most-between false w (command.Move u name uid v target) u blocks s (change_soup name (remove_entry uid) s) [] (e ∷ []) []
          (moved-bytes w u v u name target uid false (ne_eqb v u differ)) (move-checks ∙ none) h
          (after-move u blocks (change_soup name (remove_entry uid) s) (on-changed (with_added w v target e.graph) u blocks s (change_soup name (remove_entry uid))
          (on-other w u v blocks s (change_soup target (add_entry w.minute e.graph)) (λ i. differ (sym i)) h)))
          (if-other {X = Touch} v u _ (cond (u == u) (Some ([], listed (entry_in w u name uid))) None) differ
          ∙ if-same {X = Touch} u (Some ([], listed (entry_in w u name uid))) None ∙ ap {B = Touch} (λ o. Some ([], listed o)) (there w u blocks s name p uid h f e here))

-- ---- cursors

done-apart : (ks : List (Option Cursor)) (w v : World) (c : Command) (u : ℕ) → bytes_done (with_cursors ks w) (with_cursors ks v) c u ≡ bytes_done w v c u
done-apart ks w v (command.Vwrite _ _ _ _ _ _) u = refl
done-apart ks w v _ u = refl

-- a command that uses no cursor costs the same whatever cursors are open
pub cursors-cost-nothing : (ks : List (Option Cursor)) (w : World) (c : Command) (u : ℕ) → uses_cursors c ≡ false → most_programmed (with_cursors ks w) c u ≡ most_programmed w c u
unfolding most_programmed
cursors-cost-nothing ks w c u none =
    ap (λ tests. unless tests (bytes_done (with_cursors ks w) (changed (with_cursors ks w) c) c u)) (checks-apart ks w c none)
    ∙ ap (λ v. unless (checks w c) (bytes_done (with_cursors ks w) v c u)) (changed-apart ks w c none)
    ∙ ap (unless (checks w c)) (done-apart ks w (changed w c) c u)
