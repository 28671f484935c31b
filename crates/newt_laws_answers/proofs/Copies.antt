-- Entries that are copied and moved.
use Rattle.std.proofs.Common.{◌≡◌, ap, ◌∙◌, ℕ, List, [], ◌∷◌, Bool, true, false, Some, None, replicate, nat_lt, nat_le, ◌==◌, ◌||◌, ◌&&◌, not, drop}
use Rattle.std.specs.Option.{is_none}
use Rattle.newt_spec_graph.specs.Limits.{within_limits}
use Rattle.std.proofs.lemmas.Bool.{le-ltb, leb-true}
use Rattle.newt_laws_world.proofs.Rows.{and-left, and-right}
use Rattle.newt_base.specs.Refusals.{Checks, first_of}
use Rattle.newt_base.specs.declared.Refusal.{Refusal}
use Rattle.newt_base.specs.declared.Refusal.TheVariants.{Unit as NoUnit, Notmounted, Soup as NoSoup, Entry as NoEntry, Notframe, Size, Ids, Full}
use Rattle.newt_spec_image.specs.Pages.{cap}
use Rattle.newt_spec_graph.specs.Graph.{is_frame, object}
use Rattle.newt_spec_store.specs.Cost.{cost, skeleton_length}
use Rattle.newt_spec_store.specs.Valid.{valid_entry}
use Rattle.newt_spec_store.specs.Store.{Store, Soup, Entry, soup_named, entry_of, change_soup, add_entry, remove_entry}
use Rattle.newt_spec_world.specs.declared.command.Command.TheVariants as command
use Rattle.newt_spec_world.specs.World.{World, device, store_of, entry_in, change_store}
use Rattle.newt_spec_world.specs.Reply.{Reply}
use Rattle.newt_spec_world.specs.Changed.{changed, copy_to}
use Rattle.newt_spec_world.specs.Refused.{checks, on_some, either, no_unit, not_mounted, no_soup, no_entry, full}
use Rattle.newt_spec_world.specs.Answer.{answer, fields, new_uid}
use Rattle.newt_laws_answers.specs.Tests.{both_checks}
use Rattle.newt_laws_answers.proofs.Tests.{add_tests, moved_within, room_tests, with_added}
use Rattle.newt_laws_answers.proofs.Firsts.{first-true, first-false, first-found}
use Rattle.newt_laws_answers.specs.There.{OnUnit}
use Rattle.newt_laws_answers.proofs.Units.{on-changed, on-other, is-mounted, soup-named}
use Rattle.newt_laws_answers.proofs.Answers.{done, refused, entry-named, full-is}
use Rattle.newt_laws_answers.proofs.Adds.{room-is, uid-is, ids-is}

-- ---- an entry that is there passes the tests of a graph

no-size : (n most : ℕ) → nat_le n most ≡ true → nat_lt most n ≡ false
no-size n most h = le-ltb most n (leb-true n most h)

pub graph-passes : (blocks now : ℕ) (name : List ℕ) (e : Entry) (s : Store) (p : Soup) → valid_entry e ≡ true
    → first_of (add_tests blocks now name e.graph s p) ≡ first_of (room_tests blocks now name e.graph s p)
graph-passes blocks now name e s p ok =
    first-false Notframe _ ((Size, nat_lt 64_000 (skeleton_length e.graph)) ∷ room_tests blocks now name e.graph s p)
    (ap not (and-left framed _ (and-left (framed && within_limits e.graph) _ ok)))
    ∙ first-false Size _ (room_tests blocks now name e.graph s p) (no-size (skeleton_length e.graph) 64_000 (and-right (framed && within_limits e.graph) _ ok))
  where
    framed : Bool
    framed = is_frame (object e.graph.nodes e.graph.root)

-- ---- the tests of both soups

module _ (w : World) (u : ℕ) (name : List ℕ) (uid v : ℕ) (target : List ℕ) (r : Refusal) (h : first_of (both_checks w u name v target) ≡ Some r) where
  pub move-not-found : answer w (command.Move u name uid v target) ≡ (w, Reply.refused r)
  unfolding checks
  move-not-found = refused w (command.Move u name uid v target) r (first-found (both_checks w u name v target) (drop 3 (checks w (command.Move u name uid v target))) r h)

-- ---- both soups are there

module _ (w : World) (u blocks : ℕ) (s : Store) (name : List ℕ) (p : Soup) (uid : ℕ) (h : OnUnit w u blocks s) (f : soup_named name s ≡ Some p)
    (v other : ℕ) (t : Store) (target : List ℕ) (q : Soup) (k : OnUnit w v other t) (g : soup_named target t ≡ Some q) where
  both-pass : (rest : Checks) → first_of (either (no_unit w u) (no_unit w v) ∷ either (not_mounted w u) (not_mounted w v) ∷ either (no_soup w u name) (no_soup w v target) ∷ rest) ≡ first_of rest
  both-pass rest =
      first-false NoUnit _ (either (not_mounted w u) (not_mounted w v) ∷ either (no_soup w u name) (no_soup w v target) ∷ rest) (or-false (ap is_none h.device_is) (ap is_none k.device_is))
      ∙ first-false Notmounted _ (either (no_soup w u name) (no_soup w v target) ∷ rest) (or-false (ap is_none (is-mounted w u blocks s h)) (ap is_none (is-mounted w v other t k)))
      ∙ first-false NoSoup _ rest (or-false (ap is_none (soup-named w u blocks s name h ∙ f)) (ap is_none (soup-named w v other t target k ∙ g)))
    where
      or-false : {a b : Bool} → a ≡ false → b ≡ false → (a || b) ≡ false
      or-false {a} {b} x y = ap (λ c. c || b) x ∙ y

  fails : (rest : Checks) → entry_of uid p ≡ None → first_of (no_entry w u name uid ∷ rest) ≡ Some NoEntry
  fails rest none = first-true NoEntry _ rest (ap is_none (entry-named w u blocks s name p uid h f ∙ none))

  pub move-no-entry : entry_of uid p ≡ None → answer w (command.Move u name uid v target) ≡ (w, Reply.refused NoEntry)
  unfolding checks
  move-no-entry none = refused w (command.Move u name uid v target) NoEntry
      (both-pass (drop 3 (checks w (command.Move u name uid v target))) ∙ fails (drop 4 (checks w (command.Move u name uid v target))) none)

  module _ (e : Entry) (here : entry_of uid p ≡ Some e) where
    there : entry_in w u name uid ≡ Some e
    there = entry-named w u blocks s name p uid h f ∙ here

    passes : (rest : Checks) → first_of (no_entry w u name uid ∷ rest) ≡ first_of rest
    passes rest = first-false NoEntry _ rest (ap is_none there)

    -- ---- copy

    pub copied : changed w (command.Copy u name uid v target) ≡ with_added w v target e.graph
    unfolding changed
    copied = ap (copy_to w v target) there

    pub copy-checks : first_of (checks w (command.Copy u name uid v target)) ≡ first_of (room_tests other w.minute target e.graph t q)
    unfolding checks
    copy-checks =
        both-pass (drop 3 (checks w (command.Copy u name uid v target))) ∙ passes (drop 4 (checks w (command.Copy u name uid v target)))
        ∙ ap first_of (room-is w v other t target q e.graph k g (command.Copy u name uid v target) copied)

    -- ---- move

    -- the world after a move
    abbrev pub moved_world : World
    moved_world = change_store (with_added w v target e.graph) u (change_soup name (remove_entry uid))

    pub moved : changed w (command.Move u name uid v target) ≡ moved_world
    unfolding changed
    moved = ap (λ y. change_store y u (change_soup name (remove_entry uid))) (ap (copy_to w v target) there)

    pub ids-first : (n : ℕ) → (full w v (command.Move u name uid v target)).1 ≡ nat_lt (cap other) n → first_of (checks w (command.Move u name uid v target))
        ≡ first_of ((Ids, q.next_uid == 536_870_911) ∷ (Full, nat_lt (cap other) n) ∷ [])
    unfolding checks
    ids-first n is =
        both-pass (drop 3 (checks w (command.Move u name uid v target))) ∙ passes (drop 4 (checks w (command.Move u name uid v target)))
        ∙ ap (λ b. first_of ((Ids, b) ∷ full w v (command.Move u name uid v target) ∷ [])) (ids-is w v other t target q e.graph k g)
        ∙ ap (λ b. first_of ((Ids, q.next_uid == 536_870_911) ∷ (Full, b) ∷ [])) is

    move-ends : first_of (checks w (command.Move u name uid v target)) ≡ None → w.cursors ≡ replicate 32 None
        → answer w (command.Move u name uid v target) ≡ (moved_world, Reply.number q.next_uid)
    unfolding fields
    move-ends x none = done w (command.Move u name uid v target) x (ap (λ (y : World). y.cursors) moved ∙ none)
        ∙ ap {B = World × Reply} (λ y. (y, Reply.number (new_uid w v target))) moved
        ∙ ap {B = World × Reply} (λ n. (moved_world, Reply.number n)) (uid-is w v other t target q e.graph k g)

    -- between two units
    module _ (differ : v ≡ u → ⊥) where
      pub full-there : (full w v (command.Move u name uid v target)).1 ≡ nat_lt (cap other) (cost (change_soup target (add_entry w.minute e.graph) t))
      full-there = ap (λ y. on_some (device y v) (λ d. on_some (store_of d.media) (λ s. nat_lt (cap d.blocks) (cost s)))) moved
          ∙ full-is moved_world v other (change_soup target (add_entry w.minute e.graph) t)
          (on-other (with_added w v target e.graph) v u other _ (change_soup name (remove_entry uid)) differ (on-changed w v other t (change_soup target (add_entry w.minute e.graph)) k))

      pub move-refused : (r : Refusal) → first_of (room_tests other w.minute target e.graph t q) ≡ Some r → answer w (command.Move u name uid v target) ≡ (w, Reply.refused r)
      move-refused r x = refused w (command.Move u name uid v target) r (ids-first _ full-there ∙ x)

      pub move-done : first_of (room_tests other w.minute target e.graph t q) ≡ None → w.cursors ≡ replicate 32 None
          → answer w (command.Move u name uid v target) ≡ (moved_world, Reply.number q.next_uid)
      move-done x none = move-ends (ids-first _ full-there ∙ x) none

-- ---- a move within one store

module _ (w : World) (u blocks : ℕ) (s : Store) (name : List ℕ) (p : Soup) (uid : ℕ) (h : OnUnit w u blocks s) (f : soup_named name s ≡ Some p)
    (target : List ℕ) (q : Soup) (g : soup_named target s ≡ Some q) (e : Entry) (here : entry_of uid p ≡ Some e) where
  pub full-within : (full w u (command.Move u name uid u target)).1 ≡ nat_lt (cap blocks) (cost (moved_within w.minute name uid target e.graph s))
  full-within = ap (λ y. on_some (device y u) (λ d. on_some (store_of d.media) (λ s. nat_lt (cap d.blocks) (cost s)))) (moved w u blocks s name p uid h f u blocks s target q h g e here)
      ∙ full-is _ u blocks (moved_within w.minute name uid target e.graph s)
      (on-changed (with_added w u target e.graph) u blocks _ (change_soup name (remove_entry uid)) (on-changed w u blocks s (change_soup target (add_entry w.minute e.graph)) h))
