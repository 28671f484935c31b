-- Entries that are added.
use Rattle.std.proofs.Common.{◌≡◌, refl, ap, ◌∙◌, ℕ, List, [], ◌∷◌, Bool, Option, Some, option_map, unwrap_or, not, nat_lt, ◌==◌}
use Rattle.newt_base.specs.Refusals.{Checks, first_of}
use Rattle.newt_base.specs.declared.Refusal.TheVariants.{Notframe, Size, Ids, Full}
use Rattle.newt_graph.specs.Graph.{RawGraph}
use Rattle.newt_spec_image.specs.Pages.{cap}
use Rattle.newt_spec_graph.specs.Graph.{is_frame, object}
use Rattle.newt_spec_store.specs.Cost.{cost, skeleton_length}
use Rattle.newt_spec_store.specs.Store.{Store, Soup, soup_named}
use Rattle.newt_spec_world.specs.declared.command.Command.{Command}
use Rattle.newt_spec_world.specs.declared.command.Command.TheVariants as command
use Rattle.newt_spec_world.specs.World.{World, device, store_of, default_unit, soup_in}
use Rattle.newt_spec_world.specs.Changed.{changed}
use Rattle.newt_spec_world.specs.Refused.{checks, on_some, not_mounted, no_soup, no_more_ids, full}
use Rattle.newt_spec_world.specs.Answer.{new_uid}
use Rattle.newt_laws_answers.proofs.Tests.{add_tests, room_tests, with_added}
use Rattle.newt_laws_answers.specs.There.{OnUnit}
use Rattle.newt_laws_answers.proofs.Units.{on-changed, soup-named}
use Rattle.newt_laws_answers.proofs.Answers.{refused, all-pass, soup-passes, mounted-passes, full-is}

-- the tests of a graph, and more
abbrev graph-tests : RawGraph → Checks → Checks
graph-tests g more = (Notframe, not (is_frame (object g.nodes g.root))) ∷ (Size, nat_lt 64_000 (skeleton_length g)) ∷ more

module _ (w : World) (u blocks : ℕ) (s : Store) (name : List ℕ) (p : Soup) (g : RawGraph) (h : OnUnit w u blocks s) (f : soup_named name s ≡ Some p) where
  pub ids-is : on_some (soup_in w u name) (λ q. q.next_uid == 536_870_911) ≡ (p.next_uid == 536_870_911)
  ids-is = ap (λ o. on_some o (λ (q : Soup). q.next_uid == 536_870_911)) (soup-named w u blocks s name h ∙ f)

  pub room-is : (c : Command) → changed w c ≡ with_added w u name g → no_more_ids w u name ∷ full w u c ∷ [] ≡ room_tests blocks w.minute name g s p
  room-is c e = ap {A = Bool} {B = Checks} (λ b. (Ids, b) ∷ full w u c ∷ []) ids-is
      ∙ ap {A = Bool} {B = Checks} (λ b. (Ids, p.next_uid == 536_870_911) ∷ (Full, b) ∷ [])
      (ap {A = World} (λ v. on_some (device v u) (λ d. on_some (store_of d.media) (λ s. nat_lt (cap d.blocks) (cost s)))) e
      ∙ full-is (with_added w u name g) u blocks _ (on-changed w u blocks s _ h))

  tests-are : (c : Command) → changed w c ≡ with_added w u name g → first_of (graph-tests g (no_more_ids w u name ∷ full w u c ∷ [])) ≡ first_of (add_tests blocks w.minute name g s p)
  tests-are c e = ap {A = Checks} (λ xs. first_of ((Notframe, not (is_frame (object g.nodes g.root))) ∷ (Size, nat_lt 64_000 (skeleton_length g)) ∷ xs)) (room-is c e)

  pub uid-is : new_uid w u name ≡ p.next_uid
  uid-is = ap (λ (o : Option Soup). unwrap_or (option_map (λ p. p.next_uid) o) 0) (soup-named w u blocks s name h ∙ f)

  pub add-checks : first_of (checks w (command.Add u name g)) ≡ first_of (add_tests blocks w.minute name g s p)
  unfolding checks changed
  add-checks = all-pass w u blocks s name p (graph-tests g (no_more_ids w u name ∷ full w u (command.Add u name g) ∷ [])) h f ∙ tests-are (command.Add u name g) refl

  pub addx-checks : first_of (checks w (command.Addx u name g)) ≡ first_of (add_tests blocks w.minute name g s p)
  unfolding checks changed
  addx-checks = all-pass w u blocks s name p (graph-tests g (no_more_ids w u name ∷ full w u (command.Addx u name g) ∷ [])) h f ∙ tests-are (command.Addx u name g) refl

-- ---- to the default store

module _ (w : World) (u blocks : ℕ) (s : Store) (name : List ℕ) (p : Soup) (g : RawGraph) (d : default_unit w ≡ u) (h : OnUnit w u blocks s) (f : soup_named name s ≡ Some p) where
  pub addu-checks : first_of (checks w (command.Addu name g)) ≡ first_of (add_tests blocks w.minute name g s p)
  unfolding checks changed
  addu-checks =
      ap (λ v. first_of (not_mounted w v ∷ no_soup w v name ∷ graph-tests g (no_more_ids w v name ∷ full w v (command.Addu name g) ∷ []))) d
      ∙ mounted-passes w u blocks s (no_soup w u name ∷ graph-tests g (no_more_ids w u name ∷ full w u (command.Addu name g) ∷ [])) h
      ∙ soup-passes w u blocks s name p (graph-tests g (no_more_ids w u name ∷ full w u (command.Addu name g) ∷ [])) h f
      ∙ tests-are w u blocks s name p g h f (command.Addu name g) (ap (λ v. with_added w v name g) d)

-- ---- refused before
