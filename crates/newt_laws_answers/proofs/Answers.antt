-- How an answer follows from the tests of its command.
use Rattle.std.proofs.Common.{◌≡◌, ap, ◌∙◌, ℕ, List, ◌∷◌, ◌++◌, Some, None, option_and_then, replicate, nat_lt}
use Rattle.std.specs.Option.{is_none}
use Rattle.newt_base.specs.Refusals.{Checks, first_of}
use Rattle.newt_base.specs.declared.Refusal.{Refusal}
use Rattle.newt_spec_image.specs.Pages.{cap}
use Rattle.newt_spec_store.specs.Cost.{cost}
use Rattle.newt_spec_store.specs.Store.{Store, Soup, soup_named, entry_of}
use Rattle.newt_spec_world.specs.declared.command.Command.{Command}
use Rattle.newt_spec_world.specs.World.{World, Device, device, store_of, entry_in}
use Rattle.newt_spec_world.specs.Reply.{Reply}
use Rattle.newt_spec_world.specs.Changed.{changed}
use Rattle.newt_spec_world.specs.Refused.{checks, no_unit, not_mounted, no_soup, on_some}
use Rattle.newt_spec_world.specs.Answer.{answer, answered, fields}
use Rattle.newt_laws_answers.proofs.Worlds.{settle-none}
use Rattle.newt_laws_answers.proofs.Firsts.{first-found, first-false}
use Rattle.newt_laws_answers.specs.There.{OnUnit}
use Rattle.newt_laws_answers.proofs.Units.{is-mounted, soup-named}

-- ---- done and refused

pub refused : (w : World) (c : Command) (r : Refusal) → first_of (checks w c) ≡ Some r → answer w c ≡ (w, Reply.refused r)
unfolding answer
refused w c r h = ap {B = World × Reply} (answered w c) h

pub done : (w : World) (c : Command) → first_of (checks w c) ≡ None → (changed w c).cursors ≡ replicate 32 None → answer w c ≡ (changed w c, fields w (changed w c) c)
unfolding answer
done w c h k = ap {B = World × Reply} (answered w c) h ∙ ap {B = World × Reply} (λ v. (v, fields w v c)) (settle-none (changed w c) k)

-- a command is refused by the first of its tests
pub refused-early : (w : World) (c : Command) (xs ys : Checks) (r : Refusal) → checks w c ≡ xs ++ ys → first_of xs ≡ Some r → answer w c ≡ (w, Reply.refused r)
refused-early w c xs ys r e h = refused w c r (ap first_of e ∙ first-found xs ys r h)

-- ---- the first tests

-- the device and the store are there
pub unit-passes : (w : World) (u blocks : ℕ) (s : Store) (rest : Checks) → OnUnit w u blocks s → first_of (no_unit w u ∷ not_mounted w u ∷ rest) ≡ first_of rest
unit-passes w u blocks s rest h = first-false _ _ (not_mounted w u ∷ rest) (ap is_none h.device_is) ∙ first-false _ _ rest (ap is_none (is-mounted w u blocks s h))

pub mounted-passes : (w : World) (u blocks : ℕ) (s : Store) (rest : Checks) → OnUnit w u blocks s → first_of (not_mounted w u ∷ rest) ≡ first_of rest
mounted-passes w u blocks s rest h = first-false _ _ rest (ap is_none (is-mounted w u blocks s h))

pub soup-passes : (w : World) (u blocks : ℕ) (s : Store) (name : List ℕ) (p : Soup) (rest : Checks) → OnUnit w u blocks s → soup_named name s ≡ Some p → first_of (no_soup w u name ∷ rest) ≡ first_of rest
soup-passes w u blocks s name p rest h f = first-false _ _ rest (ap is_none (soup-named w u blocks s name h ∙ f))

-- a unit, a store and a soup are there
pub all-pass : (w : World) (u blocks : ℕ) (s : Store) (name : List ℕ) (p : Soup) (rest : Checks) → OnUnit w u blocks s → soup_named name s ≡ Some p
    → first_of (no_unit w u ∷ not_mounted w u ∷ no_soup w u name ∷ rest) ≡ first_of rest
all-pass w u blocks s name p rest h f = unit-passes w u blocks s (no_soup w u name ∷ rest) h ∙ soup-passes w u blocks s name p rest h f

pub entry-named : (w : World) (u blocks : ℕ) (s : Store) (name : List ℕ) (p : Soup) (uid : ℕ) → OnUnit w u blocks s → soup_named name s ≡ Some p → entry_in w u name uid ≡ entry_of uid p
entry-named w u blocks s name p uid h f = ap (option_and_then (entry_of uid)) (soup-named w u blocks s name h ∙ f)

-- ---- the last test

pub full-is : (v : World) (u blocks : ℕ) (t : Store) → OnUnit v u blocks t → on_some (device v u) (λ d. on_some (store_of d.media) (λ s. nat_lt (cap d.blocks) (cost s))) ≡ nat_lt (cap blocks) (cost t)
full-is v u blocks t h = ap (λ o. on_some o (λ (d : Device). on_some (store_of d.media) (λ s. nat_lt (cap d.blocks) (cost s)))) h.device_is
