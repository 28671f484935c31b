-- A command that is done changes the unit that it writes, and no other: without that unit the world is as it was.
use Rattle.std.proofs.Common.{◌≡◌, refl, ap, sym, ◌∙◌, subst, ℕ, List, Bool, true, false, not, ◌||◌, Option, Some, None, ◌==◌}
use Rattle.std.proofs.lemmas.Bool.{eqb-true}
use Rattle.newt_spec_graph.proofs.Lists.{both-ways}
use Rattle.newt_spec_store.specs.Store.{Store, Soup, Entry, add_entry, change_soup}
use Rattle.newt_spec_world.specs.Changed.{changed, copy_to}
use Rattle.newt_spec_world.specs.Step.{thrown_out, writes}
use Rattle.newt_spec_world.specs.World.{World, change_media, change_soup_in, change_store, default_unit, entry_in, lost}
use Rattle.newt_spec_world.specs.declared.command.Command.{Command}
use Rattle.newt_spec_world.specs.declared.command.Command.TheVariants as command
use Rattle.newt_engine_units.proofs.Broken.{thrown-changed}
use Rattle.newt_engine.specs.Groups.{is_between}

abbrev pub Alone : World → World → ℕ → Type 0
Alone w v u = thrown_out v u (λ _. lost) ≡ thrown_out w u (λ _. lost)

pub store-alone : (w : World) (u : ℕ) (f : Store → Store) → Alone w (change_store w u f) u
store-alone w u f = thrown-changed w (change_store w u f) u (λ d. record d { media = change_media f d.media }) (λ d. refl) refl

soup-alone : (w : World) (t u : ℕ) (name : List ℕ) (f : Soup → Soup) → (t == u) ≡ true → Alone w (change_soup_in w t name f) u
soup-alone w t u name f h = subst (Alone w (change_soup_in w t name f)) (eqb-true t u h) (store-alone w t (change_soup name f))

copy-alone : (w : World) (x u : ℕ) (name : List ℕ) (e : Option Entry) → (x == u) ≡ true → Alone w (copy_to w x name e) u
copy-alone w x u name None h = refl
copy-alone w x u name (Some e) h = soup-alone w x u name (add_entry w.minute e.graph) h

pub unit-is : (t x : ℕ) → not (t == x) ≡ false → t ≡ x
unit-is t x within = eqb-true t x (kept (t == x) within)
  where
    kept : (b : Bool) → not b ≡ false → b ≡ true
    kept true h = refl
    kept false h = sym h

pub same-unit : (t x u : ℕ) → not (t == x) ≡ false → (x == u) || (t == u) ≡ true → ((t == u) ≡ true) × ((x == u) ≡ true)
same-unit t x u within h = go (x == u) (t == u) refl refl h
  where
    is : t ≡ x
    is = unit-is t x within

    go : (a b : Bool) → (x == u) ≡ a → (t == u) ≡ b → a || b ≡ true → ((t == u) ≡ true) × ((x == u) ≡ true)
    go true b i j h = (ap (λ n. n == u) is ∙ i, i)
    go false true i j h = (j, ap (λ n. n == u) (sym is) ∙ j)
    go false false i j h = absurd (both-ways h)

pub changed-alone : (w : World) (c : Command) (u : ℕ) → writes w c u ≡ true → is_between c ≡ false → Alone w (changed w c) u
unfolding changed
changed-alone w (command.Soup t s) u h k = subst (Alone w (changed w (command.Soup t s))) (eqb-true t u h) (store-alone w t _)
changed-alone w (command.Drop t s) u h k = subst (Alone w (changed w (command.Drop t s))) (eqb-true t u h) (store-alone w t _)
changed-alone w (command.Index t s parts) u h k = soup-alone w t u s _ h
changed-alone w (command.Unindex t s paths) u h k = soup-alone w t u s _ h
changed-alone w (command.SetTags t s path symbols) u h k = soup-alone w t u s _ h
changed-alone w (command.SetInfo t s g) u h k = soup-alone w t u s _ h
changed-alone w (command.Add t s g) u h k = soup-alone w t u s _ h
changed-alone w (command.Addx t s g) u h k = soup-alone w t u s _ h
changed-alone w (command.Addu s g) u h k = soup-alone w (default_unit w) u s _ h
changed-alone w (command.Set t s uid path g) u h k = soup-alone w t u s _ h
changed-alone w (command.Change t s uid g) u h k = soup-alone w t u s _ h
changed-alone w (command.Remove t s uid) u h k = soup-alone w t u s _ h
changed-alone w (command.Vwrite t s uid path at bytes) u h k = soup-alone w t u s _ h
changed-alone w (command.Copy t s uid x y) u h k = copy-alone w x u y (entry_in w t s uid) h
changed-alone w (command.Move t s uid x y) u h k =
    let is = same-unit t x u k h in
    soup-alone (copy_to w x y (entry_in w t s uid)) t u s _ is.0 ∙ copy-alone w x u y (entry_in w t s uid) is.1
changed-alone w c u h k = absurd (both-ways h)
