-- After any step the stores are valid that a unit has or may have.
use Rattle.std.proofs.Common.{◌≡◌, refl, ap, sym, ◌∙◌, subst, ℕ, List, true, false, Bool, not, ◌⊎◌, inl, inr, Option, Some, None, option_map, option_and_then, unwrap_or, if◌then◌else◌, IsTrue}
use Rattle.std.specs.Prelude.{slice_get, ⊤}
use Rattle.newt_base.specs.Refusals.{first_of}
use Rattle.newt_base.specs.declared.Refusal.{Refusal}
use Rattle.newt_spec_store.specs.Store.{Store, Soup, Entry, make_soup, drop_soup, add_entry, remove_entry, new_store}
use Rattle.newt_spec_store.specs.Valid.{valid}
use Rattle.newt_spec_world.specs.declared.command.Command.{Command}
use Rattle.newt_spec_world.specs.declared.command.Command.TheVariants as command
use Rattle.newt_spec_world.specs.Reply.{Reply}
use Rattle.newt_spec_world.specs.World.{World, Device, Media, blank, one, two, lost, store_of, device, flat, default_unit, entry_in, store_on_unit, change_device, change_store, change_media, change_soup_in}
use Rattle.newt_spec_world.specs.Changed.{changed, copy_to}
use Rattle.newt_spec_world.specs.Refused.{checks}
use Rattle.newt_spec_world.specs.Answer.{answer, answered}
use Rattle.newt_spec_world.specs.Step.{Step, plain, found, thrown, halfway, Found, MayTurnOut, is_format_of, moves_away, writes, may_tear, store_after, torn, world_thrown, either_of, world_halfway}
use Rattle.newt_laws_world.specs.Worlds.{OnMedia, AllValid, has_form}
use Rattle.newt_laws_world.proofs.Fitting.{answer-valid}
use Rattle.newt_laws_world.proofs.Kept.{on_units, changed-units}
use Rattle.newt_laws_world.proofs.Units.{same-or-not, device-other, device-same, mapped, change-device}
use Rattle.newt_laws_steps.proofs.Stepping.{accepted}
use Rattle.newt_laws_steps.proofs.Standing.{is-accepted}
use Rattle.newt_spec_graph.proofs.Lists.{some-same, none-some}

-- ---- a command leaves the blocks of each unit

abbrev SameBlocks : World → World → Type 0
SameBlocks v w = (n : ℕ) → option_map (λ (d : Device). d.blocks) (device v n) ≡ option_map (λ (d : Device). d.blocks) (device w n)

blocks-device : (w : World) (u : ℕ) (g : Device → Device) → ((d : Device) → (g d).blocks ≡ d.blocks) → SameBlocks (change_device w u g) w
blocks-device w u g same n = go (same-or-not n u)
  where
    at : (o : Option Device) → option_map (λ (d : Device). d.blocks) (option_map g o) ≡ option_map (λ (d : Device). d.blocks) o
    at None = refl
    at (Some d) = ap Some (same d)

    go : (n ≡ u) ⊎ (n ≡ u → ⊥) → option_map (λ (d : Device). d.blocks) (device (change_device w u g) n) ≡ option_map (λ (d : Device). d.blocks) (device w n)
    go (inl is) = ap (λ m. option_map (λ (d : Device). d.blocks) (device (change_device w u g) m)) is ∙ ap (option_map (λ (d : Device). d.blocks)) (device-same w u g) ∙ at (device w u)
        ∙ sym (ap (λ m. option_map (λ (d : Device). d.blocks) (device w m)) is)
    go (inr differs) = ap (option_map (λ (d : Device). d.blocks)) (device-other w u g n differs)

blocks-store : (w : World) (u : ℕ) (f : Store → Store) → SameBlocks (change_store w u f) w
blocks-store w u f = blocks-device w u (λ d. record d { media = change_media f d.media }) (λ d. refl)

blocks-soup : (w : World) (u : ℕ) (name : List ℕ) (f : Soup → Soup) → SameBlocks (change_soup_in w u name f) w
blocks-soup w u name f = blocks-store w u (Rattle.newt_spec_store.specs.Store.change_soup name f)

blocks-copy : (w : World) (v : ℕ) (t : List ℕ) (o : Option Entry) → SameBlocks (copy_to w v t o) w
blocks-copy w v t None n = refl
blocks-copy w v t (Some e) n = blocks-soup w v t (add_entry w.minute e.graph) n

row-blocks : (w : World) (c : Command) → SameBlocks (changed w c) w
unfolding changed on_units
row-blocks w (command.Format u name sig) = blocks-device w u (λ d. record d { media = one (new_store name sig); mounted = false }) (λ d. refl)
row-blocks w (command.Mount u) = blocks-device w u (λ d. record d { mounted = true }) (λ d. refl)
row-blocks w (command.Unmount u) = blocks-device w u (λ d. record d { mounted = false }) (λ d. refl)
row-blocks w (command.Soup u name) = blocks-store w u (make_soup name)
row-blocks w (command.Drop u s) = blocks-store w u (drop_soup s)
row-blocks w (command.Index u s parts) = blocks-soup w u s _
row-blocks w (command.Unindex u s paths) = blocks-soup w u s _
row-blocks w (command.SetTags u s path symbols) = blocks-soup w u s _
row-blocks w (command.SetInfo u s g) = blocks-soup w u s _
row-blocks w (command.Add u s g) = blocks-soup w u s _
row-blocks w (command.Addx u s g) = blocks-soup w u s _
row-blocks w (command.Addu s g) = blocks-soup w (default_unit w) s _
row-blocks w (command.Set u s uid path g) = blocks-soup w u s _
row-blocks w (command.Change u s uid g) = blocks-soup w u s _
row-blocks w (command.Remove u s uid) = blocks-soup w u s _
row-blocks w (command.Copy u s uid v t) = blocks-copy w v t (entry_in w u s uid)
row-blocks w (command.Move u s uid v t) = λ n. blocks-soup (copy_to w v t (entry_in w u s uid)) u s (remove_entry uid) n ∙ blocks-copy w v t (entry_in w u s uid) n
row-blocks w (command.Vwrite u s uid path at bytes) = blocks-soup w u s _
row-blocks w c = λ n. ap (λ us. option_map (λ (d : Device). d.blocks) (flat (slice_get us n))) (changed-units w c refl)

-- ---- any step

abbrev Fits : ℕ → Store → Type 0
Fits blocks s = IsTrue (valid blocks s)

row-valid : (w : World) (c : Command) → AllValid w → has_form c ≡ true → first_of (checks w c) ≡ None → AllValid (changed w c)
unfolding answer
row-valid w c all form ok = subst (λ (o : Option Refusal). AllValid (answered w c o).0) ok (answer-valid w c all form)

found-valid : (w : World) (u : ℕ) (v : World) → Found w u v → AllValid w → AllValid v
found-valid w u v f all = subst AllValid (sym f.is) (change-device (λ u. ⊤) Fits w u (λ d. record d { media = f.holds }) all
    (λ d e. turns d.blocks d.media f.holds (subst (λ (x : Device). MayTurnOut x.blocks x.media f.holds) (some-same f.on d (sym f.there ∙ e)) f.may) (all u tt d e)))
  where
    turns : (blocks : ℕ) (m n : Media) → MayTurnOut blocks m n → OnMedia Fits blocks m → OnMedia Fits blocks n
    turns blocks blank n h k = absurd h
    turns blocks (one s) n h k = absurd h
    turns blocks (two a b) n (inl e) k = subst (OnMedia Fits blocks) (sym e) k.0
    turns blocks (two a b) n (inr e) k = subst (OnMedia Fits blocks) (sym e) k.1
    turns blocks lost n (inl e) k = subst (OnMedia Fits blocks) (sym e) tt
    turns blocks lost n (inr e) k = subst (OnMedia Fits blocks) (sym e.2) e.1

-- the store of a unit after the command is valid for the blocks of the unit before it
after-valid : (w v : World) (u : ℕ) (d : Device) → device w u ≡ Some d → SameBlocks v w → AllValid v → (s : Store) → Fits d.blocks s → Fits d.blocks (unwrap_or (store_on_unit v u) s)
after-valid w v u d is same all s h =
    let r = mapped (λ (d : Device). d.blocks) (device v u) d.blocks (same u ∙ ap (option_map (λ (d : Device). d.blocks)) is) in
    subst (λ o. Fits d.blocks (unwrap_or o s)) (sym (ap (option_and_then (λ (d : Device). store_of d.media)) r.1)) (go r.0.media (subst (λ b. OnMedia Fits b r.0.media) r.2 (all u tt r.0 r.1)))
  where
    go : (m : Media) → OnMedia Fits d.blocks m → Fits d.blocks (unwrap_or (store_of m) s)
    go blank k = h
    go (one t) k = k
    go (two a b) k = h
    go lost k = h

thrown-valid : (w : World) (c : Command) (u : ℕ) → AllValid w → has_form c ≡ true → AllValid (world_thrown w c u)
thrown-valid w c u all form = change-device (λ u. ⊤) Fits w u (λ d. record d { media = torn w c u d.media; mounted = false }) all (λ d e. go d e d.media (all u tt d e))
  where
    go : (d : Device) → device w u ≡ Some d → (m : Media) → OnMedia Fits d.blocks m → OnMedia Fits d.blocks (torn w c u m)
    go d e blank k = format (is_format_of c u)
      where
        format : (b : Bool) → OnMedia Fits d.blocks (if b then lost else blank)
        format true = tt
        format false = tt
    go d e (one s) k = which (may_tear w c u) refl
      where
        which : (b : Bool) → may_tear w c u ≡ b → OnMedia Fits d.blocks (if b then two s (store_after w c u s) else one s)
        which true is = (k, after-valid w (changed w c) u d e (row-blocks w c) (row-valid w c all form (accepted (first_of (checks w c)) (writes w c u) (not (moves_away c u)) is)) s k)
        which false is = k
    go d e (two a b) k = k
    go d e lost k = tt

halfway-valid : (w : World) (c : Command) (u : ℕ) → AllValid w → has_form c ≡ true → first_of (checks w c) ≡ None → AllValid (world_halfway w c u)
halfway-valid w c u all form ok = change-device (λ u. ⊤) Fits (changed w c) u (λ d. record d { media = either_of (store_on_unit w u) d.media; mounted = false }) (row-valid w c all form ok)
    (λ d e. go d e d.media (row-valid w c all form ok u tt d e))
  where
    -- the store that the unit had
    before : (d : Device) → device (changed w c) u ≡ Some d → (a : Store) → store_on_unit w u ≡ Some a → Fits d.blocks a
    before d e a h =
        let r = mapped (λ (d : Device). d.blocks) (device w u) d.blocks (sym (row-blocks w c u) ∙ ap (option_map (λ (d : Device). d.blocks)) e) in
        has r.0.media (sym (ap (option_and_then (λ (d : Device). store_of d.media)) r.1) ∙ h) (subst (λ b. OnMedia Fits b r.0.media) r.2 (all u tt r.0 r.1))
      where
        has : (m : Media) → store_of m ≡ Some a → OnMedia Fits d.blocks m → Fits d.blocks a
        has blank h k = absurd (none-some a h)
        has (one s) h k = subst (Fits d.blocks) (some-same s a h) k
        has (two x y) h k = absurd (none-some a h)
        has lost h k = absurd (none-some a h)

    go : (d : Device) → device (changed w c) u ≡ Some d → (m : Media) → OnMedia Fits d.blocks m → OnMedia Fits d.blocks (either_of (store_on_unit w u) m)
    go d e m k = which (store_on_unit w u) refl m k
      where
        which : (o : Option Store) → store_on_unit w u ≡ o → (m : Media) → OnMedia Fits d.blocks m → OnMedia Fits d.blocks (either_of o m)
        which None is m k = k
        which (Some a) is blank k = k
        which (Some a) is (one b) k = (before d e a is, k)
        which (Some a) is (two x y) k = k
        which (Some a) is lost k = k

pub step-valid : (w : World) (c : Command) (v : World) (r : Reply) → AllValid w → IsTrue (has_form c) → Step w c v r → AllValid v
step-valid w c v r all form (plain none is) = subst (λ (p : World × Reply). AllValid p.0) is (answer-valid w c all form)
step-valid w c v r all form (found {u} looks f is) = subst (λ (p : World × Reply). AllValid p.0) is (answer-valid _ c (found-valid w u _ f all) form)
step-valid w c v r all form (thrown {u} next is) = subst AllValid (sym next) (thrown-valid w c u all form)
step-valid w c v r all form (halfway {u} moves ok next is) = subst AllValid (sym next) (halfway-valid w c u all form (is-accepted w c ok))
