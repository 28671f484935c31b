-- Ids and signatures are not given again.
use Rattle.std.proofs.Common.{◌≡◌, refl, ap, sym, ◌∙◌, subst, ℕ, List, [], ◌∷◌, true, false, ◌⊎◌, inl, inr, Option, Some, None, option_map, option_and_then}
use Rattle.std.specs.Prelude.{slice_get}
use Rattle.std.specs.Option.{is_some}
use Rattle.newt_base.specs.Refusals.{first_of}
use Rattle.newt_base.specs.declared.Refusal.{Refusal}
use Rattle.newt_spec_store.specs.Store.{Store, Soup, Entry, change_soup, change_entry, make_soup, drop_soup, add_entry, remove_entry, new_store, with_index, without_index, with_graph, with_tags, with_info}
use Rattle.newt_spec_world.specs.declared.command.Command.{Command}
use Rattle.newt_spec_world.specs.declared.command.Command.TheVariants as command
use Rattle.newt_spec_world.specs.World.{World, Device, Media, blank, one, two, lost, device, default_unit, store_of, store_on_unit, entry_in, flat, change_device, change_store, change_media, change_soup_in}
use Rattle.newt_spec_world.specs.Changed.{changed, copy_to, spec_of_words, graph_after_set, patched, info_from}
use Rattle.newt_spec_world.specs.Refused.{checks}
use Rattle.newt_spec_world.specs.Answer.{answer, answered, after}
use Rattle.newt_laws_changes.specs.Later.{SoupLater, StoreLater}
use Rattle.newt_laws_world.specs.Later.{WorldLater}
use Rattle.newt_laws_changes.proofs.Later.{store-not, store-trans, later-add, later-change, later-remove, later-make, later-drop, later-soup, soup-same}
pub use Rattle.newt_laws_changes.proofs.Later.{entry-gone, soup-gone}
use Rattle.newt_spec_graph.proofs.Lists.{some-same, none-some}
use Rattle.newt_laws_world.proofs.Units.{same-or-not, device-other, device-same}
use Rattle.newt_laws_world.proofs.Kept.{AllFalse, all-false, on_units, changed-units}

-- ---- worlds

pub world-not : (w : World) → WorldLater w w
world-not w u s h = (s, h, store-not s)

pub world-trans : (w v x : World) → WorldLater w v → WorldLater v x → WorldLater w x
world-trans w v x h k u s e = let a = h u s e in let b = k u a.0 a.1 in (b.0, b.1, store-trans s a.0 b.0 a.2 b.2)

change-later : (w : World) (u : ℕ) (f : Device → Device) → ((d : Device) (s : Store) → device w u ≡ Some d → store_of d.media ≡ Some s → (t : Store) × (store_of (f d).media ≡ Some t) × StoreLater s t) → WorldLater w (change_device w u f)
change-later w u f keeps n s h = go (same-or-not n u)
  where
    here : (o : Option Device) → device w u ≡ o → option_and_then (λ (d : Device). store_of d.media) o ≡ Some s → (t : Store) × (option_and_then (λ (d : Device). store_of d.media) (option_map f o) ≡ Some t) × StoreLater s t
    here None e k = absurd (none-some s k)
    here (Some d) e k = keeps d s e k

    go : (n ≡ u) ⊎ (n ≡ u → ⊥) → (t : Store) × (store_on_unit (change_device w u f) n ≡ Some t) × StoreLater s t
    go (inl e) = let r = here (device w u) refl (ap (store_on_unit w) (sym e) ∙ h) in
        (r.0, ap (store_on_unit (change_device w u f)) e ∙ ap (option_and_then (λ (d : Device). store_of d.media)) (device-same w u f) ∙ r.1, r.2)
    go (inr e) = (s, ap (option_and_then (λ (d : Device). store_of d.media)) (device-other w u f n e) ∙ h, store-not s)

store-later : (w : World) (u : ℕ) (f : Store → Store) → ((s : Store) → StoreLater s (f s)) → WorldLater w (change_store w u f)
store-later w u f later = change-later w u (λ d. record d { media = change_media f d.media }) (λ d s e k. go s d.media k)
  where
    go : (s : Store) (m : Media) → store_of m ≡ Some s → (t : Store) × (store_of (change_media f m) ≡ Some t) × StoreLater s t
    go s blank k = absurd (none-some s k)
    go s (two a b) k = absurd (none-some s k)
    go s lost k = absurd (none-some s k)
    go s (one x) k = (f x, refl, subst (λ y. StoreLater y (f x)) (some-same x s k) (later x))

soup-later : (w : World) (u : ℕ) (name : List ℕ) (f : Soup → Soup) → ((p : Soup) → SoupLater p (f p)) → WorldLater w (change_soup_in w u name f)
soup-later w u name f each = store-later w u (change_soup name f) (later-soup name f each)

entry-later : (w : World) (u : ℕ) (name : List ℕ) (uid : ℕ) (f : Entry → Entry) → ((e : Entry) → (f e).uid ≡ e.uid) → WorldLater w (change_soup_in w u name (change_entry uid f))
entry-later w u name uid f same = soup-later w u name (change_entry uid f) (later-change uid f same)

copy-later : (w : World) (v : ℕ) (t : List ℕ) (o : Option Entry) → WorldLater w (copy_to w v t o)
copy-later w v t None = world-not w
copy-later w v t (Some e) = soup-later w v t (add_entry w.minute e.graph) (later-add w.minute e.graph)

units-later : (v w : World) → v.units ≡ w.units → WorldLater w v
units-later v w e u s h = (s, ap (λ us. option_and_then (λ (d : Device). store_of d.media) (flat (slice_get us u))) e ∙ h, store-not s)

no-store : (o : Option Store) (s : Store) → is_some o ≡ false → o ≡ Some s → ⊥
no-store None s h e = none-some s e
no-store (Some x) s h e = cc

pub row-later : (w : World) (c : Command) → AllFalse (checks w c) → WorldLater w (changed w c)
unfolding changed checks on_units
row-later w (command.Format u name sig) h = change-later w u (λ d. record d { media = one (new_store name sig); mounted = false })
    (λ d s e k. absurd (no-store (store_on_unit w u) s h.1.1.1.0 (ap (option_and_then (λ (d : Device). store_of d.media)) e ∙ k)))
row-later w (command.Mount u) h = change-later w u (λ d. record d { mounted = true }) (λ d s e k. (s, k, store-not s))
row-later w (command.Unmount u) h = change-later w u (λ d. record d { mounted = false }) (λ d s e k. (s, k, store-not s))
row-later w (command.Soup u name) h = store-later w u (make_soup name) (later-make name)
row-later w (command.Drop u s) h = store-later w u (drop_soup s) (later-drop s)
row-later w (command.Index u s parts) h = soup-later w u s (with_index (spec_of_words parts)) (λ p. soup-same p _ refl refl refl)
row-later w (command.Unindex u s paths) h = soup-later w u s (without_index paths) (λ p. soup-same p _ refl refl refl)
row-later w (command.SetTags u s path symbols) h = soup-later w u s (with_tags (Some (record { path = path; symbols = symbols }))) (λ p. soup-same p _ refl refl refl)
row-later w (command.SetInfo u s g) h = soup-later w u s (with_info (info_from g)) (λ p. soup-same p _ refl refl refl)
row-later w (command.Add u s g) h = soup-later w u s (add_entry w.minute g) (later-add w.minute g)
row-later w (command.Addx u s g) h = soup-later w u s (add_entry w.minute g) (later-add w.minute g)
row-later w (command.Addu s g) h = soup-later w (default_unit w) s (add_entry w.minute g) (later-add w.minute g)
row-later w (command.Set u s uid path g) h = entry-later w u s uid (λ e. with_graph w.minute (graph_after_set path g e.graph) e) (λ e. refl)
row-later w (command.Change u s uid g) h = entry-later w u s uid (with_graph w.minute g) (λ e. refl)
row-later w (command.Remove u s uid) h = soup-later w u s (remove_entry uid) (later-remove uid)
row-later w (command.Copy u s uid v t) h = copy-later w v t (entry_in w u s uid)
row-later w (command.Move u s uid v t) h = world-trans w (copy_to w v t (entry_in w u s uid)) (changed w (command.Move u s uid v t)) (copy-later w v t (entry_in w u s uid))
    (soup-later (copy_to w v t (entry_in w u s uid)) u s (remove_entry uid) (later-remove uid))
row-later w (command.Vwrite u s uid path at bytes) h = entry-later w u s uid (λ e. record e { graph = patched path at bytes e.graph }) (λ e. refl)
row-later w c h = units-later (changed w c) w (changed-units w c refl)

pub answer-later : (w : World) (c : Command) → WorldLater w (answer w c).0
unfolding answer
answer-later w c = go (first_of (checks w c)) refl
  where
    go : (o : Option Refusal) → first_of (checks w c) ≡ o → WorldLater w (answered w c o).0
    go None e = row-later w c (all-false (checks w c) e)
    go (Some r) e = world-not w

pub run-later : (w : World) (cs : List Command) → WorldLater w (after w cs)
run-later w [] = world-not w
run-later w (c ∷ cs) = world-trans w (answer w c).0 (after (answer w c).0 cs) (answer-later w c) (run-later (answer w c).0 cs)
