-- What no note tells of has not changed.
use Rattle.std.proofs.Common.{◌≡◌, refl, ap, sym, ◌∙◌, ℕ, List, [], ◌∷◌, ◌++◌, ◌⊎◌, inl, inr, true, false, Bool, not, cond, if◌then◌else◌, Option, Some, None, option_map, option_and_then, find}
use Rattle.std.specs.Prelude.{slice_get, is_some, filter}
use Rattle.newt_base.specs.Names.{equal_text}
use Rattle.newt_base.specs.Refusals.{first_of}
use Rattle.newt_base.specs.declared.Refusal.{Refusal}
use Rattle.newt_laws_images.proofs.Chosen.{text-same}
use Rattle.newt_laws_world.proofs.Kept.{AllFalse, all-false, on_units, changed-units}
use Rattle.newt_laws_world.proofs.Units.{device-other, device-same, same-or-not}
use Rattle.newt_notify.specs.declared.note.Note.{Note}
use Rattle.newt_spec_store.specs.Store.{Entry, Soup, Store, add_entry, change_entry, change_first, change_soup, drop_soup, make_soup, new_store, remove_entry, soup_named, with_graph, with_index, with_info, with_tags, without_index}
use Rattle.newt_spec_world.specs.Answer.{answer, answered}
use Rattle.newt_spec_world.specs.Changed.{changed, copy_to, graph_after_set, info_from, patched, spec_of_words}
use Rattle.newt_spec_world.specs.Refused.{checks}
use Rattle.newt_spec_world.specs.World.{World, Device, Media, blank, one, two, lost, change_device, change_media, change_soup_in, change_store, default_unit, device, entry_in, flat, store_of, store_on_unit}
use Rattle.newt_spec_world.specs.declared.command.Command.{Command}
use Rattle.newt_spec_world.specs.declared.command.Command.TheVariants as command
use Rattle.newt_spec_whole.specs.Events.{events}
use Rattle.newt_laws_whole.specs.Since.{if_done}
use Rattle.newt_laws_whole.specs.Steps.{notes_of}
use Rattle.newt_laws_whole.specs.Told.{entries_on, told_to}

-- no note of this name is told where none of the notes is
pub told-apart : (name s : List ℕ) (note : Note) (more : List Note) → (if equal_text s name then note ∷ more else more) ≡ [] → (equal_text s name ≡ false) × (more ≡ [])
told-apart name s note more h = go (equal_text s name) h
  where
    go : (b : Bool) → (if b then note ∷ more else more) ≡ [] → (b ≡ false) × (more ≡ [])
    go true k = cc
    go false k = (refl, k)

module _ (name : List ℕ) where
  -- ---- soups

  abbrev named : List Soup → Option Soup
  named ps = find (λ (p : Soup). equal_text p.name name) ps

  abbrev has_name : List ℕ → Soup → Bool
  has_name s = λ p. equal_text p.name s

  -- a soup of another name than one that is looked for
  other-name : (s : List ℕ) (p : Soup) → equal_text s name ≡ false → equal_text p.name s ≡ true → equal_text p.name name ≡ false
  other-name s p apart is = ap (λ n. equal_text n name) (text-same p.name s is) ∙ apart

  change-apart : (s : List ℕ) (f : Soup → Soup) → equal_text s name ≡ false → ((p : Soup) → (f p).name ≡ p.name) → (ps : List Soup)
      → named (change_first (has_name s) f ps) ≡ named ps
  change-apart s f apart keeps [] = refl
  change-apart s f apart keeps (p ∷ ps) = go (has_name s p) refl (change-apart s f apart keeps ps)
    where
      go : (b : Bool) → has_name s p ≡ b → named (change_first (has_name s) f ps) ≡ named ps
          → named (cond b (f p ∷ ps) (p ∷ change_first (has_name s) f ps)) ≡ named (p ∷ ps)
      go true is more =
          let other = other-name s p apart is in
          ap (λ (c : Bool). cond c (Some (f p)) (named ps)) (ap (λ n. equal_text n name) (keeps p) ∙ other)
          ∙ sym (ap (λ (c : Bool). cond c (Some p) (named ps)) other)
      go false is more = ap (λ (o : Option Soup). cond (equal_text p.name name) (Some p) o) more

  abbrev entries_of : Option Soup → Option (List Entry)
  entries_of o = option_map (λ (p : Soup). p.entries) o

  change-beside : (s : List ℕ) (f : Soup → Soup) → ((p : Soup) → (f p).name ≡ p.name) → ((p : Soup) → (f p).entries ≡ p.entries) → (ps : List Soup)
      → entries_of (named (change_first (has_name s) f ps)) ≡ entries_of (named ps)
  change-beside s f keeps same [] = refl
  change-beside s f keeps same (p ∷ ps) = go (has_name s p) (change-beside s f keeps same ps)
    where
      changed_one : (b : Bool) → entries_of (cond b (Some (f p)) (named ps)) ≡ entries_of (cond b (Some p) (named ps))
      changed_one true = ap (λ (es : List Entry). Some es) (same p)
      changed_one false = refl

      later : (o : Option Soup) → entries_of o ≡ entries_of (named ps) → (b : Bool) → entries_of (cond b (Some p) o) ≡ entries_of (cond b (Some p) (named ps))
      later o more true = refl
      later o more false = more

      go : (b : Bool) → entries_of (named (change_first (has_name s) f ps)) ≡ entries_of (named ps)
          → entries_of (named (cond b (f p ∷ ps) (p ∷ change_first (has_name s) f ps))) ≡ entries_of (named (p ∷ ps))
      go true more =
          ap (λ n. entries_of (cond (equal_text n name) (Some (f p)) (named ps))) (keeps p)
          ∙ changed_one (equal_text p.name name)
      go false more = later (named (change_first (has_name s) f ps)) more (equal_text p.name name)

  made-apart : (q : Soup) → equal_text q.name name ≡ false → (ps : List Soup) → named (ps ++ q ∷ []) ≡ named ps
  made-apart q apart [] = ap (λ (b : Bool). cond b (Some q) None) apart
  made-apart q apart (p ∷ ps) = ap (λ (o : Option Soup). cond (equal_text p.name name) (Some p) o) (made-apart q apart ps)

  dropped-apart : (s : List ℕ) → equal_text s name ≡ false → (ps : List Soup) → named (filter (λ (p : Soup). not (has_name s p)) ps) ≡ named ps
  dropped-apart s apart [] = refl
  dropped-apart s apart (p ∷ ps) = go (has_name s p) refl (dropped-apart s apart ps)
    where
      go : (b : Bool) → has_name s p ≡ b → named (filter (λ (p : Soup). not (has_name s p)) ps) ≡ named ps
          → named (cond (not b) (p ∷ filter (λ (p : Soup). not (has_name s p)) ps) (filter (λ (p : Soup). not (has_name s p)) ps)) ≡ named (p ∷ ps)
      go true is more = more ∙ sym (ap (λ (c : Bool). cond c (Some p) (named ps)) (other-name s p apart is))
      go false is more = ap (λ (o : Option Soup). cond (equal_text p.name name) (Some p) o) more

  -- ---- units

  -- the entries on a unit with this device
  abbrev on_device : Option Device → Option (List Entry)
  on_device o = entries_of (option_and_then (soup_named name) (option_and_then (λ (d : Device). store_of d.media) o))

  device-leaves : (w : World) (n : ℕ) (f : Device → Device) → ((d : Device) → device w n ≡ Some d → on_device (Some (f d)) ≡ on_device (Some d))
      → (u : ℕ) → entries_on (change_device w n f) u name ≡ entries_on w u name
  device-leaves w n f each u = go (same-or-not u n)
    where
      here : (o : Option Device) → device w n ≡ o → on_device (option_map f o) ≡ on_device o
      here None e = refl
      here (Some d) e = each d e

      go : (u ≡ n) ⊎ (u ≡ n → ⊥) → on_device (device (change_device w n f) u) ≡ on_device (device w u)
      go (inl e) =
          ap (λ x. on_device (device (change_device w n f) x)) e ∙ ap on_device (device-same w n f) ∙ here (device w n) refl
          ∙ sym (ap (λ x. on_device (device w x)) e)
      go (inr e) = ap on_device (device-other w n f u e)

  store-leaves : (w : World) (n : ℕ) (f : Store → Store) → ((s : Store) → entries_of (soup_named name (f s)) ≡ entries_of (soup_named name s))
      → (u : ℕ) → entries_on (change_store w n f) u name ≡ entries_on w u name
  store-leaves w n f leaves = device-leaves w n (λ d. record d { media = change_media f d.media }) (λ d e. media d.media)
    where
      media : (m : Media) → entries_of (option_and_then (soup_named name) (store_of (change_media f m))) ≡ entries_of (option_and_then (soup_named name) (store_of m))
      media blank = refl
      media (one s) = leaves s
      media (two a b) = refl
      media lost = refl

  pub soup-apart : (w : World) (n : ℕ) (s : List ℕ) (f : Soup → Soup) → equal_text s name ≡ false → ((p : Soup) → (f p).name ≡ p.name)
      → (u : ℕ) → entries_on (change_soup_in w n s f) u name ≡ entries_on w u name
  soup-apart w n s f apart keeps = store-leaves w n (change_soup s f) (λ t. ap entries_of (change-apart s f apart keeps t.soups))

  soup-beside : (w : World) (n : ℕ) (s : List ℕ) (f : Soup → Soup) → ((p : Soup) → (f p).name ≡ p.name) → ((p : Soup) → (f p).entries ≡ p.entries)
      → (u : ℕ) → entries_on (change_soup_in w n s f) u name ≡ entries_on w u name
  soup-beside w n s f keeps same = store-leaves w n (change_soup s f) (λ t. change-beside s f keeps same t.soups)

  pub copy-apart : (w : World) (v : ℕ) (t : List ℕ) (o : Option Entry) → equal_text t name ≡ false → (u : ℕ) → entries_on (copy_to w v t o) u name ≡ entries_on w u name
  copy-apart w v t None apart u = refl
  copy-apart w v t (Some e) apart u = soup-apart w v t (add_entry w.minute e.graph) apart (λ p. refl) u

  pub units-leave : (v w : World) → v.units ≡ w.units → (u : ℕ) → entries_on v u name ≡ entries_on w u name
  units-leave v w e u = ap (λ us. on_device (flat (slice_get us u))) e

  -- no store was there to be formatted
  no-store : (o : Option Store) → is_some o ≡ false → o ≡ None
  no-store None h = refl
  no-store (Some s) h = cc

  formatted : (w : World) (n sig : ℕ) (label : List ℕ) → is_some (store_on_unit w n) ≡ false
      → (u : ℕ) → entries_on (change_device w n (λ d. record d { media = one (new_store label sig); mounted = false })) u name ≡ entries_on w u name
  formatted w n sig label none = device-leaves w n (λ d. record d { media = one (new_store label sig); mounted = false })
      (λ d e. sym (ap (λ (o : Option Store). entries_of (option_and_then (soup_named name) o))
      (no-store (store_of d.media) (ap (λ (o : Option Device). is_some (option_and_then (λ (d : Device). store_of d.media) o)) (sym e) ∙ none))))

  -- ---- the table

  pub row-kept : (w : World) (c : Command) → AllFalse (checks w c) → told_to name (events w c) ≡ [] → (u : ℕ) → entries_on (changed w c) u name ≡ entries_on w u name
  unfolding changed checks events on_units
  row-kept w (command.Format n label sig) h none u = formatted w n sig label h.1.1.1.0 u
  row-kept w (command.Mount n) h none u = device-leaves w n (λ d. record d { mounted = true }) (λ d e. refl) u
  row-kept w (command.Unmount n) h none u = device-leaves w n (λ d. record d { mounted = false }) (λ d e. refl) u
  row-kept w (command.Soup n s) h none u = store-leaves w n (make_soup s) (λ t. ap entries_of (made-apart (made t) (told-apart name s _ _ none).0 t.soups)) u
    where
      made : Store → Soup
      made t = record { name = s; sig = t.next_soup; next_uid = 0; specs = []; tags = None; info = None; entries = [] }
  row-kept w (command.Drop n s) h none u = store-leaves w n (drop_soup s) (λ t. ap entries_of (dropped-apart s (told-apart name s _ _ none).0 t.soups)) u
  row-kept w (command.Index n s parts) h none u = soup-beside w n s (with_index (spec_of_words parts)) (λ p. refl) (λ p. refl) u
  row-kept w (command.Unindex n s paths) h none u = soup-beside w n s (without_index paths) (λ p. refl) (λ p. refl) u
  row-kept w (command.SetTags n s path symbols) h none u = soup-beside w n s (with_tags (Some (record { path = path; symbols = symbols }))) (λ p. refl) (λ p. refl) u
  row-kept w (command.SetInfo n s g) h none u = soup-beside w n s (with_info (info_from g)) (λ p. refl) (λ p. refl) u
  row-kept w (command.Add n s g) h none u = soup-apart w n s (add_entry w.minute g) (told-apart name s _ _ none).0 (λ p. refl) u
  row-kept w (command.Addx n s g) h none u = soup-apart w n s (add_entry w.minute g) (told-apart name s _ _ none).0 (λ p. refl) u
  row-kept w (command.Addu s g) h none u = soup-apart w (default_unit w) s (add_entry w.minute g) (told-apart name s _ _ none).0 (λ p. refl) u
  row-kept w (command.Set n s uid path g) h none u =
      soup-apart w n s (change_entry uid (λ e. with_graph w.minute (graph_after_set path g e.graph) e)) (told-apart name s _ _ none).0 (λ p. refl) u
  row-kept w (command.Change n s uid g) h none u = soup-apart w n s (change_entry uid (with_graph w.minute g)) (told-apart name s _ _ none).0 (λ p. refl) u
  row-kept w (command.Remove n s uid) h none u = soup-apart w n s (remove_entry uid) (told-apart name s _ _ none).0 (λ p. refl) u
  row-kept w (command.Copy n s uid v t) h none u = copy-apart w v t (entry_in w n s uid) (told-apart name t _ _ none).0 u
  row-kept w (command.Move n s uid v t) h none u =
      let first = told-apart name t _ _ none in
      soup-apart (copy_to w v t (entry_in w n s uid)) n s (remove_entry uid) (told-apart name s _ _ first.1).0 (λ p. refl) u
      ∙ copy-apart w v t (entry_in w n s uid) first.0 u
  row-kept w (command.Vwrite n s uid path at bytes) h none u =
      soup-apart w n s (change_entry uid (λ e. record e { graph = patched path at bytes e.graph })) (told-apart name s _ _ none).0 (λ p. refl) u
  row-kept w c h none u = units-leave (changed w c) w (changed-units w c refl) u

pub untold-kept : (w : World) (c : Command) (u : ℕ) (name : List ℕ) → told_to name (notes_of w c) ≡ [] → entries_on (answer w c).0 u name ≡ entries_on w u name
unfolding answer
untold-kept w c u name none = go (first_of (checks w c)) refl none
  where
    go : (o : Option Refusal) → first_of (checks w c) ≡ o → told_to name (if_done o (events w c)) ≡ [] → entries_on (answered w c o).0 u name ≡ entries_on w u name
    go (Some r) e k = refl
    go None e k = row-kept name w c (all-false (checks w c) e) k u
