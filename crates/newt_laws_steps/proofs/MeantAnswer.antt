-- A command is answered the same, whatever is meant of units of which nothing is known, but where it is one of these that it has to look at.
use Rattle.std.proofs.Common.{◌≡◌, refl, ap, sym, ◌∙◌, subst, ℕ, List, map, true, false, ◌⊎◌, inl, inr, Option, Some, None, option_map, option_and_then, is_none, length, unwrap_or}
use Rattle.std.specs.Prelude.{slice_get}
use Rattle.newt_host.specs.Moments.{bytes_from}
use Rattle.newt_base.specs.Refusals.{first_of}
use Rattle.newt_base.specs.declared.Refusal.{Refusal}
use Rattle.newt_spec_store.specs.Store.{Store, Soup, Entry, change_soup, change_entry, make_soup, drop_soup, add_entry, remove_entry, new_store, with_index, without_index, with_graph, with_tags, with_info}
use Rattle.newt_spec_query.specs.Hits.{Hit}
use Rattle.newt_spec_query.specs.Cursor.{Cursor, Place, settled, start, finish, on, hit_at}
use Rattle.newt_spec_world.specs.declared.command.Command.{Command}
use Rattle.newt_spec_world.specs.declared.command.Command.TheVariants as command
use Rattle.newt_spec_world.specs.Reply.{Reply}
use Rattle.newt_spec_world.specs.World.{World, Device, Media, blank, one, two, lost, is_unsure, default_unit, flat, device, store_of, mounted_store, entry_in, cursor, hits_of, unsure_on, change_device, change_store, change_media, change_soup_in, settle}
use Rattle.newt_spec_graph.specs.Larges.{large_bytes}
use Rattle.newt_spec_world.specs.Changed.{changed, copy_to, info_from, spec_of_words, graph_after_set, patched}
use Rattle.newt_spec_world.specs.Refused.{checks, not_mounted}
use Rattle.newt_spec_world.specs.Alias.{alias_of}
use Rattle.newt_spec_world.specs.Answer.{answer, answered, fields, or_nil, spot_of, shown, current, new_uid}
use Rattle.newt_spec_world.specs.Step.{looks_anew}
use Rattle.newt_laws_world.proofs.Kept.{AllFalse, all-false, on_units, changed-units}
use Rattle.newt_laws_world.proofs.Units.{mapped, same-or-not, device-other, device-same}
use Rattle.newt_laws_steps.specs.Meant.{meant_by, MountedSure}
use Rattle.newt_laws_steps.proofs.Meant.{Sure, mounted-m, store-m, soup-m, entry-m}
use Rattle.newt_laws_steps.proofs.MeantRows.{both-ways, left-false, right-false, Touched, sure-of, hits-m, resolved-m, spot-m, changed-m, first-m}

-- ---- a command that is not refused touches units that are mounted

module _ (w : World) (sure : MountedSure w) where
  known : (u : ℕ) → is_none (mounted_store w u) ≡ false → unsure_on w u ≡ false
  known u h = sure-of (λ _. blank) w sure u h

  touched-of : (c : Command) → AllFalse (checks w c) → Touched w c
  unfolding checks
  touched-of (command.Soup u s) h = known u h.1.0
  touched-of (command.Drop u s) h = known u h.1.0
  touched-of (command.Index u s parts) h = known u h.1.0
  touched-of (command.Unindex u s paths) h = known u h.1.0
  touched-of (command.SetTags u s path symbols) h = known u h.1.0
  touched-of (command.SetInfo u s g) h = known u h.1.0
  touched-of (command.Add u s g) h = known u h.1.0
  touched-of (command.Addx u s g) h = known u h.1.0
  touched-of (command.Addu s g) h = known (default_unit w) h.0
  touched-of (command.Set u s uid path g) h = known u h.1.0
  touched-of (command.Change u s uid g) h = known u h.1.0
  touched-of (command.Remove u s uid) h = known u h.1.0
  touched-of (command.Vwrite u s uid path at bytes) h = known u h.1.0
  touched-of (command.Copy u s uid v t) h = known v (right-false (not_mounted w u).1 (not_mounted w v).1 h.1.0)
  touched-of (command.Move u s uid v t) h = (known u (left-false (not_mounted w u).1 (not_mounted w v).1 h.1.0), known v (right-false (not_mounted w u).1 (not_mounted w v).1 h.1.0))
  touched-of c h = tt

-- ---- what is mounted stays known

pub sure-device : (w : World) (u : ℕ) (g : Device → Device) → MountedSure w → ((d : Device) → device w u ≡ Some d → Sure (g d)) → MountedSure (change_device w u g)
sure-device w u g sure here n d e m = go (same-or-not n u)
  where
    go : (n ≡ u) ⊎ (n ≡ u → ⊥) → is_unsure d.media ≡ false
    go (inl is) = let r = mapped g (device w u) d (sym (device-same w u g) ∙ ap (device (change_device w u g)) (sym is) ∙ e) in
        subst (λ (x : Device). Sure x) r.2 (here r.0 r.1) m
    go (inr differs) = sure n d (sym (device-other w u g n differs) ∙ e) m

change-sure : (f : Store → Store) (m : Media) → is_unsure m ≡ false → is_unsure (change_media f m) ≡ false
change-sure f blank h = refl
change-sure f (one s) h = refl
change-sure f (two a b) h = h
change-sure f lost h = h

sure-store : (w : World) (u : ℕ) (f : Store → Store) → MountedSure w → MountedSure (change_store w u f)
sure-store w u f sure = sure-device w u (λ d. record d { media = change_media f d.media }) sure (λ d e m. change-sure f d.media (sure u d e m))

sure-soup : (w : World) (u : ℕ) (name : List ℕ) (f : Soup → Soup) → MountedSure w → MountedSure (change_soup_in w u name f)
sure-soup w u name f sure = sure-store w u (change_soup name f) sure

sure-copy : (w : World) (u : ℕ) (name : List ℕ) (o : Option Entry) → MountedSure w → MountedSure (copy_to w u name o)
sure-copy w u name None sure = sure
sure-copy w u name (Some e) sure = sure-soup w u name (add_entry w.minute e.graph) sure

sure-units : (v w : World) → v.units ≡ w.units → MountedSure w → MountedSure v
sure-units v w e sure u d is m = sure u d (sym (ap (λ us. flat (slice_get us u)) e) ∙ is) m

store-sure : (m : Media) → is_none (store_of m) ≡ false → is_unsure m ≡ false
store-sure blank h = cc
store-sure (one s) h = refl
store-sure (two a b) h = cc
store-sure lost h = cc

pub row-mounted : (w : World) (c : Command) → MountedSure w → AllFalse (checks w c) → MountedSure (changed w c)
unfolding changed checks on_units
row-mounted w (command.Format u name sig) sure h = sure-device w u (λ d. record d { media = one (new_store name sig); mounted = false }) sure (λ d e m. refl)
row-mounted w (command.Mount u) sure h = sure-device w u (λ d. record d { mounted = true }) sure (λ d e m. store-sure d.media (sym (ap (λ (o : Option Device). is_none (option_and_then (λ (d : Device). store_of d.media) o)) e) ∙ h.1.1.1.0))
row-mounted w (command.Unmount u) sure h = sure-device w u (λ d. record d { mounted = false }) sure (λ d e m. both-ways false m refl)
row-mounted w (command.Soup u name) sure h = sure-store w u (make_soup name) sure
row-mounted w (command.Drop u s) sure h = sure-store w u (drop_soup s) sure
row-mounted w (command.Index u s parts) sure h = sure-soup w u s (with_index (spec_of_words parts)) sure
row-mounted w (command.Unindex u s paths) sure h = sure-soup w u s (without_index paths) sure
row-mounted w (command.SetTags u s path symbols) sure h = sure-soup w u s (with_tags (Some (record { path = path; symbols = symbols }))) sure
row-mounted w (command.SetInfo u s g) sure h = sure-soup w u s (with_info (info_from g)) sure
row-mounted w (command.Add u s g) sure h = sure-soup w u s (add_entry w.minute g) sure
row-mounted w (command.Addx u s g) sure h = sure-soup w u s (add_entry w.minute g) sure
row-mounted w (command.Addu s g) sure h = sure-soup w (default_unit w) s (add_entry w.minute g) sure
row-mounted w (command.Set u s uid path g) sure h = sure-soup w u s (change_entry uid (λ e. with_graph w.minute (graph_after_set path g e.graph) e)) sure
row-mounted w (command.Change u s uid g) sure h = sure-soup w u s (change_entry uid (with_graph w.minute g)) sure
row-mounted w (command.Remove u s uid) sure h = sure-soup w u s (remove_entry uid) sure
row-mounted w (command.Copy u s uid v t) sure h = sure-copy w v t (entry_in w u s uid) sure
row-mounted w (command.Move u s uid v t) sure h = sure-soup (copy_to w v t (entry_in w u s uid)) u s (remove_entry uid) (sure-copy w v t (entry_in w u s uid) sure)
row-mounted w (command.Vwrite u s uid path at bytes) sure h = sure-soup w u s (change_entry uid (λ e. record e { graph = patched path at bytes e.graph })) sure
row-mounted w c sure h = sure-units (changed w c) w (changed-units w c refl) sure

pub answer-mounted : (w : World) (c : Command) → MountedSure w → MountedSure (answer w c).0
unfolding answer
answer-mounted w c sure = go (first_of (checks w c)) refl
  where
    go : (o : Option Refusal) → first_of (checks w c) ≡ o → MountedSure (answered w c o).0
    go None e = row-mounted w c sure (all-false (checks w c) e)
    go (Some r) e = sure

-- ---- cursors, and what is shown

pub settle-m : (f : ℕ → Media) (w : World) → MountedSure w → settle (meant_by f w) ≡ meant_by f (settle w)
settle-m f w sure = λ i. record (meant_by f w) { cursors = map (option_map (λ (k : Cursor). record k { place = settled (hits-m f w sure k.query i) k.place })) w.cursors }

current-m : (f : ℕ → Media) (v : World) (sure : MountedSure v) (k : Cursor) → current (meant_by f v) k ≡ current v k
current-m f v sure k = go k.place
  where
    at : World → Place → Reply
    at x place = elim place [
      | start ↦ Reply.nil
      | finish ↦ Reply.nil
      | on _ ↦ elim (option_and_then (spot_of x) (hit_at (hits_of x k.query) k.place)) [ Some s ↦ shown s | None ↦ Reply.deleted ]
    ]

    go : (place : Place) → at (meant_by f v) place ≡ at v place
    go start = refl
    go finish = refl
    go (on h) = λ i. elim (option_and_then (λ (h : Hit). spot-m f v sure h i) (hit_at (hits-m f v sure k.query i) k.place)) [ Some s ↦ shown s | None ↦ Reply.deleted ]

at-cursor-m : (f : ℕ → Media) (v : World) (sure : MountedSure v) (c : ℕ) → or_nil (current (meant_by f v)) (cursor v c) ≡ or_nil (current v) (cursor v c)
at-cursor-m f v sure c = λ i. or_nil (λ k. current-m f v sure k i) (cursor v c)

uid-m : (f : ℕ → Media) (w : World) (sure : MountedSure w) (u : ℕ) (name : List ℕ) → new_uid (meant_by f w) u name ≡ new_uid w u name
uid-m f w sure u name = ap (λ (o : Option Soup). unwrap_or (option_map (λ p. p.next_uid) o) 0) (soup-m f w sure u name)

fields-m : (f : ℕ → Media) (w v : World) → MountedSure w → MountedSure v → (c : Command) → fields (meant_by f w) (meant_by f v) c ≡ fields w v c
unfolding fields
fields-m f w v sw sv (command.Mount u) = λ i. or_nil (λ s. Reply.store s.sig s.name) (store-m f v sv u i)
fields-m f w v sw sv command.Stores = λ i. Reply.stores (map (λ m. (m.0, m.1.sig, m.1.name)) (mounted-m f w sw i))
fields-m f w v sw sv (command.Soup u s) = λ i. or_nil (λ t. Reply.number t.next_soup) (store-m f w sw u i)
fields-m f w v sw sv (command.Soups u) = λ i. or_nil (λ t. Reply.soups (map (λ p. (p.name, p.sig, length p.entries)) t.soups)) (store-m f w sw u i)
fields-m f w v sw sv (command.Indexes u s) = λ i. or_nil (λ p. Reply.indexes p.specs) (soup-m f w sw u s i)
fields-m f w v sw sv (command.Tags u s) = λ i. or_nil (λ p. Reply.tags p.tags) (soup-m f w sw u s i)
fields-m f w v sw sv (command.Info u s) = λ i. or_nil (λ p. or_nil Reply.literal_of p.info) (soup-m f w sw u s i)
fields-m f w v sw sv (command.Add u s g) = λ i. Reply.number (uid-m f w sw u s i)
fields-m f w v sw sv (command.Addx u s g) = λ i. Reply.number (uid-m f w sw u s i)
fields-m f w v sw sv (command.Addu s g) = λ i. Reply.added (default_unit w) (uid-m f w sw (default_unit w) s i)
fields-m f w v sw sv (command.Get u s uid) = λ i. or_nil (λ e. Reply.timed e.time e.graph) (entry-m f w sw u s uid i)
fields-m f w v sw sv (command.Getx u s uid) = λ i. or_nil (λ e. Reply.timed_nsof e.time e.graph) (entry-m f w sw u s uid i)
fields-m f w v sw sv (command.Copy _ _ _ u s) = λ i. Reply.number (uid-m f w sw u s i)
fields-m f w v sw sv (command.Move _ _ _ u s) = λ i. Reply.number (uid-m f w sw u s i)
fields-m f w v sw sv (command.Vread u s uid path at len) = λ i. or_nil (λ e. Reply.hex (bytes_from at len (large_bytes e.graph path))) (entry-m f w sw u s uid i)
fields-m f w v sw sv (command.Alias u s uid) = λ i. or_nil (λ t. or_nil (λ p. Reply.alias t.sig p.sig uid) (soup-m f w sw u s i)) (store-m f w sw u i)
fields-m f w v sw sv (command.Resolve g) = λ i. or_nil (λ s. Reply.where_is s.unit s.soup.name s.entry.uid) (option_and_then (λ a. resolved-m f w sw a i) (alias_of g))
fields-m f w v sw sv (command.Entry c) = at-cursor-m f v sv c
fields-m f w v sw sv (command.Next c) = at-cursor-m f v sv c
fields-m f w v sw sv (command.Prev c) = at-cursor-m f v sv c
fields-m f w v sw sv (command.Reset c) = at-cursor-m f v sv c
fields-m f w v sw sv (command.End c) = at-cursor-m f v sv c
fields-m f w v sw sv (command.Moveby c k) = at-cursor-m f v sv c
fields-m f w v sw sv (command.Goto c u uid) = at-cursor-m f v sv c
fields-m f w v sw sv (command.Gotokey c g) = at-cursor-m f v sv c
fields-m f w v sw sv (command.Count c) = λ i. or_nil (λ k. Reply.number (length (hits-m f w sw k.query i))) (cursor w c)
fields-m f w v sw sv c = refl

-- ---- the answer

pub answer-m : (f : ℕ → Media) (w : World) (c : Command) → MountedSure w → looks_anew w c ≡ None → answer (meant_by f w) c ≡ (meant_by f (answer w c).0, (answer w c).1)
unfolding answer
answer-m f w c sure anew = ap (answered (meant_by f w) c) (first-m f w sure c anew) ∙ go (first_of (checks w c)) refl
  where
    go : (o : Option Refusal) → first_of (checks w c) ≡ o → answered (meant_by f w) c o ≡ (meant_by f (answered w c o).0, (answered w c o).1)
    go (Some r) e = refl
    go None e =
        let tests = all-false (checks w c) e in
        let later = row-mounted w c sure tests in
        let next : settle (changed (meant_by f w) c) ≡ meant_by f (settle (changed w c)) = ap settle (changed-m f w sure c (touched-of w sure c tests)) ∙ settle-m f (changed w c) later in
        λ i. (next i, (ap (λ x. fields (meant_by f w) x c) next ∙ fields-m f w (settle (changed w c)) sure later c) i)
