-- What a command leaves on each unit, where no device fails.
use Rattle.std.proofs.Common.{◌≡◌, refl, ap, sym, subst, ℕ, List, [], true, false, Bool, ◌⊎◌, inl, inr, Option, Some, None, option_map}
use Rattle.std.specs.Prelude.{slice_get}
use Rattle.std.proofs.lemmas.Bool.{eqb-false}
use Rattle.newt_base.specs.Refusals.{first_of}
use Rattle.newt_base.specs.declared.Refusal.{Refusal}
use Rattle.newt_spec_store.specs.Store.{Store, Soup, Entry, change_soup, change_entry, make_soup, drop_soup, add_entry, remove_entry, new_store, with_index, without_index, with_graph, with_tags, with_info}
use Rattle.newt_spec_world.specs.declared.command.Command.{Command}
use Rattle.newt_spec_world.specs.declared.command.Command.TheVariants as command
use Rattle.newt_spec_world.specs.World.{World, Device, Media, blank, one, two, lost, stores_of, is_unsure, device, default_unit, stores_on, unsure_on, entry_in, flat, change_device, change_store, change_media, change_soup_in}
use Rattle.newt_spec_world.specs.Changed.{changed, copy_to, info_from, spec_of_words, graph_after_set, patched}
use Rattle.newt_spec_world.specs.Refused.{checks}
use Rattle.newt_spec_world.specs.Answer.{answer, answered}
use Rattle.newt_spec_world.specs.Step.{is_format_of}
use Rattle.newt_laws_changes.specs.Later.{SoupLater, StoreLater}
use Rattle.newt_laws_changes.proofs.Later.{store-not, store-trans, later-add, later-change, later-remove, later-make, later-drop, later-soup, soup-same}
use Rattle.newt_laws_world.proofs.Units.{same-or-not, device-other, device-same}
use Rattle.newt_laws_world.proofs.Kept.{on_units, changed-units}

-- ---- what is held

-- what is held goes on: one store as a later one, all else as it is
abbrev pub Goes-on : Media → Media → Type 0
Goes-on blank n = n ≡ blank
Goes-on (one s) n = (t : Store) × (n ≡ one t) × StoreLater s t
Goes-on (two a b) n = n ≡ two a b
Goes-on lost n = n ≡ lost

pub goes-not : (m : Media) → Goes-on m m
goes-not blank = refl
goes-not (one s) = (s, refl, store-not s)
goes-not (two a b) = refl
goes-not lost = refl

goes-trans : (l m n : Media) → Goes-on l m → Goes-on m n → Goes-on l n
goes-trans blank m n h k = subst (λ x. Goes-on x n) h k
goes-trans (one s) m n h k = let r = subst (λ x. Goes-on x n) h.1 k in (r.0, r.1, store-trans s h.0 r.0 h.2 r.2)
goes-trans (two a b) m n h k = subst (λ x. Goes-on x n) h k
goes-trans lost m n h k = subst (λ x. Goes-on x n) h k

goes-change : (f : Store → Store) → ((s : Store) → StoreLater s (f s)) → (m : Media) → Goes-on m (change_media f m)
goes-change f later blank = refl
goes-change f later (one s) = (f s, refl, later s)
goes-change f later (two a b) = refl
goes-change f later lost = refl

-- ---- on a unit

-- a device goes on; where there is none, there is none
abbrev pub Device-kept : Option Device → Option Device → Type 0
Device-kept None o = o ≡ None
Device-kept (Some d) o = (e : Device) × (o ≡ Some e) × Goes-on d.media e.media

abbrev pub KeptOn : World → World → ℕ → Type 0
KeptOn w v n = Device-kept (device w n) (device v n)

device-not : (o : Option Device) → Device-kept o o
device-not None = refl
device-not (Some d) = (d, refl, goes-not d.media)

device-trans : (o p q : Option Device) → Device-kept o p → Device-kept p q → Device-kept o q
device-trans None p q h k = subst (λ x. Device-kept x q) h k
device-trans (Some d) p q h k = let r = subst (λ x. Device-kept x q) h.1 k in (r.0, r.1, goes-trans d.media h.0.media r.0.media h.2 r.2)

device-map : (f : Device → Device) (o : Option Device) → ((d : Device) → o ≡ Some d → Goes-on d.media (f d).media) → Device-kept o (option_map f o)
device-map f None keeps = refl
device-map f (Some d) keeps = (f d, refl, keeps d refl)

pub kept-not : (w : World) (n : ℕ) → KeptOn w w n
kept-not w n = device-not (device w n)

kept-trans : (w v x : World) (n : ℕ) → KeptOn w v n → KeptOn v x n → KeptOn w x n
kept-trans w v x n h k = device-trans (device w n) (device v n) (device x n) h k

pub kept-same : (w v : World) (n : ℕ) → device v n ≡ device w n → KeptOn w v n
kept-same w v n e = subst (Device-kept (device w n)) (sym e) (device-not (device w n))

pub kept-device : (w : World) (u : ℕ) (f : Device → Device) (n : ℕ) → ((d : Device) → device w u ≡ Some d → Goes-on d.media (f d).media) → KeptOn w (change_device w u f) n
kept-device w u f n keeps = go (same-or-not n u)
  where
    go : (n ≡ u) ⊎ (n ≡ u → ⊥) → Device-kept (device w n) (device (change_device w u f) n)
    go (inl is) = subst (λ m. Device-kept (device w m) (device (change_device w u f) m)) (sym is)
        (subst (Device-kept (device w u)) (sym (device-same w u f)) (device-map f (device w u) keeps))
    go (inr not) = subst (Device-kept (device w n)) (sym (device-other w u f n not)) (device-not (device w n))

pub kept-store : (w : World) (u : ℕ) (f : Store → Store) (n : ℕ) → ((s : Store) → StoreLater s (f s)) → KeptOn w (change_store w u f) n
kept-store w u f n later = kept-device w u (λ d. record d { media = change_media f d.media }) n (λ d e. goes-change f later d.media)

pub kept-soup : (w : World) (u : ℕ) (name : List ℕ) (f : Soup → Soup) (n : ℕ) → ((p : Soup) → SoupLater p (f p)) → KeptOn w (change_soup_in w u name f) n
kept-soup w u name f n each = kept-store w u (change_soup name f) n (later-soup name f each)

kept-entry : (w : World) (u : ℕ) (name : List ℕ) (uid : ℕ) (f : Entry → Entry) (n : ℕ) → ((e : Entry) → (f e).uid ≡ e.uid) → KeptOn w (change_soup_in w u name (change_entry uid f)) n
kept-entry w u name uid f n same = kept-soup w u name (change_entry uid f) n (later-change uid f same)

pub kept-copy : (w : World) (v : ℕ) (t : List ℕ) (o : Option Entry) (n : ℕ) → KeptOn w (copy_to w v t o) n
kept-copy w v t None n = kept-not w n
kept-copy w v t (Some e) n = kept-soup w v t (add_entry w.minute e.graph) n (later-add w.minute e.graph)

kept-units : (v w : World) (n : ℕ) → v.units ≡ w.units → KeptOn w v n
kept-units v w n e = kept-same w v n (ap (λ us. flat (slice_get us n)) e)

-- a command that is no format of the unit
pub row-kept : (w : World) (c : Command) (n : ℕ) → is_format_of c n ≡ false → KeptOn w (changed w c) n
unfolding changed on_units
row-kept w (command.Format u name sig) n h = kept-same w (changed w (command.Format u name sig)) n
    (device-other w u (λ d. record d { media = one (new_store name sig); mounted = false }) n (λ e. eqb-false u n h (sym e)))
row-kept w (command.Mount u) n h = kept-device w u (λ d. record d { mounted = true }) n (λ d e. goes-not d.media)
row-kept w (command.Unmount u) n h = kept-device w u (λ d. record d { mounted = false }) n (λ d e. goes-not d.media)
row-kept w (command.Soup u name) n h = kept-store w u (make_soup name) n (later-make name)
row-kept w (command.Drop u s) n h = kept-store w u (drop_soup s) n (later-drop s)
row-kept w (command.Index u s parts) n h = kept-soup w u s (with_index (spec_of_words parts)) n (λ p. soup-same p _ refl refl refl)
row-kept w (command.Unindex u s paths) n h = kept-soup w u s (without_index paths) n (λ p. soup-same p _ refl refl refl)
row-kept w (command.SetTags u s path symbols) n h = kept-soup w u s (with_tags (Some (record { path = path; symbols = symbols }))) n (λ p. soup-same p _ refl refl refl)
row-kept w (command.SetInfo u s g) n h = kept-soup w u s (with_info (info_from g)) n (λ p. soup-same p _ refl refl refl)
row-kept w (command.Add u s g) n h = kept-soup w u s (add_entry w.minute g) n (later-add w.minute g)
row-kept w (command.Addx u s g) n h = kept-soup w u s (add_entry w.minute g) n (later-add w.minute g)
row-kept w (command.Addu s g) n h = kept-soup w (default_unit w) s (add_entry w.minute g) n (later-add w.minute g)
row-kept w (command.Set u s uid path g) n h = kept-entry w u s uid (λ e. with_graph w.minute (graph_after_set path g e.graph) e) n (λ e. refl)
row-kept w (command.Change u s uid g) n h = kept-entry w u s uid (with_graph w.minute g) n (λ e. refl)
row-kept w (command.Remove u s uid) n h = kept-soup w u s (remove_entry uid) n (later-remove uid)
row-kept w (command.Copy u s uid v t) n h = kept-copy w v t (entry_in w u s uid) n
row-kept w (command.Move u s uid v t) n h = kept-trans w (copy_to w v t (entry_in w u s uid)) (changed w (command.Move u s uid v t)) n (kept-copy w v t (entry_in w u s uid) n)
    (kept-soup (copy_to w v t (entry_in w u s uid)) u s (remove_entry uid) n (later-remove uid))
row-kept w (command.Vwrite u s uid path at bytes) n h = kept-entry w u s uid (λ e. record e { graph = patched path at bytes e.graph }) n (λ e. refl)
row-kept w c n h = kept-units (changed w c) w n (changed-units w c refl)

-- so is its answer; a format of it may be refused
pub answer-kept : (w : World) (c : Command) (n : ℕ) → (first_of (checks w c) ≡ None → is_format_of c n ≡ false) → KeptOn w (answer w c).0 n
unfolding answer
answer-kept w c n h = go (first_of (checks w c)) refl
  where
    go : (o : Option Refusal) → first_of (checks w c) ≡ o → KeptOn w (answered w c o).0 n
    go None e = row-kept w c n (h e)
    go (Some r) e = kept-not w n

-- ---- by the stores

pub stores-by : (w : World) (n : ℕ) (d : Device) → device w n ≡ Some d → stores_on w n ≡ stores_of d.media
stores-by w n d e = ap (λ (o : Option Device). let x : List Store = elim o [ None ↦ [] | Some d ↦ stores_of d.media ] in x) e

pub unsure-by : (w : World) (n : ℕ) (d : Device) → device w n ≡ Some d → unsure_on w n ≡ is_unsure d.media
unsure-by w n d e = ap (λ (o : Option Device). let x : Bool = elim o [ None ↦ false | Some d ↦ is_unsure d.media ] in x) e
