-- The table of changes, row by row: stores go on to fit; and both halves together.
use Rattle.std.proofs.Common.{arith, ◌≡◌, refl, ap, sym, ◌∙◌, subst, ℕ, ◌+◌, ◌≤◌, List, true, false, Bool, IsTrue, ◌&&◌, ◌||◌, ◌⊎◌, inl, inr, Option, Some, None, length, nat_lt}
use Rattle.std.specs.Bool.{⊤}
use Rattle.std.proofs.lemmas.Bool.{ltb-false, le-leb, and_parts}
use Rattle.newt_base.specs.Refusals.{first_of}
use Rattle.newt_base.specs.declared.Refusal.{Refusal}
use Rattle.newt_spec_store.specs.Store.{Store, Entry, change_soup, change_entry, make_soup, drop_soup, add_entry, remove_entry, new_store, with_index, without_index, with_graph, with_tags, with_info}
use Rattle.newt_spec_image.specs.Pages.{cap}
use Rattle.newt_spec_store.specs.Cost.{cost}
use Rattle.newt_base.specs.Names.{is_name}
use Rattle.newt_spec_store.specs.Valid.{valid, well_formed, fits}
use Rattle.newt_spec_world.specs.declared.command.Command.{Command}
use Rattle.newt_spec_world.specs.declared.command.Command.TheVariants as command
use Rattle.newt_spec_world.specs.World.{World, Device, Media, blank, one, two, lost, device, default_unit, store_of, entry_in, change_store, change_media, change_soup_in, settle}
use Rattle.newt_spec_graph.specs.Larges.{large_at, large_bytes}
use Rattle.newt_spec_world.specs.Changed.{changed, spec_of_words, graph_after_set, copy_to, patched, info_from}
use Rattle.newt_spec_world.specs.Refused.{checks, on_some}
use Rattle.newt_spec_world.specs.Answer.{answer, answered}
use Rattle.newt_laws_world.specs.Worlds.{OnMedia, AllValid, has_form}
use Rattle.newt_laws_world.proofs.Units.{mapped, device-same, change-device, change-store, units-but, device-other, entry-has, same-or-not}
use Rattle.newt_laws_world.proofs.Costs.{fits-without-soup, fits-without-index, fits-without-entry, fits-with-change, fits-new}
use Rattle.newt_laws_world.proofs.Kept.{AllFalse, all-false, on-some, Wf, Ft, Every, media-more, media-both, same-units, on_units, changed-units, patched-pages, there}
use Rattle.newt_laws_world.proofs.Rows.{marked, mount-row, wf-row, and-left}

-- ---- a check of the cost

abbrev is_full : World → ℕ → Bool
is_full v u = on_some (device v u) (λ d. on_some (store_of d.media) (λ s. nat_lt (cap d.blocks) (cost s)))

-- it holds of both stores one of which is held
OnTwo : (ℕ → Store → Type 0) → ℕ → Media → Type 0
OnTwo P blocks (two a b) = P blocks a × P blocks b
OnTwo P blocks m = ⊤

on-two : (P : ℕ → Store → Type 0) (blocks : ℕ) (m : Media) → OnMedia P blocks m → OnTwo P blocks m
unfolding OnTwo
on-two P blocks blank h = tt
on-two P blocks (one s) h = tt
on-two P blocks (two a b) h = h
on-two P blocks lost h = tt

two-change : (P : ℕ → Store → Type 0) (blocks : ℕ) (f : Store → Store) (m : Media) → OnTwo P blocks m → OnTwo P blocks (change_media f m)
unfolding OnTwo
two-change P blocks f blank h = tt
two-change P blocks f (one s) h = tt
two-change P blocks f (two a b) h = h
two-change P blocks f lost h = tt

full-fits : (v : World) (u : ℕ) → is_full v u ≡ false → (d : Device) → device v u ≡ Some d → OnTwo Ft d.blocks d.media → OnMedia Ft d.blocks d.media
unfolding OnTwo
full-fits v u h d e both = go d.media both (on-some (device v u) (λ d. on_some (store_of d.media) (λ s. nat_lt (cap d.blocks) (cost s))) d e h)
  where
    go : (m : Media) → OnTwo Ft d.blocks m → on_some (store_of m) (λ s. nat_lt (cap d.blocks) (cost s)) ≡ false → OnMedia Ft d.blocks m
    go blank b k = tt
    go (one s) b k = le-leb (cost s) (cap d.blocks) (ltb-false (cap d.blocks) (cost s) k)
    go (two x y) b k = b
    go lost b k = tt

-- no change of a store changes what is unsure
abbrev TwoOn : World → ℕ → Type 0
TwoOn w n = (d : Device) → device w n ≡ Some d → OnTwo Ft d.blocks d.media

two-on : (w : World) (n : ℕ) → Every Ft w → TwoOn w n
two-on w n all d e = on-two Ft d.blocks d.media (all n tt d e)

two-store : (w : World) (u : ℕ) (f : Store → Store) (n : ℕ) → TwoOn w n → TwoOn (change_store w u f) n
two-store w u f n all d e = go (same-or-not n u)
  where
    go : (n ≡ u) ⊎ (n ≡ u → ⊥) → OnTwo Ft d.blocks d.media
    go (inl is) = let r = mapped (λ (x : Device). record x { media = change_media f x.media }) (device w u) d (sym (device-same w u (λ x. record x { media = change_media f x.media })) ∙ sym (ap (device (change_store w u f)) is) ∙ e) in
        subst (λ (v : Device). OnTwo Ft v.blocks v.media) r.2 (two-change Ft r.0.blocks f r.0.media (all r.0 (ap (device w) is ∙ r.1)))
    go (inr not) = all d (sym (device-other w u (λ x. record x { media = change_media f x.media }) n not) ∙ e)

two-copy : (w : World) (v : ℕ) (t : List ℕ) (o : Option Entry) (n : ℕ) → TwoOn w n → TwoOn (copy_to w v t o) n
two-copy w v t None n all = all
two-copy w v t (Some e) n all = two-store w v (change_soup t (add_entry w.minute e.graph)) n all

checked-store : (w : World) (u : ℕ) (f : Store → Store) → Every Ft w → is_full (change_store w u f) u ≡ false → Every Ft (change_store w u f)
checked-store w u f all h = units-but (λ _. ⊤) Ft (change_store w u f) w u (device-other w u (λ d. record d { media = change_media f d.media })) all
    (λ d e. full-fits (change_store w u f) u h d e (two-store w u f u (two-on w u all) d e))

checked-copy : (w : World) (v : ℕ) (t : List ℕ) (o : Option Entry) → Every Ft w → is_full (copy_to w v t o) v ≡ false → Every Ft (copy_to w v t o)
checked-copy w v t None all h = all
checked-copy w v t (Some e) all h = checked-store w v (change_soup t (add_entry w.minute e.graph)) all h

-- a copy that is then removed elsewhere: the cost is tested after both
copy-other : (w : World) (v : ℕ) (t : List ℕ) (o : Option Entry) (n : ℕ) → (n ≡ v → ⊥) → device (copy_to w v t o) n ≡ device w n
copy-other w v t None n h = refl
copy-other w v t (Some e) n h = device-other w v (λ d. record d { media = change_media (change_soup t (add_entry w.minute e.graph)) d.media }) n h

checked-move : (w : World) (u : ℕ) (s : List ℕ) (uid v : ℕ) (t : List ℕ) (o : Option Entry) → Every Ft w
    → is_full (change_soup_in (copy_to w v t o) u s (remove_entry uid)) v ≡ false → Every Ft (change_soup_in (copy_to w v t o) u s (remove_entry uid))
checked-move w u s uid v t o all h n k = go (same-or-not n v) (same-or-not u v)
  where
    x : World
    x = copy_to w v t o

    y : World
    y = change_soup_in (copy_to w v t o) u s (remove_entry uid)

    go : (n ≡ v) ⊎ (n ≡ v → ⊥) → (u ≡ v) ⊎ (u ≡ v → ⊥) → (d : Device) → device (change_soup_in (copy_to w v t o) u s (remove_entry uid)) n ≡ Some d → OnMedia Ft d.blocks d.media
    go (inl e) other d f = let is = sym (ap (device (change_soup_in (copy_to w v t o) u s (remove_entry uid))) e) ∙ f in full-fits (change_soup_in (copy_to w v t o) u s (remove_entry uid)) v h d is
        (two-store (copy_to w v t o) u (change_soup s (remove_entry uid)) v (two-copy w v t o v (two-on w v all)) d is)
    go (inr e) (inl same) d f = all n tt d (sym (copy-other w v t o n e) ∙ sym (device-other (copy_to w v t o) u (λ d. record d { media = change_media (change_soup s (remove_entry uid)) d.media }) n (λ is. e (is ∙ same))) ∙ f)
    go (inr e) (inr differ) d f = change-store (λ m. m ≡ v → ⊥) Ft (copy_to w v t o) u (change_soup s (remove_entry uid)) (λ m l d g. all m tt d (sym (copy-other w v t o m l) ∙ g)) (inl differ)
        (λ blocks st has ok. fits-without-entry blocks s uid st ok) n e d f

-- ---- the rows

blocks-good : (o : Option Device) (d : Device) → o ≡ Some d → ◌≡◌ {A = Bool} (elim o [ None ↦ true | Some d ↦ nat_lt d.blocks 13 || nat_lt 4099 d.blocks ]) false → 13 ≤ d.blocks
blocks-good o d e h = go d (sym (ap (λ (o : Option Device). let b : Bool = elim o [ None ↦ true | Some d ↦ nat_lt d.blocks 13 || nat_lt 4099 d.blocks ] in b) e) ∙ h)
  where
    go : (d : Device) → (nat_lt d.blocks 13 || nat_lt 4099 d.blocks) ≡ false → 13 ≤ d.blocks
    go d k = grind arith

name-short : (name : List ℕ) → is_name name ≡ true → length name ≤ 39
name-short name h = grind arith

pub ft-row : (w : World) (c : Command) → Every Ft w → has_form c ≡ true → AllFalse (checks w c) → Every Ft (changed w c)
unfolding changed checks has_form on_units
ft-row w (command.Format u name sig) all form h = change-device (λ _. ⊤) Ft w u (λ d. record d { media = one (new_store name sig); mounted = false }) all
    (λ d e. fits-new d.blocks name sig (name-short name (and-left _ _ form)) (blocks-good (device w u) d e h.1.0))
ft-row w (command.Mount u) all form h = mount-row Ft w u all
ft-row w (command.Unmount u) all form h = marked Ft w u false all
ft-row w (command.Soup u name) all form h = checked-store w u (make_soup name) all h.1.1.1.1.1.0
ft-row w (command.Drop u s) all form h = change-store (λ _. ⊤) Ft w u (drop_soup s) all (inl tt) (λ blocks t has ok. fits-without-soup blocks s t ok)
ft-row w (command.Index u s parts) all form h = checked-store w u (change_soup s (with_index (spec_of_words parts))) all h.1.1.1.1.1.1.0
ft-row w (command.Unindex u s paths) all form h = change-store (λ _. ⊤) Ft w u (change_soup s (without_index paths)) all (inl tt) (λ blocks t has ok. fits-without-index blocks s paths t ok)
ft-row w (command.SetTags u s path symbols) all form h = checked-store w u (change_soup s (with_tags (Some (record { path = path; symbols = symbols })))) all h.1.1.1.1.0
ft-row w (command.SetInfo u s g) all form h = checked-store w u (change_soup s (with_info (info_from g))) all h.1.1.1.1.1.0
ft-row w (command.Add u s g) all form h = checked-store w u (change_soup s (add_entry w.minute g)) all h.1.1.1.1.1.1.0
ft-row w (command.Addx u s g) all form h = checked-store w u (change_soup s (add_entry w.minute g)) all h.1.1.1.1.1.1.0
ft-row w (command.Addu s g) all form h = checked-store w (default_unit w) (change_soup s (add_entry w.minute g)) all h.1.1.1.1.1.0
ft-row w (command.Set u s uid path g) all form h = checked-store w u (change_soup s (change_entry uid (λ e. with_graph w.minute (graph_after_set path g e.graph) e))) all h.1.1.1.1.1.1.1.0
ft-row w (command.Change u s uid g) all form h = checked-store w u (change_soup s (change_entry uid (with_graph w.minute g))) all h.1.1.1.1.1.1.0
ft-row w (command.Remove u s uid) all form h = change-store (λ _. ⊤) Ft w u (change_soup s (remove_entry uid)) all (inl tt) (λ blocks t has ok. fits-without-entry blocks s uid t ok)
ft-row w (command.Copy u s uid v t) all form h = checked-copy w v t (entry_in w u s uid) all h.1.1.1.1.1.0
ft-row w (command.Move u s uid v t) all form h = checked-move w u s uid v t (entry_in w u s uid) all h.1.1.1.1.1.0
ft-row w (command.Vwrite u s uid path at bytes) all form h = change-store (λ _. ⊤) Ft w u (change_soup s (change_entry uid (λ e. record e { graph = patched path at bytes e.graph }))) all (inl tt)
    (λ blocks t has ok. fits-with-change blocks s uid (λ e. record e { graph = patched path at bytes e.graph }) t (λ p e found here. same-le (patched-pages (large_at e.graph path) at bytes e
    (ltb-false (length (large_bytes e.graph path)) (at + length bytes) (on-some (entry_in w u s uid) (λ e. nat_lt (length (large_bytes e.graph path)) (at + length bytes)) e
    (entry-has w u p s uid (there w u blocks t s p has h.1.0 found) ∙ here) h.1.1.1.1.1.0)))) ok)
  where
    same-le : {m n : ℕ} → m ≡ n → m ≤ n
    same-le e = omega (arith, e)
ft-row w c all form h = same-units Ft (changed w c) w (changed-units w c refl) all

-- ---- both

pub answer-valid : (w : World) (c : Command) → AllValid w → has_form c ≡ true → AllValid (answer w c).0
unfolding answer
answer-valid w c all form = go (first_of (checks w c)) refl
  where
    and-true : (a b : Bool) → a ≡ true → b ≡ true → (a && b) ≡ true
    and-true a b h k = grind (arith, h, k)

    both : first_of (checks w c) ≡ None → AllValid (settle (changed w c))
    both e u k d is = media-both Wf Ft (λ blocks s. IsTrue (valid blocks s)) d.blocks d.media (λ s a b. and-true (well_formed s) (fits d.blocks s) a b)
        (wf-row w c (λ u k d is. media-more (λ blocks s. IsTrue (valid blocks s)) Wf d.blocks d.media (λ s h. (and_parts (well_formed s) (fits d.blocks s) h).0) (all u tt d is)) form (all-false (checks w c) e) u tt d is)
        (ft-row w c (λ u k d is. media-more (λ blocks s. IsTrue (valid blocks s)) Ft d.blocks d.media (λ s h. (and_parts (well_formed s) (fits d.blocks s) h).1) (all u tt d is)) form (all-false (checks w c) e) u tt d is)

    go : (o : Option Refusal) → first_of (checks w c) ≡ o → AllValid (answered w c o).0
    go None e = both e
    go (Some r) e = all
