-- No two mounted stores come to have one signature.
use Rattle.std.proofs.Common.{arith, ◌≡◌, refl, ap, sym, ◌∙◌, subst, ℕ, zero, suc, List, [], ◌∷◌, true, false, Bool, ◌||◌, ◌⊎◌, inl, inr, cond, Option, Some, None, option_map, option_and_then, filter_map, ◌==◌}
use Rattle.std.specs.Prelude.{slice_get}
use Rattle.std.specs.List.{list_any, cons_option}
use Rattle.std.proofs.lemmas.Bool.{eq-eqb}
use Rattle.newt_base.specs.Refusals.{first_of}
use Rattle.newt_base.specs.declared.Refusal.{Refusal}
use Rattle.newt_spec_store.specs.Store.{Store, Soup, Entry, change_soup, make_soup, drop_soup, add_entry, remove_entry, new_store}
use Rattle.newt_spec_world.specs.declared.command.Command.{Command}
use Rattle.newt_spec_world.specs.declared.command.Command.TheVariants as command
use Rattle.newt_spec_world.specs.World.{World, Device, Media, blank, one, two, lost, device, default_unit, store_of, store_if_mounted, on_unit, mounted_store, mounted_stores, store_on_unit, entry_in, flat, change_device, change_store, change_media, change_soup_in}
use Rattle.newt_spec_world.specs.Changed.{changed, mark, copy_to}
use Rattle.newt_spec_world.specs.Refused.{checks}
use Rattle.newt_spec_world.specs.Answer.{answer, answered}
use Rattle.newt_spec_graph.specs.Lists.{Each, Pairs}
use Rattle.newt_laws_world.specs.Settled.{MountedApart}
use Rattle.newt_spec_graph.proofs.Lists.{each-at, each-from, some-same, none-some, both-ways}
use Rattle.newt_laws_world.proofs.Found.{Apart}
use Rattle.newt_laws_world.proofs.Units.{same-or-not, device-other, device-same}
use Rattle.newt_laws_world.proofs.Kept.{AllFalse, all-false, on_units, changed-units}
use Rattle.newt_laws_world.proofs.Fewer.{among-mounted, mounted-among}

-- ---- by unit

abbrev pub ByUnit : List (Option Device) → Type 0
ByUnit us = (m n : ℕ) (s t : Store) → (m ≡ n → ⊥) → on_unit (flat (slice_get us m)) ≡ Some s → on_unit (flat (slice_get us n)) ≡ Some t → s.sig ≡ t.sig → ⊥

suc-same : (m n : ℕ) → suc m ≡ suc n → m ≡ n
suc-same m n h = omega (arith, h)

zero-suc : (n : ℕ) → 0 ≡ suc n → ⊥
zero-suc n h = omega (arith, h)

pub apart-from-units : (us : List (Option Device)) → ByUnit us → Pairs Apart (filter_map on_unit us)
apart-from-units [] h = tt
apart-from-units (d ∷ us) h = go (on_unit d) refl (apart-from-units us (λ m n s t differ. h (suc m) (suc n) s t (λ e. differ (suc-same m n e))))
  where
    go : (o : Option Store) → on_unit d ≡ o → Pairs Apart (filter_map on_unit us) → Pairs Apart (cons_option o (filter_map on_unit us))
    go None e more = more
    go (Some s) e more = (each-from (Apart s) (filter_map on_unit us) (λ t m. let n = among-mounted us t m in h 0 (suc n.0) s t (zero-suc n.0) e n.1), more)

pub units-from-apart : (us : List (Option Device)) → Pairs Apart (filter_map on_unit us) → ByUnit us
units-from-apart [] h m n s t differ e f same = none-some s e
units-from-apart (d ∷ us) h zero zero s t differ e f same = differ refl
units-from-apart (d ∷ us) h zero (suc n) s t differ e f same =
    each-at (Apart s) (filter_map on_unit us) t (subst (λ o. Pairs Apart (cons_option o (filter_map on_unit us))) e h).0 (mounted-among us t n f) same
units-from-apart (d ∷ us) h (suc m) zero s t differ e f same =
    each-at (Apart t) (filter_map on_unit us) s (subst (λ o. Pairs Apart (cons_option o (filter_map on_unit us))) f h).0 (mounted-among us s m e) (sym same)
units-from-apart (d ∷ us) h (suc m) (suc n) s t differ e f same =
    units-from-apart us (tail (on_unit d) h) m n s t (λ k. differ (ap suc k)) e f same
  where
    tail : (o : Option Store) → Pairs Apart (cons_option o (filter_map on_unit us)) → Pairs Apart (filter_map on_unit us)
    tail None k = k
    tail (Some x) k = k.1

-- ---- stores that keep their signatures

abbrev pub SigsFrom : World → World → Type 0
SigsFrom v w = (n : ℕ) (t : Store) → mounted_store v n ≡ Some t → (s : Store) × (mounted_store w n ≡ Some s) × (t.sig ≡ s.sig)

pub sigs-apart : (v w : World) → SigsFrom v w → MountedApart w → MountedApart v
sigs-apart v w from h = apart-from-units v.units (λ m n s t differ e f same.
    let a = from m s e in
    let b = from n t f in
    units-from-apart w.units h m n a.0 b.0 differ a.1 b.1 (sym a.2 ∙ same ∙ b.2))

sigs-trans : (x v w : World) → SigsFrom x v → SigsFrom v w → SigsFrom x w
sigs-trans x v w f g n t e = let a = f n t e in let b = g n a.0 a.1 in (b.0, b.1, a.2 ∙ b.2)

pub change-sigs : (w : World) (u : ℕ) (f : Device → Device) → ((d : Device) (t : Store) → store_if_mounted (f d) ≡ Some t → (s : Store) × (store_if_mounted d ≡ Some s) × (t.sig ≡ s.sig))
    → SigsFrom (change_device w u f) w
change-sigs w u f keeps n t k = go (same-or-not n u)
  where
    here : (o : Option Device) → option_and_then store_if_mounted (option_map f o) ≡ Some t → (s : Store) × (option_and_then store_if_mounted o ≡ Some s) × (t.sig ≡ s.sig)
    here None k = absurd (none-some t k)
    here (Some d) k = keeps d t k

    go : (n ≡ u) ⊎ (n ≡ u → ⊥) → (s : Store) × (mounted_store w n ≡ Some s) × (t.sig ≡ s.sig)
    go (inl e) = let r = here (device w u) (ap (option_and_then store_if_mounted) (sym (device-same w u f)) ∙ ap (mounted_store (change_device w u f)) (sym e) ∙ k) in (r.0, ap (mounted_store w) e ∙ r.1, r.2)
    go (inr e) = (t, ap on_unit (sym (device-other w u f n e)) ∙ k, refl)

pub store-sigs : (w : World) (u : ℕ) (f : Store → Store) → ((s : Store) → (f s).sig ≡ s.sig) → SigsFrom (change_store w u f) w
store-sigs w u f same = change-sigs w u (λ d. record d { media = change_media f d.media }) (λ d t k. go t d.mounted d.media k)
  where
    media : (t : Store) (m : Media) → store_of (change_media f m) ≡ Some t → (s : Store) × (store_of m ≡ Some s) × (t.sig ≡ s.sig)
    media t blank k = absurd (none-some t k)
    media t (two a b) k = absurd (none-some t k)
    media t lost k = absurd (none-some t k)
    media t (one s) k = (s, refl, sym (ap (λ (x : Store). x.sig) (some-same (f s) t k)) ∙ same s)

    go : (t : Store) (b : Bool) (m : Media) → cond b (store_of (change_media f m)) None ≡ Some t → (s : Store) × (cond b (store_of m) None ≡ Some s) × (t.sig ≡ s.sig)
    go t true m k = media t m k
    go t false m k = absurd (none-some t k)

soup-sigs : (w : World) (u : ℕ) (name : List ℕ) (f : Soup → Soup) → SigsFrom (change_soup_in w u name f) w
soup-sigs w u name f = store-sigs w u (change_soup name f) (λ s. refl)

copy-sigs : (w : World) (v : ℕ) (t : List ℕ) (o : Option Entry) → SigsFrom (copy_to w v t o) w
copy-sigs w v t None = λ n s e. (s, e, refl)
copy-sigs w v t (Some x) = soup-sigs w v t (add_entry w.minute x.graph)

-- ---- a unit is mounted

none-alike : (ss : List Store) (n : ℕ) → list_any (λ t. t.sig == n) ss ≡ false → Each (λ t. t.sig ≡ n → ⊥) ss
none-alike [] n h = tt
none-alike (s ∷ ss) n h = (λ e. both-ways (sym (or-first (s.sig == n) _ h) ∙ eq-eqb s.sig n e), none-alike ss n (or-rest (s.sig == n) _ h))
  where
    or-first : (a b : Bool) → (a || b) ≡ false → a ≡ false
    or-first false b h = refl
    or-first true b h = h

    or-rest : (a b : Bool) → (a || b) ≡ false → b ≡ false
    or-rest false b h = h
    or-rest true b h = absurd (both-ways (sym h))

mount-apart : (w : World) (u : ℕ) → ((s : Store) → store_on_unit w u ≡ Some s → Each (λ t. t.sig ≡ s.sig → ⊥) (mounted_stores w)) → MountedApart w → MountedApart (mark w u true)
mount-apart w u new h = apart-from-units (mark w u true).units (λ m n s t differ e f same. go m n s t (same-or-not m u) (same-or-not n u) differ e f same)
  where
    F : Device → Device
    F d = record d { mounted = true }

    there : (o : Option Device) (t : Store) → on_unit (option_map (λ (d : Device). record d { mounted = true }) o) ≡ Some t → option_and_then (λ (d : Device). store_of d.media) o ≡ Some t
    there None t k = absurd (none-some t k)
    there (Some d) t k = k

    here : (n : ℕ) (t : Store) → n ≡ u → on_unit (flat (slice_get (mark w u true).units n)) ≡ Some t → store_on_unit w u ≡ Some t
    here n t e f = there (device w u) t (ap on_unit (sym (device-same w u (λ d. record d { mounted = true }))) ∙ ap (λ k. on_unit (flat (slice_get (mark w u true).units k))) (sym e) ∙ f)

    old : (n : ℕ) (t : Store) → (n ≡ u → ⊥) → on_unit (flat (slice_get (mark w u true).units n)) ≡ Some t → on_unit (flat (slice_get w.units n)) ≡ Some t
    old n t e f = ap on_unit (sym (device-other w u (λ d. record d { mounted = true }) n e)) ∙ f

    go : (m n : ℕ) (s t : Store) → (m ≡ u) ⊎ (m ≡ u → ⊥) → (n ≡ u) ⊎ (n ≡ u → ⊥) → (m ≡ n → ⊥) → on_unit (flat (slice_get (mark w u true).units m)) ≡ Some s → on_unit (flat (slice_get (mark w u true).units n)) ≡ Some t → s.sig ≡ t.sig → ⊥
    go m n s t (inl a) (inl b) differ e f same = differ (a ∙ sym b)
    go m n s t (inl a) (inr b) differ e f same = each-at (λ x. x.sig ≡ s.sig → ⊥) (mounted_stores w) t (new s (here m s a e)) (mounted-among w.units t n (old n t b f)) (sym same)
    go m n s t (inr a) (inl b) differ e f same = each-at (λ x. x.sig ≡ t.sig → ⊥) (mounted_stores w) s (new t (here n t b f)) (mounted-among w.units s m (old m s a e)) same
    go m n s t (inr a) (inr b) differ e f same = units-from-apart w.units h m n s t differ (old m s a e) (old n t b f) same

signature-new : (w : World) (o : Option Store) (s : Store) → o ≡ Some s → ◌≡◌ {A = Bool} (elim o [ None ↦ false | Some s ↦ list_any (λ t. t.sig == s.sig) (mounted_stores w) ]) false → list_any (λ t. t.sig == s.sig) (mounted_stores w) ≡ false
signature-new w None s e h = absurd (none-some s e)
signature-new w (Some x) s e h = ap (λ (y : Store). list_any (λ t. t.sig == y.sig) (mounted_stores w)) (sym (some-same x s e)) ∙ h

units-apart : (v w : World) → v.units ≡ w.units → MountedApart w → MountedApart v
units-apart v w e h = subst (λ us. Pairs Apart (filter_map on_unit us)) (sym e) h

pub row-apart : (w : World) (c : Command) → MountedApart w → AllFalse (checks w c) → MountedApart (changed w c)
unfolding changed checks on_units
row-apart w (command.Format u name sig) h k = sigs-apart (changed w (command.Format u name sig)) w (change-sigs w u (λ d. record d { media = one (new_store name sig); mounted = false }) (λ d t f. absurd (none-some t f))) h
row-apart w (command.Mount u) h k = mount-apart w u (λ s e. none-alike (mounted_stores w) s.sig (signature-new w (store_on_unit w u) s e k.1.1.1.1.1.0)) h
row-apart w (command.Unmount u) h k = sigs-apart (mark w u false) w (change-sigs w u (λ d. record d { mounted = false }) (λ d t f. absurd (none-some t f))) h
row-apart w (command.Soup u name) h k = sigs-apart (changed w (command.Soup u name)) w (store-sigs w u (make_soup name) (λ s. refl)) h
row-apart w (command.Drop u s) h k = sigs-apart (changed w (command.Drop u s)) w (store-sigs w u (drop_soup s) (λ s. refl)) h
row-apart w (command.Index u s parts) h k = sigs-apart (changed w (command.Index u s parts)) w (soup-sigs w u s _) h
row-apart w (command.Unindex u s paths) h k = sigs-apart (changed w (command.Unindex u s paths)) w (soup-sigs w u s _) h
row-apart w (command.SetTags u s path symbols) h k = sigs-apart (changed w (command.SetTags u s path symbols)) w (soup-sigs w u s _) h
row-apart w (command.SetInfo u s g) h k = sigs-apart (changed w (command.SetInfo u s g)) w (soup-sigs w u s _) h
row-apart w (command.Add u s g) h k = sigs-apart (changed w (command.Add u s g)) w (soup-sigs w u s _) h
row-apart w (command.Addx u s g) h k = sigs-apart (changed w (command.Addx u s g)) w (soup-sigs w u s _) h
row-apart w (command.Addu s g) h k = sigs-apart (changed w (command.Addu s g)) w (soup-sigs w (default_unit w) s _) h
row-apart w (command.Set u s uid path g) h k = sigs-apart (changed w (command.Set u s uid path g)) w (soup-sigs w u s _) h
row-apart w (command.Change u s uid g) h k = sigs-apart (changed w (command.Change u s uid g)) w (soup-sigs w u s _) h
row-apart w (command.Remove u s uid) h k = sigs-apart (changed w (command.Remove u s uid)) w (soup-sigs w u s _) h
row-apart w (command.Copy u s uid v t) h k = sigs-apart (changed w (command.Copy u s uid v t)) w (copy-sigs w v t (entry_in w u s uid)) h
row-apart w (command.Move u s uid v t) h k = sigs-apart (changed w (command.Move u s uid v t)) w (sigs-trans (changed w (command.Move u s uid v t)) (copy_to w v t (entry_in w u s uid)) w (soup-sigs (copy_to w v t (entry_in w u s uid)) u s (remove_entry uid)) (copy-sigs w v t (entry_in w u s uid))) h
row-apart w (command.Vwrite u s uid path at bytes) h k = sigs-apart (changed w (command.Vwrite u s uid path at bytes)) w (soup-sigs w u s _) h
row-apart w c h k = units-apart (changed w c) w (changed-units w c refl) h

pub answer-apart : (w : World) (c : Command) → MountedApart w → MountedApart (answer w c).0
unfolding answer
answer-apart w c h = go (first_of (checks w c)) refl
  where
    go : (o : Option Refusal) → first_of (checks w c) ≡ o → MountedApart (answered w c o).0
    go None e = row-apart w c h (all-false (checks w c) e)
    go (Some r) e = h
