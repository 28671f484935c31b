-- Stores that are made, mounted and unmounted.
use Rattle.std.proofs.Common.{◌≡◌, refl, ap, ◌∙◌, ℕ, List, [], ◌∷◌, Bool, true, false, Option, Some, None, option_map, option_and_then, unwrap_or, replicate, map, length, nat_lt, nat_le, ◌==◌, ◌||◌}
use Rattle.std.specs.Option.{is_none, is_some}
use Rattle.std.specs.List.{list_any}
use Rattle.newt_base.specs.Refusals.{Checks, first_of}
use Rattle.newt_base.specs.declared.Refusal.{Refusal}
use Rattle.newt_base.specs.declared.Refusal.TheVariants.{Unit as NoUnit, Blocks, Mounted, Nostore, Store as HasStore, Stores as ManyStores, Signature}
use Rattle.newt_graph.specs.Graph.{RawGraph}
use Rattle.newt_spec_store.specs.Store.{Store}
use Rattle.newt_spec_world.specs.declared.command.Command.{Command}
use Rattle.newt_spec_world.specs.declared.command.Command.TheVariants as command
use Rattle.newt_spec_world.specs.World.{World, Device, Media, blank, one, store_of, store_if_mounted, mounted, mounted_stores, store_on_unit}
use Rattle.newt_spec_world.specs.Reply.{Reply}
use Rattle.newt_spec_world.specs.Changed.{changed, mark, default_without}
use Rattle.newt_spec_world.specs.Refused.{checks, no_unit, bad_blocks, is_mounted, has_store, no_store, four_mounted, same_signature}
use Rattle.newt_spec_world.specs.Answer.{answer, fields, or_nil}
use Rattle.newt_laws_answers.specs.Tests.{formatted, ready_checks, unit_checks}
use Rattle.newt_laws_world.specs.Worlds.{is_plain}
use Rattle.newt_laws_world.proofs.Units.{device-same}
use Rattle.newt_laws_answers.proofs.Firsts.{first-true, first-false, first-found}
use Rattle.newt_laws_answers.specs.There.{OnUnit, IsReady}
use Rattle.newt_laws_answers.proofs.Answers.{done, refused, unit-passes}

-- ---- a unit that may be formatted or mounted

module _ (w : World) (u blocks : ℕ) (m : Media) (h : IsReady w u blocks m) where
  pub ready-passes : (rest : Checks) → first_of (no_unit w u ∷ bad_blocks w u ∷ is_mounted w u ∷ rest) ≡ first_of rest
  ready-passes rest =
      first-false NoUnit _ (bad_blocks w u ∷ is_mounted w u ∷ rest) (ap is_none h.device_is)
      ∙ first-false Blocks _ (is_mounted w u ∷ rest) (ap (λ (o : Option Device). elim o [ None ↦ true | Some d ↦ nat_lt d.blocks 13 || nat_lt 4099 d.blocks ]) h.device_is ∙ h.enough)
      ∙ first-false Mounted _ rest (ap (λ o. is_some (option_and_then store_if_mounted o)) h.device_is)

  held : store_on_unit w u ≡ store_of m
  held = ap (option_and_then (λ (d : Device). store_of d.media)) h.device_is

pub format-not-ready : (w : World) (u : ℕ) (r : Refusal) → first_of (ready_checks w u) ≡ Some r → (name : List ℕ) (sig : ℕ)
    → answer w (command.Format u name sig) ≡ (w, Reply.refused r)
unfolding checks
format-not-ready w u r h name sig = refused w (command.Format u name sig) r (first-found (ready_checks w u) (has_store w u ∷ []) r h)

pub mount-not-ready : (w : World) (u : ℕ) (r : Refusal) → first_of (ready_checks w u) ≡ Some r → answer w (command.Mount u) ≡ (w, Reply.refused r)
unfolding checks
mount-not-ready w u r h = refused w (command.Mount u) r (first-found (ready_checks w u) (no_store w u ∷ four_mounted w ∷ same_signature w u ∷ []) r h)

-- ---- format

pub format-passes : (w : World) (u blocks : ℕ) (name : List ℕ) (sig : ℕ) → IsReady w u blocks blank → first_of (checks w (command.Format u name sig)) ≡ None
unfolding checks
format-passes w u blocks name sig h = ready-passes w u blocks blank h (has_store w u ∷ []) ∙ first-false HasStore _ [] (ap is_some (held w u blocks blank h))

pub format-done : (w : World) (u blocks : ℕ) (name : List ℕ) (sig : ℕ) → IsReady w u blocks blank → w.cursors ≡ replicate 32 None
    → answer w (command.Format u name sig) ≡ (formatted w u name sig, Reply.done)
unfolding changed fields
format-done w u blocks name sig h none = done w (command.Format u name sig) (format-passes w u blocks name sig h) none

pub format-has-store : (w : World) (u blocks : ℕ) (s : Store) (name : List ℕ) (sig : ℕ) → IsReady w u blocks (one s) → answer w (command.Format u name sig) ≡ (w, Reply.refused HasStore)
unfolding checks
format-has-store w u blocks s name sig h = refused w (command.Format u name sig) HasStore
    (ready-passes w u blocks (one s) h (has_store w u ∷ []) ∙ first-true HasStore _ [] (ap is_some (held w u blocks (one s) h)))

-- ---- mount

pub mount-no-store : (w : World) (u blocks : ℕ) → IsReady w u blocks blank → answer w (command.Mount u) ≡ (w, Reply.refused Nostore)
unfolding checks
mount-no-store w u blocks h = refused w (command.Mount u) Nostore
    (ready-passes w u blocks blank h (no_store w u ∷ four_mounted w ∷ same_signature w u ∷ []) ∙ first-true Nostore _ (four_mounted w ∷ same_signature w u ∷ []) (ap is_none (held w u blocks blank h)))

module _ (w : World) (u blocks : ℕ) (s : Store) (h : IsReady w u blocks (one s)) where
  has-passes : first_of (checks w (command.Mount u)) ≡ first_of (four_mounted w ∷ same_signature w u ∷ [])
  unfolding checks
  has-passes = ready-passes w u blocks (one s) h (no_store w u ∷ four_mounted w ∷ same_signature w u ∷ [])
      ∙ first-false Nostore _ (four_mounted w ∷ same_signature w u ∷ []) (ap is_none (held w u blocks (one s) h))

  same-is : (b : Bool) → list_any (λ t. t.sig == s.sig) (mounted_stores w) ≡ b → (same_signature w u).1 ≡ b
  same-is b k = ap (λ (o : Option Store). elim o [ None ↦ false | Some s ↦ list_any (λ t. t.sig == s.sig) (mounted_stores w) ]) (held w u blocks (one s) h) ∙ k

  pub mount-four : nat_le 4 (length (mounted w)) ≡ true → answer w (command.Mount u) ≡ (w, Reply.refused ManyStores)
  mount-four k = refused w (command.Mount u) ManyStores (has-passes ∙ first-true ManyStores _ (same_signature w u ∷ []) k)

  pub mount-same : nat_le 4 (length (mounted w)) ≡ false → list_any (λ t. t.sig == s.sig) (mounted_stores w) ≡ true → answer w (command.Mount u) ≡ (w, Reply.refused Signature)
  mount-same k l = refused w (command.Mount u) Signature (has-passes ∙ first-false ManyStores _ (same_signature w u ∷ []) k ∙ first-true Signature _ [] (same-is true l))

  pub mount-done : nat_le 4 (length (mounted w)) ≡ false → list_any (λ t. t.sig == s.sig) (mounted_stores w) ≡ false → w.cursors ≡ replicate 32 None
      → answer w (command.Mount u) ≡ (record (mark w u true) { default = Some (unwrap_or w.default u) }, Reply.store s.sig s.name)
  unfolding changed fields
  mount-done k l none = done w (command.Mount u) (has-passes ∙ first-false ManyStores _ (same_signature w u ∷ []) k ∙ first-false Signature _ [] (same-is false l)) none
      ∙ ap {B = World × Reply} (λ o. (record (mark w u true) { default = Some (unwrap_or w.default u) }, or_nil (λ s. Reply.store s.sig s.name) o))
      (ap (option_and_then store_if_mounted) (device-same w u (λ d. record d { mounted = true })) ∙ ap (λ o. option_and_then store_if_mounted (option_map (λ (d : Device). record d { mounted = true }) o)) h.device_is)

-- ---- unmount, default

module _ (w : World) (u : ℕ) (r : Refusal) (h : first_of (unit_checks w u) ≡ Some r) where
  pub unmount-refused : answer w (command.Unmount u) ≡ (w, Reply.refused r)
  unfolding checks
  unmount-refused = refused w (command.Unmount u) r h

  pub default-refused : answer w (command.Default u) ≡ (w, Reply.refused r)
  unfolding checks
  default-refused = refused w (command.Default u) r h

module _ (w : World) (u blocks : ℕ) (s : Store) (h : OnUnit w u blocks s) (none : w.cursors ≡ replicate 32 None) where
  pub unmount-done : answer w (command.Unmount u) ≡ (record (mark w u false) { default = default_without (mark w u false) u }, Reply.done)
  unfolding checks changed fields
  unmount-done = done w (command.Unmount u) (unit-passes w u blocks s [] h) none

  pub default-done : answer w (command.Default u) ≡ (record w { default = Some u }, Reply.done)
  unfolding checks changed fields
  default-done = done w (command.Default u) (unit-passes w u blocks s [] h) none

-- ---- without tests

module _ (w : World) (none : w.cursors ≡ replicate 32 None) where
  pub stores-done : answer w command.Stores ≡ (w, Reply.stores (map (λ m. (m.0, m.1.sig, m.1.name)) (mounted w)))
  unfolding checks changed fields
  stores-done = done w command.Stores refl none

  pub time-done : (t : ℕ) → answer w (command.Time t) ≡ (record w { minute = t }, Reply.done)
  unfolding checks changed fields
  time-done t = done w (command.Time t) refl none

  pub quit-done : answer w command.Quit ≡ (w, Reply.done)
  unfolding checks changed fields
  quit-done = done w command.Quit refl none

  pub nsof-done : (g : RawGraph) → answer w (command.Nsof g) ≡ (w, Reply.nsof_of g)
  unfolding checks changed fields
  nsof-done g = done w (command.Nsof g) refl none

  pub lit-done : (g : RawGraph) → answer w (command.Lit g) ≡ (w, Reply.literal_of g)
  unfolding checks changed fields
  lit-done g = done w (command.Lit g) refl none

  -- the commands of watches and working copies, which no program asks the world
  pub apart-done : (c : Command) → is_plain c ≡ false → answer w c ≡ (w, Reply.done)
  unfolding checks changed fields is_plain
  apart-done (command.Watch s most) p = done w (command.Watch s most) refl none
  apart-done (command.Notes n) p = done w (command.Notes n) refl none
  apart-done (command.Unwatch n) p = done w (command.Unwatch n) refl none
  apart-done (command.Open u s uid) p = done w (command.Open u s uid) refl none
  apart-done (command.Draft n) p = done w (command.Draft n) refl none
  apart-done (command.Edit n path g) p = done w (command.Edit n path g) refl none
  apart-done (command.Save n) p = done w (command.Save n) refl none
  apart-done (command.Revert n) p = done w (command.Revert n) refl none
  apart-done (command.Discard n) p = done w (command.Discard n) refl none
  apart-done _ p = cc
