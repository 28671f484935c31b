-- Commands that leave a settled world settled, and those that step a cursor.
use Rattle.std.proofs.Common.{arith, ◌≡◌, refl, ap, sym, ◌∙◌, ◌*◌, subst, ℕ, Bool, true, false, IsTrue, List, Option, Some, None, if◌then◌else◌}
use Rattle.std.specs.Prelude.{Result, slice_get}
use Rattle.newt_host.specs.Moments.{image}
use Rattle.newt_host.specs.Outside.{Outside}
use Rattle.newt_spec_graph.proofs.Lists.{some-same, none-some}
use Rattle.newt_spec_query.specs.Cursor.{Cursor}
use Rattle.newt_spec_store.specs.Store.{Store}
use Rattle.newt_spec_world.specs.Changed.{Step, changed, stepped}
use Rattle.newt_spec_world.specs.First.{media_of}
use Rattle.newt_spec_world.specs.World.{World, Device, cursor, flat, lost}
use Rattle.newt_spec_world.specs.declared.command.Command.{Command}
use Rattle.newt_laws_answers.specs.Fetched.{pages_shown}
use Rattle.newt_laws_world.specs.Settled.{IsSettled, MountedApart, moves_keys}
use Rattle.newt_laws_world.specs.Worlds.{OnMedia}
use Rattle.newt_laws_world.proofs.Fewer.{row-settled}
use Rattle.newt_laws_world.proofs.Kept.{Every, Wf}
use Rattle.newt_store_change.specs.declared.fault.StoreFault.{StoreFault}
use Rattle.newt_engine_card.specs.Bounds.{FetchesAtMost}
use Rattle.newt_engine_units.specs.declared.units.Units.{Units}
use Rattle.newt_engine_units.specs.Stands.{Eight, Stands, due_in, world_of}
use Rattle.newt_engine_units.proofs.Known.{Laws, at-card, at-none}
use Rattle.newt_engine_cursors.specs.Calls.{FetchesAnswered, Turns, Walks}
use Rattle.newt_engine_cursors.specs.Motions.{Steers}
use Rattle.newt_engine_cursors.specs.Replies.{shown_at, shown_reply}
use Rattle.newt_engine_cursors.specs.Unread.{is_unread}
use Rattle.newt_engine_cursors.specs.World.{world_with}
use Rattle.newt_engine_cursors.specs.declared.show.Shown.{Shown}
use Rattle.newt_engine_cursors.proofs.Answering.{IsStepping, steered-answers, stepped-pages}
use Rattle.newt_engine_cursors.proofs.Calls.{walks-of}

module _ {C : Type 0} {reads : List ℕ → Option Store} {place : C → ℕ} {soups : C → Store} {stands : Bool → C → Outside → Type 0} (l : Laws reads place soups stands)
    (told : Bool) (units : Units C) (ks : List (Option Cursor)) (o : Outside) (eight : Eight o) (s : Stands place stands told units o) where
  abbrev w : World
  w = world_with reads units ks o

  -- every store has the form of one
  all-formed : IsTrue told → Every Wf (world_of reads units o)
  all-formed t u k d is = go (o.card u) refl
    where
      stand : Stands place stands true units o
      stand = subst (λ b. Stands place stands b units o) t s

      media : (due : Bool) (m : Option Store) → reads (image u o.now) ≡ m → OnMedia Wf (o.blocks u) (if due then lost else media_of m)
      media true m e = tt
      media false None e = tt
      media false (Some x) e = l.formed (image u o.now) x e

      go : (card : Option (List ℕ)) → o.card u ≡ card → OnMedia Wf d.blocks d.media
      go None e = absurd (none-some d (sym (at-none l units o eight stand u e) ∙ is))
      go (Some name) e = subst (λ (x : Device). OnMedia Wf x.blocks x.media) (some-same _ d (sym (at-card l units o eight stand u name e) ∙ is)) (media (due_in units.slots.items u) (reads (image u o.now)) refl)

  -- where keys are as before, nothing is left to settle
  pub still-settled : (c : Command) → IsTrue told → MountedApart w → IsSettled w → moves_keys c ≡ false → IsSettled (changed w c)
  still-settled c t apart settled few = row-settled w c (all-formed t) apart settled few

  -- a command that steps a cursor
  pub walks-stepped : {c : Command} {n : ℕ} {step : Step} {later : Units C} {is : List (Option Cursor)} {q : Outside} {result : Result Shown StoreFault} → IsStepping c n step
      → Turns reads place stands told (λ w v. Steers w v n step result) units later ks is o q result
      → (IsTrue told → MountedApart w → is_unread (cursor w n) ≡ true → FetchesAtMost (λ u. 512 * pages_shown (shown_at (stepped w n step) n) u) o q)
      → (is_unread (flat (slice_get ks n)) ≡ true → FetchesAnswered shown_reply result o q)
      → Walks reads place stands told c shown_reply units later ks is o q result
  walks-stepped {c} {n} {step} {result = result} steps turns fetches shown =
      walks-of turns (λ t apart settled d. steered-answers _ _ c n step steps (after t apart settled) result d)
      (λ t apart settled un. (λ u. let e = ap (λ (k : ℕ). 512 * k) (stepped-pages w c n step steps (after t apart settled) u) in let more = (fetches t apart (sym (steps.unread w) ∙ un)) u in omega (arith, e, more)))
      (λ un. shown (sym (steps.known ks) ∙ un))
    where
      after : IsTrue told → MountedApart w → IsSettled w → IsSettled (stepped w n step)
      after t apart settled = subst IsSettled (steps.does w) (still-settled c t apart settled steps.few)
