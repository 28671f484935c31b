-- A unit that is thrown out leaves nothing to settle; and it has a slot.
use Rattle.std.proofs.Common.{arith, ◌≡◌, refl, ap, sym, ◌∙◌, subst, ℕ, zero, suc, ◌≤◌, List, [], ◌∷◌, length, Bool, true, false, Option, Some, None, option_map}
use Rattle.std.specs.Prelude.{IsSome, is_some, slice_get, filter_map}
use Rattle.std.specs.List.{cons_option}
use Rattle.newt_host.specs.Outside.{Outside}
use Rattle.newt_spec_graph.proofs.Lists.{both-ways, none-some}
use Rattle.newt_spec_query.specs.Hits.{hits}
use Rattle.newt_spec_store.specs.Store.{Store}
use Rattle.newt_spec_world.specs.Changed.{changed}
use Rattle.newt_spec_world.specs.Step.{thrown_out}
use Rattle.newt_spec_world.specs.World.{World, Device, lost, change_at, mounted_stores, on_unit, settle}
use Rattle.newt_spec_world.specs.declared.command.Command.TheVariants as command
use Rattle.newt_laws_world.specs.Settled.{IsSettled, MountedApart, moves_keys}
use Rattle.newt_laws_world.proofs.Fewer.{row-settled}
use Rattle.newt_laws_world.proofs.Kept.{Every, Wf}
use Rattle.newt_laws_world.proofs.Settled.{AllShow, settled-from, shows-from}
use Rattle.newt_engine_units.specs.declared.units.Slot.{Slot}
use Rattle.newt_engine_units.specs.declared.units.Units.{Units}
use Rattle.newt_engine_units.specs.Looks.{has_device, is_attached}
use Rattle.newt_engine_units.specs.Stands.{Eight, StandsBut}

abbrev emptied : Device → Device
emptied d = record d { mounted = false }

abbrev outcast : Device → Device
outcast d = record d { media = lost; mounted = false }

unmounted-alike : (u : ℕ) (us : List (Option Device)) → filter_map on_unit (change_at u emptied us) ≡ filter_map on_unit (change_at u outcast us)
unmounted-alike u [] = refl
unmounted-alike zero (x ∷ xs) = ap (λ o. cons_option o (filter_map on_unit xs)) (here x)
  where
    here : (o : Option Device) → on_unit (option_map emptied o) ≡ on_unit (option_map outcast o)
    here None = refl
    here (Some d) = refl
unmounted-alike (suc u) (x ∷ xs) = ap (cons_option (on_unit x)) (unmounted-alike u xs)

pub out-settled : (w : World) (u : ℕ) → Every Wf w → MountedApart w → IsSettled w → settle (thrown_out w u (λ _. lost)) ≡ thrown_out w u (λ _. lost)
unfolding changed moves_keys
out-settled w u all apart h = settled-from (thrown_out w u (λ _. lost))
    (subst (λ ss. AllShow (λ q. hits ss q) w.cursors) (unmounted-alike u w.units) (shows-from (changed w (command.Unmount u)) (row-settled w (command.Unmount u) all apart h refl)))

-- a unit with a device has a slot, which knows that
got-none : {X : Type 0} (xs : List X) (u : ℕ) → slice_get xs u ≡ None → length xs ≤ u
got-none [] u h = omega arith
got-none (x ∷ xs) zero h = absurd (none-some x (sym h))
got-none (x ∷ xs) (suc u) h = let k = got-none xs u h in omega (arith, k)

pub slot-there : {C : Type 0} {place : C → ℕ} {stands : Bool → C → Outside → Type 0} {told : Bool} {units : Units C} {outside : Outside} (u : ℕ) → Eight outside → StandsBut place stands u told units outside
    → IsSome (outside.card u) → is_attached units u ≡ true
slot-there {units = units} {outside} u e s has = go (slice_get units.slots.items u) refl
  where
    go : (o : Option (Slot _)) → slice_get units.slots.items u ≡ o → has_device o ≡ true
    go (Some slot) k = s.attached u slot k ∙ has
    go None k = absurd (both-ways (sym (ap is_some (e.eight u (subst (λ n. n ≤ u) s.eight (got-none units.slots.items u k)))) ∙ has))
