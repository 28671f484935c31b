-- The world before the first command.
use Rattle.std.proofs.Common.{◌≡◌, refl, ap, sym, ◌∙◌, ℕ, List, map, false, replicate, Option, Some, None, option_map}
use Rattle.newt_host.specs.Outside.{Outside}
use Rattle.newt_laws_steps.specs.Devices.{device_now, world_now}
use Rattle.newt_spec_graph.proofs.Lists.{none-some, some-same}
use Rattle.newt_spec_query.specs.Cursor.{Cursor}
use Rattle.newt_spec_store.specs.Store.{Store}
use Rattle.newt_spec_world.specs.First.{unit_numbers}
use Rattle.newt_spec_world.specs.World.{Device}
use Rattle.newt_laws_world.specs.Settled.{IsSettled, MountedApart}
use Rattle.newt_laws_world.proofs.Runs.{first-apart, first-settled, mapped-at}
use Rattle.newt_laws_answers.specs.WorldAt.{world_at}
use Rattle.newt_laws_world.specs.Cursors.{with_cursors}
use Rattle.newt_engine_units.specs.declared.units.Units.{Units}
use Rattle.newt_engine_units.specs.Stands.{world_of}
use Rattle.newt_engine_cursors.specs.Fits.{DeskFits}
use Rattle.newt_engine_cursors.specs.World.{world_with}

pub first_world_is : {C : Type 0} (reads : List ℕ → Option Store) (units : Units C) (ks : List (Option Cursor)) (o : Outside) → world_of reads units o ≡ world_at reads (λ _. false) (λ _. false) None 0 o → ks ≡ replicate 32 None
    → world_with reads units ks o ≡ world_now reads o
first_world_is reads units ks o world free = ap (λ xs. with_cursors xs (world_of reads units o)) free ∙ ap (with_cursors (replicate 32 None)) world

pub none_mounted : (reads : List ℕ → Option Store) (o : Outside) → MountedApart (world_now reads o)
none_mounted reads o = first-apart (map (device_now reads o) unit_numbers) (λ u d h. let at = mapped-at (device_now reads o) unit_numbers u d h in go at.0 (o.card at.0) d at.1)
  where
    go : (u : ℕ) (card : Option (List ℕ)) (d : Device) → option_map (λ _. record { blocks = o.blocks u; media = Rattle.newt_spec_world.specs.First.media_of (reads (Rattle.newt_host.specs.Moments.image u o.now)); mounted = false }) card ≡ Some d → d.mounted ≡ false
    go u None d h = absurd (none-some d h)
    go u (Some name) d h = sym (ap (λ (x : Device). x.mounted) (some-same _ d h))

pub none_open : (reads : List ℕ → Option Store) (o : Outside) → IsSettled (world_now reads o)
none_open reads o = first-settled (map (device_now reads o) unit_numbers)

pub all_free : DeskFits (replicate 32 None)
all_free = record { places = refl; keys = (tt, (tt, (tt, (tt, (tt, (tt, (tt, (tt, (tt, (tt, (tt, (tt, (tt, (tt, (tt, (tt, (tt, (tt, (tt, (tt, (tt, (tt, (tt, (tt, (tt, (tt, (tt, (tt, (tt, (tt, (tt, (tt, tt)))))))))))))))))))))))))))))))) }
