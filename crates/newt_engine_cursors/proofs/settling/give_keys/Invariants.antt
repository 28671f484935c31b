-- The first places have their present keys where they are on the entry.
use Rattle.std.proofs.Common.{◌≡◌, ℕ, true}
use Rattle.std.specs.Prelude.{slice_get}
use Rattle.newt_spec_world.specs.World.{flat}
use Rattle.newt_host.specs.Outside.{Outside}
use Rattle.newt_laws_reach.specs.Reach.{on_entry, settle_where}
use Rattle.newt_laws_world.specs.Settled.{MountedApart}
use Rattle.newt_engine_units.specs.Stands.{Eight, Stands, world_of}
use Rattle.newt_engine_cursors.specs.Reached.{IsAtHand}
use Rattle.newt_engine_cursors.specs.Fits.{DeskFits}
use Rattle.newt_engine_cursors.proofs.Cursors.{below}
use Rattle.newt_engine_cursors.proofs.settling.give_keys.Given as goal

abbrev pub invariant-loop-cursor : goal.invariant-loop-cursor
invariant-loop-cursor g l = record {
  desk : DeskFits l.desk;
  keys : (o : Outside) → Eight o → Stands g.C.Card.place g.C.Card.stands true l.units o → let w = world_of g.C.Card.reads l.units o in MountedApart w
      → ((c : ℕ) → IsAtHand w l.store l.soup l.uid l.entry (flat (slice_get l.initial.desk c))) → l.desk ≡ below l.cursor (settle_where (on_entry l.store l.soup l.uid) w) l.initial.desk;
}
