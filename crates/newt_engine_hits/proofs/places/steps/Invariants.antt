-- Nothing but reading has happened, and the steps that are left lead from here to the same place.
use Rattle.std.proofs.Common.{◌≡◌, ◌-◌, IsTrue, false}
use Rattle.newt_host.specs.Outside.{NoFault}
use Rattle.newt_engine_card.specs.Bounds.{FetchesAtMost}
use Rattle.newt_query.specs.Filter.{asks_texts}
use Rattle.newt_cursor.specs.Seen.{query_of, place_of}
use Rattle.newt_spec_query.specs.Cursor.{repeated}
use Rattle.newt_spec_world.specs.World.{hits_of}
use Rattle.newt_laws_world.specs.Settled.{MountedApart}
use Rattle.newt_engine_units.specs.Stands.{world_of}
use Rattle.newt_engine_hits.specs.Fits.{PlaceFits}
use Rattle.newt_engine_hits.specs.Ways.{stepping}
use Rattle.newt_engine_units.specs.Calls.{AreRead}
use Rattle.newt_engine_hits.proofs.places.steps.Given as goal

abbrev pub invariant-steps : goal.invariant-steps
invariant-steps g l = record {
  read : AreRead g.C.Card.reads g.C.Card.place g.C.Card.stands g.H.Host.told l.initial.units l.units (g.H.Host.outside l.initial.host) (g.H.Host.outside l.host);
  no_fault : NoFault (g.H.Host.outside l.initial.host) (g.H.Host.outside l.host);
  unread : asks_texts l.query.spec ≡ false → FetchesAtMost (λ u. 0) (g.H.Host.outside l.initial.host) (g.H.Host.outside l.host);
  fits : PlaceFits l.query.spec.index (place_of l.place);
  left : IsTrue g.H.Host.told → let w = world_of g.C.Card.reads l.initial.units (g.H.Host.outside l.initial.host) in let q = query_of l.query in MountedApart w
      → repeated l.count (stepping l.way (hits_of w q) q.spec.index) (place_of l.initial.place) ≡ repeated (l.count - l._step) (stepping l.way (hits_of w q) q.spec.index) (place_of l.place);
}
