-- Nothing but reading has happened, the walk comes to the same place from what is found, which is of the ranges, and fewer hits are ahead.
use Rattle.std.proofs.Common.{◌≡◌, ◌+◌, ◌≤◌, ◌^◌, IsTrue, option_map, false}
use Rattle.std.specs.Prelude.{IfSome}
use Rattle.newt_host.specs.Outside.{NoFault}
use Rattle.newt_engine_card.specs.Bounds.{FetchesAtMost}
use Rattle.newt_query.specs.Filter.{asks_texts}
use Rattle.newt_cursor.specs.Seen.{query_of}
use Rattle.newt_keys.specs.KeyForm.{IsKeyOf}
use Rattle.newt_spec_world.specs.World.{mounted_stores}
use Rattle.newt_laws_world.specs.Settled.{MountedApart}
use Rattle.newt_union.specs.Merged.{merged}
use Rattle.newt_laws_hits.specs.Taking.{members_of}
use Rattle.newt_engine_units.specs.Stands.{world_of}
use Rattle.newt_index.specs.Spots.{spot_hit}
use Rattle.newt_engine_units.specs.Calls.{AreRead}
use Rattle.newt_engine_hits.specs.Searched.{IsIndexed}
use Rattle.newt_engine_hits.proofs.Walking.{ahead, comes_to}
use Rattle.newt_engine_hits.proofs.walk.walk.Given as goal

abbrev pub invariant-steps : goal.invariant-steps
invariant-steps g l = record {
  read : AreRead g.C.Card.reads g.C.Card.place g.C.Card.stands g.H.Host.told l.initial.units l.units (g.H.Host.outside l.initial.host) (g.H.Host.outside l.host);
  no_fault : NoFault (g.H.Host.outside l.initial.host) (g.H.Host.outside l.host);
  unread : asks_texts l.query.spec ≡ false → FetchesAtMost (λ u. 0) (g.H.Host.outside l.initial.host) (g.H.Host.outside l.host);
  key : IfSome l.found (λ spot. IsKeyOf l.query.spec.index spot.key);
  walked : IsTrue g.H.Host.told → let w = world_of g.C.Card.reads l.initial.units (g.H.Host.outside l.initial.host) in MountedApart w
      → IfSome l.initial.found (λ spot. IsIndexed w (query_of l.query) (spot_hit spot))
      → comes_to w (query_of l.query) l.way (option_map spot_hit l.initial.found) ≡ comes_to w (query_of l.query) l.way (option_map spot_hit l.found);
  indexed : IsTrue g.H.Host.told → let w = world_of g.C.Card.reads l.initial.units (g.H.Host.outside l.initial.host) in MountedApart w
      → IfSome l.initial.found (λ spot. IsIndexed w (query_of l.query) (spot_hit spot)) → IfSome l.found (λ spot. IsIndexed w (query_of l.query) (spot_hit spot));
  ahead : IsTrue g.H.Host.told → let w = world_of g.C.Card.reads l.initial.units (g.H.Host.outside l.initial.host) in let q = query_of l.query in MountedApart w
      → ahead l.way q.spec.index (merged q.spec.index (members_of (mounted_stores w) q)) (option_map spot_hit l.found) + l._step ≤ 2 ^ 32;
}
