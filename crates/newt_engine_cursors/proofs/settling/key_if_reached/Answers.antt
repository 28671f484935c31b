-- An entry that is reached has its present key, and of any other none is asked.
use Rattle.std.proofs.Common.{arith, ◌≡◌, sym, subst, true, Option}
use Rattle.std.specs.Prelude.{IfOk, slice_get}
use Rattle.newt_spec_store.specs.Keys.{Key}
use Rattle.newt_spec_world.specs.World.{flat, mounted_store}
use Rattle.newt_engine_units.specs.Stands.{world_of}
use Rattle.newt_engine_units.proofs.Broken.{err-stop-map}
use Rattle.newt_engine_hits.specs.Present.{has_sig}
use Rattle.newt_engine_cursors.specs.Reached.{in_reach, seen_reach}
use Rattle.newt_engine_cursors.proofs.Reaches.{asks-unread, reached-hit, reached-key, other-key}
use Rattle.newt_engine_cursors.proofs.settling.key_if_reached.Goals as goal

pub returns-then-is_reached-clause-found : goal.returns-then-is_reached-clause-found
returns-then-is_reached-clause-found g c t apart =
    let w = world_of g.C.Card.reads c.args.units.now (g.H.Host.outside c.args.host.now) in
    let r = seen_reach c.args.reach.now in
    let o = flat (slice_get c.args.desk.now c.args.cursor) in
    subst (λ (x : Option Key). IfOk c.present_key.result (λ found. found ≡ x)) (reached-key r w o (sym c.if-is_reached.ensures)) (c.present_key.ensures.found t apart)

pub returns-else-is_reached-clause-found : goal.returns-else-is_reached-clause-found
returns-else-is_reached-clause-found g c t apart =
    other-key (seen_reach c.args.reach.now) (world_of g.C.Card.reads c.args.units.now (g.H.Host.outside c.args.host.now)) (flat (slice_get c.args.desk.now c.args.cursor)) (sym c.if-is_reached.ensures)

pub returns-then-is_reached-clause-unread : goal.returns-then-is_reached-clause-unread
returns-then-is_reached-clause-unread g c none =
    c.present_key.ensures.unread (asks-unread (seen_reach c.args.reach.now) (flat (slice_get c.args.desk.now c.args.cursor)) (sym c.if-is_reached.ensures) none)

pub returns-else-is_reached-clause-unread : goal.returns-else-is_reached-clause-unread
returns-else-is_reached-clause-unread g c none u = omega arith

pub returns-then-is_reached-clause-own : goal.returns-then-is_reached-clause-own
returns-then-is_reached-clause-own g c t =
    let w = world_of g.C.Card.reads c.args.units.now (g.H.Host.outside c.args.host.now) in
    let r = seen_reach c.args.reach.now in
    let h = reached-hit r (flat (slice_get c.args.desk.now c.args.cursor)) (sym c.if-is_reached.ensures) in
    err-stop-map (λ u. has_sig h.at.store (mounted_store w u) ≡ true) (λ u. in_reach r (mounted_store w u) ≡ true) c.present_key.result (λ u is. h.own (mounted_store w u) is)
    (c.present_key.ensures.own t h.query h.at h.stands)
