-- The place is on an entry that is known to be a hit.
use Rattle.std.proofs.Common.{◌≡◌, ap, sym, subst}
use Rattle.std.specs.Prelude.{IfOk}
use Rattle.newt_cursor.specs.Seen.{place_of, query_of}
use Rattle.newt_index.specs.Spots.{spot_hit}
use Rattle.newt_spec_query.specs.Cursor.{Place, on}
use Rattle.newt_spec_world.specs.World.{hits_of}
use Rattle.newt_engine_units.specs.Stands.{world_of}
use Rattle.newt_engine_cursors.specs.Motions.{IsAmong}
use Rattle.newt_engine_cursors.specs.Replies.{shown_place, shown_reply}
use Rattle.newt_engine_cursors.proofs.show.show.Goals as goal

pub returns-then-is_found-clause-shown : goal.returns-then-is_found-clause-shown
returns-then-is_found-clause-shown g c t apart among =
    let w = world_of g.C.Card.reads c.args.units.now (g.H.Host.outside c.args.host.now) in
    let q = query_of c.args.query.now in
    let at : place_of c.args.place.now ≡ on (spot_hit c.in-On.spot) = ap place_of c.in-On.is in
    subst (λ (p : Place). IfOk c.show_found.result (λ shown. shown_reply shown ≡ shown_place w q p)) (sym at) (c.show_found.ensures.shown t apart q (subst (IsAmong (hits_of w q)) at (among c.if-is_found.true)))

pub returns-then-is_found-clause-pages : goal.returns-then-is_found-clause-pages
returns-then-is_found-clause-pages g c un = c.show_found.ensures.pages
