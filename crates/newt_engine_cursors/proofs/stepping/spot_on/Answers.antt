-- The soup and the hit are looked up.
use Rattle.std.proofs.Common.{◌∙◌, ap, sym, subst, true, option_map}
use Rattle.newt_cursor.specs.Seen.{query_of}
use Rattle.newt_engine_units.specs.Stands.{Stands, Eight, world_of}
use Rattle.newt_engine_units.proofs.Known.{Laws}
use Rattle.newt_engine_cursors.proofs.Going.{no-spot, present-spot, seen_made}
use Rattle.newt_engine_hits.proofs.Stores.{stores-formed}
use Rattle.newt_engine_cursors.proofs.stepping.spot_on.Goals as goal

pub returns-in_default-clause-found : goal.returns-in_default-clause-found
returns-in_default-clause-found g c t apart k same =
    let laws : Laws g.C.Card.reads g.C.Card.place g.C.Card.soups g.C.Card.stands = record { formed = g.met.C.Card.formed; plain = g.met.C.Card.plain; durable = g.met.C.Card.durable; banks = g.met.C.Card.banks; kept = g.met.C.Card.kept } in
    let o = g.H.Host.outside c.args.host.now in
    let eight : Eight (g.H.Host.outside c.args.host.now) = record { eight = g.met.H.Host.eight c.args.host.now; none = g.met.H.Host.none c.args.host.now } in
    let stand : Stands g.C.Card.place g.C.Card.stands true c.args.units.now o = subst (λ b. Stands g.C.Card.place g.C.Card.stands b c.args.units.now o) t c.requires in
    let w = world_of g.C.Card.reads c.args.units.now o in
    no-spot w c.args.unit c.args.uid k (query_of c.args.query.now) same (c.in_default.ensures o eight stand)

pub returns-in-Some-2-clause-found : goal.returns-in-Some-2-clause-found
returns-in-Some-2-clause-found g c t apart k same =
    let laws : Laws g.C.Card.reads g.C.Card.place g.C.Card.soups g.C.Card.stands = record { formed = g.met.C.Card.formed; plain = g.met.C.Card.plain; durable = g.met.C.Card.durable; banks = g.met.C.Card.banks; kept = g.met.C.Card.kept } in
    let o = g.H.Host.outside c.args.host.now in
    let eight : Eight (g.H.Host.outside c.args.host.now) = record { eight = g.met.H.Host.eight c.args.host.now; none = g.met.H.Host.none c.args.host.now } in
    let stand : Stands g.C.Card.place g.C.Card.stands true c.args.units.now o = subst (λ b. Stands g.C.Card.place g.C.Card.stands b c.args.units.now o) t c.requires in
    let w = world_of g.C.Card.reads c.args.units.now o in
    ap (option_map (seen_made _ _ c.args.uid)) (sym c.in-Some-2.is)
    ∙ present-spot w c.args.unit c.args.uid k (query_of c.args.query.now) same _ _ (c.in-Some.ensures o eight stand) apart (stores-formed laws c.args.units.now o eight stand)
    _ (c.in_ok-found.ensures.found t apart)

pub returns-in-None-clause-found : goal.returns-in-None-clause-found
returns-in-None-clause-found g c t apart k same =
    let laws : Laws g.C.Card.reads g.C.Card.place g.C.Card.soups g.C.Card.stands = record { formed = g.met.C.Card.formed; plain = g.met.C.Card.plain; durable = g.met.C.Card.durable; banks = g.met.C.Card.banks; kept = g.met.C.Card.kept } in
    let o = g.H.Host.outside c.args.host.now in
    let eight : Eight (g.H.Host.outside c.args.host.now) = record { eight = g.met.H.Host.eight c.args.host.now; none = g.met.H.Host.none c.args.host.now } in
    let stand : Stands g.C.Card.place g.C.Card.stands true c.args.units.now o = subst (λ b. Stands g.C.Card.place g.C.Card.stands b c.args.units.now o) t c.requires in
    let w = world_of g.C.Card.reads c.args.units.now o in
    ap (option_map (seen_made _ _ c.args.uid)) (sym c.in-None.is)
    ∙ present-spot w c.args.unit c.args.uid k (query_of c.args.query.now) same _ _ (c.in-Some.ensures o eight stand) apart (stores-formed laws c.args.units.now o eight stand)
    _ (c.in_ok-found.ensures.found t apart)
