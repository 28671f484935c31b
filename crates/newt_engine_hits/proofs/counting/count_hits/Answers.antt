-- One hit after another.
use Rattle.std.proofs.Common.{arith, ◌≡◌, ◌∙◌, ap, sym, subst, Option, option_map, true, cond, length, IsTrue}
use Rattle.std.specs.Prelude.{IfSome}
use Rattle.newt_host.proofs.Outside.{NoFault-append, NoFault-refl}
use Rattle.newt_cursor.specs.Seen.{query_of}
use Rattle.newt_index.specs.declared.identity.Spot.{Spot}
use Rattle.newt_spec_world.specs.World.{World, mounted_stores, hits_of}
use Rattle.newt_laws_world.specs.Settled.{MountedApart}
use Rattle.newt_laws_hits.specs.Stripped.{passing}
use Rattle.newt_laws_hits.specs.Taking.{members_of}
use Rattle.newt_union.specs.Merged.{merged}
use Rattle.newt_engine_units.specs.Stands.{Stands, Eight, world_of}
use Rattle.newt_engine_units.proofs.Known.{Laws}
use Rattle.newt_index.specs.Spots.{spot_hit}
use Rattle.newt_engine_hits.specs.Searched.{IsIndexed}
use Rattle.newt_engine_hits.specs.Ways.{beyond}
use Rattle.newt_engine_hits.specs.declared.ways.Way.TheVariants.{On}
use Rattle.newt_engine_hits.proofs.Reading.{not-read, read-then, then-unread}
use Rattle.newt_engine_hits.proofs.Searching.{beyond-indexed, met-indexed}
use Rattle.newt_engine_hits.proofs.Stores.{stores-formed, stores-few}
use Rattle.newt_engine_hits.proofs.Walking.{ahead, ahead-start, ahead-fewer}
use Rattle.newt_engine_hits.proofs.Counted.{counts, all-counted, kept-counted, all-few, counted-first, counted-on}
use Rattle.newt_engine_hits.proofs.counting.count_hits.Goals as goal

pub hits-init : goal.hits-init
hits-init g c = record {
  read = not-read c.requires;
  no_fault = NoFault-refl _;
  unread = λ e u. omega arith;
  key = c.in_ok-found.ensures.key;
  counted = λ t apart.
      let laws : Laws g.C.Card.reads g.C.Card.place g.C.Card.soups g.C.Card.stands = record { formed = g.met.C.Card.formed; plain = g.met.C.Card.plain; durable = g.met.C.Card.durable; banks = g.met.C.Card.banks; kept = g.met.C.Card.kept } in
      let o = g.H.Host.outside c.args.host.now in
      let eight : Eight (g.H.Host.outside c.args.host.now) = record { eight = g.met.H.Host.eight c.args.host.now; none = g.met.H.Host.none c.args.host.now } in
      let stand : Stands g.C.Card.place g.C.Card.stands true c.args.units.now o = subst (λ b. Stands g.C.Card.place g.C.Card.stands b c.args.units.now o) t c.requires in
      let w = world_of g.C.Card.reads c.args.units.now o in
      let q = query_of c.args.query.now in
      let formed = stores-formed laws c.args.units.now o eight stand in
      counted-first (length (hits_of w q)) (counts w q (option_map spot_hit c.in_ok-found.found)) (all-counted w q apart formed ∙ ap (counts w q) (sym (c.in_ok-found.ensures.found o eight stand)));
  indexed = λ t.
      let o = g.H.Host.outside c.args.host.now in
      let eight : Eight (g.H.Host.outside c.args.host.now) = record { eight = g.met.H.Host.eight c.args.host.now; none = g.met.H.Host.none c.args.host.now } in
      let stand : Stands g.C.Card.place g.C.Card.stands true c.args.units.now o = subst (λ b. Stands g.C.Card.place g.C.Card.stands b c.args.units.now o) t c.requires in
      let q = query_of c.args.query.now in
      met-indexed q.spec.index (members_of (mounted_stores (world_of g.C.Card.reads c.args.units.now o)) q) c.in_ok-found.found On (c.in_ok-found.ensures.found o eight stand);
  ahead = λ t apart.
      let laws : Laws g.C.Card.reads g.C.Card.place g.C.Card.soups g.C.Card.stands = record { formed = g.met.C.Card.formed; plain = g.met.C.Card.plain; durable = g.met.C.Card.durable; banks = g.met.C.Card.banks; kept = g.met.C.Card.kept } in
      let o = g.H.Host.outside c.args.host.now in
      let eight : Eight (g.H.Host.outside c.args.host.now) = record { eight = g.met.H.Host.eight c.args.host.now; none = g.met.H.Host.none c.args.host.now } in
      let stand : Stands g.C.Card.place g.C.Card.stands true c.args.units.now o = subst (λ b. Stands g.C.Card.place g.C.Card.stands b c.args.units.now o) t c.requires in
      let w = world_of g.C.Card.reads c.args.units.now o in
      let q = query_of c.args.query.now in
      let formed = stores-formed laws c.args.units.now o eight stand in
      let k = ahead-start w q apart formed (stores-few laws c.args.units.now o eight stand) On (option_map spot_hit c.in_ok-found.found) in
      omega (arith, k);
}

pub hits-preserved : goal.hits-preserved
hits-preserved g c = record {
  read = read-then c.hits.invariant.read c.keeps.ensures.reading.read;
  no_fault = NoFault-append c.hits.invariant.no_fault c.in_ok-kept.ensures.reading.no_fault;
  unread = then-unread c.hits.invariant.read c.keeps.ensures.reading.read c.hits.invariant.unread c.keeps.ensures.reading.unread;
  key = c.in_ok-found-2.ensures.key;
  counted = λ t apart.
      let laws : Laws g.C.Card.reads g.C.Card.place g.C.Card.soups g.C.Card.stands = record { formed = g.met.C.Card.formed; plain = g.met.C.Card.plain; durable = g.met.C.Card.durable; banks = g.met.C.Card.banks; kept = g.met.C.Card.kept } in
      let o = g.H.Host.outside c.args.host.now in
      let eight : Eight (g.H.Host.outside c.args.host.now) = record { eight = g.met.H.Host.eight c.args.host.now; none = g.met.H.Host.none c.args.host.now } in
      let stand : Stands g.C.Card.place g.C.Card.stands true c.args.units.now o = subst (λ b. Stands g.C.Card.place g.C.Card.stands b c.args.units.now o) t c.requires in
      let w = world_of g.C.Card.reads c.args.units.now o in
      let q = query_of c.args.query.now in
      let formed = stores-formed laws c.args.units.now o eight stand in
      let same = c.hits.invariant.read.world t in
      let here = subst (λ (o : Option Spot). IfSome o (λ spot. IsIndexed w q (spot_hit spot))) c.in-Some.is (c.hits.invariant.indexed t) in
      let kept = c.in_ok-kept.ensures.kept t (subst (λ (v : World). MountedApart v) (sym same) apart) (subst (λ (v : World). IsIndexed v q (spot_hit c.in-Some.spot)) (sym same) here)
      ∙ ap (λ (v : World). passing (mounted_stores v) q (spot_hit c.in-Some.spot)) same in
      counted-on (length (hits_of w q)) c.hits.count (counts w q (option_map spot_hit c.hits.found)) (cond c.in_ok-kept.kept 1 0)
      (counts w q (beyond On q.spec.index (members_of (mounted_stores w) q) (spot_hit c.in-Some.spot))) (counts w q (option_map spot_hit c.in_ok-found-2.found)) c.one_more-count.result
      (c.hits.invariant.counted t apart)
      (ap (λ (o : Option Spot). counts w q (option_map spot_hit o)) c.in-Some.is ∙ kept-counted w q apart formed (spot_hit c.in-Some.spot) c.in_ok-kept.kept kept)
      (ap (counts w q) (found t))
      (all-few w q apart formed (stores-few laws c.args.units.now o eight stand))
      c.one_more-count.ensures;
  indexed = λ t.
      let w = world_of g.C.Card.reads c.args.units.now (g.H.Host.outside c.args.host.now) in
      let q = query_of c.args.query.now in
      beyond-indexed q.spec.index (members_of (mounted_stores w) q) c.in_ok-found-2.found On (spot_hit c.in-Some.spot) (found t);
  ahead = λ t apart.
      let laws : Laws g.C.Card.reads g.C.Card.place g.C.Card.soups g.C.Card.stands = record { formed = g.met.C.Card.formed; plain = g.met.C.Card.plain; durable = g.met.C.Card.durable; banks = g.met.C.Card.banks; kept = g.met.C.Card.kept } in
      let o = g.H.Host.outside c.args.host.now in
      let eight : Eight (g.H.Host.outside c.args.host.now) = record { eight = g.met.H.Host.eight c.args.host.now; none = g.met.H.Host.none c.args.host.now } in
      let stand : Stands g.C.Card.place g.C.Card.stands true c.args.units.now o = subst (λ b. Stands g.C.Card.place g.C.Card.stands b c.args.units.now o) t c.requires in
      let w = world_of g.C.Card.reads c.args.units.now o in
      let q = query_of c.args.query.now in
      let formed = stores-formed laws c.args.units.now o eight stand in
      let all = merged q.spec.index (members_of (mounted_stores w) q) in
      let was = c.hits.invariant.ahead t apart in
      let is = ap (λ (o : Option Spot). ahead On q.spec.index all (option_map spot_hit o)) c.in-Some.is in
      let less = ahead-fewer w q apart formed On (spot_hit c.in-Some.spot) in
      let next = ap (ahead On q.spec.index all) (found t) in
      omega (arith, was, is, less, next);
}
  where
    found : IsTrue g.H.Host.told → option_map spot_hit c.in_ok-found-2.found ≡ beyond On c.args.query.now.spec.index
        (members_of (mounted_stores (world_of g.C.Card.reads c.args.units.now (g.H.Host.outside c.args.host.now))) (query_of c.args.query.now)) (spot_hit c.in-Some.spot)
    found t =
        let p = g.H.Host.outside c.keeps.new.host in
        let eight2 : Eight (g.H.Host.outside c.keeps.new.host) = record { eight = g.met.H.Host.eight c.keeps.new.host; none = g.met.H.Host.none c.keeps.new.host } in
        let stand2 : Stands g.C.Card.place g.C.Card.stands true c.keeps.new.units p = subst (λ b. Stands g.C.Card.place g.C.Card.stands b c.keeps.new.units p) t c.keeps.ensures.reading.read.stand in
        c.in_ok-found-2.ensures.found p eight2 stand2
        ∙ ap (λ (v : World). beyond On c.args.query.now.spec.index (members_of (mounted_stores v) (query_of c.args.query.now)) (spot_hit c.in-Some.spot))
        (c.keeps.ensures.reading.read.world t ∙ c.hits.invariant.read.world t)
