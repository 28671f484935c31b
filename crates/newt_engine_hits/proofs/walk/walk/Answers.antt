-- One hit after another.
use Rattle.std.proofs.Common.{arith, ◌≡◌, ◌∙◌, refl, ap, sym, subst, Option, option_map, true}
use Rattle.std.specs.Prelude.{IfSome}
use Rattle.std.proofs.lemmas.Result.{err_from_is_err_and}
use Rattle.newt_host.proofs.Outside.{NoFault-append, NoFault-refl}
use Rattle.newt_cursor.specs.Seen.{query_of}
use Rattle.newt_index.specs.declared.identity.Spot.{Spot}
use Rattle.newt_keys.specs.KeyForm.{IsKeyOf}
use Rattle.newt_spec_world.specs.World.{World, mounted_stores}
use Rattle.newt_laws_world.specs.Settled.{MountedApart}
use Rattle.newt_laws_hits.specs.Stripped.{passing}
use Rattle.newt_laws_hits.specs.Taking.{members_of}
use Rattle.newt_union.specs.Merged.{merged}
use Rattle.newt_engine_units.specs.Stands.{Stands, Eight, world_of}
use Rattle.newt_engine_units.proofs.Known.{Laws}
use Rattle.newt_index.specs.Spots.{spot_hit}
use Rattle.newt_engine_hits.specs.Searched.{IsIndexed}
use Rattle.newt_engine_hits.specs.Ways.{beyond}
use Rattle.newt_engine_hits.proofs.Reading.{not-read, read-then, is-read, end-read, end-memory, then-unread}
use Rattle.newt_engine_hits.proofs.Searching.{beyond-indexed}
use Rattle.newt_engine_hits.proofs.Stores.{stores-formed, stores-few}
use Rattle.newt_engine_hits.proofs.Walking.{ahead, comes_to, ahead-start, ahead-fewer, passed-goal, over-goal}
use Rattle.newt_engine_hits.proofs.walk.walk.Goals as goal

pub steps-init : goal.steps-init
steps-init g c = record {
  read = not-read c.requires.stands;
  no_fault = NoFault-refl _;
  unread = λ e u. omega arith;
  key = c.requires.key;
  walked = λ t apart m. refl;
  indexed = λ t apart m. m;
  ahead = λ t apart.
      let laws : Laws g.C.Card.reads g.C.Card.place g.C.Card.soups g.C.Card.stands = record { formed = g.met.C.Card.formed; plain = g.met.C.Card.plain; durable = g.met.C.Card.durable; banks = g.met.C.Card.banks; kept = g.met.C.Card.kept } in
      let o = g.H.Host.outside c.args.host.now in
      let eight : Eight (g.H.Host.outside c.args.host.now) = record { eight = g.met.H.Host.eight c.args.host.now; none = g.met.H.Host.none c.args.host.now } in
      let stand : Stands g.C.Card.place g.C.Card.stands true c.args.units.now o = subst (λ b. Stands g.C.Card.place g.C.Card.stands b c.args.units.now o) t c.requires.stands in
      let w = world_of g.C.Card.reads c.args.units.now o in
      let q = query_of c.args.query.now in
      let k = ahead-start w q apart (stores-formed laws c.args.units.now o eight stand) (stores-few laws c.args.units.now o eight stand) c.args.way (option_map spot_hit c.args.start) in
      omega (arith, k);
}

pub returns-in_default-clause-reading : goal.returns-in_default-clause-reading
returns-in_default-clause-reading g c = is-read c.steps.invariant.read c.steps.invariant.no_fault c.steps.invariant.unread

pub returns-in_default-clause-walked : goal.returns-in_default-clause-walked
returns-in_default-clause-walked g c t apart m =
    let w = world_of g.C.Card.reads c.args.units.now (g.H.Host.outside c.args.host.now) in
    c.edge.ensures ∙ sym (c.steps.invariant.walked t apart m ∙ ap (λ (o : Option Spot). comes_to w (query_of c.args.query.now) c.args.way (option_map spot_hit o)) c.in_default.is)

pub keeps-requires : goal.keeps-requires
keeps-requires g c = c.steps.invariant.read.stand

pub returns-in_err-keeps-clause-reading : goal.returns-in_err-keeps-clause-reading
returns-in_err-keeps-clause-reading g c = end-read c.steps.invariant.read c.steps.invariant.no_fault c.steps.invariant.unread c.in_err-keeps.ensures.reading c.from_residual.result (err_from_is_err_and c.from_residual.result c.from_residual.ensures.1)

pub returns-then-branch-clause-reading : goal.returns-then-branch-clause-reading
returns-then-branch-clause-reading g c = is-read (read-then c.steps.invariant.read c.in_ok-keeps.ensures.reading.read) (NoFault-append c.steps.invariant.no_fault c.in_ok-keeps.ensures.reading.no_fault)
    (then-unread c.steps.invariant.read c.in_ok-keeps.ensures.reading.read c.steps.invariant.unread c.in_ok-keeps.ensures.reading.unread)

pub returns-then-branch-clause-fits : goal.returns-then-branch-clause-fits
returns-then-branch-clause-fits g c = subst (λ (o : Option Spot). IfSome o (λ spot. IsKeyOf c.args.query.now.spec.index spot.key)) c.in-Some.is c.steps.invariant.key

pub returns-then-branch-clause-walked : goal.returns-then-branch-clause-walked
returns-then-branch-clause-walked g c t apart m =
    let laws : Laws g.C.Card.reads g.C.Card.place g.C.Card.soups g.C.Card.stands = record { formed = g.met.C.Card.formed; plain = g.met.C.Card.plain; durable = g.met.C.Card.durable; banks = g.met.C.Card.banks; kept = g.met.C.Card.kept } in
    let o = g.H.Host.outside c.args.host.now in
    let eight : Eight (g.H.Host.outside c.args.host.now) = record { eight = g.met.H.Host.eight c.args.host.now; none = g.met.H.Host.none c.args.host.now } in
    let stand : Stands g.C.Card.place g.C.Card.stands true c.args.units.now o = subst (λ b. Stands g.C.Card.place g.C.Card.stands b c.args.units.now o) t c.requires.stands in
    let w = world_of g.C.Card.reads c.args.units.now o in
    let q = query_of c.args.query.now in
    let same = c.steps.invariant.read.world t in
    let here = subst (λ (o : Option Spot). IfSome o (λ spot. IsIndexed w q (spot_hit spot))) c.in-Some.is (c.steps.invariant.indexed t apart m) in
    let kept = sym c.if-branch.true ∙ c.in_ok-keeps.ensures.kept t (subst (λ (v : World). MountedApart v) (sym same) apart) (subst (λ (v : World). IsIndexed v q (spot_hit c.in-Some.spot)) (sym same) here)
    ∙ ap (λ (v : World). passing (mounted_stores v) q (spot_hit c.in-Some.spot)) same in
    sym (c.steps.invariant.walked t apart m ∙ ap (λ (o : Option Spot). comes_to w q c.args.way (option_map spot_hit o)) c.in-Some.is
    ∙ passed-goal w q apart (stores-formed laws c.args.units.now o eight stand) c.args.way (spot_hit c.in-Some.spot) kept)

pub beyond-requires-clause-key : goal.beyond-requires-clause-key
beyond-requires-clause-key g c = subst (λ (o : Option Spot). IfSome o (λ spot. IsKeyOf c.args.query.now.spec.index spot.key)) c.in-Some.is c.steps.invariant.key

pub returns-in_err-found-clause-reading : goal.returns-in_err-found-clause-reading
returns-in_err-found-clause-reading g c =
    let r = c.from_residual-in_err-found.result in
    end-memory (read-then c.steps.invariant.read c.keeps.ensures.reading.read) (NoFault-append c.steps.invariant.no_fault c.in_ok-keeps.ensures.reading.no_fault) (then-unread c.steps.invariant.read c.keeps.ensures.reading.read c.steps.invariant.unread c.keeps.ensures.reading.unread) r (err_from_is_err_and r c.from_residual-in_err-found.ensures.1)

pub steps-preserved : goal.steps-preserved
steps-preserved g c = record {
  read = read-then c.steps.invariant.read c.keeps.ensures.reading.read;
  no_fault = NoFault-append c.steps.invariant.no_fault c.in_ok-keeps.ensures.reading.no_fault;
  unread = then-unread c.steps.invariant.read c.keeps.ensures.reading.read c.steps.invariant.unread c.keeps.ensures.reading.unread;
  key = c.in_ok-found.ensures.key;
  walked = λ t apart m.
      let laws : Laws g.C.Card.reads g.C.Card.place g.C.Card.soups g.C.Card.stands = record { formed = g.met.C.Card.formed; plain = g.met.C.Card.plain; durable = g.met.C.Card.durable; banks = g.met.C.Card.banks; kept = g.met.C.Card.kept } in
      let o = g.H.Host.outside c.args.host.now in
      let eight : Eight (g.H.Host.outside c.args.host.now) = record { eight = g.met.H.Host.eight c.args.host.now; none = g.met.H.Host.none c.args.host.now } in
      let stand : Stands g.C.Card.place g.C.Card.stands true c.args.units.now o = subst (λ b. Stands g.C.Card.place g.C.Card.stands b c.args.units.now o) t c.requires.stands in
      let w = world_of g.C.Card.reads c.args.units.now o in
      let q = query_of c.args.query.now in
      let formed = stores-formed laws c.args.units.now o eight stand in
      let same = c.steps.invariant.read.world t in
      let here = subst (λ (o : Option Spot). IfSome o (λ spot. IsIndexed w q (spot_hit spot))) c.in-Some.is (c.steps.invariant.indexed t apart m) in
      let kept = sym c.if-branch.false ∙ c.in_ok-keeps.ensures.kept t (subst (λ (v : World). MountedApart v) (sym same) apart) (subst (λ (v : World). IsIndexed v q (spot_hit c.in-Some.spot)) (sym same) here)
      ∙ ap (λ (v : World). passing (mounted_stores v) q (spot_hit c.in-Some.spot)) same in
      c.steps.invariant.walked t apart m ∙ ap (λ (o : Option Spot). comes_to w q c.args.way (option_map spot_hit o)) c.in-Some.is
      ∙ over-goal w q apart formed c.args.way (spot_hit c.in-Some.spot) kept ∙ ap (comes_to w q c.args.way) (sym (found t));
  indexed = λ t apart m.
      let w = world_of g.C.Card.reads c.args.units.now (g.H.Host.outside c.args.host.now) in
      let q = query_of c.args.query.now in
      beyond-indexed q.spec.index (members_of (mounted_stores w) q) c.in_ok-found.found c.args.way (spot_hit c.in-Some.spot) (found t);
  ahead = λ t apart.
      let laws : Laws g.C.Card.reads g.C.Card.place g.C.Card.soups g.C.Card.stands = record { formed = g.met.C.Card.formed; plain = g.met.C.Card.plain; durable = g.met.C.Card.durable; banks = g.met.C.Card.banks; kept = g.met.C.Card.kept } in
      let o = g.H.Host.outside c.args.host.now in
      let eight : Eight (g.H.Host.outside c.args.host.now) = record { eight = g.met.H.Host.eight c.args.host.now; none = g.met.H.Host.none c.args.host.now } in
      let stand : Stands g.C.Card.place g.C.Card.stands true c.args.units.now o = subst (λ b. Stands g.C.Card.place g.C.Card.stands b c.args.units.now o) t c.requires.stands in
      let w = world_of g.C.Card.reads c.args.units.now o in
      let q = query_of c.args.query.now in
      let formed = stores-formed laws c.args.units.now o eight stand in
      let all = merged q.spec.index (members_of (mounted_stores w) q) in
      let was = c.steps.invariant.ahead t apart in
      let is = ap (λ (o : Option Spot). ahead c.args.way q.spec.index all (option_map spot_hit o)) c.in-Some.is in
      let less = ahead-fewer w q apart formed c.args.way (spot_hit c.in-Some.spot) in
      let next = ap (ahead c.args.way q.spec.index all) (found t) in
      omega (arith, was, is, less, next);
}
  where
    found : Rattle.std.proofs.Common.IsTrue g.H.Host.told → option_map spot_hit c.in_ok-found.found ≡ beyond c.args.way c.args.query.now.spec.index
        (members_of (mounted_stores (world_of g.C.Card.reads c.args.units.now (g.H.Host.outside c.args.host.now))) (query_of c.args.query.now)) (spot_hit c.in-Some.spot)
    found t =
        let p = g.H.Host.outside c.keeps.new.host in
        let eight2 : Eight (g.H.Host.outside c.keeps.new.host) = record { eight = g.met.H.Host.eight c.keeps.new.host; none = g.met.H.Host.none c.keeps.new.host } in
        let stand2 : Stands g.C.Card.place g.C.Card.stands true c.keeps.new.units p = subst (λ b. Stands g.C.Card.place g.C.Card.stands b c.keeps.new.units p) t c.keeps.ensures.reading.read.stand in
        c.in_ok-found.ensures.found p eight2 stand2
        ∙ ap (λ (v : World). beyond c.args.way c.args.query.now.spec.index (members_of (mounted_stores v) (query_of c.args.query.now)) (spot_hit c.in-Some.spot))
        (c.keeps.ensures.reading.read.world t ∙ c.steps.invariant.read.world t)

pub returns-clause-reading : goal.returns-clause-reading
returns-clause-reading g c = is-read c.steps.invariant.read c.steps.invariant.no_fault c.steps.invariant.unread

pub returns-clause-walked : goal.returns-clause-walked
returns-clause-walked g c t apart m =
    let k = c.steps.invariant.ahead t apart in
    let last = c.steps-test.false in
    absurd (omega (arith, k, last))
