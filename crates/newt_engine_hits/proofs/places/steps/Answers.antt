-- One step after another.
use Rattle.std.proofs.Common.{arith, ◌≡◌, ◌∙◌, ap, sym, subst, suc, ◌+◌, ◌-◌}
use Rattle.std.proofs.lemmas.Result.{err_from_is_err_and}
use Rattle.newt_host.proofs.Outside.{NoFault-append, NoFault-refl}
use Rattle.newt_cursor.specs.Seen.{query_of, place_of}
use Rattle.newt_spec_query.specs.Cursor.{repeated}
use Rattle.newt_spec_world.specs.World.{World, hits_of}
use Rattle.newt_laws_world.specs.Settled.{MountedApart}
use Rattle.newt_engine_units.specs.Stands.{world_of}
use Rattle.newt_engine_hits.specs.Ways.{stepping}
use Rattle.newt_engine_hits.proofs.Reading.{not-read, read-then, is-read, end-read, then-unread}
use Rattle.newt_engine_hits.proofs.Walking.{repeated-edge, at-edge}
use Rattle.newt_engine_hits.proofs.places.steps.Goals as goal

pub steps-init : goal.steps-init
steps-init g c = record {
  read = not-read c.requires.stands;
  no_fault = NoFault-refl _;
  unread = λ e u. omega arith;
  fits = c.requires.fits;
  left = λ t apart.
      let w = world_of g.C.Card.reads c.args.units.now (g.H.Host.outside c.args.host.now) in
      let q = query_of c.args.query.now in
      let none : c.args.count ≡ c.args.count - 0 = omega arith in
      ap (λ n. repeated n (stepping c.args.way (hits_of w q) q.spec.index) (place_of c.args.from)) none;
}

pub returns-then-is_at_edge-clause-reading : goal.returns-then-is_at_edge-clause-reading
returns-then-is_at_edge-clause-reading g c = is-read c.steps.invariant.read c.steps.invariant.no_fault c.steps.invariant.unread

pub returns-then-is_at_edge-clause-place : goal.returns-then-is_at_edge-clause-place
returns-then-is_at_edge-clause-place g c t apart =
    let w = world_of g.C.Card.reads c.args.units.now (g.H.Host.outside c.args.host.now) in
    let q = query_of c.args.query.now in
    let at = at-edge c.args.way (place_of c.steps.place) c.if-is_at_edge.ensures in
    sym (c.steps.invariant.left t apart ∙ ap (repeated (c.args.count - c.steps._step) (stepping c.args.way (hits_of w q) q.spec.index)) at
    ∙ repeated-edge (c.args.count - c.steps._step) c.args.way (hits_of w q) q.spec.index ∙ sym at)

pub step-requires-clause-stands : goal.step-requires-clause-stands
step-requires-clause-stands g c = c.steps.invariant.read.stand

pub step-requires-clause-fits : goal.step-requires-clause-fits
step-requires-clause-fits g c = c.steps.invariant.fits

pub returns-in_err-place-clause-reading : goal.returns-in_err-place-clause-reading
returns-in_err-place-clause-reading g c = end-read c.steps.invariant.read c.steps.invariant.no_fault c.steps.invariant.unread c.in_err-place.ensures.reading c.from_residual.result (err_from_is_err_and c.from_residual.result c.from_residual.ensures.1)

pub steps-preserved : goal.steps-preserved
steps-preserved g c = record {
  read = read-then c.steps.invariant.read c.step.ensures.reading.read;
  no_fault = NoFault-append c.steps.invariant.no_fault c.in_ok-place.ensures.reading.no_fault;
  unread = then-unread c.steps.invariant.read c.step.ensures.reading.read c.steps.invariant.unread c.step.ensures.reading.unread;
  fits = c.in_ok-place.ensures.fits;
  left = λ t apart.
      let w = world_of g.C.Card.reads c.args.units.now (g.H.Host.outside c.args.host.now) in
      let q = query_of c.args.query.now in
      let same = c.steps.invariant.read.world t in
      let step = c.in_ok-place.ensures.place t (subst MountedApart (sym same) apart)
      ∙ ap (λ (v : World). stepping c.args.way (hits_of v q) q.spec.index (place_of c.steps.place)) same in
      let test = c.steps-test.true in
      let more : c.args.count - c.steps._step ≡ suc (c.args.count - (c.steps._step + 1)) = omega (arith, test) in
      c.steps.invariant.left t apart
      ∙ ap (λ n. repeated n (stepping c.args.way (hits_of w q) q.spec.index) (place_of c.steps.place)) more
      ∙ ap (repeated (c.args.count - (c.steps._step + 1)) (stepping c.args.way (hits_of w q) q.spec.index)) (sym step);
}

pub returns-clause-reading : goal.returns-clause-reading
returns-clause-reading g c = is-read c.steps.invariant.read c.steps.invariant.no_fault c.steps.invariant.unread

pub returns-clause-fits : goal.returns-clause-fits
returns-clause-fits g c = c.steps.invariant.fits

pub returns-clause-place : goal.returns-clause-place
returns-clause-place g c t apart =
    let w = world_of g.C.Card.reads c.args.units.now (g.H.Host.outside c.args.host.now) in
    let q = query_of c.args.query.now in
    let test = c.steps-test.false in
    let none : c.args.count - c.steps._step ≡ 0 = omega (arith, test) in
    sym (c.steps.invariant.left t apart ∙ ap (λ n. repeated n (stepping c.args.way (hits_of w q) q.spec.index) (place_of c.steps.place)) none)
