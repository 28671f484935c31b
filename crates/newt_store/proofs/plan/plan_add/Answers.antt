use Rattle.std.proofs.Common.{◌<◌, sym, ◌∙◌, ap, arith}
use Rattle.std.specs.Option.{is_some}
use Rattle.newt_soupdir.specs.Bare.{bare_soup, bare_store}
use Rattle.newt_spec_store.specs.Store.{soup_of}
use Rattle.newt_store.proofs.Planned.{seen-some}
use Rattle.newt_store.proofs.Adding.{id-left, row-is, row-room, is-valid-graph, small-is, add-no-soup, add-no-frame, add-size, add-ids, add-planned, last-ids}
use Rattle.newt_store.proofs.plan.plan_add.Goals as goal

pub returns-in_default-clause-refused : goal.returns-in_default-clause-refused
returns-in_default-clause-refused c = λ texts s d.
    add-no-soup c.args.catalog.now texts s d c.args.sig c.args.graph.now (seen-some _ c.soup_of.result (soup_of c.args.sig (bare_store c.args.catalog.now.directory)) c.soup_of.ensures ∙ ap is_some c.in_default.is)

pub returns-then-not-is_frame-clause-refused : goal.returns-then-not-is_frame-clause-refused
returns-then-not-is_frame-clause-refused c = λ texts s d.
    add-no-frame c.args.catalog.now texts s d c.args.sig c.args.graph.now (ap is_some (sym c.in-Some.ensures)) (sym c.is_frame.ensures.frame ∙ c.if-not-is_frame.true)

pub returns-then-is_too_large-clause-refused : goal.returns-then-is_too_large-clause-refused
returns-then-is_too_large-clause-refused c = λ texts s d.
    add-size c.args.catalog.now texts s d c.args.sig c.args.graph.now (ap is_some (sym c.in-Some.ensures)) (sym c.is_frame.ensures.frame ∙ c.if-not-is_frame.false) (sym c.is_too_large.ensures ∙ c.if-is_too_large.true)

pub returns-then-row-eq-LAST_ID-clause-refused : goal.returns-then-row-eq-LAST_ID-clause-refused
returns-then-row-eq-LAST_ID-clause-refused c = λ texts s d.
    add-ids c.args.catalog.now texts s d c.args.sig c.args.graph.now (ap is_some (sym c.in-Some.ensures)) (sym c.is_frame.ensures.frame ∙ c.if-not-is_frame.false) (sym c.is_too_large.ensures ∙ c.if-is_too_large.false)
    (last-ids c.args.catalog.now texts s c.args.sig c.in-Some.row.now d (sym c.in-Some.ensures) c.if-row-eq-LAST_ID.true)

pub next_with-requires-clause-id_left : goal.next_with-requires-clause-id_left
next_with-requires-clause-id_left c = id-left c.args.catalog.now c.args.sig c.in-Some.row.now c.requires.formed (sym c.in-Some.ensures) c.if-row-eq-LAST_ID.false

pub next_with-requires-clause-valid : goal.next_with-requires-clause-valid
next_with-requires-clause-valid c =
    is-valid-graph c.in-Some.row.now.next_uid c.args.now c.args.graph.now c.is_frame.ensures.graph (sym c.is_frame.ensures.frame ∙ c.if-not-is_frame.false) (small-is c.args.graph.now (sym c.is_too_large.ensures ∙ c.if-is_too_large.false))

pub returns-clause-planned : goal.returns-clause-planned
returns-clause-planned c = λ texts s d.
    let time : c.args.now < 4294967296 = omega (arith, c.ranges.now.fits) in
    add-planned c.args.catalog.now texts s c.args.sig c.args.now c.args.graph.now c.in-Some.row.now c.in_ok-next.next c.requires.places c.requires.names d (sym c.in-Some.ensures)
    (row-is (bare_store c.args.catalog.now.directory) c.args.sig c.in-Some.row.now (sym c.in-Some.ensures)).0 c.is_frame.ensures.graph time (sym c.is_frame.ensures.frame ∙ c.if-not-is_frame.false)
    (small-is c.args.graph.now (sym c.is_too_large.ensures ∙ c.if-is_too_large.false)) c.if-row-eq-LAST_ID.false
    (row-room (bare_store c.args.catalog.now.directory) c.args.sig (bare_soup c.in-Some.row.now) c.requires.formed (sym c.in-Some.ensures) c.if-row-eq-LAST_ID.false) c.in_ok-next.ensures.adds
