use Rattle.std.proofs.Common.{ap, sym, refl}
use Rattle.newt_soupdir.specs.Bare.{bare_soup}
use Rattle.newt_spec_store.specs.Store.{uid_taken}
use Rattle.newt_soupdir.proofs.Lists.{place_is, nowhere, within_bound}
use Rattle.newt_soupdir.proofs.changes.take_uid_in.Goals as goal

pub returns-in_err-at-clause-uid : goal.returns-in_err-at-clause-uid
returns-in_err-at-clause-uid c = rw (c.from_residual.ensures, (nowhere c.args.sig c.args.rows.now 0 (sym c.in_err-at.ensures.place)).soup) refl

pub returns-in_err-at-clause-taken : goal.returns-in_err-at-clause-taken
returns-in_err-at-clause-taken c = sym ((nowhere c.args.sig c.args.rows.now 0 (sym c.in_err-at.ensures.place)).same uid_taken)

pub take_next-requires : goal.take_next-requires
take_next-requires c =
    let p = place_is c.args.sig c.args.rows.now c.in_ok-at.at c.index-rows-at.result (sym c.in_ok-at.ensures.place) in
    within_bound _ _ p.soup c.requires

pub returns-clause-uid : goal.returns-clause-uid
returns-clause-uid c =
    let p = place_is c.args.sig c.args.rows.now c.in_ok-at.at c.index-rows-at.result (sym c.in_ok-at.ensures.place) in
    rw (p.soup, c.take_next.ensures.uid) refl

pub returns-clause-taken : goal.returns-clause-taken
returns-clause-taken c =
    let p = place_is c.args.sig c.args.rows.now c.in_ok-at.at c.index-rows-at.result (sym c.in_ok-at.ensures.place) in
    p.changed uid_taken c.take_next.new.row (ap bare_soup c.take_next.ensures.taken)
