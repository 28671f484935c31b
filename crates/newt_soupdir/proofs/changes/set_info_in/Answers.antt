use Rattle.std.proofs.Common.{sym, ◌∙◌}
use Rattle.newt_spec_store.specs.Store.{with_info}
use Rattle.newt_soupdir.proofs.Lists.{place_is, nowhere}
use Rattle.newt_soupdir.proofs.changes.set_info_in.Goals as goal

pub returns-in-Some : goal.returns-in-Some
returns-in-Some c =
    let p = place_is c.args.sig c.args.rows.now c.in-Some.at c.index-rows-at.result (sym c.in-Some.ensures.place) in
    p.changed (with_info c.args.info) c.set_info_of.new.row c.set_info_of.ensures

pub returns-in_default : goal.returns-in_default
returns-in_default c = sym ((nowhere c.args.sig c.args.rows.now 0 (sym c.place_of.ensures.place ∙ c.in_default.is)).same (with_info c.args.info))
