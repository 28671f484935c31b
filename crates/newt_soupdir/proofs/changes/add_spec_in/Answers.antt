use Rattle.std.proofs.Common.{sym, ◌∙◌}
use Rattle.std.proofs.lemmas.Result.{on_ok_weaker}
use Rattle.newt_spec_store.specs.Store.{with_index}
use Rattle.newt_soupdir.proofs.Lists.{place_is, nowhere}
use Rattle.newt_soupdir.proofs.changes.add_spec_in.Goals as goal

pub returns-in-Some-clause-added : goal.returns-in-Some-clause-added
returns-in-Some-clause-added c =
    let p = place_is c.args.sig c.args.rows.now c.in-Some.at c.index-rows-at.result (sym c.in-Some.ensures.place) in
    on_ok_weaker c.add_to.result (λ is. p.changed (with_index c.args.spec) c.add_to.new.row is) c.add_to.ensures.added

pub returns-in-None-clause-added : goal.returns-in-None-clause-added
returns-in-None-clause-added c = sym ((nowhere c.args.sig c.args.rows.now 0 (sym c.place_of.ensures.place ∙ c.in-None.is)).same (with_index c.args.spec))
