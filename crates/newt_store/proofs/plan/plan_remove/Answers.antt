use Rattle.std.proofs.Common.{None, not, sym, ◌∙◌, ap}
use Rattle.std.specs.Option.{is_some}
use Rattle.newt_soupdir.specs.Bare.{bare_store}
use Rattle.newt_spec_store.specs.Store.{soup_of}
use Rattle.newt_store.proofs.Planned.{seen-some, remove-no-soup, remove-no-entry, remove-planned, next-plain}
use Rattle.newt_store.specs.declared.next.Gone.TheVariants.{OneEntry}
use Rattle.newt_store.proofs.plan.plan_remove.Goals as goal

pub returns-then-is_none-clause-refused : goal.returns-then-is_none-clause-refused
returns-then-is_none-clause-refused c = λ texts s d.
    remove-no-soup c.args.catalog.now texts s c.args.sig c.args.uid d (seen-some _ c.soup_of.result (soup_of c.args.sig (bare_store c.args.catalog.now.directory)) c.soup_of.ensures ∙ c.is_none.ensures ∙ ap not c.if-is_none.true)

pub returns-then-is_none-2-clause-refused : goal.returns-then-is_none-2-clause-refused
returns-then-is_none-2-clause-refused c = λ texts s d.
    remove-no-entry c.args.catalog.now texts s c.args.sig c.args.uid d
    (seen-some _ c.soup_of.result (soup_of c.args.sig (bare_store c.args.catalog.now.directory)) c.soup_of.ensures ∙ c.is_none.ensures ∙ ap not c.if-is_none.false)
    (ap is_some (sym c.get.ensures) ∙ c.is_none-2.ensures ∙ ap not c.if-is_none-2.true)

pub returns-clause-planned : goal.returns-clause-planned
returns-clause-planned c = λ now texts s d.
    remove-planned c.args.catalog.now texts s c.args.sig c.args.uid now d
    (seen-some _ c.soup_of.result (soup_of c.args.sig (bare_store c.args.catalog.now.directory)) c.soup_of.ensures ∙ c.is_none.ensures ∙ ap not c.if-is_none.false)
    (ap is_some (sym c.get.ensures) ∙ c.is_none-2.ensures ∙ ap not c.if-is_none-2.false)

pub returns-clause-next : goal.returns-clause-next
returns-clause-next c = next-plain c.args.catalog.now None (OneEntry c.args.sig c.args.uid) 0 c.requires
