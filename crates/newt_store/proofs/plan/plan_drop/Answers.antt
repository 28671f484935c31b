use Rattle.std.proofs.Common.{Some, ◌≡◌, true, not, ◌∙◌, ap}
use Rattle.std.specs.Option.{is_some}
use Rattle.newt_soupdir.specs.Bare.{bare_store}
use Rattle.newt_spec_store.specs.Store.{soup_of, without_soup}
use Rattle.newt_soupdir.specs.declared.rows.Directory.{Directory}
use Rattle.newt_store.proofs.Planned.{seen-some, formed-dropped, drop-refused, drop-planned, next-plain}
use Rattle.newt_store.specs.declared.next.Gone.TheVariants.{AllOf}
use Rattle.newt_store.proofs.plan.plan_drop.Goals as goal

pub returns-then-is_none-clause-refused : goal.returns-then-is_none-clause-refused
returns-then-is_none-clause-refused c = λ texts s d.
    drop-refused c.args.catalog.now texts s c.args.sig d (seen-some _ c.soup_of.result (soup_of c.args.sig (bare_store c.args.catalog.now.directory)) c.soup_of.ensures ∙ c.is_none.ensures ∙ ap not c.if-is_none.true)

pub returns-clause-next : goal.returns-clause-next
returns-clause-next c =
    let some : is_some (soup_of c.args.sig (bare_store c.args.catalog.now.directory)) ≡ true = seen-some _ c.soup_of.result (soup_of c.args.sig (bare_store c.args.catalog.now.directory)) c.soup_of.ensures ∙ c.is_none.ensures ∙ ap not c.if-is_none.false in
    let is : bare_store c.drop_soup.new.self ≡ without_soup c.args.sig (bare_store c.args.catalog.now.directory) = c.drop_soup.ensures ∙ ap (λ (x : Directory). without_soup c.args.sig (bare_store x)) c.in_ok-directory.ensures in
    next-plain c.args.catalog.now (Some c.drop_soup.new.self) (AllOf c.args.sig) 0 (formed-dropped c.args.catalog.now.directory c.drop_soup.new.self c.args.sig c.requires some is)

pub returns-clause-planned : goal.returns-clause-planned
returns-clause-planned c = λ now texts s d.
    let some : is_some (soup_of c.args.sig (bare_store c.args.catalog.now.directory)) ≡ true = seen-some _ c.soup_of.result (soup_of c.args.sig (bare_store c.args.catalog.now.directory)) c.soup_of.ensures ∙ c.is_none.ensures ∙ ap not c.if-is_none.false in
    let is : bare_store c.drop_soup.new.self ≡ without_soup c.args.sig (bare_store c.args.catalog.now.directory) = c.drop_soup.ensures ∙ ap (λ (x : Directory). without_soup c.args.sig (bare_store x)) c.in_ok-directory.ensures in
    drop-planned c.args.catalog.now texts s c.args.sig now c.drop_soup.new.self d some is
