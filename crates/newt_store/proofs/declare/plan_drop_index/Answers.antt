use Rattle.std.proofs.Common.{Some, ◌≡◌, List, true, not, ◌∙◌, ap}
use Rattle.std.specs.Option.{is_some}
use Rattle.newt_pagebook.proofs.Tests.{the_some}
use Rattle.newt_spec_store.specs.Keys.{Path}
use Rattle.newt_soupdir.specs.Bare.{bare_store}
use Rattle.newt_spec_store.specs.Store.{soup_of, change_soup_of, without_index}
use Rattle.newt_soupdir.specs.declared.rows.Directory.{Directory}
use Rattle.newt_laws_changes.proofs.Soups.{without-index}
use Rattle.newt_store.proofs.Declaring.{drops-index, formed-declared, unindex-no-soup, unindex-planned}
use Rattle.newt_store.proofs.Planned.{seen-some, next-plain}
use Rattle.newt_store.specs.declared.next.Gone.TheVariants.{Nothing}
use Rattle.newt_store.proofs.declare.plan_drop_index.Goals as goal

pub returns-then-is_none-clause-refused : goal.returns-then-is_none-clause-refused
returns-then-is_none-clause-refused c = λ texts s d.
    unindex-no-soup c.args.catalog.now texts s d c.args.sig c.args.paths.now (seen-some _ c.soup_of.result (soup_of c.args.sig (bare_store c.args.catalog.now.directory)) c.soup_of.ensures ∙ c.is_none.ensures ∙ ap not c.if-is_none.true)

pub returns-clause-next : goal.returns-clause-next
returns-clause-next c =
    let some : is_some (soup_of c.args.sig (bare_store c.args.catalog.now.directory)) ≡ true = seen-some _ c.soup_of.result (soup_of c.args.sig (bare_store c.args.catalog.now.directory)) c.soup_of.ensures ∙ c.is_none.ensures ∙ ap not c.if-is_none.false in
    let is : bare_store c.drop_spec.new.self ≡ change_soup_of c.args.sig (without_index c.args.paths.now) (bare_store c.args.catalog.now.directory) =
    c.drop_spec.ensures ∙ ap (λ (x : Directory). change_soup_of c.args.sig (without_index c.list.result.now) (bare_store x)) c.in_ok-directory.ensures
    ∙ ap (λ (paths : List Path). change_soup_of c.args.sig (without_index paths) (bare_store c.args.catalog.now.directory)) c.list.ensures in
    let p = the_some (soup_of c.args.sig (bare_store c.args.catalog.now.directory)) some in
    next-plain c.args.catalog.now (Some c.drop_spec.new.self) Nothing 0 (formed-declared c.args.catalog.now.directory c.drop_spec.new.self c.args.sig p.0 (without_index c.args.paths.now) (drops-index c.args.paths.now) c.requires p.1 (without-index c.args.paths.now p.0) is)

pub returns-clause-planned : goal.returns-clause-planned
returns-clause-planned c = λ now texts s d.
    let some : is_some (soup_of c.args.sig (bare_store c.args.catalog.now.directory)) ≡ true = seen-some _ c.soup_of.result (soup_of c.args.sig (bare_store c.args.catalog.now.directory)) c.soup_of.ensures ∙ c.is_none.ensures ∙ ap not c.if-is_none.false in
    let is : bare_store c.drop_spec.new.self ≡ change_soup_of c.args.sig (without_index c.args.paths.now) (bare_store c.args.catalog.now.directory) =
    c.drop_spec.ensures ∙ ap (λ (x : Directory). change_soup_of c.args.sig (without_index c.list.result.now) (bare_store x)) c.in_ok-directory.ensures
    ∙ ap (λ (paths : List Path). change_soup_of c.args.sig (without_index paths) (bare_store c.args.catalog.now.directory)) c.list.ensures in
    unindex-planned c.args.catalog.now texts s d c.args.sig c.args.paths.now now c.drop_spec.new.self some is
