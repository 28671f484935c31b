use Rattle.std.proofs.Common.{◌≡◌, Some, true, not, ◌∙◌, ap}
use Rattle.std.specs.Option.{is_some}
use Rattle.newt_pagebook.proofs.Tests.{the_some}
use Rattle.newt_soupdir.specs.Bare.{bare_store}
use Rattle.newt_spec_store.specs.Store.{TagTable, soup_of, change_soup_of, with_tags}
use Rattle.newt_soupdir.specs.declared.rows.Directory.{Directory}
use Rattle.newt_laws_changes.proofs.Soups.{with-tags}
use Rattle.newt_store.proofs.Declaring.{sets-tags, formed-declared, tags-no-soup, tags-planned}
use Rattle.newt_store.proofs.Planned.{seen-some, next-plain}
use Rattle.newt_store.specs.declared.next.Gone.TheVariants.{Nothing}
use Rattle.newt_store.proofs.declare.plan_set_tags.Goals as goal

pub returns-then-is_none-clause-refused : goal.returns-then-is_none-clause-refused
returns-then-is_none-clause-refused c = λ texts s d.
    tags-no-soup c.args.catalog.now texts s d c.args.sig c.args.table.now (seen-some _ c.soup_of.result (soup_of c.args.sig (bare_store c.args.catalog.now.directory)) c.soup_of.ensures ∙ c.is_none.ensures ∙ ap not c.if-is_none.true)

pub returns-clause-next : goal.returns-clause-next
returns-clause-next c =
    let some : is_some (soup_of c.args.sig (bare_store c.args.catalog.now.directory)) ≡ true = seen-some _ c.soup_of.result (soup_of c.args.sig (bare_store c.args.catalog.now.directory)) c.soup_of.ensures ∙ c.is_none.ensures ∙ ap not c.if-is_none.false in
    let is : bare_store c.set_tags.new.self ≡ change_soup_of c.args.sig (with_tags (Some c.args.table.now)) (bare_store c.args.catalog.now.directory) =
    c.set_tags.ensures ∙ ap (λ (x : Directory). change_soup_of c.args.sig (with_tags (Some c.in_ok-tags.tags)) (bare_store x)) c.in_ok-directory.ensures
    ∙ ap (λ (x : TagTable). change_soup_of c.args.sig (with_tags (Some x)) (bare_store c.args.catalog.now.directory)) c.in_ok-tags.ensures in
    let p = the_some (soup_of c.args.sig (bare_store c.args.catalog.now.directory)) some in
    next-plain c.args.catalog.now (Some c.set_tags.new.self) Nothing 0 (formed-declared c.args.catalog.now.directory c.set_tags.new.self c.args.sig p.0 (with_tags (Some c.args.table.now)) (sets-tags (Some c.args.table.now)) c.requires p.1 (with-tags (Some c.args.table.now) p.0 c.symbols-valid.ensures.valid) is)

pub returns-clause-planned : goal.returns-clause-planned
returns-clause-planned c = λ now texts s d.
    let some : is_some (soup_of c.args.sig (bare_store c.args.catalog.now.directory)) ≡ true = seen-some _ c.soup_of.result (soup_of c.args.sig (bare_store c.args.catalog.now.directory)) c.soup_of.ensures ∙ c.is_none.ensures ∙ ap not c.if-is_none.false in
    let is : bare_store c.set_tags.new.self ≡ change_soup_of c.args.sig (with_tags (Some c.args.table.now)) (bare_store c.args.catalog.now.directory) =
    c.set_tags.ensures ∙ ap (λ (x : Directory). change_soup_of c.args.sig (with_tags (Some c.in_ok-tags.tags)) (bare_store x)) c.in_ok-directory.ensures
    ∙ ap (λ (x : TagTable). change_soup_of c.args.sig (with_tags (Some x)) (bare_store c.args.catalog.now.directory)) c.in_ok-tags.ensures in
    tags-planned c.args.catalog.now texts s d c.args.sig c.args.table.now now c.set_tags.new.self c.symbols-valid.ensures.valid some is
