use Rattle.std.proofs.Common.{◌<◌, inr, not, sym, ◌∙◌, ap, subst, arith}
use Rattle.std.specs.Option.{is_some}
use Rattle.newt_pagebook.proofs.Tests.{some_inj, the_some}
use Rattle.newt_spec_graph.specs.Lists.{Among}
use Rattle.newt_objects_commit.specs.Batch.{HasIds, large_ids}
use Rattle.newt_objects_commit.specs.Places.{place_of}
use Rattle.newt_objects_commit.specs.declared.batch.NewEntry.{NewEntry}
use Rattle.newt_soupdir.specs.Bare.{bare_store}
use Rattle.newt_spec_store.specs.Store.{soup_of}
use Rattle.newt_store.specs.declared.next.Gone.TheVariants.{Nothing}
use Rattle.newt_store.specs.Next.{IsFree}
use Rattle.newt_store.proofs.Adding.{soup-small}
use Rattle.newt_store.proofs.Planned.{seen-some}
use Rattle.newt_store.proofs.Replacing.{kept-place, replace-no-soup, replace-no-entry, replace-no-frame, replace-size, replace-planned}
use Rattle.newt_store.proofs.plan.plan_replace.Goals as goal

pub returns-then-is_none-clause-refused : goal.returns-then-is_none-clause-refused
returns-then-is_none-clause-refused c = λ texts s d.
    replace-no-soup c.args.catalog.now texts s d c.args.sig c.args.uid c.args.graph.now (seen-some _ c.soup_of.result (soup_of c.args.sig (bare_store c.args.catalog.now.directory)) c.soup_of.ensures ∙ c.is_none.ensures ∙ ap not c.if-is_none.true)

pub returns-in_default-clause-refused : goal.returns-in_default-clause-refused
returns-in_default-clause-refused c = λ texts s d.
    replace-no-entry c.args.catalog.now texts s d c.args.sig c.args.uid c.args.graph.now (seen-some _ c.soup_of.result (soup_of c.args.sig (bare_store c.args.catalog.now.directory)) c.soup_of.ensures ∙ c.is_none.ensures ∙ ap not c.if-is_none.false)
    (ap is_some (sym c.get.ensures ∙ c.in_default.is))

pub returns-then-not-is_frame-clause-refused : goal.returns-then-not-is_frame-clause-refused
returns-then-not-is_frame-clause-refused c = λ texts s d.
    replace-no-frame c.args.catalog.now texts s d c.args.sig c.args.uid c.args.graph.now (seen-some _ c.soup_of.result (soup_of c.args.sig (bare_store c.args.catalog.now.directory)) c.soup_of.ensures ∙ c.is_none.ensures ∙ ap not c.if-is_none.false)
    (ap is_some (sym c.get.ensures ∙ c.in-Some.is)) (sym c.is_frame.ensures.frame ∙ c.if-not-is_frame.true)

pub returns-then-is_too_large-clause-refused : goal.returns-then-is_too_large-clause-refused
returns-then-is_too_large-clause-refused c = λ texts s d.
    replace-size c.args.catalog.now texts s d c.args.sig c.args.uid c.args.graph.now (seen-some _ c.soup_of.result (soup_of c.args.sig (bare_store c.args.catalog.now.directory)) c.soup_of.ensures ∙ c.is_none.ensures ∙ ap not c.if-is_none.false)
    (ap is_some (sym c.get.ensures ∙ c.in-Some.is)) (sym c.is_frame.ensures.frame ∙ c.if-not-is_frame.false) (sym c.is_too_large.ensures ∙ c.if-is_too_large.true)

pub entry_of-requires-clause-small : goal.entry_of-requires-clause-small
entry_of-requires-clause-small c =
    let p = the_some (soup_of c.args.sig (bare_store c.args.catalog.now.directory)) (seen-some _ c.soup_of.result (soup_of c.args.sig (bare_store c.args.catalog.now.directory)) c.soup_of.ensures ∙ c.is_none.ensures ∙ ap not c.if-is_none.false) in
    soup-small c.args.catalog.now.directory p.0 c.args.sig c.requires.formed p.1

pub entry_of-requires-clause-odd : goal.entry_of-requires-clause-odd
entry_of-requires-clause-odd c = c.requires.places.odd c.args.sig c.args.uid c.in-Some.id (sym c.get.ensures ∙ c.in-Some.is)

pub returns-clause-next : goal.returns-clause-next
returns-clause-next c =
    let e = c.in_ok-entry.ensures in
    record {
      formed = c.requires.formed;
      ids = λ x is. subst HasIds (some_inj _ x is) e.entry.ids;
      free = λ x is. subst (IsFree c.args.catalog.now Nothing) (some_inj _ x is) (inr (kept-place (place_of c.args.catalog.now.places) c.in_ok-entry.entry c.args.sig c.args.uid c.in-Some.id e.entry.of_sig e.entry.of_uid e.id (sym c.get.ensures ∙ c.in-Some.is), λ goes. goes));
      larges_free = λ x o is m. e.free o (subst (λ (y : NewEntry). Among (large_ids y) o) (sym (some_inj _ x is)) m);
    }

pub returns-clause-planned : goal.returns-clause-planned
returns-clause-planned c = λ texts s d.
    let time : c.args.now < 4294967296 = omega (arith, c.ranges.now.fits) in
    let e = c.in_ok-entry.ensures in
    replace-planned c.args.catalog.now texts s c.args.sig c.args.uid c.in-Some.id c.args.now c.args.graph.now c.in_ok-entry.entry c.requires.places c.requires.names d
    (seen-some _ c.soup_of.result (soup_of c.args.sig (bare_store c.args.catalog.now.directory)) c.soup_of.ensures ∙ c.is_none.ensures ∙ ap not c.if-is_none.false)
    (sym c.get.ensures ∙ c.in-Some.is) e.entry e.id e.free c.is_frame.ensures.graph time
    (sym c.is_frame.ensures.frame ∙ c.if-not-is_frame.false) (sym c.is_too_large.ensures ∙ c.if-is_too_large.false)
