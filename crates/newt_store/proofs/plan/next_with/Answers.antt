use Rattle.std.proofs.Common.{◌≡◌, inl, None, refl, sym, ◌∙◌, ap, subst}
use Rattle.newt_pagebook.proofs.Tests.{some_inj}
use Rattle.newt_objects.specs.Held.{held}
use Rattle.newt_spec_graph.specs.Lists.{Among}
use Rattle.newt_soupdir.specs.Bare.{bare_soup, bare_store}
use Rattle.newt_spec_store.specs.Store.{take_uid_of}
use Rattle.newt_soupdir.specs.declared.rows.Directory.{Directory}
use Rattle.newt_objects_commit.specs.Batch.{HasIds, large_ids}
use Rattle.newt_objects_commit.specs.declared.batch.NewEntry.{NewEntry}
use Rattle.newt_store.proofs.Adding.{formed-taken, soup-small}
use Rattle.newt_store.proofs.plan.next_with.Goals as goal

pub entry_of-requires-clause-small : goal.entry_of-requires-clause-small
entry_of-requires-clause-small c = soup-small c.args.catalog.now.directory (bare_soup c.args.row.now) c.args.row.now.sig c.requires.id_left.formed c.requires.id_left.is_row

pub returns-clause-next : goal.returns-clause-next
returns-clause-next c =
    let e = c.in_ok-entry.ensures in
    let taken : bare_store c.take_uid.new.self ≡ take_uid_of c.args.row.now.sig (bare_store c.args.catalog.now.directory) = c.take_uid.ensures.taken ∙ ap (λ (x : Directory). take_uid_of c.args.row.now.sig (bare_store x)) c.in_ok-directory.ensures in
    record {
      formed = formed-taken c.args.catalog.now.directory c.take_uid.new.self (bare_soup c.args.row.now) c.args.row.now.sig c.args.now c.args.graph.now c.requires.id_left.formed c.requires.id_left.is_row c.requires.id_left.room c.requires.valid taken;
      ids = λ x is. subst HasIds (some_inj _ x is) e.entry.ids;
      free = λ x is. inl (subst (λ (y : NewEntry). held c.args.catalog.now.objects y.id ≡ None) (some_inj _ x is) (ap (held c.args.catalog.now.objects) e.id ∙ c.in-Some.ensures.free));
      larges_free = λ x o is m. e.free o (subst (λ (y : NewEntry). Among (large_ids y) o) (sym (some_inj _ x is)) m);
    }

pub returns-clause-adds : goal.returns-clause-adds
returns-clause-adds c =
    let e = c.in_ok-entry.ensures in
    record {
      entry = c.in_ok-entry.entry;
      is_entry = refl;
      of_graph = e.entry;
      free = ap (held c.args.catalog.now.objects) e.id ∙ c.in-Some.ensures.free;
      larges_free = e.free;
      directory = c.take_uid.new.self;
      is_directory = refl;
      taken = c.take_uid.ensures.taken ∙ ap (λ (x : Directory). take_uid_of c.args.row.now.sig (bare_store x)) c.in_ok-directory.ensures;
      of_gone = refl;
      answer = c.uid.view_is;
    }
