use Rattle.std.proofs.Common.{◌≡◌, ℕ, Result, Ok, Err, sym, subst}
use Rattle.newt_pagebook.specs.Book.{batch_bytes}
use Rattle.newt_spec_image.specs.Pages.{Change}
use Rattle.newt_objects.specs.Changing.{IsUnderWay}
use Rattle.newt_objects.specs.Held.{held}
use Rattle.newt_objects.proofs.TextsOf.{texts_of}
use Rattle.newt_objects_commit.specs.Batch.{bytes_if}
use Rattle.newt_objects_commit.specs.Calls.{CommitsObjects}
use Rattle.newt_store_change.specs.declared.fault.StoreFault.{StoreFault}
use Rattle.newt_store.specs.Next.{next_bytes}
use Rattle.newt_store.proofs.Unanswered.{IsMemory}
use Rattle.newt_store.proofs.Writing.{bytes-planned, start-way, planned-made, leads-on, commits-memory, writes-memory, writes-objects}
use Rattle.newt_store.proofs.carry.write_next.Goals as goal

pub plan_objects-requires-clause-can : goal.plan_objects-requires-clause-can
plan_objects-requires-clause-can g c = c.requires.can

pub plan_objects-requires-clause-way : goal.plan_objects-requires-clause-way
plan_objects-requires-clause-way g c =
    let k = c.requires.kept in
    let u : ℕ = g.P.PageBook.place c.args.book.now in
    let texts = texts_of k.are.live (held c.args.objects.now) k.are.is_table in
    let way = start-way g.H.Host.told c.args.objects.now (g.P.PageBook.numbers c.args.book.now) u (g.H.Host.outside c.args.host.now) k texts.0 texts.1 in
    (k.are.live, texts.0, subst (λ (b : Change). IsUnderWay c.args.objects.now b k.are.live texts.0) (sym c.new-batch.ensures) way)

pub commit_plans-requires-clause-planned : goal.commit_plans-requires-clause-planned
commit_plans-requires-clause-planned g c =
    let k = c.requires.kept in
    let o = g.H.Host.outside c.args.host.now in
    let u : ℕ = g.P.PageBook.place c.args.book.now in
    let n = g.P.PageBook.numbers c.args.book.now in
    let texts = texts_of k.are.live (held c.args.objects.now) k.are.is_table in
    let way = subst (λ (b : Change). IsUnderWay c.args.objects.now b k.are.live texts.0) (sym c.new-batch.ensures) (start-way g.H.Host.told c.args.objects.now n u o k texts.0 texts.1) in
    let made = c.in_ok-plan_objects.ensures.way k.are.live texts.0 way in
    (texts.0, made.0, planned-made g.H.Host.told c.args.objects.now n u o k c.plan_objects.new.objects c.plan_objects.new.batch texts.0 made.0 texts.1 made.1)

pub returns-in_err-bytes : goal.returns-in_err-bytes
returns-in_err-bytes g c =
    let p = g.P.PageBook in
    let o = g.H.Host.outside c.args.host.now in
    let book = c.args.book.now in
    let r : Result (Unit {0}) StoreFault = c.from_residual.result in
    let memory : IsMemory r = c.from_residual.ensures.1 in
    record {
      commits = commits-memory p.place p.numbers p.stands g.H.Host.told c.args.objects.now (next_bytes c.args.next.now c.args.objects.now c.args.gone.now) 0 book o r memory c.requires.stands;
      writes = writes-memory g.H.Host.told (p.place book) c.args.next.now c.args.gone.now c.args.objects.now c.args.objects.now o r memory (λ tells. (g.met.P.PageBook.tells g.H.Host.told book o c.requires.stands tells).1);
    }

pub returns-in_err-plan_objects : goal.returns-in_err-plan_objects
returns-in_err-plan_objects g c =
    let p = g.P.PageBook in
    let o = g.H.Host.outside c.args.host.now in
    let book = c.args.book.now in
    let r : Result (Unit {0}) StoreFault = c.from_residual-in_err-plan_objects.result in
    let memory : IsMemory r = c.from_residual-in_err-plan_objects.ensures.1 in
    record {
      commits = commits-memory p.place p.numbers p.stands g.H.Host.told c.plan_objects.new.objects (next_bytes c.args.next.now c.args.objects.now c.args.gone.now) 0 book o r memory c.requires.stands;
      writes = writes-memory g.H.Host.told (p.place book) c.args.next.now c.args.gone.now c.args.objects.now c.plan_objects.new.objects o r memory (λ tells. (g.met.P.PageBook.tells g.H.Host.told book o c.requires.stands tells).1);
    }

pub returns-in-Ok : goal.returns-in-Ok
returns-in-Ok g c =
    let p = g.P.PageBook in
    let told = g.H.Host.told in
    let o = g.H.Host.outside in
    let n = p.numbers c.args.book.now in
    let was = c.args.objects.now in
    let next = c.args.next.now in
    let gone = c.args.gone.now in
    let directory-is = c.in_ok-bytes.ensures in
    let size : batch_bytes c.plan_objects.new.batch ≡ next_bytes next was gone =
    bytes-planned next was gone (bytes_if c.in_ok-bytes.bytes) c.new-batch.result c.plan_objects.new.batch c.new-batch.ensures directory-is c.in_ok-plan_objects.ensures.pages in
    let leads = leads-on next gone (bytes_if c.in_ok-bytes.bytes) was c.new-batch.result c.plan_objects.new.objects c.plan_objects.new.batch c.new-batch.ensures directory-is c.in_ok-plan_objects.ensures.way in
    record {
      commits = subst (λ (b : ℕ). CommitsObjects p.place p.numbers p.stands told c.commit_plans.new.objects b 0 c.args.book.now c.commit_plans.new.book (o c.args.host.now) (o c.commit_plans.new.host) (Ok tt)) size c.in-Ok.ensures.commits;
      writes = writes-objects told was n (p.place c.args.book.now) (o c.args.host.now) c.requires.kept next gone c.plan_objects.new.objects c.commit_plans.new.objects c.plan_objects.new.batch (o c.commit_plans.new.host) (Ok tt) leads c.plan_objects.ensures.held c.in-Ok.ensures.makes;
    }

pub returns : goal.returns
returns g c =
    let p = g.P.PageBook in
    let told = g.H.Host.told in
    let o = g.H.Host.outside in
    let n = p.numbers c.args.book.now in
    let was = c.args.objects.now in
    let next = c.args.next.now in
    let gone = c.args.gone.now in
    let directory-is = c.in_ok-bytes.ensures in
    let size : batch_bytes c.plan_objects.new.batch ≡ next_bytes next was gone =
    bytes-planned next was gone (bytes_if c.in_ok-bytes.bytes) c.new-batch.result c.plan_objects.new.batch c.new-batch.ensures directory-is c.in_ok-plan_objects.ensures.pages in
    let leads = leads-on next gone (bytes_if c.in_ok-bytes.bytes) was c.new-batch.result c.plan_objects.new.objects c.plan_objects.new.batch c.new-batch.ensures directory-is c.in_ok-plan_objects.ensures.way in
    record {
      commits = subst (λ (b : ℕ). CommitsObjects p.place p.numbers p.stands told c.commit_plans.new.objects b 0 c.args.book.now c.commit_plans.new.book (o c.args.host.now) (o c.commit_plans.new.host) (Err c.in-Err.fault)) size c.in-Err.ensures.commits;
      writes = writes-objects told was n (p.place c.args.book.now) (o c.args.host.now) c.requires.kept next gone c.plan_objects.new.objects c.commit_plans.new.objects c.plan_objects.new.batch (o c.commit_plans.new.host) (Err c.in-Err.fault) leads c.plan_objects.ensures.held c.in-Err.ensures.makes;
    }
