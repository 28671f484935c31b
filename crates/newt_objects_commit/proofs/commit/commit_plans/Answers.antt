use Rattle.std.proofs.Common.{Result, Ok, Err}
use Rattle.newt_store_change.specs.declared.fault.StoreFault.{StoreFault}
use Rattle.newt_store_change.specs.declared.fault.StoreFault.TheVariants.{Refused, Stop}
use Rattle.newt_objects_commit.proofs.Calls.{Settles, batch-as, commits-planned, makes-planned}
use Rattle.newt_objects_commit.proofs.commit.commit_plans.Goals as goal

pub returns-in-Ok : goal.returns-in-Ok
returns-in-Ok g c =
    let p = g.P.PageBook in
    let told = g.H.Host.told in
    let book = c.args.book.now in
    let after = c.commit_batch.new.book in
    let old = g.H.Host.outside c.args.host.now in
    let new = g.H.Host.outside c.commit_batch.new.host in
    let r : Result (Unit {0}) StoreFault = Ok tt in
    let settles : Settles c.args.objects.now c.adopt.new.self r = record {
      made = c.adopt.ensures.adopted;
      still = λ refused. absurd refused;
      none = λ goes. c.adopt.ensures.no_plans;
    } in
    let w = c.requires.planned in
    record {
      commits = commits-planned p.place p.numbers p.stands told c.args.batch.now c.args.objects.now c.adopt.new.self book after old new r c.in-Ok.ensures settles w.0 w.1 w.2;
      makes = makes-planned p.place p.numbers p.stands told c.args.batch.now c.args.objects.now c.adopt.new.self book after old new r c.in-Ok.ensures settles
          (λ tells. g.met.H.Host.sized c.args.host.now (p.place book) tells) (λ tells. (g.met.P.PageBook.tells told book old c.requires.stands tells).1);
    }

pub returns-in-Err-Refused : goal.returns-in-Err-Refused
returns-in-Err-Refused g c =
    let p = g.P.PageBook in
    let told = g.H.Host.told in
    let book = c.args.book.now in
    let after = c.commit_batch.new.book in
    let old = g.H.Host.outside c.args.host.now in
    let new = g.H.Host.outside c.commit_batch.new.host in
    let r : Result (Unit {0}) StoreFault = Err (Refused c.in-Err-Refused.refusal) in
    let settles : Settles c.args.objects.now c.forget.new.self r = record {
      made = tt;
      still = λ refused. c.forget.ensures.kept;
      none = λ goes. c.forget.ensures.no_plans;
    } in
    let done = batch-as p.place p.numbers p.stands c.in-Err-Refused.field-0 (Refused c.in-Err-Refused.refusal) c.in-Err-Refused.field-0-is c.in-Err-Refused.ensures in
    let w = c.requires.planned in
    record {
      commits = commits-planned p.place p.numbers p.stands told c.args.batch.now c.args.objects.now c.forget.new.self book after old new r done settles w.0 w.1 w.2;
      makes = makes-planned p.place p.numbers p.stands told c.args.batch.now c.args.objects.now c.forget.new.self book after old new r done settles
          (λ tells. g.met.H.Host.sized c.args.host.now (p.place book) tells) (λ tells. (g.met.P.PageBook.tells told book old c.requires.stands tells).1);
    }

pub returns-in-Err-Stop : goal.returns-in-Err-Stop
returns-in-Err-Stop g c =
    let p = g.P.PageBook in
    let told = g.H.Host.told in
    let book = c.args.book.now in
    let after = c.commit_batch.new.book in
    let old = g.H.Host.outside c.args.host.now in
    let new = g.H.Host.outside c.commit_batch.new.host in
    let r : Result (Unit {0}) StoreFault = Err (Stop c.in-Err-Stop.stop) in
    let settles : Settles c.args.objects.now c.args.objects.now r = record {
      made = tt;
      still = λ refused. absurd refused;
      none = λ goes. absurd goes;
    } in
    let done = batch-as p.place p.numbers p.stands c.in-Err-Stop.field-0 (Stop c.in-Err-Stop.stop) c.in-Err-Stop.field-0-is c.in-Err-Stop.ensures in
    let w = c.requires.planned in
    record {
      commits = commits-planned p.place p.numbers p.stands told c.args.batch.now c.args.objects.now c.args.objects.now book after old new r done settles w.0 w.1 w.2;
      makes = makes-planned p.place p.numbers p.stands told c.args.batch.now c.args.objects.now c.args.objects.now book after old new r done settles
          (λ tells. g.met.H.Host.sized c.args.host.now (p.place book) tells) (λ tells. (g.met.P.PageBook.tells told book old c.requires.stands tells).1);
    }
