use Rattle.std.proofs.Common.{ℕ, IsTrue, Result, Err, refl, sym, ◌∙◌, subst}
use Rattle.newt_host.specs.Moments.{image, Leaves}
use Rattle.newt_pagebook.specs.Calls.{Commits}
use Rattle.newt_pagebook.specs.declared.book.CommitFault.{CommitFault}
use Rattle.newt_objects_commit.specs.Calls.{IsEitherSide}
use Rattle.newt_objects_commit.proofs.Writing.{batch_ended, batch_done, batch_full, batch_failed, batch-at, leaves-sized}
use Rattle.newt_objects_commit.proofs.write.commit_batch.Goals as goal

pub returns-in_default : goal.returns-in_default
returns-in_default g c =
    let p = g.P.PageBook in
    let o = g.H.Host.outside c.args.host.now in
    batch_ended p.place p.numbers p.shown p.spare p.stands g.H.Host.told c.args.batch.now c.puts.ensures.sound _ (p.place c.args.book.now) (p.numbers c.args.book.now) c.args.book.now o refl refl
    (λ tells. (g.met.P.PageBook.tells g.H.Host.told c.args.book.now o c.requires tells).1)

pub returns-in_err-reserve : goal.returns-in_err-reserve
returns-in_err-reserve g c =
    let p = g.P.PageBook in
    let o = g.H.Host.outside c.args.host.now in
    batch_ended p.place p.numbers p.shown p.spare p.stands g.H.Host.told c.args.batch.now c.puts.ensures.sound c.from_residual.result (p.place c.args.book.now) (p.numbers c.args.book.now) c.reserve.new.self o
    c.from_residual.ensures.1 c.reserve.ensures.same.0 (λ tells. (g.met.P.PageBook.tells g.H.Host.told c.args.book.now o c.requires tells).1)

pub returns-in-Ok-commit : goal.returns-in-Ok-commit
returns-in-Ok-commit g c =
    let p = g.P.PageBook in
    let h = g.met.H.Host in
    let told = g.H.Host.told in
    let old = g.H.Host.outside c.args.host.now in
    let new = g.H.Host.outside c.commit.new.host in
    let batch = c.args.batch.now in
    let mid = c.reserve.new.self in
    let unit : ℕ = p.place mid in
    let leaves : IsTrue told → Leaves unit (IsEitherSide batch (image unit old.now)) old.now new.now =
    λ tells. leaves-sized unit old new batch (g.met.P.PageBook.has_banks told mid old (c.reserve.ensures.book told old c.requires)).0 (h.none c.args.host.now unit) (h.sized c.args.host.now unit tells)
    (h.history c.args.host.now unit tells) (h.history c.commit.new.host unit tells) c.commit.ensures.alone (c.commit.ensures.any_moment tells) in
    batch-at p.place p.numbers p.stands _ c.reserve.ensures.same.0 c.reserve.ensures.same.1
    (batch_done p.place p.numbers p.shown p.spare p.stands told batch c.puts.ensures.sound leaves c.in-Ok-commit.ensures)

pub returns-in-Err-Full : goal.returns-in-Err-Full
returns-in-Err-Full g c =
    let p = g.P.PageBook in
    let h = g.met.H.Host in
    let told = g.H.Host.told in
    let old = g.H.Host.outside c.args.host.now in
    let new = g.H.Host.outside c.commit.new.host in
    let batch = c.args.batch.now in
    let mid = c.reserve.new.self in
    let unit : ℕ = p.place mid in
    let leaves : IsTrue told → Leaves unit (IsEitherSide batch (image unit old.now)) old.now new.now =
    λ tells. leaves-sized unit old new batch (g.met.P.PageBook.has_banks told mid old (c.reserve.ensures.book told old c.requires)).0 (h.none c.args.host.now unit) (h.sized c.args.host.now unit tells)
    (h.history c.args.host.now unit tells) (h.history c.commit.new.host unit tells) c.commit.ensures.alone (c.commit.ensures.any_moment tells) in
    batch-at p.place p.numbers p.stands _ c.reserve.ensures.same.0 c.reserve.ensures.same.1
    (batch_full p.place p.numbers p.shown p.spare p.stands told batch c.puts.ensures.sound leaves
    (subst (λ (f : CommitFault). Commits p.place p.numbers p.shown p.spare p.stands told batch mid c.commit.new.self old new (let r : Result (Unit {0}) CommitFault = Err f in r)) c.in-Err-Full.field-0-is c.in-Err-Full.ensures))

pub returns-in-Err-Device : goal.returns-in-Err-Device
returns-in-Err-Device g c =
    let p = g.P.PageBook in
    let h = g.met.H.Host in
    let told = g.H.Host.told in
    let old = g.H.Host.outside c.args.host.now in
    let new = g.H.Host.outside c.commit.new.host in
    let batch = c.args.batch.now in
    let mid = c.reserve.new.self in
    let unit : ℕ = p.place mid in
    let leaves : IsTrue told → Leaves unit (IsEitherSide batch (image unit old.now)) old.now new.now =
    λ tells. leaves-sized unit old new batch (g.met.P.PageBook.has_banks told mid old (c.reserve.ensures.book told old c.requires)).0 (h.none c.args.host.now unit) (h.sized c.args.host.now unit tells)
    (h.history c.args.host.now unit tells) (h.history c.commit.new.host unit tells) c.commit.ensures.alone (c.commit.ensures.any_moment tells) in
    batch-at p.place p.numbers p.stands _ c.reserve.ensures.same.0 c.reserve.ensures.same.1
    (batch_failed p.place p.numbers p.shown p.spare p.stands told batch c.puts.ensures.sound leaves c.unit-unit.result (c.unit-unit.ensures ∙ sym c.reserve.ensures.same.0)
    (subst (λ (f : CommitFault). Commits p.place p.numbers p.shown p.spare p.stands told batch mid c.commit.new.self old new (let r : Result (Unit {0}) CommitFault = Err f in r)) c.in-Err-Device.field-0-is c.in-Err-Device.ensures))
