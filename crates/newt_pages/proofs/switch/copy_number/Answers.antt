use Rattle.std.proofs.Common.{nat_eq, length, sym, ◌∙◌, ap}
use Rattle.std.proofs.lemmas.Result.{on_ok_weaker}
use Rattle.std.specs.Map.{lookup}
use Rattle.std.specs.Option.{option_copied}
use Rattle.newt_journal.specs.Draft.{unit_of}
use Rattle.newt_pages.specs.Copies.{copying, place_at}
use Rattle.newt_pagelog.specs.Placed.{Places}
use Rattle.newt_pagelog.proofs.Stepping.{stays-with, writes-ok}
use Rattle.newt_pages.proofs.Copying.{stays-start, copies-one, copies-none, copies-same, at-some, at-none}
use Rattle.newt_pages.proofs.switch.copy_number.Goals as goal

pub returns-in-Some-clause-ok : goal.returns-in-Some-clause-ok
returns-in-Some-clause-ok g c =
    let o = g.H.Host.outside in
    let told = g.H.Host.told in
    let u = unit_of c.args.draft.now in
    let n = c.args.number in
    on_ok_weaker c.copy_page.result (λ copied. copies-same told u _ (place_at n (lookup (nat_eq n) c.args.places.now.entries)) c.args.draft.now c.copy_page.new.draft (o c.args.host.now) (o c.copy_page.new.host)
    (at-some n c.in-Some.place.now (lookup (nat_eq n) c.args.places.now.entries) (sym c.get.ensures.value ∙ ap option_copied c.in-Some.is))
    (copies-one told u n c.in-Some.place.now c.args.draft.now c.copy_page.new.draft (o c.args.host.now) (o c.copy_page.new.host) copied)) c.copy_page.ensures.ok

pub returns-in-None-clause-ok : goal.returns-in-None-clause-ok
returns-in-None-clause-ok g c =
    let o = g.H.Host.outside in
    let told = g.H.Host.told in
    let u = unit_of c.args.draft.now in
    let n = c.args.number in
    copies-same told u _ (place_at n (lookup (nat_eq n) c.args.places.now.entries)) c.args.draft.now c.args.draft.now (o c.args.host.now) (o c.args.host.now)
    (at-none n (lookup (nat_eq n) c.args.places.now.entries) (sym c.get.ensures.value ∙ ap option_copied c.in-None.is)) (copies-none told c.args.draft.now (o c.args.host.now) c.requires.copying.draft_of.stands c.requires.copying.draft_of.steady)

pub returns-in-Some-clause-stays : goal.returns-in-Some-clause-stays
returns-in-Some-clause-stays g c =
    let there = at-some c.args.number c.in-Some.place.now (lookup (nat_eq c.args.number) c.args.places.now.entries) (sym c.get.ensures.value ∙ ap option_copied c.in-Some.is) in
    stays-with _ _ (ap (λ (l : Places). copying (length l)) there) c.copy_page.ensures.stays

pub returns-in-None-clause-stays : goal.returns-in-None-clause-stays
returns-in-None-clause-stays g c =
    let none = at-none c.args.number (lookup (nat_eq c.args.number) c.args.places.now.entries) (sym c.get.ensures.value ∙ ap option_copied c.in-None.is) in
    stays-with _ _ (ap (λ (l : Places). copying (length l)) none)
    (writes-ok (stays-start g.H.Host.told (unit_of c.args.draft.now) (g.H.Host.outside c.args.host.now) c.requires.copying.draft_of.steady))

pub copy_page-requires-clause-lies : goal.copy_page-requires-clause-lies
copy_page-requires-clause-lies g c =
    let is = c.requires.copying.placed c.args.number c.in-Some.place.now (sym c.get.ensures.value ∙ ap option_copied c.in-Some.is) in
    record { low = is.low; high = is.high }
