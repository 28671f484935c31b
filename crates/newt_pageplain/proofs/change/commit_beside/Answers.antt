use Rattle.std.proofs.Common.{◌≡◌, ℕ, ◌≤◌, Bool, Result, length, subst, arith}
use Rattle.std.specs.List.{IsDistinct}
use Rattle.std.specs.Map.{keys_of}
use Rattle.std.specs.FinSet as set
use Rattle.std.proofs.Common.{nat_eq}
use Rattle.newt_host.specs.Moments.{image}
use Rattle.newt_host.specs.Outside.{Outside}
use Rattle.newt_journal.specs.declared.journal.Journal.{Journal}
use Rattle.newt_pagelog.specs.Commits.{Commits, switch_work}
use Rattle.newt_spec_image.specs.Pages.{Change, after, cap}
use Rattle.newt_pagebook.specs.Batch.{IsBatch}
use Rattle.newt_pagebook.specs.Book.{changed_numbers}
use Rattle.newt_pagelog.specs.Kept.{Entries, AreSound, map_of, numbers_in}
use Rattle.newt_pagelog.proofs.Changing.{sound-after, live-after, cap-few, cap-fits}
use Rattle.newt_pagelog.proofs.Committed.{alone-reads}
use Rattle.newt_pagelog.proofs.Committing.{commits, commits-failed}
use Rattle.newt_pageplain.proofs.change.commit_beside.Goals as goal

few-after : (old new : Entries) (batch : Change) (blocks : ℕ) → blocks ≤ 4099 → map_of new ≡ after batch (map_of old) → IsDistinct nat_eq (keys_of new) → set.len (changed_numbers batch (numbers_in old)) ≤ cap blocks → length new ≤ cap blocks
few-after old new batch blocks few is unique low = omega (arith, live-after old new batch is unique, low)

sound-new : (old new : Entries) (batch : Change) (blocks : ℕ) → AreSound old → IsBatch batch → blocks ≤ 4099 → map_of new ≡ after batch (map_of old) → IsDistinct nat_eq (keys_of new) → set.len (changed_numbers batch (numbers_in old)) ≤ cap blocks → AreSound new
sound-new old new batch blocks sound is_batch few is unique low = sound-after old new batch sound is_batch is unique (cap-few blocks (length new) few (few-after old new batch blocks few is unique low))

-- as many pages are written as are live
of-live : {E : Type 0} (told : Bool) (j : Journal) (batch : Change) (written live : ℕ)
    → written ≡ live → (r : Result Journal E) (a b : Outside)
    → Commits told j (switch_work j.blocks written) batch r a b
    → Commits told j (switch_work j.blocks live) batch r a b
of-live told j batch written live is r a b commits =
    subst (λ (n : ℕ). Commits told j (switch_work j.blocks n) batch r a b) is commits

pub replace_all-requires-clause-few : goal.replace_all-requires-clause-few
replace_all-requires-clause-few g c =
    let new = c.apply.new.pages.entries in
    cap-few c.args.journal.blocks (length new) c.args.journal.not_too_many (few-after c.args.pages.now.entries new c.args.batch.now c.args.journal.blocks c.args.journal.not_too_many c.apply.ensures.pages c.apply.ensures.unique c.requires.ready.room.live)

pub replace_all-requires-clause-fits : goal.replace_all-requires-clause-fits
replace_all-requires-clause-fits g c =
    let new = c.apply.new.pages.entries in
    cap-fits c.args.journal.blocks (length new) c.args.journal.enough (few-after c.args.pages.now.entries new c.args.batch.now c.args.journal.blocks c.args.journal.not_too_many c.apply.ensures.pages c.apply.ensures.unique c.requires.ready.room.live)

pub returns-in_err-journal-clause-sound : goal.returns-in_err-journal-clause-sound
returns-in_err-journal-clause-sound g c =
    sound-new c.args.pages.now.entries c.apply.new.pages.entries c.args.batch.now c.args.journal.blocks c.requires.ready.sound c.requires.batch c.args.journal.not_too_many c.apply.ensures.pages c.apply.ensures.unique c.requires.ready.room.live

pub returns-clause-sound : goal.returns-clause-sound
returns-clause-sound g c =
    sound-new c.args.pages.now.entries c.apply.new.pages.entries c.args.batch.now c.args.journal.blocks c.requires.ready.sound c.requires.batch c.args.journal.not_too_many c.apply.ensures.pages c.apply.ensures.unique c.requires.ready.room.live

pub returns-in_err-journal-clause-commits : goal.returns-in_err-journal-clause-commits
returns-in_err-journal-clause-commits g c =
    let o = g.H.Host.outside in
    let told = g.H.Host.told in
    let j = c.args.journal in
    let new = c.apply.new.pages.entries in
    let batch = c.args.batch.now in
    let a = o c.args.host.now in
    let b = o c.replace_all.new.host in
    let sound = sound-new c.args.pages.now.entries new batch j.blocks c.requires.ready.sound c.requires.batch j.not_too_many c.apply.ensures.pages c.apply.ensures.unique c.requires.ready.room.live in
    of-live told j batch _ _ (live-after c.args.pages.now.entries new batch c.apply.ensures.pages c.apply.ensures.unique) _ a b
    (commits-failed told j _ batch _ c.from_residual.result a b c.from_residual.ensures.0
    (commits told j _ batch _ _ a b (λ tells left alone. alone-reads new batch (map_of c.args.pages.now.entries) (image j.unit a.now) left sound c.apply.ensures.pages (c.requires.ready.book.holds tells) alone) c.in_err-journal.ensures))

pub returns-clause-commits : goal.returns-clause-commits
returns-clause-commits g c =
    let o = g.H.Host.outside in
    let told = g.H.Host.told in
    let j = c.args.journal in
    let new = c.apply.new.pages.entries in
    let batch = c.args.batch.now in
    let a = o c.args.host.now in
    let sound = sound-new c.args.pages.now.entries new batch j.blocks c.requires.ready.sound c.requires.batch j.not_too_many c.apply.ensures.pages c.apply.ensures.unique c.requires.ready.room.live in
    of-live told j batch _ _ (live-after c.args.pages.now.entries new batch c.apply.ensures.pages c.apply.ensures.unique) _ a (o c.replace_all.new.host)
    (commits told j _ batch _ _ a (o c.replace_all.new.host) (λ tells left alone. alone-reads new batch (map_of c.args.pages.now.entries) (image j.unit a.now) left sound c.apply.ensures.pages (c.requires.ready.book.holds tells) alone) c.in_ok-journal.ensures)
