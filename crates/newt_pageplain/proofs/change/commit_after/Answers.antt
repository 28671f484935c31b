use Rattle.std.proofs.Common.{IsTrue, Bool, ◌≡◌, ℕ, ◌+◌, ◌*◌, ◌<◌, ◌≤◌, List, length, arith}
use Rattle.std.specs.List.{filter}
use Rattle.newt_host.specs.Moments.{image}
use Rattle.newt_host.specs.Outside.{Outside}
use Rattle.newt_spec_image.specs.Records.{records}
use Rattle.newt_spec_image.specs.Pages.{Change, written_change}
use Rattle.newt_journal.specs.Journal.{appended, room}
use Rattle.newt_journal.specs.declared.journal.Journal.{Journal}
use Rattle.newt_pagebook.specs.Batch.{IsBatch}
use Rattle.newt_pagebook.specs.Book.{ReadsChanged}
use Rattle.newt_pagelog.specs.Commits.{append_work}
use Rattle.newt_pagelog.specs.Kept.{Entries, AreSound, is_kept, needed}
use Rattle.newt_pagelog.proofs.Changing.{sound-after, live-after, few_kept, fewer, cap-few}
use Rattle.newt_pagelog.proofs.Committed.{appended-reads}
use Rattle.newt_pagelog.proofs.Committing.{commits, commits-failed, commits-widen}
use Rattle.newt_pagelog.proofs.Stepping.{NoMore}
use Rattle.newt_pagelog.proofs.Near.{room-few}
use Rattle.newt_pageplain.specs.Plain.{IsHeldBy}
use Rattle.newt_pageplain.proofs.change.commit_after.Goals as goal

-- with a record more the pages are those after the batch
reads : (told : Bool) (j : Journal) (entries : Entries) (batch : Change) (o : Outside) → IsHeldBy told j entries o → AreSound entries → IsBatch batch → 4 + 516 * length batch.puts + 4 * length (filter (is_kept entries) batch.deletes) ≤ room j
    → IsTrue told → (left : List ℕ) → records left ≡ appended (records (image j.unit o.now)) (written_change (needed entries batch)) → ReadsChanged batch (image j.unit o.now) left
reads told j entries batch o book sound is fits tells left added =
    let few : length batch.puts < 65536 = room-few j (length batch.puts) (omega (arith, fits)) in
    let low : length (filter (is_kept entries) batch.deletes) < 65536 = omega (arith, few_kept entries batch is, sound.few) in
    appended-reads entries batch (image j.unit o.now) left is few low (book.holds tells) added

-- deletes of pages that are not there are not written
no-more : (entries : Entries) (batch : Change) → NoMore (append_work (needed entries batch)) (append_work batch)
no-more entries batch = record {
  programs = omega (arith, fewer (is_kept entries) batch.deletes);
  fetches = omega arith;
  erases = omega arith;
  syncs = omega arith;
}

pub append_batch-requires-clause-few_deletes : goal.append_batch-requires-clause-few_deletes
append_batch-requires-clause-few_deletes g c = omega (arith, few_kept c.args.pages.now.entries c.args.batch.now c.requires.batch, c.requires.ready.sound.few)

pub returns-in_err-journal-clause-commits : goal.returns-in_err-journal-clause-commits
returns-in_err-journal-clause-commits g c =
    let o = g.H.Host.outside in
    let told = g.H.Host.told in
    let j = c.args.journal in
    let batch = c.args.batch.now in
    let a = o c.args.host.now in
    let b = o c.append_batch.new.host in
    commits-widen _ _ (no-more c.args.pages.now.entries batch) (commits-failed told j _ batch _ c.from_residual.result a b c.from_residual.ensures.0
    (commits told j _ batch _ _ a b (reads told j c.args.pages.now.entries batch a c.requires.ready.book c.requires.ready.sound c.requires.batch c.requires.fits) c.in_err-journal.ensures.rewrites))

pub returns-clause-commits : goal.returns-clause-commits
returns-clause-commits g c =
    let o = g.H.Host.outside in
    let told = g.H.Host.told in
    let j = c.args.journal in
    let batch = c.args.batch.now in
    let a = o c.args.host.now in
    commits-widen _ _ (no-more c.args.pages.now.entries batch) (commits told j _ batch _ _ a (o c.append_batch.new.host) (reads told j c.args.pages.now.entries batch a c.requires.ready.book c.requires.ready.sound c.requires.batch c.requires.fits) c.in_ok-journal.ensures.rewrites)

pub returns-clause-sound : goal.returns-clause-sound
returns-clause-sound g c =
    let old = c.args.pages.now.entries in
    let new = c.apply.new.pages.entries in
    let batch = c.args.batch.now in
    let few : length new < 65536 = cap-few c.args.journal.blocks (length new) c.args.journal.not_too_many (omega (arith, live-after old new batch c.apply.ensures.pages c.apply.ensures.unique, c.requires.ready.room.live)) in
    sound-after old new batch c.requires.ready.sound c.requires.batch c.apply.ensures.pages c.apply.ensures.unique few
