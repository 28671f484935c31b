use Rattle.std.proofs.Common.{IsTrue, ◌≡◌, Bool, ℕ, ◌+◌, ◌*◌, ◌<◌, ◌≤◌, List, length, sym, ◌∙◌, ap, subst, arith, rules}
use Rattle.std.specs.List.{filter}
use Rattle.std.specs.FinSet as set
use Rattle.newt_host.specs.Moments.{image}
use Rattle.newt_host.specs.Outside.{Outside}
use Rattle.newt_spec_image.specs.Records.{records}
use Rattle.newt_spec_image.specs.Pages.{Change, written_change}
use Rattle.newt_journal.specs.Journal.{appended, room}
use Rattle.newt_journal.specs.declared.journal.Journal.{Journal}
use Rattle.newt_pagebook.specs.Batch.{IsBatch}
use Rattle.newt_pagebook.specs.Book.{ReadsChanged}
use Rattle.newt_pagelog.specs.Commits.{append_work}
use Rattle.newt_pagelog.specs.Kept.{is_kept, needed}
use Rattle.newt_pagelog.specs.Placed.{Places, AreNumbered, HoldsAt, lifted, page_of}
use Rattle.newt_pagelog.proofs.Near.{end-near}
use Rattle.newt_pagelog.proofs.Counts.{live-is}
use Rattle.newt_pagelog.proofs.Changing.{few_kept, fewer, cap-few}
use Rattle.newt_pagelog.proofs.Committed.{appended-reads}
use Rattle.newt_pagelog.proofs.Committing.{commits, commits-failed, commits-widen}
use Rattle.newt_pagelog.proofs.Stepping.{NoMore}
use Rattle.newt_pagelog.proofs.Near.{room-few}
use Rattle.newt_pagelog.proofs.Placing.{numbered-placed}
use Rattle.newt_pages.specs.Disk.{IsPlacedBy, StandAt}
use Rattle.newt_pages.proofs.Tables.{needed-lifted}
use Rattle.newt_pages.proofs.Caching.{cached-appended}
use Rattle.newt_pages.proofs.Committed.{holds-appended, placed-wider}
use Rattle.newt_pages.proofs.append.commit_after.Goals as goal

-- with a record more the pages are those after the batch
reads : (told : Bool) (j : Journal) (places : Places) (batch : Change) (o : Outside) → IsPlacedBy told j places o → AreNumbered places → IsBatch batch → 4 + 516 * length batch.puts + 4 * length (filter (is_kept places) batch.deletes) ≤ room j
    → IsTrue told → (left : List ℕ) → records left ≡ appended (records (image j.unit o.now)) (written_change (needed places batch)) → ReadsChanged batch (image j.unit o.now) left
reads told j places batch o book numbered is fits tells left added =
    let img = image j.unit o.now in
    let h = book.holds tells in
    let entries = lifted (page_of j h.payloads) places in
    let same : needed places batch ≡ needed entries batch = sym (needed-lifted (page_of j h.payloads) places batch) in
    let few : length batch.puts < 65536 = room-few j (length batch.puts) (omega (arith, fits)) in
    let low : length (filter (is_kept entries) batch.deletes) < 65536 = omega (arith, few_kept places batch is, numbered.few, ap (λ (ch : Change). length ch.deletes) same) in
    appended-reads entries batch img left is few low h.holds (added ∙ ap (λ (ch : Change). appended (records img) (written_change ch)) same)

-- deletes of pages that are not there are not written
no-more : (places : Places) (batch : Change) → NoMore (append_work (needed places batch)) (append_work batch)
no-more places batch = record {
  programs = omega (arith, fewer (is_kept places) batch.deletes);
  fetches = omega arith;
  erases = omega arith;
  syncs = omega arith;
}

pub returns-in_err-journal-clause-commits : goal.returns-in_err-journal-clause-commits
returns-in_err-journal-clause-commits g c =
    let o = g.H.Host.outside in
    let told = g.H.Host.told in
    let j = c.args.journal in
    let batch = c.args.batch.now in
    let a = o c.args.host.now in
    let b = o c.append_batch.new.host in
    commits-widen _ _ (no-more c.args.places.now.entries batch) (commits-failed told j _ batch _ c.from_residual.result a b c.from_residual.ensures.0
    (commits told j _ batch _ _ a b (reads told j c.args.places.now.entries batch a c.requires.ready.book c.requires.ready.numbered c.requires.batch c.requires.fits) c.in_err-journal.ensures.rewrites))

pub returns-clause-commits : goal.returns-clause-commits
returns-clause-commits g c =
    let o = g.H.Host.outside in
    let told = g.H.Host.told in
    let j = c.args.journal in
    let batch = c.args.batch.now in
    let a = o c.args.host.now in
    commits-widen _ _ (no-more c.args.places.now.entries batch) (commits told j _ batch _ _ a (o c.append_batch.new.host) (reads told j c.args.places.now.entries batch a c.requires.ready.book c.requires.ready.numbered c.requires.batch c.requires.fits) c.in_ok-journal.ensures.rewrites)

pub append_batch-requires-clause-few_deletes : goal.append_batch-requires-clause-few_deletes
append_batch-requires-clause-few_deletes g c = omega (arith, few_kept c.args.places.now.entries c.args.batch.now c.requires.batch, c.requires.ready.numbered.few)

pub returns-clause-caches : goal.returns-clause-caches
returns-clause-caches g c = λ tells.
    let o = g.H.Host.outside in
    let j = c.args.journal in
    let ends = c.in_ok-journal.ensures.places in
    let h = c.requires.ready.book.holds tells in
    cached-appended g.H.Host.told j c.in_ok-journal.journal (o c.args.host.now) (image j.unit (o c.append_batch.new.host).now) (written_change (needed c.args.places.now.entries c.args.batch.now)) c.requires.ready.book.stands tells ends.1 (omega (arith, ends.0))
    (c.in_ok-journal.ensures.rewrites.committed tells) h.payloads h.read

pub returns-clause-takes : goal.returns-clause-takes
returns-clause-takes g c =
    let o = g.H.Host.outside in
    let j = c.args.journal in
    let k : Journal = c.in_ok-journal.journal in
    let batch = c.args.batch.now in
    let old = c.args.places.now.entries in
    let new = c.apply.new.places.entries in
    let ends = c.in_ok-journal.ensures.places in
    let w = c.in_ok-journal.ensures.rewrites in
    let book : IsPlacedBy g.H.Host.told k new (o c.append_batch.new.host) = record {
      stands = w.stands.0;
      placed = c.apply.ensures.placed k (placed-wider j k old ends.1 (omega (arith, ends.0)) c.requires.ready.book.placed) (omega (arith, ends.1, j.low, c.end-first.ensures.place)) (omega (arith, ends.0, c.end-first.ensures.place));
      holds = λ tells.
          let few : length batch.puts < 65536 = room-few j (length batch.puts) (omega (arith, c.requires.fits)) in
          let low : length (filter (is_kept old) batch.deletes) < 65536 = omega (arith, few_kept old batch c.requires.batch, c.requires.ready.numbered.few) in
          subst (λ (u : ℕ). HoldsAt k (image u (o c.append_batch.new.host).now) new) (sym w.stands.1)
          (holds-appended g.H.Host.told j k (o c.args.host.now) (image j.unit (o c.append_batch.new.host).now) old new batch c.requires.ready.book.stands tells c.requires.batch few low
          ends.1 c.requires.ready.book.placed (c.requires.ready.book.holds tells) (w.committed tells)
          (λ page stand. c.apply.ensures.pages page (subst (λ (k : ℕ). StandAt page (k + 13) batch.puts) (sym c.end-first.ensures.place) stand))).0;
    } in
    record {
      book = book;
      numbered =
          let new = c.apply.new.places.entries in
          let size = live-is new c.apply.ensures.unique in
          let few : length new < 65536 = cap-few c.args.journal.blocks (length new) c.args.journal.not_too_many (omega (arith, size, ap (λ s. set.len s) c.apply.ensures.numbers, c.requires.ready.room.live)) in
          numbered-placed c.in_ok-journal.journal new c.apply.ensures.unique few book.placed;
      numbers = c.apply.ensures.numbers;
    }

pub apply-requires : goal.apply-requires
apply-requires g c = record {
  takes = record {
    room = c.requires.ready.room.spare;
    unique = search rules;
    near = omega (arith, room-few c.args.journal (length c.args.batch.now.puts) (omega (arith, c.requires.fits)), end-near c.args.journal, c.end-first.ensures.place);
  };
}
