use Rattle.std.proofs.Common.{IsTrue, ◌≡◌, Bool, ℕ, ◌+◌, ◌*◌, ◌<◌, ◌++◌, List, [], ◌∷◌, length, Some, sym, ◌∙◌, ap, subst, arith}
use Rattle.std.specs.List.{All}
use Rattle.std.specs.Option.{is_some, option_map}
use Rattle.std.specs.FinMap as map
use Rattle.std.specs.FinSet as set
use Rattle.newt_host.specs.Moments.{image}
use Rattle.newt_host.specs.Outside.{Outside}
use Rattle.newt_spec_image.specs.Records.{records}
use Rattle.newt_spec_image.specs.Pages.{Pages, Put, Change, with_puts, after, written_change}
use Rattle.newt_journal.specs.declared.journal.Journal.{Journal}
use Rattle.newt_pagebook.specs.Batch.{IsBatch}
use Rattle.newt_pagebook.specs.Book.{Numbers, ReadsChanged, changed_numbers}
use Rattle.newt_pagebook.proofs.Tests.{some_inj}
use Rattle.newt_pagelog.specs.Kept.{Entries, map_of, all_of, numbers_in}
use Rattle.newt_pagelog.specs.Placed.{Places, lifted, page_of, AreNumbered, ArePlaced, HoldsAt}
use Rattle.newt_pagelog.proofs.Counts.{live-is, numbers-after}
use Rattle.newt_pagelog.proofs.Changing.{cap-few}
use Rattle.newt_pagelog.proofs.Committed.{alone-reads}
use Rattle.newt_pagelog.proofs.Committing.{commits, commits-failed}
use Rattle.newt_pagelog.proofs.Near.{end-near}
use Rattle.newt_pagelog.proofs.Placing.{numbered-placed}
use Rattle.newt_pages.specs.Copies.{below}
use Rattle.newt_pages.specs.Disk.{IsPlacedBy, StandAt}
use Rattle.newt_pages.proofs.Tables.{length-lifted, numbers-lifted, small-puts, any_pages, any_stand}
use Rattle.newt_pages.proofs.Moving.{stand-front, stand-after, all-moved}
use Rattle.newt_pages.proofs.Committed.{payloads_of}
use Rattle.newt_pages.proofs.Replaced.{AreLeft, left-of, left-small, whole, whole-after, whole-count, moved-after, sound-whole, stand-alone}
use Rattle.newt_pages.proofs.change.commit_beside.Goals as goal

-- once all pages after the batch are the one record, the pages are those after it
reads : (told : Bool) (j : Journal) (o : Outside) (batch : Change) (is : IsBatch batch) (old left : Places) (numbered : AreNumbered old) (are_left : AreLeft batch old left) (book : IsPlacedBy told j old o) (tells : IsTrue told)
    → length (below 65536 left) + length batch.puts < 65536 → (payloads : List (List ℕ)) → records (image j.unit o.now) ≡ Some payloads → (puts : List Put) → puts ≡ batch.puts
    → (img : List ℕ) → records img ≡ Some (written_change (all_of (lifted (page_of j payloads) (below 65536 left) ++ puts)) ∷ []) → ReadsChanged batch (image j.unit o.now) img
reads told j o batch is old left numbered are_left book tells few payloads read puts puts_are img alone =
    let h = book.holds tells in
    let f = page_of j h.payloads in
    let same : payloads ≡ h.payloads = some_inj payloads h.payloads (sym read ∙ h.read) in
    let entries : Entries = whole batch is old left numbered are_left f in
    alone-reads entries batch (map_of (lifted f old)) (image j.unit o.now) img (sound-whole told j o h.payloads batch is old left numbered are_left book.stands tells h.read book.placed few) (whole-after batch is old left numbered are_left f) h.holds
    (alone ∙ ap (λ (ps : List (List ℕ)). Some (written_change (all_of (lifted (page_of j ps) (below 65536 left) ++ puts)) ∷ [])) same
    ∙ ap (λ (ps : List Put). Some (written_change (all_of (lifted f (below 65536 left) ++ ps)) ∷ [])) puts_are)

pub overflow_sub-left : goal.overflow_sub-left
overflow_sub-left g c =
    let batch = c.args.batch.now in
    let old = c.args.places.now.entries in
    let left = c.remove_numbers.new.places.entries in
    let is = c.requires.batch in
    let numbered = c.requires.ready.numbered in
    let are_left : AreLeft batch old left = left-of batch c.puts.result.now c.deletes.result.now old c.remove_puts.new.places.entries left c.puts.ensures.puts c.deletes.ensures.deletes c.remove_puts.ensures.updates c.remove_numbers.ensures.updates in
    let count = whole-count batch is old left numbered are_left in
    omega (arith, count, c.requires.live, ap (λ (l : List Put). length l) c.puts-2.ensures.puts)

pub bound_of-bound-requires : goal.bound_of-bound-requires
bound_of-bound-requires g c =
    let batch = c.args.batch.now in
    let old = c.args.places.now.entries in
    let left = c.remove_numbers.new.places.entries in
    let is = c.requires.batch in
    let numbered = c.requires.ready.numbered in
    let are_left : AreLeft batch old left = left-of batch c.puts.result.now c.deletes.result.now old c.remove_puts.new.places.entries left c.puts.ensures.puts c.deletes.ensures.deletes c.remove_puts.ensures.updates c.remove_numbers.ensures.updates in
    let count = whole-count batch is old left numbered are_left in
    omega (arith, count, c.requires.live, ap (λ (l : List Put). length l) c.puts-2.ensures.puts)

pub replace_all-requires-clause-bound : goal.replace_all-requires-clause-bound
replace_all-requires-clause-bound g c = c.bound_of-bound.ensures

pub move_pages-next-requires-clause-bound : goal.move_pages-next-requires-clause-bound
move_pages-next-requires-clause-bound g c = c.bound_of-bound.ensures

pub replace_all-requires-clause-count : goal.replace_all-requires-clause-count
replace_all-requires-clause-count g c =
    let batch = c.args.batch.now in
    let old = c.args.places.now.entries in
    let left = c.remove_numbers.new.places.entries in
    let is = c.requires.batch in
    let numbered = c.requires.ready.numbered in
    let are_left : AreLeft batch old left = left-of batch c.puts.result.now c.deletes.result.now old c.remove_puts.new.places.entries left c.puts.ensures.puts c.deletes.ensures.deletes c.remove_puts.ensures.updates c.remove_numbers.ensures.updates in
    let count = whole-count batch is old left numbered are_left in
    omega (arith, count, c.requires.live, ap (λ (l : List Put). length l) c.puts-3.ensures.puts)

pub returns-in_err-journal-clause-commits : goal.returns-in_err-journal-clause-commits
returns-in_err-journal-clause-commits g c =
    let batch = c.args.batch.now in
    let old = c.args.places.now.entries in
    let left = c.remove_numbers.new.places.entries in
    let is = c.requires.batch in
    let numbered = c.requires.ready.numbered in
    let are_left : AreLeft batch old left = left-of batch c.puts.result.now c.deletes.result.now old c.remove_puts.new.places.entries left c.puts.ensures.puts c.deletes.ensures.deletes c.remove_puts.ensures.updates c.remove_numbers.ensures.updates in
    let count = whole-count batch is old left numbered are_left in
    let o = g.H.Host.outside in
    let told = g.H.Host.told in
    let j = c.args.journal in
    let few : length (below 65536 left) + length batch.puts < 65536 = cap-few j.blocks (length (below 65536 left) + length batch.puts) j.not_too_many (omega (arith, count, c.requires.ready.room.live)) in
    let a = o c.args.host.now in
    let known = payloads_of told j old a c.requires.ready.book.holds in
    let b = o c.replace_all.new.host in
    commits-failed told j _ batch _ c.from_residual.result a b c.from_residual.ensures.0 (commits told j _ batch _ _ a b (λ tells. reads told j a batch is old left numbered are_left c.requires.ready.book tells few known.0 (known.1 tells) c.puts-3.result.now c.puts-3.ensures.puts) (c.in_err-journal.ensures.rewrites known.0 known.1))

pub returns-clause-commits : goal.returns-clause-commits
returns-clause-commits g c =
    let batch = c.args.batch.now in
    let old = c.args.places.now.entries in
    let left = c.remove_numbers.new.places.entries in
    let is = c.requires.batch in
    let numbered = c.requires.ready.numbered in
    let are_left : AreLeft batch old left = left-of batch c.puts.result.now c.deletes.result.now old c.remove_puts.new.places.entries left c.puts.ensures.puts c.deletes.ensures.deletes c.remove_puts.ensures.updates c.remove_numbers.ensures.updates in
    let count = whole-count batch is old left numbered are_left in
    let o = g.H.Host.outside in
    let told = g.H.Host.told in
    let j = c.args.journal in
    let few : length (below 65536 left) + length batch.puts < 65536 = cap-few j.blocks (length (below 65536 left) + length batch.puts) j.not_too_many (omega (arith, count, c.requires.ready.room.live)) in
    let a = o c.args.host.now in
    let known = payloads_of told j old a c.requires.ready.book.holds in
    commits told j _ batch _ _ a (o c.replace_all.new.host) (λ tells. reads told j a batch is old left numbered are_left c.requires.ready.book tells few known.0 (known.1 tells) c.puts-3.result.now c.puts-3.ensures.puts) (c.in_ok-journal.ensures.rewrites known.0 known.1)

pub move_pages-next-requires-clause-near : goal.move_pages-next-requires-clause-near
move_pages-next-requires-clause-near g c =
    let batch = c.args.batch.now in
    let old = c.args.places.now.entries in
    let left = c.remove_numbers.new.places.entries in
    let is = c.requires.batch in
    let numbered = c.requires.ready.numbered in
    let are_left : AreLeft batch old left = left-of batch c.puts.result.now c.deletes.result.now old c.remove_puts.new.places.entries left c.puts.ensures.puts c.deletes.ensures.deletes c.remove_puts.ensures.updates c.remove_numbers.ensures.updates in
    let count = whole-count batch is old left numbered are_left in
    let o = g.H.Host.outside in
    let told = g.H.Host.told in
    let j = c.args.journal in
    let few : length (below 65536 left) + length batch.puts < 65536 = cap-few j.blocks (length (below 65536 left) + length batch.puts) j.not_too_many (omega (arith, count, c.requires.ready.room.live)) in
    omega (arith, few, c.first.ensures.before_end, end-near c.in_ok-journal.journal)

pub place_puts-requires : goal.place_puts-requires
place_puts-requires g c =
    let batch = c.args.batch.now in
    let old = c.args.places.now.entries in
    let left = c.remove_numbers.new.places.entries in
    let is = c.requires.batch in
    let numbered = c.requires.ready.numbered in
    let are_left : AreLeft batch old left = left-of batch c.puts.result.now c.deletes.result.now old c.remove_puts.new.places.entries left c.puts.ensures.puts c.deletes.ensures.deletes c.remove_puts.ensures.updates c.remove_numbers.ensures.updates in
    let count = whole-count batch is old left numbered are_left in
    let o = g.H.Host.outside in
    let told = g.H.Host.told in
    let j = c.args.journal in
    let few : length (below 65536 left) + length batch.puts < 65536 = cap-few j.blocks (length (below 65536 left) + length batch.puts) j.not_too_many (omega (arith, count, c.requires.ready.room.live)) in
    let size = ap (λ (l : List Put). length l) c.puts-4.ensures.puts in
    record {
      takes = record {
        room = omega (arith, c.requires.ready.room.spare, c.remove_puts.ensures.spare, c.remove_numbers.ensures.spare, c.move_pages-next.ensures.room.spare, size);
        unique = c.move_pages-next.ensures.room.unique;
        near = omega (arith, few, c.first.ensures.before_end, end-near c.in_ok-journal.journal, c.move_pages-next.ensures.next, size);
      };
    }

pub returns-clause-takes : goal.returns-clause-takes
returns-clause-takes g c =
    let batch = c.args.batch.now in
    let old = c.args.places.now.entries in
    let left = c.remove_numbers.new.places.entries in
    let is = c.requires.batch in
    let numbered = c.requires.ready.numbered in
    let are_left : AreLeft batch old left = left-of batch c.puts.result.now c.deletes.result.now old c.remove_puts.new.places.entries left c.puts.ensures.puts c.deletes.ensures.deletes c.remove_puts.ensures.updates c.remove_numbers.ensures.updates in
    let count = whole-count batch is old left numbered are_left in
    let o = g.H.Host.outside in
    let told = g.H.Host.told in
    let j = c.args.journal in
    let few : length (below 65536 left) + length batch.puts < 65536 = cap-few j.blocks (length (below 65536 left) + length batch.puts) j.not_too_many (omega (arith, count, c.requires.ready.room.live)) in
    let a = o c.args.host.now in
    let k : Journal = c.in_ok-journal.journal in
    let known = payloads_of told j old a c.requires.ready.book.holds in
    let stands = (c.in_ok-journal.ensures.rewrites known.0 known.1).stands in
    let first = c.first.result + 13 in
    let moved = c.move_pages-next.new.places.entries in
    let new = c.place_puts.new.places.entries in
    let puts3 : c.puts-4.result.now ≡ batch.puts = c.puts-4.ensures.puts in
    let size : length c.puts-4.result.now ≡ length batch.puts = ap (λ (l : List Put). length l) puts3 in
    let ends = c.in_ok-journal.ensures.places in
    let moved_placed : ArePlaced k moved = λ q at there.
    let less = left-small batch is old left numbered are_left q (sym (c.move_pages-next.ensures.moves.kept q) ∙ ap is_some there) in
    c.move_pages-next.ensures.moves.placed k (omega (arith, c.first.ensures.place)) (omega (arith, c.first.ensures.place, ends, count, c.requires.live)) q at less there in
    let next : c.move_pages-next.result ≡ first + 516 * length (below 65536 left) = c.move_pages-next.ensures.next in
    let moves : (f g : ℕ → List ℕ) → StandAt g first (lifted f (below 65536 left) ++ batch.puts) → map_of (lifted g new) ≡ after batch (map_of (lifted f old)) = λ f g stand.
    let front : StandAt g first (lifted f (below 65536 left)) = stand-front g first (lifted f (below 65536 left)) batch.puts stand in
    let back : StandAt g c.move_pages-next.result c.puts-4.result.now =
    subst (λ (l : List Put). StandAt g c.move_pages-next.result l) (sym puts3)
    (subst (λ (a : ℕ). StandAt g a batch.puts) (ap (λ (m : ℕ). first + 516 * m) (length-lifted f (below 65536 left)) ∙ sym next) (stand-after g first (lifted f (below 65536 left)) batch.puts stand)) in
    moved-after batch is old left numbered are_left f g moved new (all-moved f g left moved (c.move_pages-next.ensures.moves.moved f g front) c.move_pages-next.ensures.moves.kept (left-small batch is old left numbered are_left))
    (λ q. c.place_puts.ensures.pages g back q ∙ ap (λ (l : List Put). map.get (with_puts l (map_of (lifted g moved))) q) puts3) in
    let book : IsPlacedBy told k new (o c.replace_all.new.host) = record {
      stands = stands.0;
      placed = c.place_puts.ensures.placed k moved_placed (subst (λ (l : List Put). All (λ put. put.0 < 65536) l) (sym puts3) (small-puts batch.puts batch.deletes is.small))
          (omega (arith, c.first.ensures.place, c.move_pages-next.ensures.next)) (omega (arith, c.first.ensures.place, c.move_pages-next.ensures.next, ends, count, c.requires.live, size));
      holds = λ tells.
          let h = c.requires.ready.book.holds tells in
          let f = page_of j h.payloads in
          let entries : Entries = whole batch is old left numbered are_left f in
          let sound = sound-whole told j a h.payloads batch is old left numbered are_left c.requires.ready.book.stands tells h.read c.requires.ready.book.placed few in
          let w = c.in_ok-journal.ensures.rewrites h.payloads (λ _. h.read) in
          let read = w.committed tells ∙ ap (λ (ps : List Put). Some (written_change (all_of (lifted f (below 65536 left) ++ ps)) ∷ [])) c.puts-3.ensures.puts in
          let after_batch = reads told j a batch is old left numbered are_left c.requires.ready.book tells few h.payloads h.read c.puts-3.result.now c.puts-3.ensures.puts (image j.unit (o c.replace_all.new.host).now) (w.committed tells) in
          let stand = stand-alone k entries first sound (ap (λ (n : ℕ). n + 13) c.first.ensures.place) in
          subst (λ (u : ℕ). HoldsAt k (image u (o c.replace_all.new.host).now) new) (sym stands.1) (record {
            payloads = written_change (all_of entries) ∷ [];
            read = read;
            holds = after_batch ∙ ap (option_map (after batch)) h.holds ∙ ap (λ (m : Pages). Some m) (sym (moves f (page_of k (written_change (all_of entries) ∷ [])) stand));
          });
    } in
    let numbers : numbers_in new ≡ changed_numbers batch (numbers_in old) =
    let f : ℕ → List ℕ = λ _. [] in
    let page = any_pages first (lifted f (below 65536 left) ++ batch.puts) in
    sym (numbers-lifted page new) ∙ numbers-after (lifted f old) (lifted page new) batch (moves f page (any_stand first (lifted f (below 65536 left) ++ batch.puts))) ∙ ap (λ (s : Numbers). changed_numbers batch s) (numbers-lifted f old) in
    record {
      book = book;
      numbered =
          let size = live-is new c.place_puts.ensures.unique in
          let few : length new < 65536 = cap-few c.args.journal.blocks (length new) c.args.journal.not_too_many (omega (arith, size, ap (λ (s : Numbers). set.len s) numbers, c.requires.ready.room.live)) in
          numbered-placed c.in_ok-journal.journal new c.place_puts.ensures.unique few book.placed;
      numbers = numbers;
    }
