use Rattle.std.proofs.Common.{◌≡◌, ℕ, ◌+◌, ◌*◌, false, List, length, ◌∙◌, ap, arith}
use Rattle.std.specs.List.{filter}
use Rattle.newt_spec_image.specs.Pages.{written_change}
use Rattle.newt_journal.specs.Calls.{writing}
use Rattle.newt_journal.specs.Draft.{commit_work, journal_of, place_of}
use Rattle.newt_journal.specs.Places.{first_place}
use Rattle.newt_journal.specs.declared.journal.Journal.{Journal}
use Rattle.newt_pagelog.specs.Commits.{append_work}
use Rattle.newt_pagelog.specs.Kept.{is_kept, needed, payload_bytes}
use Rattle.newt_pagelog.proofs.Committing.{append-place, begun, stays-begun, written, stopped, stopped-late, finished, finish-writes, rewrites-widen}
use Rattle.newt_pagelog.proofs.Failing.{no-value}
use Rattle.newt_pagelog.proofs.Stepping.{both, writes-done, writes-failed, writes-widen}
use Rattle.newt_pagelog.proofs.write.append_batch.Goals as goal

pub returns-in_err-draft : goal.returns-in_err-draft
returns-in_err-draft g c =
    let o = g.H.Host.outside in
    let j = c.args.journal in
    let r = c.from_residual.result in
    let failed = c.from_residual.ensures.0 in
    let a = o c.args.host.now in
    let b = o c.append.new.host in
    record {
      rewrites = stopped g.H.Host.told j _ _ r a b failed (writes-widen (writing 4 0 0) (append_work (needed c.args.pages.now.entries c.args.batch.now))
          (record { programs = omega arith; fetches = omega arith; erases = omega arith; syncs = omega arith })
          (writes-failed r failed c.in_err-draft.ensures.writes));
      places = no-value r _ failed;
    }

pub returns-in_err-write_batch : goal.returns-in_err-write_batch
returns-in_err-write_batch g c =
    let o = g.H.Host.outside in
    let told = g.H.Host.told in
    let j = c.args.journal in
    let change = needed c.args.pages.now.entries c.args.batch.now in
    let size = payload_bytes change in
    let payload : List ℕ = written_change change in
    let d = c.in_ok-draft.draft in
    let e = c.in_ok-draft.ensures in
    let a = o c.args.host.now in
    let b = o c.append.new.host in
    let m = o c.write_batch.new.host in
    let appended = writes-done e.writes in
    let begins = begun e.begun e.writes.any_moment in
    let r = c.from_residual-in_err-write_batch.result in
    let failed = c.from_residual-in_err-write_batch.ensures.0 in
    record {
      rewrites = stopped told j _ _ r a m failed (writes-widen (both (writing 4 0 0) (writing size 0 0)) (append_work change)
          (record { programs = omega arith; fetches = omega arith; erases = omega arith; syncs = omega arith })
          (stays-begun told j _ false d a b m (writing 4 0 0) (writing size 0 0) begins appended (writes-failed r failed c.in_err-write_batch.ensures.keeps)));
      places = no-value r _ failed;
    }

pub returns-in_err-journal : goal.returns-in_err-journal
returns-in_err-journal g c =
    let o = g.H.Host.outside in
    let told = g.H.Host.told in
    let j = c.args.journal in
    let change = needed c.args.pages.now.entries c.args.batch.now in
    let size = payload_bytes change in
    let payload : List ℕ = written_change change in
    let d = c.in_ok-draft.draft in
    let e = c.in_ok-draft.ensures in
    let a = o c.args.host.now in
    let b = o c.append.new.host in
    let m = o c.write_batch.new.host in
    let appended = writes-done e.writes in
    let begins = begun e.begun e.writes.any_moment in
    let y = c.write_batch.new.draft in
    let n = o c.finish.new.host in
    let before = both (writing 4 0 0) (writing size 0 0) in
    let w = written told j _ false payload d y a b m (writing 4 0 0) (writing size 0 0) begins appended (writes-done c.in_ok-write_batch.ensures.keeps) c.in_ok-write_batch.ensures.ok.writes in
    let r = c.from_residual-in_err-journal.result in
    let failed = c.from_residual-in_err-journal.ensures.0 in
    record {
      rewrites = stopped-late told j _ _ r a n failed (writes-widen (both before (commit_work false)) (append_work change)
          (record { programs = omega arith; fetches = omega arith; erases = omega arith; syncs = omega arith })
          (writes-failed r failed (finish-writes told j.unit before false payload y a m n w c.in_err-journal.ensures.writes)));
      places = no-value r _ failed;
    }

pub returns : goal.returns
returns g c =
    let o = g.H.Host.outside in
    let told = g.H.Host.told in
    let j = c.args.journal in
    let change = needed c.args.pages.now.entries c.args.batch.now in
    let size = payload_bytes change in
    let payload : List ℕ = written_change change in
    let d = c.in_ok-draft.draft in
    let e = c.in_ok-draft.ensures in
    let a = o c.args.host.now in
    let b = o c.append.new.host in
    let m = o c.write_batch.new.host in
    let appended = writes-done e.writes in
    let begins = begun e.begun e.writes.any_moment in
    let y = c.write_batch.new.draft in
    let n = o c.finish.new.host in
    let before = both (writing 4 0 0) (writing size 0 0) in
    let w = written told j _ false payload d y a b m (writing 4 0 0) (writing size 0 0) begins appended (writes-done c.in_ok-write_batch.ensures.keeps) c.in_ok-write_batch.ensures.ok.writes in
    let f = c.in_ok-journal.ensures in
    record {
      rewrites = rewrites-widen (both before (commit_work false)) (append_work change)
          (record { programs = omega arith; fetches = omega arith; erases = omega arith; syncs = omega arith })
          (finished told j before false payload y a m n w c.in_ok-journal.journal f.finished f.writes);
      places =
          let y_places = append-place y w.kind_is in
          let its : journal_of y ≡ j = c.in_ok-write_batch.ensures.ok.writes.holds ∙ e.begun.holds in
          let from : place_of y ≡ j.end + 5 = y_places.0 ∙ ap (λ (j : Journal). j.end + 5) its in
          let gone = length (filter (is_kept c.args.pages.now.entries) c.args.batch.now.deletes) in (
            (let is : c.in_ok-journal.journal.end ≡ j.end + (9 + 516 * length c.args.batch.now.puts + 4 * gone) = omega (
              arith,
              f.finished.end,
              from,
              c.in_ok-write_batch.ensures.ok.writes.len,
              e.begun.len_is,
              ap (λ (l : List (ℕ × List ℕ)). length l) c.puts.ensures.puts,
              c.kept_of-deletes.ensures,
              ap (λ (l : List ℕ). length (filter (is_kept c.args.pages.now.entries) l)) c.deletes.ensures.deletes,
            ) in is),
            f.finished.first ∙ y_places.1 ∙ ap first_place its,
          );
    }

pub finish-requires-clause-whole : goal.finish-requires-clause-whole
finish-requires-clause-whole g c =
    let dr = c.in_ok-draft.ensures.begun in
    omega (
      arith,
      c.in_ok-write_batch.ensures.ok.put,
      c.in_ok-write_batch.ensures.ok.writes.len,
      dr.len_is,
      dr.put,
      ap (λ (l : List (ℕ × List ℕ)). length l) c.puts.ensures.puts,
      c.kept_of-deletes.ensures,
      ap (λ (l : List ℕ). length (filter (is_kept c.args.pages.now.entries) l)) c.deletes.ensures.deletes,
    )
