use Rattle.std.proofs.Common.{ℕ, ◌+◌, ◌*◌, true, List, [], ◌∷◌, Some, length, arith}
use Rattle.newt_spec_image.specs.Pages.{written_change}
use Rattle.newt_journal.specs.Calls.{writing}
use Rattle.newt_journal.specs.Draft.{commit_work}
use Rattle.newt_pagelog.specs.Commits.{switch_work}
use Rattle.newt_pagelog.specs.Kept.{all_of}
use Rattle.newt_pagelog.specs.Steps.{begin_work}
use Rattle.newt_pagelog.proofs.Committing.{stays-begun, written, stopped, stopped-late, finished, finish-writes, rewrites-widen}
use Rattle.newt_pagelog.proofs.Stepping.{both, writes-done, writes-failed, writes-widen}
use Rattle.newt_pageplain.proofs.write.replace_all.Goals as goal

pub returns-in_err-draft : goal.returns-in_err-draft
returns-in_err-draft g c =
    let o = g.H.Host.outside in
    let j = c.args.journal in
    let r = c.from_residual.result in
    let failed = c.from_residual.ensures.0 in
    stopped g.H.Host.told j _ _ r (o c.args.host.now) (o c.begin_alone.new.host) failed
    (writes-widen (begin_work j.blocks) (switch_work j.blocks (length c.args.pages.now.entries))
    (record { programs = omega arith; fetches = omega arith; erases = omega arith; syncs = omega arith })
    (writes-failed r failed c.in_err-draft.ensures.stays))

pub returns-in_err-write_all : goal.returns-in_err-write_all
returns-in_err-write_all g c =
    let o = g.H.Host.outside in
    let told = g.H.Host.told in
    let j = c.args.journal in
    let n = length c.args.pages.now.entries in
    let size = 4 + 516 * n in
    let d = c.in_ok-draft.draft in
    let a = o c.args.host.now in
    let b = o c.begin_alone.new.host in
    let m = o c.write_all.new.host in
    let begins = c.in_ok-draft.ensures.begins in
    let begun = writes-done c.in_ok-draft.ensures.stays in
    let r = c.from_residual-in_err-write_all.result in
    let failed = c.from_residual-in_err-write_all.ensures.0 in
    stopped told j _ _ r a m failed
    (writes-widen (both (begin_work j.blocks) (writing size 0 0)) (switch_work j.blocks n)
    (record { programs = omega arith; fetches = omega arith; erases = omega arith; syncs = omega arith })
    (stays-begun told j _ true d a b m (begin_work j.blocks) (writing size 0 0) begins begun (writes-failed r failed c.in_err-write_all.ensures.keeps)))

pub returns-in_err-journal : goal.returns-in_err-journal
returns-in_err-journal g c =
    let o = g.H.Host.outside in
    let told = g.H.Host.told in
    let j = c.args.journal in
    let n = length c.args.pages.now.entries in
    let size = 4 + 516 * n in
    let d = c.in_ok-draft.draft in
    let a = o c.args.host.now in
    let b = o c.begin_alone.new.host in
    let m = o c.write_all.new.host in
    let begins = c.in_ok-draft.ensures.begins in
    let begun = writes-done c.in_ok-draft.ensures.stays in
    let y = c.write_all.new.draft in
    let payload : List ℕ = written_change (all_of c.args.pages.now.entries) in
    let before = both (begin_work j.blocks) (writing size 0 0) in
    let w = written told j _ true payload d y a b m (begin_work j.blocks) (writing size 0 0) begins begun (writes-done c.in_ok-write_all.ensures.keeps) c.in_ok-write_all.ensures.ok.writes in
    let r = c.from_residual-in_err-journal.result in
    let failed = c.from_residual-in_err-journal.ensures.0 in
    let n' = o c.finish.new.host in
    stopped-late told j _ (Some (payload ∷ [])) r a n' failed
    (writes-widen (both before (commit_work true)) (switch_work j.blocks n)
    (record { programs = omega arith; fetches = omega arith; erases = omega arith; syncs = omega arith })
    (writes-failed r failed (finish-writes told j.unit before true payload y a m n' w c.in_err-journal.ensures.writes)))

pub returns : goal.returns
returns g c =
    let o = g.H.Host.outside in
    let told = g.H.Host.told in
    let j = c.args.journal in
    let n = length c.args.pages.now.entries in
    let size = 4 + 516 * n in
    let d = c.in_ok-draft.draft in
    let a = o c.args.host.now in
    let b = o c.begin_alone.new.host in
    let m = o c.write_all.new.host in
    let begins = c.in_ok-draft.ensures.begins in
    let begun = writes-done c.in_ok-draft.ensures.stays in
    let y = c.write_all.new.draft in
    let payload : List ℕ = written_change (all_of c.args.pages.now.entries) in
    let before = both (begin_work j.blocks) (writing size 0 0) in
    let w = written told j _ true payload d y a b m (begin_work j.blocks) (writing size 0 0) begins begun (writes-done c.in_ok-write_all.ensures.keeps) c.in_ok-write_all.ensures.ok.writes in
    let f = c.in_ok-journal.ensures in
    rewrites-widen (both before (commit_work true)) (switch_work j.blocks n)
    (record { programs = omega arith; fetches = omega arith; erases = omega arith; syncs = omega arith })
    (finished told j before true payload y a m (o c.finish.new.host) w c.in_ok-journal.journal f.finished f.writes)
