use Rattle.std.proofs.Common.{IsTrue, Bool, ◌≡◌, ℕ, true, List, [], ◌∷◌, ◌++◌, Some, sym, ◌∙◌, ap, subst, arith}
use Rattle.newt_host.specs.Moments.{image}
use Rattle.newt_host.specs.Outside.{Outside}
use Rattle.newt_spec_image.specs.Records.{records}
use Rattle.newt_spec_image.specs.Pages.{Put, written_change}
use Rattle.newt_journal.specs.Draft.{commit_work, unit_of}
use Rattle.newt_pagelog.specs.Commits.{switch_work}
use Rattle.newt_journal.specs.declared.draft.Draft.{Draft}
use Rattle.newt_journal.specs.Journal.{Reading}
use Rattle.newt_journal.specs.declared.journal.Journal.{Journal}
use Rattle.newt_pagelog.specs.Kept.{Entries, all_of}
use Rattle.newt_pagelog.specs.Placed.{Places, lifted, page_of, ArePlaced}
use Rattle.newt_pagelog.specs.Steps.{Begins, begin_work}
use Rattle.newt_pagelog.proofs.Committing.{stays-begun, written, stopped, stopped-late, finished, finish-writes, rewrites-same, rewrites-widen}
use Rattle.newt_pagelog.proofs.Stepping.{both, writes-done, writes-failed, writes-widen}
use Rattle.newt_pages.specs.Copies.{CopiesWhole, writing_all}
use Rattle.newt_pages.proofs.switch.replace_all.Goals as goal

-- the record that was written, where the payloads of the records are known
payload_is : (told : Bool) (j : Journal) (len : ℕ) (places : Places) (puts : List Put) (payloads : List (List ℕ)) (x y : Draft) (a b c : Outside) → Begins told j len true x a b
    → (whole : CopiesWhole told (unit_of x) places puts x y b c) → (IsTrue told → records (image j.unit a.now) ≡ Some payloads)
    → IsTrue told → Some (written_change (all_of (whole.pages ++ puts)) ∷ []) ≡ Some (written_change (all_of (lifted (page_of j payloads) places ++ puts)) ∷ [])
payload_is told j len places puts payloads x y a b c begins whole read tells =
    let there : records (image (unit_of x) b.now) ≡ Some payloads = ap (λ (v : ℕ). records (image v b.now)) begins.begun.on ∙ ap (λ (r : Reading). r.1) (begins.begun.same tells) ∙ read tells in
    ap (λ (es : Entries). Some (written_change (all_of (es ++ puts)) ∷ [])) (whole.shows tells payloads there ∙ ap (λ (j : Journal). lifted (page_of j payloads) places) begins.begun.holds)

pub copy_whole-requires-clause-copying : goal.copy_whole-requires-clause-copying
copy_whole-requires-clause-copying g c =
    let begins = c.in_ok-draft.ensures.begins in
    record {
      draft_of = record { stands = begins.begun.draft_of; steady = begins.steady };
      placed = subst (λ (j : Journal). ArePlaced j c.args.places.now.entries) (sym begins.begun.holds) c.requires.placed;
    }

pub returns-in_err-draft-clause-rewrites : goal.returns-in_err-draft-clause-rewrites
returns-in_err-draft-clause-rewrites g c = λ payloads read.
    let o = g.H.Host.outside in
    let j = c.args.journal in
    let r = c.from_residual.result in
    let failed = c.from_residual.ensures.0 in
    stopped g.H.Host.told j _ _ r (o c.args.host.now) (o c.begin_alone.new.host) failed
    (writes-widen (begin_work j.blocks) (switch_work j.blocks c.args.live)
    (record { programs = omega arith; fetches = omega arith; erases = omega arith; syncs = omega arith })
    (writes-failed r failed c.in_err-draft.ensures.stays))

pub returns-in_err-copy_whole-clause-rewrites : goal.returns-in_err-copy_whole-clause-rewrites
returns-in_err-copy_whole-clause-rewrites g c = λ payloads read.
    let o = g.H.Host.outside in
    let told = g.H.Host.told in
    let j = c.args.journal in
    let live = c.args.live in
    let d = c.in_ok-draft.draft in
    let a = o c.args.host.now in
    let b = o c.begin_alone.new.host in
    let m = o c.copy_whole.new.host in
    let begins = c.in_ok-draft.ensures.begins in
    let begun = writes-done c.in_ok-draft.ensures.stays in
    let r = c.from_residual-in_err-copy_whole.result in
    let failed = c.from_residual-in_err-copy_whole.ensures.0 in
    stopped told j _ _ r a m failed
    (writes-widen (both (begin_work j.blocks) (writing_all live)) (switch_work j.blocks live)
    (record { programs = omega arith; fetches = omega arith; erases = omega arith; syncs = omega arith })
    (stays-begun told j _ true d a b m (begin_work j.blocks) (writing_all live) begins begun (writes-failed r failed c.in_err-copy_whole.ensures.stays)))

pub returns-in_err-journal-clause-rewrites : goal.returns-in_err-journal-clause-rewrites
returns-in_err-journal-clause-rewrites g c = λ payloads read.
    let o = g.H.Host.outside in
    let told = g.H.Host.told in
    let j = c.args.journal in
    let live = c.args.live in
    let d = c.in_ok-draft.draft in
    let a = o c.args.host.now in
    let b = o c.begin_alone.new.host in
    let m = o c.copy_whole.new.host in
    let begins = c.in_ok-draft.ensures.begins in
    let begun = writes-done c.in_ok-draft.ensures.stays in
    let y = c.copy_whole.new.draft in
    let whole = c.in_ok-copy_whole.ensures.ok in
    let payload : List ℕ = written_change (all_of (whole.pages ++ c.args.puts.now)) in
    let n = o c.finish.new.host in
    let before = both (begin_work j.blocks) (writing_all live) in
    let w = written told j _ true payload d y a b m (begin_work j.blocks) (writing_all live) begins begun (writes-done c.in_ok-copy_whole.ensures.stays) whole.writes in
    let r = c.from_residual-in_err-journal.result in
    let failed = c.from_residual-in_err-journal.ensures.0 in
    rewrites-same told j _ (Some (payload ∷ [])) _ r a n (payload_is told j _ _ c.args.puts.now payloads d y a b m begins whole read)
    (stopped-late told j _ (Some (payload ∷ [])) r a n failed
    (writes-widen (both before (commit_work true)) (switch_work j.blocks live)
    (record { programs = omega arith; fetches = omega arith; erases = omega arith; syncs = omega arith })
    (writes-failed r failed (finish-writes told j.unit before true payload y a m n w c.in_err-journal.ensures.writes))))

pub returns-clause-rewrites : goal.returns-clause-rewrites
returns-clause-rewrites g c = λ payloads read.
    let o = g.H.Host.outside in
    let told = g.H.Host.told in
    let j = c.args.journal in
    let live = c.args.live in
    let d = c.in_ok-draft.draft in
    let a = o c.args.host.now in
    let b = o c.begin_alone.new.host in
    let m = o c.copy_whole.new.host in
    let begins = c.in_ok-draft.ensures.begins in
    let begun = writes-done c.in_ok-draft.ensures.stays in
    let y = c.copy_whole.new.draft in
    let whole = c.in_ok-copy_whole.ensures.ok in
    let payload : List ℕ = written_change (all_of (whole.pages ++ c.args.puts.now)) in
    let n = o c.finish.new.host in
    let before = both (begin_work j.blocks) (writing_all live) in
    let w = written told j _ true payload d y a b m (begin_work j.blocks) (writing_all live) begins begun (writes-done c.in_ok-copy_whole.ensures.stays) whole.writes in
    let f = c.in_ok-journal.ensures in
    rewrites-same told j _ (Some (payload ∷ [])) _ _ a n (payload_is told j _ _ c.args.puts.now payloads d y a b m begins whole read)
    (rewrites-widen (both before (commit_work true)) (switch_work j.blocks live)
    (record { programs = omega arith; fetches = omega arith; erases = omega arith; syncs = omega arith })
    (finished told j before true payload y a m n w c.in_ok-journal.journal f.finished f.writes))
