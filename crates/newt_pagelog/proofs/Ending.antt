-- What a commit has done to the unit of a book.
use Rattle.std.proofs.Common.{IsTrue, ◌≡◌, ℕ, ◌+◌, ◌*◌, max, Bool, List, Result, Ok, Err, IsErr, ◌≤◌, refl, sym, subst, arith}
use Rattle.newt_host.specs.Moments.{image, Leaves}
use Rattle.newt_host.specs.Outside.{Outside, OnlyReads, Spends, StopsAtFault, Touches, Wears}
use Rattle.newt_host.proofs.Outside.{OnlyReads-append, Spends-widen}
use Rattle.newt_spec_image.specs.Pages.{Change}
use Rattle.newt_spec_image.specs.Records.{bank_blocks}
use Rattle.newt_journal.specs.Calls.{Programs, Reads}
use Rattle.newt_pagebook.specs.Book.{IsBeforeOrAfter, IsOpenFor, batch_bytes, switch_bytes}
use Rattle.newt_pagelog.specs.Commits.{AppendsWhereOpen, commit_work}
use Rattle.newt_pagelog.proofs.Placing.{looks-read}
use Rattle.newt_pagelog.proofs.Stepping.{stops-failed}

-- nothing was done, which is no more than so much
pub spent-nothing : (u programs fetches : ℕ) (a : Outside) → Spends u programs fetches a a
spent-nothing u programs fetches a = record { programmed = omega arith; fetched = omega arith }

pub worn-nothing : (u erases syncs : ℕ) (a : Outside) → Wears u erases syncs a a
worn-nothing u erases syncs a = record { erased = omega arith; synced = omega arith }

-- reads of a unit, the later ones under another name of it
pub looks-two : {u v : ℕ} {a b c : Outside} → v ≡ u → OnlyReads u a b → OnlyReads v b c → OnlyReads u a c
looks-two {b = b} {c = c} on first second =
    OnlyReads-append first (subst (λ (w : ℕ). OnlyReads w b c) on second)

-- a count under two names of a unit
pub opened-same : {u v : ℕ} (a b : Outside) → v ≡ u → b.dev_faults v ≡ a.dev_faults v
    → b.dev_faults u ≡ a.dev_faults u
opened-same a b on same = subst (λ (w : ℕ). b.dev_faults w ≡ a.dev_faults w) on same

-- a read that failed is handed on, and so is one that went well
pub reads-failed : {T E T' E' : Type 0} {e : E} {u n : ℕ} {a b : Outside} (r : Result T' E') → IsErr r
    → Reads {T = T} u n (Err e) a b → Reads u n r a b
reads-failed r failed reads = record {
  moment = reads.moment;
  alone = reads.alone;
  costs = reads.costs;
  wears = reads.wears;
  faults = stops-failed r failed reads.faults;
}

pub reads-well : {T E T' E' : Type 0} {x : T} {y : T'} {u n : ℕ} {a b : Outside}
    → Reads {E = E} u n (Ok x) a b → Reads {E = E'} u n (Ok y) a b
reads-well reads = record {
  moment = reads.moment;
  alone = reads.alone;
  costs = reads.costs;
  wears = reads.wears;
  faults = record { later = reads.faults.later; cause = tt; no_fault = reads.faults.no_fault };
}

-- a page was read of a unit, which has another name too
pub record Brought {T E : Type 0} (unit : ℕ) (result : Result T E) (old new : Outside) : Type 0 where
  pub looks : OnlyReads unit old new
  pub costs : Spends unit 0 512 old new
  pub faults : StopsAtFault unit result old new

pub brought-on : {T E : Type 0} {r : Result T E} {a b : Outside} (its unit n : ℕ) → its ≡ unit → n ≤ 512
    → Reads its n r a b → Brought unit r a b
brought-on {r = r} {a = a} {b = b} its unit n on few reads = subst (λ (u : ℕ). Brought u r a b) on (record {
  looks = looks-read reads;
  costs = Spends-widen 0 n 0 512 (omega arith) few reads.costs;
  faults = reads.faults;
})

-- what a commit has done, whatever its answer
pub record Done {T E : Type 0} (told : Bool) (unit : ℕ) (batch : Change) (live : ℕ)
    (result : Result T E) (old new : Outside) : Type 0 where
  pub any_moment : IsTrue told → Leaves unit (IsBeforeOrAfter batch (image unit old.now)) old.now new.now
  pub appends : AppendsWhereOpen told unit batch old new
  pub most : Spends unit (max (batch_bytes batch) (switch_bytes live)) (4 + 512 * live) old new
  pub wears_most : Wears unit (bank_blocks (old.blocks unit) + 6) 14 old new
  pub alone : Touches unit old new
  pub faults : StopsAtFault unit result old new

pub done-at : {T E : Type 0} {told : Bool} {batch : Change} {r : Result T E} {old new : Outside}
    (its unit blocks live : ℕ) → its ≡ unit → old.blocks its ≡ blocks
    → Programs told its (commit_work blocks batch live) (IsBeforeOrAfter batch (image its old.now)) r old new
    → AppendsWhereOpen told its batch old new → Done told unit batch live r old new
done-at {told = told} {batch = batch} {r = r} {old = old} {new = new} its unit blocks live on count writes appends =
    subst (λ (u : ℕ). Done told u batch live r old new) on (record {
      any_moment = writes.any_moment;
      appends = appends;
      most = writes.costs;
      wears_most = subst (λ (n : ℕ). Wears its (bank_blocks n + 6) 14 old new) (sym count) writes.wears;
      alone = writes.alone;
      faults = writes.faults;
    })
