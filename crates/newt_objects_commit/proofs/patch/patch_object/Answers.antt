use Rattle.std.proofs.Common.{◌≡◌, ◌+◌, ◌<◌, ◌≤◌, ◌*◌, ℕ, IsTrue, length, List, Option, Some, IfSome, IsErrOf, Result, Ok, Err, sym, ◌∙◌, ap, subst, arith}
use Rattle.newt_host.specs.Moments.{image}
use Rattle.newt_host.specs.Outside.{Spends}
use Rattle.newt_host.proofs.Outside.{Spends-refl}
use Rattle.newt_spec_image.specs.Pages.{Change, Pages, pages}
use Rattle.newt_spec_image.specs.Objects.{Extent}
use Rattle.newt_pagebook.specs.Batch.{no_change}
use Rattle.newt_pagebook.specs.Book.{batch_bytes, changed_numbers}
use Rattle.newt_pagebook.specs.declared.book.Stop.TheVariants as stops
use Rattle.newt_objects.specs.Held.{held}
use Rattle.newt_vbo.specs.Calls.{BlamesNone}
use Rattle.newt_vbo.specs.Patches.{WouldPatch}
use Rattle.newt_vbo.specs.Ranges.{parts_met}
use Rattle.newt_vbo.specs.declared.fault.RangeFault.{RangeFault}
use Rattle.newt_vbo.specs.declared.fault.RangeFault.TheVariants.{Range, Memory, Device}
use Rattle.newt_spec_store.specs.Cost.{patch_bytes}
use Rattle.newt_base.specs.declared.Refusal.TheVariants.{Range as RangeRefusal}
use Rattle.newt_store_change.specs.declared.fault.StoreFault.TheVariants.{Refused, Stop}
use Rattle.newt_objects_commit.proofs.Exits.{few-bytes}
use Rattle.newt_objects_commit.proofs.Overwriting.{commits-looked, commits-patched, overwrites-done, overwrites-ended, overwrites-not, would-hold}
use Rattle.newt_objects_commit.proofs.Writing.{batch-at}
use Rattle.newt_objects_commit.proofs.patch.patch_object.Goals as goal

the-fault : {r : Result (Unit {0}) RangeFault} {fault : RangeFault} (f : RangeFault) → r ≡ Err fault → fault ≡ f → r ≡ Err f
the-fault f is same = is ∙ ap (λ (f : RangeFault). let r : Result (Unit {0}) RangeFault = Err f in r) same

-- where no error is due, the range is inside
inside : (Error : Type 0) (o : Option Extent) (n : ℕ) → IfSome o (λ x. x.length < n → Error) → (Error → ⊥) → (x : Extent) → o ≡ Some x → n ≤ x.length
inside Error o n past none x at = not-less n x.length (λ less. none (subst (λ (o : Option Extent). IfSome o (λ x. x.length < n → Error)) at past less)) where
  not-less : (a b : ℕ) → (b < a → ⊥) → a ≤ b
  not-less a b none = omega (arith, none)

no-error : {v : Unit {0}} {f : RangeFault} → IsErrOf (Ok v) f → ⊥
no-error is = absurd (cc)

no-memory : {r : Result (Unit {0}) RangeFault} → r ≡ Err Memory → IsErrOf r Range → ⊥
no-memory is range = absurd (cc)

no-device : {r : Result (Unit {0}) RangeFault} → r ≡ Err Device → IsErrOf r Range → ⊥
no-device is range = absurd (cc)

pub returns-in-Ok : goal.returns-in-Ok
returns-in-Ok g c =
    let p = g.P.PageBook in
    let told = g.H.Host.told in
    let book = c.args.book.now in
    let mid = c.plan_patch.new.book in
    let new = c.commit_batch.new.book in
    let before = g.H.Host.outside c.args.host.now in
    let between = g.H.Host.outside c.plan_patch.new.host in
    let after = g.H.Host.outside c.commit_batch.new.host in
    let objects = c.args.objects.now in
    let bytes : List ℕ = c.args.bytes.now in
    let count : ℕ = length bytes in
    let batch : Change = c.plan_patch.new.batch in
    let e = c.in-Ok.ensures in
    let low : batch_bytes batch ≤ patch_bytes count = few-bytes batch c.new-batch.result count c.new-batch.ensures e.plans.puts.few e.plans.puts.deletes in
    let same : changed_numbers batch (p.numbers book) ≡ p.numbers book = e.plans.puts.same_numbers ∙ ap (λ (first : Change). changed_numbers first (p.numbers book)) c.new-batch.ensures in
    let within : (x : Extent) → held objects c.args.id ≡ Some x → c.args.at + count ≤ x.length = inside _ (held objects c.args.id) (c.args.at + count) e.reads.past (λ is. no-error is) in
    let patch : IsTrue told → (live : Pages) → pages (image (p.place book) before.now) ≡ Some live → WouldPatch objects c.args.id c.args.at bytes no_change batch live =
    λ tells live is. subst (λ (first : Change). WouldPatch objects c.args.id c.args.at bytes first batch live) c.new-batch.ensures (e.plans.patched tells live is) in
    let done = batch-at p.place p.numbers p.stands c.commit_batch.result e.reads.book.same_place e.reads.book.same_numbers c.commit_batch.ensures in
    record {
      commits = commits-patched p.place p.numbers p.spare p.stands told objects book mid before between c.requires.kept e.reads.book batch new after c.commit_batch.result done
          (patch_bytes count) (512 * parts_met c.args.at count) (e.reads.no_fault tt) e.reads.costs low same
          (would-hold p.place p.numbers p.spare p.stands told objects book mid before between c.requires.kept e.reads.book c.args.id c.args.at bytes c.requires.there within batch patch);
      overwrites = overwrites-done p.place p.numbers p.spare p.stands told objects book mid before between c.requires.kept e.reads.book c.args.id c.args.at bytes c.requires.there within batch patch
          new after c.commit_batch.result same done;
    }

pub returns-in-Err-Range : goal.returns-in-Err-Range
returns-in-Err-Range g c =
    let p = g.P.PageBook in
    let told = g.H.Host.told in
    let book = c.args.book.now in
    let mid = c.plan_patch.new.book in
    let before = g.H.Host.outside c.args.host.now in
    let between = g.H.Host.outside c.plan_patch.new.host in
    let objects = c.args.objects.now in
    let bytes : List ℕ = c.args.bytes.now in
    let reads = c.plan_patch.ensures.reads in
    let is : c.plan_patch.result ≡ Err Range = the-fault Range c.in-Err-Range.is c.in-Err-Range.field-0-is in
    let nothing : Spends (p.place book) 0 0 before between = subst (λ (h : g.row.H.Denot). Spends (p.place book) 0 0 before (g.H.Host.outside h)) (sym (c.plan_patch.ensures.unchanged is).1) (Spends-refl (p.place book) before) in
    record {
      commits = commits-looked p.place p.numbers p.spare p.stands told objects book mid before between c.requires.kept reads.book (patch_bytes (length bytes)) (512 * parts_met c.args.at (length bytes)) (Err (Refused RangeRefusal)) tt reads.costs
          (λ goes. reads.no_fault (subst (λ (r : Result (Unit {0}) RangeFault). BlamesNone r) (sym is) tt)) tt;
      overwrites = overwrites-not p.place p.numbers p.spare p.stands told objects book mid before between c.requires.kept reads.book c.args.id c.args.at bytes c.requires.there
          (λ tells. (g.met.P.PageBook.tells told book before c.requires.stands tells).1) (reads.range is) nothing;
    }

pub returns-in-Err-Memory : goal.returns-in-Err-Memory
returns-in-Err-Memory g c =
    let p = g.P.PageBook in
    let told = g.H.Host.told in
    let book = c.args.book.now in
    let mid = c.plan_patch.new.book in
    let before = g.H.Host.outside c.args.host.now in
    let between = g.H.Host.outside c.plan_patch.new.host in
    let objects = c.args.objects.now in
    let bytes : List ℕ = c.args.bytes.now in
    let reads = c.plan_patch.ensures.reads in
    let is : c.plan_patch.result ≡ Err Memory = the-fault Memory c.in-Err-Memory.is c.in-Err-Memory.field-0-is in
    record {
      commits = commits-looked p.place p.numbers p.spare p.stands told objects book mid before between c.requires.kept reads.book (patch_bytes (length bytes)) (512 * parts_met c.args.at (length bytes)) (Err (Stop stops.Memory)) tt reads.costs
          (λ goes. absurd goes) (reads.no_fault (subst (λ (r : Result (Unit {0}) RangeFault). BlamesNone r) (sym is) tt));
      overwrites = overwrites-ended p.place p.numbers p.spare p.stands told objects book mid before between c.requires.kept reads.book c.args.id c.args.at bytes c.requires.there
          (inside _ (held objects c.args.id) (c.args.at + length bytes) reads.past (λ range. no-memory is range)) (λ tells. (g.met.P.PageBook.tells told book before c.requires.stands tells).1) stops.Memory;
    }

pub returns : goal.returns
returns g c =
    let p = g.P.PageBook in
    let told = g.H.Host.told in
    let book = c.args.book.now in
    let mid = c.plan_patch.new.book in
    let before = g.H.Host.outside c.args.host.now in
    let between = g.H.Host.outside c.plan_patch.new.host in
    let objects = c.args.objects.now in
    let bytes : List ℕ = c.args.bytes.now in
    let reads = c.plan_patch.ensures.reads in
    let is : c.plan_patch.result ≡ Err Device = the-fault Device c.in-Err-Device.is c.in-Err-Device.field-0-is in
    record {
      commits = commits-looked p.place p.numbers p.spare p.stands told objects book mid before between c.requires.kept reads.book (patch_bytes (length bytes)) (512 * parts_met c.args.at (length bytes)) (Err (Stop (stops.Device c.unit-unit.result))) tt reads.costs
          (λ goes. absurd goes) (c.unit-unit.ensures, reads.cause is);
      overwrites = overwrites-ended p.place p.numbers p.spare p.stands told objects book mid before between c.requires.kept reads.book c.args.id c.args.at bytes c.requires.there
          (inside _ (held objects c.args.id) (c.args.at + length bytes) reads.past (λ range. no-device is range)) (λ tells. (g.met.P.PageBook.tells told book before c.requires.stands tells).1) (stops.Device c.unit-unit.result);
    }
