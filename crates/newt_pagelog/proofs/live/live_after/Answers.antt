use Rattle.std.proofs.Common.{◌≡◌, ℕ, ◌+◌, ◌-◌, ◌<◌, Bool, true, cond, List, length, take, get_or, sym, ◌∙◌, ap, arith}
use Rattle.std.specs.FinSet as set
use Rattle.std.proofs.lemmas.List.{take_all}
use Rattle.newt_pagebook.specs.Book.{Numbers, with_put_numbers, without_deleted}
use Rattle.newt_pagelog.specs.Kept.{numbers_in, kept_number, is_kept}
use Rattle.newt_pagelog.proofs.Maps.{no_put}
use Rattle.newt_pagelog.proofs.Counts.{len-put, len-delete, some-left, live-is}
use Rattle.newt_pagelog.proofs.live.live_after.Goals as goal
use Rattle.newt_pagelog.proofs.live.live_after.Goals.{then-not-contains_key, else-not-contains_key, then-contains_key, else-contains_key}

pub loop-put-init : goal.loop-put-init
loop-put-init g c = record {
  few = omega (arith, c.len-live.ensures.len);
  is = c.len-live.ensures.len ∙ sym (live-is c.args.pages.now.entries c.requires);
}

pub loop-put-preserved : goal.loop-put-preserved
loop-put-preserved g c =
    let i = c.loop-put.put-index in
    let inv = c.loop-put.invariant in
    let numbers : Numbers = numbers_in c.args.pages.now.entries in
    let batch = c.args.batch.now in
    let is = c.puts-put-items.ensures.puts in
    let n : ℕ = (get_or batch.puts i no_put).0 in
    let low : i < length batch.puts = omega (arith, c.loop-put-test.true, ap (λ (l : List (ℕ × List ℕ)). length l) is) in
    let there : c.contains_key.result ≡ set.contains numbers n = c.contains_key.ensures ∙ ap (λ (l : List (ℕ × List ℕ)). is_kept c.args.pages.now.entries (get_or l i no_put).0) is ∙ sym (kept_number c.args.pages.now.entries n) in
    let more = len-put batch c.puts-put-items.ensures.sound.distinct numbers i low in
    let before : ℕ = set.len (with_put_numbers (take i batch.puts) numbers) in
    elim c.if-not-contains_key.branch [
      | then-not-contains_key w ↦
          let step = more ∙ ap (λ (b : Bool). cond b before (before + 1)) (sym there ∙ w.if-not-contains_key.true) in
          record { few = omega (arith, inv.few, w.live-is); is = omega (arith, inv.is, w.live-is, step) }
      | else-not-contains_key w ↦
          let step = more ∙ ap (λ (b : Bool). cond b before (before + 1)) (sym there ∙ w.if-not-contains_key.false) in
          record { few = omega (arith, inv.few, w.live-is); is = w.live-is ∙ inv.is ∙ sym step }
    ]

pub loop-number-init : goal.loop-number-init
loop-number-init g c =
    let batch = c.args.batch.now in
    let all : take c.loop-put.put-index batch.puts ≡ batch.puts = take_all c.loop-put.put-index batch.puts (omega (arith, c.loop-put-test.false, ap (λ (l : List (ℕ × List ℕ)). length l) c.puts-put-items.ensures.puts)) in
    record { is = c.loop-put.invariant.is ∙ ap (λ (l : List (ℕ × List ℕ)). set.len (with_put_numbers l (numbers_in c.args.pages.now.entries))) all }

pub overflow_sub-live : goal.overflow_sub-live
overflow_sub-live g c =
    let j = c.loop-number.number-index in
    let numbers : Numbers = numbers_in c.args.pages.now.entries in
    let batch = c.args.batch.now in
    let is = c.deletes-number-items.ensures.deletes in
    let n : ℕ = get_or batch.deletes j 0 in
    let low : j < length batch.deletes = omega (arith, c.loop-number-test.true, ap (λ (l : List ℕ). length l) is) in
    let there : set.contains numbers n ≡ true = kept_number c.args.pages.now.entries n ∙ ap (λ (l : List ℕ). is_kept c.args.pages.now.entries (get_or l j 0)) (sym is) ∙ sym c.contains_key-in-loop-number.ensures ∙ c.if-contains_key.true in
    omega (arith, some-left batch c.deletes-number-items.ensures.sound.distinct numbers j low there, c.loop-number.invariant.is)

pub loop-number-preserved : goal.loop-number-preserved
loop-number-preserved g c =
    let j = c.loop-number.number-index in
    let inv = c.loop-number.invariant in
    let numbers : Numbers = numbers_in c.args.pages.now.entries in
    let batch = c.args.batch.now in
    let is = c.deletes-number-items.ensures.deletes in
    let n : ℕ = get_or batch.deletes j 0 in
    let low : j < length batch.deletes = omega (arith, c.loop-number-test.true, ap (λ (l : List ℕ). length l) is) in
    let there : c.contains_key-in-loop-number.result ≡ set.contains numbers n = c.contains_key-in-loop-number.ensures ∙ ap (λ (l : List ℕ). is_kept c.args.pages.now.entries (get_or l j 0)) is ∙ sym (kept_number c.args.pages.now.entries n) in
    let before : ℕ = set.len (without_deleted (take j batch.deletes) (with_put_numbers batch.puts numbers)) in
    let less = len-delete batch c.deletes-number-items.ensures.sound.distinct numbers j low in
    elim c.if-contains_key.branch [
      | then-contains_key w ↦
          let step = less ∙ ap (λ (b : Bool). cond b (before - 1) before) (sym there ∙ w.if-contains_key.true) in
          record { is = w.live-is ∙ ap (λ (k : ℕ). k - 1) inv.is ∙ sym step }
      | else-contains_key w ↦
          let step = less ∙ ap (λ (b : Bool). cond b (before - 1) before) (sym there ∙ w.if-contains_key.false) in
          record { is = w.live-is ∙ inv.is ∙ sym step }
    ]

pub returns : goal.returns
returns g c =
    let batch = c.args.batch.now in
    let all : take c.loop-number.number-index batch.deletes ≡ batch.deletes = take_all c.loop-number.number-index batch.deletes (omega (arith, c.loop-number-test.false, ap (λ (l : List ℕ). length l) c.deletes-number-items.ensures.deletes)) in
    c.loop-number.invariant.is ∙ ap (λ (l : List ℕ). set.len (without_deleted l (with_put_numbers batch.puts (numbers_in c.args.pages.now.entries)))) all
