use Rattle.std.proofs.Common.{◌≡◌, ℕ, ◌+◌, List, length, take, sym, ◌∙◌, ap, subst, arith}
use Rattle.std.specs.FinMap as map
use Rattle.std.proofs.lemmas.List.{take_all}
use Rattle.newt_spec_image.specs.Pages.{Pages, with_puts, without_numbers}
use Rattle.newt_pagelog.specs.Kept.{page_in, map_of, get_map}
use Rattle.newt_pagelog.proofs.Maps.{put-step, delete-step, map_is}
use Rattle.newt_pageplain.proofs.apply.apply.Goals as goal

pub loop-put-init : goal.loop-put-init
loop-put-init c = record { spare = omega (arith, c.requires.room); len = omega arith; unique = c.requires.unique; same = λ q. sym (get_map c.args.pages.now.entries q) }

pub loop-put-preserved : goal.loop-put-preserved
loop-put-preserved c =
    let i = c.loop-put.put-index in
    let inv = c.loop-put.invariant in
    let e = c.put_page.ensures in
    let m : Pages = map_of c.args.pages.now.entries in
    let is : c.puts-put-items.result.now ≡ c.args.batch.now.puts = c.puts-put-items.ensures.puts in
    record {
      spare = omega (arith, inv.spare, e.spare);
      len = omega (arith, inv.len, e.len);
      unique = e.unique;
      same = subst (λ (l : List (ℕ × List ℕ)). (q : ℕ) → page_in c.put_page.new.pages.entries q ≡ map.get (with_puts (take (i + 1) l) m) q) is
          (put-step m c.puts-put-items.result.now i _ c.loop-put.pages.entries c.put_page.new.pages.entries c.loop-put-test.true
          (subst (λ (l : List (ℕ × List ℕ)). (q : ℕ) → page_in c.loop-put.pages.entries q ≡ map.get (with_puts (take i l) m) q) (sym is) inv.same) e.updates);
    }

pub loop-number-init : goal.loop-number-init
loop-number-init c =
    let m : Pages = map_of c.args.pages.now.entries in
    let inv = c.loop-put.invariant in
    let end : length c.args.batch.now.puts ≡ c.loop-put.put-index = omega (arith, c.loop-put-test.false, c.loop-put.auto.put-index-end, ap (λ (l : List (ℕ × List ℕ)). length l) c.puts-put-items.ensures.puts) in
    let all : take c.loop-put.put-index c.args.batch.now.puts ≡ c.args.batch.now.puts = take_all c.loop-put.put-index c.args.batch.now.puts (omega (arith, end)) in
    record {
      len = omega (arith, inv.len, end);
      unique = inv.unique;
      same = λ q. inv.same q ∙ ap (λ (l : List (ℕ × List ℕ)). map.get (with_puts l m) q) all;
    }

pub loop-number-preserved : goal.loop-number-preserved
loop-number-preserved c =
    let i = c.loop-number.number-index in
    let inv = c.loop-number.invariant in
    let e = c.remove.ensures in
    let m : Pages = with_puts c.args.batch.now.puts (map_of c.args.pages.now.entries) in
    let is : c.deletes-number-items.result.now ≡ c.args.batch.now.deletes = c.deletes-number-items.ensures.deletes in
    record {
      len = omega (arith, inv.len, e.len);
      unique = e.unique;
      same = subst (λ (l : List ℕ). (q : ℕ) → page_in c.remove.new.self.entries q ≡ map.get (without_numbers (take (i + 1) l) m) q) is
          (delete-step m c.deletes-number-items.result.now i c.loop-number.pages.entries c.remove.new.self.entries c.loop-number-test.true
          (subst (λ (l : List ℕ). (q : ℕ) → page_in c.loop-number.pages.entries q ≡ map.get (without_numbers (take i l) m) q) (sym is) inv.same) e.updates.0);
    }

pub returns-clause-pages : goal.returns-clause-pages
returns-clause-pages c =
    let m : Pages = with_puts c.args.batch.now.puts (map_of c.args.pages.now.entries) in
    let all : take c.loop-number.number-index c.args.batch.now.deletes ≡ c.args.batch.now.deletes = take_all c.loop-number.number-index c.args.batch.now.deletes (omega (arith, ap (λ (l : List ℕ). length l) c.deletes-number-items.ensures.deletes)) in
    map_is c.loop-number.pages.entries (without_numbers c.args.batch.now.deletes m) (λ q. c.loop-number.invariant.same q ∙ ap (λ (l : List ℕ). map.get (without_numbers l m) q) all)
