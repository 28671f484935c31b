use Rattle.std.proofs.Common.{◌≡◌, ℕ, ◌++◌, List, length, take, sym, ◌∙◌, ap, arith, refl}
use Rattle.std.specs.List.{flat_map}
use Rattle.std.specs.Int.{to_be_bytes, w16}
use Rattle.std.proofs.lemmas.List.{take_all}
use Rattle.newt_spec_image.specs.Pages.{written_put, written_change}
use Rattle.newt_pagelog.proofs.Stepping.{written-all}
use Rattle.newt_pagelog.proofs.write.written.Goals as goal

pub loop-put-init : goal.loop-put-init
loop-put-init c =
    c.in_ok-extend_from_slice-2.ensures.items ∙ ap (λ (l : List ℕ). l ++ c.to_be_bytes-2.result) (c.in_ok-extend_from_slice.ensures.items ∙ ap (λ (l : List ℕ). l ++ c.to_be_bytes.result) c.new-bytes.ensures.items)
    ∙ ap (λ (l : List ℕ). c.to_be_bytes.result ++ l) c.to_be_bytes-2.ensures ∙ ap (λ (l : List ℕ). l ++ to_be_bytes w16 0) c.to_be_bytes.ensures
    ∙ ap (λ (l : List (ℕ × List ℕ)). to_be_bytes w16 (length l) ++ to_be_bytes w16 0) c.puts.ensures.puts

pub returns-clause-says : goal.returns-clause-says
returns-clause-says c =
    let puts = c.args.batch.now.puts in
    let all : take c.loop-put.put-index puts ≡ puts = take_all c.loop-put.put-index puts (omega (arith, c.loop-put-test.false, ap (λ (l : List (ℕ × List ℕ)). length l) c.puts-put-items.ensures.puts)) in
    c.loop-put.invariant ∙ ap (λ (l : List (ℕ × List ℕ)). (to_be_bytes w16 (length puts) ++ to_be_bytes w16 0) ++ flat_map written_put l) all ∙ written-all puts (length puts) refl
    ∙ sym (ap (λ (l : List ℕ). written_change (record { puts = puts; deletes = l })) c.requires.none)
