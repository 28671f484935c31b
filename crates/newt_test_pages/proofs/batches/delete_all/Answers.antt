use Rattle.std.proofs.Common.{◌==◌, ◌||◌, Bool, ◌∙◌, ap, length, arith}
use Rattle.newt_spec_image.specs.Pages.{Change}
use Rattle.newt_pagebook.specs.Batch.{names}
use Rattle.newt_pagebook.proofs.Changes.{names_delete}
use Rattle.newt_pagebook.proofs.Tests.{equal_false}
use Rattle.newt_test_pages.proofs.batches.delete_all.Goals as goal

pub delete-requires-clause-new : goal.delete-requires-clause-new
delete-requires-clause-new c = c.loop-number.invariant.new c.loop-number.number (omega arith)

pub returns-clause-new : goal.returns-clause-new
returns-clause-new c = λ n above. c.loop-number.invariant.new n (omega (arith, above))

pub loop-number-preserved : goal.loop-number-preserved
loop-number-preserved c =
    let i = c.loop-number.invariant in
    let m = c.loop-number.number in
    let is = c.in_ok-delete.ensures.ok in
    record {
      new = λ n above. ap (λ (change : Change). names change n) is ∙ names_delete c.loop-number.batch m n
          ∙ ap (λ (b : Bool). b || (n == m)) (i.new n (omega (arith, above))) ∙ equal_false n m (λ e. absurd (omega (arith, e, above)));
      puts = ap (λ (change : Change). length change.puts) is ∙ i.puts;
    }
