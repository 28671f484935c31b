use Rattle.std.proofs.Common.{◌≡◌, ℕ, Bool, false, List, replicate, sym, ◌∙◌, subst, rules, arith}
use Rattle.std.proofs.lemmas.Option.{slice_get_within}
use Rattle.newt_pagebook.specs.Batch.{names}
use Rattle.newt_pagebook.proofs.Tests.{some_inj}
use Rattle.newt_objects.specs.Extents.{AreFlags, MarksAlso}
use Rattle.newt_objects.proofs.Flags.{flags-marked}
use Rattle.newt_objects.proofs.free.named_numbers.Goals as goal

pub returns : goal.returns
returns c = λ number flag e.
    let test : ℕ → Bool = names c.args.batch.now in
    let new : List Bool = c.mark_named.new.taken.items in
    let unset : c.in_ok-named.named.items ≡ replicate 65536 false = c.in_ok-named.ensures.items_if_clones_equal (search rules) in
    let flags : AreFlags 65536 test new = flags-marked 65536 test new (subst (λ (flags : List Bool). MarksAlso test flags new) unset c.mark_named.ensures) in
    some_inj flag (test number) (sym e ∙ flags.each number (omega (arith, slice_get_within new number flag e, flags.size)))
