use Rattle.std.proofs.Common.{◌≡◌, ℕ, Bool, false, List, replicate, subst, rules}
use Rattle.newt_objects.specs.Extents.{is_taken, MarksAlso}
use Rattle.newt_objects.proofs.Flags.{flags-marked}
use Rattle.newt_objects.proofs.free.taken_numbers.Goals as goal

pub returns : goal.returns
returns c =
    let test : ℕ → Bool = is_taken c.args.rows.now.entries c.args.batch.now in
    let unset : c.in_ok-taken.taken.items ≡ replicate c.args.bound false = c.in_ok-taken.ensures.items_if_clones_equal (search rules) in
    flags-marked c.args.bound test c.mark_taken.new.taken.items (subst (λ (flags : List Bool). MarksAlso test flags c.mark_taken.new.taken.items) unset c.mark_taken.ensures)
