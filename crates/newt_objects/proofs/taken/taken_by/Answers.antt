use Rattle.std.proofs.Common.{◌≡◌, ◌∙◌, Bool, true, false, List, [], replicate, slice_get, sym, ap, subst, rules, arith}
use Rattle.newt_objects.specs.Headers.{held_in}
use Rattle.newt_objects.specs.Taken.{IsLive, row_at}
use Rattle.newt_objects.proofs.Live.{live-none, live-held, all_false}
use Rattle.newt_objects.proofs.taken.taken_by.Goals as goal

-- flags that are not set are those of no objects
live-unset : (flags : List Bool) → flags ≡ replicate 65536 false → IsLive (row_at []) flags
live-unset flags unset = subst (λ (f : List Bool). IsLive (row_at []) f) (sym unset) live-none

pub find_full-requires-clause-size : goal.find_full-requires-clause-size
find_full-requires-clause-size c =
    (c.take_rows.ensures c.if-take_rows.true (live-unset c.in_ok-flags.flags.items (c.in_ok-flags.ensures.items_if_clones_equal (search rules)))).size

pub find_full-requires-clause-full : goal.find_full-requires-clause-full
find_full-requires-clause-full c = record {
  below = λ group under number is. absurd (omega (arith, under));
  marked = λ group yes number is. absurd (
      let none : c.in_ok-full.full.items ≡ replicate 2048 false = c.in_ok-full.ensures.items_if_clones_equal (search rules) in
      let f : true ≡ false = all_false 2048 group true (ap (λ (l : List Bool). slice_get l group) (sym none) ∙ yes) in cc);
}

pub returns-then-take_rows : goal.returns-then-take_rows
returns-then-take_rows c = record {
  live = subst (λ (f : List Bool). IsLive (held_in c.args.rows.now) f) (sym c.find_full.ensures.flags)
      (live-held c.args.rows.now c.len-count.ensures.ordered c.take_rows.new.flags.items
      (c.take_rows.ensures c.if-take_rows.true (live-unset c.in_ok-flags.flags.items (c.in_ok-flags.ensures.items_if_clones_equal (search rules)))));
  full = c.find_full.ensures.full;
}
