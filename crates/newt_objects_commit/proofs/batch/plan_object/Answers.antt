use Rattle.std.specs.FinMap as map
use Rattle.std.proofs.Common.{Some}
use Rattle.newt_objects.specs.Held.{held, new_extent, free_numbers}
use Rattle.std.proofs.Common.{ℕ, List, length, ◌∙◌, ap, length-append}
use Rattle.newt_objects.specs.Extents.{numbers_of}
use Rattle.newt_objects.proofs.Changing.{still_unplanned}
use Rattle.newt_objects_commit.proofs.Planning.{put-has}
use Rattle.newt_objects_commit.proofs.batch.plan_object.Goals as goal

pub returns-clause-way : goal.returns-clause-way
returns-clause-way c = λ live texts w. (map.insert texts c.args.id c.args.bytes.now, c.in_ok-plan_put.ensures.plans.under_way live texts w, put-has c.args.id c.args.bytes.now texts)

pub returns-clause-others : goal.returns-clause-others
returns-clause-others c = λ other ne free.
    still_unplanned c.args.objects.now c.plan_put.new.self c.args.id other (Some (new_extent (length c.args.bytes.now) (free_numbers c.args.objects.now c.args.batch.now))) c.in_ok-plan_put.ensures.plans.plan c.requires.no_plan ne free

pub returns-clause-pages : goal.returns-clause-pages
returns-clause-pages c = record {
  more_puts = c.in_ok-plan_put.ensures.puts.count;
  more_deletes = ap (λ (l : List ℕ). length l) c.in_ok-plan_put.ensures.plans.deletes ∙ length-append c.args.batch.now.deletes (numbers_of (held c.args.objects.now c.args.id));
}
