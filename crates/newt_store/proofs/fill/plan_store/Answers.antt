use Rattle.std.proofs.Common.{◌≡◌, ◌∙◌, ap, sym, subst, List, ℕ, ◌+◌, length, sum_by}
use Rattle.std.specs.FinMap as map
use Rattle.newt_spec_image.specs.Pages.{Change}
use Rattle.newt_spec_image.specs.Objects.{pages_for}
use Rattle.newt_objects.specs.Changing.{IsUnderWay}
use Rattle.newt_objects.specs.Extents.{numbers_of}
use Rattle.newt_soupdir.specs.Bare.{bare_store}
use Rattle.newt_spec_store.specs.Cost.{directory_bytes}
use Rattle.newt_objects_commit.specs.Batch.{HasPut}
use Rattle.newt_store.proofs.Filled.{directory-formed, entries-small, filled-cost, filled-pages, nil-of, pages-full, store-lies}
use Rattle.newt_store.proofs.Fresh.{start-empty}
use Rattle.newt_store.proofs.fill.plan_store.Goals as goal

pub write_directory-requires : goal.write_directory-requires
write_directory-requires c = let w = c.requires in directory-formed w.0 w.1 c.args.directory.now c.args.entries.now w.2

pub plan_object-requires-clause-way : goal.plan_object-requires-clause-way
plan_object-requires-clause-way c = (
  map.empty,
  map.empty,
  subst (λ (b : Change). IsUnderWay c.empty-objects.result b map.empty map.empty) (sym c.new-batch.ensures) (start-empty c.empty-objects.result c.empty-objects.ensures.none c.empty-objects.ensures.no_plans),
)

pub plan_entries-requires-clause-small : goal.plan_entries-requires-clause-small
plan_entries-requires-clause-small c = let w = c.requires in entries-small w.0 w.1 c.args.directory.now c.args.entries.now w.2

pub plan_entries-requires-clause-way : goal.plan_entries-requires-clause-way
plan_entries-requires-clause-way c =
    let start : IsUnderWay c.empty-objects.result c.new-batch.result map.empty map.empty = subst (λ (b : Change). IsUnderWay c.empty-objects.result b map.empty map.empty) (sym c.new-batch.ensures) (start-empty c.empty-objects.result c.empty-objects.ensures.none c.empty-objects.ensures.no_plans) in
    let a = c.in_ok-plan_object.ensures.way map.empty map.empty start in
    (map.empty, a.0, a.1)

pub returns : goal.returns
returns c =
    let d = c.args.directory.now in
    let es = c.args.entries.now in
    let start : IsUnderWay c.empty-objects.result c.new-batch.result map.empty map.empty = subst (λ (b : Change). IsUnderWay c.empty-objects.result b map.empty map.empty) (sym c.new-batch.ensures) (start-empty c.empty-objects.result c.empty-objects.ensures.none c.empty-objects.ensures.no_plans) in
    let a = c.in_ok-plan_object.ensures.way map.empty map.empty start in
    let w = c.in_ok-plan_entries.ensures in
    let plans = w.2 in
    let b = plans.way map.empty a.0 a.1 in
    let bytes : c.deref.result.now ≡ directory_bytes (bare_store d) = c.deref.ensures.value ∙ c.in_ok-bytes.ensures in
    let put : HasPut 0 (directory_bytes (bare_store d)) map.empty a.0 = subst (λ (l : List ℕ). HasPut 0 l map.empty a.0) bytes a.2 in
    let none = ap (λ o. length (numbers_of o)) (c.empty-objects.ensures.none 0) in
    let pages = filled-pages c.new-batch.result c.plan_object.new.batch c.plan_entries.new.batch _ _ _ c.new-batch.ensures none c.in_ok-plan_object.ensures.pages plans.pages in
    record {
      objects = c.plan_entries.new.objects;
      texts = b.0;
      way = b.1;
      lies = λ blocks s is. store-lies blocks s d es is w.0 w.1 plans.ones plans.are a.0 b.0 put b.2;
      costs = λ blocks s is. pages.0 ∙ (λ i. pages_for (length (bytes i)) + sum_by pages-full es) ∙ filled-cost blocks s d es is;
      no_deletes = nil-of c.plan_entries.new.batch.deletes pages.1;
    }
