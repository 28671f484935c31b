use Rattle.std.proofs.Common.{◌≡◌, ◌+◌, ℕ, List, length, Option, sym, ◌∙◌, ap, subst}
use Rattle.newt_spec_image.specs.Objects.{pages_for}
use Rattle.newt_spec_graph.specs.Lists.{Among}
use Rattle.newt_objects_commit.specs.declared.batch.NewEntry.{NewEntry}
use Rattle.newt_objects_commit.specs.declared.batch.NewLarge.{NewLarge}
use Rattle.newt_objects_commit.specs.Batch.{HasPut, HasLarges, HasEntry, large_ids, new_pages, pages_held, all_pages_held, over_pages}
use Rattle.newt_objects_commit.proofs.Planning.{entry-none, entry-put, record-apart, ids_of, pages_of, adds-none, adds-also, adds-as, as-held}
use Rattle.newt_objects_commit.proofs.batch.plan_entry.Goals as goal

pub plan_larges-requires-clause-no_plan : goal.plan_larges-requires-clause-no_plan
plan_larges-requires-clause-no_plan c = λ id among.
    let e : NewEntry = c.in-Some.e in
    let has : Among (large_ids e) id = subst (λ (larges : List NewLarge). Among (ids_of larges) id) c.deref-2.ensures.value among in
    c.in_ok-plan_object.ensures.others id (λ same. record-apart e (c.requires.free e c.in-Some.is).ids (subst (λ (n : ℕ). Among (large_ids e) n) same has)) ((c.requires.free e c.in-Some.is).no_plans id has)

pub plan_larges-requires-clause-way : goal.plan_larges-requires-clause-way
plan_larges-requires-clause-way c = let w = c.requires.way in let a = c.in_ok-plan_object.ensures.way w.0 w.1 w.2 in (w.0, a.0, a.1)

pub returns-clause-way : goal.returns-clause-way
returns-clause-way c = λ live texts w.
    let e : NewEntry = c.in-Some.e in
    let put = c.in_ok-plan_object.ensures.way live texts w in
    let has : HasPut e.id e.bytes.items texts put.0 = subst (λ (bytes : List ℕ). HasPut e.id bytes texts put.0) c.deref.ensures.value put.2 in
    let rest = c.in_ok-plan_larges.ensures.way live put.0 put.1 in
    let larges : HasLarges e.larges.items put.0 rest.0 = subst (λ (larges : List NewLarge). HasLarges larges put.0 rest.0) c.deref-2.ensures.value rest.2 in
    (rest.0, rest.1, subst (λ (entry : Option NewEntry). HasEntry entry texts rest.0) (sym c.in-Some.is) (entry-put e texts put.0 rest.0 (c.requires.free e c.in-Some.is).ids has larges))

pub returns-in_default-clause-way : goal.returns-in_default-clause-way
returns-in_default-clause-way c = λ live texts w. (texts, w, subst (λ (entry : Option NewEntry). HasEntry entry texts texts) (sym c.in_default.is) (entry-none texts))

pub returns-clause-pages : goal.returns-clause-pages
returns-clause-pages c =
    let e : NewEntry = c.in-Some.e in
    let puts : pages_for (length c.deref.result.now) + pages_of c.deref-2.result.now ≡ new_pages c.args.entry.now =
    (λ i. pages_for (length (c.deref.ensures.value i)) + pages_of (c.deref-2.ensures.value i)) ∙ ap new_pages (sym c.in-Some.is) in
    let larges : all_pages_held c.plan_object.new.objects (ids_of c.deref-2.result.now) ≡ all_pages_held c.args.objects.now (large_ids e) =
    as-held c.args.objects.now c.plan_object.new.objects (ids_of c.deref-2.result.now) c.plan_object.ensures.held ∙ ap (λ (larges : List NewLarge). all_pages_held c.args.objects.now (ids_of larges)) c.deref-2.ensures.value in
    let over : pages_held c.args.objects.now e.id + all_pages_held c.plan_object.new.objects (ids_of c.deref-2.result.now) ≡ over_pages c.args.objects.now c.args.entry.now =
    ap (λ (n : ℕ). pages_held c.args.objects.now e.id + n) larges ∙ ap (over_pages c.args.objects.now) (sym c.in-Some.is) in
    adds-as _ _ _ _ _ _ puts over (adds-also _ _ _ _ _ _ _ c.in_ok-plan_object.ensures.pages c.in_ok-plan_larges.ensures.pages)

pub returns-in_default-clause-pages : goal.returns-in_default-clause-pages
returns-in_default-clause-pages c = adds-none (new_pages c.args.entry.now) (over_pages c.args.objects.now c.args.entry.now) _ (ap new_pages c.in_default.is) (ap (over_pages c.args.objects.now) c.in_default.is)
