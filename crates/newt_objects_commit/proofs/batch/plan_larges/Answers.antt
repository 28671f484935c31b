use Rattle.std.proofs.Common.{◌≡◌, ◌+◌, ◌++◌, ◌∷◌, [], ℕ, List, length, take, inl, inr, refl, sym, ◌∙◌, ap, subst, arith}
use Rattle.std.proofs.lemmas.List.{take_all}
use Rattle.newt_spec_image.specs.Objects.{pages_for}
use Rattle.newt_spec_graph.specs.Lists.{Among}
use Rattle.newt_objects_commit.specs.declared.batch.NewLarge.{NewLarge}
use Rattle.newt_objects_commit.specs.Batch.{HasPut, HasLarges, AddsPages, all_pages_held}
use Rattle.newt_objects_commit.proofs.Planning.{among-item, take-item, among-map, ids_of, pages_of, large_not_yet, larges-first, ids-more, larges-more, larges-pages, adds-none, adds-as}
use Rattle.newt_objects_commit.proofs.batch.plan_larges.Goals as goal

pub loop-large-init : goal.loop-large-init
loop-large-init c = record {
  way = λ live texts w. (texts, w, larges-first texts);
  held_same = λ other. refl;
  unplanned = λ other free none. free;
  pages = adds-none 0 0 _ refl refl;
}

pub plan_object-requires-clause-no_plan : goal.plan_object-requires-clause-no_plan
plan_object-requires-clause-no_plan c =
    let l : NewLarge = c.large-item.result in
    c.loop-large.invariant.unplanned l.id
    (c.requires.no_plan l.id (among-map (λ l. l.id) c.args.larges.now l (among-item c.args.larges.now c.loop-large.large-index l c.loop-large-test.true c.large-item.is)))
    (large_not_yet c.args.larges.now c.loop-large.large-index l c.requires.once c.loop-large-test.true c.large-item.is)

pub plan_object-requires-clause-way : goal.plan_object-requires-clause-way
plan_object-requires-clause-way c = let w = c.requires.way in let mid = c.loop-large.invariant.way w.0 w.1 w.2 in (w.0, mid.0, mid.1)

pub loop-large-preserved : goal.loop-large-preserved
loop-large-preserved c =
    let done : List NewLarge = take c.loop-large.large-index c.args.larges.now in
    let l : NewLarge = c.large-item.result in
    let more : take (c.loop-large.large-index + 1) c.args.larges.now ≡ done ++ l ∷ [] = take-item c.args.larges.now c.loop-large.large-index l c.loop-large-test.true c.large-item.is in
    let apart : Among (ids_of done) l.id → ⊥ = large_not_yet c.args.larges.now c.loop-large.large-index l c.requires.once c.loop-large-test.true c.large-item.is in
    let e = c.in_ok-plan_object.ensures in
    let i = c.loop-large.invariant in
    record {
      way = λ live texts w.
          let mid = i.way live texts w in
          let put = e.way live mid.0 mid.1 in
          let has : HasPut l.id l.bytes.items mid.0 put.0 = subst (λ (bytes : List ℕ). HasPut l.id bytes mid.0 put.0) c.deref.ensures.value put.2 in
          (put.0, put.1, subst (λ (larges : List NewLarge). HasLarges larges texts put.0) (sym more) (larges-more done l texts mid.0 put.0 apart mid.2 has));
      held_same = λ other. e.held other ∙ i.held_same other;
      unplanned = λ other none out.
          let none_so : Among (ids_of (done ++ l ∷ [])) other → ⊥ = λ among. out (subst (λ (larges : List NewLarge). Among (ids_of larges) other) (sym more) among) in
          e.others other (λ same. none_so (ids-more done l other (inr (sym same)))) (i.unplanned other none (λ among. none_so (ids-more done l other (inl among))));
      pages = subst (λ (larges : List NewLarge). AddsPages (pages_of larges) (all_pages_held c.args.objects.now (ids_of larges)) c.args.batch.now c.plan_object.new.batch) (sym more)
          (larges-pages c.args.objects.now c.loop-large.objects done l c.args.batch.now c.loop-large.batch c.plan_object.new.batch (i.held_same l.id) i.pages
          (adds-as _ _ _ _ _ _ (ap (λ (bytes : List ℕ). pages_for (length bytes)) c.deref.ensures.value) refl e.pages));
    }

pub returns-clause-way : goal.returns-clause-way
returns-clause-way c = λ live texts w.
    let mid = c.loop-large.invariant.way live texts w in
    (mid.0, mid.1, subst (λ (larges : List NewLarge). HasLarges larges texts mid.0) (take_all c.loop-large.large-index c.args.larges.now (omega arith)) mid.2)

pub returns-clause-others : goal.returns-clause-others
returns-clause-others c = λ other out free. c.loop-large.invariant.unplanned other free
    (λ among. out (subst (λ (larges : List NewLarge). Among (ids_of larges) other) (take_all c.loop-large.large-index c.args.larges.now (omega arith)) among))

pub returns-clause-pages : goal.returns-clause-pages
returns-clause-pages c = subst (λ (larges : List NewLarge). AddsPages (pages_of larges) (all_pages_held c.args.objects.now (ids_of larges)) c.args.batch.now c.loop-large.batch)
    (take_all c.loop-large.large-index c.args.larges.now (omega arith)) c.loop-large.invariant.pages
