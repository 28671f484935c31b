use Rattle.std.proofs.Common.{◌≡◌, ◌+◌, ◌++◌, ◌∷◌, [], ℕ, List, take, get_or, Option, None, IsSome, inl, refl, sym, ◌∙◌, ap, subst, arith}
use Rattle.std.proofs.lemmas.List.{take_all, take_more}
use Rattle.std.specs.FinMap as map
use Rattle.newt_spec_image.specs.Objects.{Extent}
use Rattle.newt_objects.specs.Held.{IsUnplanned}
use Rattle.newt_objects.proofs.Changing.{still_unplanned}
use Rattle.newt_spec_graph.specs.Lists.{Among}
use Rattle.newt_spec_graph.proofs.Lists.{among-left, among-right}
use Rattle.newt_objects_commit.specs.Batch.{HasNone, AddsPages, all_pages_held}
use Rattle.newt_objects_commit.proofs.Planning.{among-get, not_yet, none-first, none-more, gone-pages, adds-none, adds-as}
use Rattle.newt_objects_commit.proofs.batch.plan_gone.Goals as goal

pub loop-id-init : goal.loop-id-init
loop-id-init c = record {
  way = λ live texts w. (texts, w, none-first texts);
  held_same = λ other. refl;
  unplanned = λ other free none. free;
  pages = adds-none 0 0 _ refl refl;
}

pub plan_delete-requires-clause-there : goal.plan_delete-requires-clause-there
plan_delete-requires-clause-there c = subst (λ (o : Option Extent). IsSome o) (sym (c.loop-id.invariant.held_same _)) (c.requires.there _ (among-get c.args.gone.now c.loop-id.id-index 0 c.loop-id-test.true))

pub plan_delete-requires-clause-no_plan : goal.plan_delete-requires-clause-no_plan
plan_delete-requires-clause-no_plan c =
    c.loop-id.invariant.unplanned _ (c.requires.no_plan _ (among-get c.args.gone.now c.loop-id.id-index 0 c.loop-id-test.true)) (not_yet c.args.gone.now c.loop-id.id-index c.requires.once c.loop-id-test.true)

pub plan_delete-requires-clause-apart : goal.plan_delete-requires-clause-apart
plan_delete-requires-clause-apart c = λ x there.
    let id : ℕ = get_or c.args.gone.now c.loop-id.id-index 0 in
    let free : IsUnplanned c.loop-id.objects id = c.loop-id.invariant.unplanned id (c.requires.no_plan id (among-get c.args.gone.now c.loop-id.id-index 0 c.loop-id-test.true)) (not_yet c.args.gone.now c.loop-id.id-index c.requires.once c.loop-id-test.true) in
    let w = c.requires.way in
    (c.loop-id.invariant.way w.0 w.1 w.2).1.apart _ x there free

pub loop-id-preserved : goal.loop-id-preserved
loop-id-preserved c =
    let done : List ℕ = take c.loop-id.id-index c.args.gone.now in
    let id : ℕ = get_or c.args.gone.now c.loop-id.id-index 0 in
    let more : take (c.loop-id.id-index + 1) c.args.gone.now ≡ done ++ id ∷ [] = take_more c.args.gone.now c.loop-id.id-index 0 c.loop-id-test.true in
    let e = c.in_ok-plan_delete.ensures in
    let i = c.loop-id.invariant in
    let free : IsUnplanned c.loop-id.objects id = i.unplanned id (c.requires.no_plan id (among-get c.args.gone.now c.loop-id.id-index 0 c.loop-id-test.true)) (not_yet c.args.gone.now c.loop-id.id-index c.requires.once c.loop-id-test.true) in
    record {
      way = λ live texts w.
          let mid = i.way live texts w in
          (map.remove mid.0 id, e.plans.under_way live mid.0 mid.1, subst (λ (ids : List ℕ). HasNone ids texts (map.remove mid.0 id)) (sym more) (none-more done id texts mid.0 mid.2));
      held_same = λ other. e.kept other ∙ i.held_same other;
      unplanned = λ other none out.
          let apart : Among (done ++ id ∷ []) other → ⊥ = λ among. out (subst (λ (ids : List ℕ). Among ids other) (sym more) among) in
          let was : IsUnplanned c.loop-id.objects other = i.unplanned other none (λ among. apart (among-left done (id ∷ []) other among)) in
          still_unplanned c.loop-id.objects c.plan_delete.new.self id other None e.plans.plan free (λ same. apart (among-right done (id ∷ []) other (inl (sym same)))) was;
      pages = subst (λ (ids : List ℕ). AddsPages 0 (all_pages_held c.args.objects.now ids) c.args.batch.now c.plan_delete.new.batch) (sym more)
          (gone-pages c.args.objects.now c.loop-id.objects done id c.args.batch.now c.loop-id.batch c.plan_delete.new.batch (i.held_same id) i.pages e.puts e.plans.deletes);
    }

pub returns-clause-way : goal.returns-clause-way
returns-clause-way c = λ live texts w.
    let mid = c.loop-id.invariant.way live texts w in
    (mid.0, mid.1, subst (λ (ids : List ℕ). HasNone ids texts mid.0) (take_all c.loop-id.id-index c.args.gone.now (omega arith)) mid.2)

pub returns-clause-pages : goal.returns-clause-pages
returns-clause-pages c = adds-as 0 0 _ _ _ _ refl (ap (all_pages_held c.args.objects.now) (take_all c.loop-id.id-index c.args.gone.now (omega arith))) c.loop-id.invariant.pages
