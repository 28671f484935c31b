use Rattle.std.proofs.Common.{rules, ◌≡◌, ◌∙◌, sym, subst, refl, Option, Some}
use Rattle.std.proofs.lemmas.Option.{none-some}
use Rattle.newt_graph.specs.Graph.{RawGraph}
use Rattle.newt_spec_graph.specs.Slots.{put, put_into}
use Rattle.newt_path.specs.Put.{IsFormOf, PassesALimit}
use Rattle.newt_path.proofs.Ends.{put_none, put_some, frame_found, last_name, not_no_path, limit_only}
use Rattle.newt_path.proofs.set.set_at.Goals as goal

pub returns-in_default-frame_below-clause-no_path : goal.returns-in_default-frame_below-clause-no_path
returns-in_default-frame_below-clause-no_path c = (
  (λ is. put_none c.args.graph.now c.args.path.now c.in-Some.before.now c.in-Some.last.now c.args.value.now (search rules) (search rules)),
  (λ none. refl),
)

pub set_in-requires : goal.set_in-requires
set_in-requires c = record {
  name = last_name c.args.path.now c.in-Some.before.now c.list-2.result.now (search rules) c.list.ensures.path;
  frame = frame_found c.args.graph.now c.in-Some.before.now c.in-Some-frame_below.frame (search rules);
  graph = c.root.ensures.graph;
  value = c.root-root.ensures.graph;
}

pub returns-in_err-set_in-clause-no_path : goal.returns-in_err-set_in-clause-no_path
returns-in_err-set_in-clause-no_path c =
    let some : put c.args.graph.now c.args.path.now c.args.value.now ≡ Some (put_into c.args.graph.now c.list-2.result.now c.args.value.now c.in-Some-frame_below.frame) =
    put_some c.args.graph.now c.args.path.now c.in-Some.before.now c.list-2.result.now c.args.value.now c.in-Some-frame_below.frame (search rules) (search rules) in (
      (λ is. absurd (not_no_path c.in_err-set_in.field-0.0 (search rules))),
      (λ none. absurd (none-some _ (sym none ∙ some))),
    )

pub returns-in_err-set_in-clause-limit : goal.returns-in_err-set_in-clause-limit
returns-in_err-set_in-clause-limit c = λ is.
    let some : put c.args.graph.now c.args.path.now c.args.value.now ≡ Some (put_into c.args.graph.now c.list-2.result.now c.args.value.now c.in-Some-frame_below.frame) =
    put_some c.args.graph.now c.args.path.now c.in-Some.before.now c.list-2.result.now c.args.value.now c.in-Some-frame_below.frame (search rules) (search rules) in
    let e = limit_only c.in_err-set_in.field-0.0 (search rules) in
    subst PassesALimit (sym some) (c.in_err-set_in.ensures.limit (search (rules, e)))

pub returns-clause-form : goal.returns-clause-form
returns-clause-form c =
    let some : put c.args.graph.now c.args.path.now c.args.value.now ≡ Some (put_into c.args.graph.now c.list-2.result.now c.args.value.now c.in-Some-frame_below.frame) =
    put_some c.args.graph.now c.args.path.now c.in-Some.before.now c.list-2.result.now c.args.value.now c.in-Some-frame_below.frame (search rules) (search rules) in
    subst (λ (o : Option RawGraph). IsFormOf o c.in_ok-set_in.field-0) (sym some) c.in_ok-set_in.ensures.form

pub returns-clause-no_path : goal.returns-clause-no_path
returns-clause-no_path c =
    let some : put c.args.graph.now c.args.path.now c.args.value.now ≡ Some (put_into c.args.graph.now c.list-2.result.now c.args.value.now c.in-Some-frame_below.frame) =
    put_some c.args.graph.now c.args.path.now c.in-Some.before.now c.list-2.result.now c.args.value.now c.in-Some-frame_below.frame (search rules) (search rules) in (
      (λ is. absurd cc),
      (λ none. absurd (none-some _ (sym none ∙ some))),
    )
