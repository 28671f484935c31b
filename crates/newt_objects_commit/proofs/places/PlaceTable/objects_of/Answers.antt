use Rattle.std.proofs.Common.{◌≡◌, ℕ, List, ◌++◌, sym, ◌∙◌, ap, subst}
use Rattle.newt_spec_graph.specs.Lists.{Among}
use Rattle.newt_objects_commit.specs.Batch.{AreOnce}
use Rattle.newt_objects_commit.specs.Places.{picked}
use Rattle.newt_objects_commit.proofs.Placing.{picked-places, places-picked, places-once}
use Rattle.newt_objects_commit.proofs.places.PlaceTable.objects_of.Goals as goal

pub returns-clause-real : goal.returns-clause-real
returns-clause-real c =
    let rows = c.args.self.now.rows in
    let is : c.pick.new.ids.items ≡ picked c.args.sig rows.entries = c.in_ok-pick.ensures.picked ∙ ap (λ (l : List ℕ). l ++ picked c.sig.inside.0 rows.entries) c.new-ids.ensures.items ∙ ap (λ (n : ℕ). picked n rows.entries) c.sig.view_is in
    λ id m. picked-places rows c.args.sig c.pick.ensures.ordered id (subst (λ (l : List ℕ). Among l id) is m)

pub returns-clause-all : goal.returns-clause-all
returns-clause-all c =
    let rows = c.args.self.now.rows in
    let is : c.pick.new.ids.items ≡ picked c.args.sig rows.entries = c.in_ok-pick.ensures.picked ∙ ap (λ (l : List ℕ). l ++ picked c.sig.inside.0 rows.entries) c.new-ids.ensures.items ∙ ap (λ (n : ℕ). picked n rows.entries) c.sig.view_is in
    λ uid id at. subst (λ (l : List ℕ). Among l id) (sym is) (places-picked rows c.args.sig uid id at)

pub returns-clause-once : goal.returns-clause-once
returns-clause-once c =
    let rows = c.args.self.now.rows in
    let is : c.pick.new.ids.items ≡ picked c.args.sig rows.entries = c.in_ok-pick.ensures.picked ∙ ap (λ (l : List ℕ). l ++ picked c.sig.inside.0 rows.entries) c.new-ids.ensures.items ∙ ap (λ (n : ℕ). picked n rows.entries) c.sig.view_is in
    subst (λ (l : List ℕ). AreOnce l) (sym is) (places-once rows c.args.sig c.pick.ensures.ordered c.requires)
