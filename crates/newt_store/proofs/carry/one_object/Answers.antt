use Rattle.std.proofs.Common.{◌≡◌, inl, ℕ, List, [], ◌∷◌, ◌++◌, Some, sym, ◌∙◌, ap, subst}
use Rattle.newt_pagebook.proofs.Tests.{some_inj}
use Rattle.newt_objects_commit.specs.Batch.{AreOnce}
use Rattle.newt_spec_graph.specs.Lists.{Among}
use Rattle.newt_store.proofs.Carrying.{none-some, one-among, once-one}
use Rattle.newt_store.proofs.Unanswered.{no-value}
use Rattle.newt_store.proofs.carry.one_object.Goals as goal

pub returns-in_default : goal.returns-in_default
returns-in_default c = record {
  real = λ id m. absurd (subst (λ (l : List ℕ). Among l id) c.new-ids.ensures.items m);
  all = λ id is. absurd (none-some (sym c.in_default.is ∙ is));
  once = subst AreOnce (sym c.new-ids.ensures.items) tt;
}

pub returns-in_err-push : goal.returns-in_err-push
returns-in_err-push c = record {
  real = no-value _ _ c.from_residual.ensures.0;
  all = no-value _ _ c.from_residual.ensures.0;
  once = no-value _ _ c.from_residual.ensures.0;
}

pub returns : goal.returns
returns c =
    let one : c.push.new.self.items ≡ c.in-Some.id ∷ [] = c.in_ok-push.ensures.items ∙ ap (λ (l : List ℕ). l ++ (c.in-Some.id ∷ [])) c.new-ids.ensures.items in
    record {
      real = λ id m. c.in-Some.is ∙ ap Some (one-among _ c.in-Some.id id one m);
      all = λ id is. subst (λ (l : List ℕ). Among l id) (sym one) (inl (some_inj _ _ (sym c.in-Some.is ∙ is)));
      once = once-one _ c.in-Some.id one;
    }
