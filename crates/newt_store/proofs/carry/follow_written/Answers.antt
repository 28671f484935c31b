use Rattle.std.proofs.Common.{ℕ, List, sym, subst}
use Rattle.newt_objects_commit.specs.Names.{names_of}
use Rattle.newt_spec_graph.specs.Lists.{Among}
use Rattle.newt_store.proofs.carry.follow_written.Goals as goal

pub name_new-requires : goal.name_new-requires
name_new-requires c = record { ready = λ e is. c.forget_names.ensures.ready e.id (λ m. c.requires.stays e is (subst (λ (l : List ℕ). Among l e.id) c.deref.ensures.value m)) (c.requires.ready e is) }

pub returns-clause-names : goal.returns-clause-names
returns-clause-names c = record {
  names = c.name_new.ensures.named;
  between = names_of c.forget_names.new.names;
  forgotten = λ r m. c.forget_names.ensures.gone r (subst (λ (l : List ℕ). Among l r) (sym c.deref.ensures.value) m);
  others = λ r out. c.forget_names.ensures.others r (λ m. out (subst (λ (l : List ℕ). Among l r) c.deref.ensures.value m));
  stay = c.name_new.ensures.others;
}
