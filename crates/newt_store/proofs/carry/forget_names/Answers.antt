use Rattle.std.proofs.Common.{◌≡◌, ◌≢◌, ◌+◌, ◌++◌, ◌∷◌, [], ℕ, List, take, get_or, inl, inr, refl, sym, ◌∙◌, ap, subst, arith, ⊎_elim}
use Rattle.std.proofs.lemmas.Bool.{cases_eq}
use Rattle.std.proofs.lemmas.List.{take_all, take_more}
use Rattle.newt_spec_graph.specs.Lists.{Among}
use Rattle.newt_spec_graph.proofs.Lists.{among-append, among-left, among-right}
use Rattle.newt_objects_commit.specs.Names.{names_of}
use Rattle.newt_store.proofs.carry.forget_names.Goals as goal

-- one of these, or the last
one-of : (done : List ℕ) (id r : ℕ) → Among (done ++ id ∷ []) r → r ≢ id → Among done r
one-of done id r m other = elim (among-append done (id ∷ []) r m) [ inl before ↦ before | inr last ↦ absurd (other (last-is last)) ] where
  last-is : Among (id ∷ []) r → r ≡ id
  last-is (inl e) = sym e
  last-is (inr none) = absurd none

pub loop-id-init : goal.loop-id-init
loop-id-init c = record {
  gone = λ r m. absurd m;
  others = λ r out. refl;
  ready = λ r out is. is;
}

pub loop-id-preserved : goal.loop-id-preserved
loop-id-preserved c =
    let done : List ℕ = take c.loop-id.id-index c.args.records.now in
    let id : ℕ = get_or c.args.records.now c.loop-id.id-index 0 in
    let more : take (c.loop-id.id-index + 1) c.args.records.now ≡ done ++ id ∷ [] = take_more c.args.records.now c.loop-id.id-index 0 c.loop-id-test.true in
    let e = c.remove.ensures in
    let i = c.loop-id.invariant in
    let apart : (r : ℕ) → (Among (take (c.loop-id.id-index + 1) c.args.records.now) r → ⊥) → r ≢ id = λ r out same. out (subst (λ (l : List ℕ). Among l r) (sym more) (among-right done (id ∷ []) r (inl (sym same)))) in
    let before : (r : ℕ) → (Among (take (c.loop-id.id-index + 1) c.args.records.now) r → ⊥) → Among done r → ⊥ = λ r out m. out (subst (λ (l : List ℕ). Among l r) (sym more) (among-left done (id ∷ []) r m)) in
    record {
      gone = λ r m. ⊎_elim
          (λ (same : r ≡ id). ap (names_of c.remove.new.self) same ∙ e.gone)
          (λ (other : r ≢ id). e.others r other ∙ i.gone r (one-of done id r (subst (λ (l : List ℕ). Among l r) more m) other))
          (cases_eq r id);
      others = λ r out. e.others r (apart r out) ∙ i.others r (before r out);
      ready = λ r out was. e.ready r (apart r out) (i.ready r (before r out) was);
    }

pub returns-clause-gone : goal.returns-clause-gone
returns-clause-gone c = λ r m. c.loop-id.invariant.gone r (subst (λ (l : List ℕ). Among l r) (sym (take_all c.loop-id.id-index c.args.records.now (omega arith))) m)

pub returns-clause-others : goal.returns-clause-others
returns-clause-others c = λ r out. c.loop-id.invariant.others r (λ m. out (subst (λ (l : List ℕ). Among l r) (take_all c.loop-id.id-index c.args.records.now (omega arith)) m))

pub returns-clause-ready : goal.returns-clause-ready
returns-clause-ready c = λ r out was. c.loop-id.invariant.ready r (λ m. out (subst (λ (l : List ℕ). Among l r) (take_all c.loop-id.id-index c.args.records.now (omega arith)) m)) was
