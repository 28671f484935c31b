use Rattle.std.proofs.Common.{◌≡◌, ◌++◌, ◌∷◌, [], ℕ, List, take, get_or, flat_map, sym, ◌∙◌, ap, append_assoc}
use Rattle.std.proofs.lemmas.Grind.{flat_map-append}
use Rattle.std.proofs.lemmas.List.{take_more}
use Rattle.newt_objects_commit.specs.Names.{names_of}
use Rattle.newt_store.proofs.carry.gone_objects.Goals as goal

-- the objects of one record more
one-more : (f : ℕ → List ℕ) (done : List ℕ) (id : ℕ) → (flat_map (λ r. r ∷ f r) done ++ id ∷ []) ++ f id ≡ flat_map (λ r. r ∷ f r) (done ++ id ∷ [])
one-more f done id = append_assoc (flat_map (λ r. r ∷ f r) done) (id ∷ []) (f id) ∙ sym (flat_map-append (λ r. r ∷ f r) done (id ∷ []) ∙ ap (λ (l : List ℕ). flat_map (λ r. r ∷ f r) done ++ id ∷ l) (no-more (f id))) where
  no-more : (l : List ℕ) → l ++ [] ≡ l
  no-more [] = λ i. []
  no-more (x ∷ l) = ap (λ (m : List ℕ). x ∷ m) (no-more l)

pub loop-id-preserved : goal.loop-id-preserved
loop-id-preserved c =
    let f : ℕ → List ℕ = names_of c.args.names.now in
    let done : List ℕ = take c.loop-id.id-index c.args.records.now in
    let id : ℕ = get_or c.args.records.now c.loop-id.id-index 0 in
    c.in_ok-append.ensures ∙ ap (λ (l : List ℕ). l ++ f id) (c.in_ok-push.ensures.items ∙ ap (λ (l : List ℕ). l ++ id ∷ []) c.loop-id.invariant) ∙ one-more f done id
    ∙ ap (λ (l : List ℕ). flat_map (λ r. r ∷ f r) l) (sym (take_more c.args.records.now c.loop-id.id-index 0 c.loop-id-test.true))
