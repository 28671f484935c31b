use Rattle.std.proofs.Common.{ℕ, List, [], ◌∷◌, ◌++◌, map, sym, ◌∙◌, ap, append_assoc}
use Rattle.std.specs.Map.Iter.{deref_pair}
use Rattle.std.proofs.lemmas.List.{map-append}
use Rattle.newt_objects_commit.specs.Places.{picked}
use Rattle.newt_objects_commit.proofs.Placing.{picked-push}
use Rattle.newt_objects_commit.proofs.places.pick.Goals as goal

pub loop-key-preserved : goal.loop-key-preserved
loop-key-preserved c =
    let done : List ((ℕ × ℕ) × ℕ) = map deref_pair c.loop-key.yielded in
    let row : (ℕ × ℕ) × ℕ = (c.in-Some.key.now, c.in-Some.id.now) in
    let old : List ℕ = c.args.ids.now.items in
    c.in_ok-pick_one.ensures ∙ ap (λ (l : List ℕ). l ++ picked c.args.sig (row ∷ [])) c.loop-key.invariant ∙ append_assoc old (picked c.args.sig done) (picked c.args.sig (row ∷ []))
    ∙ ap (λ (l : List ℕ). old ++ l) (sym (picked-push c.args.sig done row))
    ∙ ap (λ (l : List ((ℕ × ℕ) × ℕ)). old ++ picked c.args.sig l) (sym (map-append deref_pair c.loop-key.yielded ((c.in-Some.key, c.in-Some.id) ∷ [])))
