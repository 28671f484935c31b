use Rattle.std.proofs.Common.{rules, ◌≡◌, true, false, Bool, nat_lt, List, ℕ, sym}
use Rattle.std.specs.List.{IsAllAdjacentAnswer}
use Rattle.std.specs.List.Sorted.{IsStrictlyIncreasing}
use Rattle.std.proofs.lemmas.Bool.{ltb-true}
use Rattle.std.proofs.lemmas.List.Sorted.{answers_always}
use Rattle.newt_nsof_read.proofs.containers.rise.Goals as goal

each_below : (tags : List ℕ) (answer : Bool) → IsAllAdjacentAnswer (λ x y b. b ≡ nat_lt x y) tags answer → answer ≡ true → IsStrictlyIncreasing tags
each_below tags true all e = λ k within. ltb-true _ _ (sym (all k 0 within))
each_below tags false some e = cc

pub returns : goal.returns
returns c = each_below _ _ (c.is_sorted_by.ensures.cases nat_lt (answers_always _ _ _ (λ f a r g called. search rules)))
