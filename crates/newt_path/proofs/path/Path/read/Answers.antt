use Rattle.std.proofs.Common.{rules, arith, ◌≡◌, ◌∙◌, sym, ap, length, subst, List, ℕ, Some, refl, true, ◌≤◌}
use Rattle.std.specs.Prelude.{◌==◌}
use Rattle.std.proofs.lemmas.List.{length-map}
use Rattle.std.proofs.lemmas.Iterator.Splits.{YieldsList-from_slice_split}
use Rattle.std.proofs.lemmas.Iterator.Consumers.{YieldsList-turn, YieldsList-end}
use Rattle.std.proofs.lemmas.Bool.Decides.{nat_tests}
use Rattle.newt_base.specs.Names.{is_identifier}
use Rattle.newt_path.specs.Names.{path_of}
use Rattle.std.specs.List.{list_all}
use Rattle.newt_path.proofs.Reading.{pieces, too_many, no_name, path_is, all_names, names_are_path}
use Rattle.newt_path.proofs.path.Path.read.Goals as goal
use Rattle.newt_path.proofs.path.Path.read.Goals.{then-len-ge-MOST-via-then-len-ge-MOST, then-len-ge-MOST-via-else-len-ge-MOST+then-not-is_identifier}

pub returns-then-len-ge-MOST-clause-path : goal.returns-then-len-ge-MOST-clause-path
returns-then-len-ge-MOST-clause-path c = λ is.
    let road = YieldsList-from_slice_split {s = c.into_iter-name-iterator.result} _ (λ b. b == 46) c.args.text.now (search rules) (search rules) (search rules) (λ x b q k. grind (arith, nat_tests, k)) in
    let t = YieldsList-turn road c.loop-name.yielded _ c.loop-name.yielded_by _ _ c.in-Some.name c.in-Some.is c.next.ensures.steps in
    let size : length c.loop-name.items.items ≡ length c.loop-name.yielded = ap length c.loop-name.invariant.2 ∙ length-map c.loop-name.yielded (λ x. x.now) in
    elim c.then-len-ge-MOST.branch [
      | then-len-ge-MOST-via-then-len-ge-MOST w ↦ too_many c.args.text.now (length c.loop-name.yielded) t.0 (search rules)
      | then-len-ge-MOST-via-else-len-ge-MOST+then-not-is_identifier w ↦ no_name c.args.text.now (length c.loop-name.yielded) c.in-Some.name.now t.0 t.1 (search rules)
    ]

pub invariant_of-result : goal.invariant_of-result
invariant_of-result c =
    let road = YieldsList-from_slice_split {s = c.into_iter-name-iterator.result} _ (λ b. b == 46) c.args.text.now (search rules) (search rules) (search rules) (λ x b q k. grind (arith, nat_tests, k)) in
    let t = YieldsList-end road c.loop-name.yielded _ c.loop-name.yielded_by _ _ c.in-None.is c.next.ensures.steps in
    let names = c.loop-name.items.items in
    let all : names ≡ pieces c.args.text.now = c.loop-name.invariant.2 ∙ t.0 in
    names_are_path names (all_names c.args.text.now names all c.loop-name.invariant.3 c.loop-name.invariant.4)

pub returns-clause-ok : goal.returns-clause-ok
returns-clause-ok c =
    let road = YieldsList-from_slice_split {s = c.into_iter-name-iterator.result} _ (λ b. b == 46) c.args.text.now (search rules) (search rules) (search rules) (λ x b q k. grind (arith, nat_tests, k)) in
    let t = YieldsList-end road c.loop-name.yielded _ c.loop-name.yielded_by _ _ c.in-None.is c.next.ensures.steps in
    let names = c.loop-name.items.items in
    let all : names ≡ pieces c.args.text.now = c.loop-name.invariant.2 ∙ t.0 in
    subst (λ (ns : List (List ℕ)). path_of c.args.text.now ≡ Some ns) (sym all) (path_is c.args.text.now (all_names c.args.text.now (pieces c.args.text.now) refl (subst (λ (ns : List (List ℕ)). length ns ≤ 8) all c.loop-name.invariant.3) (subst (λ (ns : List (List ℕ)). list_all is_identifier ns ≡ true) all c.loop-name.invariant.4)))
