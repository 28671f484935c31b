use Rattle.std.proofs.Common.{◌≡◌, ℕ, List, Option, take, get_or, arith, refl, sym, ◌∙◌, ap}
use Rattle.std.proofs.lemmas.List.{take_all, take_more}
use Rattle.newt_objects.specs.declared.header.Header.{Header}
use Rattle.newt_spec_check.specs.Damage.{least}
use Rattle.newt_check.specs.Parts.{broken_by, is_own, kept_first, passes}
use Rattle.newt_check.proofs.Whole.{broken-more, no-lengths}
use Rattle.newt_check.proofs.parts.broken_object.Goals as goal

pub loop-header-init : goal.loop-header-init
loop-header-init c = record { lengths = no-lengths (kept_first c.in_ok-parts.parts) c.new-lengths.result c.new-lengths.ensures.empty; least_is = refl }

pub loop-header-preserved : goal.loop-header-preserved
loop-header-preserved c =
    let d : Header = record { number = 0; object = 0; part = 0; length = 0 } in
    let first = kept_first c.in_ok-parts.parts in
    let h : Header = get_or c.args.headers.now c.loop-header.header-index d in
    let seen : List Header = take c.loop-header.header-index c.args.headers.now in
    let is : passes first h ≡ c.is_page-is_own.result = ap (λ (l : Option ℕ). is_own first l h) (sym c.in_ok-length.ensures.length) ∙ sym c.is_page-is_own.ensures in
    record {
      lengths = c.in_ok-length.ensures.kept;
      least_is = c.with_broken-least.ensures (broken_by first seen) c.loop-header.invariant.least_is
          ∙ ap least (sym (broken-more first seen h c.is_page-is_own.result is))
          ∙ ap (λ (hs : List Header). least (broken_by first hs)) (sym (take_more c.args.headers.now c.loop-header.header-index d (omega arith)));
    }

pub returns : goal.returns
returns c =
    c.loop-header.invariant.least_is
    ∙ ap (λ (hs : List Header). least (broken_by (kept_first c.in_ok-parts.parts) hs)) (take_all c.loop-header.header-index c.args.headers.now (omega arith))
    ∙ ap (λ (f : ℕ → ℕ → Option Header). least (broken_by f c.args.headers.now)) (λ i o p. c.in_ok-parts.ensures o p i)
