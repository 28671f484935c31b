use Rattle.std.proofs.Common.{◌≡◌, ℕ, List, take, arith, sym, subst}
use Rattle.std.proofs.lemmas.List.{take_all, take_more}
use Rattle.newt_objects.specs.declared.header.Header.{Header}
use Rattle.newt_check.specs.Parts.{first_of, kept_first}
use Rattle.newt_check.proofs.parts.index_first.Goals as goal

pub loop-header-preserved : goal.loop-header-preserved
loop-header-preserved c =
    let d : Header = record { number = 0; object = 0; part = 0; length = 0 } in
    subst (λ (hs : List Header). (o p : ℕ) → kept_first c.keep_first.new.parts o p ≡ first_of hs o p) (sym (take_more c.args.headers.now c.loop-header.header-index d (omega arith)))
    (c.in_ok-keep_first.ensures (take c.loop-header.header-index c.args.headers.now) c.loop-header.invariant)

pub returns : goal.returns
returns c = subst (λ (hs : List Header). (o p : ℕ) → kept_first c.loop-header.parts o p ≡ first_of hs o p) (take_all c.loop-header.header-index c.args.headers.now (omega arith)) c.loop-header.invariant
