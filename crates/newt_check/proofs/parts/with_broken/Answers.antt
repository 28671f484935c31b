use Rattle.std.proofs.Common.{◌++◌, ◌∷◌, [], ℕ, Bool, if◌then◌else◌, Option, Some, sym, ◌∙◌, ap}
use Rattle.newt_spec_check.specs.Damage.{least}
use Rattle.newt_check.proofs.Whole.{least-first, least-more}
use Rattle.std.proofs.lemmas.List.{append-nil}
use Rattle.newt_check.proofs.parts.with_broken.Goals as goal

pub returns-then-is_own : goal.returns-then-is_own
returns-then-is_own c ids h = h ∙ ap least (sym (append-nil ids))
    ∙ ap (λ (b : Bool). least (ids ++ (if b then [] else c.args.id ∷ []))) (sym c.if-is_own.true)

pub returns-in-Some : goal.returns-in-Some
returns-in-Some c ids h = ap (λ (n : ℕ). let o : Option ℕ = Some n in o) c.min.ensures ∙ least-more ids c.in-Some.other c.args.id (sym c.in-Some.is ∙ h)
    ∙ ap (λ (b : Bool). least (ids ++ (if b then [] else c.args.id ∷ []))) (sym c.if-is_own.false)

pub returns-in-None : goal.returns-in-None
returns-in-None c ids h = least-first ids c.args.id (sym c.in-None.is ∙ h)
    ∙ ap (λ (b : Bool). least (ids ++ (if b then [] else c.args.id ∷ []))) (sym c.if-is_own.false)
