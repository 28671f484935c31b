use Rattle.std.proofs.Common.{◌≡◌, ◌≢◌, refl, sym, ◌∙◌, ap, subst, slice_get, arith, ⊎_elim}
use Rattle.std.proofs.lemmas.Bool.{cases_eq}
use Rattle.newt_objects.specs.Taken.{IsFull}
use Rattle.newt_objects.proofs.taken.raise.Goals as goal

pub loop-group-preserved : goal.loop-group-preserved
loop-group-preserved c =
    let i = c.loop-group.invariant in
    let taken = c.loop-group.taken in
    let group = c.loop-group.group in
    record {
      low = refl;
      flags = i.flags;
      full = record {
        below = λ other under. ⊎_elim
            (λ (e : other ≡ group). subst (IsFull taken.flags.items) (sym e)
            (i.full.marked group (ap (λ l. slice_get l group) (sym c.deref.ensures.value) ∙ c.has_flag.ensures c.if-not-has_flag.false)))
            (λ (ne : other ≢ group). i.full.below other (omega (arith, under, i.low)))
            (cases_eq other group);
        marked = i.full.marked;
      };
    }
