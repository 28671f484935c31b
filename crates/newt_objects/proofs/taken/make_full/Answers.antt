use Rattle.std.proofs.Common.{◌≡◌, ◌≢◌, sym, subst, arith, ⊎_elim}
use Rattle.std.proofs.lemmas.Bool.{cases_eq}
use Rattle.newt_objects.specs.Taken.{IsFull}
use Rattle.newt_objects.proofs.Live.{marks-full}
use Rattle.newt_objects.proofs.taken.make_full.Goals as goal

pub returns-then-taken-group-clause-full : goal.returns-then-taken-group-clause-full
returns-then-taken-group-clause-full c =
    let taken = c.args.taken.now in
    record {
      below = λ group under. ⊎_elim
          (λ (e : group ≡ c.args.group). subst (IsFull taken.flags.items) (sym e) c.requires.it)
          (λ (ne : group ≢ c.args.group). c.requires.full.below group (omega (arith, under)))
          (cases_eq group c.args.group);
      marked = marks-full taken.flags.items taken.full.items c.mark.new.taken.items c.args.group c.mark.ensures c.requires.it c.requires.full.marked;
    }

pub returns-else-taken-group-clause-full : goal.returns-else-taken-group-clause-full
returns-else-taken-group-clause-full c =
    let taken = c.args.taken.now in
    record {
      below = c.requires.full.below;
      marked = marks-full taken.flags.items taken.full.items c.mark.new.taken.items c.args.group c.mark.ensures c.requires.it c.requires.full.marked;
    }
