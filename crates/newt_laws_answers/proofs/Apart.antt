-- What is answered to the commands that use no cursor, apart from the cursors.
use Rattle.std.proofs.Common.{◌≡◌, ap, sym, ◌∙◌, subst, List, false, IsTrue, Option, Some, None}
use Rattle.std.specs.Prelude.{is_none}
use Rattle.std.specs.List.{list_all}
use Rattle.newt_base.specs.Refusals.{first_of}
use Rattle.newt_base.specs.declared.Refusal.{Refusal}
use Rattle.newt_spec_query.specs.Cursor.{Cursor}
use Rattle.newt_spec_world.specs.declared.command.Command.{Command}
use Rattle.newt_spec_world.specs.Reply.{Reply}
use Rattle.newt_spec_world.specs.World.{World, settle}
use Rattle.newt_spec_world.specs.Changed.{changed}
use Rattle.newt_spec_world.specs.Refused.{checks}
use Rattle.newt_spec_world.specs.Answer.{answer, answered}
use Rattle.newt_laws_world.specs.Settled.{IsSettled, MountedApart, moves_keys}
use Rattle.newt_laws_world.proofs.Fewer.{row-settled}
use Rattle.newt_laws_world.proofs.Kept.{Every, Wf}
use Rattle.newt_laws_world.specs.Cursors.{with_cursors, all_closed, uses_cursors}
use Rattle.newt_laws_world.proofs.Uncursored.{answered-apart, changed-apart, checks-apart, closed-settled, kept-apart}

-- no cursor is open afterwards, if none was
still-closed : (w : World) (c : Command) → uses_cursors c ≡ false → IsTrue (all_closed w) → settle (changed w c) ≡ changed w c
still-closed w c h closed = closed-settled (changed w c) (ap (list_all is_none) (kept-apart w c h) ∙ closed)

-- such a command is answered as it is without cursors, and then those that are open are settled
pub answer-beside : (ks : List (Option Cursor)) (w : World) (c : Command) → uses_cursors c ≡ false → IsTrue (all_closed w) → IsSettled (with_cursors ks w)
    → answer (with_cursors ks w) c ≡ (settle (with_cursors ks (answer w c).0), (answer w c).1)
unfolding answer
answer-beside ks w c h closed settled = ap (λ t. answered (with_cursors ks w) c (first_of t)) (checks-apart ks w c h) ∙ go (first_of (checks w c))
  where
    go : (o : Option Refusal) → answered (with_cursors ks w) c o ≡ (settle (with_cursors ks (answered w c o).0), (answered w c o).1)
    go (Some r) = λ i. (sym settled i, Reply.refused r)
    go None = answered-apart ks w c h ∙ (λ i. (settle (with_cursors ks (sym (still-closed w c h closed) i)), (answered w c None).1))

-- and where such a command moves no key, there is nothing to settle
pub answer-still : (ks : List (Option Cursor)) (w : World) (c : Command) → uses_cursors c ≡ false → moves_keys c ≡ false → IsTrue (all_closed w) → Every Wf w → MountedApart w
    → IsSettled (with_cursors ks w) → IsSettled (with_cursors ks (answer w c).0)
unfolding answer
answer-still ks w c h few closed formed apart settled = go (first_of (checks w c))
  where
    go : (o : Option Refusal) → IsSettled (with_cursors ks (answered w c o).0)
    go (Some r) = settled
    go None = subst (λ v. IsSettled (with_cursors ks v)) (sym (still-closed w c h closed))
        (subst IsSettled (changed-apart ks w c h) (row-settled (with_cursors ks w) c formed apart settled few))
