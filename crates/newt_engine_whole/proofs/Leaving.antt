-- What a refused command leaves, by what the world left that was asked.
use Rattle.std.proofs.Common.{◌≡◌, refl, ap, sym, ◌∙◌, subst, ℕ, List, [], Bool, true, false}
use Rattle.std.specs.Prelude.{Option, Result, Ok, Err, IfOk}
use Rattle.std.specs.declared.alloc.AllocError.{AllocError}
use Rattle.newt_reply.specs.Said.{said}
use Rattle.newt_reply.specs.declared.reply.Reply.{Reply}
use Rattle.newt_spec_graph.proofs.Lists.{both-ways}
use Rattle.newt_spec_store.specs.Store.{Store}
use Rattle.newt_spec_whole.specs.Events.{Event}
use Rattle.newt_spec_world.specs.Reply as replies
use Rattle.newt_spec_world.specs.Step.{looks_at}
use Rattle.newt_spec_world.specs.declared.command.Command.{Command}
use Rattle.newt_engine_units.specs.Kept.{KeepsUnits}
use Rattle.newt_engine_units.specs.declared.units.Units.{Units}
use Rattle.newt_engine_units.proofs.Keeping.{keeps-append, keeps-refl}
use Rattle.newt_engine.specs.Groups.{is_between}
use Rattle.newt_engine.specs.Kept.{KeepsWorld, leaves_all}
use Rattle.newt_engine.specs.declared.world.World.{World}
use Rattle.newt_engine_whole.specs.Kept.{KeepsWhole, is_refusal}
use Rattle.newt_engine_whole.specs.Told.{due_told}
use Rattle.newt_engine_whole.specs.declared.due.Due.{Due}
use Rattle.newt_engine_whole.specs.declared.whole.Whole.{Whole}

-- a refusal leaves all
pub refusal-leaves : (c : Command) (r : replies.Reply) → is_refusal r ≡ true → leaves_all c r ≡ true
refusal-leaves c (replies.Reply.refused refusal) is = refl
refusal-leaves c _ is = absurd (both-ways is)

-- and no note is due after it
pub refusal-told : {C : Type 0} (soups : C → Store) (units : Units C) (due : Due) (r : replies.Reply) → is_refusal r ≡ true → due_told soups units due r ≡ []
refusal-told soups units due (replies.Reply.refused refusal) is = refl
refusal-told soups units due _ is = absurd (both-ways is)

-- a reply in other words
pub no-refusal : {P : Type 0} {r q : replies.Reply} → r ≡ q → is_refusal q ≡ false → is_refusal r ≡ true → P
no-refusal says never is = absurd (both-ways (sym never ∙ ap is_refusal (sym says) ∙ is))

module _ {C : Type 0} where
  pub world-refl : (c : Command) (a : World C) → KeepsWorld c a a
  world-refl c a = record { units = keeps-refl a.units; desk = λ within. refl }

  pub world-append : {c : Command} {a b d : World C} → KeepsWorld c a b → KeepsWorld c b d → KeepsWorld c a d
  world-append s t = record { units = keeps-append s.units t.units; desk = λ within. t.desk within ∙ s.desk within }

  -- a command asks another
  pub world-as : {c d : Command} {a b : World C} → looks_at c ≡ looks_at d → is_between c ≡ false → KeepsWorld c a b → KeepsWorld d a b
  world-as {a = a} {b} looks within k = record {
    units = subst (λ (looked : Option ℕ). KeepsUnits looked a.units b.units) looks k.units;
    desk = λ other. k.desk within;
  }

  pub whole-refl : (c : Command) (a : Whole C) → KeepsWhole c a a
  whole-refl c a = record { world = world-refl c a.world; watches = refl; works = refl }

  -- the world alone was asked
  pub whole-asked : {c : Command} {old : Whole C} {mid : World C} → KeepsWorld c old.world mid → KeepsWhole c old (record old { world = mid })
  whole-asked k = record { world = k; watches = refl; works = refl }

  -- nothing of the world was
  pub whole-apart : (c : Command) (old new : Whole C) (result : Result Reply AllocError) → new.world ≡ old.world
      → IfOk result (λ it. is_refusal (said it) ≡ true → (new.watches ≡ old.watches) × (new.works ≡ old.works))
      → IfOk result (λ it. is_refusal (said it) ≡ true → KeepsWhole c old new)
  whole-apart c old new (Ok it) world kept = λ is. record {
    world = subst (λ (w : World C). KeepsWorld c old.world w) (sym world) (world-refl c old.world);
    watches = (kept is).0;
    works = (kept is).1;
  }
  whole-apart c old new (Err error) world kept = tt

  -- the world was asked before
  pub whole-after : (c : Command) (old last : Whole C) (mid : World C) (result : Result Reply AllocError) → KeepsWorld c old.world mid
      → IfOk result (λ it. is_refusal (said it) ≡ true → KeepsWhole c (record old { world = mid }) last) → IfOk result (λ it. is_refusal (said it) ≡ true → KeepsWhole c old last)
  whole-after c old last mid (Ok it) first kept = λ is. let k = kept is in record { world = world-append first k.world; watches = k.watches; works = k.works }
  whole-after c old last mid (Err error) first kept = tt
