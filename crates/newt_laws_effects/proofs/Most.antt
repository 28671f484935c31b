-- What a command programs at most is what its changes program, where nothing refuses them.
use Rattle.std.proofs.Common.{◌≡◌, refl, ap, sym, ◌∙◌, ℕ, [], Bool, true, false, cond, Option, Some, None}
use Rattle.std.specs.Option.{is_some}
use Rattle.std.specs.Prelude.{Ok, Err}
use Rattle.newt_base.specs.Refusals.{Checks, first_of}
use Rattle.newt_base.specs.declared.Refusal.{Refusal}
use Rattle.newt_spec_world.specs.Changed.{changed}
use Rattle.newt_spec_world.specs.Refused.{checks}
use Rattle.newt_spec_world.specs.World.{World}
use Rattle.newt_spec_world.specs.declared.command.Command.{Command}
use Rattle.newt_spec_world.specs.declared.command.Command.TheVariants as command
use Rattle.newt_laws_world.proofs.Kept.{Every, Wf}
use Rattle.newt_laws_answers.specs.Bounds.{bytes_done, most_programmed, unless}
use Rattle.newt_laws_effects.specs.Derived.{most_of, refusal, tests_of}
use Rattle.newt_laws_effects.specs.Effects.{Resolved, effects}
use Rattle.newt_laws_effects.specs.Tells.{is_of_stores}
use Rattle.newt_laws_effects.proofs.Refusing.{row-refusal}
use Rattle.newt_laws_effects.proofs.Telling.{rows-tell}

-- a command that has no row makes no change
pub no-effects : (w : World) (c : Command) → is_of_stores c ≡ false → effects w c ≡ Ok []
unfolding effects is_of_stores
no-effects w (command.Soup _ _) h = cc
no-effects w (command.Drop _ _) h = cc
no-effects w (command.Index _ _ _) h = cc
no-effects w (command.Unindex _ _ _) h = cc
no-effects w (command.SetTags _ _ _ _) h = cc
no-effects w (command.SetInfo _ _ _) h = cc
no-effects w (command.Add _ _ _) h = cc
no-effects w (command.Addx _ _ _) h = cc
no-effects w (command.Addu _ _) h = cc
no-effects w (command.Set _ _ _ _ _) h = cc
no-effects w (command.Change _ _ _ _) h = cc
no-effects w (command.Remove _ _ _) h = cc
no-effects w (command.Copy _ _ _ _ _) h = cc
no-effects w (command.Move _ _ _ _ _) h = cc
no-effects w (command.Vwrite _ _ _ _ _ _) h = cc
no-effects w c h = refl

unless-none : (tests : Checks) → unless tests 0 ≡ 0
unless-none tests = go (first_of tests)
  where
    go : (o : Option Refusal) → ◌≡◌ {A = ℕ} (cond (is_some o) 0 0) 0
    go None = refl
    go (Some r) = refl

pub row-most : (w : World) (c : Command) (u : ℕ) → Every Wf w → most_programmed w c u ≡ most_of w (effects w c) u
unfolding most_programmed
row-most w c u all = go (is_of_stores c) refl (effects w c) refl
  where
    go : (b : Bool) → is_of_stores c ≡ b → (r : Resolved) → effects w c ≡ r → unless (checks w c) (bytes_done w (changed w c) c u) ≡ most_of w r u
    go false b r e =
        ap (unless (checks w c)) ((rows-tell w c [] all (no-effects w c b)).bytes_are u) ∙ unless-none (checks w c)
        ∙ ap (λ x. most_of w x u) (sym (no-effects w c b) ∙ e)
    go true b (Err x) e = ap (λ o. cond (is_some o) 0 (bytes_done w (changed w c) c u)) (row-refusal w c all b ∙ ap (refusal w) e)
    go true b (Ok es) e = ap (λ o. cond (is_some o) 0 (bytes_done w (changed w c) c u)) (row-refusal w c all b ∙ ap (refusal w) e)
        ∙ ap (unless (tests_of w es)) ((rows-tell w c es all e).bytes_are u)
