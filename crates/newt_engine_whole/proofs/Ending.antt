-- How a command ends that asks itself of the world, by how it ends there.
use Rattle.std.proofs.Common.{◌≡◌, refl, sym, ◌∙◌, subst, ℕ, List, [], ◌∷◌, Bool, true, Option}
use Rattle.std.specs.declared.alloc.AllocError.{AllocError}
use Rattle.std.specs.Prelude.{Result}
use Rattle.newt_host.specs.Outside.{Outside}
use Rattle.newt_reply.specs.declared.reply.Reply.{Reply}
use Rattle.newt_spec_graph.proofs.Lists.{both-ways}
use Rattle.newt_spec_store.specs.Store.{Store}
use Rattle.newt_spec_whole.specs.Whole as plain
use Rattle.newt_spec_whole.specs.Whole.{asked_in_turn, asks}
use Rattle.newt_spec_world.specs.declared.command.Command.{Command}
use Rattle.newt_spec_world.specs.declared.command.Command.TheVariants as command
use Rattle.newt_laws_answers.specs.Fetched.{means_entries}
use Rattle.newt_laws_world.specs.Worlds.{is_plain}
use Rattle.newt_engine.specs.Calls.{Finished}
use Rattle.newt_engine.specs.Ends.{takes_memory, uses_device}
use Rattle.newt_engine.specs.Standing.{stood_for}
use Rattle.newt_engine_whole.specs.Bounds.{whole_means_entries}
use Rattle.newt_engine_whole.specs.Calls.{Ended}
use Rattle.newt_engine_whole.specs.Ends.{whole_takes_memory, whole_uses_device}
use Rattle.newt_engine_whole.specs.Standing.{known_whole}
use Rattle.newt_engine_whole.specs.declared.whole.Whole.{Whole}
use Rattle.newt_engine_whole.proofs.Costing.{first-fetches, first-programs}

-- what a command says of itself, it says of what it asks
record Same (h : plain.Whole) (c : Command) : Type 0 where
  turn : asked_in_turn h c ≡ c ∷ []
  entries : whole_means_entries c ≡ means_entries c
  memory : whole_takes_memory c ≡ takes_memory c
  device : whole_uses_device c ≡ uses_device c

same : (h : plain.Whole) (c : Command) → is_plain c ≡ true → Same h c
unfolding asks is_plain
same h (command.Watch s most) p = absurd (both-ways p)
same h (command.Notes n) p = absurd (both-ways p)
same h (command.Unwatch n) p = absurd (both-ways p)
same h (command.Open u s uid) p = absurd (both-ways p)
same h (command.Draft n) p = absurd (both-ways p)
same h (command.Edit n path g) p = absurd (both-ways p)
same h (command.Save n) p = absurd (both-ways p)
same h (command.Revert n) p = absurd (both-ways p)
same h (command.Discard n) p = absurd (both-ways p)
same h _ p = record { turn = refl; entries = refl; memory = refl; device = refl }

pub ended-plain : {C : Type 0} {reads : List ℕ → Option Store} {told : Bool} {c : Command} {old : Whole C} {o p : Outside} {result : Result Reply AllocError} → is_plain c ≡ true
    → Finished reads told c old.world o p result → Ended reads told c (asked_in_turn (known_whole reads old o) c) old o p result
ended-plain {C} {reads} {told} {c} {old} {o} {p} {result} plain f =
    let h = known_whole reads old o in
    let s = same h c plain in
    let w = stood_for reads old.world o in
    let ended : Ended reads told c (c ∷ []) old o p result = record {
      alone = f.alone;
      bound = λ t other u. first-programs w c [] u (f.bound t other u);
      format = f.format;
      fresh = f.fresh;
      fetched = λ t means u. first-fetches w c [] u o p (f.settling t (sym s.entries ∙ means) u);
      step = f.step;
      shown = f.shown;
      open_after = f.open_after;
      threw = f.threw;
      failed = f.failed;
      unhidden = f.unhidden;
      later = f.later;
      never_memory = λ none. f.never_memory (sym s.memory ∙ none);
      never_thrown = λ none. f.never_thrown (sym s.device ∙ none);
    } in
    subst (λ (ds : List Command). Ended reads told c ds old o p result) (sym s.turn) ended
