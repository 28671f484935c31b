-- The commands, told apart by the arms that took others.
use Rattle.std.proofs.Common.{◌≡◌, ◌≤◌, refl, arith, ℕ, List, true, nat_le}
use Rattle.std.proofs.lemmas.Bool.{and_parts}
use Rattle.newt_spec_world.specs.declared.command.Command.{Command}
use Rattle.newt_spec_world.specs.declared.command.Command.TheVariants as command
use Rattle.newt_laws_world.specs.Worlds.{has_form, is_plain}

at-most : (n m : ℕ) → nat_le n m ≡ true → n ≤ m
at-most n m h = grind arith

pub watch-form : (s : List ℕ) (most : ℕ) → has_form (command.Watch s most) ≡ true → (1 ≤ most) × (most ≤ 64)
unfolding has_form
watch-form s most h =
    let parts = and_parts (nat_le 1 most) (nat_le most 64) h in
    (at-most 1 most parts.0, at-most most 64 parts.1)

pub plain-others : (c : Command) → ((s m : _) → c ≡ command.Watch s m → ⊥) → ((n : _) → c ≡ command.Notes n → ⊥) → ((n : _) → c ≡ command.Unwatch n → ⊥) → ((u s i : _) → c ≡ command.Open u s i → ⊥) → ((n : _) → c ≡ command.Draft n → ⊥)
    → ((n path g : _) → c ≡ command.Edit n path g → ⊥) → ((n : _) → c ≡ command.Save n → ⊥) → ((n : _) → c ≡ command.Revert n → ⊥) → ((n : _) → c ≡ command.Discard n → ⊥) → is_plain c ≡ true
unfolding is_plain
plain-others (command.Watch s m) watch notes unwatch opens draft edit save revert discard = absurd (watch s m refl)
plain-others (command.Notes n) watch notes unwatch opens draft edit save revert discard = absurd (notes n refl)
plain-others (command.Unwatch n) watch notes unwatch opens draft edit save revert discard = absurd (unwatch n refl)
plain-others (command.Open u s i) watch notes unwatch opens draft edit save revert discard = absurd (opens u s i refl)
plain-others (command.Draft n) watch notes unwatch opens draft edit save revert discard = absurd (draft n refl)
plain-others (command.Edit n path g) watch notes unwatch opens draft edit save revert discard = absurd (edit n path g refl)
plain-others (command.Save n) watch notes unwatch opens draft edit save revert discard = absurd (save n refl)
plain-others (command.Revert n) watch notes unwatch opens draft edit save revert discard = absurd (revert n refl)
plain-others (command.Discard n) watch notes unwatch opens draft edit save revert discard = absurd (discard n refl)
plain-others _ watch notes unwatch opens draft edit save revert discard = refl
