-- A working copy begins in a step, where devices may fail.
use Rattle.std.proofs.Common.{◌≡◌, inl, inr, refl, ap, sym, ◌∙◌, ℕ, List, [], Option, Some, None}
use Rattle.newt_base.specs.Refusals.{first_of}
use Rattle.newt_base.specs.declared.Refusal.{Refusal}
use Rattle.newt_spec_store.specs.Store.{Entry, Soup, Store}
use Rattle.newt_work.specs.Work.{Copy, opened, rebased}
use Rattle.newt_spec_world.specs.Alias.{Spot}
use Rattle.newt_spec_world.specs.Answer.{or_nil}
use Rattle.newt_spec_world.specs.Reply.{Reply}
use Rattle.newt_spec_world.specs.World.{entry_in, mounted_store, soup_in}
use Rattle.newt_spec_world.specs.declared.command.Command.{Command}
use Rattle.newt_spec_world.specs.declared.command.Command.TheVariants as command
use Rattle.newt_laws_world.specs.Worlds.{is_plain}
use Rattle.newt_laws_world.proofs.Kept.{all-false, not-none}
use Rattle.newt_spec_whole.specs.Whole.{Whole, copy, free_copy, living}
use Rattle.newt_spec_whole.specs.Refused.{whole_checks}
use Rattle.newt_spec_whole.specs.Answer.{whole_answer, whole_answered}
use Rattle.newt_spec_whole.specs.Answer as answers
use Rattle.newt_spec_whole.specs.Step.{WholeStep}
use Rattle.newt_laws_whole.specs.Since.{IsDone}
use Rattle.newt_laws_whole.proofs.Asking.{other-steps, spot-there}
use Rattle.newt_laws_whole.proofs.Drafts.{begun-open, begun-revert, begun-save}
use Rattle.newt_laws_whole.proofs.RunCopies.{ok-step}

pub saved-step : (h : Whole) (n : ℕ) (k : Copy) (v : Whole) → WholeStep h (command.Save n) v Reply.done → copy h n ≡ Some k → copy v n ≡ Some (rebased h.world.minute k.draft k)
unfolding is_plain
saved-step h n k v s here =
    let a = ok-step h (command.Save n) v refl s in
    ap (λ (x : Whole × Reply). copy x.0 n) (sym a.0) ∙ begun-save h n k a.1 here

pub reverted-step : (h : Whole) (n : ℕ) (k : Copy) (v : Whole) → WholeStep h (command.Revert n) v Reply.done → copy h n ≡ Some k
    → (s : Spot) × (living h k ≡ Some s) × (copy v n ≡ Some (rebased s.entry.time s.entry.graph k))
unfolding is_plain whole_checks
reverted-step h n k v s here =
    let a = ok-step h (command.Revert n) v refl s in
    let at = spot-there h n [] k here a.1 in
    (at.0, at.1, ap (λ (x : Whole × Reply). copy x.0 n) (sym a.0) ∙ begun-revert h n k at.0 a.1 here at.1)

-- ---- an open

module _ (h : Whole) (u : ℕ) (name : List ℕ) (uid n : ℕ) where
  abbrev ask : Command
  ask = command.Open u name uid

  -- the number is the least that is free
  by-number : (o : Option ℕ) → or_nil Reply.number o ≡ Reply.number n → o ≡ Some n
  by-number None e = absurd (cc)
  by-number (Some m) e = ap (λ (r : Reply). number-of r) e
    where
      number-of : Reply → Option ℕ
      number-of (Reply.number k) = Some k
      number-of r = None

  not-refused : (v : Whole) → whole_answer h ask ≡ (v, Reply.number n) → IsDone h ask × (free_copy h ≡ Some n)
  unfolding whole_answer answers.whole_fields
  not-refused v is = go (first_of (whole_checks h ask)) refl is
    where
      go : (o : Option Refusal) → first_of (whole_checks h ask) ≡ o → whole_answered h ask o ≡ (v, Reply.number n) → IsDone h ask × (free_copy h ≡ Some n)
      go (Some r) e is = absurd (numbered (ap (λ (x : Whole × Reply). x.1) is))
        where
          numbered : Reply.refused r ≡ Reply.number n → ⊥
          numbered e = cc
      go None e is = (e, by-number (free_copy h) (ap (λ (x : Whole × Reply). x.1) is))

  -- the tests that it passed
  store-there : IsDone h ask → (t : Store) × (mounted_store h.world u ≡ Some t)
  unfolding whole_checks
  store-there done = not-none (mounted_store h.world u) (all-false (whole_checks h ask) done).1.0

  soup-there : IsDone h ask → (p : Soup) × (soup_in h.world u name ≡ Some p)
  unfolding whole_checks
  soup-there done = not-none (soup_in h.world u name) (all-false (whole_checks h ask) done).1.1.0

  entry-there : IsDone h ask → (e : Entry) × (entry_in h.world u name uid ≡ Some e)
  unfolding whole_checks
  entry-there done = not-none (entry_in h.world u name uid) (all-false (whole_checks h ask) done).1.1.1.0

  pub opened-step : (v : Whole) → WholeStep h ask v (Reply.number n)
      → (t : Store) × (p : Soup) × (e : Entry) × (mounted_store h.world u ≡ Some t) × (soup_in h.world u name ≡ Some p) × (entry_in h.world u name uid ≡ Some e)
      × (copy v n ≡ Some (opened t.sig p.sig e.uid e.time e.graph))
  unfolding is_plain
  opened-step v s = elim (other-steps h ask v (Reply.number n) refl s) [
    | inl is ↦
        let d = not-refused v is in
        let t = store-there d.0 in
        let p = soup-there d.0 in
        let e = entry-there d.0 in
        (t.0, p.0, e.0, t.1, p.1, e.1, ap (λ (x : Whole × Reply). copy x.0 n) (sym is) ∙ begun-open h u name uid n t.0 p.0 e.0 d.0 d.1 t.1 p.1 e.1)
    | inr t ↦ absurd (thrown t.0 t.4)
  ]
    where
      thrown : (x : ℕ) → Reply.number n ≡ Reply.thrown x → ⊥
      thrown x e = cc
