-- What a format leaves, and that no other command is one.
use Rattle.std.proofs.Common.{◌≡◌, refl, ap, sym, ◌∙◌, subst, ℕ, true, false, List, Ok, Err}
use Rattle.std.specs.Prelude.{Result, OnOk, IfOk, ◌==◌}
use Rattle.std.proofs.lemmas.Bool.{eqb-true}
use Rattle.newt_host.specs.Moments.{image}
use Rattle.newt_host.specs.Outside.{Outside}
use Rattle.newt_pagebook.specs.Book.{IsFresh}
use Rattle.newt_reply.specs.Said.{said}
use Rattle.newt_reply.specs.declared.reply.Reply.{Reply}
use Rattle.newt_spec_world.specs.Reply as plain
use Rattle.newt_spec_world.specs.Step.{is_format_of}
use Rattle.newt_spec_world.specs.declared.command.Command.{Command}
use Rattle.newt_spec_world.specs.declared.command.Command.TheVariants as command
use Rattle.newt_laws_world.specs.Cursors.{uses_cursors}
use Rattle.newt_store_change.specs.declared.fault.StoreFault.{StoreFault}
use Rattle.newt_engine.specs.Bounds.{is_format}
use Rattle.newt_engine.specs.Ends.{uses_device}
use Rattle.newt_engine.specs.Handed.{HandsOn}
use Rattle.newt_engine.proofs.Handed.{ok_on}

-- ---- no other command is a format

pub other-unformed : (c : Command) (u : ℕ) → is_format c ≡ false → is_format_of c u ≡ false
other-unformed (command.Format unit name sig) u is = cc
other-unformed _ u is = refl

pub memory-unformed : (c : Command) (u : ℕ) → uses_device c ≡ false → is_format_of c u ≡ false
memory-unformed (command.Format unit name sig) u is = cc
memory-unformed _ u is = refl

pub cursor-unformed : (c : Command) (u : ℕ) → uses_cursors c ≡ true → is_format_of c u ≡ false
unfolding uses_cursors
cursor-unformed (command.Format unit name sig) u is = cc
cursor-unformed _ u is = refl

-- ---- a format

on-done : (r : Result Reply StoreFault) (P : Type 0) → OnOk r P → IfOk r (λ it. said it ≡ plain.Reply.done → P)
on-done (Ok it) P is = λ done. is
on-done (Err fault) P is = tt

pub format-fresh : {T : Type 0} {made : T → plain.Reply} {found : Result T StoreFault} {result : Result Reply StoreFault} {c : Command} {unit : ℕ} {name : List ℕ} {sig : ℕ} (p : Outside) → HandsOn made found result
    → c ≡ command.Format unit name sig → (u : ℕ) → is_format_of c u ≡ true → OnOk found (IsFresh (image unit p.now)) → IfOk result (λ it. said it ≡ plain.Reply.done → IsFresh (image u p.now))
format-fresh {found = found} {result = result} {unit = unit} p on same u is fresh =
    let here : (unit == u) ≡ true = sym (ap (λ x. is_format_of x u) same) ∙ is in
    on-done result (IsFresh (image u p.now)) (ok_on on (IsFresh (image u p.now)) (subst (λ (k : ℕ). OnOk found (IsFresh (image k p.now))) (eqb-true unit u here) fresh))
