-- What a call on the units answers, handed on as the reply to its command.
use Rattle.std.proofs.Common.{arith, ◌≡◌, refl, ap, sym, ◌∙◌, subst, ℕ, ◌+◌, ◌≤◌, List, Bool, true, false, Option, Some, None}
use Rattle.std.specs.Prelude.{Result, IfErr}
use Rattle.newt_base.specs.declared.Refusal.{Refusal}
use Rattle.newt_host.specs.Outside.{Outside}
use Rattle.newt_host.proofs.Outside.{NoFault-refl}
use Rattle.newt_reply.specs.declared.reply.Reply.{Reply}
use Rattle.newt_spec_graph.proofs.Lists.{both-ways}
use Rattle.newt_spec_store.specs.Store.{Store}
use Rattle.newt_spec_world.specs.declared.command.Command.{Command}
use Rattle.newt_spec_world.specs.Step.{is_format_of, looks_at}
use Rattle.newt_spec_world.specs.Reply as plain
use Rattle.newt_store_change.specs.declared.fault.StoreFault.{StoreFault}
use Rattle.newt_laws_world.specs.Settled.{IsSettled}
use Rattle.newt_store_change.specs.Faults.{IsRefusal, IsRefused, NoDevice}
use Rattle.newt_engine_units.specs.Answers.{Answers}
use Rattle.newt_engine_card.specs.Bounds.{FetchesAtMost}
use Rattle.newt_engine_units.specs.Breaks.{AtDevice}
use Rattle.newt_engine_units.specs.Calls.{AreRead, BreaksIn, Obeys}
use Rattle.newt_engine_units.specs.Kept.{KeepsUnits, shows_entry}
use Rattle.newt_engine_units.proofs.Broken.{none-devices}
use Rattle.newt_laws_steps.specs.StandsFor.{seen}
use Rattle.newt_reply.specs.Said.{said}
use Rattle.newt_spec_script.specs.Rows.{throws}
use Rattle.newt_engine_units.specs.Stands.{world_of}
use Rattle.newt_engine_cursors.specs.Calls.{Walks}
use Rattle.newt_engine_cursors.proofs.Calls.{answers-none}
use Rattle.newt_engine_cursors.specs.Replies.{shown_reply, side_reply}
use Rattle.newt_engine_cursors.specs.declared.show.Shown.{Shown}
use Rattle.newt_engine_cursors.specs.declared.show.Shown.TheVariants.{Nil, Deleted, Entry}
use Rattle.newt_engine_cursors.specs.declared.show.Side.{Side}
use Rattle.newt_engine_cursors.specs.declared.show.Side.TheVariants as at
use Rattle.newt_spec_world.specs.Answer.{or_nil}
use Rattle.newt_engine_cursors.specs.Unread.{steps_unread, walks_unread}
use Rattle.newt_engine_cursors.specs.Fits.{DeskFits}
use Rattle.newt_engine_cursors.specs.World.{world_with}
use Rattle.newt_engine.specs.Bounds.{is_format, most_stepped}
use Rattle.newt_engine.specs.Calls.{Obeyed, Walked}
use Rattle.newt_engine.specs.Ends.{takes_memory, uses_device}
use Rattle.newt_engine.specs.Handed.{HandsOn}
use Rattle.newt_engine.specs.declared.world.World.{World}
use Rattle.newt_engine.proofs.Costing.{costs_on}
use Rattle.newt_engine.proofs.Forming.{other-unformed}
use Rattle.newt_engine.proofs.Keeping.{idle_back, refused_back}
use Rattle.newt_engine.proofs.Handed.{answered_on, err_on, fetched_on, goes_back, has_cause, moments_same, quiet_on}

-- the command is one that may take memory and use a device
pub handed_obeyed : {C : Type 0} {reads : List ℕ → Option Store} {place : C → ℕ} {standing : Bool → C → Outside → Type 0} {told : Bool} {T : Type 0} {made : T → plain.Reply} {found : Result T StoreFault}
    {result : Result Reply StoreFault} {c d : Command} {old new : World C} {o p : Outside} → HandsOn made found result → c ≡ d → takes_memory d ≡ true → uses_device d ≡ true → is_format d ≡ false
    → ((x : T) (r : Refusal) → made x ≡ plain.Reply.refused r → ⊥) → ((x : T) (u : ℕ) → throws u (made x) ≡ false) → Obeys reads place standing told d made old.units new.units o p found → new.desk ≡ old.desk → Obeyed reads place standing told c old new o p result
handed_obeyed {reads = reads} {place} {standing} {told} {found = found} {result = result} {c = c} {old = old} {new = new} {o = o} {p} on is memory device other never quiet call desk = record {
  stands = λ goes. call.stands (goes_back on goes);
  answered = λ t. subst (λ x. Answers (seen reads (world_of reads old.units o) o.now x) (world_of reads new.units p) x said result) (sym is) (answered_on on _ _ refl (call.answered t));
  moments = λ t. moments_same reads _ _ _ _ c _ is (call.moments t);
  desk = desk;
  costs = λ t. costs_on on is other (call.costs t);
  fresh = λ t u same. absurd (both-ways (sym (other-unformed _ u other) ∙ sym (ap (λ x. is_format_of x u) is) ∙ same));
  alone = call.alone;
  broke = subst (λ x. IfErr result (AtDevice (BreaksIn reads place standing told x old.units new.units o p))) (sym is) (err_on on _ call.broke);
  kept = λ idle. subst (λ (x : Command). KeepsUnits (looks_at x) old.units new.units) (sym is) (call.kept (idle_back on never is idle));
  ends = record {
    cause = err_on on _ call.cause;
    no_fault = λ goes. call.no_fault (goes_back on goes);
    memory = λ none. absurd (both-ways (sym none ∙ ap takes_memory is ∙ memory));
    device = λ none. absurd (both-ways (sym none ∙ ap uses_device is ∙ device));
    quiet = quiet_on on quiet;
  };
}

-- what shows or names where a cursor stands says of no unit that its device failed
pub shown_quiet : (x : Shown) (u : ℕ) → throws u (shown_reply x) ≡ false
shown_quiet Nil u = refl
shown_quiet Deleted u = refl
shown_quiet (Entry unit e) u = refl

pub side_quiet : (x : Side) (u : ℕ) → throws u (side_reply x) ≡ false
side_quiet at.Begin u = refl
side_quiet at.End u = refl
side_quiet at.Nil u = refl

pub nil_quiet : {T : Type 0} (made : T → plain.Reply) (x : Option T) (u : ℕ) → ((y : T) → throws u (made y) ≡ false) → throws u (or_nil made x) ≡ false
nil_quiet made None u h = refl
nil_quiet made (Some y) u h = h y

-- a call on cursors that reads, handed on as the reply to its command
pub handed_walked : {C : Type 0} {reads : List ℕ → Option Store} {place : C → ℕ} {standing : Bool → C → Outside → Type 0} {told : Bool} {T : Type 0} {made : T → plain.Reply} {found : Result T StoreFault}
    {result : Result Reply StoreFault} {c d : Command} {old new : World C} {o p : Outside} → HandsOn made found result → c ≡ d → takes_memory d ≡ true → uses_device d ≡ true → shows_entry d ≡ false
    → ((x : T) (r : Refusal) → made x ≡ plain.Reply.refused r → ⊥) → ((x : T) (u : ℕ) → throws u (made x) ≡ false)
    → Walks reads place standing told d made old.units new.units old.desk new.desk o p found → Walked reads place standing told c old new o p result
handed_walked {reads = reads} {old = old} {o = o} {p = p} on is memory device other never quiet call = record {
  read = call.read;
  desk = call.desk;
  answered = λ t apart settled. answered_on on _ _ is (call.answered t apart settled);
  fetches = λ t apart settled. subst (λ x. steps_unread (world_with reads old.units old.desk o) x ≡ true → FetchesAtMost (most_stepped (world_with reads old.units old.desk o) x) o p) (sym is)
      (call.fetches t apart settled);
  shown = λ un. fetched_on on o p (call.shown (sym (ap (walks_unread old.desk) is) ∙ un));
  failed = err_on on _ call.failed;
  kept = err_on on _ call.kept;
  refused = λ idle. call.refused (refused_back on never is other idle);
  ends = record {
    cause = err_on on _ call.cause;
    no_fault = λ goes. call.no_fault (goes_back on goes);
    memory = λ no. absurd (both-ways (sym no ∙ ap takes_memory is ∙ memory));
    device = λ no. absurd (both-ways (sym no ∙ ap uses_device is ∙ device));
    quiet = quiet_on on quiet;
  };
}

-- and one that uses the cursors alone
pub handed_placed : {C : Type 0} {reads : List ℕ → Option Store} {place : C → ℕ} {standing : Bool → C → Outside → Type 0} {told : Bool} {T : Type 0} {made : T → plain.Reply} {found : Result T StoreFault}
    {result : Result Reply StoreFault} {c d : Command} {old new : World C} {o : Outside} → HandsOn made found result → c ≡ d
    → shows_entry d ≡ false → ((x : T) (r : Refusal) → made x ≡ plain.Reply.refused r → ⊥) → (IsRefused found → new.desk ≡ old.desk)
    → AreRead reads place standing told old.units new.units o o → DeskFits new.desk
    → (IsSettled (world_with reads old.units old.desk o) → Answers (world_with reads old.units old.desk o) (world_with reads new.units new.desk o) d made found)
    → IfErr found (λ fault. NoDevice fault) → (takes_memory d ≡ false → IfErr found (λ fault. IsRefusal fault)) → ((x : T) (u : ℕ) → throws u (made x) ≡ false) → Walked reads place standing told c old new o o result
handed_placed {reads = reads} {found = found} {result = result} {c = c} {old = old} {o = o} on is other never stays read desk answered none only quiet = record {
  read = read;
  desk = desk;
  answered = λ t apart settled. answered_on on _ _ is (answered settled);
  fetches = λ t apart settled unread u. up (o.fetched u) (most_stepped (world_with reads old.units old.desk o) c u);
  shown = λ un. answers-none said o result;
  failed = err_on on _ (none-devices _ found none);
  kept = err_on on _ (none-devices _ found none);
  refused = λ idle. stays (refused_back on never is other idle);
  ends = record {
    cause = err_on on _ (has_cause o o found (NoFault-refl o) none);
    no_fault = λ goes. NoFault-refl o;
    memory = λ no. err_on on _ (only (sym (ap takes_memory is) ∙ no));
    device = λ no. err_on on _ none;
    quiet = quiet_on on quiet;
  };
}
  where
    up : (a b : ℕ) → a ≤ a + b
    up a b = omega arith
