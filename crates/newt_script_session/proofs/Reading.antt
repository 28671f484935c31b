-- When the input is read, and what changes only at some moments.
use Rattle.std.proofs.Common.{◌≡◌, ℕ, Bool, IsTrue, List, [], ◌∷◌, Option, Result, refl, sym, ◌∙◌, ap}
use Rattle.newt_host.specs.Moments.{Moment, Always, here, later, Printed, Took, taken}
use Rattle.newt_host.specs.Outside.{OnDevices, Outside, PrintsSome, printed}
use Rattle.newt_host.proofs.Moments.{Always-append, Always-last, Always-map}
use Rattle.newt_reply.specs.declared.reply.Reply.{Reply}
use Rattle.newt_spec_world.specs.declared.command.Command.{Command}
use Rattle.newt_script_session.specs.Steps.{Stepped}
use Rattle.newt_spec_script.specs.Rows.{Stepping}
use Rattle.newt_spec_store.specs.Store.{Store}
use Rattle.newt_spec_whole.specs.Whole.{Whole}
use Rattle.newt_script_session.specs.Calls.{Unread}
use Rattle.newt_script_session.specs.Reading.{ChangesOnlyWhere, start, goes_on}
use Rattle.newt_script_session.proofs.Writing.{prints_always}

taken-printed : (bytes : List ℕ) (m : Moment) → taken (printed bytes m) ≡ taken m
taken-printed [] m = refl
taken-printed (b ∷ bytes) m = taken-printed bytes (Printed b ∷ m)

pub unread-refl : {told : Bool} (a : Outside) → Unread told a a
unread-refl a = record { input = refl; moments = λ tells. here refl }

pub unread-append : {told : Bool} {a b c : Outside} → Unread told a b → Unread told b c → Unread told a c
unread-append first second = record {
  input = second.input ∙ first.input;
  moments = λ tells. let so_far = first.moments tells in Always-append so_far (Always-map (λ m same. same ∙ Always-last so_far) (second.moments tells));
}

-- a text is put out
pub unread_printing : (bytes : List ℕ) (old new : Moment) → PrintsSome bytes old new → Always (λ m. taken m ≡ taken old) old new
unread_printing bytes old new some = Always-map (λ m part. ap taken part.moment ∙ taken-printed part.done old) (prints_always bytes old new some)

-- a command is answered
pub unread_stepped : {told : Bool} {E : Type 0} {step : Stepping Whole} {reads : List ℕ → Option Store} {command : Command} {result : Result Reply E} {Before After : Whole → Type 0} {a b : Outside} → OnDevices a b
    → (IsTrue told → (world : Whole) × Before world) → (IsTrue told → (world : Whole) → Before world → Stepped step reads command result world After a.now b.now a.dev_faults b.dev_faults) → Unread told a b
unread_stepped on some stepped = record {
  input = on.input;
  moments = λ tells. let w = some tells in Always-map (λ m a. a.unread) (stepped tells w.0 w.1).moments;
}

-- nothing of what is seen changes
pub only_none : {A : Type 0} {seen : Moment → A} {P : Moment → Type 0} {old now : Moment} → Always (λ m. seen m ≡ seen old) old now → ChangesOnlyWhere seen P old now
only_none (here same) = start
only_none (later event now so_far same) = goes_on event now (only_none so_far) (λ differs. absurd (differs (same ∙ sym (Always-last so_far))))

-- P holds at each moment
pub only_always : {A : Type 0} {seen : Moment → A} {P : Moment → Type 0} {old now : Moment} → Always P old now → ChangesOnlyWhere seen P old now
only_always (here p) = start
only_always (later event now so_far p) = goes_on event now (only_always so_far) (λ differs. Always-last so_far)

pub only_append : {A : Type 0} {seen : Moment → A} {P : Moment → Type 0} {a b c : Moment} → ChangesOnlyWhere seen P a b → ChangesOnlyWhere seen P b c → ChangesOnlyWhere seen P a c
only_append first start = first
only_append first (goes_on event now so_far due) = goes_on event now (only_append first so_far) due

-- each of them in turn
pub only_map : {A : Type 0} {seen : Moment → A} {P Q : Moment → Type 0} {old now : Moment} → ((m : Moment) → P m → Q m) → ChangesOnlyWhere seen P old now → ChangesOnlyWhere seen Q old now
only_map f start = start
only_map f (goes_on event now so_far due) = goes_on event now (only_map f so_far) (λ differs. f now (due differs))

-- the next bytes are taken where P holds
pub takes_more : {P : Moment → Type 0} (bytes : List ℕ) {old now : Moment} → ChangesOnlyWhere taken P old now → P now → ChangesOnlyWhere taken P old (Took bytes ∷ now)
takes_more bytes {now = now} so_far due = goes_on (Took bytes) now so_far (λ grows. due)
