-- One piece of output after another.
use Rattle.std.proofs.Common.{◌≡◌, ℕ, Bool, IsTrue, List, [], ◌++◌, take, drop, Result, Ok, Err, IfOk, OnErr, refl, sym, ◌∙◌, ap, subst, append_assoc}
use Rattle.std.proofs.lemmas.List.{append-nil, take-append-drop}
use Rattle.newt_host.specs.Moments.{Moment, Always, here, changes, output}
use Rattle.newt_host.specs.Outside.{Outside, PrintsSome, SameCards, SameCounts, printed}
use Rattle.newt_host.proofs.Extending.{Always-prints_some}
use Rattle.newt_host.proofs.Moments.{Always-append, Always-last, Always-map}
use Rattle.newt_host.proofs.Printing.{changes-printed, output-printed, printed-append}
use Rattle.newt_laws_steps.specs.Devices.{SameDevices}
use Rattle.newt_script_session.specs.Stream.{Wrote, WroteSome, PutsText}

pub nothing_wrote : (text out : List ℕ) → Wrote text text out out
nothing_wrote text out = record { done = []; split = refl; out = sym (append-nil out) }

-- n more bytes
pub wrote_more : (n : ℕ) (text rest left old mid now : List ℕ) → left ≡ drop n rest → Wrote text rest old mid → now ≡ mid ++ take n rest → Wrote text left old now
wrote_more n text rest left old mid now is w e = record {
  done = w.done ++ take n rest;
  split = w.split ∙ (ap (λ r. w.done ++ r) (sym (take-append-drop n rest) ∙ ap (λ l. take n rest ++ l) (sym is)) ∙ sym (append_assoc w.done (take n rest) left));
  out = e ∙ (ap (λ o. o ++ take n rest) w.out ∙ append_assoc old w.done (take n rest));
}

-- a part of what was left to write
pub wrote_some : (text rest old mid now : List ℕ) → Wrote text rest old mid → WroteSome rest mid now → WroteSome text old now
wrote_some text rest old mid now w some = (
  some.0,
  record {
    done = w.done ++ some.1.done;
    split = w.split ∙ (ap (λ r. w.done ++ r) some.1.split ∙ sym (append_assoc w.done some.1.done some.0));
    out = some.1.out ∙ (ap (λ o. o ++ some.1.done) w.out ∙ append_assoc old w.done some.1.done);
  },
)

-- nothing was written
pub wrote_nothing : (text out : List ℕ) → WroteSome text out out
wrote_nothing text out = (text, nothing_wrote text out)

-- what a host has printed
pub grown_printed : (bytes : List ℕ) (old new : Moment) → new ≡ printed bytes old → output new ≡ output old ++ bytes
grown_printed bytes old new is = ap output is ∙ output-printed bytes old

pub wrote_printed : (bytes : List ℕ) (old new : Moment) → PrintsSome bytes old new → WroteSome bytes (output old) (output new)
wrote_printed bytes old new some = (some.rest, record { done = some.done; split = some.split; out = grown_printed some.done old new some.moment })

-- a write printed a first part, whether it failed or not
pub prints_either : {E : Type 0} (result : Result ℕ E) (bytes : List ℕ) (old new : Moment)
    → IfOk result (λ n. new ≡ printed (take n bytes) old) → OnErr result (PrintsSome bytes old new) → PrintsSome bytes old new
prints_either (Ok n) bytes old new is some = record { done = take n bytes; rest = drop n bytes; split = sym (take-append-drop n bytes); moment = is }
prints_either (Err e) bytes old new is some = some

-- and the devices are as they were
pub prints_devices : (told : Bool) (bytes : List ℕ) (old new : Outside) → SameCards old new → SameCounts old new → (IsTrue told → PrintsSome bytes old.now new.now) → SameDevices told old new
prints_devices told bytes old new cards counts prints = record {
  cards = cards;
  counts = counts;
  changes = λ tells unit. let some = prints tells in ap (λ (m : Moment). changes unit m) some.moment ∙ changes-printed unit some.done old.now;
}

-- after a first part of the bytes, a first part of those that are left
pub prints_more : (bytes rest : List ℕ) (old mid new : Moment) (done : List ℕ) → bytes ≡ done ++ rest → mid ≡ printed done old → PrintsSome rest mid new → PrintsSome bytes old new
prints_more bytes rest old mid new done split is some = record {
  done = done ++ some.done;
  rest = some.rest;
  split = split ∙ (ap (λ r. done ++ r) some.split ∙ sym (append_assoc done some.done some.rest));
  moment = some.moment ∙ (ap (λ (m : Moment). printed some.done m) is ∙ sym (printed-append done some.done old));
}

-- at each moment of a write a first part has been printed
pub prints_always : (bytes : List ℕ) (old new : Moment) → PrintsSome bytes old new → Always (PrintsSome bytes old) old new
prints_always bytes old new some = Always-prints_some some (λ done rest is. record { done = done; rest = rest; split = is; moment = refl })

-- Of the bytes these are left, and a first part was printed at each moment.
pub record Printing (bytes rest : List ℕ) (old now : Moment) : Type 0 where
  pub done : List ℕ
  pub split : bytes ≡ done ++ rest
  pub moment : now ≡ printed done old
  pub always : Always (PrintsSome bytes old) old now

pub printing_start : (bytes : List ℕ) (old : Moment) → Printing bytes bytes old old
printing_start bytes old = record { done = []; split = refl; moment = refl; always = here (record { done = []; rest = bytes; split = refl; moment = refl }) }

pub printing_some : (bytes rest : List ℕ) (old mid new : Moment) → Printing bytes rest old mid → PrintsSome rest mid new → Always (PrintsSome bytes old) old new
printing_some bytes rest old mid new p some =
    Always-append p.always (Always-map (λ m part. prints_more bytes rest old mid m p.done p.split p.moment part) (prints_always rest mid new some))

-- n more bytes
pub printing_more : (n : ℕ) (bytes rest left : List ℕ) (old mid new : Moment) → left ≡ drop n rest → Printing bytes rest old mid → new ≡ printed (take n rest) mid → Printing bytes left old new
printing_more n bytes rest left old mid new e p is = subst (λ (l : List ℕ). Printing bytes l old new) (sym e) (record {
  done = p.done ++ take n rest;
  split = p.split ∙ (ap (λ r. p.done ++ r) (sym (take-append-drop n rest)) ∙ sym (append_assoc p.done (take n rest) (drop n rest)));
  moment = is ∙ (ap (λ (m : Moment). printed (take n rest) m) p.moment ∙ sym (printed-append p.done (take n rest) old));
  always = printing_some bytes rest old mid new p (record { done = take n rest; rest = drop n rest; split = sym (take-append-drop n rest); moment = is });
})

pub printed_none : (bytes : List ℕ) (old : Moment) → Always (PrintsSome bytes old) old old
printed_none bytes old = (printing_start bytes old).always

-- all of it was printed
pub puts_ok : {T E : Type 0} (x : T) (bytes rest : List ℕ) (old now : Moment) → Printing bytes rest old now → rest ≡ [] → PutsText {T = T} {E = E} (Ok x) bytes old now
puts_ok x bytes rest old now p none = record {
  whole = grown_printed p.done old now p.moment ∙ ap (λ t. output old ++ t) (sym (p.split ∙ (ap (λ r. p.done ++ r) none ∙ append-nil p.done)));
  failed = tt;
  moments = p.always;
}

-- a first part of it was
pub puts_err : {T E : Type 0} (result : Result T E) (error : E) (bytes : List ℕ) (old now : Moment) → result ≡ Err error → Always (PrintsSome bytes old) old now → PutsText result bytes old now
puts_err {T} {E} result error bytes old now is always =
    subst (λ (v : Result T E). PutsText v bytes old now) (sym is) (record { whole = tt; failed = wrote_printed bytes old now (Always-last always); moments = always })

pub puts_nothing : {T E : Type 0} (error : E) (bytes : List ℕ) (old : Moment) → PutsText {T = T} {E = E} (Err error) bytes old old
puts_nothing error bytes old = puts_err (Err error) error bytes old old refl (printed_none bytes old)

-- nothing was to be written
pub puts_none : {T E : Type 0} (x : T) (old : Moment) → PutsText {T = T} {E = E} (Ok x) [] old old
puts_none x old = puts_ok x [] [] old old (printing_start [] old) refl
