-- What stays in a log, and a call for which there was no room.
use Rattle.std.proofs.Common.{◌≡◌, inl, inr, ℕ, ◌+◌, ◌≤◌, Bool, false, IsTrue, Option, Some, List, [], ◌∷◌, ◌++◌, length, length-append, Result, Ok, Err, is_err, IfOk, OnOk, OnErr, IsErr, Vec, Global, refl, sym, ◌∙◌, ap, arith, vec_len}
use Rattle.std.proofs.lemmas.Bool.{false≢true}
use Rattle.newt_memhost.specs.Calls.{Keeps}
use Rattle.newt_memhost.specs.Log.{Adds, HasRoom, NoSmaller, SamePast}
use Rattle.newt_memhost.specs.Past.{unit_at}
use Rattle.newt_memhost.specs.declared.happened.Happened.{Happened}
use Rattle.newt_memhost.specs.declared.log.Log.{Log}

-- an error says nothing of a value, and what holds always holds of an error
pub no-ok : {T E : Type 0} (r : Result T E) (A : Type 0) → IsErr r → OnOk r A
no-ok (Ok x) A err = absurd (false≢true err)
no-ok (Err e) A err = tt

pub no-value : {T E : Type 0} (r : Result T E) (P : T → Type 0) → IsErr r → IfOk r P
no-value (Ok x) P err = absurd (false≢true err)
no-value (Err e) P err = tt

pub on-err : {T E : Type 0} (r : Result T E) {A : Type 0} → A → OnErr r A
on-err (Ok x) a = tt
on-err (Err e) a = a

pub same-le : (n : ℕ) → n ≤ n
same-le n = omega arith

pub same-most : (a b : Vec ℕ Global) (n : ℕ) → a.items ≡ b.items → vec_len a ≤ vec_len b + n
same-most a b n same = omega (arith, a.ok.0, b.ok.0, ap length same)

-- the same entries and bytes in no smaller room leave the same room
pub still-room : (entries bytes : ℕ) (old new : Log) → SamePast old new → NoSmaller old new
    → HasRoom entries bytes old → HasRoom entries bytes new
still-room entries bytes old new same more has =
    let entries_are : vec_len new.entries ≡ vec_len old.entries = omega (arith, old.entries.ok.0, new.entries.ok.0, ap length same.entries) in
    let store_is : vec_len new.store ≡ vec_len old.store = omega (arith, old.store.ok.0, new.store.ok.0, ap length same.store) in
    record { entries_fit = omega (arith, has.entries_fit, entries_are, more.entries); bytes_fit = omega (arith, has.bytes_fit, store_is, more.store) }

pub keeps-none : {T E : Type 0} {e : E} (waiting bytes : ℕ) (unit : Option ℕ) (fails found : Bool) {room : Type 0} (old new : Log)
    → SamePast old new → NoSmaller old new → HasRoom waiting 0 old → (room → IsTrue found) → found ≡ false
    → Keeps {T = T} {E = E} waiting bytes unit fails room (Err e) old new
keeps-none waiting bytes unit fails found old new same more waits there none =
    let entries : vec_len new.entries ≡ vec_len old.entries = omega (arith, old.entries.ok.0, new.entries.ok.0, ap length same.entries) in
    let store : vec_len new.store ≡ vec_len old.store = omega (arith, old.store.ok.0, new.store.ok.0, ap length same.store) in
    record {
      became = inr (record { entries_are = same.entries; bytes_are = same.store; failed = refl; full = λ has. false≢true (sym none ∙ there has) });
      waits = still-room waiting 0 old new same more waits;
      entries_used = omega (arith, entries);
      bytes_used = omega (arith, store);
      entries_left = more.entries;
      bytes_left = more.store;
    }

-- a call that was added to the log, for which there was room
pub keeps-added : {T E : Type 0} (waiting bytes : ℕ) (unit : Option ℕ) (fails : Bool) {room : Type 0} (result : Result T E) (old mid new : Log) {entry : Happened} {added : List ℕ}
    → SamePast old mid → NoSmaller old mid → HasRoom (waiting + 1) bytes mid → Adds entry added mid new → length added ≤ bytes
    → unit_at (Some entry) ≡ unit → is_err result ≡ fails → Keeps waiting bytes unit fails room result old new
keeps-added waiting bytes unit fails result old mid new {entry = entry} {added = added} same more has adds fits on failed =
    let one : length (entry ∷ []) ≡ 1 = refl in
    let entries_mid : vec_len mid.entries ≡ vec_len old.entries = omega (arith, old.entries.ok.0, mid.entries.ok.0, ap length same.entries) in
    let store_mid : vec_len mid.store ≡ vec_len old.store = omega (arith, old.store.ok.0, mid.store.ok.0, ap length same.store) in
    let entries_new : vec_len new.entries ≡ vec_len mid.entries + 1 = omega (arith, new.entries.ok.0, mid.entries.ok.0, ap length adds.entries ∙ length-append mid.entries.items (entry ∷ []), one) in
    let store_new : vec_len new.store ≡ vec_len mid.store + length added = omega (arith, new.store.ok.0, mid.store.ok.0, ap length adds.store ∙ length-append mid.store.items added) in
    record {
      became = inl (record {
        entry = entry;
        bytes = added;
        entries_are = adds.entries ∙ ap (λ (l : List Happened). l ++ entry ∷ []) same.entries;
        bytes_are = adds.store ∙ ap (λ (l : List ℕ). l ++ added) same.store;
        numbered = adds.calls ∙ ap (λ (n : ℕ). n + 1) same.calls;
        is_on = on;
        failed = failed;
      });
      waits = record { entries_fit = omega (arith, has.entries_fit, entries_new, adds.more.entries); bytes_fit = omega (arith, has.bytes_fit, store_new, adds.more.store, fits) };
      entries_used = omega (arith, entries_new, entries_mid);
      bytes_used = omega (arith, store_new, store_mid, fits);
      entries_left = omega (arith, more.entries, adds.more.entries);
      bytes_left = omega (arith, more.store, adds.more.store);
    }

-- an answer that is an error where the other is keeps as much
pub keeps-as : {T E S F : Type 0} (waiting bytes : ℕ) (unit : Option ℕ) (fails : Bool) {room : Type 0} (inner : Result S F) (result : Result T E) (old new : Log) → is_err result ≡ is_err inner → Keeps waiting bytes unit fails room inner old new
    → Keeps waiting bytes unit fails room result old new
keeps-as waiting bytes unit fails inner result old new same kept = record {
  became = elim kept.became [
    | inl was ↦ inl (record {
      entry = was.entry;
      bytes = was.bytes;
      entries_are = was.entries_are;
      bytes_are = was.bytes_are;
      numbered = was.numbered;
      is_on = was.is_on;
      failed = same ∙ was.failed;
    })
    | inr none ↦ inr (record { entries_are = none.entries_are; bytes_are = none.bytes_are; failed = same ∙ none.failed; full = none.full })
  ];
  waits = kept.waits;
  entries_used = kept.entries_used;
  bytes_used = kept.bytes_used;
  entries_left = kept.entries_left;
  bytes_left = kept.bytes_left;
}
