-- The room of a journal is what the tail of the image says.
use Rattle.std.proofs.Common.{IsTrue, ◌≡◌, ℕ, ◌+◌, ◌-◌, Bool, true, false, if◌then◌else◌, List, ◌++◌, length, replicate, refl, sym, ◌∙◌, ap, subst, arith, length-append}
use Rattle.newt_host.specs.Moments.{Moment, image}
use Rattle.newt_host.specs.Outside.{Outside}
use Rattle.newt_spec_image.specs.Records.{tail, version, bank_size, IsErased}
use Rattle.newt_journal.specs.Bank.{start_of, limit_of}
use Rattle.newt_journal.specs.Journal.{room, written, Reading, reading, IsHeld, Stands, VotesAgree, IsRoom}
use Rattle.newt_journal.specs.Draft.{IsFinished, unit_of, len_of, place_of, front_of, is_switch, outcome_of, rest_of}
use Rattle.newt_journal.specs.Places.{first_place}
use Rattle.newt_journal.specs.declared.bank.Bank.{Bank}
use Rattle.newt_journal.specs.declared.draft.Draft.{Draft}
use Rattle.newt_journal.specs.declared.journal.Journal.{Journal}
use Rattle.newt_journal.proofs.Steps.{length-bank, holds-reading}
use Rattle.newt_journal.proofs.Tail.{holds-tail}

closed-room : (closed : Bool) (n : ℕ) → (closed ≡ false → ⊥) → (if closed then 0 else n) ≡ 0
closed-room true n shut = refl
closed-room false n shut = absurd (shut refl)

module _ (j : Journal) (now : Moment) (held : IsHeld j now) where
  tail_is : tail (image j.unit now) ≡ held.after_records
  tail_is = holds-tail j.blocks j.bank j.enough j.not_too_many j.version j.known held.payloads held.after_records (image j.unit now) held.bank held.ends

  long : length held.after_records ≡ limit_of j.blocks j.bank - j.end
  long = omega (arith, held.end, length-bank j.blocks j.bank j.enough j.not_too_many (written j.version held.payloads ++ held.after_records) (image j.unit now) held.bank, length-append (written j.version held.payloads) held.after_records)

  pub tail_long : length (tail (image j.unit now)) ≡ limit_of j.blocks j.bank - j.end
  tail_long = ap length tail_is ∙ long

  pub tail_blank : j.closed ≡ false → (n : ℕ) → n ≡ limit_of j.blocks j.bank - j.end → tail (image j.unit now) ≡ replicate n 255
  tail_blank is_open n n_is = tail_is ∙ held.blank is_open ∙ ap (λ (k : ℕ). replicate k 255) (long ∙ sym n_is)

  pub version_is : version (image j.unit now) ≡ j.version
  version_is = ap (λ (r : Reading). r.0) (holds-reading j.blocks j.bank j.enough j.not_too_many j.version j.known held.payloads held.after_records (image j.unit now) held.bank held.ends)

  pub room_is : IsRoom (room j) (image j.unit now)
  room_is = record {
    opened = λ is_open. ap (λ (b : Bool). if b then 0 else (limit_of j.blocks j.bank - j.end) - 5)
        (held.not_closed (sym version_is ∙ is_open.new) (subst (λ (l : List ℕ). IsErased l) tail_is is_open.erased))
        ∙ ap (λ (n : ℕ). n - 5) (sym tail_long);
    closed = λ not_open. closed-room j.closed ((limit_of j.blocks j.bank - j.end) - 5)
        (λ is. not_open (record { new = version_is ∙ j.in_two is; erased = subst (λ (l : List ℕ). IsErased l) (sym tail_is) (held.blank is) }));
  }

-- the room of a journal is what its unit's image says, of each host
pub room_told : (j : Journal) (n : ℕ) → n ≡ room j → (told : Bool) (outside : Outside) → Stands told j outside → IsTrue told → IsRoom n (image j.unit outside.now)
room_told j n is told outside stands t = subst (λ (k : ℕ). IsRoom k (image j.unit outside.now)) (sym is) (room_is j outside.now (stands.held t))

-- and so is its version
pub version_told : (j : Journal) (told : Bool) (outside : Outside) → Stands told j outside → IsTrue told → j.version ≡ version (image j.unit outside.now)
version_told j told outside stands t = sym (version_is j outside.now (stands.held t))

-- what one record leaves of a bank
pub same_rest : (blocks : ℕ) (bank : Bank) (end len : ℕ) {start : ℕ} → start ≡ start_of blocks bank → end ≡ start + 21 + len → bank_size blocks - (21 + len) ≡ limit_of blocks bank - end
same_rest blocks bank end len start_is is = omega (arith, start_is, is)

-- a record was committed, and what is left of its bank is blank
pub finished : {told : Bool} {d : Draft} {j : Journal} {old new : Outside} → Stands told j new → j.unit ≡ unit_of d → j.closed ≡ false → j.end ≡ place_of d + len_of d → first_place j ≡ front_of d
    → (IsTrue told → reading (image (unit_of d) new.now) ≡ outcome_of d old) → rest_of d ≡ limit_of j.blocks j.bank - j.end
    → (IsTrue told → is_switch d ≡ true → VotesAgree j (image (unit_of d) new.now)) → IsFinished told d j old new
finished {d = d} {j = j} {new = new} stands on not_closed end first committed rest alike = record {
  stands = stands;
  on = on;
  not_closed = not_closed;
  end = end;
  first = first;
  committed = committed;
  rest = λ t. subst (λ (u : ℕ). tail (image u new.now) ≡ replicate (rest_of d) 255) on (tail_blank j new.now (stands.held t) not_closed (rest_of d) rest);
  alike = alike;
}
