-- What is read of the records of a journal, at rest or while another one is written.
use Rattle.std.proofs.Common.{IsTrue, Bool, ◌≡◌, ℕ, ◌+◌, ◌-◌, ◌≤◌, List, [], ◌∷◌, ◌++◌, length, take, drop, take-append-drop, replicate, Some, Result, Ok, Err, OnOk, refl, sym, ◌∙◌, ap, subst, arith, append_assoc, length-append, length-take, length-drop}
use Rattle.newt_host.specs.Moments.{Moment, image}
use Rattle.newt_host.specs.Outside.{Outside}
use Rattle.newt_spec_image.specs.Records.{records, length_bytes, record_bytes, header}
use Rattle.std.proofs.lemmas.List.{drop-drop, drop_at, drop-append-le, take-append-le}
use Rattle.newt_journal.proofs.Records.{length-length_bytes}
use Rattle.newt_journal.specs.Bank.{bank_number, start_of}
use Rattle.newt_journal.specs.Journal.{Holds, records_bytes, written, Reading, IsHeld, Stands}
use Rattle.newt_journal.specs.Places.{first_place, recorded}
use Rattle.newt_journal.specs.Appending.{IsDrafted}
use Rattle.newt_journal.specs.Switch.{IsSwitching}
use Rattle.newt_journal.specs.Draft.{IsDraftOf, unit_of, journal_of}
use Rattle.newt_journal.specs.declared.draft.Draft.{Draft}
use Rattle.newt_journal.specs.declared.draft.Draft.TheVariants.{Append, Switch}
use Rattle.newt_journal.specs.declared.journal.Journal.{Journal}
use Rattle.newt_journal.specs.declared.appending.Appending.{Appending}
use Rattle.newt_journal.specs.declared.switching.Switching.{Switching}
use Rattle.newt_journal.proofs.Steps.{length-written, holds-reads, records-push}
use Rattle.newt_journal.proofs.Walking.{some-inj, read}
use Rattle.newt_journal.proofs.Drafts.{draft-reading}
use Rattle.newt_journal.proofs.Switches.{elsewhere, reads_now}

-- a piece of a list, and what stands around it
module _ (xs : List ℕ) (k n : ℕ) (fits : k + n ≤ length xs) where
  abbrev piece : List ℕ
  piece = take n (drop k xs)

  abbrev after_piece : List ℕ
  after_piece = drop n (drop k xs)

  cut : xs ≡ take k xs ++ piece ++ after_piece
  cut = sym (take-append-drop k xs) ∙ ap (λ (l : List ℕ). take k xs ++ l) (sym (take-append-drop n (drop k xs))) ∙ sym (append_assoc (take k xs) piece after_piece)

  length-front : length (take k xs) ≡ k
  length-front = omega (arith, fits, length-take k xs)

  length-piece : length piece ≡ n
  length-piece = omega (arith, fits, length-take n (drop k xs), length-drop k xs)

regroup_piece : (h a b c d : List ℕ) → (h ++ (a ++ b ++ c)) ++ d ≡ (h ++ a) ++ b ++ (c ++ d)
regroup_piece h a b c d = simp append_assoc

header-long : (version : ℕ) → length (header version) ≡ 16
unfolding header
header-long version = refl

regroup_after : (w a m r : List ℕ) → ((w ++ a) ++ m) ++ r ≡ w ++ ((a ++ m) ++ r)
regroup_after w a m r = simp append_assoc

-- of records that stand in a bank
pub recorded-in : (j : Journal) (version : ℕ) (payloads : List (List ℕ)) (after_records image : List ℕ) (at n : ℕ) → Holds j.blocks (bank_number j.bank) (written version payloads ++ after_records) image
    → first_place j ≤ at → at + n ≤ start_of j.blocks j.bank + length (written version payloads) → take n (drop at image) ≡ recorded j payloads at n
unfolding written
recorded-in j version payloads after_records image at n holds low high =
    let start = start_of j.blocks j.bank in
    let k = at - first_place j in
    let head = header version in
    let all = records_bytes payloads in
    let fits : k + n ≤ length all = omega (arith, low, high, length-written version payloads) in
    let size = length-piece all k n fits in
    let front : List ℕ = head ++ take k all in
    let whole : Holds j.blocks (bank_number j.bank) (front ++ piece all k n fits ++ (after_piece all k n fits ++ after_records)) image =
    subst (λ (l : List ℕ). Holds j.blocks (bank_number j.bank) l image)
    (ap (λ (l : List ℕ). (head ++ l) ++ after_records) (cut all k n fits) ∙ regroup_piece head (take k all) (piece all k n fits) (after_piece all k n fits) after_records) holds in
    let place : at ≡ start + length front = omega (arith, low, length-front all k n fits, length-append head (take k all), header-long version) in
    ap (λ (a : ℕ). take n (drop a image)) place ∙ ap (λ (m : ℕ). take m (drop (start + length front) image)) (sym size)
    ∙ holds-reads j.blocks j.bank j.enough j.not_too_many front (piece all k n fits) (after_piece all k n fits ++ after_records) image whole

same-recorded : (j : Journal) (payloads other : List (List ℕ)) (image : List ℕ) (at n : ℕ) → records image ≡ Some payloads → records image ≡ Some other → recorded j payloads at n ≡ recorded j other at n
same-recorded j payloads other image at n is so = ap (λ (ps : List (List ℕ)). recorded j ps at n) (some-inj [] (sym is ∙ so))

-- of a journal at rest
pub recorded-held : (j : Journal) (now : Moment) → IsHeld j now → (payloads : List (List ℕ)) → records (image j.unit now) ≡ Some payloads → (at n : ℕ) → first_place j ≤ at → at + n ≤ j.end
    → take n (drop at (image j.unit now)) ≡ recorded j payloads at n
recorded-held j now held payloads is at n low high =
    recorded-in j j.version held.payloads held.after_records (image j.unit now) at n held.bank low (omega (arith, high, held.end)) ∙ same-recorded j held.payloads payloads (image j.unit now) at n (read j now held) is

pub recorded-told : (told : Bool) (j : Journal) (outside : Outside) → Stands told j outside → IsTrue told → (payloads : List (List ℕ)) → records (image j.unit outside.now) ≡ Some payloads → (at n : ℕ) → first_place j ≤ at → at + n ≤ j.end
    → take n (drop at (image j.unit outside.now)) ≡ recorded j payloads at n
recorded-told told j outside stands tells payloads is at n low high = recorded-held j outside.now (stands.held tells) payloads is at n low high

-- while a record is written after them
pub recorded-drafted : (d : Appending) (now : Moment) → IsDrafted d now → (payloads : List (List ℕ)) → records (image d.journal.unit now) ≡ Some payloads → (at n : ℕ) → first_place d.journal ≤ at → at + n ≤ d.journal.end
    → take n (drop at (image d.journal.unit now)) ≡ recorded d.journal payloads at n
recorded-drafted d now held payloads is at n low high =
    let middle : List ℕ = length_bytes d.len ++ held.so_far ++ replicate (d.len - d.put) 255 in
    let more : List ℕ = replicate held.more 255 in
    let after_records : List ℕ = ((255 ∷ []) ++ middle) ++ more in
    let bank : Holds d.journal.blocks (bank_number d.journal.bank) (written 2 held.payloads ++ after_records) (image d.journal.unit now) =
    subst (λ (l : List ℕ). Holds d.journal.blocks (bank_number d.journal.bank) l (image d.journal.unit now)) (regroup_after (written 2 held.payloads) (255 ∷ []) middle more) held.bank in
    recorded-in d.journal 2 held.payloads after_records (image d.journal.unit now) at n bank low (omega (arith, high, held.end))
    ∙ same-recorded d.journal held.payloads payloads (image d.journal.unit now) at n (ap (λ (r : Reading). r.1) (draft-reading d now held)) is

-- and in the other bank
pub recorded-switching : (s : Switching) (now : Moment) → IsSwitching s now → (payloads : List (List ℕ)) → records (image s.journal.unit now) ≡ Some payloads → (at n : ℕ) → first_place s.journal ≤ at → at + n ≤ s.journal.end
    → take n (drop at (image s.journal.unit now)) ≡ recorded s.journal payloads at n
recorded-switching s now held payloads is at n low high =
    recorded-in s.journal s.journal.version held.payloads held.after_records (image s.journal.unit now) at n (elsewhere s now held (image s.journal.unit now) held.filled.kept) low (omega (arith, high, held.end))
    ∙ same-recorded s.journal held.payloads payloads (image s.journal.unit now) at n (ap (λ (r : Reading). r.1) (reads_now s now held)) is

pub recorded-draft : (told : Bool) (d : Draft) (outside : Outside) → IsDraftOf told d outside → IsTrue told → (payloads : List (List ℕ)) → records (image (unit_of d) outside.now) ≡ Some payloads → (at n : ℕ)
    → first_place (journal_of d) ≤ at → at + n ≤ (journal_of d).end → take n (drop at (image (unit_of d) outside.now)) ≡ recorded (journal_of d) payloads at n
recorded-draft told (Append a) outside draft tells payloads is at n low high = recorded-drafted a outside.now (draft.held tells) payloads is at n low high
recorded-draft told (Switch s) outside draft tells payloads is at n low high = recorded-switching s outside.now (draft.held tells) payloads is at n low high

-- what the records had before one more is after them, and what that one has
module _ (j : Journal) (passed : List (List ℕ)) (payload : List ℕ) (at n : ℕ) where
  pub recorded-front : first_place j ≤ at → at + n ≤ first_place j + length (records_bytes passed) → recorded j (passed ++ payload ∷ []) at n ≡ recorded j passed at n
  recorded-front low high =
      let k = at - first_place j in
      let inside : k + n ≤ length (records_bytes passed) = omega (arith, low, high) in
      ap (λ (l : List ℕ). take n (drop k l)) (records-push passed payload) ∙ ap (λ (l : List ℕ). take n l) (drop-append-le k (records_bytes passed) (record_bytes payload) (omega (arith, inside)))
      ∙ take-append-le n (drop k (records_bytes passed)) (record_bytes payload) (omega (arith, inside, length-drop k (records_bytes passed)))

  pub recorded-last : (k : ℕ) → at ≡ first_place j + length (records_bytes passed) + 5 + k → recorded j (passed ++ payload ∷ []) at n ≡ take n (drop k payload)
  unfolding record_bytes
  recorded-last k place =
      let lead : List ℕ = records_bytes passed ++ 0 ∷ length_bytes (length payload) in
      let size : length lead ≡ length (records_bytes passed) + 5 = omega (arith, length-append (records_bytes passed) (0 ∷ length_bytes (length payload)), length-length_bytes (length payload)) in
      let split : records_bytes (passed ++ payload ∷ []) ≡ lead ++ payload = records-push passed payload ∙ sym (append_assoc (records_bytes passed) (0 ∷ length_bytes (length payload)) payload) in
      let off : at - first_place j ≡ length lead + k = omega (arith, place, size) in
      ap (λ (l : List ℕ). take n (drop (at - first_place j) l)) split ∙ ap (λ (m : ℕ). take n (drop m (lead ++ payload))) off
      ∙ ap (λ (l : List ℕ). take n l) (sym (drop-drop k (length lead) (lead ++ payload)) ∙ ap (λ (l : List ℕ). drop k l) (drop_at lead payload (length lead) refl))

-- two journals whose records begin at one place
pub recorded-moved : (j k : Journal) → first_place j ≡ first_place k → (payloads : List (List ℕ)) (at n : ℕ) → recorded j payloads at n ≡ recorded k payloads at n
recorded-moved j k same payloads at n = ap (λ (s : ℕ). take n (drop (at - s) (records_bytes payloads))) same

-- where the records end
pub end-told : (told : Bool) (j : Journal) (outside : Outside) → Stands told j outside → IsTrue told → (payloads : List (List ℕ)) → records (image j.unit outside.now) ≡ Some payloads → j.end ≡ first_place j + length (records_bytes payloads)
end-told told j outside stands tells payloads is =
    let held = stands.held tells in
    let its : j.end ≡ first_place j + length (records_bytes held.payloads) = omega (arith, held.end, length-written j.version held.payloads) in
    its ∙ ap (λ (ps : List (List ℕ)). first_place j + length (records_bytes ps)) (some-inj [] (sym (read j outside.now held) ∙ is))

-- what holds with a value still holds of what follows from it
pub on-ok-then : {T E : Type 0} (r : Result T E) {A B : Type 0} → (A → B) → OnOk r A → OnOk r B
on-ok-then (Ok x) f a = f a
on-ok-then (Err e) f a = tt
