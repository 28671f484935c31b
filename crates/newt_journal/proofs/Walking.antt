-- One record after the other.
use Rattle.std.proofs.Common.{IsTrue, Bool, ◌≡◌, ℕ, ◌+◌, ◌-◌, ◌^◌, ◌<◌, ◌≤◌, List, [], ◌∷◌, ◌++◌, length, take, drop, Option, Some, None, sym, ◌∙◌, ap, subst, arith, append_assoc, length-append}
use Rattle.std.proofs.lemmas.List.{append-nil}
use Rattle.std.proofs.lemmas.Grind.{flat_map-append}
use Rattle.newt_host.specs.Moments.{Moment, image}
use Rattle.newt_host.specs.Outside.{Outside}
use Rattle.newt_spec_image.specs.Records.{records, payloads_after, with_first, header, record_bytes, length_bytes, length_at, bank_size}
use Rattle.newt_journal.specs.Bank.{bank_number, start_of, limit_of}
use Rattle.newt_journal.specs.Scan.{between}
use Rattle.newt_journal.specs.Journal.{Holds, records_bytes, written, Reading, IsHeld, Stands}
use Rattle.newt_journal.specs.Places.{first_place, payloads_from, IsPlace}
use Rattle.newt_journal.specs.declared.journal.Journal.{Journal}
use Rattle.newt_journal.proofs.Records.{length-length_bytes, length_at-length_bytes, length-record, payloads-flat}
use Rattle.newt_journal.proofs.Steps.{length-bank, length-written, holds-reads, holds-reading, records-push}

pub some-inj : {A : Type 0} (d : A) {x y : A} → Some x ≡ Some y → x ≡ y
some-inj {A = A} d is = ap (λ (o : Option A). elim o as (λ _. A) [ Some z ↦ z | None ↦ d ]) is

pub written-append : (version : ℕ) (passed others : List (List ℕ)) → written version (passed ++ others) ≡ written version passed ++ records_bytes others
unfolding written
written-append version passed others = ap (λ (l : List ℕ). header version ++ l) (flat_map-append record_bytes passed others) ∙ sym (append_assoc (header version) (records_bytes passed) (records_bytes others))

-- a place of the records, counted from the front of the bank
pub from_start : (j : Journal) (at : ℕ) (passed : List (List ℕ)) → at ≡ first_place j + length (records_bytes passed) → at ≡ start_of j.blocks j.bank + length (written j.version passed)
from_start j at passed place = omega (arith, place, length-written j.version passed)

length_bytes-inj : (a b : ℕ) → a < 2 ^ 32 → b < 2 ^ 32 → length_bytes a ≡ length_bytes b → a ≡ b
length_bytes-inj a b a_small b_small same = sym (length_at-length_bytes a [] a_small) ∙ ap (λ (l : List ℕ). length_at (l ++ [])) same ∙ length_at-length_bytes b [] b_small

regroup_record : (front size payload more : List ℕ) → front ++ ((0 ∷ size ++ payload) ++ more) ≡ (front ++ 0 ∷ []) ++ size ++ (payload ++ more)
regroup_record front size payload more = simp append_assoc

regroup_payload : (front size payload more : List ℕ) → front ++ ((0 ∷ size ++ payload) ++ more) ≡ ((front ++ 0 ∷ []) ++ size) ++ payload ++ more
regroup_payload front size payload more = simp append_assoc

module _ (j : Journal) (now : Moment) (held : IsHeld j now) where
  abbrev bytes : List ℕ
  bytes = image j.unit now

  pub read : records bytes ≡ Some held.payloads
  read = ap (λ (r : Reading). r.1) (holds-reading j.blocks j.bank j.enough j.not_too_many j.version j.known held.payloads held.after_records bytes held.bank held.ends)

  -- all records from the first place on
  pub first_is : IsPlace j (first_place j) bytes
  first_is = record { passed = []; others = held.payloads; all = read; place = omega arith }

  module _ (passed others : List (List ℕ)) (all : records bytes ≡ Some (passed ++ others)) (at : ℕ) (place_is : at ≡ first_place j + length (records_bytes passed)) where
    place : at ≡ start_of j.blocks j.bank + length (written j.version passed)
    place = from_start j at passed place_is

    same : held.payloads ≡ passed ++ others
    same = some-inj [] (sym read ∙ all)

    abbrev rest : List ℕ
    rest = records_bytes others ++ held.after_records

    split : written j.version held.payloads ++ held.after_records ≡ written j.version passed ++ rest
    split = ap (λ (l : List (List ℕ)). written j.version l ++ held.after_records) same ∙ ap (λ (l : List ℕ). l ++ held.after_records) (written-append j.version passed others) ∙ append_assoc (written j.version passed) (records_bytes others) held.after_records

    holds : Holds j.blocks (bank_number j.bank) (written j.version passed ++ rest ++ []) bytes
    holds = subst (λ (l : List ℕ). Holds j.blocks (bank_number j.bank) l bytes) (split ∙ sym (append-nil (written j.version passed ++ rest))) held.bank

    size : length (written j.version passed ++ rest) ≡ bank_size j.blocks
    size = ap length (sym split) ∙ length-bank j.blocks j.bank j.enough j.not_too_many (written j.version held.payloads ++ held.after_records) bytes held.bank

    long_rest : length rest ≡ limit_of j.blocks j.bank - at
    long_rest = omega (arith, size, length-append (written j.version passed) rest, place)

    pub end_is : j.end ≡ at + length (records_bytes others)
    end_is = omega (arith, held.end, place, ap length (ap (λ (l : List (List ℕ)). written j.version l) same ∙ written-append j.version passed others), length-append (written j.version passed) (records_bytes others))

    small : length (records_bytes others) < 2 ^ 32
    small = omega (arith, j.not_too_many, size, length-append (written j.version passed) rest, length-append (records_bytes others) held.after_records)

    pub rest_is : between at (limit_of j.blocks j.bank) bytes ≡ rest
    rest_is = ap (λ (n : ℕ). take n (drop at bytes)) (sym long_rest) ∙ ap (λ (k : ℕ). take (length rest) (drop k bytes)) place
        ∙ holds-reads j.blocks j.bank j.enough j.not_too_many (written j.version passed) rest [] bytes holds

    pub from_is : payloads_from j at bytes ≡ Some others
    from_is = ap (λ (l : List ℕ). payloads_after 0 l) rest_is ∙ payloads-flat others held.after_records small held.ends

pub all_from_first : (j : Journal) (now : Moment) (held : IsHeld j now) → payloads_from j (first_place j) (image j.unit now) ≡ records (image j.unit now)
all_from_first j now held = from_is j now held [] held.payloads (read j now held) (first_place j) (omega arith) ∙ sym (read j now held)

-- of each host
pub first_told : (j : Journal) (at : ℕ) → at ≡ first_place j → (told : Bool) (outside : Outside) → Stands told j outside → IsTrue told → IsPlace j at (image j.unit outside.now)
first_told j at is told outside stands t = subst (λ (k : ℕ). IsPlace j k (image j.unit outside.now)) (sym is) (first_is j outside.now (stands.held t))

pub all_told : (j : Journal) (at : ℕ) → at ≡ first_place j → (told : Bool) (outside : Outside) → Stands told j outside → IsTrue told → payloads_from j at (image j.unit outside.now) ≡ records (image j.unit outside.now)
all_told j at is told outside stands t = ap (λ (k : ℕ). payloads_from j k (image j.unit outside.now)) is ∙ all_from_first j outside.now (stands.held t)

-- at a record
module _ (j : Journal) (now : Moment) (held : IsHeld j now) (passed : List (List ℕ)) (payload : List ℕ) (more : List (List ℕ))
    (all : records (image j.unit now) ≡ Some (passed ++ payload ∷ more)) (at : ℕ) (place_is : at ≡ first_place j + length (records_bytes passed)) where
  from_front : at ≡ start_of j.blocks j.bank + length (written j.version passed)
  from_front = from_start j at passed place_is

  abbrev image_now : List ℕ
  image_now = image j.unit now

  abbrev after_record : List ℕ
  after_record = records_bytes more ++ held.after_records

  abbrev size_bytes : List ℕ
  size_bytes = length_bytes (length payload)

  whole : Holds j.blocks (bank_number j.bank) (written j.version passed ++ (record_bytes payload ++ after_record)) image_now
  whole = subst (λ (l : List ℕ). Holds j.blocks (bank_number j.bank) l image_now)
      (split j now held passed (payload ∷ more) all at place_is ∙ ap (λ (l : List ℕ). written j.version passed ++ l) (append_assoc (record_bytes payload) (records_bytes more) held.after_records)) held.bank

  at_size : Holds j.blocks (bank_number j.bank) ((written j.version passed ++ 0 ∷ []) ++ size_bytes ++ (payload ++ after_record)) image_now
  unfolding record_bytes
  at_size = subst (λ (l : List ℕ). Holds j.blocks (bank_number j.bank) l image_now) (regroup_record (written j.version passed) size_bytes payload after_record) whole

  at_payload : Holds j.blocks (bank_number j.bank) (((written j.version passed ++ 0 ∷ []) ++ size_bytes) ++ payload ++ after_record) image_now
  unfolding record_bytes
  at_payload = subst (λ (l : List ℕ). Holds j.blocks (bank_number j.bank) l image_now) (regroup_payload (written j.version passed) size_bytes payload after_record) whole

  pub to_end : j.end ≡ at + 5 + length payload + length (records_bytes more)
  to_end = omega (arith, end_is j now held passed (payload ∷ more) all at place_is, length-append (record_bytes payload) (records_bytes more), length-record payload)

  payload_small : length payload < 2 ^ 32
  payload_small = omega (arith, to_end, j.high, j.not_too_many, small j now held passed (payload ∷ more) all at place_is, length-append (record_bytes payload) (records_bytes more), length-record payload)

  pub reads_size : take 4 (drop (at + 1) image_now) ≡ size_bytes
  reads_size =
      let there : at + 1 ≡ start_of j.blocks j.bank + length (written j.version passed ++ 0 ∷ []) = omega (arith, from_front, length-append (written j.version passed) (0 ∷ [])) in
      ap (λ (k : ℕ). take 4 (drop k image_now)) there ∙ ap (λ (n : ℕ). take n (drop (start_of j.blocks j.bank + length (written j.version passed ++ 0 ∷ [])) image_now)) (sym (length-length_bytes (length payload)))
      ∙ holds-reads j.blocks j.bank j.enough j.not_too_many (written j.version passed ++ 0 ∷ []) size_bytes (payload ++ after_record) image_now at_size

  pub reads_payload : take (length payload) (drop (at + 5) image_now) ≡ payload
  reads_payload =
      let there : at + 5 ≡ start_of j.blocks j.bank + length ((written j.version passed ++ 0 ∷ []) ++ size_bytes) = omega (arith, from_front, length-append (written j.version passed ++ 0 ∷ []) size_bytes, length-append (written j.version passed) (0 ∷ []), length-length_bytes (length payload)) in
      ap (λ (k : ℕ). take (length payload) (drop k image_now)) there
      ∙ holds-reads j.blocks j.bank j.enough j.not_too_many ((written j.version passed ++ 0 ∷ []) ++ size_bytes) payload after_record image_now at_payload

  module _ (n : ℕ) (n_small : n < 2 ^ 32) (number : length_bytes n ≡ take 4 (drop (at + 1) image_now)) where
    pub size_is : length payload ≡ n
    size_is = sym (length_bytes-inj n (length payload) n_small payload_small (number ∙ reads_size))

    pub fits : n ≤ j.end - at - 5
    fits = omega (arith, size_is, to_end)

    next_place : at + 5 + n ≡ first_place j + length (records_bytes (passed ++ payload ∷ []))
    next_place = omega (arith, place_is, size_is, ap length (records-push passed payload), length-append (records_bytes passed) (record_bytes payload), length-record payload)

    all_next : records image_now ≡ Some ((passed ++ payload ∷ []) ++ more)
    all_next = all ∙ ap (λ (l : List (List ℕ)). Some l) (sym (append_assoc passed (payload ∷ []) more))

    pub next_is : IsPlace j (at + 5 + n) image_now
    next_is = record { passed = passed ++ payload ∷ []; others = more; all = all_next; place = next_place }

    pub one_is : payloads_from j at image_now ≡ with_first (take n (drop (at + 5) image_now)) (payloads_from j (at + 5 + n) image_now)
    one_is = from_is j now held passed (payload ∷ more) all at place_is
        ∙ ap (λ (l : List ℕ). with_first l (Some more)) (sym reads_payload ∙ ap (λ (k : ℕ). take k (drop (at + 5) image_now)) size_is)
        ∙ ap (λ (o : Option (List (List ℕ))). with_first (take n (drop (at + 5) image_now)) o) (sym (from_is j now held (passed ++ payload ∷ []) more all_next (at + 5 + n) next_place))

-- a record begins here, or all of them end
module _ (j : Journal) (now : Moment) (held : IsHeld j now) (at : ℕ) where
  short_at : (passed others : List (List ℕ)) → records (image j.unit now) ≡ Some (passed ++ others) → at ≡ first_place j + length (records_bytes passed) → j.end - at < 5
      → (payloads_from j at (image j.unit now) ≡ Some []) × (at ≡ j.end)
  short_at passed [] all place short = (from_is j now held passed [] all at place, omega (arith, end_is j now held passed [] all at place))
  short_at passed (payload ∷ more) all place short = absurd (omega (arith, short, to_end j now held passed payload more all at place))

  pub short_is : IsPlace j at (image j.unit now) → j.end - at < 5 → (payloads_from j at (image j.unit now) ≡ Some []) × (at ≡ j.end)
  short_is p short = short_at p.passed p.others p.all p.place short

  module _ (n : ℕ) (n_small : n < 2 ^ 32) (number : length_bytes n ≡ take 4 (drop (at + 1) (image j.unit now))) (room : at + 5 ≤ j.end) where
    long_at : (passed others : List (List ℕ)) → records (image j.unit now) ≡ Some (passed ++ others) → at ≡ first_place j + length (records_bytes passed)
        → (n ≤ j.end - at - 5) × IsPlace j (at + 5 + n) (image j.unit now) × (payloads_from j at (image j.unit now) ≡ with_first (take n (drop (at + 5) (image j.unit now))) (payloads_from j (at + 5 + n) (image j.unit now)))
    long_at passed [] all place = absurd (omega (arith, room, end_is j now held passed [] all at place))
    long_at passed (payload ∷ more) all place = (
      fits j now held passed payload more all at place n n_small number,
      next_is j now held passed payload more all at place n n_small number,
      one_is j now held passed payload more all at place n n_small number,
    )

    pub long_is : IsPlace j at (image j.unit now) → (n ≤ j.end - at - 5) × IsPlace j (at + 5 + n) (image j.unit now) × (payloads_from j at (image j.unit now) ≡ with_first (take n (drop (at + 5) (image j.unit now))) (payloads_from j (at + 5 + n) (image j.unit now)))
    long_is p = long_at p.passed p.others p.all p.place
