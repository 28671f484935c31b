-- A unit becomes a journal of one record.
use Rattle.std.proofs.Common.{IsSome, None, ◌≡◌, ℕ, ◌+◌, ◌-◌, ◌*◌, ◌≤◌, false, List, [], ◌∷◌, ◌++◌, length, take, replicate, Some, Result, Ok, sym, ◌∙◌, ap, subst, arith, length-append}
use Rattle.std.proofs.lemmas.List.{length-replicate}
use Rattle.newt_host.specs.Moments.{Moment, image, changes, IsDurable, IsHistory, MayLeave, SameOutside, Leaves}
use Rattle.newt_host.specs.Outside.{Outside, IsBlank, Writes, Syncs}
use Rattle.newt_host.proofs.Moments.{Leaves-append, Leaves-start, Leaves-sync, Leaves-weaken, image-sync}
use Rattle.newt_host.proofs.Histories.{history-leaves}
use Rattle.newt_host.proofs.Ranges.{same-refl, same-trans, same-widen}
use Rattle.newt_spec_image.specs.Records.{bank_size, bank_start, tail, AllVoteFor}
use Rattle.newt_journal.specs.Bank.{bank_number, start_of}
use Rattle.newt_journal.specs.Fresh.{lead, FilledBy}
use Rattle.newt_journal.specs.Journal.{Holds, written, reading, HeldBy}
use Rattle.newt_journal.specs.Pieces.{IsTornIn}
use Rattle.newt_journal.specs.declared.bank.Bank.{Bank}
use Rattle.newt_journal.specs.declared.bank.Bank.TheVariants.{First}
use Rattle.newt_journal.specs.declared.journal.Journal.{Journal}
use Rattle.newt_journal.proofs.Steps.{bank-fits, bank-low, holds-reading, version-2}
use Rattle.newt_journal.proofs.Tail.{holds-tail}
use Rattle.newt_journal.proofs.Finish.{Ends-blank}
use Rattle.newt_journal.proofs.Casting.{alike-chosen}
use Rattle.newt_journal.proofs.Blocks.{drop-after}
use Rattle.newt_journal.proofs.Opened.{has_blocks}
use Rattle.newt_journal.proofs.Beginning.{length-lead}
use Rattle.newt_journal.proofs.Switches.{lead-record}
use Rattle.newt_journal.proofs.Filling.{sync_filled, room_blank, write_leaves, write_filled}

-- Whenever a format is cut off, nothing but so many bytes at the front of the unit is torn. At its
-- start nothing is known of what is pending, which its first sync then makes sure of.
module _ (u n : ℕ) (m : Moment) where
  pub before_sync : Leaves u (IsTornIn u 0 n m) m m
  before_sync = Leaves-start (λ left may. (left, may, same-refl 0 n left))

  pub after_sync : {T E : Type 0} {result : Result T E} {next : Moment}
      → MayLeave u m (image u m) → Syncs u result m next → Leaves u (IsTornIn u 0 n m) m next
  after_sync may synced = Leaves-sync before_sync synced (image u m, may, same-refl 0 n (image u m))

  -- and what goes on from there
  pub then_front : {T E : Type 0} {result : Result T E} {next last : Moment}
      → MayLeave u m (image u m) → Syncs u result m next
      → Leaves u (SameOutside 0 n (image u next)) next last → Leaves u (IsTornIn u 0 n m) m last
  then_front may synced leaves = Leaves-append (after_sync may synced) (Leaves-weaken (λ left same.
      (image u m, may, subst (λ (l : List ℕ). SameOutside 0 n l left) (image-sync synced) same)) leaves)

-- told of a unit with as many blocks
pub front_is : {u blocks count : ℕ} {m last : Moment} → blocks ≡ count
    → Leaves u (IsTornIn u 0 (bank_start blocks 1) m) m last
    → Leaves u (IsTornIn u 0 (bank_start count 1) m) m last
front_is {u = u} {m = m} {last = last} is leaves =
    subst (λ (b : ℕ). Leaves u (IsTornIn u 0 (bank_start b 1) m) m last) is leaves

first_in_front : (blocks : ℕ) (base left : List ℕ)
    → SameOutside (start_of blocks First) (bank_size blocks) base left
    → SameOutside 0 (bank_start blocks 1) base left
first_in_front blocks base left s =
    same-widen (start_of blocks First) (bank_size blocks) 0 (bank_start blocks 1) s (omega arith) (omega arith)

pub bank_begun : (u blocks : ℕ) (base : List ℕ) {a b : Moment}
    → Leaves u (SameOutside (start_of blocks First) (bank_size blocks) base) a b
    → Leaves u (SameOutside 0 (bank_start blocks 1) base) a b
bank_begun u blocks base leaves = Leaves-weaken (first_in_front blocks base) leaves

-- the image of a unit that has a device is one that a crash may leave
pub may_leave : (u blocks : ℕ) (outside : Outside) → (outside.card u ≡ None → outside.blocks u ≡ 0)
    → blocks ≡ outside.blocks u → 13 ≤ blocks
    → (IsSome (outside.card u) → IsHistory (outside.blocks u * 4096) (changes u outside.now))
    → MayLeave u outside.now (image u outside.now)
may_leave u blocks outside none is enough history =
    history-leaves _ _ (history (has_blocks u blocks outside none is enough).attached)

module _ (u blocks : ℕ) (enough : 13 ≤ blocks) (few : blocks ≤ 4099) (base payload : List ℕ) (long : length base ≡ blocks * 4096) (fits : 21 + length payload ≤ bank_size blocks) (at : ℕ) (at_is : at ≡ start_of blocks First)
    (m1 : Moment) (filled : FilledBy (start_of blocks First) (bank_size blocks) base (lead (length payload)) (bank_size blocks - 21) (changes u m1)) where
  abbrev start : ℕ
  start = start_of blocks First

  abbrev size : ℕ
  size = bank_size blocks

  abbrev pub rest : ℕ
  rest = size - 21 - length payload

  inside : start + size ≤ length base
  inside = omega (arith, long, bank-fits blocks First enough)

  room : length payload ≤ size - 21
  room = omega (arith, fits)

  there : at + 21 ≡ start + length (lead (length payload))
  there = omega (arith, at_is, length-lead (length payload))

  pub format_blank : IsBlank (at + 21) (length payload) (image u m1)
  format_blank = room_blank u start size base inside (lead (length payload)) (size - 21) m1 filled payload room (at + 21) there

  -- the votes and the first bank
  abbrev Front : List ℕ → Type 0
  Front left = SameOutside 0 (bank_start blocks 1) base left

  in_front : (left : List ℕ) → SameOutside start size base left → Front left
  in_front left s = first_in_front blocks base left s

  pub front_written : {T E : Type 0} {result : Result T E} {m0 m2 : Moment}
      → Leaves u (SameOutside start size base) m0 m1 → Writes u (at + 21) payload result m1 m2
      → Leaves u Front m0 m2
  front_written leaves wrote = Leaves-weaken in_front (write_leaves u start size base inside
      (lead (length payload)) (size - 21) m1 filled payload room (at + 21) there wrote leaves)

  module _ {T2 E2 : Type 0} {x2 : T2} {m2 : Moment} (wrote : Writes {E = E2} u (at + 21) payload (Ok x2) m1 m2) where
    filled_2 : FilledBy start size base (lead (length payload) ++ payload) rest (changes u m2)
    filled_2 = write_filled u start size base inside (lead (length payload)) (size - 21) m1 filled payload room (at + 21) there wrote

    pub front_sure : {T E : Type 0} {result : Result T E} {m0 m3 : Moment}
        → Leaves u (SameOutside start size base) m0 m1 → Syncs u result m2 m3 → Leaves u Front m0 m3
    front_sure leaves synced = Leaves-sync (front_written leaves wrote) synced
        (in_front (image u m2) filled_2.kept)

    pub front_voted : {T E : Type 0} {x : T} {m0 m3 m4 : Moment}
        → Leaves u (SameOutside start size base) m0 m1 → Syncs {E = E} u (Ok x) m2 m3
        → Leaves u (SameOutside 0 12288 (image u m3)) m3 m4 → Leaves u Front m0 m4
    front_voted leaves synced voted =
        let kept = (sync_filled u start size base inside filled_2 synced).kept in
        Leaves-append (front_sure leaves synced) (Leaves-weaken (λ left same.
        same-trans (in_front _ kept) (same-widen 0 12288 0 (bank_start blocks 1) same (omega arith) (omega arith))) voted)

  module _ {T2 E2 : Type 0} {x2 : T2} {m2 : Moment} (wrote : Writes {E = E2} u (at + 21) payload (Ok x2) m1 m2) {T3 E3 : Type 0} {x3 : T3} {m3 : Moment} (synced : Syncs {E = E3} u (Ok x3) m2 m3)
      (m4 : Moment) (alike : AllVoteFor 0 (image u m4)) (same : SameOutside 0 12288 (image u m3) (image u m4)) where
    filled_3 : FilledBy start size base (lead (length payload) ++ payload) rest (changes u m3)
    filled_3 = sync_filled u start size base inside (write_filled u start size base inside (lead (length payload)) (size - 21) m1 filled payload room (at + 21) there wrote) synced

    pub format_holds : Holds blocks (bank_number First) (written 2 (payload ∷ []) ++ replicate rest 255) (image u m4)
    format_holds = record {
      size = same.size ∙ filled_3.kept.size ∙ long;
      votes = alike-chosen 0 (image u m4) (omega arith) alike;
      bank_is = ap (λ (l : List ℕ). take size l) (drop-after same start (bank-low blocks First)) ∙ filled_3.bytes ∙ ap (λ (l : List ℕ). l ++ replicate rest 255) (lead-record payload);
    }

    pub format_reads : reading (image u m4) ≡ (2, Some (payload ∷ []))
    format_reads = holds-reading blocks First enough few 2 version-2 (payload ∷ []) (replicate rest 255) (image u m4) format_holds (Ends-blank rest)

    pub format_tail : tail (image u m4) ≡ replicate rest 255
    format_tail = holds-tail blocks First enough few 2 version-2 (payload ∷ []) (replicate rest 255) (image u m4) format_holds (Ends-blank rest)

    pub format_stands : (j : Journal) → j.blocks ≡ blocks → j.bank ≡ First → j.end ≡ at + 21 + length payload → j.version ≡ 2 → j.closed ≡ false → IsDurable u m4 → HeldBy j (changes u m4)
    format_stands j blocks_is bank_is end_is new open_is durable = record {
      payloads = payload ∷ [];
      after_records = replicate rest 255;
      bank = subst (λ (v : ℕ). Holds j.blocks (bank_number j.bank) (written v (payload ∷ []) ++ replicate rest 255) (image u m4)) (sym new)
          (subst (λ (b : Bank). Holds j.blocks (bank_number b) (written 2 (payload ∷ []) ++ replicate rest 255) (image u m4)) (sym bank_is)
          (subst (λ (n : ℕ). Holds n (bank_number First) (written 2 (payload ∷ []) ++ replicate rest 255) (image u m4)) (sym blocks_is) format_holds));
      end =
          let sizes : length (written 2 (payload ∷ [])) ≡ 21 + length payload = omega (arith, ap length (sym (lead-record payload)), length-append (lead (length payload)) payload, length-lead (length payload)) in
          end_is ∙ (let place : at + 21 + length payload ≡ start + length (written 2 (payload ∷ [])) = omega (arith, at_is, sizes) in place)
          ∙ (λ i. start_of (sym blocks_is i) (sym bank_is i) + length (written (sym new i) (payload ∷ [])));
      ends = Ends-blank rest;
      blank = λ not_closed. ap (λ (n : ℕ). replicate n 255) (sym (length-replicate rest 255));
      not_closed = λ is blank. open_is;
      durable = durable;
    }
