-- A record is written alone into the other bank, and then the votes turn.
use Rattle.std.proofs.Common.{◌≡◌, inl, inr, ℕ, ◌+◌, ◌-◌, ◌*◌, ◌≤◌, false, List, [], ◌∷◌, ◌++◌, length, take, drop, replicate, Some, Result, Ok, refl, sym, ◌∙◌, ap, subst, arith, append_assoc, length-append}
use Rattle.std.proofs.lemmas.List.{length-replicate, append-nil}
use Rattle.newt_host.specs.Moments.{Moment, image, changes, IsDurable, SameOutside, Leaves}
use Rattle.newt_host.specs.Outside.{IsBlank, Writes, Syncs}
use Rattle.newt_host.proofs.Moments.{Leaves-start, Leaves-sync, Leaves-append, Leaves-weaken, image-sync}
use Rattle.newt_host.proofs.Ranges.{get_or-same, same-refl, part-reads}
use Rattle.newt_spec_image.specs.Records.{bank_size, bank_bytes, chosen, chosen_bank, header, record_bytes, length_bytes, AllVoteFor}
use Rattle.newt_journal.specs.Bank.{bank_number, other_bank, start_of}
use Rattle.newt_journal.specs.Turns.{Turns, IsSameBlock, InTurn}
use Rattle.newt_journal.specs.Fresh.{lead, FilledBy}
use Rattle.newt_journal.specs.Journal.{Holds, written, Reading, reading, HeldBy, IsHeld, ReadsAs, ReadsAsEither}
use Rattle.newt_journal.specs.Switch.{switch_start, switched, IsSwitching}
use Rattle.newt_journal.specs.declared.bank.Bank.{Bank}
use Rattle.newt_journal.specs.declared.bank.Bank.TheVariants.{First, Second}
use Rattle.newt_journal.specs.declared.journal.Journal.{Journal}
use Rattle.newt_journal.specs.declared.switching.Switching.{Switching}
use Rattle.newt_journal.proofs.Steps.{bank-low, bank-fits, holds-reading, version-2}
use Rattle.newt_journal.proofs.Finish.{Ends-blank}
use Rattle.newt_journal.proofs.Erasing.{part-before}
use Rattle.newt_journal.proofs.Blocks.{drop-after}
use Rattle.newt_journal.proofs.Repairing.{bank-after}
use Rattle.newt_journal.proofs.Beginning.{length-lead}
use Rattle.newt_journal.proofs.Filling.{room_blank, write_leaves, write_filled}

-- whatever happens to the other bank
pub bank-elsewhere : (blocks : ℕ) (bank : Bank) (bytes base left : List ℕ) → Holds blocks (bank_number bank) bytes base → SameOutside (start_of blocks (other_bank bank)) (bank_size blocks) base left → Holds blocks (bank_number bank) bytes left
bank-elsewhere blocks First bytes base left h s =
    record {
      size = s.size ∙ h.size;
      votes = (λ i. chosen (get_or-same s 0 (omega arith) i) (get_or-same s 4096 (omega arith) i) (get_or-same s 8192 (omega arith) i)) ∙ h.votes;
      bank_is = part-before s (start_of blocks First) (bank_size blocks) (omega arith) ∙ h.bank_is;
    }
bank-elsewhere blocks Second bytes base left h s =
    record {
      size = s.size ∙ h.size;
      votes = (λ i. chosen (get_or-same s 0 (omega arith) i) (get_or-same s 4096 (omega arith) i) (get_or-same s 8192 (omega arith) i)) ∙ h.votes;
      bank_is = ap (λ (l : List ℕ). take (bank_size blocks) l) (drop-after s (start_of blocks Second) (omega arith)) ∙ h.bank_is;
    }

alike-elsewhere : (blocks k : ℕ) (bank : Bank) (base left : List ℕ) → AllVoteFor k base → SameOutside (start_of blocks bank) (bank_size blocks) base left → AllVoteFor k left
alike-elsewhere blocks k bank base left alike s =
    let low = bank-low blocks bank in
    record {
      first = get_or-same s 0 (omega (arith, low)) ∙ alike.first;
      second = get_or-same s 4096 (omega (arith, low)) ∙ alike.second;
      third = get_or-same s 8192 (omega (arith, low)) ∙ alike.third;
    }

regroup_lead : (front size payload : List ℕ) → ((front ++ 0 ∷ []) ++ size) ++ payload ≡ front ++ ((0 ∷ size ++ payload) ++ [])
regroup_lead front size payload = simp (append_assoc, append-nil)

pub lead-record : (payload : List ℕ) → lead (length payload) ++ payload ≡ written 2 (payload ∷ [])
unfolding lead written record_bytes
lead-record payload = regroup_lead (header 2) (length_bytes (length payload)) payload

module _ (s : Switching) (now : Moment) (held : IsSwitching s now) where
  abbrev pub u : ℕ
  u = s.journal.unit

  abbrev pub blocks : ℕ
  blocks = s.journal.blocks

  abbrev pub from : Bank
  from = s.journal.bank

  abbrev pub to : Bank
  to = other_bank s.journal.bank

  abbrev pub start : ℕ
  start = switch_start s

  abbrev pub size : ℕ
  size = bank_size s.journal.blocks

  abbrev pub img : List ℕ
  img = image u now

  pub inside : start + size ≤ length held.base
  inside = omega (arith, held.bank.size, bank-fits blocks to s.journal.enough)

  abbrev pub version : ℕ
  version = s.journal.version

  pub elsewhere : (left : List ℕ) → SameOutside start size held.base left → Holds blocks (bank_number from) (written version held.payloads ++ held.after_records) left
  elsewhere left same = bank-elsewhere blocks from (written version held.payloads ++ held.after_records) held.base left held.bank same

  reads-payloads : (left : List ℕ) → SameOutside start size held.base left → reading left ≡ (version, Some held.payloads)
  reads-payloads left same = holds-reading blocks from s.journal.enough s.journal.not_too_many version s.journal.known held.payloads held.after_records left (elsewhere left same) held.ends

  pub reads_now : reading img ≡ (version, Some held.payloads)
  reads_now = reads-payloads img held.filled.kept

  pub reads_same : (left : List ℕ) → SameOutside start size held.base left → reading left ≡ reading img
  reads_same left same = reads-payloads left same ∙ sym reads_now

  pub switched-is : switched s img ≡ held.so_far
  switched-is =
      let place : start + 21 ≡ start + length (lead s.len) = omega (arith, length-lead s.len) in
      ap (λ (k : ℕ). take s.put (drop k img)) place ∙ ap (λ (n : ℕ). take n (drop (start + length (lead s.len)) img)) (sym held.put)
      ∙ part-reads start size img (omega (arith, inside, held.filled.kept.size)) (lead s.len) held.so_far (replicate (size - 21 - s.put) 255) held.filled.bytes

  module _ (bytes : List ℕ) (within : s.put + length bytes ≤ s.len) (at : ℕ) (at_is : at ≡ start + 21 + s.put) where
    room : length bytes ≤ size - 21 - s.put
    room = omega (arith, within, s.fits)

    there : at ≡ start + length (lead s.len ++ held.so_far)
    there = omega (arith, at_is, length-append (lead s.len) held.so_far, length-lead s.len, held.put)

    pub blank_put : IsBlank at (length bytes) img
    blank_put = room_blank u start size held.base inside (lead s.len ++ held.so_far) (size - 21 - s.put) now held.filled bytes room at there

    pub any_put : {T E : Type 0} {result : Result T E} {next : Moment} → Writes u at bytes result now next → Leaves u (ReadsAs (reading img)) now next
    any_put wrote = Leaves-weaken reads_same
        (write_leaves u start size held.base inside (lead s.len ++ held.so_far) (size - 21 - s.put) now held.filled bytes room at there wrote (Leaves-start (λ left may. held.filled.crash left may)))

    module _ {T E : Type 0} {x : T} {next : Moment} (wrote : Writes {E = E} u at bytes (Ok x) now next) where
      filled_next : FilledBy start size held.base (lead s.len ++ (held.so_far ++ bytes)) (size - 21 - (s.put + length bytes)) (changes u next)
      filled_next =
          let left_over : size - 21 - s.put - length bytes ≡ size - 21 - (s.put + length bytes) = omega arith in
          subst (λ (n : ℕ). FilledBy start size held.base (lead s.len ++ (held.so_far ++ bytes)) n (changes u next)) left_over
          (subst (λ (l : List ℕ). FilledBy start size held.base l (size - 21 - s.put - length bytes) (changes u next)) (append_assoc (lead s.len) held.so_far bytes)
          (write_filled u start size held.base inside (lead s.len ++ held.so_far) (size - 21 - s.put) now held.filled bytes room at there wrote))

      pub same_reading : reading (image u next) ≡ reading img
      same_reading = reads_same (image u next) filled_next.kept

      module _ (fits : 21 + s.len ≤ size) (within_len : s.put + length bytes ≤ s.len) where
        abbrev pub next_draft : Switching
        next_draft = record { journal = s.journal; len = s.len; put = s.put + length bytes; fits = fits; within = within_len }

        pub switching_now : IsSwitching next_draft next
        switching_now = record {
          base = held.base;
          payloads = held.payloads;
          after_records = held.after_records;
          so_far = held.so_far ++ bytes;
          bank = held.bank;
          ends = held.ends;
          end = held.end;
          alike = held.alike;
          filled = filled_next;
          put = omega (arith, held.put, length-append held.so_far bytes);
        }

        pub more_switched : switched next_draft (image u next) ≡ switched s img ++ bytes
        more_switched =
            let place : start + 21 ≡ start + length (lead s.len) = omega (arith, length-lead s.len) in
            let n : s.put + length bytes ≡ length (held.so_far ++ bytes) = omega (arith, held.put, length-append held.so_far bytes) in
            ap (λ (k : ℕ). take (s.put + length bytes) (drop k (image u next))) place ∙ ap (λ (n : ℕ). take n (drop (start + length (lead s.len)) (image u next))) n
            ∙ part-reads start size (image u next) (omega (arith, inside, filled_next.kept.size)) (lead s.len) (held.so_far ++ bytes) (replicate (size - 21 - (s.put + length bytes)) 255) filled_next.bytes
            ∙ ap (λ (l : List ℕ). l ++ bytes) (sym switched-is)

  -- the end: a sync, and the votes
  module _ (whole : s.put ≡ s.len) where
    abbrev pub before : Reading
    before = reading img

    abbrev pub after : Reading
    after = (2, Some (switched s img ∷ []))

    abbrev pub rest : List ℕ
    rest = replicate (size - 21 - s.put) 255

    other_is : bank_bytes blocks (bank_number to) img ≡ written 2 (held.so_far ∷ []) ++ rest
    other_is =
        let n : s.len ≡ length held.so_far = sym whole ∙ sym held.put in
        held.filled.bytes ∙ ap (λ (n : ℕ). lead n ++ held.so_far ++ rest) n ∙ ap (λ (l : List ℕ). l ++ rest) (lead-record held.so_far)

    pub any_1 : {T E : Type 0} {result : Result T E} {m1 : Moment} → Syncs u result now m1 → Leaves u (ReadsAsEither before after) now m1
    any_1 synced = Leaves-sync (Leaves-start (λ left may. inl (reads_same left (held.filled.crash left may)))) synced (inl refl)

    -- the blocks that vote are as they were until the votes turn
    unturned : (block : ℕ) → block ≤ 2 → (left : List ℕ) → SameOutside start size held.base left
        → IsSameBlock block held.base left
    unturned block low left same = part-before same (block * 4096) 4096 (omega (arith, low, bank-low blocks to))

    none_turned : (left : List ℕ) → SameOutside start size held.base left
        → InTurn (bank_number to) 0 1 2 img left
    none_turned left same = record {
      second_waits = inl (unturned 1 (omega arith) left same
          ∙ sym (unturned 1 (omega arith) img held.filled.kept));
      third_waits = inl (unturned 2 (omega arith) left same
          ∙ sym (unturned 2 (omega arith) img held.filled.kept));
    }

    pub in_turn_1 : {T E : Type 0} {result : Result T E} {m1 : Moment} → Syncs u result now m1
        → Leaves u (InTurn (bank_number to) 0 1 2 img) now m1
    in_turn_1 synced = Leaves-sync
        (Leaves-start (λ left may. none_turned left (held.filled.crash left may))) synced
        (none_turned img held.filled.kept)

    module _ {T1 E1 : Type 0} {x1 : T1} {m1 : Moment} (synced : Syncs {E = E1} u (Ok x1) now m1) where
      img_1 : image u m1 ≡ img
      img_1 = image-sync synced

      pub alike_1 : AllVoteFor (bank_number from) (image u m1)
      alike_1 = subst (λ (l : List ℕ). AllVoteFor (bank_number from) l) (sym img_1) (alike-elsewhere blocks (bank_number from) to held.base img held.alike held.filled.kept)

      module _ (to_bank : Bank) (to_is : to_bank ≡ to) where
        kept_from : (left : List ℕ) → chosen_bank left ≡ Some (bank_number from) → SameOutside 0 12288 (image u m1) left → reading left ≡ before
        kept_from left chosen_is same =
            holds-reading blocks from s.journal.enough s.journal.not_too_many version s.journal.known held.payloads held.after_records left
            (bank-after blocks from (written version held.payloads ++ held.after_records) img left (elsewhere img held.filled.kept)
            chosen_is (subst (λ (l : List ℕ). SameOutside 0 12288 l left) img_1 same)) held.ends
            ∙ sym reads_now

        pub holds_to : (left : List ℕ) → chosen_bank left ≡ Some (bank_number to_bank) → SameOutside 0 12288 (image u m1) left → Holds blocks (bank_number to) (written 2 (held.so_far ∷ []) ++ rest) left
        holds_to left chosen_is same = record {
          size = same.size ∙ ap length img_1 ∙ held.filled.kept.size ∙ held.bank.size;
          votes = chosen_is ∙ ap (λ (b : Bank). Some (bank_number b)) to_is;
          bank_is = ap (λ (l : List ℕ). take size l) (drop-after same start (bank-low blocks to) ∙ ap (λ (l : List ℕ). drop start l) img_1) ∙ other_is;
        }

        pub kept_to : (left : List ℕ) → chosen_bank left ≡ Some (bank_number to_bank) → SameOutside 0 12288 (image u m1) left → reading left ≡ after
        kept_to left chosen_is same =
            holds-reading blocks to s.journal.enough s.journal.not_too_many 2 version-2 (held.so_far ∷ []) rest left (holds_to left chosen_is same) (Ends-blank (size - 21 - s.put))
            ∙ ap (λ (l : List ℕ). (2, Some (l ∷ []))) (sym switched-is)

        either : (left : List ℕ) → Turns (bank_number from) (bank_number to_bank) (image u m1) left → ReadsAsEither before after left
        either left turns = elim turns.bank [
          | inl old ↦ inl (kept_from left old turns.same)
          | inr new ↦ inr (kept_to left new turns.same)
        ]

        pub any_2 : {m2 : Moment} → Leaves u (Turns (bank_number from) (bank_number to_bank) (image u m1)) m1 m2 → Leaves u (ReadsAsEither before after) now m2
        any_2 turning = Leaves-append (any_1 synced) (Leaves-weaken either turning)

        pub in_turn_2 : {m2 : Moment} → Leaves u (Turns (bank_number from) (bank_number to_bank) (image u m1)) m1 m2
            → Leaves u (InTurn (bank_number to) 0 1 2 img) now m2
        in_turn_2 turning = Leaves-append (in_turn_1 synced) (Leaves-weaken (λ left t.
            subst (λ (b : Bank). InTurn (bank_number b) 0 1 2 img left) to_is
            (subst (λ (l : List ℕ). InTurn (bank_number to_bank) 0 1 2 l left) img_1 t.in_turn)) turning)

        module _ (m2 : Moment) (turned : (chosen_bank (image u m2) ≡ Some (bank_number to_bank)) × SameOutside 0 12288 (image u m1) (image u m2)) where
          pub committed : reading (image u m2) ≡ after
          committed = kept_to (image u m2) turned.0 turned.1

          pub stands : (j : Journal) → j.blocks ≡ blocks → j.bank ≡ to → j.end ≡ start + 21 + s.len → j.version ≡ 2 → j.closed ≡ false → IsDurable u m2 → HeldBy j (changes u m2)
          stands j blocks_is bank_is end_is new open_is durable = record {
            payloads = held.so_far ∷ [];
            after_records = rest;
            bank = subst (λ (v : ℕ). Holds j.blocks (bank_number j.bank) (written v (held.so_far ∷ []) ++ rest) (image u m2)) (sym new)
                (subst (λ (b : Bank). Holds j.blocks (bank_number b) (written 2 (held.so_far ∷ []) ++ rest) (image u m2)) (sym bank_is)
                (subst (λ (n : ℕ). Holds n (bank_number to) (written 2 (held.so_far ∷ []) ++ rest) (image u m2)) (sym blocks_is) (holds_to (image u m2) turned.0 turned.1)));
            end =
                let long : length (written 2 (held.so_far ∷ [])) ≡ 21 + s.len = omega (arith, ap length (sym (lead-record held.so_far)), length-append (lead (length held.so_far)) held.so_far, length-lead (length held.so_far), held.put, whole) in
                end_is ∙ (let place : start + 21 + s.len ≡ start + length (written 2 (held.so_far ∷ [])) = omega (arith, long) in place)
                ∙ (λ i. start_of (sym blocks_is i) (sym bank_is i) + length (written (sym new i) (held.so_far ∷ [])));
            ends = Ends-blank (size - 21 - s.put);
            blank = λ not_closed. ap (λ (n : ℕ). replicate n 255) (sym (length-replicate (size - 21 - s.put) 255));
            not_closed = λ is blank. open_is;
            durable = durable;
          }

-- the beginning of a switch
module _ (j : Journal) (len : ℕ) (old : Moment) (held : IsHeld j old) (to_bank : Bank) (to_is : to_bank ≡ other_bank j.bank) where
  elsewhere_first : (left : List ℕ) → SameOutside (start_of j.blocks to_bank) (bank_size j.blocks) (image j.unit old) left → reading left ≡ (j.version, Some held.payloads)
  elsewhere_first left same =
      holds-reading j.blocks j.bank j.enough j.not_too_many j.version j.known held.payloads held.after_records left
      (bank-elsewhere j.blocks j.bank (written j.version held.payloads ++ held.after_records) (image j.unit old) left held.bank
      (subst (λ (b : Bank). SameOutside (start_of j.blocks b) (bank_size j.blocks) (image j.unit old) left) to_is same)) held.ends

  pub begin_same : (left : List ℕ) → SameOutside (start_of j.blocks to_bank) (bank_size j.blocks) (image j.unit old) left → reading left ≡ reading (image j.unit old)
  begin_same left same = elsewhere_first left same ∙ sym (elsewhere_first (image j.unit old) (same-refl (start_of j.blocks to_bank) (bank_size j.blocks) (image j.unit old)))

  pub begun : (now : Moment) → AllVoteFor (bank_number j.bank) (image j.unit old)
      → FilledBy (start_of j.blocks to_bank) (bank_size j.blocks) (image j.unit old) (lead len) (bank_size j.blocks - 21) (changes j.unit now)
      → (fits : 21 + len ≤ bank_size j.blocks) (within : 0 ≤ len) → IsSwitching (record { journal = j; len = len; put = 0; fits = fits; within = within }) now
  begun now alike filled fits within =
      let none : bank_size j.blocks - 21 ≡ bank_size j.blocks - 21 - 0 = omega arith in
      record {
        base = image j.unit old;
        payloads = held.payloads;
        after_records = held.after_records;
        so_far = [];
        bank = held.bank;
        ends = held.ends;
        end = held.end;
        alike = alike;
        filled = subst (λ (b : Bank). FilledBy (start_of j.blocks b) (bank_size j.blocks) (image j.unit old) (lead len ++ []) (bank_size j.blocks - 21 - 0) (changes j.unit now)) to_is
            (subst (λ (l : List ℕ). FilledBy (start_of j.blocks to_bank) (bank_size j.blocks) (image j.unit old) l (bank_size j.blocks - 21 - 0) (changes j.unit now)) (sym (append-nil (lead len)))
            (subst (λ (n : ℕ). FilledBy (start_of j.blocks to_bank) (bank_size j.blocks) (image j.unit old) (lead len) n (changes j.unit now)) none filled));
        put = refl;
      }
