-- Three votes are made equal.
use Rattle.std.proofs.Common.{◌≡◌, ℕ, ◌+◌, ◌≤◌, ◌==◌, ◌-◌, if◌then◌else◌, List, [], ◌∷◌, ◌++◌, take, drop, Some, sym, ◌∙◌, ap, subst, arith}
use Rattle.newt_host.specs.Moments.{Moment, image, IsDurable, SameOutside, Leaves}
use Rattle.newt_host.proofs.Moments.{Leaves-append, Leaves-weaken, Leaves-start, Leaves-same}
use Rattle.newt_spec_image.specs.Records.{chosen_bank, bank_size, vote_of, AllVoteFor}
use Rattle.newt_journal.specs.Bank.{bank_number, other_bank, start_of}
use Rattle.newt_journal.specs.Repairs.{Settling, Repairs, Mends}
use Rattle.newt_journal.specs.Journal.{Holds, written, reading, IsHeld}
use Rattle.newt_journal.specs.declared.bank.Bank.{Bank}
use Rattle.newt_journal.specs.declared.journal.Journal.{Journal}
use Rattle.newt_journal.proofs.Steps.{bank-small, bank-low, holds-reading}
use Rattle.newt_journal.proofs.Opened.{byte_at}
use Rattle.newt_journal.proofs.Blocks.{drop-after}
use Rattle.newt_journal.proofs.Settle.{Order, order_of, other-differs, step_0, step_1, step_2, step_3, alike}

module _ (u : ℕ) (bank : Bank) (old m1 : Moment) (durable : IsDurable u old) (same : m1 ≡ old) (voted : chosen_bank (image u old) ≡ Some (bank_number bank)) where
  abbrev k : ℕ
  k = bank_number bank

  abbrev other : ℕ
  other = bank_number (other_bank bank)

  abbrev img : List ℕ
  img = image u m1

  voted_1 : chosen_bank img ≡ Some k
  voted_1 = ap (λ (m : Moment). chosen_bank (image u m)) same ∙ voted

  back : {new : Moment} → Leaves u (Repairs k img) m1 new → Leaves u (Repairs k (image u old)) old new
  back {new = new} leaves = subst (λ (m : Moment). Leaves u (Repairs k (image u m)) m new) same leaves

  pub any_0 : Leaves u (Repairs k (image u old)) old m1
  any_0 = Leaves-same (Leaves-start (λ left may. subst (λ (l : List ℕ). Repairs k (image u old) l) (sym (durable left may))
      (step_0 k other (bank-small bank) (bank-small (other_bank bank)) (other-differs bank) (image u old) voted))) same

  module _ (third near : ℕ) (byte : take 1 (drop 8192 (image u old)) ≡ third ∷ []) (near_is : near ≡ (if third == other then 2 else 1)) where
    pub order : Order (vote_of 2 img) other near (3 - near)
    order = subst (λ (v : ℕ). Order v other near (3 - near)) (sym (ap (λ (m : Moment). vote_of 2 (image u m)) same ∙ byte_at (image u old) 8192 third byte)) (order_of third other near near_is)

    module _ {m2 : Moment} (leaves_1 : Leaves u (Settling near k img) m1 m2) where
      near_1 : Leaves u (Repairs k img) m1 m2
      near_1 = Leaves-weaken (step_1 k other (bank-small bank) (bank-small (other_bank bank)) (other-differs bank) img voted_1 near (3 - near) order) leaves_1

      pub any_1 : Leaves u (Repairs k (image u old)) old m2
      any_1 = back near_1

      module _ (kept_1 : Settling near k img (image u m2)) (settled_1 : vote_of near (image u m2) ≡ k) {m3 : Moment} (leaves_2 : Leaves u (Settling (3 - near) k (image u m2)) m2 m3) where
        near_2 : Leaves u (Repairs k img) m1 m3
        near_2 = Leaves-append near_1
            (Leaves-weaken (step_2 k other (bank-small bank) (bank-small (other_bank bank)) (other-differs bank) img voted_1 near (3 - near) order (image u m2) kept_1 settled_1) leaves_2)

        pub any_2 : Leaves u (Repairs k (image u old)) old m3
        any_2 = back near_2

        module _ (kept_2 : Settling (3 - near) k (image u m2) (image u m3)) (settled_2 : vote_of (3 - near) (image u m3) ≡ k) where
          last : (left : List ℕ) → Settling 0 k (image u m3) left → Repairs k img left
          last = step_3 k other (bank-small bank) (bank-small (other_bank bank)) (other-differs bank) img voted_1 near (3 - near) order (image u m2) kept_1 settled_1 (image u m3) kept_2 settled_2

          pub any_3 : {m4 : Moment} → Leaves u (Settling 0 k (image u m3)) m3 m4 → Leaves u (Repairs k (image u old)) old m4
          any_3 leaves_3 = back (Leaves-append near_2 (Leaves-weaken last leaves_3))

          pub repaired : (m4 : Moment) → Settling 0 k (image u m3) (image u m4) → Repairs k (image u old) (image u m4)
          repaired m4 kept_3 = subst (λ (m : Moment). Repairs k (image u m) (image u m4)) same (last (image u m4) kept_3)

          pub alike_now : (m4 : Moment) → Settling 0 k (image u m3) (image u m4) → vote_of 0 (image u m4) ≡ k → AllVoteFor k (image u m4)
          alike_now m4 kept_3 settled_3 = alike k other (bank-small bank) (bank-small (other_bank bank)) (other-differs bank) img voted_1 near (3 - near) order (image u m2) kept_1 settled_1 (image u m3) kept_2 settled_2 (image u m4) kept_3 settled_3

-- a bank lies after the votes
pub bank-after : (blocks : ℕ) (bank : Bank) (bytes image left : List ℕ) → Holds blocks (bank_number bank) bytes image → chosen_bank left ≡ Some (bank_number bank) → SameOutside 0 12288 image left → Holds blocks (bank_number bank) bytes left
bank-after blocks bank bytes image left h bank_is same = record {
  size = same.size ∙ h.size;
  votes = bank_is;
  bank_is = ap (λ (l : List ℕ). take (bank_size blocks) l) (drop-after same (start_of blocks bank) (bank-low blocks bank)) ∙ h.bank_is;
}

module _ (j : Journal) (old : Moment) (held : IsHeld j old) where
  pub same_reading : (left : List ℕ) → Repairs (bank_number j.bank) (image j.unit old) left → reading left ≡ reading (image j.unit old)
  same_reading left r =
      holds-reading j.blocks j.bank j.enough j.not_too_many j.version j.known held.payloads held.after_records left (bank-after j.blocks j.bank (written j.version held.payloads ++ held.after_records) (image j.unit old) left held.bank r.bank_is r.same) held.ends
      ∙ sym (holds-reading j.blocks j.bank j.enough j.not_too_many j.version j.known held.payloads held.after_records (image j.unit old) held.bank held.ends)

  pub mended : (left : List ℕ) → Repairs (bank_number j.bank) (image j.unit old) left
      → Mends (bank_number j.bank) (image j.unit old) left
  mended left r = record { repairs = r; same_reading = same_reading left r }

  pub still_held : (now : Moment) → Repairs (bank_number j.bank) (image j.unit old) (image j.unit now) → IsDurable j.unit now → IsHeld j now
  still_held now r durable = record {
    payloads = held.payloads;
    after_records = held.after_records;
    bank = bank-after j.blocks j.bank (written j.version held.payloads ++ held.after_records) (image j.unit old) (image j.unit now) held.bank r.bank_is r.same;
    end = held.end;
    ends = held.ends;
    blank = held.blank;
    not_closed = held.not_closed;
    durable = durable;
  }
