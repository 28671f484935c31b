-- A vote is made equal, unless it is.
use Rattle.std.proofs.Common.{◌≡◌, ◌≢◌, inl, inr, ℕ, ◌+◌, ◌*◌, ◌≤◌, ◌==◌, ◌-◌, if◌then◌else◌, List, [], ◌∷◌, length, get_or, take, drop, Some, refl, sym, ◌∙◌, ap, subst, arith}
use Rattle.std.proofs.lemmas.Bool.{cases_eq, cases_lt}
use Rattle.std.proofs.lemmas.Bool.Decides.{nat_tests}
use Rattle.newt_host.specs.Moments.{Moment, image, IsDurable, SameOutside, overwritten, Leaves}
use Rattle.newt_host.specs.Outside.{blank}
use Rattle.newt_host.proofs.Moments.{Leaves-start, Leaves-same, Leaves-append, Leaves-weaken}
use Rattle.newt_host.proofs.Ranges.{get_or-same, same-refl, same-trans, same-widen, same-overwritten}
use Rattle.newt_spec_image.specs.Records.{chosen, chosen_bank, vote_of, AllVoteFor}
use Rattle.newt_journal.specs.Bank.{bank_number, other_bank}
use Rattle.newt_journal.specs.Repairs.{Settling, Repairs, mended_first}
use Rattle.newt_journal.specs.Turns.{IsSameBlock, InTurn}
use Rattle.newt_journal.specs.declared.bank.Bank.{Bank}
use Rattle.newt_journal.specs.declared.bank.Bank.TheVariants.{First, Second}
use Rattle.newt_journal.proofs.Votes.{first_torn}
use Rattle.newt_journal.proofs.Deciding.{first_if_second, first_if_third, not_both, third_torn, second_torn}
use Rattle.newt_journal.proofs.Casting.{get_or-after, four_k}
use Rattle.newt_journal.proofs.Opened.{byte_at}
use Rattle.newt_journal.proofs.Blocks.{block-same}

module _ (u block k : ℕ) (old m1 : Moment) (durable : IsDurable u old) (same : m1 ≡ old) where
  pub unchanged : Leaves u (Settling block k (image u old)) old m1
  unchanged = Leaves-same (Leaves-start (λ left may. inl (durable left may))) same

  module _ (vote named : ℕ) (is_named : named ≡ k) (byte : take 1 (drop (block * 4096) (image u old)) ≡ vote ∷ []) (differ : vote ≢ named) where
    votes_other : vote_of block (image u old) ≢ k
    votes_other is = differ (sym (byte_at (image u old) (block * 4096) vote byte) ∙ is ∙ sym is_named)

    pub rewritten : {m2 : Moment} → Leaves u (λ left. SameOutside (block * 4096) 4096 (image u m1) left) m1 m2 → Leaves u (Settling block k (image u old)) old m2
    rewritten leaves = Leaves-append unchanged
        (Leaves-weaken (λ left torn. inr (votes_other, subst (λ (m : Moment). SameOutside (block * 4096) 4096 (image u m) left) same torn)) leaves)

    pub settled_now : (left : List ℕ) → left ≡ overwritten (image u m1) (block * 4096) (k ∷ blank 4095) → block * 4096 + 4096 ≤ length (image u old) → Settling block k (image u old) left
    settled_now left is fits = inr (
      votes_other,
      subst (λ (l : List ℕ). SameOutside (block * 4096) 4096 (image u old) l) (ap (λ (m : Moment). overwritten (image u m) (block * 4096) (k ∷ blank 4095)) (sym same) ∙ sym is)
          (subst (λ (n : ℕ). SameOutside (block * 4096) n (image u old) (overwritten (image u old) (block * 4096) (k ∷ blank 4095))) (four_k k)
          (same-overwritten (image u old) (block * 4096) (k ∷ blank 4095) (omega (arith, four_k k, fits)))),
    )

-- the order of the second and the third block
pub data Order (third other : ℕ) : ℕ → ℕ → Type 0 where
  third_first : third ≡ other → Order third other 2 1
  second_first : third ≢ other → Order third other 1 2

pub order_of : (third other near : ℕ) → near ≡ (if third == other then 2 else 1) → Order third other near (3 - near)
order_of third other near is = elim (cases_eq third other) [
  | inl same ↦ let two : near ≡ 2 = grind (arith, nat_tests, is, same) in subst (λ (n : ℕ). Order third other n (3 - n)) (sym two) (third_first same)
  | inr differ ↦ let one : near ≡ 1 = grind (arith, nat_tests, is, differ) in subst (λ (n : ℕ). Order third other n (3 - n)) (sym one) (second_first differ)
]

-- it has each of the three blocks once
pub record Blocks (near far : ℕ) : Type 0 where
  pub apart : far ≢ near
  pub near_first : near ≢ 0
  pub far_first : far ≢ 0
  pub near_low : near ≤ 2
  pub far_low : far ≤ 2

pub blocks : {third other near far : ℕ} → Order third other near far → Blocks near far
blocks (third_first is) = record { apart = omega arith; near_first = omega arith; far_first = omega arith; near_low = omega arith; far_low = omega arith }
blocks (second_first is) = record { apart = omega arith; near_first = omega arith; far_first = omega arith; near_low = omega arith; far_low = omega arith }

pub other-differs : (bank : Bank) → bank_number (other_bank bank) ≢ bank_number bank
other-differs First is = absurd (omega (arith, is))
other-differs Second is = absurd (omega (arith, is))

-- the votes of the other blocks
pub other_vote : (b block k : ℕ) (img left : List ℕ) → b ≢ block → Settling block k img left → vote_of b left ≡ vote_of b img
other_vote b block k img left differ (inl same) = ap (λ (l : List ℕ). vote_of b l) same
other_vote b block k img left differ (inr torn) = elim (cases_lt b block) [
  | inl before ↦ get_or-same torn.1 (b * 4096) (omega (arith, before))
  | inr after ↦ get_or-after torn.1 (b * 4096) (omega (arith, after, differ))
]

-- and all of each
other_block : (b block k : ℕ) (img left : List ℕ) → b ≢ block → Settling block k img left → IsSameBlock b img left
other_block b block k img left differ (inl same) = ap (λ (l : List ℕ). take 4096 (drop (b * 4096) l)) same
other_block b block k img left differ (inr torn) = block-same b block differ torn.1

-- one that votes right is left alone
right_block : (b block k : ℕ) (img left : List ℕ) → Settling block k img left → vote_of b img ≡ k
    → IsSameBlock b img left × (vote_of b left ≡ k)
right_block b block k img left (inl same) is =
    (ap (λ (l : List ℕ). take 4096 (drop (b * 4096) l)) same, ap (λ (l : List ℕ). vote_of b l) same ∙ is)
right_block b block k img left (inr torn) is = elim (cases_eq b block) [
  | inl here ↦ absurd (torn.0 (ap (λ (n : ℕ). vote_of n img) (sym here) ∙ is))
  | inr apart ↦ (block-same b block apart torn.1, other_vote b block k img left apart (inr torn) ∙ is)
]

pub settling_same : (block k : ℕ) (img left : List ℕ) → block ≤ 2 → Settling block k img left → SameOutside 0 12288 img left
settling_same block k img left low (inl same) = subst (λ (l : List ℕ). SameOutside 0 12288 img l) (sym same) (same-refl 0 12288 img)
settling_same block k img left low (inr torn) = same-widen (block * 4096) 4096 0 12288 torn.1 (omega arith) (omega (arith, low))

module _ (k other : ℕ) (small : k ≤ 1) (other_small : other ≤ 1) (differ : other ≢ k) where
  k-not-other : k ≢ other
  k-not-other is = differ (sym is)

  -- one block at a time, while what decides stays
  choice_2 : (img left : List ℕ) → chosen_bank img ≡ Some k → vote_of 1 img ≢ other → Settling 2 k img left → chosen_bank left ≡ Some k
  choice_2 img left voted second (inl same) = ap chosen_bank same ∙ voted
  choice_2 img left voted second (inr torn) =
      let first : vote_of 0 img ≡ k = first_if_third (vote_of 0 img) (vote_of 1 img) (vote_of 2 img) k voted torn.0 in
      (λ i. chosen ((other_vote 0 2 k img left (omega arith) (inr torn) ∙ first) i) (other_vote 1 2 k img left (omega arith) (inr torn) i) (get_or left 8192 0))
      ∙ third_torn k (vote_of 1 img) (get_or left 8192 0) other small other_small differ second

  choice_1 : (img left : List ℕ) → chosen_bank img ≡ Some k → vote_of 2 img ≢ other → Settling 1 k img left → chosen_bank left ≡ Some k
  choice_1 img left voted third (inl same) = ap chosen_bank same ∙ voted
  choice_1 img left voted third (inr torn) =
      let first : vote_of 0 img ≡ k = first_if_second (vote_of 0 img) (vote_of 1 img) (vote_of 2 img) k voted torn.0 in
      (λ i. chosen ((other_vote 0 1 k img left (omega arith) (inr torn) ∙ first) i) (get_or left 4096 0) (other_vote 2 1 k img left (omega arith) (inr torn) i))
      ∙ second_torn k (get_or left 4096 0) (vote_of 2 img) other small other_small differ third

  choice_0 : (img left : List ℕ) → vote_of 1 img ≡ k → vote_of 2 img ≡ k → Settling 0 k img left → chosen_bank left ≡ Some k
  choice_0 img left second third s =
      (λ i. chosen (get_or left 0 0) ((other_vote 1 0 k img left (omega arith) s ∙ second) i) ((other_vote 2 0 k img left (omega arith) s ∙ third) i)) ∙ first_torn (get_or left 0 0) k small

  other_is : other ≡ 1 - k
  other_is = omega (arith, small, other_small, differ)

  module _ (img : List ℕ) (voted : chosen_bank img ≡ Some k) where
    -- the same bank is chosen while the first of the two is rewritten, and while the other one is
    near_stays : (near far : ℕ) → Order (vote_of 2 img) other near far → (left : List ℕ) → Settling near k img left → chosen_bank left ≡ Some k
    near_stays near far (third_first is) left s =
        choice_2 img left voted (not_both (vote_of 0 img) (vote_of 1 img) (vote_of 2 img) k other voted other_small differ is) s
    near_stays near far (second_first is) left s = choice_1 img left voted is s

    far_stays : (near far : ℕ) → Order (vote_of 2 img) other near far → (img_1 : List ℕ) → chosen_bank img_1 ≡ Some k → vote_of near img_1 ≡ k
        → (left : List ℕ) → Settling far k img_1 left → chosen_bank left ≡ Some k
    far_stays near far (third_first is) img_1 voted_1 settled left s = choice_1 img_1 left voted_1 (λ third. k-not-other (sym settled ∙ third)) s
    far_stays near far (second_first is) img_1 voted_1 settled left s = choice_2 img_1 left voted_1 (λ second. k-not-other (sym settled ∙ second)) s

    -- the order is that of the definition
    in_order : (near far : ℕ) → Order (vote_of 2 img) other near far → (left : List ℕ)
        → InTurn k near far 0 img left
        → InTurn k (mended_first k img) (3 - mended_first k img) 0 img left
    in_order near far (third_first is) left turn =
        let two : 2 ≡ mended_first k img = grind (arith, nat_tests, is, other_is) in
        subst (λ (n : ℕ). InTurn k n (3 - n) 0 img left) two turn
    in_order near far (second_first is) left turn =
        let one : 1 ≡ mended_first k img = grind (arith, nat_tests, is, other_is) in
        subst (λ (n : ℕ). InTurn k n (3 - n) 0 img left) one turn

    pub step_0 : Repairs k img img
    step_0 = record {
      bank_is = voted;
      right = λ block is. refl;
      in_turn = record { second_waits = inl refl; third_waits = inl refl };
      same = same-refl 0 12288 img;
    }

    turn_1 : (near far : ℕ) → Blocks near far → (left : List ℕ) → Settling near k img left → InTurn k near far 0 img left
    turn_1 near far b left s = record {
      second_waits = inl (other_block far near k img left b.apart s);
      third_waits = inl (other_block 0 near k img left (λ is. b.near_first (sym is)) s);
    }

    turn_2 : (near far : ℕ) → Blocks near far → (img_1 : List ℕ) → Settling near k img img_1 → vote_of near img_1 ≡ k
        → (left : List ℕ) → Settling far k img_1 left → InTurn k near far 0 img left
    turn_2 near far b img_1 s_1 settled left s = record {
      second_waits = inr (other_vote near far k img_1 left (λ is. b.apart (sym is)) s ∙ settled);
      third_waits = inl (other_block 0 far k img_1 left (λ is. b.far_first (sym is)) s ∙ other_block 0 near k img img_1 (λ is. b.near_first (sym is)) s_1);
    }

    pub step_1 : (near far : ℕ) → Order (vote_of 2 img) other near far → (left : List ℕ) → Settling near k img left → Repairs k img left
    step_1 near far order left s = record {
      bank_is = near_stays near far order left s;
      right = λ block is. (right_block block near k img left s is).0;
      in_turn = in_order near far order left (turn_1 near far (blocks order) left s);
      same = settling_same near k img left (blocks order).near_low s;
    }

    pub step_2 : (near far : ℕ) → Order (vote_of 2 img) other near far → (img_1 : List ℕ) → Settling near k img img_1 → vote_of near img_1 ≡ k
        → (left : List ℕ) → Settling far k img_1 left → Repairs k img left
    step_2 near far order img_1 s_1 settled left s =
        let r_1 = step_1 near far order img_1 s_1 in
        record {
          bank_is = far_stays near far order img_1 r_1.bank_is settled left s;
          right = λ block is. let before = right_block block near k img img_1 s_1 is in (right_block block far k img_1 left s before.1).0 ∙ before.0;
          in_turn = in_order near far order left (turn_2 near far (blocks order) img_1 s_1 settled left s);
          same = same-trans r_1.same (settling_same far k img_1 left (blocks order).far_low s);
        }

    -- then the second and the third vote are equal
    both : (near far : ℕ) → Order (vote_of 2 img) other near far → (img_1 : List ℕ) → vote_of near img_1 ≡ k → (img_2 : List ℕ) → Settling far k img_1 img_2 → vote_of far img_2 ≡ k
        → (vote_of 1 img_2 ≡ k) × (vote_of 2 img_2 ≡ k)
    both near far (third_first is) img_1 settled_1 img_2 s_2 settled_2 = (settled_2, other_vote 2 1 k img_1 img_2 (omega arith) s_2 ∙ settled_1)
    both near far (second_first is) img_1 settled_1 img_2 s_2 settled_2 = (other_vote 1 2 k img_1 img_2 (omega arith) s_2 ∙ settled_1, settled_2)

    module _ (near far : ℕ) (order : Order (vote_of 2 img) other near far) (img_1 : List ℕ) (s_1 : Settling near k img img_1) (settled_1 : vote_of near img_1 ≡ k)
        (img_2 : List ℕ) (s_2 : Settling far k img_1 img_2) (settled_2 : vote_of far img_2 ≡ k) where
      votes : (vote_of 1 img_2 ≡ k) × (vote_of 2 img_2 ≡ k)
      votes = both near far order img_1 settled_1 img_2 s_2 settled_2

      b : Blocks near far
      b = blocks order

      near_vote : (left : List ℕ) → Settling 0 k img_2 left → vote_of near left ≡ k
      near_vote left s = other_vote near 0 k img_2 left b.near_first s
          ∙ other_vote near far k img_1 img_2 (λ is. b.apart (sym is)) s_2 ∙ settled_1

      pub step_3 : (left : List ℕ) → Settling 0 k img_2 left → Repairs k img left
      step_3 left s = record {
        bank_is = choice_0 img_2 left votes.0 votes.1 s;
        right = λ block is.
            let first = right_block block near k img img_1 s_1 is in
            let second = right_block block far k img_1 img_2 s_2 first.1 in
            (right_block block 0 k img_2 left s second.1).0 ∙ second.0 ∙ first.0;
        in_turn = in_order near far order left (record {
          second_waits = inr (near_vote left s);
          third_waits = inr (near_vote left s, other_vote far 0 k img_2 left b.far_first s ∙ settled_2);
        });
        same = same-trans (step_2 near far order img_1 s_1 settled_1 img_2 s_2).same (settling_same 0 k img_2 left (omega arith) s);
      }

      pub alike : (img_3 : List ℕ) → Settling 0 k img_2 img_3 → vote_of 0 img_3 ≡ k → AllVoteFor k img_3
      alike img_3 s_3 settled_3 = record {
        first = settled_3;
        second = other_vote 1 0 k img_2 img_3 (omega arith) s_3 ∙ votes.0;
        third = other_vote 2 0 k img_2 img_3 (omega arith) s_3 ∙ votes.1;
      }
