-- Three blocks are made to vote for one bank, one after the other.
use Rattle.std.proofs.Common.{◌≡◌, ◌⊎◌, inl, inr, ℕ, ◌+◌, ◌-◌, ◌≤◌, List, ◌∷◌, ◌++◌, length, get_or, take, drop, Option, Some, sym, ◌∙◌, ap, subst, arith, append_assoc, length-take}
use Rattle.std.proofs.lemmas.List.{get_or-drop, get_or_at}
use Rattle.newt_host.specs.Moments.{SameOutside, overwritten}
use Rattle.newt_host.specs.Outside.{blank}
use Rattle.newt_host.proofs.Outside.{length-blank}
use Rattle.newt_host.proofs.Ranges.{get_or-same, same-trans, same-widen, same-overwritten}
use Rattle.newt_spec_image.specs.Records.{chosen, chosen_bank, AllVoteFor}
use Rattle.newt_journal.specs.Turns.{Turns}
use Rattle.newt_journal.proofs.Votes.{first_torn, middle_torn, last_torn}
use Rattle.newt_journal.proofs.Blocks.{block-same}

pub get_or-after : {at n : ℕ} {a b : List ℕ} → SameOutside at n a b → (i : ℕ) → at + n ≤ i → get_or b i 0 ≡ get_or a i 0
get_or-after {at = at} {n = n} {a = a} {b = b} s i past =
    let k = i - (at + n) in
    let there : (at + n) + k ≡ i = omega (arith, past) in
    ap (λ (j : ℕ). get_or b j 0) (sym there) ∙ sym (get_or-drop (at + n) b k 0) ∙ ap (λ (l : List ℕ). get_or l k 0) s.after ∙ get_or-drop (at + n) a k 0 ∙ ap (λ (j : ℕ). get_or a j 0) there

pub vote_now : (a : List ℕ) (at x : ℕ) (more : List ℕ) → at ≤ length a → get_or (overwritten a at (x ∷ more)) at 0 ≡ x
vote_now a at x more fits = ap (λ (l : List ℕ). get_or l at 0) (append_assoc (take at a) (x ∷ more) (drop (at + length (x ∷ more)) a)) ∙ get_or_at (take at a) x (more ++ drop (at + length (x ∷ more)) a) 0 at (omega (arith, length-take at a, fits))

pub four_k : (x : ℕ) → length (x ∷ blank 4095) ≡ 4096
four_k x = omega (arith, length-blank 4095)

pub alike-chosen : (k : ℕ) (image : List ℕ) → k ≤ 1 → AllVoteFor k image → chosen_bank image ≡ Some k
alike-chosen k image small alike = (λ i. chosen (alike.first i) (alike.second i) (alike.third i)) ∙ last_torn k k small

-- the images after one, two and three of them, from any votes
module _ (k : ℕ) (image : List ℕ) (long : 12288 ≤ length image) where
  voted : (at : ℕ) (a b : List ℕ) → at + 4096 ≤ length a → b ≡ overwritten a at (k ∷ blank 4095) → SameOutside at 4096 a b
  voted at a b fits is = subst (λ (l : List ℕ). SameOutside at 4096 a l) (sym is)
      (subst (λ (n : ℕ). SameOutside at n a (overwritten a at (k ∷ blank 4095))) (four_k k) (same-overwritten a at (k ∷ blank 4095) (omega (arith, four_k k, fits))))

  pub cast_1 : (left : List ℕ) → SameOutside 0 4096 image left → SameOutside 0 12288 image left
  cast_1 left s = same-widen 0 4096 0 12288 s (omega arith) (omega arith)

  module _ (image_1 : List ℕ) (is_1 : image_1 ≡ overwritten image 0 (k ∷ blank 4095)) where
    s_1 : SameOutside 0 4096 image image_1
    s_1 = voted 0 image image_1 (omega (arith, long)) is_1

    first_1 : get_or image_1 0 0 ≡ k
    first_1 = ap (λ (l : List ℕ). get_or l 0 0) is_1 ∙ vote_now image 0 k (blank 4095) (omega arith)

    pub cast_2 : (left : List ℕ) → SameOutside 4096 4096 image_1 left → SameOutside 0 12288 image left
    cast_2 left s = same-trans (cast_1 image_1 s_1) (same-widen 4096 4096 0 12288 s (omega arith) (omega arith))

    module _ (image_2 : List ℕ) (is_2 : image_2 ≡ overwritten image_1 4096 (k ∷ blank 4095)) where
      s_2 : SameOutside 4096 4096 image_1 image_2
      s_2 = voted 4096 image_1 image_2 (omega (arith, long, s_1.size)) is_2

      first_2 : get_or image_2 0 0 ≡ k
      first_2 = get_or-same s_2 0 (omega arith) ∙ first_1

      second_2 : get_or image_2 4096 0 ≡ k
      second_2 = ap (λ (l : List ℕ). get_or l 4096 0) is_2 ∙ vote_now image_1 4096 k (blank 4095) (omega (arith, long, s_1.size))

      pub cast_3 : (left : List ℕ) → SameOutside 8192 4096 image_2 left → SameOutside 0 12288 image left
      cast_3 left s = same-trans (cast_2 image_2 s_2) (same-widen 8192 4096 0 12288 s (omega arith) (omega arith))

      module _ (image_3 : List ℕ) (is_3 : image_3 ≡ overwritten image_2 8192 (k ∷ blank 4095)) where
        s_3 : SameOutside 8192 4096 image_2 image_3
        s_3 = voted 8192 image_2 image_3 (omega (arith, long, s_1.size, s_2.size)) is_3

        pub cast_alike : AllVoteFor k image_3
        cast_alike = record {
          first = get_or-same s_3 0 (omega arith) ∙ first_2;
          second = get_or-same s_3 4096 (omega arith) ∙ second_2;
          third = ap (λ (l : List ℕ). get_or l 8192 0) is_3 ∙ vote_now image_2 8192 k (blank 4095) (omega (arith, long, s_1.size, s_2.size));
        }

        pub cast_kept : SameOutside 0 12288 image image_3
        cast_kept = cast_3 image_3 s_3

-- where all of them voted alike before, one of two banks is chosen at each moment
module _ (from to : ℕ) (from_small : from ≤ 1) (to_small : to ≤ 1) (image : List ℕ) (long : 12288 ≤ length image) (alike : AllVoteFor from image) where
  pub turn_1 : (left : List ℕ) → SameOutside 0 4096 image left → Turns from to image left
  turn_1 left s = record {
    bank = inl ((λ i. chosen (get_or left 0 0) ((get_or-after s 4096 (omega arith) ∙ alike.second) i) ((get_or-after s 8192 (omega arith) ∙ alike.third) i)) ∙ first_torn (get_or left 0 0) from from_small);
    in_turn = record {
      second_waits = inl (block-same 1 0 (omega arith) s);
      third_waits = inl (block-same 2 0 (omega arith) s);
    };
    same = cast_1 to image long left s;
  }

  module _ (image_1 : List ℕ) (is_1 : image_1 ≡ overwritten image 0 (to ∷ blank 4095)) where
    third_1 : get_or image_1 8192 0 ≡ from
    third_1 = get_or-after (s_1 to image long image_1 is_1) 8192 (omega arith) ∙ alike.third

    pub turn_2 : (left : List ℕ) → SameOutside 4096 4096 image_1 left → Turns from to image left
    turn_2 left s =
        let chosen_is : chosen_bank left ≡ chosen to (get_or left 4096 0) from = λ i. chosen ((get_or-same s 0 (omega arith) ∙ first_1 to image long image_1 is_1) i) (get_or left 4096 0) ((get_or-after s 8192 (omega arith) ∙ third_1) i) in
        record {
          bank = subst (λ (o : Option ℕ). (o ≡ Some from) ⊎ (o ≡ Some to)) (sym chosen_is) (middle_torn to (get_or left 4096 0) from to_small from_small);
          in_turn = record {
            second_waits = inr (get_or-same s 0 (omega arith) ∙ first_1 to image long image_1 is_1);
            third_waits = inl (block-same 2 1 (omega arith) s ∙ block-same 2 0 (omega arith) (s_1 to image long image_1 is_1));
          };
          same = cast_2 to image long image_1 is_1 left s;
        }

    module _ (image_2 : List ℕ) (is_2 : image_2 ≡ overwritten image_1 4096 (to ∷ blank 4095)) where
      pub turn_3 : (left : List ℕ) → SameOutside 8192 4096 image_2 left → Turns from to image left
      turn_3 left s = let first_3 : get_or left 0 0 ≡ to = get_or-same s 0 (omega arith) ∙ first_2 to image long image_1 is_1 image_2 is_2 in record {
        bank = inr ((λ i. chosen ((get_or-same s 0 (omega arith) ∙ first_2 to image long image_1 is_1 image_2 is_2) i) ((get_or-same s 4096 (omega arith) ∙ second_2 to image long image_1 is_1 image_2 is_2) i) (get_or left 8192 0)) ∙ last_torn to (get_or left 8192 0) to_small);
        in_turn = record {
          second_waits = inr first_3;
          third_waits = inr (first_3, get_or-same s 4096 (omega arith) ∙ second_2 to image long image_1 is_1 image_2 is_2);
        };
        same = cast_3 to image long image_1 is_1 image_2 is_2 left s;
      }
