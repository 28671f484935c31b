-- A bank is erased, and its one record begun.
use Rattle.std.proofs.Common.{◌≡◌, ℕ, ◌+◌, ◌-◌, ◌*◌, ◌≤◌, List, [], ◌∷◌, ◌++◌, length, Result, Ok, refl, ◌∙◌, ap, subst, arith, length-append}
use Rattle.newt_host.specs.Moments.{Moment, image, changes, SameOutside, Leaves}
use Rattle.newt_host.specs.Outside.{IsBlank, Writes, Syncs}
use Rattle.newt_host.proofs.Moments.{Leaves-weaken}
use Rattle.newt_spec_image.specs.Records.{bank_size, bank_blocks, header, length_bytes}
use Rattle.newt_journal.specs.Bank.{bank_number, start_of}
use Rattle.newt_journal.specs.Fresh.{lead, FilledBy}
use Rattle.newt_journal.specs.declared.bank.Bank.{Bank}
use Rattle.newt_journal.proofs.Records.{length-length_bytes}
use Rattle.newt_journal.proofs.Steps.{bank-fits}
use Rattle.newt_journal.proofs.Filling.{Filled, erased, sync_leaves, sync_filled, room_blank, write_leaves, write_filled}

pub length-header : length (header 2) ≡ 16
unfolding header
length-header = refl

pub length-lead : (len : ℕ) → length (lead len) ≡ 21
unfolding lead
length-lead len = omega (arith, length-append (header 2 ++ 0 ∷ []) (length_bytes len), length-append (header 2) (0 ∷ []), length-header, length-length_bytes len)

module _ (u blocks len : ℕ) (bank : Bank) (enough : 13 ≤ blocks) (fits : 21 + len ≤ bank_size blocks) (old : Moment) (long : length (image u old) ≡ blocks * 4096)
    (at first count : ℕ) (at_is : at ≡ start_of blocks bank) (first_is : first ≡ 3 + bank_number bank * bank_blocks blocks) (count_is : count ≡ bank_blocks blocks) where
  abbrev start : ℕ
  start = start_of blocks bank

  abbrev size : ℕ
  size = bank_size blocks

  abbrev base : List ℕ
  base = image u old

  inside : start + size ≤ length base
  inside = omega (arith, long, bank-fits blocks bank enough)

  start_is : first * 4096 ≡ start
  start_is = ap (λ (n : ℕ). n * 4096) first_is

  size_is : count * 4096 ≡ size
  size_is = ap (λ (n : ℕ). n * 4096) count_is

  outer : (left : List ℕ) → SameOutside (first * 4096) (count * 4096) base left → SameOutside start size base left
  outer left s = subst (λ (n : ℕ). SameOutside start n base left) size_is (subst (λ (n : ℕ). SameOutside n (count * 4096) base left) start_is s)

  module _ {m1 : Moment} (raw : Leaves u (λ left. SameOutside (first * 4096) (count * 4096) base left) old m1) where
    pub leaves_1 : Leaves u (λ left. SameOutside start size base left) old m1
    leaves_1 = Leaves-weaken outer raw

    module _ (kept : SameOutside (first * 4096) (count * 4096) base (image u m1)) (erased_1 : IsBlank (first * 4096) (count * 4096) (image u m1)) where
      filled_1 : Filled u start size base inside [] size m1
      filled_1 = erased u start size base inside leaves_1 (outer (image u m1) kept)
          (subst (λ (n : ℕ). IsBlank start n (image u m1)) size_is (subst (λ (n : ℕ). IsBlank n (count * 4096) (image u m1)) start_is erased_1))

      module _ {T2 E2 : Type 0} {r2 : Result T2 E2} {m2 : Moment} (synced : Syncs u r2 m1 m2) where
        pub leaves_2 : Leaves u (λ left. SameOutside start size base left) old m2
        leaves_2 = sync_leaves u start size base inside leaves_1 filled_1 synced

      module _ {T2 E2 : Type 0} {x2 : T2} {m2 : Moment} (synced : Syncs {E = E2} u (Ok x2) m1 m2) (gated : List ℕ) (gated_is : gated ≡ header 2 ++ 0 ∷ []) where
        filled_2 : Filled u start size base inside [] size m2
        filled_2 = sync_filled u start size base inside filled_1 synced

        long_gated : length gated ≡ 17
        long_gated = omega (arith, ap length gated_is, length-append (header 2) (0 ∷ []), length-header)

        room_2 : length gated ≤ size
        room_2 = omega (arith, long_gated, fits)

        there_2 : at ≡ start + length {A = ℕ} []
        there_2 = omega (arith, at_is)

        pub blank_2 : IsBlank at (length gated) (image u m2)
        blank_2 = room_blank u start size base inside [] size m2 filled_2 gated room_2 at there_2

        module _ {T3 E3 : Type 0} {r3 : Result T3 E3} {m3 : Moment} (wrote : Writes u at gated r3 m2 m3) where
          pub leaves_3 : Leaves u (λ left. SameOutside start size base left) old m3
          leaves_3 = write_leaves u start size base inside [] size m2 filled_2 gated room_2 at there_2 wrote (leaves_2 synced)

        module _ {T3 E3 : Type 0} {x3 : T3} {m3 : Moment} (wrote : Writes {E = E3} u at gated (Ok x3) m2 m3) (sized : List ℕ) (sized_is : sized ≡ length_bytes len) where
          filled_3 : Filled u start size base inside gated (size - length gated) m3
          filled_3 = write_filled u start size base inside [] size m2 filled_2 gated room_2 at there_2 wrote

          four : length sized ≡ 4
          four = ap length sized_is ∙ length-length_bytes len

          room_3 : length sized ≤ size - length gated
          room_3 = omega (arith, four, long_gated, fits)

          there_3 : at + 17 ≡ start + length gated
          there_3 = omega (arith, at_is, long_gated)

          pub blank_3 : IsBlank (at + 17) (length sized) (image u m3)
          blank_3 = room_blank u start size base inside gated (size - length gated) m3 filled_3 sized room_3 (at + 17) there_3

          pub leaves_4 : {T E : Type 0} {result : Result T E} {m4 : Moment} → Writes u (at + 17) sized result m3 m4 → Leaves u (λ left. SameOutside start size base left) old m4
          leaves_4 last = write_leaves u start size base inside gated (size - length gated) m3 filled_3 sized room_3 (at + 17) there_3 last (leaves_3 wrote)

          pub filled_4 : {T E : Type 0} {x : T} {m4 : Moment} → Writes {E = E} u (at + 17) sized (Ok x) m3 m4 → FilledBy start size base (lead len) (size - 21) (changes u m4)
          unfolding lead
          filled_4 {m4 = m4} last =
              let left_over : size - length gated - length sized ≡ size - 21 = omega (arith, long_gated, four) in
              let front_is : gated ++ sized ≡ (header 2 ++ 0 ∷ []) ++ length_bytes len = λ i. gated_is i ++ sized_is i in
              subst (λ (n : ℕ). FilledBy start size base ((header 2 ++ 0 ∷ []) ++ length_bytes len) n (changes u m4)) left_over
              (subst (λ (l : List ℕ). FilledBy start size base l (size - length gated - length sized) (changes u m4)) front_is
              (write_filled u start size base inside gated (size - length gated) m3 filled_3 sized room_3 (at + 17) there_3 last))
