-- Images, worked by hand: the banks of a unit, votes, headers, records, pages and the parts of
-- objects.
use Rattle.std.proofs.Common.{arith, ◌≡◌, refl, sym, ◌∙◌, ap, ℕ, true, false, List, [], ◌∷◌, ◌++◌, length, take, replicate, get_or, codes, Some, None}
use Rattle.std.specs.FinMap as map
use Rattle.newt_spec_image.specs.Records.{AllVoteFor, IsErased, IsOpen, bank_blocks, bank_size, bank_start, chosen, chosen_bank, has_banks, header, length_at, payloads_after, records, tail, version, versioned, vote_of}
use Rattle.newt_spec_image.specs.Pages.{Pages, cap, change_in, object_id, object_length, page_data}
use Rattle.newt_spec_image.specs.Objects.{IsPart, IsTableOf, Table, joined, pages_for, written_page, written_parts}

-- ---- the banks of a unit

-- Three of 14 blocks vote, and each bank has the half of the other 11, rounded down. So one block
-- has no use, and with 15 it has.
even_unit : bank_blocks 14 ≡ 5
even_unit = refl

even_unit_size : bank_size 14 ≡ 20480
even_unit_size = refl

even_unit_second : bank_start 14 1 ≡ 32768
even_unit_second = refl

odd_unit : bank_blocks 15 ≡ 6
odd_unit = refl

odd_unit_second : bank_start 15 1 ≡ 36864
odd_unit_second = refl

greatest_even_unit : bank_blocks 4098 ≡ 2047
greatest_even_unit = refl

even_cap : cap 14 ≡ 38
even_cap = refl

odd_cap : cap 15 ≡ 46
odd_cap = refl

-- the unit of 64 blocks
middle_cap : cap 64 ≡ 234
middle_cap = refl

-- 13 and 4,099 blocks are the least and the most; one byte less than 13 blocks is 12 of them.
least_unit : (image : List ℕ) → length image ≡ 53248 → has_banks image ≡ true
least_unit image e = rw e refl

below_the_least_unit : (image : List ℕ) → length image ≡ 53247 → has_banks image ≡ false
below_the_least_unit image e = rw e refl

twelve_blocks : (image : List ℕ) → length image ≡ 49152 → has_banks image ≡ false
twelve_blocks image e = rw e refl

greatest_unit : (image : List ℕ) → length image ≡ 16789504 → has_banks image ≡ true
greatest_unit image e = rw e refl

above_the_greatest_unit : (image : List ℕ) → length image ≡ 16793600 → has_banks image ≡ false
above_the_greatest_unit image e = rw e refl

-- ---- votes

-- the first bytes of three blocks
abbrev votes : (a b c : ℕ) → List ℕ
votes a b c = a ∷ (replicate 4095 7 ++ b ∷ (replicate 4095 7 ++ c ∷ []))

first_vote : vote_of 0 (votes 1 0 255) ≡ 1
first_vote = refl

second_vote : vote_of 1 (votes 1 0 255) ≡ 0
second_vote = refl

third_vote : vote_of 2 (votes 1 0 255) ≡ 255
third_vote = refl

two_others_choose : chosen_bank (votes 0 1 1) ≡ Some 1
two_others_choose = refl

first_chooses : chosen_bank (votes 0 1 255) ≡ Some 0
first_chooses = refl

first_chooses_the_second : chosen_bank (votes 1 255 0) ≡ Some 1
first_chooses_the_second = refl

two_without_the_first : chosen_bank (votes 255 1 1) ≡ Some 1
two_without_the_first = refl

none_chooses : chosen_bank (votes 255 1 0) ≡ None
none_chooses = refl

-- A byte above 1 is no vote, also where two are alike.
two_is_no_vote : chosen 2 1 0 ≡ None
two_is_no_vote = refl

alike_without_a_vote : chosen 2 2 1 ≡ None
alike_without_a_vote = refl

no_votes : chosen 255 255 255 ≡ None
no_votes = refl

all_vote : AllVoteFor 1 (votes 1 1 1)
all_vote = record { first = refl; second = refl; third = refl }

not_the_first : AllVoteFor 1 (votes 0 1 1) → ⊥
not_the_first v = omega (arith, v.first)

not_the_second : AllVoteFor 1 (votes 1 0 1) → ⊥
not_the_second v = omega (arith, v.second)

not_the_third : AllVoteFor 1 (votes 1 1 0) → ⊥
not_the_third v = omega (arith, v.third)

-- ---- what a bank begins with

sixteen_bytes : header 2 ≡ codes "NSTORE" ++ 0 ∷ 2 ∷ 0 ∷ 0 ∷ 0 ∷ 0 ∷ 0 ∷ 0 ∷ 0 ∷ 0 ∷ []
unfolding header
sixteen_bytes = refl

after_the_header : versioned (codes "NSTORE" ++ 0 ∷ 2 ∷ 0 ∷ 0 ∷ 0 ∷ 0 ∷ 0 ∷ 0 ∷ 0 ∷ 0 ∷ 255 ∷ 9 ∷ []) ≡ Some (2, 255 ∷ 9 ∷ [])
unfolding header
after_the_header = refl

version_1 : versioned (codes "NSTORE" ++ 0 ∷ 1 ∷ 0 ∷ 0 ∷ 0 ∷ 0 ∷ 0 ∷ 0 ∷ 0 ∷ 0 ∷ 255 ∷ 9 ∷ []) ≡ Some (1, 255 ∷ 9 ∷ [])
unfolding header
version_1 = refl

version_0 : versioned (codes "NSTORE" ++ 0 ∷ 0 ∷ 0 ∷ 0 ∷ 0 ∷ 0 ∷ 0 ∷ 0 ∷ 0 ∷ 0 ∷ 255 ∷ []) ≡ None
unfolding header
version_0 = refl

version_3 : versioned (codes "NSTORE" ++ 0 ∷ 3 ∷ 0 ∷ 0 ∷ 0 ∷ 0 ∷ 0 ∷ 0 ∷ 0 ∷ 0 ∷ 255 ∷ []) ≡ None
unfolding header
version_3 = refl

-- 1 in 16 bits, its bytes turned
version_256 : versioned (codes "NSTORE" ++ 1 ∷ 0 ∷ 0 ∷ 0 ∷ 0 ∷ 0 ∷ 0 ∷ 0 ∷ 0 ∷ 0 ∷ 255 ∷ []) ≡ None
unfolding header
version_256 = refl

version_257 : versioned (codes "NSTORE" ++ 1 ∷ 1 ∷ 0 ∷ 0 ∷ 0 ∷ 0 ∷ 0 ∷ 0 ∷ 0 ∷ 0 ∷ 255 ∷ []) ≡ None
unfolding header
version_257 = refl

seven_zeros : versioned (codes "NSTORE" ++ 0 ∷ 2 ∷ 0 ∷ 0 ∷ 0 ∷ 0 ∷ 0 ∷ 0 ∷ 0 ∷ 255 ∷ []) ≡ None
unfolding header
seven_zeros = refl

another_word : versioned (codes "nSTORE" ++ 0 ∷ 2 ∷ 0 ∷ 0 ∷ 0 ∷ 0 ∷ 0 ∷ 0 ∷ 0 ∷ 0 ∷ 255 ∷ []) ≡ None
unfolding header
another_word = refl

header_alone : versioned (codes "NSTORE" ++ 0 ∷ 1 ∷ 0 ∷ 0 ∷ 0 ∷ 0 ∷ 0 ∷ 0 ∷ 0 ∷ 0 ∷ []) ≡ Some (1, [])
unfolding header
header_alone = refl

header_cut : versioned (codes "NSTORE" ++ 0 ∷ 2 ∷ 0 ∷ 0 ∷ 0 ∷ 0 ∷ 0 ∷ 0 ∷ 0 ∷ []) ≡ None
unfolding header
header_cut = refl

-- ---- records

-- The length has its highest byte first: this one is 256.
length_turned : payloads_after 0 (0 ∷ 0 ∷ 0 ∷ 1 ∷ 0 ∷ replicate 256 7) ≡ Some (replicate 256 7 ∷ [])
unfolding length_at
length_turned = refl

length_too_great : payloads_after 0 (0 ∷ 0 ∷ 0 ∷ 1 ∷ 0 ∷ replicate 255 7) ≡ None
unfolding length_at
length_too_great = refl

-- the second record leaves the bank, so the first is lost too
second_leaves : payloads_after 0 (0 ∷ 0 ∷ 0 ∷ 0 ∷ 1 ∷ 7 ∷ 0 ∷ 0 ∷ 0 ∷ 0 ∷ 1 ∷ []) ≡ None
unfolding length_at
second_leaves = refl

erased : IsErased (255 ∷ 255 ∷ 255 ∷ [])
erased = refl

not_erased : IsErased (255 ∷ 254 ∷ 255 ∷ []) → ⊥
not_erased e = omega (arith, ap (λ (bytes : List ℕ). get_or bytes 1 0) e)

-- ---- a whole image

-- the page of a directory of a store that is called Internal
abbrev directory_page : List ℕ
directory_page =
    0 ∷ 0 ∷ 0 ∷ 0 ∷ 0 ∷ 0 ∷ 0 ∷ 0 ∷ 0 ∷ 0 ∷ 0 ∷ 16
    ∷ (8 ∷ codes "Internal" ++ 0 ∷ 0 ∷ 0 ∷ 7 ∷ 0 ∷ 0 ∷ 0 ∷ replicate 484 0)

-- what a new store has in its first bank, in this version, and so many bytes of it are not used
abbrev bank_in : (version unused : ℕ) → List ℕ
bank_in version unused =
    codes "NSTORE" ++ 0 ∷ version ∷ 0 ∷ 0 ∷ 0 ∷ 0 ∷ 0 ∷ 0 ∷ 0 ∷ 0 ∷ 0 ∷ 0 ∷ 0 ∷ 2 ∷ 8
    ∷ 0 ∷ 1 ∷ 0 ∷ 0 ∷ 0 ∷ 0 ∷ 0 ∷ 0 ∷ (directory_page ++ replicate unused 255)

abbrev new_bank : (unused : ℕ) → List ℕ
new_bank unused = bank_in 2 unused

-- three blocks with these votes
abbrev voted : (a b c : ℕ) → List ℕ → List ℕ
voted a b c rest = a ∷ (replicate 4095 255 ++ b ∷ (replicate 4095 255 ++ c ∷ (replicate 4095 255 ++ rest)))

-- the payload of a new store: it puts one page and deletes none
abbrev new_payload : List ℕ
new_payload = 0 ∷ 1 ∷ 0 ∷ 0 ∷ 0 ∷ 0 ∷ 0 ∷ 0 ∷ directory_page

-- A bank of 13 blocks has 20,480 bytes, of which a new store uses 541.
new_records : records (voted 0 0 0 (new_bank 19939 ++ replicate 20480 255)) ≡ Some (new_payload ∷ [])
unfolding header length_at
new_records = refl

new_tail : tail (voted 0 0 0 (new_bank 19939 ++ replicate 20480 255)) ≡ replicate 19939 255
unfolding header length_at
new_tail = refl

new_version : version (voted 0 0 0 (new_bank 19939 ++ replicate 20480 255)) ≡ 2
unfolding header
new_version = refl

is_open : IsOpen (voted 0 0 0 (new_bank 19939 ++ replicate 20480 255))
unfolding header length_at
is_open = record { new = refl; erased = refl }

-- the same in version 1: the bank is closed, blank as its tail is
old_records : records (voted 0 0 0 (bank_in 1 19939 ++ replicate 20480 255)) ≡ Some (new_payload ∷ [])
unfolding header length_at
old_records = refl

old_version : version (voted 0 0 0 (bank_in 1 19939 ++ replicate 20480 255)) ≡ 1
unfolding header
old_version = refl

old_is_closed : IsOpen (voted 0 0 0 (bank_in 1 19939 ++ replicate 20480 255)) → ⊥
old_is_closed o = omega (arith, o.new, old_version)

-- and in version 3 it has no records
later_records : records (voted 0 0 0 (bank_in 3 19939 ++ replicate 20480 255)) ≡ None
unfolding header length_at
later_records = refl

later_version : version (voted 0 0 0 (bank_in 3 19939 ++ replicate 20480 255)) ≡ 0
unfolding header
later_version = refl

by_two_votes : records (voted 255 0 0 (new_bank 19939 ++ replicate 20480 255)) ≡ Some (new_payload ∷ [])
unfolding header length_at
by_two_votes = refl

other_bank_erased : records (voted 0 1 1 (new_bank 19939 ++ replicate 20480 255)) ≡ None
unfolding header length_at
other_bank_erased = refl

no_bank_chosen : records (voted 255 0 1 (new_bank 19939 ++ replicate 20480 255)) ≡ None
unfolding header length_at
no_bank_chosen = refl

second_bank : records (voted 1 1 1 (replicate 20480 255 ++ new_bank 19939)) ≡ Some (new_payload ∷ [])
unfolding header length_at
second_bank = refl

-- With 14 blocks the second bank stands where it stands with 13, and one block is left.
second_bank_of_an_even_unit : records (voted 1 1 1 (replicate 20480 255 ++ (new_bank 19939 ++ replicate 4096 255))) ≡ Some (new_payload ∷ [])
unfolding header length_at
second_bank_of_an_even_unit = refl

-- With 15 it stands a block farther.
second_bank_of_an_odd_unit : records (voted 1 1 1 (replicate 24576 255 ++ new_bank 24035)) ≡ Some (new_payload ∷ [])
unfolding header length_at
second_bank_of_an_odd_unit = refl

too_few_blocks : records (voted 0 0 0 (new_bank 15843 ++ replicate 20480 255)) ≡ None
unfolding header length_at
too_few_blocks = refl

blank_unit : records (replicate 53248 255) ≡ None
unfolding header length_at
blank_unit = refl

unit_of_zeros : records (replicate 53248 0) ≡ None
unfolding header length_at
unit_of_zeros = refl

new_page : change_in new_payload ≡ Some (record { puts = (0, directory_page) ∷ []; deletes = [] })
new_page = refl

directory_is_object_0 : object_id directory_page ≡ 0
directory_is_object_0 = refl

directory_length : object_length directory_page ≡ 16
directory_length = refl

directory_data : take 16 (page_data directory_page) ≡ 8 ∷ codes "Internal" ++ 0 ∷ 0 ∷ 0 ∷ 7 ∷ 0 ∷ 0 ∷ 0 ∷ []
directory_data = refl

-- ---- payloads

no_counts : change_in [] ≡ None
no_counts = refl

no_changes : change_in (0 ∷ 0 ∷ 0 ∷ 0 ∷ []) ≡ Some (record { puts = []; deletes = [] })
no_changes = refl

byte_too_few : change_in (0 ∷ 0 ∷ 0 ∷ 1 ∷ 0 ∷ 0 ∷ 0 ∷ []) ≡ None
byte_too_few = refl

-- the number of deletes stands after that of puts
one_delete : change_in (0 ∷ 0 ∷ 0 ∷ 1 ∷ 0 ∷ 0 ∷ 255 ∷ 255 ∷ []) ≡ Some (record { puts = []; deletes = 65535 ∷ [] })
one_delete = refl

two_puts_of_one : change_in (0 ∷ 2 ∷ 0 ∷ 0 ∷ 0 ∷ 0 ∷ 0 ∷ 3 ∷ (replicate 512 9 ++ 0 ∷ 0 ∷ 0 ∷ 3 ∷ replicate 512 8)) ≡ None
two_puts_of_one = refl

two_puts : change_in (0 ∷ 2 ∷ 0 ∷ 0 ∷ 0 ∷ 0 ∷ 0 ∷ 3 ∷ (replicate 512 9 ++ 0 ∷ 0 ∷ 1 ∷ 0 ∷ replicate 512 8)) ≡ Some (record { puts = (3, replicate 512 9) ∷ (256, replicate 512 8) ∷ []; deletes = [] })
two_puts = refl

-- ---- objects

pages_of_one_byte : pages_for 1 ≡ 1
pages_of_one_byte = refl

two_full_pages : pages_for 1000 ≡ 2
two_full_pages = refl

third_page_begun : pages_for 1001 ≡ 3
third_page_begun = refl

-- the page of a part of object 5, of 502 bytes
abbrev page_of : (part : ℕ) → List ℕ → List ℕ
page_of part bytes = 0 ∷ 0 ∷ 0 ∷ 5 ∷ 0 ∷ 0 ∷ 0 ∷ part ∷ 0 ∷ 0 ∷ 1 ∷ 246 ∷ bytes

-- Unused bytes of a page are not looked at.
two_parts : (pages : Pages) → map.get pages 7 ≡ Some (page_of 0 (replicate 500 65)) → map.get pages 3 ≡ Some (page_of 1 (66 ∷ 67 ∷ replicate 498 1))
    → joined pages (record { length = 502; numbers = 7 ∷ 3 ∷ [] }) ≡ replicate 500 65 ++ 66 ∷ 67 ∷ []
two_parts pages e f = rw (e, f) refl

one_part : (pages : Pages) → map.get pages 7 ≡ Some (page_of 0 (66 ∷ 67 ∷ replicate 498 1)) → joined pages (record { length = 1; numbers = 7 ∷ [] }) ≡ 66 ∷ []
one_part pages e = rw e refl

no_bytes : (pages : Pages) → map.get pages 7 ≡ Some (page_of 0 (66 ∷ 67 ∷ replicate 498 1)) → joined pages (record { length = 0; numbers = 7 ∷ [] }) ≡ []
no_bytes pages e = refl

-- the pages of an object of 501 bytes: the second has one of them
both_pages : written_parts 0 5 (replicate 500 65 ++ 66 ∷ []) (7 ∷ 3 ∷ [])
    ≡ (7, 0 ∷ 0 ∷ 0 ∷ 5 ∷ 0 ∷ 0 ∷ 0 ∷ 0 ∷ 0 ∷ 0 ∷ 1 ∷ 245 ∷ replicate 500 65) ∷ (3, 0 ∷ 0 ∷ 0 ∷ 5 ∷ 0 ∷ 0 ∷ 0 ∷ 1 ∷ 0 ∷ 0 ∷ 1 ∷ 245 ∷ 66 ∷ replicate 499 0) ∷ []
unfolding written_page
both_pages = refl

is_part : IsPart 5 1 502 (page_of 1 (66 ∷ 67 ∷ []))
is_part = record { of_object = refl; of_part = refl; of_size = refl }

part_of_another_object : IsPart 4 1 502 (page_of 1 (66 ∷ 67 ∷ [])) → ⊥
part_of_another_object p = omega (arith, p.of_object)

another_part : IsPart 5 0 502 (page_of 1 (66 ∷ 67 ∷ [])) → ⊥
another_part p = omega (arith, p.of_part)

part_of_another_length : IsPart 5 1 501 (page_of 1 (66 ∷ 67 ∷ [])) → ⊥
part_of_another_length p = omega (arith, p.of_size)

-- an object of 502 bytes has two pages
page_is_missing : (live : Pages) (table : Table) → IsTableOf live table → table 5 ≡ Some (record { length = 502; numbers = 7 ∷ [] }) → ⊥
page_is_missing live table is e = omega (arith, is.whole 5 (record { length = 502; numbers = 7 ∷ [] }) e)

-- an object that no page names
object_without_pages : (live : Pages) (table : Table) → IsTableOf live table → map.get live 7 ≡ None → table 5 ≡ Some (record { length = 2; numbers = 7 ∷ [] }) → ⊥
object_without_pages live table is none e = let found = is.parts 5 0 7 (record { length = 2; numbers = 7 ∷ [] }) e refl in let clash : Some found.0 ≡ None = sym found.1 ∙ none in cc

-- a page of an object that the table has not
page_without_object : (live : Pages) (table : Table) → IsTableOf live table → map.get live 7 ≡ Some (page_of 0 []) → table 5 ≡ None → ⊥
page_without_object live table is found none = let x = is.pages 7 (page_of 0 []) found in let clash : Some x.0 ≡ None = sym x.1 ∙ none in cc
