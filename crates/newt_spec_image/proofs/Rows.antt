-- Worked rows of the definitions, computed.
use Rattle.std.proofs.Common.{◌≡◌, [], ◌∷◌, ◌++◌, replicate, Some, None, refl, ◌∙◌}
use Rattle.std.specs.Cmp.{nat_cmp_total}
use Rattle.std.specs.FinMap as map
use Rattle.newt_spec_image.specs.Records.{chosen, payloads_after, tail_after, length_at, record_bytes, length_bytes, bank_blocks, bank_size, bank_start}
use Rattle.newt_spec_image.specs.Pages.{after, cap, change_in, object_id, object_length, page_data, part_number, written_change}
use Rattle.newt_spec_image.specs.Objects.{pages_for, part_bytes, written_page}

-- The votes of blocks 0, 1 and 2, and the bank that they choose. 255 is no vote.
two_of_three : chosen 0 1 1 ≡ Some 1
two_of_three = refl

first_and_third : chosen 1 0 1 ≡ Some 1
first_and_third = refl

-- two that are alike and no votes
two_of_none : chosen 0 7 7 ≡ Some 0
two_of_none = refl

first_alone : chosen 0 1 255 ≡ Some 0
first_alone = refl

first_alone_again : chosen 1 255 0 ≡ Some 1
first_alone_again = refl

two_without_the_first : chosen 255 1 1 ≡ Some 1
two_without_the_first = refl

none_for_the_first : chosen 255 1 0 ≡ None
none_for_the_first = refl

-- Where the banks begin, on the least and on the greatest unit.
least : bank_blocks 13 ≡ 5
least = refl

least_first : bank_start 13 0 ≡ 12288
least_first = refl

least_size : bank_size 13 ≡ 20480
least_size = refl

least_second : bank_start 13 1 ≡ 32768
least_second = refl

greatest : bank_blocks 4099 ≡ 2048
greatest = refl

greatest_second : bank_start 4099 1 ≡ 8400896
greatest_second = refl

-- Records: two bytes, no bytes, and then a gate that is not 0.
written : record_bytes (7 ∷ 8 ∷ []) ≡ 0 ∷ 0 ∷ 0 ∷ 0 ∷ 2 ∷ 7 ∷ 8 ∷ []
unfolding record_bytes length_bytes
written = refl

two : payloads_after 0 (0 ∷ 0 ∷ 0 ∷ 0 ∷ 2 ∷ 7 ∷ 8 ∷ 0 ∷ 0 ∷ 0 ∷ 0 ∷ 0 ∷ 255 ∷ 9 ∷ []) ≡ Some ((7 ∷ 8 ∷ []) ∷ [] ∷ [])
unfolding length_at
two = refl

after_them : tail_after 0 (0 ∷ 0 ∷ 0 ∷ 0 ∷ 2 ∷ 7 ∷ 8 ∷ 0 ∷ 0 ∷ 0 ∷ 0 ∷ 0 ∷ 255 ∷ 9 ∷ []) ≡ 255 ∷ 9 ∷ []
unfolding length_at
after_them = refl

-- A gate that is neither 0 nor FF ends them too.
torn_gate : payloads_after 0 (3 ∷ 0 ∷ 0 ∷ 0 ∷ 1 ∷ 7 ∷ []) ≡ Some []
torn_gate = refl

-- A record up to the end of the bank, one that leaves it, and a gate with no room for its length.
to_the_end : payloads_after 0 (0 ∷ 0 ∷ 0 ∷ 0 ∷ 2 ∷ 7 ∷ 8 ∷ []) ≡ Some ((7 ∷ 8 ∷ []) ∷ [])
unfolding length_at
to_the_end = refl

leaves : payloads_after 0 (0 ∷ 0 ∷ 0 ∷ 0 ∷ 3 ∷ 7 ∷ 8 ∷ []) ≡ None
unfolding length_at
leaves = refl

cut_short : payloads_after 0 (0 ∷ 0 ∷ 0 ∷ 0 ∷ []) ≡ None
unfolding length_at
cut_short = refl

-- Payloads: the counts of puts and of deletes, then a put of 516 bytes, or a delete of 4.
one_put : change_in (0 ∷ 1 ∷ 0 ∷ 0 ∷ 0 ∷ 0 ∷ 255 ∷ 255 ∷ replicate 512 9) ≡ Some (record { puts = (65535, replicate 512 9) ∷ []; deletes = [] })
one_put = refl

put_and_delete : change_in (0 ∷ 1 ∷ 0 ∷ 1 ∷ 0 ∷ 0 ∷ 0 ∷ 3 ∷ replicate 512 9 ++ 0 ∷ 0 ∷ 1 ∷ 2 ∷ []) ≡ Some (record { puts = (3, replicate 512 9) ∷ []; deletes = 258 ∷ [] })
put_and_delete = refl

put_and_delete_of_one : change_in (0 ∷ 1 ∷ 0 ∷ 1 ∷ 0 ∷ 0 ∷ 0 ∷ 3 ∷ replicate 512 9 ++ 0 ∷ 0 ∷ 0 ∷ 3 ∷ []) ≡ None
put_and_delete_of_one = refl

two_deletes_of_one : change_in (0 ∷ 0 ∷ 0 ∷ 2 ∷ 0 ∷ 0 ∷ 0 ∷ 7 ∷ 0 ∷ 0 ∷ 0 ∷ 7 ∷ []) ≡ None
two_deletes_of_one = refl

large_number : change_in (0 ∷ 0 ∷ 0 ∷ 1 ∷ 0 ∷ 1 ∷ 0 ∷ 0 ∷ []) ≡ None
large_number = refl

byte_too_many : change_in (0 ∷ 0 ∷ 0 ∷ 1 ∷ 0 ∷ 0 ∷ 0 ∷ 7 ∷ 0 ∷ []) ≡ None
byte_too_many = refl

written_deletes : written_change (record { puts = []; deletes = 7 ∷ 258 ∷ [] }) ≡ 0 ∷ 0 ∷ 0 ∷ 2 ∷ 0 ∷ 0 ∷ 0 ∷ 7 ∷ 0 ∷ 0 ∷ 1 ∷ 2 ∷ []
unfolding written_change
written_deletes = refl

-- Puts come before deletes, and the last put of a number stays.
puts_before_deletes : map.get (after (record { puts = (3, 9 ∷ []) ∷ []; deletes = 3 ∷ [] }) map.empty) 3 ≡ None
puts_before_deletes = map.get-remove nat_cmp_total (map.insert map.empty 3 (9 ∷ [])) 3 3

last_put_stays : map.get (after (record { puts = (3, 9 ∷ []) ∷ (3, 8 ∷ []) ∷ []; deletes = 4 ∷ [] }) map.empty) 3 ≡ Some (8 ∷ [])
last_put_stays = map.get-remove nat_cmp_total (map.insert (map.insert map.empty 3 (9 ∷ [])) 3 (8 ∷ [])) 4 3 ∙ map.get-insert nat_cmp_total (map.insert map.empty 3 (9 ∷ [])) 3 (8 ∷ []) 3

-- How many pages the least and the greatest unit take.
least_cap : cap 13 ≡ 38
least_cap = refl

greatest_cap : cap 4099 ≡ 15978
greatest_cap = refl

-- Objects: the pages of one, the bytes of a part, and the page of a part.
empty_object : pages_for 0 ≡ 1
empty_object = refl

full_page : pages_for 500 ≡ 1
full_page = refl

next_page : pages_for 501 ≡ 2
next_page = refl

last_part : part_bytes 1 (replicate 500 7 ++ 8 ∷ 9 ∷ []) ≡ 8 ∷ 9 ∷ []
last_part = refl

page : written_page 1 2 1003 (8 ∷ 9 ∷ []) ≡ 0 ∷ 0 ∷ 0 ∷ 1 ∷ 0 ∷ 0 ∷ 0 ∷ 2 ∷ 0 ∷ 0 ∷ 3 ∷ 235 ∷ 8 ∷ 9 ∷ replicate 498 0
unfolding written_page
page = refl

page_of : object_id (0 ∷ 0 ∷ 0 ∷ 1 ∷ 0 ∷ 0 ∷ 0 ∷ 2 ∷ 0 ∷ 0 ∷ 3 ∷ 235 ∷ 8 ∷ []) ≡ 1
page_of = refl

page_part : part_number (0 ∷ 0 ∷ 0 ∷ 1 ∷ 0 ∷ 0 ∷ 0 ∷ 2 ∷ 0 ∷ 0 ∷ 3 ∷ 235 ∷ 8 ∷ []) ≡ 2
page_part = refl

page_length : object_length (0 ∷ 0 ∷ 0 ∷ 1 ∷ 0 ∷ 0 ∷ 0 ∷ 2 ∷ 0 ∷ 0 ∷ 3 ∷ 235 ∷ 8 ∷ []) ≡ 1003
page_length = refl

page_bytes : page_data (0 ∷ 0 ∷ 0 ∷ 1 ∷ 0 ∷ 0 ∷ 0 ∷ 2 ∷ 0 ∷ 0 ∷ 3 ∷ 235 ∷ 8 ∷ []) ≡ 8 ∷ []
page_bytes = refl
