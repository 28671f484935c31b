-- The damage of images, worked by hand: a store that was just made, on 13 blocks, and what is wrong
-- with it where some of its bytes are others.
use Rattle.std.proofs.Common.{◌≡◌, refl, ℕ, List, [], ◌∷◌, ◌++◌, replicate, map, codes, Option, Some, None}
use Rattle.std.specs.List.{range_with_len}
use Rattle.newt_graph.specs.Graph.{RawGraph}
use Rattle.newt_spec_image.specs.Records.{header, length_at}
use Rattle.newt_spec_store.specs.Cost.{directory_bytes}
use Rattle.newt_spec_store.specs.Store.{new_store}
use Rattle.newt_spec_check.specs.declared.Layer.{Layer}
use Rattle.newt_spec_check.specs.declared.Layer.TheVariants as layer
use Rattle.newt_spec_check.specs.Damage.{Damage, damage, bank_gates, first_gate, leaves_bank}
use Rattle.newt_spec_check.specs.Damage.{is_unformed, least, no_directory, bad_entry, bad_large}
use Rattle.newt_spec_check.specs.Damage.{too_costly}

-- no text is a graph's
reads_none : List ℕ → Option RawGraph
reads_none text = None

-- what is damaged, and where
abbrev damaged : Layer → ℕ → Option Damage
damaged layer place = Some (record { layer = layer; place = place })

-- an image of 13 blocks: three votes, the bytes of bank 0, and blank bytes after
abbrev image_of : (a b c : ℕ) → List ℕ → List ℕ
image_of a b c bytes =
    a ∷ (replicate 4095 255 ++ b ∷ (replicate 4095 255 ++ c ∷ (replicate 4095 255
    ++ (bytes ++ replicate 40419 255))))

-- A header and one record of one page: a part of 16 bytes, with the last byte of the put count, of
-- the object id, of the part number and of the object's length.
abbrev bank_of : (version size_high size_low count id part size : ℕ) → List ℕ
bank_of version size_high size_low count id part size =
    header version ++ 0 ∷ 0 ∷ 0 ∷ size_high ∷ size_low ∷ 0 ∷ count ∷ 0 ∷ 0 ∷ 0 ∷ 0 ∷ 0 ∷ 0
    ∷ 0 ∷ 0 ∷ 0 ∷ id ∷ 0 ∷ 0 ∷ 0 ∷ part ∷ 0 ∷ 0 ∷ 0 ∷ size
    ∷ (directory_bytes (new_store (codes "Internal") 7) ++ replicate 484 0)

-- ---- the rows

zeros : damage reads_none (replicate 53248 0) ≡ damaged layer.Header 12288
unfolding header
zeros = refl

no_votes : damage reads_none (image_of 255 1 0 (bank_of 2 2 8 1 0 0 16)) ≡ damaged layer.Votes 0
no_votes = refl

-- the other bank is chosen, and is blank
another_bank :
    damage reads_none (image_of 255 1 1 (bank_of 2 2 8 1 0 0 16)) ≡ damaged layer.Header 32768
unfolding header
another_bank = refl

no_version :
    damage reads_none (image_of 0 0 0 (bank_of 3 2 8 1 0 0 16)) ≡ damaged layer.Header 12288
unfolding header
no_version = refl

a_long_record :
    damage reads_none (image_of 0 0 0 (bank_of 2 255 255 1 0 0 16)) ≡ damaged layer.RecordPlace 12304
unfolding header length_at
a_long_record = refl

an_old_long_record :
    damage reads_none (image_of 0 0 0 (bank_of 1 255 255 1 0 0 16)) ≡ damaged layer.RecordPlace 12304
unfolding header length_at
an_old_long_record = refl

two_puts : damage reads_none (image_of 0 0 0 (bank_of 2 2 8 2 0 0 16)) ≡ damaged layer.Payload 12304
unfolding header length_at
two_puts = refl

-- two gates, neither of which has a payload of its form, and the second one's leaves the bank
abbrev two_gates : List ℕ
two_gates = 0 ∷ 0 ∷ 0 ∷ 0 ∷ 1 ∷ 9 ∷ 0 ∷ 0 ∷ 0 ∷ 0 ∷ 2 ∷ 8 ∷ []

the_second_leaves : first_gate leaves_bank (bank_gates 12288 two_gates) ≡ Some 12310
unfolding length_at
the_second_leaves = refl

the_first_is_unformed : first_gate is_unformed (bank_gates 12288 two_gates) ≡ Some 12304
unfolding length_at
the_first_is_unformed = refl

-- ---- rows of objects

the_least : least (5 ∷ 2 ∷ 7 ∷ []) ≡ Some 2
the_least = refl

abbrev internal : List ℕ
internal = directory_bytes (new_store (codes "Internal") 7)

a_directory : no_directory reads_none 2 ((0, internal) ∷ []) ≡ None
a_directory = refl

an_old_directory : no_directory reads_none 1 ((0, internal) ∷ []) ≡ None
an_old_directory = refl

no_object : no_directory reads_none 2 ((1, internal) ∷ []) ≡ Some 0
no_object = refl

a_directory_with_more : no_directory reads_none 2 ((0, internal ++ 0 ∷ []) ∷ []) ≡ Some 0
a_directory_with_more = refl

two_that_are_no_records :
    bad_entry reads_none 2 ((0, internal) ∷ (2, []) ∷ (3, 0 ∷ []) ∷ (5, []) ∷ []) ≡ Some 3
unfolding reads_none
two_that_are_no_records = refl

two_that_are_not_named : bad_large ((0, internal) ∷ (4, []) ∷ (6, []) ∷ []) ≡ Some 4
two_that_are_not_named = refl

-- a record of soup 0 and entry 0, without a text, that names an object twice
abbrev naming_twice : ℕ → List ℕ
naming_twice id =
    0 ∷ 0 ∷ 0 ∷ 2 ∷ 0 ∷ 0 ∷ 0 ∷ 0 ∷ 0 ∷ 0 ∷ 0 ∷ 0
    ∷ 0 ∷ 0 ∷ 0 ∷ 1 ∷ 0 ∷ 0 ∷ 0 ∷ id ∷ 0 ∷ 0 ∷ 0 ∷ 0
    ∷ 0 ∷ 0 ∷ 0 ∷ 2 ∷ 0 ∷ 0 ∷ 0 ∷ id ∷ 0 ∷ 0 ∷ 0 ∷ 0 ∷ []

one_that_is_named_twice : bad_large ((0, internal) ∷ (3, naming_twice 4) ∷ (4, []) ∷ []) ≡ Some 4
one_that_is_named_twice = refl

as_many_as_fit : too_costly 13 (map (λ n. (n, [])) (range_with_len 0 38)) ≡ None
as_many_as_fit = refl

one_too_many : too_costly 13 (map (λ n. (n, [])) (range_with_len 0 39)) ≡ Some 39
one_too_many = refl
