-- Streams, worked by hand. `shown` reads the bytes that digits write and prints the graph;
-- `streamed` reads a literal and gives the digits of its written text. What is read is what is spelled
-- (newt_nsof_read), so these are rows of the grammar too.
use Rattle.std.proofs.Common.{arith, ◌≡◌, refl, ℕ, suc, true, false, List, [], ◌∷◌, ◌++◌, map, replicate, codes, Some, None, nat_lt, pos, take}
use Rattle.std.specs.Prelude.{Ok, Err}
use Rattle.newt_graph.specs.declared.node.Node.TheVariants.{Symbol, Str, Binary, Large, Array, Frame}
use Rattle.newt_graph.specs.declared.node.Ref.TheVariants.{Imm, Node as At}
use Rattle.newt_spec_nsof.specs.Lengths.{agains_len, node_len, skeleton}
use Rattle.newt_spec_nsof.specs.Text.{units_text}
use Rattle.newt_spec_nsof.specs.Written.{nsof}
use Rattle.newt_nsof_read.specs.declared.fault.NsofFault.TheVariants.{Malformed}
use Rattle.newt_nsof_read.specs.Reading.{decoded, graph_at}
use Rattle.newt_test_definitions.specs.Formats.{is_malformed, repeated, shown, streamed, streams_among}
use Rattle.newt_test_definitions.proofs.Tables.{open_tables}

-- ---- the version, and one object

nil_alone : shown (codes "020A") ≡ codes "nil"
unfolding open_tables
nil_alone = refl

-- another version, no object, no tag of this number, and a byte too many
no_streams : streams_among (map codes ("" ∷ "02" ∷ "030A" ∷ "0A" ∷ "000A" ∷ "020D" ∷ "0210" ∷ "02FF" ∷ "020A0A" ∷ "020A00" ∷ [])) ≡ []
unfolding open_tables
no_streams = refl

-- ---- numbers: one byte up to 254, or 255 and 32 bits with a sign, the highest byte first

words_read : map shown (map codes ("0200FC" ∷ "0200FE" ∷ "0200FF000000FE" ∷ "0200FF000000FF" ∷ "0200FF00000100" ∷ "0200FF01000000" ∷ "0200FFFFFFFFFC" ∷ "0200FF7FFFFFFC" ∷ "0200FF80000000" ∷ []))
    ≡ map codes ("63" ∷ "&000000FE" ∷ "&000000FE" ∷ "&000000FF" ∷ "64" ∷ "4194304" ∷ "-1" ∷ "536870911" ∷ "-536870912" ∷ [])
unfolding open_tables
words_read = refl

-- a number that is cut off
words_cut : streams_among (map codes ("0200" ∷ "0200FF" ∷ "0200FF000000" ∷ "0200FC00" ∷ "0200FF0000010000" ∷ [])) ≡ []
unfolding open_tables
words_cut = refl

-- The low bits 01 are those of a pointer, and no word has them. Those of a magic pointer, 11,
-- stand.
pointers : streams_among (map codes ("020001" ∷ "020005" ∷ "0200FD" ∷ "0200FF00000005" ∷ "0200FF7FFFFFFD" ∷ "0200FFFFFFFFFD" ∷ "0200FF80000001" ∷ [])) ≡ []
unfolding open_tables
pointers = refl

other_words : map shown (map codes ("020002" ∷ "02001A" ∷ "020003" ∷ "020007" ∷ "0200FFFFFFFFFE" ∷ "0200FFFFFFFFFF" ∷ "0200FF00000416" ∷ "0200FF000FFFF6" ∷ "0200FF00100006" ∷ []))
    ≡ map codes ("nil" ∷ "true" ∷ "&00000003" ∷ "&00000007" ∷ "&FFFFFFFE" ∷ "&FFFFFFFF" ∷ "$A" ∷ "$\\FFFF" ∷ "&00100006" ∷ [])
unfolding open_tables
other_words = refl

-- ---- characters: one byte, or two with the higher first

characters : map shown (map codes ("020141" ∷ "0201FF" ∷ "020100" ∷ "02020041" ∷ "02020102" ∷ "02024100" ∷ "0202FFFF" ∷ []))
    ≡ map codes ("$A" ∷ "$\\00FF" ∷ "$\\0000" ∷ "$A" ∷ "$\\0102" ∷ "$\\4100" ∷ "$\\FFFF" ∷ [])
unfolding open_tables
characters = refl

characters_cut : streams_among (map codes ("0201" ∷ "0202" ∷ "020201" ∷ "02014100" ∷ "0202004100" ∷ [])) ≡ []
unfolding open_tables
characters_cut = refl

-- the word of a character is 16 times its code and 6
wide_word : decoded (2 ∷ 2 ∷ 1 ∷ 2 ∷ []) ≡ Ok (record { nodes = []; root = Imm (pos 4134) })
unfolding open_tables
wide_word = refl

-- ---- symbols

symbols : map shown (map codes ("02070161" ∷ "02070120" ∷ "0207017E" ∷ "0207FF0000000161" ∷ "0207026162" ∷ []))
    ≡ map codes ("'a" ∷ "'| |" ∷ "'|~|" ∷ "'a" ∷ "'ab" ∷ [])
unfolding open_tables
symbols = refl

-- no byte, a byte below 32 or above 126, a name that is cut off, a number of bytes below zero or
-- with its bytes turned
no_symbols : streams_among (map codes ("020700" ∷ "02070100" ∷ "0207011F" ∷ "0207017F" ∷ "020701FF" ∷ "02070261" ∷ "0207FFFFFFFFFF61" ∷ "0207FF0100000061" ∷ "0207016161" ∷ [])) ≡ []
unfolding open_tables
no_symbols = refl

longest_name : decoded (2 ∷ 7 ∷ 254 ∷ replicate 254 97) ≡ Ok (record { nodes = Symbol (replicate 254 97) ∷ []; root = At 0 })
unfolding open_tables
longest_name = refl

name_too_long : decoded (2 ∷ 7 ∷ 255 ∷ 0 ∷ 0 ∷ 0 ∷ 255 ∷ replicate 255 97) ≡ Err Malformed
unfolding open_tables
name_too_long = refl

-- ---- precedents

-- Two spellings are one symbol, the first. Each takes a number: the string has the number 3.
folded_symbol : map shown (map codes ("0205020703466F6F0703666F6F" ∷ "0205040703466F6F0703666F6F0804007800000902" ∷ "0205040703466F6F0703666F6F0804007800000903" ∷ "0205040703466F6F0703666F6F08040078000009FF00000003" ∷ []))
    ≡ map codes ("['Foo, 'Foo]" ∷ "['Foo, 'Foo, \"x\", 'Foo]" ∷ "['Foo, 'Foo, #0=\"x\", #0#]" ∷ "['Foo, 'Foo, #0=\"x\", #0#]" ∷ [])
unfolding open_tables
folded_symbol = refl

-- A precedent may name what is still open, by its number in the order of the tags: a container
-- stands before its class, its tags and its values.
open_objects : map shown (map codes ("0205010900" ∷ "02050109FF00000000" ∷ "0204010701630900" ∷ "0204010701630901" ∷ "0206010701610900" ∷ "0206010701610901" ∷ "02050205000901" ∷ "020502050109000901" ∷ []))
    ≡ map codes ("#0=[#0#]" ∷ "#0=[#0#]" ∷ "#0=[c: #0#]" ∷ "[c: 'c]" ∷ "#0={a: #0#}" ∷ "{a: 'a}" ∷ "[#0=[], #0#]" ∷ "#0=[#1=[#0#], #1#]" ∷ [])
unfolding open_tables
open_objects = refl

-- a number that was not given out, one below zero, and one that is cut off
no_precedents : streams_among (map codes ("020900" ∷ "020905" ∷ "0205010901" ∷ "02050109FFFFFFFFFF" ∷ "02050109FF000000" ∷ "02050109" ∷ "020502040041" ∷ [])) ≡ []
unfolding open_tables
no_precedents = refl

-- All objects but immediates and precedents take a number: the second slot is the object of number
-- 1.
numbered_objects : map shown (map codes ("02050203000701620901" ∷ "0205020C07017700000000000000000000000000000000000901" ∷ "0205020B010203040901" ∷ "02050206000901" ∷ "02050204000701630901" ∷ "02050205000901" ∷ "020502080200000901" ∷ "0205020701610901" ∷ []))
    ≡ map codes ("[#0=<b:>, #0#]" ∷ "[#0=<<w:>>, #0#]" ∷ "[#0={top: 1, left: 2, bottom: 3, right: 4}, #0#]" ∷ "[#0={}, #0#]" ∷ "[#0=[c:], #0#]" ∷ "[#0=[], #0#]" ∷ "[#0=\"\", #0#]" ∷ "['a, 'a]" ∷ [])
unfolding open_tables
numbered_objects = refl

-- A class takes the next number, the slot tags of a small rectangle, an immediate and a precedent
-- take none.
numbers_within : map shown (map codes ("02050303000701620804007800000903" ∷ "0205030C07017700000000000000000000000000000000000804007800000903" ∷ "0205030B010203040804007800000902" ∷ "0205050A000401410804007800000901" ∷ "02050309000804007800000901" ∷ []))
    ≡ map codes ("[<b:>, #0=\"x\", #0#]" ∷ "[<<w:>>, #0=\"x\", #0#]" ∷ "[{top: 1, left: 2, bottom: 3, right: 4}, #0=\"x\", #0#]" ∷ "[nil, 1, $A, #0=\"x\", #0#]" ∷ "#0=[#0#, #1=\"x\", #1#]" ∷ [])
unfolding open_tables
numbers_within = refl

-- the numbers after the last one that was given out
numbers_not_given : streams_among (map codes ("02050303000701620804007800000904" ∷ "0205030B010203040804007800000903" ∷ "0205050A000401410804007800000902" ∷ [])) ≡ []
unfolding open_tables
numbers_not_given = refl

-- ---- classes and slot tags

-- a class or a slot tag that was met before
labels_by_precedent : map shown (map codes ("02050207016304000901" ∷ "020502070163060109010004" ∷ "0205020701430600" ∷ "02050207016303010901FF" ∷ "02050207014306010701630004" ∷ []))
    ≡ map codes ("['c, [c:]]" ∷ "['c, {c: 1}]" ∷ "['C, {}]" ∷ "['c, <c:FF>]" ∷ "['C, {C: 1}]" ∷ [])
unfolding open_tables
labels_by_precedent = refl

-- a class or a slot tag that is no symbol, and no class at all
no_labels : streams_among (map codes ("02040008020000" ∷ "02050104000900" ∷ "0204000A" ∷ "0204000141" ∷ "02030008020000" ∷ "0203000A" ∷ "020300" ∷ "020400" ∷ "020601080200000A" ∷ "0206010A0A" ∷ "02060109000A" ∷ "0205020600060109010A" ∷ "020C080200000000000000000000000000000000000000" ∷ [])) ≡ []
unfolding open_tables
no_labels = refl

-- A frame has no two tags that are equal but for case.
equal_tags : streams_among (map codes ("02060207016107016100040008" ∷ "02060207016107014100040008" ∷ "020602070161090100040008" ∷ [])) ≡ []
unfolding open_tables
equal_tags = refl

-- all slot tags, and then all values
frames : map shown (map codes ("020600" ∷ "02060207016107016200040008" ∷ "0206FF000000010701610004" ∷ "0206010701610600" ∷ "02060207016107016209010902" ∷ []))
    ≡ map codes ("{}" ∷ "{a: 1, b: 2}" ∷ "{a: 1}" ∷ "{a: {}}" ∷ "{a: 'a, b: 'b}" ∷ [])
unfolding open_tables
frames = refl

-- a frame whose tags or values are cut off, and numbers of slots below zero or with their bytes
-- turned
no_frames : streams_among (map codes ("0206" ∷ "020601" ∷ "020601070161" ∷ "0206020701610701620004" ∷ "0206FFFFFFFFFF" ∷ "0206FF010000000701610004" ∷ "02060000" ∷ [])) ≡ []
unfolding open_tables
no_frames = refl

-- ---- arrays

-- the number of slots in both forms, the class after it
arrays : map shown (map codes ("020500" ∷ "0205FF00000000" ∷ "0205FF000000010A" ∷ "02050200040008" ∷ "020400070163" ∷ "0204FF000000010701630A" ∷ "02040207016300040008" ∷ []))
    ≡ map codes ("[]" ∷ "[]" ∷ "[nil]" ∷ "[1, 2]" ∷ "[c:]" ∷ "[c: nil]" ∷ "[c: 1, 2]" ∷ [])
unfolding open_tables
arrays = refl

-- slots that are cut off or too many, and numbers of slots below zero or with their bytes turned
no_arrays : streams_among (map codes ("0205" ∷ "020501" ∷ "0205020004" ∷ "0205000A" ∷ "0205FFFFFFFFFF" ∷ "0205FF010000000A" ∷ "0204FFFFFFFFFF070163" ∷ "020401070163" ∷ "0204FF010000000701630A" ∷ [])) ≡ []
unfolding open_tables
no_arrays = refl

-- ---- small rectangles: top, left, bottom, right

-- Where a symbol was met before, that spelling stays.
rectangles : map shown (map codes ("020B01020304" ∷ "020BFF00FE00" ∷ "0205020703544F500B01020304" ∷ "0205020B010203040B05060708" ∷ "0205020B010203040703546F70" ∷ []))
    ≡ map codes ("{top: 1, left: 2, bottom: 3, right: 4}" ∷ "{top: 255, left: 0, bottom: 254, right: 0}" ∷ "['TOP, {TOP: 1, left: 2, bottom: 3, right: 4}]" ∷ "[{top: 1, left: 2, bottom: 3, right: 4}, {top: 5, left: 6, bottom: 7, right: 8}]" ∷ "[{top: 1, left: 2, bottom: 3, right: 4}, 'top]" ∷ [])
unfolding open_tables
rectangles = refl

-- a rectangle of another number of bytes
no_rectangles : streams_among (map codes ("020B" ∷ "020B010203" ∷ "020B0102030405" ∷ [])) ≡ []
unfolding open_tables
no_rectangles = refl

rectangle_nodes : decoded (2 ∷ 11 ∷ 1 ∷ 2 ∷ 3 ∷ 4 ∷ [])
    ≡ Ok (record { nodes = Frame (1 ∷ 2 ∷ 3 ∷ 4 ∷ []) (Imm (pos 4) ∷ Imm (pos 8) ∷ Imm (pos 12) ∷ Imm (pos 16) ∷ []) ∷ Symbol (codes "top") ∷ Symbol (codes "left") ∷ Symbol (codes "bottom") ∷ Symbol (codes "right") ∷ []; root = At 0 })
unfolding open_tables
rectangle_nodes = refl

-- ---- strings: units of two bytes, the higher first, and one more that is zero

-- the number of bytes counts the last unit; units of zero before it stand
strings : map shown (map codes ("0208020000" ∷ "02080400410000" ∷ "02080441000000" ∷ "0208060102D83D0000" ∷ "020806000000410000" ∷ "020806004100000000" ∷ "0208FF0000000400410000" ∷ []))
    ≡ map codes ("\"\"" ∷ "\"A\"" ∷ "\"\\u4100\"" ∷ "\"\\u0102\\uD83D\"" ∷ "\"\\u0000A\"" ∷ "\"A\\u0000\"" ∷ "\"A\"" ∷ [])
unfolding open_tables
strings = refl

-- no last unit, an odd number of bytes, a last unit that is not zero, units that are cut off or too
-- many, a number below zero or turned
no_strings : streams_among (map codes ("020800" ∷ "0208010000" ∷ "020803004100" ∷ "020803000000" ∷ "0208020041" ∷ "0208020100" ∷ "0208020001" ∷ "02080400410001" ∷ "0208040041" ∷ "020804004100" ∷ "020802000000" ∷ "0208FFFFFFFFFE0000" ∷ "0208FF0400000000410000" ∷ [])) ≡ []
unfolding open_tables
no_strings = refl

string_units : decoded (2 ∷ 8 ∷ 6 ∷ 1 ∷ 2 ∷ 216 ∷ 61 ∷ 0 ∷ 0 ∷ []) ≡ Ok (record { nodes = Str (258 ∷ 55357 ∷ []) ∷ []; root = At 0 })
unfolding open_tables
string_units = refl

-- ---- binaries

-- the number of bytes, the class, the bytes
binaries : map shown (map codes ("020300070162" ∷ "0203020701620A0B" ∷ "0203FF000000010701620A" ∷ []))
    ≡ map codes ("<b:>" ∷ "<b:0A0B>" ∷ "<b:0A>" ∷ [])
unfolding open_tables
binaries = refl

-- bytes that are cut off or too many, a number below zero or turned
no_binaries : streams_among (map codes ("0203020701620A" ∷ "0203010701620A0B" ∷ "0203FFFFFFFFFF070162" ∷ "0203FF010000000701620A" ∷ [])) ≡ []
unfolding open_tables
no_binaries = refl

-- ---- large binaries: the class, the flag, the lengths of the data, of the compander's name and
-- of its parameters, a number that is reserved

-- Name, parameters and the reserved number are dropped.
large_binaries : map shown (map codes ("020C0701770000000003000000000000000000000000414243" ∷ "020C0701770000000000000000000000000000000000" ∷ "020C07017700000000030000000100000002010203046E7071414243" ∷ "020C07017700000000010000000200000000FFFFFFFF6E6E41" ∷ "020C0701770000000001000000000000000200000000707041" ∷ "020C07017701000000030000000100000002010203046E7071414243" ∷ "020C070177FF00000000000000000000000000000000" ∷ "0205020C07017700000000000000000000000000000000000C0701770100000000000000000000000000000000" ∷ []))
    ≡ map codes ("<<w:414243>>" ∷ "<<w:>>" ∷ "<<w:414243>>" ∷ "<<w:41>>" ∷ "<<w:41>>" ∷ "compressed" ∷ "compressed" ∷ "compressed" ∷ [])
unfolding open_tables
large_binaries = refl

-- data, name or parameters that are cut off or too many, whatever the flag; lengths with their
-- bytes turned or without a sign
no_large_binaries : streams_among (map codes ("020C07017700000000030000000000000000000000004142" ∷ "020C07017700000000010000000000000000000000004142" ∷ "020C070177000000000100000001000000000000000041" ∷ "020C070177000000000100000000000000010000000041" ∷ "020C07017701000000030000000000000000000000004142" ∷ "020C07017701000000010000000000000000000000004142" ∷ "020C0701770000000001FFFFFFFF000000000000000041" ∷ "020C070177000100000000000000000000000000000041" ∷ "020C07017700FFFFFFFF00000000000000000000000041" ∷ "020C07017700000000000000000000000000000000" ∷ "020C070177" ∷ "020C07017701" ∷ [])) ≡ []
unfolding open_tables
no_large_binaries = refl

-- ---- limits

-- so many containers within one another, and then an object
abbrev within : ℕ → List ℕ → List ℕ → List ℕ
within n opening inner = 2 ∷ (repeated n opening ++ inner)

two_hundred_arrays : is_malformed (decoded (within 199 (5 ∷ 1 ∷ []) (5 ∷ 0 ∷ []))) ≡ false
unfolding open_tables
two_hundred_arrays = refl

another_array : is_malformed (decoded (within 200 (5 ∷ 1 ∷ []) (5 ∷ 0 ∷ []))) ≡ true
unfolding open_tables
another_array = refl

two_hundred_frames : is_malformed (decoded (within 199 (6 ∷ 1 ∷ 7 ∷ 1 ∷ 97 ∷ []) (6 ∷ 0 ∷ []))) ≡ false
unfolding open_tables
two_hundred_frames = refl

another_frame : is_malformed (decoded (within 200 (6 ∷ 1 ∷ 7 ∷ 1 ∷ 97 ∷ []) (6 ∷ 0 ∷ []))) ≡ true
unfolding open_tables
another_frame = refl

-- a small rectangle counts as one, a string does not
rectangle_within : is_malformed (decoded (within 199 (5 ∷ 1 ∷ []) (11 ∷ 1 ∷ 2 ∷ 3 ∷ 4 ∷ []))) ≡ false
unfolding open_tables
rectangle_within = refl

another_rectangle : is_malformed (decoded (within 200 (5 ∷ 1 ∷ []) (11 ∷ 1 ∷ 2 ∷ 3 ∷ 4 ∷ []))) ≡ true
unfolding open_tables
another_rectangle = refl

string_within : is_malformed (decoded (within 200 (5 ∷ 1 ∷ []) (8 ∷ 2 ∷ 0 ∷ 0 ∷ []))) ≡ false
unfolding open_tables
string_within = refl

-- the bytes that a number or a name takes, and any others after them
four_follow : (rest : ℕ) → nat_lt (suc (suc (suc (suc rest)))) 4 ≡ false
four_follow rest = grind arith

name_follows : (rest : ℕ) → nat_lt (suc rest) 1 ≡ false
name_follows rest = grind arith

-- 65,536 slots are refused whatever follows, and so are 1,000,002 bytes of a string and 1,000,001
-- of a binary or a large binary.
array_of_65536 : (rest : List ℕ) → graph_at true (2 ∷ 5 ∷ 255 ∷ 0 ∷ 1 ∷ 0 ∷ 0 ∷ rest) ≡ None
unfolding open_tables
array_of_65536 rest = rw (four_follow _) refl

classed_array_of_65536 : (rest : List ℕ) → graph_at true (2 ∷ 4 ∷ 255 ∷ 0 ∷ 1 ∷ 0 ∷ 0 ∷ rest) ≡ None
unfolding open_tables
classed_array_of_65536 rest = rw (four_follow _) refl

frame_of_65536 : (rest : List ℕ) → graph_at true (2 ∷ 6 ∷ 255 ∷ 0 ∷ 1 ∷ 0 ∷ 0 ∷ rest) ≡ None
unfolding open_tables
frame_of_65536 rest = rw (four_follow _) refl

string_of_1000002 : (rest : List ℕ) → graph_at true (2 ∷ 8 ∷ 255 ∷ 0 ∷ 15 ∷ 66 ∷ 66 ∷ rest) ≡ None
unfolding open_tables
string_of_1000002 rest = rw (four_follow _) refl

binary_of_1000001 : (rest : List ℕ) → graph_at true (2 ∷ 3 ∷ 255 ∷ 0 ∷ 15 ∷ 66 ∷ 65 ∷ rest) ≡ None
unfolding open_tables
binary_of_1000001 rest = rw (four_follow _) refl

large_binary_of_1000001 : (rest : List ℕ) → graph_at true (2 ∷ 12 ∷ 7 ∷ 1 ∷ 119 ∷ 0 ∷ 0 ∷ 15 ∷ 66 ∷ 65 ∷ rest) ≡ None
unfolding open_tables
large_binary_of_1000001 rest = rw (name_follows _, four_follow _) refl

-- ---- what is written

-- the shortest number; nil and characters by their own tags
written_words : map streamed (map codes ("63" ∷ "&000000FE" ∷ "&000000FF" ∷ "64" ∷ "0" ∷ "-1" ∷ "536870911" ∷ "-536870912" ∷ "nil" ∷ "true" ∷ "&00000003" ∷ "&FFFFFFFF" ∷ "$A" ∷ "$\\0000" ∷ "$\\007F" ∷ "$\\0080" ∷ "$\\00FF" ∷ "$\\0100" ∷ "$\\4102" ∷ "$\\FFFF" ∷ "&00100006" ∷ []))
    ≡ map codes ("0200FC" ∷ "0200FE" ∷ "0200FF000000FF" ∷ "0200FF00000100" ∷ "020000" ∷ "0200FFFFFFFFFC" ∷ "0200FF7FFFFFFC" ∷ "0200FF80000000" ∷ "020A" ∷ "02001A" ∷ "020003" ∷ "0200FFFFFFFFFF" ∷ "020141" ∷ "020100" ∷ "02017F" ∷ "020180" ∷ "0201FF" ∷ "02020100" ∷ "02024102" ∷ "0202FFFF" ∷ "0200FF00100006" ∷ [])
unfolding open_tables
written_words = refl

-- a node in full where it is met first, and by its number afterwards; no compander
written_objects : map streamed (map codes ("{a: 1}" ∷ "{a: 1, b: 2}" ∷ "[1, 2]" ∷ "[c: 1, nil]" ∷ "[]" ∷ "[c:]" ∷ "\"\"" ∷ "\"A\"" ∷ "\"\\u0102\\uD83D\"" ∷ "'abc" ∷ "<b:0A0B>" ∷ "<<w:414243>>" ∷ "{top: 1, left: 2, bottom: 3, right: 4}" ∷ "{self: 1}" ∷ "#0={self: #0#}" ∷ "[#1=\"A\", #1#]" ∷ "['Foo, 'foo]" ∷ "['a, 'A, #1=\"x\", #1#]" ∷ "[c: 'c, {c: 'c}]" ∷ "[#1=<b:>, 'b, #1#]" ∷ []))
    ≡ map codes ("0206010701610004" ∷ "02060207016107016200040008" ∷ "02050200040008" ∷ "02040207016300040A" ∷ "020500" ∷ "020400070163" ∷ "0208020000" ∷ "02080400410000" ∷ "0208060102D83D0000" ∷ "020703616263" ∷ "0203020701620A0B" ∷ "020C0701770000000003000000000000000000000000414243" ∷ "020B01020304" ∷ "020601070473656C660004" ∷ "020601070473656C660900" ∷ "0205020804004100000901" ∷ "0205020703466F6F0901" ∷ "02050407016109010804007800000902" ∷ "0204020701630901060109010901" ∷ "020503030007016209020901" ∷ [])
unfolding open_tables
written_objects = refl

-- the number of bytes of 126 and of 127 units
short_count : take 5 (nsof (record { nodes = Str (replicate 126 65) ∷ []; root = At 0 })) ≡ 2 ∷ 8 ∷ 254 ∷ 0 ∷ 65 ∷ []
unfolding open_tables
short_count = refl

long_count : take 9 (nsof (record { nodes = Str (replicate 127 65) ∷ []; root = At 0 })) ≡ 2 ∷ 8 ∷ 255 ∷ 0 ∷ 0 ∷ 1 ∷ 0 ∷ 0 ∷ 65 ∷ []
unfolding open_tables
long_count = refl

units_high_first : units_text (258 ∷ 55357 ∷ []) ≡ 1 ∷ 2 ∷ 216 ∷ 61 ∷ []
units_high_first = refl

-- ---- skeletons and lengths

-- Large binaries lose their bytes, and nothing else is lost.
bare_wave : skeleton (record { nodes = Array (Some 1) (At 2 ∷ At 3 ∷ At 5 ∷ Imm (pos 4) ∷ []) ∷ Symbol (codes "c") ∷ Str (65 ∷ []) ∷ Large 4 (1 ∷ 2 ∷ 3 ∷ []) ∷ Symbol (codes "w") ∷ Binary 4 (1 ∷ 2 ∷ []) ∷ []; root = At 0 })
    ≡ record { nodes = Array (Some 1) (At 2 ∷ At 3 ∷ At 5 ∷ Imm (pos 4) ∷ []) ∷ Symbol (codes "c") ∷ Str (65 ∷ []) ∷ Large 4 [] ∷ Symbol (codes "w") ∷ Binary 4 (1 ∷ 2 ∷ []) ∷ []; root = At 0 }
bare_wave = refl

-- each of these nodes, with precedents for all that it refers to
lengths : map node_len (Symbol (codes "ab") ∷ Str (65 ∷ []) ∷ Str [] ∷ Binary 1 (7 ∷ 8 ∷ []) ∷ Large 1 (7 ∷ 8 ∷ 9 ∷ []) ∷ Array None (Imm (pos 2) ∷ Imm (pos 4) ∷ []) ∷ Array (Some 1) (At 1 ∷ []) ∷ Frame (1 ∷ []) (Imm (pos 4) ∷ []) ∷ Frame (255 ∷ []) (Imm (pos 2) ∷ []) ∷ [])
    ≡ 4 ∷ 6 ∷ 4 ∷ 6 ∷ 23 ∷ 5 ∷ 6 ∷ 6 ∷ 9 ∷ []
unfolding open_tables
lengths = refl

shorter_array : node_len (Array None (replicate 254 (Imm (pos 2)))) ≡ 256
unfolding open_tables
shorter_array = refl

longer_array : node_len (Array None (replicate 255 (Imm (pos 2)))) ≡ 261
unfolding open_tables
longer_array = refl

-- The numbers 0 to 254 have one byte, and 255 has five.
precedents : map agains_len (0 ∷ 1 ∷ 3 ∷ 255 ∷ 256 ∷ []) ≡ 0 ∷ 2 ∷ 6 ∷ 510 ∷ 516 ∷ []
unfolding agains_len
precedents = refl
