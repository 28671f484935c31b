-- Literals, worked by hand: which texts are one, and of what. What is read is what the grammar has
-- (newt_lit_read), so these are rows of it too.
use Rattle.std.proofs.Common.{◌≡◌, refl, true, false, [], ◌∷◌, ◌++◌, map, replicate, codes, negsuc}
use Rattle.std.specs.Prelude.{Ok}
use Rattle.newt_graph.specs.declared.node.Node.TheVariants.{Str}
use Rattle.newt_graph.specs.declared.node.Ref.TheVariants.{Imm, Node as At}
use Rattle.newt_spec_literal.specs.Words.{is_blank, is_quoted, is_shown, units_of}
use Rattle.newt_lit_read.specs.Literal.{literal_read}
use Rattle.newt_test_definitions.specs.Formats.{is_literal, literals_among, printed, repeated}
use Rattle.newt_test_definitions.proofs.Tables.{open_tables}

-- ---- the whole text, and blanks

-- Spaces, tabs, carriage returns and newlines stand around the whole and between tokens.
blanks : map printed (map codes (" \t\r\nnil \t\r\n" ∷ "\r1" ∷ "[\r1\t,\n2 \r]" ∷ "{ a : 1 , b\r:\t2 }" ∷ "[ c : 1 ]" ∷ "[ c : ]" ∷ "[ ]" ∷ "{ }" ∷ "#1= []" ∷ "[#1=[] , #1# ]" ∷ []))
    ≡ map codes ("nil" ∷ "1" ∷ "[1, 2]" ∷ "{a: 1, b: 2}" ∷ "[c: 1]" ∷ "[c:]" ∷ "[]" ∷ "{}" ∷ "[]" ∷ "[#0=[], #0#]" ∷ [])
unfolding open_tables
blanks = refl

-- nothing, two values, a mark too many, and what is no blank
no_texts : literals_among (map codes ("" ∷ " " ∷ "nil nil" ∷ "1,2" ∷ "[1]]" ∷ "{a: 1}}" ∷ "[1" ∷ "{a: 1" ∷ "]" ∷ "}" ∷ "," ∷ ":" ∷ "#" ∷ "\\" ∷ "|a|" ∷ "a" ∷ "nil\\" ∷ [])) ≡ []
unfolding open_tables
no_texts = refl

form_feed : map is_blank (32 ∷ 9 ∷ 10 ∷ 13 ∷ 11 ∷ 12 ∷ 0 ∷ 160 ∷ 33 ∷ []) ≡ true ∷ true ∷ true ∷ true ∷ false ∷ false ∷ false ∷ false ∷ false ∷ []
form_feed = refl

form_feed_within : is_literal (91 ∷ 12 ∷ 93 ∷ []) ≡ false
unfolding open_tables
form_feed_within = refl

-- No blank stands inside a token.
blanks_within_tokens : literals_among (map codes ("- 1" ∷ "1 2" ∷ "n il" ∷ "$ A" ∷ "$\\00 41" ∷ "& 00000002" ∷ "&0000 0002" ∷ "' a" ∷ "< b:0A>" ∷ "<b :0A>" ∷ "<b: 0A>" ∷ "<b:0A >" ∷ "<b:0A 0B>" ∷ "<<b:*2 >>" ∷ "<<b:* 2>>" ∷ "<<b: *2>>" ∷ "< <b:00>>" ∷ "<<b:00> >" ∷ "<<b :00>>" ∷ "# 1=[]" ∷ "#1 =[]" ∷ "[#1=[], #1 #]" ∷ "[#1=[], # 1#]" ∷ "'|a| |b|" ∷ [])) ≡ []
unfolding open_tables
blanks_within_tokens = refl

-- ---- integers

-- 1 to 10 digits, after one minus sign or none
integers : map printed (map codes ("0" ∷ "1" ∷ "007" ∷ "-0" ∷ "-1" ∷ "536870911" ∷ "0536870911" ∷ "-536870912" ∷ "-0536870912" ∷ "0000000001" ∷ []))
    ≡ map codes ("0" ∷ "1" ∷ "7" ∷ "0" ∷ "-1" ∷ "536870911" ∷ "536870911" ∷ "-536870912" ∷ "-536870912" ∷ "1" ∷ [])
unfolding open_tables
integers = refl

-- numbers out of range, 11 digits, other signs and digits
no_integers : literals_among (map codes ("536870912" ∷ "-536870913" ∷ "9999999999" ∷ "00000000001" ∷ "-00000000001" ∷ "-" ∷ "--1" ∷ "+1" ∷ "1.0" ∷ "1x" ∷ "0x1" ∷ "1-" ∷ "-a" ∷ "1_0" ∷ [])) ≡ []
unfolding open_tables
no_integers = refl

integer_word : literal_read (codes "-1") ≡ Ok (record { nodes = []; root = Imm (negsuc 3) })
unfolding open_tables
integer_word = refl

-- ---- nil, true, characters and words

-- nil and true in lower case; elsewhere these words are names
words : map printed (map codes ("nil" ∷ "true" ∷ "'nil" ∷ "'true" ∷ "[nil: nil]" ∷ "{true: true}" ∷ "[nil]" ∷ "[true]" ∷ []))
    ≡ map codes ("nil" ∷ "true" ∷ "'nil" ∷ "'true" ∷ "[nil: nil]" ∷ "{true: true}" ∷ "[nil]" ∷ "[true]" ∷ [])
unfolding open_tables
words = refl

-- another case, and other words
no_words : literals_among (map codes ("NIL" ∷ "Nil" ∷ "TRUE" ∷ "True" ∷ "nils" ∷ "niltrue" ∷ "false" ∷ "abc" ∷ "[a]" ∷ "{a: b}" ∷ "[a, b]" ∷ [])) ≡ []
unfolding open_tables
no_words = refl

-- a dollar sign and a character from 33 to 126, or four digits of either case
characters : map printed (map codes ("$A" ∷ "$!" ∷ "$~" ∷ "$$" ∷ "$\"" ∷ "$'" ∷ "$]" ∷ "[$,,$]]" ∷ "$\\0000" ∷ "$\\0020" ∷ "$\\005C" ∷ "$\\007F" ∷ "$\\00e9" ∷ "$\\0041" ∷ "$\\FFFF" ∷ []))
    ≡ map codes ("$A" ∷ "$!" ∷ "$~" ∷ "$$" ∷ "$\"" ∷ "$'" ∷ "$]" ∷ "[$,, $]]" ∷ "$\\0000" ∷ "$\\0020" ∷ "$\\005C" ∷ "$\\007F" ∷ "$\\00E9" ∷ "$A" ∷ "$\\FFFF" ∷ [])
unfolding open_tables
characters = refl

-- no character, a space, a backslash, other numbers of digits, two characters
no_characters : literals_among (map codes ("$" ∷ "$ " ∷ "$\\" ∷ "$\\\\" ∷ "$\\004" ∷ "$\\00411" ∷ "$\\00G0" ∷ "$AB" ∷ "$\t" ∷ [])) ≡ []
unfolding open_tables
no_characters = refl

shown_alone : map is_shown (32 ∷ 33 ∷ 91 ∷ 92 ∷ 93 ∷ 126 ∷ 127 ∷ 233 ∷ []) ≡ false ∷ true ∷ true ∷ false ∷ true ∷ true ∷ false ∷ false ∷ []
shown_alone = refl

delete_is_not_shown : is_literal (36 ∷ 127 ∷ []) ≡ false
unfolding open_tables
delete_is_not_shown = refl

-- eight digits of a word, of either case; it prints in the first form that fits it
immediates : map printed (map codes ("&00000002" ∷ "&0000001A" ∷ "&0000001a" ∷ "&00000416" ∷ "&00000004" ∷ "&FFFFFFFC" ∷ "&80000000" ∷ "&00000003" ∷ "&00000007" ∷ "&FFFFFFFF" ∷ "&FFFFFFFE" ∷ "&0000000A" ∷ "&00100006" ∷ "&000FFFF6" ∷ []))
    ≡ map codes ("nil" ∷ "true" ∷ "true" ∷ "$A" ∷ "1" ∷ "-1" ∷ "-536870912" ∷ "&00000003" ∷ "&00000007" ∷ "&FFFFFFFF" ∷ "&FFFFFFFE" ∷ "&0000000A" ∷ "&00100006" ∷ "$\\FFFF" ∷ [])
unfolding open_tables
immediates = refl

-- the low bits 01 of a pointer, and other numbers of digits
no_immediates : literals_among (map codes ("&00000001" ∷ "&00000005" ∷ "&FFFFFFFD" ∷ "&80000001" ∷ "&0000000" ∷ "&000000020" ∷ "&" ∷ "&0000000G" ∷ "&-0000002" ∷ [])) ≡ []
unfolding open_tables
no_immediates = refl

-- ---- symbols

-- an identifier, or 1 to 254 bytes between bars
symbols : map printed (map codes ("'a" ∷ "'_" ∷ "'a1_B" ∷ "'|a|" ∷ "'|1a|" ∷ "'| |" ∷ "'|a b|" ∷ "'|~|" ∷ "'|a\\|b|" ∷ "'|\\\\|" ∷ "'|_|" ∷ []))
    ≡ map codes ("'a" ∷ "'_" ∷ "'a1_B" ∷ "'a" ∷ "'|1a|" ∷ "'| |" ∷ "'|a b|" ∷ "'|~|" ∷ "'|a\\|b|" ∷ "'|\\\\|" ∷ "'_" ∷ [])
unfolding open_tables
symbols = refl

-- no name, a digit first, other escapes, a bar that is not closed, bytes below 32 and above 126
no_symbols : literals_among (map codes ("'" ∷ "'1a" ∷ "'||" ∷ "'|a" ∷ "'|a\\b|" ∷ "'|a\\|" ∷ "'|a|b" ∷ "'a-b" ∷ "''a" ∷ "'|\t|" ∷ "'|é|" ∷ "'é" ∷ "'a'" ∷ "'\"a\"" ∷ [])) ≡ []
unfolding open_tables
no_symbols = refl

bytes_between_bars : map is_literal ((39 ∷ 124 ∷ 31 ∷ 124 ∷ []) ∷ (39 ∷ 124 ∷ 32 ∷ 124 ∷ []) ∷ (39 ∷ 124 ∷ 126 ∷ 124 ∷ []) ∷ (39 ∷ 124 ∷ 127 ∷ 124 ∷ []) ∷ []) ≡ false ∷ true ∷ true ∷ false ∷ []
unfolding open_tables
bytes_between_bars = refl

longest_names : map is_literal ((39 ∷ replicate 254 97) ∷ (39 ∷ 124 ∷ (replicate 254 32 ++ 124 ∷ [])) ∷ (60 ∷ (replicate 254 97 ++ 58 ∷ 62 ∷ [])) ∷ []) ≡ true ∷ true ∷ true ∷ []
unfolding open_tables
longest_names = refl

names_too_long : literals_among ((39 ∷ replicate 255 97) ∷ (39 ∷ 124 ∷ (replicate 255 32 ++ 124 ∷ [])) ∷ (60 ∷ (replicate 255 97 ++ 58 ∷ 62 ∷ [])) ∷ (91 ∷ (replicate 255 97 ++ 58 ∷ 93 ∷ [])) ∷ (123 ∷ (replicate 255 97 ++ codes ": 1}")) ∷ []) ≡ []
unfolding open_tables
names_too_long = refl

-- Names that are alike but for case are one symbol, with the spelling that the text has first.
one_symbol : map printed (map codes ("['Foo, 'Foo]" ∷ "['Foo, 'foo, 'FOO]" ∷ "{A: 1, B: 'a}" ∷ "[c: 'C]" ∷ "{a: 'X, x: 1}" ∷ "['|A b|, '|a B|]" ∷ "[<B:>, <<b:>>]" ∷ []))
    ≡ map codes ("['Foo, 'Foo]" ∷ "['Foo, 'Foo, 'Foo]" ∷ "{A: 1, B: 'A}" ∷ "[c: 'c]" ∷ "{a: 'X, X: 1}" ∷ "['|A b|, '|A b|]" ∷ "[<B:>, <<B:>>]" ∷ [])
unfolding open_tables
one_symbol = refl

-- ---- strings

-- characters from 32 on; a quote and a backslash after a backslash; a unit by four digits
strings : map printed (map codes ("\"\"" ∷ "\"A\"" ∷ "\" ~\"" ∷ "\"\\\"\\\\\"" ∷ "\"\\u0041\\u00e9\"" ∷ "\"é\"" ∷ "\"\\u0000\"" ∷ "\"\\uD83D\"" ∷ "\"😀\"" ∷ "\"'|[{,\"" ∷ []))
    ≡ map codes ("\"\"" ∷ "\"A\"" ∷ "\" ~\"" ∷ "\"\\\"\\\\\"" ∷ "\"A\\u00E9\"" ∷ "\"\\u00E9\"" ∷ "\"\\u0000\"" ∷ "\"\\uD83D\"" ∷ "\"\\uD83D\\uDE00\"" ∷ "\"'|[{,\"" ∷ [])
unfolding open_tables
strings = refl

-- a string that is not closed, other escapes, other numbers of digits, and bytes below 32
no_strings : literals_among (map codes ("\"" ∷ "\"a" ∷ "\"\\\"" ∷ "\"\\n\"" ∷ "\"\\u\"" ∷ "\"\\u004\"" ∷ "\"\\u00G1\"" ∷ "\"\\U0041\"" ∷ "\"\\\\\\\"" ∷ "\"a\"b" ∷ "\"\t\"" ∷ "\"\n\"" ∷ [])) ≡ []
unfolding open_tables
no_strings = refl

in_a_string : map is_quoted (31 ∷ 32 ∷ 33 ∷ 34 ∷ 92 ∷ 127 ∷ 65535 ∷ 65536 ∷ 1114111 ∷ 1114112 ∷ []) ≡ false ∷ true ∷ true ∷ false ∷ false ∷ true ∷ true ∷ true ∷ true ∷ false ∷ []
in_a_string = refl

-- A character above 65,535 is two units: ten bits of what is left without 65,536 stand in each.
pairs : map units_of (65 ∷ 65535 ∷ 65536 ∷ 66563 ∷ 67588 ∷ 128512 ∷ 1114111 ∷ [])
    ≡ (65 ∷ []) ∷ (65535 ∷ []) ∷ (0xD800 ∷ 0xDC00 ∷ []) ∷ (0xD801 ∷ 0xDC03 ∷ []) ∷ (0xD802 ∷ 0xDC04 ∷ []) ∷ (0xD83D ∷ 0xDE00 ∷ []) ∷ (0xDBFF ∷ 0xDFFF ∷ []) ∷ []
pairs = refl

string_of_a_pair : literal_read (34 ∷ 128512 ∷ 34 ∷ []) ≡ Ok (record { nodes = Str (0xD83D ∷ 0xDE00 ∷ []) ∷ []; root = At 0 })
unfolding open_tables
string_of_a_pair = refl

-- ---- binaries

-- a name, a colon and an even number of digits of either case
binaries : map printed (map codes ("<b:>" ∷ "<b:0a>" ∷ "<b:0A0B>" ∷ "<|a b|:00>" ∷ "<|b|:00>" ∷ "<<w:>>" ∷ "<<w:0a>>" ∷ "<<|a b|:FF>>" ∷ []))
    ≡ map codes ("<b:>" ∷ "<b:0A>" ∷ "<b:0A0B>" ∷ "<|a b|:00>" ∷ "<b:00>" ∷ "<<w:>>" ∷ "<<w:0A>>" ∷ "<<|a b|:FF>>" ∷ [])
unfolding open_tables
binaries = refl

-- no name, no colon, an odd number of digits, other digits, brackets that do not fit
no_binaries : literals_among (map codes ("<" ∷ "<>" ∷ "<:>" ∷ "<b>" ∷ "<b" ∷ "<b:" ∷ "<b:0>" ∷ "<b:0A0>" ∷ "<b:0G>" ∷ "<b:00" ∷ "<b:00>>" ∷ "<1:00>" ∷ "<'b:00>" ∷ "<<w:00>" ∷ "<<w:0>>" ∷ "<<w>>" ∷ "<<:>>" ∷ "<<w:00" ∷ "<<<w:00>>>" ∷ "<b:*2>" ∷ [])) ≡ []
unfolding open_tables
no_binaries = refl

-- so many bytes of zero: 1 to 7 digits
zeros : map printed (map codes ("<<w:*0>>" ∷ "<<w:*2>>" ∷ "<<w:*0000002>>" ∷ []))
    ≡ map codes ("<<w:>>" ∷ "<<w:0000>>" ∷ "<<w:0000>>" ∷ [])
unfolding open_tables
zeros = refl

-- no digits, eight digits, a number above 1,000,000, and other marks
no_zeros : literals_among (map codes ("<<w:*>>" ∷ "<<w:*00000002>>" ∷ "<<w:*1000001>>" ∷ "<<w:*9999999>>" ∷ "<<w:*-1>>" ∷ "<<w:*2" ∷ "<<w:*2>" ∷ "<<w:*2A>>" ∷ "<<w:00*2>>" ∷ "<<w:**2>>" ∷ [])) ≡ []
unfolding open_tables
no_zeros = refl

-- ---- arrays and frames

-- A name is a class exactly where a colon follows it.
arrays : map printed (map codes ("[]" ∷ "[1]" ∷ "[1,2]" ∷ "[c:]" ∷ "[c:1]" ∷ "[c:1,2]" ∷ "[|a b|: 1]" ∷ "[[], [[]]]" ∷ "['c]" ∷ "[c: 'c]" ∷ "[{}, \"\", <b:>, <<w:>>, 1, nil, $A, 'a]" ∷ []))
    ≡ map codes ("[]" ∷ "[1]" ∷ "[1, 2]" ∷ "[c:]" ∷ "[c: 1]" ∷ "[c: 1, 2]" ∷ "[|a b|: 1]" ∷ "[[], [[]]]" ∷ "['c]" ∷ "[c: 'c]" ∷ "[{}, \"\", <b:>, <<w:>>, 1, nil, $A, 'a]" ∷ [])
unfolding open_tables
arrays = refl

-- commas stand between values alone
no_arrays : literals_among (map codes ("[1 2]" ∷ "[1,]" ∷ "[,1]" ∷ "[1,,2]" ∷ "[,]" ∷ "[c:,1]" ∷ "[c:1,]" ∷ "[c: d: 1]" ∷ "[c::1]" ∷ "[:1]" ∷ "['c: 1]" ∷ "[1: 2]" ∷ "[c]" ∷ "(1)" ∷ "[1}" ∷ "[\"c\": 1]" ∷ [])) ≡ []
unfolding open_tables
no_arrays = refl

-- slots with distinct tags
frames : map printed (map codes ("{}" ∷ "{a:1}" ∷ "{a:1,b:2}" ∷ "{|a b|: 1}" ∷ "{|a|: 1}" ∷ "{a: {a: 1}}" ∷ "{a: nil}" ∷ "{a: 'a}" ∷ []))
    ≡ map codes ("{}" ∷ "{a: 1}" ∷ "{a: 1, b: 2}" ∷ "{|a b|: 1}" ∷ "{a: 1}" ∷ "{a: {a: 1}}" ∷ "{a: nil}" ∷ "{a: 'a}" ∷ [])
unfolding open_tables
frames = refl

-- tags that are alike but for case, no value, no colon, commas elsewhere, and what is no name
no_frames : literals_among (map codes ("{a:1,a:2}" ∷ "{a:1,A:2}" ∷ "{a:1,|A|:2}" ∷ "{a:1,b:2,a:3}" ∷ "{a 1}" ∷ "{a}" ∷ "{a:}" ∷ "{a:1,}" ∷ "{,a:1}" ∷ "{a:1 b:2}" ∷ "{a:1,,b:2}" ∷ "{1:1}" ∷ "{'a:1}" ∷ "{\"a\":1}" ∷ "{:1}" ∷ "{a::1}" ∷ "{a:1]" ∷ "{c: a:1}" ∷ "{1}" ∷ [])) ≡ []
unfolding open_tables
no_frames = refl

-- ---- labels

-- a label of 1 to 5 digits before an object that is no symbol; it prints where the object is met
-- more than once
labels : map printed (map codes ("#1=\"x\"" ∷ "#0=<b:>" ∷ "#99999=<<w:>>" ∷ "#1=[]" ∷ "#1={}" ∷ "#3={me: #3#}" ∷ "#00001=[#1#]" ∷ "[#1=\"x\", #1#]" ∷ "[\"x\",\"x\"]" ∷ "[#1=[#2=[]], #2#, #1#]" ∷ "[#2=[], #1=[], #1#, #2#, #1#]" ∷ "[#5=[], #6=[], #6#]" ∷ "{a: #1={x: 1}, b: #1#}" ∷ "[#1=<b:00>, #1#, #2=<<w:00>>, #2#]" ∷ []))
    ≡ map codes ("\"x\"" ∷ "<b:>" ∷ "<<w:>>" ∷ "[]" ∷ "{}" ∷ "#0={me: #0#}" ∷ "#0=[#0#]" ∷ "[#0=\"x\", #0#]" ∷ "[\"x\", \"x\"]" ∷ "[#0=[#1=[]], #1#, #0#]" ∷ "[#0=[], #1=[], #1#, #0#, #1#]" ∷ "[[], #0=[], #0#]" ∷ "{a: #0={x: 1}, b: #0#}" ∷ "[#0=<b:00>, #0#, #1=<<w:00>>, #1#]" ∷ [])
unfolding open_tables
labels = refl

-- labels before immediates, symbols and labels; a label that is given twice, not yet or never; six
-- digits or none
no_labels : literals_among (map codes ("#1=5" ∷ "#1=nil" ∷ "#1=true" ∷ "#1=$A" ∷ "#1=&00000002" ∷ "#1='a" ∷ "#1=#2=[]" ∷ "#1=#1#" ∷ "[#1=[], #1=[]]" ∷ "[#1=[], #01=[]]" ∷ "#1=[#1=[]]" ∷ "[#1#, #1=[]]" ∷ "#1#" ∷ "[#1=[], #2#]" ∷ "#000001=[]" ∷ "#=[]" ∷ "#a=[]" ∷ "#-1=[]" ∷ "#1=" ∷ "#1" ∷ "#1[]" ∷ "#1==[]" ∷ "[#1=[], #1]" ∷ "{#1=a: 1}" ∷ "#1=,[]" ∷ [])) ≡ []
unfolding open_tables
no_labels = refl

-- ---- limits

two_hundred_arrays : is_literal (replicate 200 91 ++ replicate 200 93) ≡ true
unfolding open_tables
two_hundred_arrays = refl

another_array : is_literal (replicate 201 91 ++ replicate 201 93) ≡ false
unfolding open_tables
another_array = refl

two_hundred_frames : is_literal (repeated 199 (codes "{a:") ++ (codes "{}" ++ replicate 199 125)) ≡ true
unfolding open_tables
two_hundred_frames = refl

another_frame : is_literal (repeated 200 (codes "{a:") ++ (codes "{}" ++ replicate 200 125)) ≡ false
unfolding open_tables
another_frame = refl

string_within : is_literal (replicate 200 91 ++ (codes "\"x\"" ++ replicate 200 93)) ≡ true
unfolding open_tables
string_within = refl
