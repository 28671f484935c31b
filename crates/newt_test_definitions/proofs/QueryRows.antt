-- Queries, worked by hand: which frames have their form, the keys that values are, ranges, tags,
-- words and texts.
use Rattle.std.proofs.Common.{◌≡◌, refl, ℕ, List, [], ◌∷◌, true, false, map, replicate, codes, Option, Some, None, pos, negsuc}
use Rattle.std.specs.Prelude.{Bool, option_map}
use Rattle.std.specs.declared.cmp.Ordering.{Ordering}
use Rattle.std.specs.declared.cmp.Ordering.TheVariants.{Less, Equal, Greater}
use Rattle.newt_graph.specs.Graph.{RawGraph}
use Rattle.newt_spec_store.specs.declared.Kind.{Kind}
use Rattle.newt_spec_store.specs.declared.Kind.TheVariants as kind
use Rattle.newt_spec_store.specs.declared.Order.{Order}
use Rattle.newt_spec_store.specs.declared.Order.TheVariants as order
use Rattle.newt_spec_store.specs.Keys.{IndexSpec, IndexPart, Key, missing, words, whole, letter, name, key_cmp}
use Rattle.newt_spec_store.specs.Store.{Soup, TagTable, new_store}
use Rattle.newt_spec_query.specs.Hits.{above, below, carries, in_scope, text_passes}
use Rattle.newt_spec_query.specs.Spec.{Bound, unbounded, including, excluding, spec_of}
use Rattle.newt_spec_query.specs.Tags.{TagSpec, tags_of, tags_pass}
use Rattle.newt_base.specs.Words.{has_text, has_word}
use Rattle.newt_test_definitions.specs.Texts.{graph_of, key_from, key_of, others_among, queries_among}
use Rattle.newt_test_definitions.proofs.Tables.{open_tables}

-- ---- the form of a query

-- a frame without slots, or with slots that are nil
any_frame : others_among (map codes ("{}" ∷ "{validTest: nil}" ∷ "{indexPath: nil, beginKey: nil, tagSpec: nil, words: nil, text: nil, entireWords: nil}" ∷ [])) ≡ []
unfolding open_tables
any_frame = refl

-- what is no frame, and a slot of another name
no_frame : queries_among (map codes ("1" ∷ "nil" ∷ "'a" ∷ "\"x\"" ∷ "[]" ∷ "[indexPath: 'k]" ∷ "{validTest: 1}" ∷ "{endTest: 1}" ∷ "{indexValidTest: 1}" ∷ "{x: []}" ∷ "{indexPath: 'k, x: 1}" ∷ [])) ≡ []
unfolding open_tables
no_frame = refl

-- a path is a symbol, or 1 to 8 symbols with the class pathExpr; an index path is one path, or 1 to
-- 4 paths without a class
paths : others_among (map codes ("{indexPath: 'k}" ∷ "{INDEXPATH: 'k}" ∷ "{indexPath: [pathExpr: 'k]}" ∷ "{indexPath: [PathExpr: 'name, 'last]}" ∷ "{indexPath: [pathExpr: 'a, 'b, 'c, 'd, 'e, 'f, 'g, 'h]}" ∷ "{indexPath: ['a]}" ∷ "{indexPath: ['a, 'b, 'c, 'd]}" ∷ "{indexPath: ['a, [pathExpr: 'b, 'c]]}" ∷ [])) ≡ []
unfolding open_tables
paths = refl

-- none, nine symbols, five paths, another class, and what is no symbol
no_paths : queries_among (map codes ("{indexPath: 1}" ∷ "{indexPath: \"k\"}" ∷ "{indexPath: {}}" ∷ "{indexPath: []}" ∷ "{indexPath: [pathExpr:]}" ∷ "{indexPath: [pathExpr: 'a, 'b, 'c, 'd, 'e, 'f, 'g, 'h, 'i]}" ∷ "{indexPath: ['a, 'b, 'c, 'd, 'e]}" ∷ "{indexPath: [path: 'a]}" ∷ "{indexPath: [pathExpr: 'a, 1]}" ∷ "{indexPath: [pathExpr: [pathExpr: 'a]]}" ∷ "{indexPath: ['a, nil]}" ∷ "{indexPath: ['a, ['b]]}" ∷ "{indexPath: ['a, []]}" ∷ [])) ≡ []
unfolding open_tables
no_paths = refl

-- at most one lower and one upper end, beside an index path; their values are looked at with the
-- index
key_slots : others_among (map codes ("{indexPath: 'k, beginKey: 1}" ∷ "{indexPath: 'k, beginExclKey: []}" ∷ "{indexPath: 'k, endKey: {}}" ∷ "{indexPath: 'k, endExclKey: 'a}" ∷ "{indexPath: 'k, beginKey: 1, endKey: 2}" ∷ "{indexPath: 'k, beginExclKey: 1, endExclKey: 2}" ∷ "{indexPath: 'k, beginKey: 1, beginExclKey: nil}" ∷ [])) ≡ []
unfolding open_tables
key_slots = refl

-- two of one end, and one without an index path
no_key_slots : queries_among (map codes ("{indexPath: 'k, beginKey: 1, beginExclKey: 2}" ∷ "{indexPath: 'k, endKey: 1, endExclKey: 2}" ∷ "{beginKey: 1}" ∷ "{beginExclKey: 1}" ∷ "{endKey: 1}" ∷ "{endExclKey: 1}" ∷ "{indexPath: nil, beginKey: 1}" ∷ [])) ≡ []
unfolding open_tables
no_key_slots = refl

-- a frame of the four slots, each a symbol or an array of symbols of any class
tag_specs : others_among (map codes ("{tagSpec: {}}" ∷ "{tagSpec: {equal: 'a}}" ∷ "{tagSpec: {all: ['a, 'b]}}" ∷ "{tagSpec: {any: []}}" ∷ "{tagSpec: {none: [x: 'a]}}" ∷ "{tagSpec: {equal: 'a, all: 'b, any: 'c, none: 'd}}" ∷ "{tagSpec: {equal: nil, other: nil}}" ∷ "{tagSpec: {EQUAL: 'a}}" ∷ [])) ≡ []
unfolding open_tables
tag_specs = refl

-- what is no frame, other slots, and what is no symbol
no_tag_specs : queries_among (map codes ("{tagSpec: 1}" ∷ "{tagSpec: 'a}" ∷ "{tagSpec: []}" ∷ "{tagSpec: {other: 'a}}" ∷ "{tagSpec: {equal: 1}}" ∷ "{tagSpec: {all: \"a\"}}" ∷ "{tagSpec: {any: ['a, 1]}}" ∷ "{tagSpec: {none: ['a, nil]}}" ∷ "{tagSpec: {equal: {}}}" ∷ "{tagSpec: {equal: [['a]]}}" ∷ [])) ≡ []
unfolding open_tables
no_tag_specs = refl

-- a string that is not empty, or an array of such of any class; entireWords is true
word_slots : others_among (map codes ("{words: \"a\"}" ∷ "{words: [\"a\", \"b c\"]}" ∷ "{words: []}" ∷ "{words: [x: \"a\"]}" ∷ "{text: \"a\"}" ∷ "{text: [\"a\"]}" ∷ "{text: []}" ∷ "{text: [x:]}" ∷ "{words: \"a\", text: \"b\", entireWords: true}" ∷ "{entireWords: true}" ∷ [])) ≡ []
unfolding open_tables
word_slots = refl

-- an empty string, and other values
no_word_slots : queries_among (map codes ("{words: \"\"}" ∷ "{words: [\"a\", \"\"]}" ∷ "{words: 'a}" ∷ "{words: 1}" ∷ "{words: ['a]}" ∷ "{words: [\"a\", nil]}" ∷ "{words: {}}" ∷ "{text: \"\"}" ∷ "{text: [\"\"]}" ∷ "{text: true}" ∷ "{text: ['a]}" ∷ "{entireWords: 1}" ∷ "{entireWords: 'true}" ∷ "{entireWords: []}" ∷ [])) ≡ []
unfolding open_tables
no_word_slots = refl

abbrev asked_texts : RawGraph → List (List ℕ) × List (List ℕ) × Bool
asked_texts g = ((spec_of g []).words, (spec_of g []).texts, (spec_of g []).entire)

-- An array without strings counts as missing, and so does a slot that is nil.
texts_asked : option_map asked_texts (graph_of (codes "{words: [], text: [\"aB\", \"C\"], entireWords: nil}")) ≡ Some ([], codes "ab" ∷ codes "c" ∷ [], false)
unfolding open_tables
texts_asked = refl

entire_asked : option_map asked_texts (graph_of (codes "{words: \"aB\", entireWords: true}")) ≡ Some (codes "ab" ∷ [], [], true)
unfolding open_tables
entire_asked = refl

-- ---- key values

abbrev part : List ℕ → Kind → Order → IndexPart
part slot type direction = record { path = slot ∷ []; kind = type; direction = direction }

-- an index of one part, and one of an integer and a string
abbrev one : Kind → IndexSpec
one type = part (codes "k") type order.Ascend ∷ []

abbrev two : IndexSpec
two = part (codes "n") kind.Int order.Ascend ∷ part (codes "s") kind.Text order.Descend ∷ []

integer_keys : map (key_from (one kind.Int)) (map codes ("5" ∷ "-1" ∷ "536870911" ∷ "-536870912" ∷ "nil" ∷ "\"5\"" ∷ "$5" ∷ "[5]" ∷ "&0000000A" ∷ []))
    ≡ Some (whole (pos 5) ∷ []) ∷ Some (whole (negsuc 0) ∷ []) ∷ Some (whole (pos 536870911) ∷ []) ∷ Some (whole (negsuc 536870911) ∷ []) ∷ None ∷ None ∷ None ∷ None ∷ None ∷ []
unfolding open_tables
integer_keys = refl

character_keys : map (key_from (one kind.Char)) (map codes ("$A" ∷ "$\\FFFF" ∷ "65" ∷ "\"A\"" ∷ "true" ∷ "&00100006" ∷ "nil" ∷ []))
    ≡ Some (letter 65 ∷ []) ∷ Some (letter 65535 ∷ []) ∷ None ∷ None ∷ None ∷ None ∷ None ∷ []
unfolding open_tables
character_keys = refl

symbol_keys : map (key_from (one kind.Symbol)) (map codes ("'aB_1" ∷ "'|Ab c|" ∷ "\"a\"" ∷ "['a]" ∷ "nil" ∷ []))
    ≡ Some (name (codes "ab_1") ∷ []) ∷ Some (name (codes "ab c") ∷ []) ∷ None ∷ None ∷ None ∷ []
unfolding open_tables
symbol_keys = refl

-- A string is folded, and half of a pair alone is U+FFFD. The text of the key is UTF-8.
string_keys : map (key_from (one kind.Text)) (map codes ("\"aB\"" ∷ "\"\"" ∷ "\"Stra\\u00DFe\"" ∷ "\"\\uD83D\"" ∷ "\"\\uD83D\\uDE00\"" ∷ "'a" ∷ "5" ∷ "[\"a\"]" ∷ []))
    ≡ Some (words (codes "ab") ∷ []) ∷ Some (words [] ∷ []) ∷ Some (words (codes "strasse") ∷ []) ∷ Some (words (0xEF ∷ 0xBF ∷ 0xBD ∷ []) ∷ []) ∷ Some (words (0xF0 ∷ 0x9F ∷ 0x98 ∷ 0x80 ∷ []) ∷ []) ∷ None ∷ None ∷ None ∷ []
unfolding open_tables
string_keys = refl

-- the first 39 of 40 units
long_string_key : key_from (one kind.Text) (codes "\"aaaaaaaaaaaaaaaaaaaaaaaaaaaaaaaaaaaaaaab\"") ≡ Some (words (replicate 39 97) ∷ [])
unfolding open_tables
long_string_key = refl

-- For two parts: an array without class of one or two values, and the first is there.
keys_of_two : map (key_from two) (map codes ("[1]" ∷ "[1, nil]" ∷ "[1, \"a\"]" ∷ []))
    ≡ Some (whole (pos 1) ∷ missing ∷ []) ∷ Some (whole (pos 1) ∷ missing ∷ []) ∷ Some (whole (pos 1) ∷ words (codes "a") ∷ []) ∷ []
unfolding open_tables
keys_of_two = refl

no_keys_of_two : map (key_from two) (map codes ("1" ∷ "[]" ∷ "[nil]" ∷ "[nil, \"a\"]" ∷ "[1, 2]" ∷ "[\"a\", 1]" ∷ "[1, \"a\", nil]" ∷ "[c: 1, \"a\"]" ∷ "{n: 1}" ∷ []))
    ≡ replicate 9 None
unfolding open_tables
no_keys_of_two = refl

-- The key of an entry: what is absent or of another type is missing, and the first part is there.
keys_of_entries : map (key_of two) (map codes ("{n: 1, s: \"a\"}" ∷ "{N: 1}" ∷ "{s: 5, n: 1}" ∷ "{s: \"a\"}" ∷ "{n: nil, s: \"a\"}" ∷ "{n: \"1\"}" ∷ "{}" ∷ []))
    ≡ Some (whole (pos 1) ∷ words (codes "a") ∷ []) ∷ Some (whole (pos 1) ∷ missing ∷ []) ∷ Some (whole (pos 1) ∷ missing ∷ []) ∷ None ∷ None ∷ None ∷ None ∷ []
unfolding open_tables
keys_of_entries = refl

no_index : key_of [] (codes "{}") ≡ Some []
unfolding open_tables
no_index = refl

-- ---- order and ranges

abbrev compared : Key × Key → Ordering
compared (a, b) = key_cmp two a b

-- A missing part stands before all values in both orders, and values follow the order.
key_order : map compared (
    (whole (pos 1) ∷ missing ∷ [], whole (pos 2) ∷ missing ∷ []) ∷ (whole (negsuc 0) ∷ missing ∷ [], whole (pos 0) ∷ missing ∷ []) ∷ (whole (pos 1) ∷ words (codes "a") ∷ [], whole (pos 1) ∷ words (codes "b") ∷ [])
    ∷ (whole (pos 1) ∷ missing ∷ [], whole (pos 1) ∷ words (codes "b") ∷ []) ∷ (whole (pos 1) ∷ words (codes "b") ∷ [], whole (pos 1) ∷ missing ∷ []) ∷ (missing ∷ missing ∷ [], whole (negsuc 4) ∷ missing ∷ [])
    ∷ (whole (pos 1) ∷ missing ∷ [], whole (pos 1) ∷ missing ∷ []) ∷ [])
    ≡ Less ∷ Less ∷ Greater ∷ Less ∷ Greater ∷ Less ∷ Equal ∷ []
key_order = refl

abbrev rising : IndexSpec
rising = one kind.Int

abbrev falling : IndexSpec
falling = part (codes "k") kind.Int order.Descend ∷ []

-- the keys 4, 5 and 6 at an end 5
abbrev at_five : (Key → Bool) → List Bool
at_five test = map (λ n. test (whole (pos n) ∷ [])) (4 ∷ 5 ∷ 6 ∷ [])

abbrev five : Key
five = whole (pos 5) ∷ []

lower_ends : map at_five (above rising (including five) ∷ above rising (excluding five) ∷ above rising unbounded ∷ above falling (including five) ∷ above falling (excluding five) ∷ [])
    ≡ (false ∷ true ∷ true ∷ []) ∷ (false ∷ false ∷ true ∷ []) ∷ (true ∷ true ∷ true ∷ []) ∷ (true ∷ true ∷ false ∷ []) ∷ (true ∷ false ∷ false ∷ []) ∷ []
lower_ends = refl

upper_ends : map at_five (below rising (including five) ∷ below rising (excluding five) ∷ below rising unbounded ∷ below falling (including five) ∷ below falling (excluding five) ∷ [])
    ≡ (true ∷ true ∷ false ∷ []) ∷ (true ∷ false ∷ false ∷ []) ∷ (true ∷ true ∷ true ∷ []) ∷ (false ∷ true ∷ true ∷ []) ∷ (false ∷ false ∷ true ∷ []) ∷ []
upper_ends = refl

abbrev asked_ends : RawGraph → Bound × Bound
asked_ends g = ((spec_of g rising).lower, (spec_of g rising).upper)

-- which slot is which end
ends_asked : option_map asked_ends (graph_of (codes "{indexPath: 'k, beginKey: 5, endExclKey: 6}")) ≡ Some (including five, excluding (whole (pos 6) ∷ []))
unfolding open_tables
ends_asked = refl

other_ends_asked : option_map asked_ends (graph_of (codes "{indexPath: 'k, beginExclKey: 5, endKey: 6}")) ≡ Some (excluding five, including (whole (pos 6) ∷ []))
unfolding open_tables
other_ends_asked = refl

no_ends_asked : option_map asked_ends (graph_of (codes "{indexPath: 'k, beginKey: nil}")) ≡ Some (unbounded, unbounded)
unfolding open_tables
no_ends_asked = refl

-- ---- which soups take part

abbrev soup_with : List IndexSpec → Soup
soup_with specs = record { name = codes "S"; sig = 0; next_uid = 0; specs = specs; tags = None; info = None; entries = [] }

-- A soup takes part where one of its indexes agrees: the paths but for case, the types and the
-- directions. Without an index each one does.
with_an_index : map (λ index. carries index (soup_with (two ∷ rising ∷ []))) ([] ∷ rising ∷ two ∷ (part (codes "K") kind.Int order.Ascend ∷ []) ∷ falling ∷ one kind.Text ∷ (part (codes "n") kind.Int order.Ascend ∷ []) ∷ [])
    ≡ true ∷ true ∷ true ∷ true ∷ false ∷ false ∷ false ∷ []
with_an_index = refl

without_indexes : map (λ index. carries index (soup_with [])) ([] ∷ rising ∷ []) ≡ true ∷ false ∷ []
without_indexes = refl

-- one store by its signature, or all
in_scopes : map (λ scope. in_scope scope (new_store (codes "Internal") 7)) (None ∷ Some 7 ∷ Some 8 ∷ []) ≡ true ∷ true ∷ false ∷ []
in_scopes = refl

-- ---- tags

abbrev labels : TagTable
labels = record { path = codes "labels" ∷ []; symbols = codes "work" ∷ codes "home" ∷ [] }

-- A symbol, or those of an array, as far as the declaration lists them.
tags_of_entries : map (λ text. option_map (tags_of (Some labels)) (graph_of text)) (map codes ("{labels: 'WORK}" ∷ "{labels: ['play, 'home, 1, \"work\", nil]}" ∷ "{labels: [x: 'home, 'Work, 'home]}" ∷ "{labels: \"work\"}" ∷ "{labels: {work: 1}}" ∷ "{labels: nil}" ∷ "{other: 'work}" ∷ []))
    ≡ Some (codes "work" ∷ []) ∷ Some (codes "home" ∷ []) ∷ Some (codes "work" ∷ codes "home" ∷ []) ∷ Some [] ∷ Some [] ∷ Some [] ∷ Some [] ∷ []
unfolding open_tables
tags_of_entries = refl

without_a_declaration : option_map (tags_of None) (graph_of (codes "{labels: 'work}")) ≡ Some []
unfolding open_tables
without_a_declaration = refl

-- what is asked of no tags, of one, of the other and of both
abbrev asked : TagSpec → List Bool
asked spec = map (tags_pass spec) ([] ∷ (codes "work" ∷ []) ∷ (codes "home" ∷ []) ∷ (codes "work" ∷ codes "home" ∷ []) ∷ [])

abbrev names : List (List ℕ)
names = codes "Work" ∷ codes "HOME" ∷ []

equal_tags : map (λ given. asked (record { equal = Some given; all = None; any = None; none_of = None })) ([] ∷ (codes "Work" ∷ []) ∷ names ∷ (codes "work" ∷ codes "play" ∷ []) ∷ [])
    ≡ (true ∷ false ∷ false ∷ false ∷ []) ∷ (false ∷ true ∷ false ∷ false ∷ []) ∷ (false ∷ false ∷ false ∷ true ∷ []) ∷ (false ∷ false ∷ false ∷ false ∷ []) ∷ []
equal_tags = refl

all_tags : map (λ given. asked (record { equal = None; all = Some given; any = None; none_of = None })) ([] ∷ (codes "Work" ∷ []) ∷ names ∷ (codes "work" ∷ codes "play" ∷ []) ∷ [])
    ≡ (true ∷ true ∷ true ∷ true ∷ []) ∷ (false ∷ true ∷ false ∷ true ∷ []) ∷ (false ∷ false ∷ false ∷ true ∷ []) ∷ (false ∷ false ∷ false ∷ false ∷ []) ∷ []
all_tags = refl

any_tags : map (λ given. asked (record { equal = None; all = None; any = Some given; none_of = None })) ([] ∷ (codes "Work" ∷ []) ∷ names ∷ (codes "work" ∷ codes "play" ∷ []) ∷ [])
    ≡ (false ∷ false ∷ false ∷ false ∷ []) ∷ (false ∷ true ∷ false ∷ true ∷ []) ∷ (false ∷ true ∷ true ∷ true ∷ []) ∷ (false ∷ true ∷ false ∷ true ∷ []) ∷ []
any_tags = refl

none_of_the_tags : map (λ given. asked (record { equal = None; all = None; any = None; none_of = Some given })) ([] ∷ (codes "Work" ∷ []) ∷ names ∷ (codes "work" ∷ codes "play" ∷ []) ∷ [])
    ≡ (true ∷ true ∷ true ∷ true ∷ []) ∷ (true ∷ false ∷ true ∷ false ∷ []) ∷ (true ∷ false ∷ false ∷ false ∷ []) ∷ (true ∷ false ∷ true ∷ false ∷ []) ∷ []
none_of_the_tags = refl

-- all that is given holds, and what is not given asks nothing
tags_together : map asked (record { equal = None; all = None; any = None; none_of = None } ∷ record { equal = None; all = Some (codes "work" ∷ []); any = None; none_of = Some (codes "home" ∷ []) } ∷ [])
    ≡ (true ∷ true ∷ true ∷ true ∷ []) ∷ (false ∷ true ∷ false ∷ false ∷ []) ∷ []
tags_together = refl

-- ---- words and texts

-- A word begins at a word character that has none before it; as an entire word it has none after
-- it either.
beginnings : map (λ word. has_word (codes "ab cd-ef_gh 12x éz") (codes word) false) ("a" ∷ "ab" ∷ "ab c" ∷ "cd" ∷ "ef" ∷ "gh" ∷ "12" ∷ "é" ∷ "éz" ∷ [])
    ≡ replicate 9 true
beginnings = refl

no_beginnings : map (λ word. has_word (codes "ab cd-ef_gh 12x éz") (codes word) false) ("b" ∷ "b c" ∷ "d" ∷ "-ef" ∷ " cd" ∷ "_gh" ∷ "2x" ∷ "x" ∷ "z" ∷ "abc" ∷ "ab  cd" ∷ [])
    ≡ replicate 11 false
no_beginnings = refl

entire_words : map (λ word. has_word (codes "ab cd-ef_gh 12x éz") (codes word) true) ("ab" ∷ "ab cd" ∷ "cd" ∷ "ef" ∷ "gh" ∷ "12x" ∷ "éz" ∷ [])
    ≡ replicate 7 true
entire_words = refl

no_entire_words : map (λ word. has_word (codes "ab cd-ef_gh 12x éz") (codes word) true) ("a" ∷ "ab c" ∷ "c" ∷ "12" ∷ "é" ∷ "b" ∷ [])
    ≡ replicate 6 false
no_entire_words = refl

-- the second place serves where the first does not
second_place : has_word (codes "abc ab") (codes "ab") true ≡ true
second_place = refl

texts_anywhere : map (λ part. has_text (codes "ab cd") (codes part)) ("ab cd" ∷ "b c" ∷ "d" ∷ " " ∷ "a" ∷ "x" ∷ "abc" ∷ "cd " ∷ "ac" ∷ [])
    ≡ true ∷ true ∷ true ∷ true ∷ true ∷ false ∷ false ∷ false ∷ false ∷ []
texts_anywhere = refl

-- the words and texts of a query over an entry
abbrev finds : List ℕ → List (List ℕ) → List (List ℕ) → Option Bool
finds entry word_list text_list = option_map (text_passes (record { index = []; lower = unbounded; upper = unbounded; tags = record { equal = None; all = None; any = None; none_of = None }; words = word_list; texts = text_list; entire = false })) (graph_of entry)

-- Each stands in one string at least, of whatever depth; symbols are no strings, and no text goes
-- over two strings.
in_strings : finds (codes "{a: \"Red wine\", b: ['c, {d: \"LAMP\"}]}") (codes "lamp" ∷ codes "wi" ∷ []) (codes "ed w" ∷ codes "amp" ∷ []) ≡ Some true
unfolding open_tables
in_strings = refl

one_is_missing : finds (codes "{a: \"Red wine\", b: ['c, {d: \"LAMP\"}]}") (codes "lamp" ∷ codes "ine" ∷ []) [] ≡ Some false
unfolding open_tables
one_is_missing = refl

symbols_are_no_strings : finds (codes "{a: 'red}") [] (codes "red" ∷ []) ≡ Some false
unfolding open_tables
symbols_are_no_strings = refl

over_two_strings : finds (codes "[\"ab\", \"cd\"]") [] (codes "bc" ∷ []) ≡ Some false
unfolding open_tables
over_two_strings = refl

nothing_asked : finds (codes "{}") [] [] ≡ Some true
unfolding open_tables
nothing_asked = refl
