-- Declarations of indexes and tags: the program's readers give what the store's give, where that is valid.
use Rattle.std.proofs.Common.{◌≡◌, ℕ, ◌≤◌, zero, suc, Bool, true, false, cond, ◌&&◌, List, length, Option, Some, None, option_and_then, refl, sym, ap, ◌∙◌, arith}
use Rattle.std.specs.Prelude.{IsTrue, nat_le}
use Rattle.std.specs.List.{list_all}
use Rattle.std.proofs.lemmas.Bool.{and_from, le-leb}
use Rattle.newt_graph.specs.Graph.{RawGraph}
use Rattle.newt_nsof_flat.specs.Stream.{stream_graph}
use Rattle.newt_base.specs.Names.{same_name, is_identifier, valid_path}
use Rattle.newt_path.specs.Names.{IsPath}
use Rattle.newt_spec_graph.specs.Lists.{all_apart}
use Rattle.newt_spec_store.specs.declared.Kind.{Kind}
use Rattle.newt_spec_store.specs.declared.Order.{Order}
use Rattle.newt_spec_store.specs.Keys as keys
use Rattle.newt_spec_store.specs.Keys.{IndexSpec, Path}
use Rattle.newt_spec_store.specs.Store.{TagTable}
use Rattle.newt_spec_store.specs.Reading.{Take, ◌>>=◌, give, number, times, counted, text, path, kind_of, direction_of, part, table as their_table, info, extra_of}
use Rattle.newt_spec_store.specs.Valid.{valid_spec, valid_tags}
use Rattle.newt_keys.specs.Seen.{declared, declared_all}
use Rattle.newt_keys.specs.declared.types.IndexPart.{IndexPart}
use Rattle.newt_soupdir.specs.Reading.{is_count, byte_at, text_at, symbol_at, path_at, kind_at, order_at, part_at, spec_at, specs_at, tag_symbols_at, table_at, number16_at, info_at, extra_from, extra_at}
use Rattle.newt_path.proofs.Reading.{names_are_path}
use Rattle.newt_soupdir.proofs.Spelled.{length_rows}
use Rattle.newt_soupdir.proofs.Sifting.{Sifts, formed, sieved, next, bind, never, times-sifts, passed, tested, narrowed, same_test, as_given, plain}

and_swapped : (a b : Bool) → (a && b) ≡ (b && a)
and_swapped true true = refl
and_swapped true false = refl
and_swapped false true = refl
and_swapped false false = refl

-- ---- symbols and paths

symbol-sifts : (bytes : List ℕ) → Sifts (λ (t : List ℕ). t) is_identifier (symbol_at bytes) (text bytes)
unfolding symbol_at text_at byte_at
symbol-sifts bytes = tested is_identifier (text bytes)

pub symbols-sifts : (n : ℕ) (bytes : List ℕ) → Sifts (λ (ss : List (List ℕ)). ss) (list_all is_identifier) (times n symbol_at bytes) (times n text bytes)
symbols-sifts n bytes = plain (list_all is_identifier) (times n symbol_at bytes) (times n text bytes) (times-sifts (λ (t : List ℕ). t) is_identifier symbol_at text symbol-sifts n bytes)

counted-symbols : (bytes : List ℕ) → Sifts (λ (ss : List (List ℕ)). ss) (list_all is_identifier) ((byte_at >>= λ n. times n symbol_at) bytes) (counted text bytes)
unfolding byte_at
counted-symbols bytes = next (λ (ss : List (List ℕ)). ss) (list_all is_identifier) (number 1 bytes) (λ n. times n.0 symbol_at n.1) (λ n. times n.0 text n.1) (λ n. symbols-sifts n.0 n.1)

pub path-sifts : (bytes : List ℕ) → Sifts (λ (p : Path). p) valid_path (path_at bytes) (path bytes)
unfolding path_at
path-sifts bytes =
    same_test (λ (p : Path). p) (λ p. list_all is_identifier p && is_count 1 8 p) valid_path (path_at bytes) (path bytes) (λ p. and_swapped (list_all is_identifier p) (is_count 1 8 p))
    (narrowed (λ (p : Path). p) (list_all is_identifier) (is_count 1 8) ((byte_at >>= λ n. times n symbol_at) bytes) (counted text bytes) (counted-symbols bytes))

-- ---- indexes

abbrev pub valid_part : keys.IndexPart → Bool
valid_part p = valid_path p.path

abbrev mine_part : Kind → Order → Path → IndexPart
mine_part kind order path = record { path = path; kind = kind; order = order }

abbrev theirs_part : Kind → Order → Path → keys.IndexPart
theirs_part kind order path = record { path = path; kind = kind; direction = order }

-- the two readers from each field on
abbrev mine_path : Kind → Order → Take IndexPart
mine_path kind order = path_at >>= λ path. give (mine_part kind order path)

abbrev theirs_path : Kind → Order → Take keys.IndexPart
theirs_path kind order = path >>= λ slots. give (theirs_part kind order slots)

abbrev mine_order : Kind → Take IndexPart
mine_order kind = number 1 >>= direction_of >>= mine_path kind

abbrev theirs_order : Kind → Take keys.IndexPart
theirs_order kind = number 1 >>= direction_of >>= theirs_path kind

part-sifts : (bytes : List ℕ) → Sifts declared valid_part (part_at bytes) (part bytes)
unfolding part_at kind_at order_at byte_at
part-sifts bytes =
    next declared valid_part ((number 1 >>= kind_of) bytes) (λ k. mine_order k.0 k.1) (λ k. theirs_order k.0 k.1)
    (λ k. next declared valid_part ((number 1 >>= direction_of) k.1) (λ d. mine_path k.0 d.0 d.1) (λ d. theirs_path k.0 d.0 d.1)
    (λ d. bind (λ (p : Path). p) valid_path declared valid_part (path_at d.1) (path d.1) (λ p. Some (mine_part k.0 d.0 p.0, p.1)) (λ p. Some (theirs_part k.0 d.0 p.0, p.1)) (path-sifts d.1)
    (λ p good. ap (λ v. cond v (Some (theirs_part k.0 d.0 p.0, p.1)) None) (sym good))
    (λ p bad. ap (λ v. cond v (Some (theirs_part k.0 d.0 p.0, p.1)) None) bad)))

pub parts-sifts : (n : ℕ) (bytes : List ℕ) → Sifts declared_all (list_all valid_part) (times n part_at bytes) (times n part bytes)
parts-sifts n bytes = times-sifts declared valid_part part_at part part-sifts n bytes

abbrev as_spec : List IndexPart × List ℕ → Option (IndexSpec × List ℕ)
as_spec parts = Some (declared_all parts.0, parts.1)

spec-sifts : (bytes : List ℕ) → Sifts (λ (s : IndexSpec). s) valid_spec (spec_at bytes) (counted part bytes)
unfolding spec_at byte_at
spec-sifts bytes =
    same_test (λ (s : IndexSpec). s) (λ s. list_all valid_part s && is_count 1 4 s) valid_spec (spec_at bytes) (counted part bytes) (λ s. and_swapped (list_all valid_part s) (is_count 1 4 s))
    (narrowed (λ (s : IndexSpec). s) (list_all valid_part) (is_count 1 4) (option_and_then (λ (n : ℕ × List ℕ). option_and_then as_spec (times n.0 part_at n.1)) (number 1 bytes)) (counted part bytes)
    (next (λ (s : IndexSpec). s) (list_all valid_part) (number 1 bytes) (λ n. option_and_then as_spec (times n.0 part_at n.1)) (λ n. times n.0 part n.1)
    (λ n. as_given declared_all (list_all valid_part) (times n.0 part_at n.1) (times n.0 part n.1) (parts-sifts n.0 n.1))))

pub specs-sifts : (bytes : List ℕ) → Sifts (λ (ss : List IndexSpec). ss) (list_all valid_spec) (specs_at bytes) (counted (counted part) bytes)
unfolding specs_at byte_at
specs-sifts bytes =
    next (λ (ss : List IndexSpec). ss) (list_all valid_spec) (number 1 bytes) (λ n. times n.0 spec_at n.1) (λ n. times n.0 (counted part) n.1)
    (λ n. plain (list_all valid_spec) (times n.0 spec_at n.1) (times n.0 (counted part) n.1) (times-sifts (λ (s : IndexSpec). s) valid_spec spec_at (counted part) spec-sifts n.0 n.1))

-- ---- tags

abbrev few_apart : List (List ℕ) → Bool
few_apart symbols = nat_le (length symbols) 64 && all_apart same_name symbols

abbrev valid_symbols : List (List ℕ) → Bool
valid_symbols symbols = list_all is_identifier symbols && few_apart symbols

tag_symbols-sifts : (bytes : List ℕ) → Sifts (λ (ss : List (List ℕ)). ss) valid_symbols (tag_symbols_at bytes) (counted text bytes)
unfolding tag_symbols_at
tag_symbols-sifts bytes = narrowed (λ (ss : List (List ℕ)). ss) (list_all is_identifier) few_apart ((byte_at >>= λ n. times n symbol_at) bytes) (counted text bytes) (counted-symbols bytes)

regrouped : (a b c d : Bool) → (a && b && c && d) ≡ (a && (c && (b && d)))
regrouped false b c d = refl
regrouped true true true d = refl
regrouped true true false d = refl
regrouped true false true d = refl
regrouped true false false d = refl

abbrev table : Path → List (List ℕ) → TagTable
table path symbols = record { path = path; symbols = symbols }

valid_table : (path : Path) (symbols : List (List ℕ)) → valid_tags (Some (table path symbols)) ≡ (valid_path path && valid_symbols symbols)
valid_table path symbols = regrouped (valid_path path) (nat_le (length symbols) 64) (list_all is_identifier symbols) (all_apart same_name symbols)

abbrev valid_one : TagTable → Bool
valid_one t = valid_tags (Some t)

-- what a table's test answers
kept : (path : Path) (symbols : List (List ℕ)) (rest : List ℕ) (b : Bool) → (valid_path path && valid_symbols symbols) ≡ b
    → sieved valid_one (Some (table path symbols, rest)) ≡ cond b (Some (table path symbols, rest)) None
kept path symbols rest b e = ap (λ v. cond v (Some (table path symbols, rest)) None) (valid_table path symbols ∙ e)

table-sifts : (bytes : List ℕ) → Sifts (λ (t : TagTable). t) valid_one (table_at bytes) (their_table bytes)
unfolding table_at
table-sifts bytes =
    bind (λ (p : Path). p) valid_path (λ (t : TagTable). t) valid_one (path_at bytes) (path bytes) (λ p. (tag_symbols_at >>= λ symbols. give (table p.0 symbols)) p.1)
    (λ p. (counted text >>= λ symbols. give (table p.0 symbols)) p.1) (path-sifts bytes)
    (λ p good. bind (λ (ss : List (List ℕ)). ss) valid_symbols (λ (t : TagTable). t) valid_one (tag_symbols_at p.1) (counted text p.1) (λ ss. Some (table p.0 ss.0, ss.1))
    (λ ss. Some (table p.0 ss.0, ss.1)) (tag_symbols-sifts p.1)
    (λ ss fine. sym (kept p.0 ss.0 ss.1 true (and_from (valid_path p.0) (valid_symbols ss.0) good fine)))
    (λ ss bad. kept p.0 ss.0 ss.1 false (ap (λ v. v && valid_symbols ss.0) good ∙ bad)))
    (λ p bad. never valid_one (counted text p.1) (λ (ss : List (List ℕ) × List ℕ). Some (table p.0 ss.0, ss.1))
    (λ ss. kept p.0 ss.0 ss.1 false (ap (λ v. v && valid_symbols ss.0) bad)))

-- ---- tags and info

-- what a soup has of a tags declaration and an info frame
abbrev pub Extra : Type 0
Extra = Option TagTable × Option RawGraph

abbrev pub valid_extra : Extra → Bool
valid_extra x = valid_tags x.0

-- a table and an info frame or none
abbrev with_info : Option RawGraph → TagTable × List ℕ → Option (Extra × List ℕ)
with_info info t = Some ((Some t.0, info), t.1)

pub extra-sifts : (bytes : List ℕ) → Sifts (λ (x : Extra). x) valid_extra (extra_at bytes) ((number 1 >>= extra_of stream_graph) bytes)
unfolding extra_at info_at byte_at number16_at
extra-sifts bytes = next (λ (x : Extra). x) valid_extra (number 1 bytes) (λ n. extra_from n.0 n.1) (λ n. extra_of stream_graph n.0 n.1) (λ n. go n.0 n.1)
  where
    go : (n : ℕ) (rest : List ℕ) → Sifts (λ (x : Extra). x) valid_extra (extra_from n rest) (extra_of stream_graph n rest)
    go zero rest = refl
    go (suc zero) rest =
        bind (λ (t : TagTable). t) valid_one (λ (x : Extra). x) valid_extra (table_at rest) (their_table rest) (with_info None) (with_info None) (table-sifts rest)
        (λ t good. ap (λ b. cond b (with_info None t) None) (sym good)) (λ t bad. ap (λ b. cond b (with_info None t) None) bad)
    go (suc (suc zero)) rest =
        next (λ (x : Extra). x) valid_extra (info stream_graph rest) (λ (g : RawGraph × List ℕ). Some ((None, Some g.0), g.1)) (λ (g : RawGraph × List ℕ). Some ((None, Some g.0), g.1)) (λ g. refl)
    go (suc (suc (suc zero))) rest =
        bind (λ (t : TagTable). t) valid_one (λ (x : Extra). x) valid_extra (table_at rest) (their_table rest)
        (λ t. option_and_then (λ (g : RawGraph × List ℕ). with_info (Some g.0) (t.0, g.1)) (info stream_graph t.1))
        (λ t. option_and_then (λ (g : RawGraph × List ℕ). with_info (Some g.0) (t.0, g.1)) (info stream_graph t.1)) (table-sifts rest)
        (λ t good. next (λ (x : Extra). x) valid_extra (info stream_graph t.1) (λ g. with_info (Some g.0) (t.0, g.1)) (λ g. with_info (Some g.0) (t.0, g.1))
        (λ g. ap (λ b. cond b (with_info (Some g.0) (t.0, g.1)) None) (sym good)))
        (λ t bad. never valid_extra (info stream_graph t.1) (λ g. with_info (Some g.0) (t.0, g.1)) (λ g. ap (λ b. cond b (with_info (Some g.0) (t.0, g.1)) None) bad))
    go (suc (suc (suc (suc n)))) rest = refl

-- ---- what is read is valid

is_between : {A : Type 0} (least most : ℕ) (xs : List A) → least ≤ length xs → length xs ≤ most → is_count least most xs ≡ true
is_between least most xs low high = and_from (nat_le least (length xs)) (nat_le (length xs) most) (le-leb least (length xs) low) (le-leb (length xs) most high)

pub path_is : (count : ℕ) (bytes rest : List ℕ) (names : List (List ℕ)) → times count symbol_at bytes ≡ Some (names, rest) → 1 ≤ length names → length names ≤ 8 → IsPath names
path_is count bytes rest names e low high =
    names_are_path names (and_from (is_count 1 8 names) (list_all is_identifier names) (is_between 1 8 names low high)
    (passed (λ (ss : List (List ℕ)). ss) (list_all is_identifier) (times count symbol_at bytes) (times count text bytes) (names, rest) (symbols-sifts count bytes) e))

pub spec_is : (count : ℕ) (bytes rest : List ℕ) (parts : List IndexPart) → times count part_at bytes ≡ Some (parts, rest) → 1 ≤ length parts → length parts ≤ 4
    → IsTrue (valid_spec (declared_all parts))
spec_is count bytes rest parts e low high =
    let as_many : length (declared_all parts) ≡ length parts = length_rows declared parts in
    and_from (is_count 1 4 (declared_all parts)) (list_all valid_part (declared_all parts)) (is_between 1 4 (declared_all parts) (omega (arith, as_many, low)) (omega (arith, as_many, high)))
    (passed declared_all (list_all valid_part) (times count part_at bytes) (times count part bytes) (parts, rest) (parts-sifts count bytes) e)

pub table_is : (bytes later rest : List ℕ) (path : Path) (symbols : List (List ℕ)) → path_at bytes ≡ Some (path, later) → tag_symbols_at later ≡ Some (symbols, rest)
    → IsTrue (valid_tags (Some (table path symbols)))
table_is bytes later rest slots symbols p s =
    valid_table slots symbols ∙ and_from (valid_path slots) (valid_symbols symbols)
    (passed (λ (p : Path). p) valid_path (path_at bytes) (path bytes) (slots, later) (path-sifts bytes) p)
    (passed (λ (ss : List (List ℕ)). ss) valid_symbols (tag_symbols_at later) (counted text later) (symbols, rest) (tag_symbols-sifts later) s)
