-- Texts of ASCII: their units are their characters and their bytes, and lower case folds them.
use Rattle.std.proofs.Common.{◌≡◌, ◌≤◌, ◌<◌, ℕ, List, [], ◌∷◌, ◌++◌, map, Option, Some, refl, sym, ◌∙◌, ap, arith}
use Rattle.std.specs.Prelude.{chars, encode_utf8_all, flat_map}
use Rattle.std.specs.List.{All}
use Rattle.std.specs.Option.{unwrap_or}
use Rattle.std.specs.Char.{to_ascii_lowercase}
use Rattle.std.specs.Char.Utf16.{utf16_chars, utf16_lossy_chars, lone_unit_char}
use Rattle.std.specs.Str.{IsAscii}
use Rattle.std.proofs.lemmas.Bool.Decides.{nat_tests}
use Rattle.std.proofs.lemmas.List.Elements.{All-head, All-tail}
use Rattle.std.proofs.lemmas.Str.{utf16_chars-nil, utf16_chars_lone, encodes-IsAscii, chars-IsAscii}
use Rattle.std.proofs.lemmas.Str.Ascii.{All-from_ascii, IsAscii-map, lowercase_ascii}
use Rattle.ucd_case.specs.CaseFolding.{full_fold}
use Rattle.ucd_case.proofs.CaseFoldingLemmas.{full_fold-ascii}
use Rattle.caseless.specs.Caseless.{default_case_fold}

abbrev IsSmall : ℕ → Type 0
IsSmall c = c < 128

alone : (u : ℕ) → u < 128 → lone_unit_char u ≡ Some u
alone u small = grind (arith, nat_tests)

units_as_chars : (units : List ℕ) → All IsSmall units → utf16_lossy_chars units ≡ units
units_as_chars [] all = ap (map (λ o. unwrap_or o 0xFFFD)) utf16_chars-nil
units_as_chars (u ∷ us) all =
    let small : u < 128 = All-head IsSmall u us all in
    ap (map (λ o. unwrap_or o 0xFFFD))
    (utf16_chars_lone u us (λ pair. (let high : 0xD800 ≤ u = pair.0 in omega arith)) ∙ ap (λ (o : Option ℕ). o ∷ utf16_chars us) (alone u small))
    ∙ ap (λ (cs : List ℕ). u ∷ cs) (units_as_chars us (All-tail IsSmall u us all))

folds : (cs : List ℕ) → All IsSmall cs → default_case_fold cs ≡ map to_ascii_lowercase cs
unfolding default_case_fold
folds [] all = refl
folds (c ∷ cs) all =
    ap (λ (l : List ℕ). l ++ flat_map full_fold cs) (full_fold-ascii c (All-head IsSmall c cs all))
    ∙ ap (λ (l : List ℕ). to_ascii_lowercase c ∷ l) (folds cs (All-tail IsSmall c cs all))

pub units_as_bytes : (bytes units : List ℕ) → bytes ≡ units → IsAscii bytes → bytes ≡ encode_utf8_all (utf16_lossy_chars units)
units_as_bytes bytes units same ascii =
    sym (ap (λ (us : List ℕ). encode_utf8_all (utf16_lossy_chars us)) (sym same)
    ∙ ap encode_utf8_all (units_as_chars bytes (All-from_ascii bytes ascii)) ∙ encodes-IsAscii bytes ascii)

pub lower_case_folds : (text : List ℕ) → IsAscii text → map to_ascii_lowercase text ≡ encode_utf8_all (default_case_fold (chars text))
lower_case_folds text ascii =
    sym (ap (λ (cs : List ℕ). encode_utf8_all (default_case_fold cs)) (chars-IsAscii text ascii)
    ∙ ap encode_utf8_all (folds text (All-from_ascii text ascii))
    ∙ encodes-IsAscii (map to_ascii_lowercase text) (IsAscii-map to_ascii_lowercase text lowercase_ascii ascii))
