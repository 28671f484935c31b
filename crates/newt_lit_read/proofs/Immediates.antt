-- What is written as an immediate is a word that stands for itself.
use Rattle.std.proofs.Common.{◌≡◌, ◌≢◌, ℕ, zero, suc, ◌+◌, ◌*◌, ◌%◌, ◌<◌, ◌≤◌, leb, List, sym, ap, subst, ◌∙◌, arith}
use Rattle.std.specs.Prelude.{ℤ, pos, neg_ℤ, ◌&&◌, ◌==◌, not}
use Rattle.std.specs.Int.{w32, cast_signed}
use Rattle.std.proofs.lemmas.Bool.{leb-true, and_parts}
use Rattle.std.proofs.lemmas.Int.{of_z-to_z}
use Rattle.std.proofs.Math.Facts.{sfits_to_z}
use Rattle.newt_graph.specs.Graph.{IsWord}
use Rattle.newt_graph.proofs.Words.{integer_word, character_word}
use Rattle.newt_spec_literal.specs.Grammar.{Immediate}
use Rattle.newt_lit_read.proofs.Characters.{hex_below}

negative_word : (n : ℕ) → n ≤ 536870912 → IsWord (neg_ℤ (pos (4 * n)))
negative_word zero le = record { fits = record { sfits = omega arith }; low = λ e. omega arith }
negative_word (suc n) le =
    let e : 4 * suc n ≡ suc (4 * n + 3) = omega arith in
    subst (λ (m : ℕ). IsWord (neg_ℤ (pos m))) (sym e) (record { fits = record { sfits = omega arith }; low = λ e. omega arith })

bits_word : (n : ℕ) → n < 4294967296 → n % 4 ≢ 1 → IsWord (cast_signed w32 n)
bits_word n lt low = record { fits = sfits_to_z (record { fits = lt }); low = λ e. low (sym (ap (λ (x : ℕ). x % 4) (of_z-to_z w32 n lt)) ∙ e) }

pub immediate_is : {text : List ℕ} {w : ℤ} → Immediate text w → IsWord w
immediate_is Immediate.nil = record { fits = record { sfits = omega arith }; low = λ e. omega arith }
immediate_is Immediate.truth = record { fits = record { sfits = omega arith }; low = λ e. omega arith }
immediate_is (Immediate.integer is le) = integer_word _ le
immediate_is (Immediate.negative is le) = negative_word _ le
immediate_is (Immediate.character {c = c} is) =
    let p = and_parts (leb 33 c && leb c 126) (not (c == 92)) is in
    let le = leb-true c 126 (and_parts (leb 33 c) (leb c 126) p.0).1 in
    character_word c (omega (arith, le))
immediate_is (Immediate.coded {digits = digits} {n = n} is) = character_word n (hex_below 4 digits n is)
immediate_is (Immediate.word {digits = digits} {n = n} is low) = bits_word n (hex_below 8 digits n is) low
