-- Numbers: what they spell fits 32 bits, and the shortest form spells them.
use Rattle.std.proofs.Common.{◌≡◌, ℕ, ◌+◌, ◌*◌, ◌/◌, ◌%◌, ◌^◌, ◌<◌, Bool, true, false, cond, ltb, eqb, List, [], ◌∷◌, refl, sym, subst, arith, inl, inr, Fits}
use Rattle.std.specs.Prelude.{ℤ, pos, negsuc, ◌&&◌}
use Rattle.std.specs.Int.{w32, to_be_bytes, cast_unsigned}
use Rattle.std.specs.Int.RustNames.{FitsSigned}
use Rattle.std.proofs.lemmas.Bool.{ltb-true, eqb-true, and_parts, cases_Bool, cond-true, cond-false}
use Rattle.std.proofs.Math.Facts.{sfits_to_z, to_z-of_z, Fits-of_z}
use Rattle.newt_graph.specs.declared.node.Node.{Node}
use Rattle.newt_graph.specs.declared.node.Ref.TheVariants as refs
use Rattle.newt_graph.specs.Graph.{IsWord}
use Rattle.newt_spec_nsof.specs.Text.{Xlong, Count, Object}
use Rattle.newt_spec_nsof.specs.Flat.{xlong_text, count_text, character_text, word_text}

pub xlong_fits : {text : List ℕ} {z : ℤ} → Xlong text z → FitsSigned w32 z
xlong_fits (Xlong.short {n} lt) = record { sfits = omega arith }
xlong_fits (Xlong.long {bits} lt) = sfits_to_z {w = w32} {n = bits} (record { fits = lt })

long_spelled : (z : ℤ) → FitsSigned w32 z → Xlong (255 ∷ to_be_bytes w32 (cast_unsigned w32 z)) z
long_spelled z fits =
    let f : Fits w32 (cast_unsigned w32 z) = Fits-of_z fits in
    subst (λ (x : ℤ). Xlong (255 ∷ to_be_bytes w32 (cast_unsigned w32 z)) x) (to_z-of_z fits) (Xlong.long {bits = cast_unsigned w32 z} f.fits)

pub xlong_spelled : (z : ℤ) → FitsSigned w32 z → Xlong (xlong_text z) z
unfolding xlong_text
xlong_spelled (pos n) fits =
    elim (cases_Bool (ltb n 255)) [
      | inl below ↦ subst (λ (t : List ℕ). Xlong t (pos n)) (sym (cond-true (ltb n 255) (n ∷ []) (255 ∷ to_be_bytes w32 n) below)) (Xlong.short (ltb-true n 255 below))
      | inr above ↦ subst (λ (t : List ℕ). Xlong t (pos n)) (sym (cond-false (ltb n 255) (n ∷ []) (255 ∷ to_be_bytes w32 n) above)) (long_spelled (pos n) fits)
    ]
xlong_spelled (negsuc n) fits = long_spelled (negsuc n) fits

pub count_spelled : (n : ℕ) → n < 2 ^ 31 → Count (count_text n) n
unfolding count_text
count_spelled n lt = xlong_spelled (pos n) (record { sfits = lt })

-- a word that stands for itself is written as one
abbrev Spelled : ℤ → List ℕ → Type 0
Spelled w text = (room : ℕ) (before : List Node) (numbered : List ℕ) → Object false room before numbered text (refs.Imm w) [] numbered

character_spelled : (n : ℕ) → n % 16 ≡ 6 → n / 16 < 65536 → Spelled (pos n) (character_text (n / 16))
character_spelled n six lt room before numbered =
    let c = n / 16 in
    let is : 16 * c + 6 ≡ n = omega (arith, six) in
    elim (cases_Bool (ltb c 256)) [
      | inl below ↦ subst (λ (t : List ℕ). Object false room before numbered t (refs.Imm (pos n)) [] numbered) (sym (cond-true (ltb c 256) (1 ∷ c ∷ []) (2 ∷ c / 256 ∷ c % 256 ∷ []) below))
          (subst (λ (m : ℕ). Object false room before numbered (1 ∷ c ∷ []) (refs.Imm (pos m)) [] numbered) is (Object.character (ltb-true c 256 below)))
      | inr above ↦ (let whole : 256 * (c / 256) + c % 256 ≡ c = omega arith in
          let wide : 16 * (256 * (c / 256) + c % 256) + 6 ≡ n = omega (arith, is, whole) in
          subst (λ (t : List ℕ). Object false room before numbered t (refs.Imm (pos n)) [] numbered) (sym (cond-false (ltb c 256) (1 ∷ c ∷ []) (2 ∷ c / 256 ∷ c % 256 ∷ []) above))
          (subst (λ (m : ℕ). Object false room before numbered (2 ∷ c / 256 ∷ c % 256 ∷ []) (refs.Imm (pos m)) [] numbered) wide (Object.wide_character (omega (arith, lt)) (omega arith))))
    ]

plain_spelled : (w : ℤ) → IsWord w → Spelled w (0 ∷ xlong_text w)
plain_spelled w is room before numbered = Object.word (xlong_spelled w is.fits) is

choose : {A : Type 0} (P : A → Type 0) (b : Bool) (x y : A) → (b ≡ true → P x) → (b ≡ false → P y) → P (cond b x y)
choose P true x y t f = t refl
choose P false x y t f = f refl

pub word_spelled : (w : ℤ) → IsWord w → Spelled w (word_text w)
unfolding word_text
word_spelled (pos n) is =
    choose (Spelled (pos n)) (eqb n 2) (10 ∷ []) _
    (λ e room before numbered. subst (λ (m : ℕ). Object false room before numbered (10 ∷ []) (refs.Imm (pos m)) [] numbered) (sym (eqb-true n 2 e)) Object.nil)
    (λ not. choose (Spelled (pos n)) (eqb (n % 16) 6 && ltb (n / 16) 65536) (character_text (n / 16)) _
    (λ e. let p = and_parts (eqb (n % 16) 6) (ltb (n / 16) 65536) e in character_spelled n (eqb-true _ _ p.0) (ltb-true _ _ p.1))
    (λ above. plain_spelled (pos n) is))
word_spelled (negsuc n) is = plain_spelled (negsuc n) is
