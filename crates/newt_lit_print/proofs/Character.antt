-- The printed text of a graph has a character.
use Rattle.std.proofs.Common.{◌≡◌, ℕ, suc, ◌<◌, ◌%◌, ◌/◌, ◌^◌, ◌&&◌, Bool, true, false, eqb, ltb, List, length, length-append, Option, refl, arith, ℤ, pos, negsuc, decimal}
use Rattle.std.specs.Int.{cast_unsigned, int_div_euclid, w32}
use Rattle.std.specs.Fmt.{signed_decimal}
use Rattle.std.proofs.lemmas.Fmt.{decimal_by_steps}
use Rattle.newt_graph.specs.declared.node.Node.{Node}
use Rattle.newt_graph.specs.declared.node.Ref.{Ref}
use Rattle.newt_graph.specs.Graph.{RawGraph, IsGraph, IsWord, Walk}
use Rattle.newt_spec_literal.specs.Words.{is_shown}
use Rattle.newt_spec_literal.specs.Printed.{character_text, word_text, labels, value_at, literal}

decimal_some : (n : ℕ) → n < 2 ^ 64 → 0 < length (decimal n)
decimal_some n low = decimal_by_steps (λ n ds. 0 < length ds) (λ n lt. omega arith) (λ n ds ge e. simp length-append (omega (arith, e))) n low

integer_some : (w : ℤ) → IsWord w → 0 < length (signed_decimal (int_div_euclid w (pos 4)))
integer_some (pos n) is = let lt : n < 2147483648 = is.fits.sfits in decimal_some (n / 4) (omega (arith, lt))
integer_some (negsuc n) is = omega arith

character_some : (c : ℕ) → 0 < length (character_text c)
character_some c = go (is_shown c) refl
  where
    go : (shown : Bool) → is_shown c ≡ shown → 0 < length (character_text c)
    go true e = rw e (omega arith)
    go false e = rw e (omega arith)

word_some : (w : ℤ) (bits : ℕ) → bits ≡ cast_unsigned w32 w → IsWord w → 0 < length (word_text w)
word_some w bits e is = go (eqb (bits % 4) 0) refl (eqb bits 2) refl (eqb bits 26) refl (eqb (bits % 16) 6 && ltb bits 1048576) refl
  where
    go : (whole : Bool) → eqb (bits % 4) 0 ≡ whole → (nil : Bool) → eqb bits 2 ≡ nil → (truth : Bool) → eqb bits 26 ≡ truth → (character : Bool) → (eqb (bits % 16) 6 && ltb bits 1048576) ≡ character → 0 < length (word_text w)
    go true a nil b truth c character d = rw (← e, a) (integer_some w is)
    go false a true b truth c character d = rw (← e, a, b) (omega arith)
    go false a false b true c character d = rw (← e, a, b, c) (omega arith)
    go false a false b false c true d = rw (← e, a, b, c, d) (character_some (bits / 16))
    go false a false b false c false d = rw (← e, a, b, c, d) (omega arith)

-- where nothing has been met before
value_some : {room : ℕ} {root : Ref} {nodes : List Node} (labels : List (Option ℕ)) (levels : ℕ) → Walk room 0 root nodes → 0 < length (value_at nodes labels (suc levels) root 0).0
value_some labels levels (Walk.word {w = w} is) = word_some w (cast_unsigned w32 w) refl is
value_some labels levels (Walk.again lt) = absurd (omega (arith, lt))
value_some labels levels Walk.symbol = omega arith
value_some labels levels Walk.string = simp length-append (omega arith)
value_some labels levels (Walk.binary label) = simp length-append (omega arith)
value_some labels levels (Walk.large label) = simp length-append (omega arith)
value_some labels levels (Walk.frame walked walks) = simp length-append (omega arith)
value_some labels levels (Walk.plain_array walks) = simp length-append (omega arith)
value_some labels levels (Walk.array label walks) = simp length-append (omega arith)

pub literal_some : (g : RawGraph) → IsGraph g → 0 < length (literal g)
literal_some g is = value_some (labels g) 200 is.walk
