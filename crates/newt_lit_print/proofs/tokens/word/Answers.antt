use Rattle.std.proofs.Common.{◌≡◌, ◌++◌, List, ℕ, ◌≤◌, ap, ◌∙◌, sym, append_assoc, inl, inr, ◌⊎◌, ◌∷◌, [], ◌%◌}
use Rattle.std.specs.Int.{cast_unsigned, w32}
use Rattle.std.proofs.lemmas.Int.{to_z-of_z}
use Rattle.std.proofs.lemmas.Result.{on_ok_weaker}
use Rattle.newt_base.specs.Text.{hex_text}
use Rattle.newt_lit_print.proofs.Printing.{character_word, other_word, word_bytes}
use Rattle.newt_lit_print.proofs.tokens.word.Goals.{else-bits-eq6-via-then-bits-eq6+else-bits-lt-CHARACTERS, else-bits-eq6-via-else-bits-eq6}
use Rattle.newt_lit_print.proofs.tokens.word.Goals as goal

pub returns-then-bits-lt-CHARACTERS : goal.returns-then-bits-lt-CHARACTERS
returns-then-bits-lt-CHARACTERS c =
    let bits : c.cast_unsigned-bits.result ≡ cast_unsigned w32 c.args.word = c.cast_unsigned-bits.ensures ∙ ap (cast_unsigned w32) (to_z-of_z w32 c.args.word c.ranges.word) in
    on_ok_weaker c.character.result (λ e.
    e ∙ ap (λ (text : List ℕ). c.args.out.now.items ++ text)
    (sym (character_word c.args.word c.cast_unsigned-bits.result bits c.if-bits-eq0.false c.if-bits-eq-NIL.false c.if-bits-eq-TRUE.false c.if-bits-eq6.true c.if-bits-lt-CHARACTERS.true)))
    c.character.ensures

pub returns : goal.returns
returns c =
    let other : (c.cast_unsigned-bits.result % 16 ≡ 6 → ⊥) ⊎ (1048576 ≤ c.cast_unsigned-bits.result) = elim c.else-bits-eq6.branch [
      | else-bits-eq6-via-then-bits-eq6+else-bits-lt-CHARACTERS w ↦ inr w.if-bits-lt-CHARACTERS.false
      | else-bits-eq6-via-else-bits-eq6 w ↦ inl w.if-bits-eq6.false
    ] in
    let bits : c.cast_unsigned-bits.result ≡ cast_unsigned w32 c.args.word = c.cast_unsigned-bits.ensures ∙ ap (cast_unsigned w32) (to_z-of_z w32 c.args.word c.ranges.word) in
    let text = other_word c.args.word c.cast_unsigned-bits.result bits c.if-bits-eq0.false c.if-bits-eq-NIL.false c.if-bits-eq-TRUE.false other in
    on_ok_weaker c.hex.result (λ e.
    e ∙ rw (c.in_ok-push.ensures.items) (append_assoc c.args.out.now.items (38 ∷ []) (hex_text c.to_be_bytes.result)
    ∙ ap (λ (text : List ℕ). c.args.out.now.items ++ text) (ap (λ (bytes : List ℕ). 38 ∷ hex_text bytes) (c.to_be_bytes.ensures ∙ word_bytes c.cast_unsigned-bits.result) ∙ sym text))) c.hex.ensures
