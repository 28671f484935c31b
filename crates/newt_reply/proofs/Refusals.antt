-- The lines of a refusal and of a device that failed, from their parts.
use Rattle.std.proofs.Common.{◌≡◌, ℕ, List, [], ◌∷◌, ◌++◌, codes, decimal, sym, ◌∙◌, ap, append_assoc}
use Rattle.newt_base.specs.declared.Refusal.{Refusal}
use Rattle.newt_base.specs.Refusals.{refusal_number, refusal_word}
use Rattle.newt_base.specs.Text.{decimal_text}
use Rattle.newt_base.proofs.Numerals.{decimal_written}
use Rattle.newt_spec_world.specs.Reply.{refused, thrown}
use Rattle.newt_reply.specs.Fields.{written}

regrouped : (front number word : List ℕ) → front ++ (number ++ 32 ∷ (word ++ 10 ∷ [])) ≡ (front ++ (number ++ 32 ∷ word)) ++ 10 ∷ []
regrouped front number word =
    ap (λ text. front ++ text) (sym (append_assoc number (32 ∷ word) (10 ∷ []))) ∙ sym (append_assoc front (number ++ 32 ∷ word) (10 ∷ []))

pub error_text : (number : ℕ) (word : List ℕ) (refusal : Refusal) → number ≡ refusal_number refusal → word ≡ refusal_word refusal
    → codes "error " ++ (decimal number ++ 32 ∷ (word ++ 10 ∷ [])) ≡ written (refused refusal)
unfolding written
error_text number word refusal number_is word_is =
    ap (λ n. codes "error " ++ (decimal n ++ 32 ∷ (word ++ 10 ∷ []))) number_is
    ∙ (ap (λ w. codes "error " ++ (decimal (refusal_number refusal) ++ 32 ∷ (w ++ 10 ∷ []))) word_is
    ∙ (ap (λ text. codes "error " ++ (text ++ 32 ∷ (refusal_word refusal ++ 10 ∷ []))) (sym (decimal_written (refusal_number refusal)))
    ∙ regrouped (codes "error ") (decimal_text (refusal_number refusal)) (refusal_word refusal)))

pub thrown_text : (unit : ℕ) → codes "error 50 device " ++ (decimal unit ++ 10 ∷ []) ≡ written (thrown unit)
unfolding written
thrown_text unit =
    sym (append_assoc (codes "error 50 device ") (decimal unit) (10 ∷ [])) ∙ ap (λ text. (codes "error 50 device " ++ text) ++ 10 ∷ []) (sym (decimal_written unit))
