-- The line of notes, and that of a changed entry.
use Rattle.std.proofs.Common.{◌≡◌, ℕ, List, [], ◌∷◌, ◌++◌, map, codes, decimal, refl, ap, sym, ◌∙◌, append_assoc}
use Rattle.newt_base.specs.declared.Refusal.TheVariants.{Changed}
use Rattle.newt_base.specs.Refusals.{refusal_number, refusal_word}
use Rattle.newt_base.specs.Text.{decimal_text}
use Rattle.newt_base.proofs.Numerals.{decimal_written}
use Rattle.newt_notify.specs.declared.note.Note.{Note}
use Rattle.newt_notify.specs.declared.note.Kind.{Kind}
use Rattle.newt_notify.specs.declared.note.Kind.TheVariants as noted
use Rattle.newt_spec_world.specs.Reply as world
use Rattle.newt_spec_world.specs.Reply.{items, spaced, note_word, note_field}
use Rattle.newt_reply.specs.Fields.{written, ok_text, note_item}

numbers : (word rest more : List (List ℕ)) (w : List ℕ) (u p : ℕ) → rest ≡ more
    → spaced (w ∷ decimal_text u ∷ decimal_text p ∷ rest) ≡ spaced (w ∷ decimal u ∷ decimal p ∷ more)
numbers word rest more w u p same =
    ap (λ a. spaced (w ∷ a ∷ decimal_text p ∷ rest)) (decimal_written u) ∙ ap (λ a. spaced (w ∷ decimal u ∷ a ∷ rest)) (decimal_written p)
    ∙ ap (λ xs. spaced (w ∷ decimal u ∷ decimal p ∷ xs)) same

one_id : (n : ℕ) → decimal_text n ∷ [] ≡ decimal n ∷ []
one_id n = ap (λ a. a ∷ []) (decimal_written n)

by_kind : (kind : Kind) (u p n : ℕ) → note_field (record { kind = kind; unit = u; soup = p; uid = n }) ≡ note_item (record { kind = kind; unit = u; soup = p; uid = n })
unfolding note_item
by_kind noted.Make u p n = numbers [] [] [] (codes "make") u p refl
by_kind noted.Gone u p n = numbers [] [] [] (codes "drop") u p refl
by_kind noted.Add u p n = numbers [] _ _ (codes "add") u p (one_id n)
by_kind noted.Change u p n = numbers [] _ _ (codes "change") u p (one_id n)
by_kind noted.Remove u p n = numbers [] _ _ (codes "remove") u p (one_id n)

note_items : (notes : List Note) → map note_field notes ≡ map note_item notes
note_items [] = refl
note_items (note ∷ notes) = ap (λ a. a ∷ map note_field notes) (by_kind note.kind note.unit note.soup note.uid) ∙ ap (λ rest. note_item note ∷ rest) (note_items notes)

pub notes_text : (lost : ℕ) (notes : List Note) → written (world.notes lost notes) ≡ ok_text (decimal lost ∷ items (map note_item notes) ∷ [])
unfolding written ok_text
notes_text lost notes =
    ap (λ a. ok_text (a ∷ items (map note_field notes) ∷ [])) (decimal_written lost) ∙ ap (λ rows. ok_text (decimal lost ∷ items rows ∷ [])) (note_items notes)

regrouped : (front number word time : List ℕ) → front ++ (number ++ 32 ∷ (word ++ 32 ∷ (time ++ 10 ∷ []))) ≡ ((front ++ (number ++ 32 ∷ word)) ++ 32 ∷ time) ++ 10 ∷ []
regrouped front number word time = simp append_assoc

pub changed_text : (number : ℕ) (word : List ℕ) (time : ℕ) → number ≡ refusal_number Changed → word ≡ refusal_word Changed
    → codes "error " ++ (decimal number ++ 32 ∷ (word ++ 32 ∷ (decimal time ++ 10 ∷ []))) ≡ written (world.changed time)
unfolding written
changed_text number word time number_is word_is =
    ap (λ n. codes "error " ++ (decimal n ++ 32 ∷ (word ++ 32 ∷ (decimal time ++ 10 ∷ [])))) number_is
    ∙ ap (λ w. codes "error " ++ (decimal (refusal_number Changed) ++ 32 ∷ (w ++ 32 ∷ (decimal time ++ 10 ∷ [])))) word_is
    ∙ ap (λ text. codes "error " ++ (text ++ 32 ∷ (refusal_word Changed ++ 32 ∷ (decimal time ++ 10 ∷ [])))) (sym (decimal_written (refusal_number Changed)))
    ∙ ap (λ text. codes "error " ++ (decimal_text (refusal_number Changed) ++ 32 ∷ (refusal_word Changed ++ 32 ∷ (text ++ 10 ∷ [])))) (sym (decimal_written time))
    ∙ regrouped (codes "error ") (decimal_text (refusal_number Changed)) (refusal_word Changed) (decimal_text time)
