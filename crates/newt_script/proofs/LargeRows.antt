-- What the rows on the bytes of a large binary read, over the readers that stay closed.
use Rattle.std.proofs.Common.{◌≡◌, ℕ, List, Option, Some, None, Result, Ok, Err, codes, refl, ap, ◌∙◌}
use Rattle.newt_base.specs.Text.{hex_bytes}
use Rattle.newt_base.specs.declared.Refusal.{Refusal}
use Rattle.newt_path.specs.Names.{path_of}
use Rattle.newt_spec_world.specs.declared.command.Command.{Command}
use Rattle.newt_spec_world.specs.declared.command.Command.TheVariants as command
use Rattle.newt_spec_script.specs.Words.{Reader, then_read, trimmed, of1, of2, of3, word, name}
use Rattle.newt_spec_script.specs.Line.{unit, number, len, ended, with_bytes}
use Rattle.newt_script.specs.Graphs.{bytes_word}
use Rattle.newt_script_words.specs.Readers.{unit_of, number_of, length_of, name_of, entry_of, path_word, rest_of}
use Rattle.newt_script.specs.Rows.{Reading, reading, row_reading}
use Rattle.newt_script.specs.declared.fault.LineFault.{LineFault}
use Rattle.newt_script.proofs.RowTable.{after, finished, after_same, then_after, three_then, mapped, one}
use Rattle.newt_script.proofs.CursorRows.{three_chained}

-- the command with bytes
abbrev pub with_those : Result (List ℕ) LineFault → (List ℕ → Command) → Reading
with_those (Ok bytes) f = Ok (f bytes)
with_those (Err fault) f = Err fault

-- ---- `vread`

pub row_vread : (cs : List ℕ)
    → row_reading (codes "vread") cs
    ≡ after (entry_of cs) (λ x rest. after (path_word rest) (λ p rest. after (number_of rest) (λ at rest. after (length_of rest) (λ n rest. finished rest (command.Vread x.0 x.1 x.2 p at n)))))
unfolding row_reading entry_of unit_of name_of number_of path_word length_of
row_vread cs =
    ap (λ r. reading (ended r)) (three_then unit name number (λ u s i. of3 (word path_of) number len (command.Vread u s i)) cs)
    ∙ (then_after (λ (x : ℕ × List ℕ × ℕ). of3 (word path_of) number len (command.Vread x.0 x.1 x.2)) (of3 unit name number (λ a b c. (a, b, c)) cs)
    ∙ after_same (λ (x : ℕ × List ℕ × ℕ) rest. reading (ended (of3 (word path_of) number len (command.Vread x.0 x.1 x.2) rest)))
    (λ (x : ℕ × List ℕ × ℕ) rest. after (word path_of rest) (λ p rest. after (number rest) (λ at rest. after (len rest) (λ n rest. finished rest (command.Vread x.0 x.1 x.2 p at n)))))
    (λ x rest. three_chained (word path_of) number len (command.Vread x.0 x.1 x.2) rest) (of3 unit name number (λ a b c. (a, b, c)) cs))

-- ---- `vwrite`

ends_in_bytes : (f : List ℕ → Command) (rest : List ℕ) → reading (with_bytes (Ok (f, rest))) ≡ with_those (bytes_word (rest_of rest)) f
unfolding rest_of bytes_word
ends_in_bytes f rest = go (hex_bytes (trimmed rest)) refl
  where
    go : (o : Option (List ℕ)) → hex_bytes (trimmed rest) ≡ o → reading (with_bytes (Ok (f, rest))) ≡ with_those (bytes_word (trimmed rest)) f
    go None is = rw is refl
    go (Some bytes) is = rw is refl

bytes_after : {A : Type 0} (f : A → List ℕ → Command) (r : Result (A × List ℕ) Refusal)
    → reading (with_bytes (mapped f r)) ≡ after r (λ a rest. with_those (bytes_word (rest_of rest)) (f a))
bytes_after f (Err r) = refl
bytes_after f (Ok (a, rest)) = ends_in_bytes (f a) rest

then_bytes : {A : Type 0} (k : A → List ℕ → Result ((List ℕ → Command) × List ℕ) Refusal) (r : Result (A × List ℕ) Refusal)
    → reading (with_bytes (then_read r k)) ≡ after r (λ a rest. reading (with_bytes (k a rest)))
then_bytes k (Err r) = refl
then_bytes k (Ok (a, rest)) = refl

one_bytes : {A : Type 0} (p : Reader A) (f : A → List ℕ → Command) (cs : List ℕ)
    → reading (with_bytes (of1 p f cs)) ≡ after (p cs) (λ a rest. with_those (bytes_word (rest_of rest)) (f a))
one_bytes p f cs = ap (λ r. reading (with_bytes r)) (one p p f cs) ∙ bytes_after f (p cs)

two_bytes : {A B : Type 0} (p : Reader A) (q : Reader B) (f : A → B → List ℕ → Command) (cs : List ℕ)
    → reading (with_bytes (of2 p q f cs)) ≡ after (p cs) (λ a rest. after (q rest) (λ b rest. with_those (bytes_word (rest_of rest)) (f a b)))
two_bytes p q f cs =
    then_bytes (λ a. of1 q (f a)) (p cs)
    ∙ after_same (λ a rest. reading (with_bytes (of1 q (f a) rest))) (λ a rest. after (q rest) (λ b rest. with_those (bytes_word (rest_of rest)) (f a b)))
    (λ a rest. one_bytes q (f a) rest) (p cs)

pub row_vwrite : (cs : List ℕ)
    → row_reading (codes "vwrite") cs
    ≡ after (entry_of cs) (λ x rest. after (path_word rest) (λ p rest. after (number_of rest) (λ at rest. with_those (bytes_word (rest_of rest)) (command.Vwrite x.0 x.1 x.2 p at))))
unfolding row_reading entry_of unit_of name_of number_of path_word
row_vwrite cs =
    ap (λ r. reading (with_bytes r)) (three_then unit name number (λ u s i. of2 (word path_of) number (λ p at bs. command.Vwrite u s i p at bs)) cs)
    ∙ (then_bytes (λ (x : ℕ × List ℕ × ℕ). of2 (word path_of) number (λ p at bs. command.Vwrite x.0 x.1 x.2 p at bs)) (of3 unit name number (λ a b c. (a, b, c)) cs)
    ∙ after_same (λ (x : ℕ × List ℕ × ℕ) rest. reading (with_bytes (of2 (word path_of) number (λ p at bs. command.Vwrite x.0 x.1 x.2 p at bs) rest)))
    (λ (x : ℕ × List ℕ × ℕ) rest. after (word path_of rest) (λ p rest. after (number rest) (λ at rest. with_those (bytes_word (rest_of rest)) (command.Vwrite x.0 x.1 x.2 p at))))
    (λ x rest. two_bytes (word path_of) number (λ p at bs. command.Vwrite x.0 x.1 x.2 p at bs) rest) (of3 unit name number (λ a b c. (a, b, c)) cs))
