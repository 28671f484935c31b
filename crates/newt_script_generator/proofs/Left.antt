-- What is written of a list of lines, and what is left of them.
use Rattle.std.proofs.Common.{◌≡◌, ap, sym, ◌∙◌, ℕ, suc, ◌+◌, ◌-◌, ◌/◌, ◌%◌, ◌==◌, codes, if◌then◌else◌, ◌<◌, List, [], ◌∷◌, ◌++◌, arith, append_assoc}
use Rattle.std.specs.Prelude.{flat_map, replicate}
use Rattle.std.specs.List.{enumerate_from}
use Rattle.newt_base.specs.Text.{decimal_text}
use Rattle.newt_spec_script.specs.Generator.{add_line, drawn, next_state}

-- the first of the lines left is written
pub entry_written : (text : List ℕ) (i count state : ℕ) → i < count
    → (text ++ add_line (i, next_state state / 65_536)) ++ flat_map add_line (enumerate_from (i + 1) (drawn (count - (i + 1)) (next_state state)))
    ≡ text ++ flat_map add_line (enumerate_from i (drawn (count - i) state))
entry_written text i count state early =
    let k : count - i ≡ suc (count - (i + 1)) = omega (arith, early) in
    append_assoc text (add_line (i, next_state state / 65_536)) (flat_map add_line (enumerate_from (i + 1) (drawn (count - (i + 1)) (next_state state))))
    ∙ ap (λ (n : ℕ). text ++ flat_map add_line (enumerate_from i (drawn n state))) (sym k)

-- the first of equal lines left is written
pub line_written : (f : List ℕ → List ℕ) (text word : List ℕ) (i count : ℕ) → i < count
    → (text ++ f word) ++ flat_map f (replicate (count - (i + 1)) word) ≡ text ++ flat_map f (replicate (count - i) word)
line_written f text word i count early =
    let k : count - i ≡ suc (count - (i + 1)) = omega (arith, early) in
    append_assoc text (f word) (flat_map f (replicate (count - (i + 1)) word)) ∙ ap (λ (n : ℕ). text ++ flat_map f (replicate n word)) (sym k)

-- the pieces of a line, one after the other, and its end
pub joined : (old p m q n w o r i e : List ℕ)
    → (((((old ++ (p ++ m)) ++ (q ++ n)) ++ w) ++ o) ++ (r ++ i)) ++ (e ++ 10 ∷ []) ≡ old ++ (((((((((p ++ m) ++ q) ++ n) ++ w) ++ o) ++ r) ++ i) ++ e) ++ 10 ∷ [])
joined old p m q n w o r i e =
    let nl : List ℕ = 10 ∷ [] in
    let end : List ℕ = e ++ nl in
    let left : (((((old ++ (p ++ m)) ++ (q ++ n)) ++ w) ++ o) ++ (r ++ i)) ++ end ≡ old ++ (p ++ (m ++ (q ++ (n ++ (w ++ (o ++ (r ++ (i ++ end)))))))) =
    append_assoc ((((old ++ (p ++ m)) ++ (q ++ n)) ++ w) ++ o) (r ++ i) end
    ∙ ap (λ (x : List ℕ). ((((old ++ (p ++ m)) ++ (q ++ n)) ++ w) ++ o) ++ x) (append_assoc r i end)
    ∙ append_assoc (((old ++ (p ++ m)) ++ (q ++ n)) ++ w) o (r ++ (i ++ end))
    ∙ append_assoc ((old ++ (p ++ m)) ++ (q ++ n)) w (o ++ (r ++ (i ++ end)))
    ∙ append_assoc (old ++ (p ++ m)) (q ++ n) (w ++ (o ++ (r ++ (i ++ end))))
    ∙ ap (λ (x : List ℕ). (old ++ (p ++ m)) ++ x) (append_assoc q n (w ++ (o ++ (r ++ (i ++ end)))))
    ∙ append_assoc old (p ++ m) (q ++ (n ++ (w ++ (o ++ (r ++ (i ++ end))))))
    ∙ ap (λ (x : List ℕ). old ++ x) (append_assoc p m (q ++ (n ++ (w ++ (o ++ (r ++ (i ++ end)))))))
    in
    let right : ((((((((p ++ m) ++ q) ++ n) ++ w) ++ o) ++ r) ++ i) ++ e) ++ nl ≡ p ++ (m ++ (q ++ (n ++ (w ++ (o ++ (r ++ (i ++ end))))))) =
    append_assoc (((((((p ++ m) ++ q) ++ n) ++ w) ++ o) ++ r) ++ i) e nl
    ∙ append_assoc ((((((p ++ m) ++ q) ++ n) ++ w) ++ o) ++ r) i end
    ∙ append_assoc (((((p ++ m) ++ q) ++ n) ++ w) ++ o) r (i ++ end)
    ∙ append_assoc ((((p ++ m) ++ q) ++ n) ++ w) o (r ++ (i ++ end))
    ∙ append_assoc (((p ++ m) ++ q) ++ n) w (o ++ (r ++ (i ++ end)))
    ∙ append_assoc ((p ++ m) ++ q) n (w ++ (o ++ (r ++ (i ++ end))))
    ∙ append_assoc (p ++ m) q (n ++ (w ++ (o ++ (r ++ (i ++ end)))))
    ∙ append_assoc p m (q ++ (n ++ (w ++ (o ++ (r ++ (i ++ end))))))
    in
    left ∙ ap (λ (x : List ℕ). old ++ x) (sym right)

-- the word of a label
abbrev pub label_of : ℕ → List ℕ
label_of q = if q % 2 == 0 then codes "business" else codes "personal"

-- the pieces of the line of an entry
pub entry_joined : (old : List ℕ) (i q : ℕ)
    → (((((old ++ (codes "add 0 Names {name: {first: \"F" ++ decimal_text (q % 90))) ++ (codes "\", last: \"L" ++ decimal_text (q % 1000))) ++ codes "\"}, labels: '") ++ label_of q)
    ++ (codes ", n: " ++ decimal_text i)) ++ codes "}\n" ≡ old ++ add_line (i, q)
entry_joined old i q =
    joined old (codes "add 0 Names {name: {first: \"F") (decimal_text (q % 90)) (codes "\", last: \"L") (decimal_text (q % 1000)) (codes "\"}, labels: '") (label_of q) (codes ", n: ") (decimal_text i) (codes "}")
