-- Names in quotes, byte by byte.
use Rattle.std.proofs.Common.{◌≡◌, ℕ, true, false, ◌||◌, ◌==◌, List, [], ◌∷◌, ◌++◌, Option, Some, None, refl, sym, ◌∙◌, ap, append_assoc, ◌-◌, ◌≤◌, ◌≢◌, length, take, drop, get_or, arith}
use Rattle.std.proofs.Math.Seq.{take-length}
use Rattle.std.proofs.lemmas.Bool.{ne_eqb, eq-eqb}
use Rattle.newt_spec_script.specs.Words.{quoted, name_from, if_name, word, bare_name}
use Rattle.newt_script_words.specs.Names.{with_start}

pub closed : (cs : List ℕ) → quoted (34 ∷ cs) ≡ Some ([], cs)
closed [] = refl
closed (c ∷ cs) = refl

same : (c : ℕ) (o : Option (List ℕ × List ℕ))
    → (elim o as (λ x. Option (List ℕ × List ℕ)) [ None ↦ None | Some q ↦ Some (c ∷ q.0, q.1) ]) ≡ with_start (c ∷ []) o
same c None = refl
same c (Some q) = refl

pub one_more : (c : ℕ) (cs : List ℕ) → (c == 34) ≡ false → (c == 92) ≡ false → quoted (c ∷ cs) ≡ with_start (c ∷ []) (quoted cs)
one_more c [] quote slash = rw quote refl
one_more c (d ∷ ds) quote slash = rw (quote, quoted) (rw (slash, quoted) (same c (quoted (d ∷ ds))))

-- the same of a text that is not empty
pub first_more : (text : List ℕ) → 1 ≤ length text → get_or text 0 0 ≢ 34 → get_or text 0 0 ≢ 92
    → quoted text ≡ with_start (get_or text 0 0 ∷ []) (quoted (take (length text - 1) (drop 1 text)))
first_more [] some quote slash = absurd (omega arith)
first_more (c ∷ cs) some quote slash =
    let len : length (c ∷ cs) - 1 ≡ length cs = omega arith in
    one_more c cs (ne_eqb c 34 quote) (ne_eqb c 92 slash) ∙ ap (λ rest. with_start (c ∷ []) (quoted rest)) (sym (ap (λ n. take n cs) len ∙ take-length cs))

pub escaped : (d : ℕ) (ds : List ℕ) → ((d == 34) || (d == 92)) ≡ true → quoted (92 ∷ d ∷ ds) ≡ with_start (d ∷ []) (quoted ds)
escaped d ds mark = go (quoted ds) refl
  where
    go : (o : Option (List ℕ × List ℕ)) → quoted ds ≡ o → quoted (92 ∷ d ∷ ds) ≡ with_start (d ∷ []) (quoted ds)
    go None is = rw (mark, is) refl
    go (Some q) is = rw (mark, is) refl

pub unmarked : (d : ℕ) (ds : List ℕ) → ((d == 34) || (d == 92)) ≡ false → quoted (92 ∷ d ∷ ds) ≡ None
unmarked d ds mark = rw mark refl

-- bytes after bytes
pub with_start-with_start : (front more : List ℕ) (o : Option (List ℕ × List ℕ)) → with_start front (with_start more o) ≡ with_start (front ++ more) o
with_start-with_start front more None = refl
with_start-with_start front more (Some q) = ap (λ (text : List ℕ). Some (text, q.1)) (sym (append_assoc front more q.0))

-- ---- where a name begins

pub in_quotes : (text : List ℕ) → 1 ≤ length text → get_or text 0 0 ≡ 34 → name_from text ≡ if_name (quoted (take (length text - 1) (drop 1 text)))
in_quotes [] some quote = absurd (omega arith)
in_quotes (c ∷ cs) some quote =
    let len : length (c ∷ cs) - 1 ≡ length cs = omega arith in
    rw (eq-eqb c 34 quote) (ap (λ rest. if_name (quoted rest)) (sym (ap (λ n. take n cs) len ∙ take-length cs)))

pub without_quotes : (text : List ℕ) → 1 ≤ length text → get_or text 0 0 ≢ 34 → name_from text ≡ word bare_name text
without_quotes [] some quote = absurd (omega arith)
without_quotes (c ∷ cs) some quote = rw (ne_eqb c 34 quote) refl
