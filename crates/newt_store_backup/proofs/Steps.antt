-- One more of a list is put.
use Rattle.std.proofs.Common.{◌≡◌, ◌≤◌, ◌<◌, ◌-◌, sym, ◌∙◌, ap, ℕ, List, [], ◌∷◌, ◌++◌, map, length, take, drop, get_or, Option, Some, None, arith, append_assoc}
use Rattle.std.proofs.lemmas.List.{append-nil, map-append}
use Rattle.std.proofs.lemmas.Grind.{common_steps}
use Rattle.newt_spec_store.specs.Store.{Entry}
use Rattle.newt_entries.specs.declared.full.FullEntry.{FullEntry}
use Rattle.newt_entries.specs.Full.{as_entry, told}
use Rattle.newt_store_backup.specs.Listed.{entry_row}

-- an entry that was found is put
pub row-put : (old new : List FullEntry) (e : FullEntry) (sig : ℕ) (found : Option Entry) → new ≡ old ++ e ∷ [] → e.soup ≡ sig → Some (as_entry e) ≡ found → map told new ≡ map told old ++ entry_row sig found
row-put old new e sig found n s f =
    ap (λ (l : List FullEntry). map told l) n ∙ map-append told old (e ∷ []) ∙ ap (λ (k : ℕ). map told old ++ (k, as_entry e) ∷ []) s
    ∙ ap (λ (o : Option Entry). map told old ++ entry_row sig o) f

-- and where there is none, none
pub row-none : (old : List FullEntry) (sig : ℕ) (found : Option Entry) → None ≡ found → map told old ≡ map told old ++ entry_row sig found
row-none old sig found f = sym (append-nil (map told old)) ∙ ap (λ (o : Option Entry). map told old ++ entry_row sig o) f

-- what a list of ids or signatures lists, where each adds its own
module _ {X : Type 0} (own : ℕ → List X) (listed : List ℕ → List X) (none : listed [] ≡ []) (more : (n : ℕ) (ns : List ℕ) → listed (n ∷ ns) ≡ own n ++ listed ns) where
  -- all of it is put
  pub put-all : (old now : List X) (left all : List ℕ) → length left < 1 → now ++ listed left ≡ old ++ listed all → now ≡ old ++ listed all
  put-all old now [] all low e = sym (append-nil now) ∙ ap (λ (l : List X). now ++ l) (sym none) ∙ e
  put-all old now (n ∷ left) all low e = absurd (omega (arith, low))

  rest-of : (m : ℕ) (ms : List ℕ) → take (length (m ∷ ms) - 1) (drop 1 (m ∷ ms)) ≡ ms
  rest-of m ms = grind (arith, common_steps)

  -- the first of those that are left is put
  pub put-first : (old now next : List X) (n : ℕ) (left all : List ℕ) → 1 ≤ length left → n ≡ get_or left 0 n → now ++ listed left ≡ old ++ listed all → next ≡ now ++ own n
      → next ++ listed (take (length left - 1) (drop 1 left)) ≡ old ++ listed all
  put-first old now next n [] all some is e f = absurd (omega (arith, some))
  put-first old now next n (m ∷ ms) all some is e f =
      ap (λ (l : List ℕ). next ++ listed l) (rest-of m ms) ∙ ap (λ (l : List X). l ++ listed ms) f ∙ append_assoc now (own n) (listed ms)
      ∙ ap (λ (l : List X). now ++ l) (ap (λ (k : ℕ). own k ++ listed ms) is ∙ sym (more m ms)) ∙ e
