-- Names of devices.
use Rattle.std.proofs.Common.{◌≡◌, ℕ, zero, suc, ◌≤◌, Bool, true, false, not, ◌&&◌, ◌||◌, cond, List, [], ◌∷◌, length, codes, nat_le, Option, Some, None, refl, sym, ◌∙◌, ap, arith}
use Rattle.std.specs.Prelude.{drop, slice_get}
use Rattle.std.specs.Bool.{Decides}
use Rattle.std.specs.List.{list_any}
use Rattle.std.specs.Str.{bytes_eq}
use Rattle.std.proofs.lemmas.Slice.Eq.{bytes_eq-Decides}
use Rattle.std.proofs.lemmas.Bool.{false≢true}
use Rattle.newt_host_attach.specs.Named.{AreDistinct}
use Rattle.newt_spec_graph.specs.Lists.{all_apart}
use Rattle.newt_top.specs.Words.{are_names, script_over, conversion_named, alone, generated, reading_of, restoring, mode_of, names_of}
use Rattle.newt_top.specs.declared.status.Mode.{Mode}
use Rattle.newt_top.specs.declared.status.Mode.TheVariants.{Run}
use Rattle.newt_top.specs.declared.status.Reading.{Reading}
use Rattle.newt_top.specs.declared.status.Reading.TheVariants.{Backup, Check}

-- a name equals itself
same_bytes : (x : List ℕ) → bytes_eq x x ≡ true
same_bytes x = go (bytes_eq x x) (bytes_eq-Decides x x)
  where
    go : (b : Bool) → Decides b (x ≡ x) → b ≡ true
    go true d = refl
    go false d = d.1 refl

any_at : (p : List ℕ → Bool) (xs : List (List ℕ)) (j : ℕ) (y : List ℕ) → slice_get xs j ≡ Some y → p y ≡ true → list_any p xs ≡ true
any_at p [] j y at holds = absurd (cc)
any_at p (x ∷ xs) zero y at holds = let same : x ≡ y = cc in ap (λ (b : Bool). b || list_any p xs) (ap p same ∙ holds)
any_at p (x ∷ xs) (suc j) y at holds = last (p x) (list_any p xs) (any_at p xs j y at holds)
  where
    last : (a b : Bool) → b ≡ true → (a || b) ≡ true
    last true b e = refl
    last false b e = e

both : (a b : Bool) → (a && b) ≡ true → (a ≡ true) × (b ≡ true)
both true b e = (refl, e)
both false b e = absurd (false≢true e)

not_any : (b : Bool) → not b ≡ true → b ≡ true → ⊥
not_any true n y = false≢true n
not_any false n y = false≢true y

pub apart_distinct : (names : List (List ℕ)) → all_apart bytes_eq names ≡ true → AreDistinct names
apart_distinct [] apart zero j name at there = absurd (cc)
apart_distinct [] apart (suc i) j name at there = absurd (cc)
apart_distinct (x ∷ xs) apart zero zero name at there = refl
apart_distinct (x ∷ xs) apart zero (suc j) name at there =
    let same : x ≡ name = cc in
    absurd (not_any (list_any (bytes_eq x) xs) (both (not (list_any (bytes_eq x) xs)) (all_apart bytes_eq xs) apart).0
    (any_at (bytes_eq x) xs j name there (ap (bytes_eq x) (sym same) ∙ same_bytes x)))
apart_distinct (x ∷ xs) apart (suc i) zero name at there =
    let same : x ≡ name = cc in
    absurd (not_any (list_any (bytes_eq x) xs) (both (not (list_any (bytes_eq x) xs)) (all_apart bytes_eq xs) apart).0
    (any_at (bytes_eq x) xs i name at (ap (bytes_eq x) (sym same) ∙ same_bytes x)))
apart_distinct (x ∷ xs) apart (suc i) (suc j) name at there = ap suc (apart_distinct xs (both (not (list_any (bytes_eq x) xs)) (all_apart bytes_eq xs) apart).1 i j name at there)

-- the names of a script
script_names : (b : Bool) (names : List (List ℕ)) (mode : Mode) → b ≡ are_names names → ◌≡◌ {A = Option Mode} (cond b (Some Run) None) (Some mode) → are_names names ≡ true
script_names true names mode e is = sym e
script_names false names mode e is = absurd (cc)

-- of a generated one
generated_names : (words : List (List ℕ)) (mode : Mode) → generated words ≡ Some mode → are_names (drop 2 words) ≡ true
generated_names [] mode is = absurd (cc)
generated_names (a ∷ []) mode is = absurd (cc)
generated_names (a ∷ b ∷ []) mode is = absurd (cc)
generated_names (a ∷ b ∷ name ∷ []) mode is = refl
generated_names (a ∷ b ∷ name ∷ c ∷ rest) mode is = absurd (cc)

-- and of a conversion
alone_names : (words : List (List ℕ)) (found : Option Mode) (mode : Mode) → alone words found ≡ Some mode → are_names words ≡ true
alone_names [] found mode is = refl
alone_names (name ∷ names) found mode is = absurd (cc)

-- of a reading
reading_names : (reading : Reading) (words : List (List ℕ)) (mode : Mode) → reading_of reading words ≡ Some mode → are_names words ≡ true
reading_names reading [] mode is = absurd (cc)
reading_names reading (name ∷ []) mode is = refl
reading_names reading (name ∷ other ∷ names) mode is = absurd (cc)

-- of a restoring
restoring_names : (words : List (List ℕ)) (mode : Mode) → restoring words ≡ Some mode → are_names words ≡ true
restoring_names [] mode is = absurd (cc)
restoring_names (name ∷ []) mode is = refl
restoring_names (name ∷ other ∷ names) mode is = absurd (cc)

pub mode_names : (words : List (List ℕ)) (mode : Mode) → mode_of words ≡ Some mode → are_names (names_of words) ≡ true
mode_names [] mode is = absurd (cc)
mode_names (word ∷ words) mode is = go (bytes_eq word (codes "gen")) (bytes_eq word (codes "run")) (bytes_eq word (codes "backup")) (bytes_eq word (codes "check")) (bytes_eq word (codes "restore")) is
  where
    go : (a b d f h : Bool) → ◌≡◌ {A = Option Mode} (cond a (generated words) (cond b (script_over words) (cond d (reading_of Backup words) (cond f (reading_of Check words) (cond h (restoring words) (alone words (conversion_named word))))))) (Some mode)
        → are_names (cond a (drop 2 words) words) ≡ true
    go true b d f h e = generated_names words mode e
    go false true d f h e = script_names (are_names words) words mode refl e
    go false false true f h e = reading_names Backup words mode e
    go false false false true h e = reading_names Check words mode e
    go false false false false true e = restoring_names words mode e
    go false false false false false e = alone_names words (conversion_named word) mode e

pub few_names : (names : List (List ℕ)) → are_names names ≡ true → length names ≤ 8
few_names names are = grind (arith, (both (nat_le (length names) 8) (all_apart bytes_eq names) are).0)

pub distinct_names : (names : List (List ℕ)) → are_names names ≡ true → AreDistinct names
distinct_names names are = apart_distinct names (both (nat_le (length names) 8) (all_apart bytes_eq names) are).1
