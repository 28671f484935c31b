-- Declarations of indexes through what is seen of their parts: whether their paths agree, and that they are valid.
use Rattle.std.proofs.Common.{arith, ◌≡◌, ◌≤◌, ℕ, true, ◌&&◌, List, [], ◌∷◌, map, refl, ◌∙◌, ap, length, Some}
use Rattle.std.specs.Prelude.{zip, ◌==◌}
use Rattle.std.specs.List.{list_all}
use Rattle.std.proofs.lemmas.List.{length-map}
use Rattle.newt_base.specs.Names.{same_path}
use Rattle.newt_keys.specs.Seen.{declared_all}
use Rattle.newt_keys.specs.declared.types.IndexPart.{IndexPart}
use Rattle.newt_keys.proofs.Agree.{paths_seen}
use Rattle.newt_laws_world.specs.Worlds.{tags_fit}
use Rattle.newt_spec_store.specs.Keys.{Path, same_paths, paths_of}
use Rattle.newt_spec_store.specs.Valid.{valid_tags}
use Rattle.newt_spec_world.specs.declared.command.PartWord.{PartWord}

words_seen : (ps : List IndexPart) (qs : List PartWord) → list_all (λ p. same_path p.0.path p.1) (zip ps (map (λ q. q.path) qs)) ≡ list_all (λ p. same_path p.0.path p.1.path) (zip ps qs)
words_seen [] qs = refl
words_seen (p ∷ ps) [] = refl
words_seen (p ∷ ps) (q ∷ qs) = ap (λ b. same_path p.path q.path && b) (words_seen ps qs)

pub parts_seen : (ps : List IndexPart) (qs : List PartWord)
    → same_paths (paths_of (declared_all ps)) (map (λ q. q.path) qs) ≡ ((length ps == length qs) && list_all (λ p. same_path p.0.path p.1.path) (zip ps qs))
parts_seen ps qs = paths_seen ps (map (λ q. q.path) qs) ∙ (λ i. (length ps == length-map qs (λ q. q.path) i) && words_seen ps qs i)

-- ---- valid

pub table_valid : (path : Path) (symbols : List (List ℕ)) → tags_fit path symbols ≡ true → length symbols ≤ 64 → valid_tags (Some (record { path = path; symbols = symbols })) ≡ true
table_valid path symbols h k = grind (arith, h, k)
