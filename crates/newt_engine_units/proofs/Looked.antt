-- What a slot is looked up as.
use Rattle.std.proofs.Common.{◌≡◌, refl, ap, sym, ◌∙◌, ℕ, ◌<◌, ◌≤◌, List, Some, None, length, get_or}
use Rattle.std.specs.Prelude.{slice_get}
use Rattle.std.proofs.lemmas.Option.{slice_get_read, slice_get_past}

-- the slot at an index
pub there : {X : Type 0} {xs ys : List X} {i u : ℕ} {x : X} → xs ≡ ys → i ≡ u → i < length xs → x ≡ get_or xs i x → Some x ≡ slice_get ys u
there {X} {xs} {ys} {i} {u} {x} same is below at = sym (slice_get_read xs (length xs) i x refl below at) ∙ ap (slice_get xs) is ∙ ap (λ zs. slice_get zs u) same

-- none is past the last
pub past : {X : Type 0} {xs ys : List X} {i u : ℕ} → xs ≡ ys → i ≡ u → length xs ≤ i → None ≡ slice_get ys u
past {X} {xs} {ys} {i} {u} same is above = sym (slice_get_past xs i above) ∙ ap (slice_get xs) is ∙ ap (λ zs. slice_get zs u) same
