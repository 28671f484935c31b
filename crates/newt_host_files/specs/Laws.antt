-- The laws of the host over files.
use Rattle.std.specs.Prelude.{◌≡◌, ℕ, ◌≤◌, ◌<◌, ◌^◌, true, false, List, length, Option, Some, None, is_some, option_map, slice_get, refl}
use Rattle.std.proofs.Common.{ap, sym, subst, lit<}
use Rattle.std.proofs.lemmas.Bool.{false≢true}
use Rattle.std.proofs.lemmas.Option.{slice_get_past}
use Rattle.newt_host_files.specs.Cards.{name_of, blocks_of}
use Rattle.newt_host_files.specs.declared.card.Card.{Card}

-- this host tells no bytes
pub untold : {A : Type 0} → false ≡ true → A
untold told = absurd (false≢true told)

-- there are eight units
pub eight_of : (cards : List Card) (unit : ℕ) → length cards ≡ 8 → 8 ≤ unit → name_of (slice_get cards unit) ≡ None
eight_of cards unit eight past = ap name_of (slice_get_past cards unit (subst (λ (n : ℕ). n ≤ unit) (sym eight) past))

no_file : {F A : Type 0} (file : Option F) (x : A) → option_map (λ (f : F). x) file ≡ None → file ≡ None
no_file None x free = refl
no_file (Some f) x free = absurd (false≢true (sym (ap is_some free)))

-- a unit without a file has no blocks
pub none_of : (o : Option Card) → name_of o ≡ None → blocks_of o ≡ 0
none_of None free = refl
none_of (Some c) free = c.free (no_file c.file c.name.items free)

-- the number of blocks is one of 32 bits
pub few_of : (o : Option Card) → blocks_of o < 2 ^ 32
few_of None = lit< tt
few_of (Some c) = c.few
