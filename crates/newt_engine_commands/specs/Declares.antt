-- What is said of a declaration of an index before it is made.
use Rattle.std.specs.Prelude.{◌≡◌, Bool, false, List, [], ◌∷◌, map, Some, is_none, Result, Ok, Err}
use Rattle.std.specs.List.{list_any}
use Rattle.newt_base.specs.Refusals.{Checks, first_of}
use Rattle.newt_base.specs.declared.Refusal.TheVariants.{Index as BadIndex, Key as BadKey}
use Rattle.newt_spec_store.specs.Store.{Soup}
use Rattle.newt_spec_world.specs.declared.command.PartWord.{PartWord}
use Rattle.newt_spec_store.specs.Keys.{has_paths}
use Rattle.newt_store_change.specs.declared.fault.StoreFault.{StoreFault}
use Rattle.newt_store_change.specs.declared.fault.StoreFault.TheVariants.{Refused, Stop}

-- the soup has an index of the paths of these parts
abbrev pub has_parts : List PartWord → Soup → Bool
has_parts parts p = has_paths (map (λ q. q.path) parts) p.specs

-- a part has no type that an index can have
abbrev pub has_real : List PartWord → Bool
has_real parts = list_any (λ q. is_none q.kind) parts

-- what is tested of the parts of an index
abbrev pub part_tests : List PartWord → Soup → Checks
part_tests parts p = (BadIndex, has_parts parts p) ∷ (BadKey, has_real parts) ∷ []

-- the parts may be declared, or the first test that holds is answered
abbrev pub MayDeclare : {T : Type 0} → List PartWord → Soup → Result T StoreFault → Type 0
MayDeclare parts p (Ok _) = (has_parts parts p ≡ false) × (has_real parts ≡ false)
MayDeclare parts p (Err (Refused refusal)) = first_of (part_tests parts p) ≡ Some refusal
MayDeclare parts p (Err (Stop stop)) = Unit {0}
