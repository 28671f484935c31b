-- What is known of the mounted stores without their soups: of each unit, the signature and the name
-- of the store that is mounted there. All of it is this project's own.
use Rattle.std.specs.Prelude.{ℕ, ◌+◌, Bool, false, ◌==◌, List, [], ◌∷◌, map, Option, Some, None, is_some, option_map, cond}
use Rattle.std.specs.List.{cons_option, position_from}
use Rattle.newt_spec_world.specs.World.{World, Device, on_unit}

-- a face: the signature and the name of the mounted store, or none
abbrev pub Face : Type 0
Face = Option (ℕ × List ℕ)

-- the face of a device
abbrev pub face_of : Option Device → Face
face_of d = option_map (λ s. (s.sig, s.name)) (on_unit d)

-- the faces of a world, in order of the units
abbrev pub faces : World → List Face
faces w = map face_of w.units

-- a store of this signature is mounted
abbrev pub shows : ℕ → Face → Bool
shows sig None = false
shows sig (Some f) = f.0 == sig

-- how many stores are mounted
abbrev pub shown_count : List Face → ℕ
shown_count [] = 0
shown_count (f ∷ fs) = cond (is_some f) (1 + shown_count fs) (shown_count fs)

-- a row of the list of stores
abbrev pub face_row : ℕ → Face → Option (ℕ × ℕ × List ℕ)
face_row u f = option_map (λ g. (u, g.0, g.1)) f

-- the rows of the units from a number on
abbrev pub face_rows : ℕ → List Face → List (ℕ × ℕ × List ℕ)
face_rows u [] = []
face_rows u (f ∷ fs) = cons_option (face_row u f) (face_rows (u + 1) fs)

-- the first unit with a mounted store
abbrev pub first_shown : List Face → Option ℕ
first_shown fs = position_from is_some 0 fs

-- the first unit with a mounted store of this signature
abbrev pub first_showing : ℕ → List Face → Option ℕ
first_showing sig fs = position_from (shows sig) 0 fs
