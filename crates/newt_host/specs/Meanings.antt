-- What a host means, each by its own name. Where a host tells no bytes, only what these say of
-- counts, of names and of numbers of blocks means anything.
use Rattle.std.specs.Prelude.{◌≡◌, ℕ, Bool, List, length, Option, Some, is_some, option_map}
use Rattle.newt_host.specs.Moments.{output, image, MayLeave, IsDurable, attached_at, LeftSince}
use Rattle.newt_host.specs.Outside.{Outside}

-- whether the host has a device of this name
abbrev pub known : Outside → List ℕ → Bool
known outside name = is_some (outside.devices name)

-- the bytes of the whole blocks of the device of this name, while no unit is attached to it
abbrev pub held : Outside → List ℕ → Option (List ℕ)
held outside name = outside.devices name

-- the name of the device of a unit, where it has one
abbrev pub attached : Outside → ℕ → Option (List ℕ)
attached outside unit = outside.card unit

-- the moment at which the attach of the unit ended
abbrev pub since : Outside → ℕ → Option ℕ
since outside unit = attached_at unit outside.now

-- the input that has not been read
abbrev pub left : Outside → List ℕ
left outside = outside.input

-- the output so far
abbrev pub out_of : Outside → List ℕ
out_of outside = output outside.now

-- the bytes of the whole blocks of a unit
abbrev pub image_of : Outside → ℕ → List ℕ
image_of outside unit = image unit outside.now

-- the image of the device of a unit, none where it has none
abbrev pub device_on : ℕ → Outside → Option (List ℕ)
device_on unit outside = option_map (λ name. image unit outside.now) (outside.card unit)

-- a crash now may leave this image on the unit
abbrev pub leaves : Outside → ℕ → List ℕ → Type 0
leaves outside unit bytes = MayLeave unit outside.now bytes

-- the number of the moment: one clock for the output and the devices
abbrev pub moment : Outside → ℕ
moment outside = length outside.now

-- at some moment since t a crash might have left this image on the unit, while the output was that
abbrev pub left_since : Outside → ℕ → ℕ → List ℕ → List ℕ → Type 0
left_since outside t unit bytes printed = LeftSince t unit bytes printed outside.now

-- What holds after an attach that answered true: the unit reads as the device of the name was held,
-- a crash leaves just that, and it is attached since now.
pub record Begins (unit : ℕ) (name : List ℕ) (old new : Outside) : Type 0 where
  pub image : held old name ≡ Some (image_of new unit)
  pub durable : IsDurable unit new.now
  pub begins : since new unit ≡ Some (moment new)
