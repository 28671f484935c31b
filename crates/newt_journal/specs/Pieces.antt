-- One write on a device.
use Rattle.std.specs.Prelude.{ℕ, List}
use Rattle.newt_host.specs.Moments.{Moment, MayLeave, SameOutside}

-- It is what a crash might have left before, but for so many bytes from a place on.
abbrev pub IsTornIn : ℕ → ℕ → ℕ → Moment → List ℕ → Type 0
IsTornIn unit at size old left = (before : List ℕ) × MayLeave unit old before × SameOutside at size before left
