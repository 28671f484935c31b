-- Numbers as std writes them.
use Rattle.std.proofs.Common.{◌≡◌, ℕ, refl, decimal}
use Rattle.std.specs.Fmt.{digits}
use Rattle.newt_base.specs.Text.{decimal_text}

pub decimal_written : (n : ℕ) → decimal_text n ≡ decimal n
unfolding digits
decimal_written n = refl
