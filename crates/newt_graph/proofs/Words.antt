-- What is a word that stands for itself.
use Rattle.std.proofs.Common.{ℕ, ◌+◌, ◌*◌, ◌<◌, ◌≤◌, arith}
use Rattle.std.specs.Prelude.{pos}
use Rattle.newt_graph.specs.Graph.{IsWord}

pub integer_word : (n : ℕ) → n ≤ 536870911 → IsWord (pos (4 * n))
integer_word n le = record { fits = record { sfits = omega arith }; low = λ e. omega arith }

pub character_word : (c : ℕ) → c < 65536 → IsWord (pos (16 * c + 6))
character_word c lt = record { fits = record { sfits = omega arith }; low = λ e. omega arith }
