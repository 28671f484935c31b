use Rattle.std.proofs.Common.{arith, ℕ, List, ap, length, Vec, Global}
use Rattle.std.proofs.lemmas.List.{length-map}
use Rattle.newt_spec_store.specs.Image.{larges}
use Rattle.newt_test_streams.proofs.entries.written_again.Goals as goal

pub row_of-requires : goal.row_of-requires
row_of-requires c =
    let same = ap length c.in_ok-larges.ensures in
    let one = length-map c.in_ok-larges.larges.items (λ (bytes : Vec ℕ Global). bytes.items) in
    let all = length-map (larges c.args.graph.now) (λ (l : ℕ × List ℕ). l.1) in
    let seen = ap length c.as_slice.ensures.value in
    omega (arith, same, one, all, seen, c.in-len1.len_at_least, c.in-len1.len_below)
