use Rattle.std.proofs.Common.{◌≡◌, ℕ, ◌+◌, ◌-◌, List, take, drop, sym, ◌∙◌, ap, arith}
use Rattle.std.proofs.lemmas.List.{drop-drop}
use Rattle.newt_vbo.proofs.read.bytes_in.Goals as goal

pub returns-clause-bytes : goal.returns-clause-bytes
returns-clause-bytes c =
    let start = 12 + c.args.from in
    let size : start + c.args.count - start ≡ c.args.count = omega arith in
    ap (λ (n : ℕ). take n (drop start c.args.page.now)) size ∙ ap (λ (l : List ℕ). take c.args.count l) (sym (drop-drop c.args.from 12 c.args.page.now))
