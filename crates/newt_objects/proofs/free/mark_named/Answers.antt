use Rattle.std.proofs.Common.{◌≡◌, ℕ, ◌==◌, ◌||◌, Bool, List, sym, ◌∙◌, ap}
use Rattle.std.specs.List.{list_any}
use Rattle.newt_pagebook.specs.Batch.{names}
use Rattle.newt_pagebook.proofs.Changes.{names-tests}
use Rattle.newt_objects.proofs.Flags.{marks-more}
use Rattle.newt_objects.proofs.free.mark_named.Goals as goal

pub returns : goal.returns
returns c =
    let puts : ℕ → Bool = λ q. list_any (λ (put : ℕ × List ℕ). q == put.0) c.puts.result.now in
    let deletes : ℕ → Bool = λ q. list_any (λ n. q == n) c.deletes.result.now in
    let tests : (q : ℕ) → names c.args.batch.now q ≡ (puts q || deletes q) = λ q.
    names-tests c.args.batch.now q
    ∙ ap (λ (l : List (ℕ × List ℕ)). list_any (λ (put : ℕ × List ℕ). q == put.0) l || list_any (λ n. q == n) c.args.batch.now.deletes) (sym c.puts.ensures.puts)
    ∙ ap (λ (l : List ℕ). puts q || list_any (λ n. q == n) l) (sym c.deletes.ensures.deletes) in
    marks-more puts deletes (names c.args.batch.now) c.args.taken.now.items c.mark_puts.new.taken.items c.mark_numbers.new.taken.items tests c.mark_puts.ensures c.mark_numbers.ensures
