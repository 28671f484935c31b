use Rattle.std.proofs.Common.{◌≡◌, ℕ, ◌==◌, not, filter, List, sym, ◌∙◌, ap}
use Rattle.std.specs.BTreeMap.{is_at}
use Rattle.std.specs.Map.{lookup}
use Rattle.std.specs.Ordering.{nat_cmp}
use Rattle.newt_index_ranges.specs.Masks.{Masks, without_mask}
use Rattle.newt_index_ranges.proofs.Kept.{one-removed}
use Rattle.newt_index_ranges.proofs.masks.Masks.remove.Goals as goal

pub returns : goal.returns
returns c =
    let u : ℕ = c.uid.inside.0 in
    let es : List (ℕ × ℕ) = c.self.inside.masks.entries in
    let left : c.remove.new.self.entries ≡ filter (λ e. not (e.0 == u)) es =
    c.remove.ensures.entries ∙ one-removed u es (ap (lookup (is_at (nat_cmp u))) (sym c.remove.ensures.entries) ∙ c.remove.ensures.updates.1) in
    ap (λ (l : List (ℕ × ℕ)). let m : Masks = record { table = c.self.inside.table; masks = l } in m) left
    ∙ ap (λ (m : Masks). without_mask u m) c.self.view_is ∙ ap (λ (v : ℕ). without_mask v c.args.self.now) c.uid.view_is
