use Rattle.std.proofs.Common.{ℕ, ◌∙◌, ap}
use Rattle.newt_index_ranges.specs.Masks.{Masks, kept_mask}
use Rattle.newt_index_ranges.proofs.Kept.{looked-up}
use Rattle.newt_index_ranges.proofs.masks.Masks.get.Goals as goal

pub returns : goal.returns
returns c =
    c.copied.ensures ∙ c.get.ensures.value ∙ looked-up c.uid.inside.0 c.self.inside.masks.entries
    ∙ ap (λ (m : Masks). kept_mask c.uid.inside.0 m) c.self.view_is ∙ ap (λ (u : ℕ). kept_mask u c.args.self.now) c.uid.view_is
