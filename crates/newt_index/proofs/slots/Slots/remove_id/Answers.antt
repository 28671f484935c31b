use Rattle.std.proofs.Common.{◌==◌, not, filter, List, rules, ◌∙◌, ap}
use Rattle.std.proofs.lemmas.Map.Made.{filter_same_pairs}
use Rattle.newt_index.specs.Kept.{Entry}
use Rattle.newt_index.proofs.slots.Slots.remove_id.Goals as goal

pub returns-in-Lost : goal.returns-in-Lost
returns-in-Lost c =
    filter_same_pairs _ (λ (e : Entry). not (e.0.uid == c.args.uid)) _ (λ k v b w f' t. search rules) _ _ c.retain.ensures.filtered
    ∙ ap (λ (es : List Entry). filter (λ (e : Entry). not (e.0.uid == c.args.uid)) es) c.self.view_is
