use Rattle.std.proofs.Common.{◌∙◌, ap, min, ◌-◌, ◌^◌}
use Rattle.newt_union.proofs.View.{counted}
use Rattle.newt_union.proofs.members.Members.count.Goals as goal

pub returns : goal.returns
returns c spec = c.count_of.ensures ∙ ap (min (2 ^ 64 - 1)) (counted c.args.self.now c.self.inside.list.items c.as_slice.result.now c.self.view_is c.as_slice.ensures.value spec)
