-- The key and the mask decide.
use Rattle.std.proofs.Common.{◌∙◌, option_map}
use Rattle.newt_query.proofs.Keeping.{kept-unread}
use Rattle.newt_query.proofs.kept.is_kept_unread.Goals as goal

pub returns : goal.returns
returns c graph is = c.takes.ensures ∙ kept-unread c.args.spec.now c.args.key.now (option_map (λ t. t.now) c.args.table) c.args.mask graph c.requires is
