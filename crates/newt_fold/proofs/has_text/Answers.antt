use Rattle.std.proofs.Common.{◌∙◌}
use Rattle.newt_fold.proofs.Parts.{found_text}
use Rattle.newt_fold.proofs.has_text.Goals as goal

pub returns : goal.returns
returns c =
    c.is_some.ensures
    ∙ found_text c.as_bytes.result.now c.as_bytes-2.result.now c.args.folded_text.now c.args.folded_part.now c.find.result
    c.as_bytes.ensures.value c.as_bytes-2.ensures.value c.utf8.folded_text c.utf8.folded_part c.find.ensures
