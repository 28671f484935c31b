use Rattle.std.proofs.Common.{◌==◌, ◌∙◌, ap, map, not, rules}
use Rattle.std.proofs.lemmas.Fn.{filter_same}
use Rattle.newt_soupdir.specs.Bare.{bare_soup}
use Rattle.newt_soupdir.proofs.Lists.{filter_rows}
use Rattle.newt_soupdir.proofs.changes.drop_from.Goals as goal

pub returns : goal.returns
returns c =
    ap (map bare_soup) (filter_same _ (λ row. not (row.sig == c.args.sig)) _ (λ x b q r. search rules) _ _ c.retain.ensures.filtered)
    ∙ filter_rows (λ p. not (p.sig == c.args.sig)) bare_soup c.args.rows.now.items
