-- The mask and the graph are those of the entry.
use Rattle.std.proofs.Common.{◌≡◌, Bool, subst, option_map}
use Rattle.std.specs.Prelude.{IfOk}
use Rattle.newt_query.proofs.Keeping.{kept-by}
use Rattle.newt_query.proofs.kept.is_kept.Goals as goal

pub returns : goal.returns
returns c =
    subst (λ (b : Bool). IfOk c.passes.result (λ kept. kept ≡ b))
    (kept-by c.args.spec.now c.args.key.now (option_map (λ t. t.now) c.args.table) c.mask_by-mask.result c.args.graph.now c.mask_by-mask.ensures) c.passes.ensures
