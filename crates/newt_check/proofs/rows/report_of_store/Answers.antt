use Rattle.std.proofs.Common.{length, arith, sym, ◌∙◌, ap}
use Rattle.std.specs.FinMap as map
use Rattle.newt_spec_check.specs.Damage.{all_named}
use Rattle.newt_check.proofs.Stores.{few-soups, odd-few, of-cost, of-large, of-store}
use Rattle.newt_check.proofs.rows.report_of_store.Goals as goal

pub returns-in-Some : goal.returns-in-Some
returns-in-Some c now texts s = of-large now texts c.args.directory.now c.args.ids.now c.args.counts.now c.args.blocks c.args.pages s c.in-Some.id
    (sym c.in-Some.is ∙ c.first_stray.ensures (all_named (map.entries texts)) s.counted)

pub returns-then-pages-cap : goal.returns-then-pages-cap
returns-then-pages-cap c now texts s = of-cost now texts c.args.directory.now c.args.ids.now c.args.counts.now c.args.blocks c.args.pages s
    (sym c.in_default.is ∙ c.first_stray.ensures (all_named (map.entries texts)) s.counted) (omega (arith, c.cap.ensures, c.if-pages-cap.true))

pub overflow_cast-soups : goal.overflow_cast-soups
overflow_cast-soups c =
    let few = few-soups c.args.directory.now c.requires.formed in
    let size = ap length c.list.ensures in
    omega (arith, few, size)

pub returns : goal.returns
returns c now texts s =
    let none = sym c.in_default.is ∙ c.first_stray.ensures (all_named (map.entries texts)) s.counted in
    let few = odd-few now texts c.args.directory.now c.args.ids.now c.args.counts.now c.args.blocks c.args.pages s none in
    of-store now texts c.args.directory.now c.args.ids.now c.args.counts.now c.args.blocks c.args.pages s none
    (omega (arith, c.cap.ensures, c.if-pages-cap.false)) (length c.list.result.now) c.count_odd.result (ap length c.list.ensures) (c.count_odd.ensures (omega (arith, few)))
