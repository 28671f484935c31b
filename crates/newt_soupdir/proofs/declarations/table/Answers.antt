use Rattle.newt_soupdir.proofs.Declared.{table_is}
use Rattle.newt_soupdir.proofs.declarations.table.Goals as goal

pub new-requires : goal.new-requires
new-requires c =
    table_is c.args.bytes.now c.in_ok-path.rest.now c.in_ok-symbols.rest.now c.in_ok-path.path c.in_ok-symbols.symbols.items c.in_ok-path.ensures c.in_ok-symbols.ensures
