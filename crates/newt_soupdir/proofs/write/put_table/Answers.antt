use Rattle.newt_soupdir.proofs.Spelled.{table_fits}
use Rattle.newt_soupdir.proofs.write.put_table.Goals as goal

pub put_texts-requires-clause-few : goal.put_texts-requires-clause-few
put_texts-requires-clause-few c = rw c.symbols.ensures.symbols (table_fits c.args.table.now c.symbols.ensures.valid).few

pub put_texts-requires-clause-short : goal.put_texts-requires-clause-short
put_texts-requires-clause-short c = rw c.symbols.ensures.symbols (table_fits c.args.table.now c.symbols.ensures.valid).short
