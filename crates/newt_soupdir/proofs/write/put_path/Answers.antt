use Rattle.newt_soupdir.proofs.Spelled.{path_few, path_short}
use Rattle.newt_soupdir.proofs.write.put_path.Goals as goal

pub put_texts-requires-clause-few : goal.put_texts-requires-clause-few
put_texts-requires-clause-few c = rw c.list.ensures.names (path_few c.args.path.now c.list.ensures.path)

pub put_texts-requires-clause-short : goal.put_texts-requires-clause-short
put_texts-requires-clause-short c = rw c.list.ensures.names (path_short c.args.path.now c.list.ensures.path)
