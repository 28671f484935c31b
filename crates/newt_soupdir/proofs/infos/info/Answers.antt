-- An info frame is read from the bytes that its length tells.
use Rattle.std.proofs.Common.{rules}
use Rattle.newt_soupdir.specs.Reading.{info_at}
use Rattle.newt_soupdir.proofs.infos.info.Goals as goal

pub returns : goal.returns
unfolding info_at
returns c = search rules
