use Rattle.newt_memhost.specs.Log.{now_of}
use Rattle.newt_memhost.proofs.Torn.{has-past}
use Rattle.newt_memhost.proofs.host.MemHost.images.Goals as goal

pub image_within-requires : goal.image_within-requires
image_within-requires c = has-past c.args.self.now.cards c.args.unit (now_of c.args.self.now.log) c.args.self.now.told
