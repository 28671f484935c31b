use Rattle.newt_tags.proofs.Bits.{mask_means}
use Rattle.newt_tags.proofs.laws.a_mask_means_the_tags.Goals as goal

pub returns : goal.returns
returns c = mask_means
