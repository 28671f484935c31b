use Rattle.std.proofs.Common.{◌≡◌, ap, Option, IsSome, Some, is_some}
use Rattle.newt_spec_check.proofs.Law.{store-whole, whole-store}
use Rattle.newt_spec_check.proofs.damaged_images.damaged_images_are_no_stores.Goals as goal

is-some : {X : Type 0} (o : Option X) (x : X) → o ≡ Some x → IsSome o
is-some o x h = ap is_some h

pub returns-clause-sound : goal.returns-clause-sound
returns-clause-sound c = λ graph_of image s reads are h. store-whole graph_of image reads are s h

pub returns-clause-complete : goal.returns-clause-complete
returns-clause-complete c = λ graph_of image reads are banks h. let s = whole-store graph_of image reads are banks h in is-some _ s.0 s.1
