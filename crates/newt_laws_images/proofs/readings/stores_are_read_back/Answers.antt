use Rattle.std.proofs.Common.{refl, sym, ◌∙◌}
use Rattle.newt_spec_graph.proofs.Lists.{some-same}
use Rattle.newt_laws_images.proofs.Assembled.{store-back, read-valid}
use Rattle.newt_laws_images.proofs.readings.stores_are_read_back.Goals as goal

pub returns-clause-back : goal.returns-clause-back
returns-clause-back c = store-back

pub returns-clause-sound : goal.returns-clause-sound
returns-clause-sound c = read-valid

pub returns-clause-at_most_one : goal.returns-clause-at_most_one
returns-clause-at_most_one c = λ graph_of objects blocks s t laid others s_valid t_valid s_laid t_laid.
    some-same s t (sym (store-back graph_of 2 objects blocks s laid refl s_valid s_laid) ∙ store-back graph_of 2 objects blocks t others refl t_valid t_laid)
