use Rattle.newt_laws_images.proofs.Refused.{has-names, named-by-two, named-by-one}
use Rattle.newt_laws_images.proofs.refusals.bad_names_are_refused.Goals as goal

pub returns-clause-not_named : goal.returns-clause-not_named
returns-clause-not_named c = λ graph_of version objects blocks id bytes at n even none s h. let k = has-names graph_of version objects blocks s h id bytes at n even in none k.0 k.1 k.2 k.3 k.4

pub returns-clause-by_two : goal.returns-clause-by_two
returns-clause-by_two c = λ graph_of version objects blocks id other o bytes others at there n m apart k l s h. named-by-two graph_of version objects blocks s h id other o bytes others at there n m apart k l

pub returns-clause-by_one : goal.returns-clause-by_one
returns-clause-by_one c = λ graph_of version objects blocks id bytes at odd twice s h. twice (named-by-one graph_of version objects blocks s h id bytes at odd)
