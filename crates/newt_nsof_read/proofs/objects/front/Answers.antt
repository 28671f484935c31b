-- What is at the front is what the definition says at each tag.
use Rattle.std.proofs.Common.{arith}
use Rattle.std.proofs.lemmas.Grind.{common_steps}
use Rattle.newt_nsof_read.specs.Stack.{front_of}
use Rattle.newt_nsof_read.proofs.objects.front.Goals as goal

pub returns-in_ok-value-in_default-tag : goal.returns-in_ok-value-in_default-tag
unfolding front_of
returns-in_ok-value-in_default-tag c = grind (arith, common_steps)

pub returns-in_err-value-in_default-tag : goal.returns-in_err-value-in_default-tag
unfolding front_of
returns-in_err-value-in_default-tag c = grind (arith, common_steps)

pub returns-in-Frame : goal.returns-in-Frame
unfolding front_of
returns-in-Frame c = grind (arith, common_steps)

pub returns-in-PlainArray : goal.returns-in-PlainArray
unfolding front_of
returns-in-PlainArray c = grind (arith, common_steps)

pub returns-in-Array : goal.returns-in-Array
unfolding front_of
returns-in-Array c = grind (arith, common_steps)
