use Rattle.std.proofs.Common.{arith}
use Rattle.newt_nsof_write.proofs.Few.{given_few}
use Rattle.newt_nsof_write.proofs.given.Numbers.of.Goals as goal

pub overflow_cast-result : goal.overflow_cast-result
overflow_cast-result c =
    record { fits = omega (arith, c.in-Some.ensures.within, given_few 65535 c.self.inside.given.keys c.self.inside.distinct c.self.inside.small) }

pub returns-in-Some-clause-small : goal.returns-in-Some-clause-small
returns-in-Some-clause-small c =
    omega (arith, c.in-Some.ensures.within, given_few 65535 c.self.inside.given.keys c.self.inside.distinct c.self.inside.small)
