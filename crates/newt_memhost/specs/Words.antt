-- What a host keeps, in the words by which contracts name it.
use Rattle.std.specs.Prelude.{ℕ, List, Option}
use Rattle.newt_host.specs.Moments.{Moment}
use Rattle.newt_memhost.specs.Happened.{calls_in}
use Rattle.newt_memhost.specs.Past.{call_at, unit_at}
use Rattle.newt_memhost.specs.Within.{moment_before, moment_within}
use Rattle.newt_memhost.specs.declared.host.MemHost.{MemHost}

-- how many calls there were that answer a Result
abbrev pub calls_of : MemHost → ℕ
calls_of m = calls_in m.log.entries.items

-- the numbers of the calls that are to fail
abbrev pub failing_of : MemHost → List ℕ
failing_of m = m.failing.items

-- how many bytes a call on the input or the output moves at most
abbrev pub most_of : MemHost → ℕ
most_of m = m.most

-- the unit that the call of a number was on; none for a call on the input or the output
abbrev pub unit_called : ℕ → MemHost → Option ℕ
unit_called call m = unit_at (call_at call m.log.entries.items)

-- the moment at which the call of a number began
abbrev pub moment_at : ℕ → MemHost → Moment
moment_at call m = moment_before call m.log

-- the moment at which a crash within the call of a number comes
abbrev pub moment_in : ℕ → MemHost → Moment
moment_in call m = moment_within call m.log
