-- The moments of a call.
use Rattle.std.specs.Prelude.{ℕ}
use Rattle.newt_host.specs.Moments.{Moment}
use Rattle.newt_memhost.specs.Happened.{moment_of}
use Rattle.newt_memhost.specs.Past.{before, within}
use Rattle.newt_memhost.specs.declared.log.Log.{Log}

-- the moment at which the call of a number began
abbrev pub moment_before : ℕ → Log → Moment
moment_before call log = moment_of (before call log.entries.items) log.store.items

-- the moment at which a crash within that call comes
abbrev pub moment_within : ℕ → Log → Moment
moment_within call log = moment_of (within call log.entries.items) log.store.items
