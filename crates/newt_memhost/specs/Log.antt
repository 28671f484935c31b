-- What a log means.
use Rattle.std.specs.Prelude.{◌≡◌, ℕ, ◌+◌, ◌≤◌, List, [], ◌∷◌, ◌++◌, vec_len, vec_capacity}
use Rattle.newt_host.specs.Moments.{Moment}
use Rattle.newt_memhost.specs.Happened.{after, moment_of}
use Rattle.newt_memhost.specs.declared.happened.Happened.{Happened}
use Rattle.newt_memhost.specs.declared.log.Log.{Log}

-- the moment at its end
abbrev pub now_of : Log → Moment
now_of log = moment_of log.entries.items log.store.items

-- there is room for so many entries and bytes more
pub record HasRoom (entries bytes : ℕ) (log : Log) : Type 0 where
  pub entries_fit : vec_len log.entries + entries ≤ vec_capacity log.entries
  pub bytes_fit : vec_len log.store + bytes ≤ vec_capacity log.store

-- the same past
pub record SamePast (old new : Log) : Type 0 where
  pub entries : new.entries.items ≡ old.entries.items
  pub store : new.store.items ≡ old.store.items
  pub calls : new.calls ≡ old.calls
  pub moment : now_of new ≡ now_of old

-- no less room in all
pub record NoSmaller (old new : Log) : Type 0 where
  pub entries : vec_capacity old.entries ≤ vec_capacity new.entries
  pub store : vec_capacity old.store ≤ vec_capacity new.store

-- One call more, with its bytes, in no less room.
pub record Adds (entry : Happened) (bytes : List ℕ) (old new : Log) : Type 0 where
  pub entries : new.entries.items ≡ old.entries.items ++ entry ∷ []
  pub store : new.store.items ≡ old.store.items ++ bytes
  pub calls : new.calls ≡ old.calls + 1
  pub moment : now_of new ≡ after entry bytes (now_of old)
  pub more : NoSmaller old new
