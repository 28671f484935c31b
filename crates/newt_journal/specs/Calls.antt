-- What calls on a unit promise beside their own effect. All of it is this project's own.
use Rattle.std.specs.Prelude.{◌≡◌, ◌≤◌, ℕ, ◌*◌, Bool, IsTrue, List, Result, Ok, Err, IsErrOf}
use Rattle.newt_host.specs.Moments.{IsDurable, Leaves}
use Rattle.newt_host.specs.Outside.{Outside, Broke, HasBlocks, Spends, StopsAtFault, Touches, Wears, Work}
use Rattle.newt_journal.specs.declared.fault.JournalFault.{JournalFault}
use Rattle.newt_journal.specs.declared.fault.JournalFault.TheVariants.{NotStore, Device}

-- A unit of so many blocks is attached, of no more than a unit with banks has, and where bytes are
-- told nothing is pending on it.
pub record IsAtRest (told : Bool) (unit blocks : ℕ) (outside : Outside) : Type 0 where
  pub few : blocks ≤ 4099
  pub has : HasBlocks unit blocks outside
  pub durable : IsTrue told → IsDurable unit outside.now

-- A unit that may hold a journal: it has the blocks of two banks and the votes, no more than a unit
-- with banks has, and where bytes are told nothing is pending on it.
pub record MayHold (told : Bool) (unit : ℕ) (outside : Outside) : Type 0 where
  pub enough : 13 ≤ outside.blocks unit
  pub few : outside.blocks unit ≤ 4099
  pub durable : IsTrue told → IsDurable unit outside.now

-- so many bytes are programmed, so many blocks erased, and so many syncs asked for; none is fetched
abbrev pub writing : ℕ → ℕ → ℕ → Work
writing programs erases syncs =
    record { programs = programs; fetches = 0; erases = erases; syncs = syncs }

-- so many votes are read, and so many written anew
abbrev pub votes : ℕ → ℕ → Work
votes read anew = record { programs = anew; fetches = read; erases = anew; syncs = 2 * anew }

-- one vote, and all three of them, one of which is read twice
abbrev pub one_vote : Work
one_vote = votes 1 1

abbrev pub three_votes : Work
three_votes = votes 4 3

-- at most so much was done to a unit
pub record IsWithin (unit : ℕ) (work : Work) (old new : Outside) : Type 0 where
  pub costs : Spends unit work.programs work.fetches old new
  pub wears : Wears unit work.erases work.syncs old new

-- A call that reads: nothing happens, at most so many bytes are fetched, nothing is erased or
-- synced, nothing else is touched, and it stops at a fault and tells it.
pub record Reads {T E : Type 0} (unit fetches : ℕ) (result : Result T E) (old new : Outside)
    : Type 0 where
  pub moment : new.now ≡ old.now
  pub alone : Touches unit old new
  pub costs : Spends unit 0 fetches old new
  pub wears : Wears unit 0 0 old new
  pub faults : StopsAtFault unit result old new

-- A call that writes: whenever it is cut off, a crash leaves one of these images, at most so much
-- is done to the unit, nothing else is touched, and it stops at a fault and tells it.
pub record Programs {T E : Type 0} (told : Bool) (unit : ℕ) (work : Work) (leaves : List ℕ → Type 0)
    (result : Result T E) (old new : Outside) : Type 0 where
  pub any_moment : IsTrue told → Leaves unit leaves old.now new.now
  pub alone : Touches unit old new
  pub costs : Spends unit work.programs work.fetches old new
  pub wears : Wears unit work.erases work.syncs old new
  pub faults : StopsAtFault unit result old new

-- a journal was opened, or the image holds none: the answer is no end of the run
abbrev pub IsOpening : {T : Type 0} → Result T JournalFault → Type 0
IsOpening (Ok journal) = Unit {0}
IsOpening (Err NotStore) = Unit {0}
IsOpening (Err Device) = ⊥

-- An opening of a journal reads, and it stops at a fault and tells it.
pub record OpensJournal {T : Type 0} (unit fetches : ℕ) (result : Result T JournalFault)
    (old new : Outside) : Type 0 where
  pub moment : new.now ≡ old.now
  pub alone : Touches unit old new
  pub costs : Spends unit 0 fetches old new
  pub wears : Wears unit 0 0 old new
  pub cause : IsErrOf result Device → Broke unit old new
  pub no_fault : IsOpening result → new.dev_faults unit ≡ old.dev_faults unit
