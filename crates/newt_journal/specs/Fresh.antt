-- What a bank holds that is written anew.
use Rattle.std.specs.Prelude.{◌≡◌, ℕ, ◌-◌, List, [], ◌∷◌, ◌++◌, length, take, drop, replicate, Some}
use Rattle.newt_host.specs.Moments.{Change, Moment, image, bytes_after, IsDurable, LeftBy, SameOutside}
use Rattle.newt_spec_image.specs.Records.{AllVoteFor, bank_size, length_bytes, header, records, tail, version}

-- a header of version 2, an open gate and a length
unfoldable pub lead : ℕ → List ℕ
lead len = (header 2 ++ 0 ∷ []) ++ length_bytes len

-- A range begins with these bytes and has so many blank ones after them, and everything outside of it is as in the base, also after a crash.
pub record FilledBy (start size : ℕ) (base front : List ℕ) (more : ℕ) (done : List Change) : Type 0 where
  pub bytes : take size (drop start (bytes_after done)) ≡ front ++ replicate more 255
  pub kept : SameOutside start size base (bytes_after done)
  pub crash : (left : List ℕ) → LeftBy done left → SameOutside start size base left

-- A unit of so many blocks has one record, in the first bank, which has version 2 and for which all
-- three vote; blank bytes are after it, and nothing is pending.
pub record IsFresh (blocks : ℕ) (payload : List ℕ) (unit : ℕ) (now : Moment) : Type 0 where
  pub new : version (image unit now) ≡ 2
  pub one : records (image unit now) ≡ Some (payload ∷ [])
  pub alike : AllVoteFor 0 (image unit now)
  pub blank : tail (image unit now) ≡ replicate (bank_size blocks - 21 - length payload) 255
  pub durable : IsDurable unit now
