-- A number that is written into a part of a slice.
use Rattle.std.proofs.Common.{◌≡◌, ℕ, ◌+◌, ◌-◌, ◌/◌, ◌≤◌, List, [], ◌++◌, length, take, drop, refl, arith, append_assoc, length-drop}
use Rattle.byteorder.specs.Endian.{big_bytes}
use Rattle.newt_base.specs.Text.{be32}
use Rattle.std.proofs.lemmas.List.{append-nil, drop-drop, drop_all, take_all}
use borrow.Rule.Slice.PartMut.{put_mid, mid_of}

-- the part is all that stands from `at` on, and its first n bytes are written
pub written : (at k n : ℕ) (out bytes : List ℕ) → at + n ≤ length out → k ≡ length out - at
    → put_mid at k out (bytes ++ drop n (mid_of at k out)) ≡ (take at out ++ bytes) ++ drop (at + n) out
written at k n out bytes inside size =
    let len = length-drop at out in
    let mid : take k (drop at out) ≡ drop at out = take_all k (drop at out) (omega arith) in
    let post : drop k (drop at out) ≡ [] = drop_all k (drop at out) (omega arith) in
    rw (mid, post, append-nil, drop-drop, append_assoc) refl

-- the kit's four bytes are these
pub big_bytes-be32 : (n : ℕ) → big_bytes 4 n ≡ be32 n
big_bytes-be32 n =
    let quarter : n / 16777216 ≡ n / 65536 / 256 = omega arith in
    rw quarter refl
