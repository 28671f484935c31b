use Rattle.std.proofs.Common.{◌≡◌, sym, string_bytes}
use Rattle.std.specs.Char.Utf16.{utf16_lossy_chars}
use Rattle.std.specs.Str.{IsAscii}
use Rattle.std.proofs.lemmas.Str.{chars_from_encodes, IsUtf8-string_bytes}
use Rattle.newt_fold.proofs.Ascii.{units_as_bytes}
use Rattle.newt_fold.proofs.units_to_text.Goals as goal

pub returns-in-Some-clause-bytes : goal.returns-in-Some-clause-bytes
returns-in-Some-clause-bytes c =
    let same : string_bytes c.in-Some.text ≡ c.args.units.now = rw c.in-Some.is at c.in_ok-text.ensures.bytes in
    let ascii : IsAscii (string_bytes c.in-Some.text) = rw c.in-Some.is at c.in_ok-text.ensures.ascii in
    units_as_bytes (string_bytes c.in-Some.text) c.args.units.now same ascii

pub returns-in-Some-clause-chars : goal.returns-in-Some-clause-chars
returns-in-Some-clause-chars c =
    sym (chars_from_encodes (utf16_lossy_chars c.args.units.now) (string_bytes c.in-Some.text) (IsUtf8-string_bytes c.in-Some.text) (sym (returns-in-Some-clause-bytes c)))

pub returns-clause-chars : goal.returns-clause-chars
returns-clause-chars c =
    sym (chars_from_encodes (utf16_lossy_chars c.args.units.now) (string_bytes c.in_ok-text-2.text) (IsUtf8-string_bytes c.in_ok-text-2.text) (sym c.in_ok-text-2.ensures))
