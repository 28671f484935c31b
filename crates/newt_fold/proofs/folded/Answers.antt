use Rattle.std.proofs.Common.{sym, ◌∙◌, string_bytes}
use Rattle.std.proofs.lemmas.Str.{chars_from_encodes, IsUtf8-string_bytes}
use Rattle.caseless.specs.Caseless.{default_case_fold}
use Rattle.std.specs.Prelude.{chars}
use Rattle.newt_fold.proofs.Ascii.{lower_case_folds}
use Rattle.newt_fold.proofs.folded.Goals as goal

pub returns-then-is_ascii-clause-bytes : goal.returns-then-is_ascii-clause-bytes
returns-then-is_ascii-clause-bytes c = c.in_ok-lower.ensures ∙ lower_case_folds c.args.text.now c.if-is_ascii.ensures.cases

pub returns-then-is_ascii-clause-chars : goal.returns-then-is_ascii-clause-chars
returns-then-is_ascii-clause-chars c =
    sym (chars_from_encodes (default_case_fold (chars c.args.text.now)) (string_bytes c.in_ok-lower.lower) (IsUtf8-string_bytes c.in_ok-lower.lower) (sym (returns-then-is_ascii-clause-bytes c)))

pub returns-clause-chars : goal.returns-clause-chars
returns-clause-chars c =
    sym (chars_from_encodes (default_case_fold (chars c.args.text.now)) (string_bytes c.in_ok-folded.folded) (IsUtf8-string_bytes c.in_ok-folded.folded) (sym c.in_ok-folded.ensures))
