-- What the replies of a script come to. All of it is this project's own.
use Rattle.std.specs.Prelude.{◌≡◌, ℕ, ◌≤◌, ◌<◌, ◌*◌, ◌^◌, ◌++◌, List, length, codes, count_by}
use Rattle.std.specs.Prelude.{sum_by}
use Rattle.newt_spec_script.specs.Rows.{Row, reply_texts}
use Rattle.newt_spec_script.specs.Generator.{begins, summary, summary_line}
use Rattle.newt_spec_whole.specs.Whole.{Whole}
use Rattle.newt_script_session.specs.declared.tally.Tally.{Tally}

-- The tally is that of these texts, each of which fits the memory.
pub record Counts (tally : Tally) (texts : List (List ℕ)) : Type 0 where
  pub commands : tally.commands ≡ length texts
  pub oks : tally.oks ≡ count_by (begins (codes "ok")) texts
  pub errors : tally.errors ≡ count_by (begins (codes "error")) texts
  pub bytes : tally.bytes ≡ sum_by length texts
  pub few : sum_by length texts ≤ length texts * 2 ^ 64

-- so it is, as long as its numbers reach
abbrev pub Tallies : Tally → List (List ℕ) → Type 0
Tallies tally texts = length texts < 2 ^ 64 → Counts tally texts

-- the four lines of a tally
unfoldable pub lines_of_tally : Tally → List ℕ
lines_of_tally tally =
    summary_line (codes "commands") tally.commands ++ summary_line (codes "ok") tally.oks
    ++ summary_line (codes "errors") tally.errors ++ summary_line (codes "bytes") tally.bytes

-- the summary of the replies of a run
unfoldable pub summary_of : List (Row Whole) → List ℕ
summary_of rows = summary (reply_texts rows)
