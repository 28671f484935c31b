use Rattle.std.proofs.Common.{◌∙◌, sym}
use Rattle.newt_script_words.proofs.Trimming.{without_blank, without_none, without_empty}
use Rattle.newt_script_words.proofs.blanks.without_last_blanks.Goals as goal

pub returns-then-not-is_blank : goal.returns-then-not-is_blank
returns-then-not-is_blank c = without_none c.loop-rest.rest.now c.in-len1-up.len_at_least (sym c.is_blank.ensures ∙ c.if-not-is_blank.true) ∙ c.loop-rest.invariant

pub loop-rest-preserved : goal.loop-rest-preserved
loop-rest-preserved c = without_blank c.loop-rest.rest.now c.in-len1-up.len_at_least (sym c.is_blank.ensures ∙ c.if-not-is_blank.false) ∙ c.loop-rest.invariant

pub returns : goal.returns
returns c = without_empty c.loop-rest.rest.now c.in_default.len_below ∙ c.loop-rest.invariant
