use Rattle.newt_script_words.proofs.Quotes.{first_more}
use Rattle.newt_script_words.proofs.names.next_in_quotes.Goals as goal

pub returns-else-byte-eq92-clause-step : goal.returns-else-byte-eq92-clause-step
returns-else-byte-eq92-clause-step c = first_more c.args.text.now c.in-len1-up.len_at_least c.if-byte-eq34.false c.if-byte-eq92.false
