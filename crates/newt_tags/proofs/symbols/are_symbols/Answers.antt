use Rattle.std.proofs.Common.{◌∙◌, rules}
use Rattle.newt_tags.proofs.Looked.{symbols_one, symbols_several, symbols_neither}
use Rattle.newt_tags.proofs.symbols.are_symbols.Goals as goal

pub returns-then-is_symbol : goal.returns-then-is_symbol
returns-then-is_symbol c = symbols_one c.args.nodes.now c.args.value (search rules)

pub returns-in-Some : goal.returns-in-Some
returns-in-Some c = c.all_symbols.ensures ∙ symbols_several c.args.nodes.now c.args.value c.in-Some.values.now (search rules) (search rules)

pub returns-in-None : goal.returns-in-None
returns-in-None c = symbols_neither c.args.nodes.now c.args.value (search rules) (search rules)
