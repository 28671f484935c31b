use Rattle.std.proofs.Common.{rules}
use Rattle.newt_query.proofs.Form.{is_query-framed, not_framed, no_tags, no_words, no_texts}
use Rattle.newt_query.proofs.shape.Shape.read.Goals as goal

pub returns-then-not-is_framed-clause-spec : goal.returns-then-not-is_framed-clause-spec
returns-then-not-is_framed-clause-spec c = λ is. not_framed c.args.graph.now (search rules)

pub returns-in_err-tags-clause-spec : goal.returns-in_err-tags-clause-spec
returns-in_err-tags-clause-spec c = λ is. no_tags c.args.graph.now (search (rules, c.in_err-tags.ensures.spec))

pub returns-in_err-words-clause-spec : goal.returns-in_err-words-clause-spec
returns-in_err-words-clause-spec c = λ is. no_words c.args.graph.now (search (rules, c.in_err-words.ensures.spec))

pub returns-in_err-texts-clause-spec : goal.returns-in_err-texts-clause-spec
returns-in_err-texts-clause-spec c = λ is. no_texts c.args.graph.now (search (rules, c.in_err-texts.ensures.spec))

pub returns-clause-form : goal.returns-clause-form
returns-clause-form c = is_query-framed c.args.graph.now (search rules) c.in_ok-paths.ensures.form c.in_ok-tags.ensures.form c.in_ok-words.ensures.form c.in_ok-texts.ensures.form
