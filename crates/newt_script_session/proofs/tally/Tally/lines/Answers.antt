use Rattle.newt_script_session.proofs.Texts.{lines_pushed}
use Rattle.newt_script_session.proofs.tally.Tally.lines.Goals as goal

pub returns : goal.returns
returns c =
    lines_pushed c.args.self.now c.from.result c.from-2.result c.from-3.result c.new-text.result.items c.push_line.new.text.items c.push_line-2.new.text.items c.push_line-3.new.text.items c.push_line-4.new.text.items
    c.from.ensures c.from-2.ensures c.from-3.ensures c.new-text.ensures.items c.in_ok-push_line.ensures c.in_ok-push_line-2.ensures c.in_ok-push_line-3.ensures c.in_ok-push_line-4.ensures
