use Rattle.newt_host.specs.Moments.{image}
use Rattle.newt_check.proofs.Written.{reported}
use Rattle.newt_check.proofs.text.report_text.Goals as goal

pub returns-clause-text : goal.returns-clause-text
returns-clause-text g c tells =
    reported c.in_ok-report.report (image c.args.unit (g.H.Host.outside c.args.host.now).now) _ (c.in_ok-report.ensures.report tells) c.in_ok-report_line.ensures
