use Rattle.std.proofs.Common.{sym}
use Rattle.newt_script.proofs.Forms.{has_its_form}
use Rattle.newt_script_session.proofs.Turning.{said_command}
use Rattle.newt_test_books.proofs.sessions.ask.Goals as goal

-- the command has its form
pub answered-requires-clause-form : goal.answered-requires-clause-form
answered-requires-clause-form g c =
    has_its_form _ c.in-Ok-Some.command
    (sym (said_command c.line.result c.in-Ok-Some.field-0 c.in-Ok-Some.command _ c.line.ensures.reading c.in-Ok-Some.is c.in-Ok-Some.field-0-is))
