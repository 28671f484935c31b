-- What is due is told, one note after another.
use Rattle.std.proofs.Common.{ap, sym}
use Rattle.newt_reply.specs.Said.{said}
use Rattle.newt_engine_whole.specs.Told.{all_due}
use Rattle.newt_engine_whole.specs.declared.due.Due.{Due}
use Rattle.newt_engine_whole.proofs.Told.{both-told, nothing-told, tells-as}
use Rattle.newt_engine_whole.proofs.whole.Whole.tell_done.Goals as goal

pub returns-in-Nothing : goal.returns-in-Nothing
returns-in-Nothing g c = nothing-told (ap (λ (d : Due). all_due d (said c.args.reply.now)) c.in-Nothing.is)

pub returns-in-Soup : goal.returns-in-Soup
returns-in-Soup g c = tells-as (sym (ap (λ (d : Due). all_due d (said c.args.reply.now)) c.in-Soup.is)) c.tell_made.ensures

pub returns-in-One : goal.returns-in-One
returns-in-One g c = tells-as (sym (ap (λ (d : Due). all_due d (said c.args.reply.now)) c.in-One.is)) c.tell_one.ensures

pub returns-in-Two : goal.returns-in-Two
returns-in-Two g c =
    tells-as (sym (ap (λ (d : Due). all_due d (said c.args.reply.now)) c.in-Two.is)) (both-told c.tell_one-in-Two.ensures c.tell_one-in-Two-2.ensures)
