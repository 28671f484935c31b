-- A soup was made, where the reply has a signature.
use Rattle.std.proofs.Common.{ap, refl, sym}
use Rattle.newt_reply.specs.Said.{said}
use Rattle.newt_reply.specs.declared.reply.Reply.{Reply}
use Rattle.newt_engine_whole.specs.Told.{made}
use Rattle.newt_engine_whole.proofs.Told.{nothing-told, tells-as, unmade}
use Rattle.newt_engine_whole.proofs.whole.Whole.tell_made.Goals as goal

pub returns-in-Number : goal.returns-in-Number
returns-in-Number g c =
    tells-as (sym (ap (λ (r : Reply). made c.args.unit c.args.name.now (said r)) c.in-Number.is)) (record { watches = λ ws kept. c.note.ensures ws kept; world = refl; works = refl })

pub returns-in_default : goal.returns-in_default
returns-in_default g c = nothing-told (unmade c.args.unit c.args.name.now c.args.reply.now c.in_default.not-Number)
