use Rattle.newt_memhost.proofs.Torn.{within-there, within-past}
use Rattle.newt_memhost.proofs.past.end_of.Goals as goal

pub returns-then-place-log-clause-within : goal.returns-then-place-log-clause-within
returns-then-place-log-clause-within c =
    let e = c.place_of-place.ensures in
    (within-there c.args.log.now c.args.call c.place_of-place.result c.torn_images.result c.index-log-place.result e.before e.there c.if-place-log.true c.index-log-place.is c.torn_images.ensures).0

pub returns-else-place-log-clause-within : goal.returns-else-place-log-clause-within
returns-else-place-log-clause-within c =
    let e = c.place_of-place.ensures in
    within-past c.args.log.now c.args.call c.place_of-place.result e.before e.there c.if-place-log.false
