use Rattle.newt_laws_hits.proofs.Stepping.{next-walked, previous-walked, first-is, last-is, at_key-walked, after-is, before-is}
use Rattle.newt_laws_hits.proofs.walks.walks_pass_over_what_is_not_kept.Goals as goal

pub returns-clause-next : goal.returns-clause-next
returns-clause-next c index keep hs place rise = next-walked index keep hs rise place

pub returns-clause-previous : goal.returns-clause-previous
returns-clause-previous c index keep hs place rise = previous-walked index keep hs rise place

pub returns-clause-first : goal.returns-clause-first
returns-clause-first c = first-is

pub returns-clause-last : goal.returns-clause-last
returns-clause-last c = last-is

pub returns-clause-at_key : goal.returns-clause-at_key
returns-clause-at_key c index keep hs k rise = at_key-walked index keep hs rise k

pub returns-clause-after : goal.returns-clause-after
returns-clause-after c = after-is

pub returns-clause-before : goal.returns-clause-before
returns-clause-before c = before-is
