use Rattle.newt_host.specs.Outside.{blank}
use Rattle.newt_memhost.proofs.unit.erase.Goals as goal

pub returns-clause-put : goal.returns-clause-put
unfolding blank
returns-clause-put c = record {
  event = c.write.ensures.put.event;
  stands = c.write.ensures.put.stands;
  pending = c.write.ensures.put.pending;
  unchanged = c.write.ensures.put.unchanged;
}
