use Rattle.std.proofs.Common.{refl, rules}
use Rattle.newt_host.specs.Moments.{image}
use Rattle.newt_host.proofs.Moments.{Leaves-weaken}
use Rattle.newt_host.proofs.Outside.{same_cards}
use Rattle.newt_journal.proofs.Switches.{begin_same, begun}
use Rattle.newt_journal.proofs.switching.Switching.begin.Goals as goal

pub returns-in_err-begin_bank-clause-writes : goal.returns-in_err-begin_bank-clause-writes
returns-in_err-begin_bank-clause-writes g c = record {
  any_moment = λ t.
      Leaves-weaken (begin_same c.args.journal c.args.len (g.H.Host.outside c.args.host.now).now (c.requires.stands.held t) c.other.result c.other.ensures) (c.begin_bank.ensures.writes.any_moment t);
  alone = search rules;
  costs = search rules;
  wears = search rules;
  faults = search rules;
}

pub returns-clause-begun : goal.returns-clause-begun
returns-clause-begun g c = record {
  draft_of = record {
    has = same_cards c.begin_bank.ensures.writes.alone.cards c.requires.stands.has;
    held = λ t. begun c.args.journal c.args.len (g.H.Host.outside c.args.host.now).now (c.requires.stands.held t) c.other.result c.other.ensures (g.H.Host.outside c.begin_bank.new.host).now
        (c.requires.alike t) (c.in_ok-begin_bank.ensures.begun t) _ _;
  };
  on = refl;
  holds = refl;
  len_is = refl;
  put = refl;
  kind = refl;
  empty = λ image. refl;
  same = λ t. begin_same c.args.journal c.args.len (g.H.Host.outside c.args.host.now).now (c.requires.stands.held t) c.other.result c.other.ensures (image c.args.journal.unit (g.H.Host.outside c.begin_bank.new.host).now) (c.in_ok-begin_bank.ensures.begun t).kept;
}

pub returns-clause-writes : goal.returns-clause-writes
returns-clause-writes g c = record {
  any_moment = λ t.
      Leaves-weaken (begin_same c.args.journal c.args.len (g.H.Host.outside c.args.host.now).now (c.requires.stands.held t) c.other.result c.other.ensures) (c.begin_bank.ensures.writes.any_moment t);
  alone = search rules;
  costs = search rules;
  wears = search rules;
  faults = search rules;
}
