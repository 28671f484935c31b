use Rattle.std.proofs.Common.{refl, rules}
use Rattle.newt_spec_image.specs.Records.{length_bytes}
use Rattle.newt_host.proofs.Outside.{same_cards}
use Rattle.newt_journal.proofs.Append.{blank, any_moment, same_reading, drafted_now, rest_left}
use Rattle.newt_journal.proofs.appending.Appending.begin.Goals as goal

pub program_piece-requires-clause-blank : goal.program_piece-requires-clause-blank
unfolding length_bytes
program_piece-requires-clause-blank g c t = blank c.args.journal c.args.len c.requires.some c.requires.fits (g.H.Host.outside c.args.host.now).now (c.requires.stands.held t) _ c.to_be_bytes.ensures

pub returns-in_err-program_piece-clause-writes : goal.returns-in_err-program_piece-clause-writes
unfolding length_bytes
returns-in_err-program_piece-clause-writes g c = record {
  any_moment = λ t. any_moment c.args.journal c.args.len c.requires.some c.requires.fits _ (c.requires.stands.held t) _ c.to_be_bytes.ensures (c.program_piece.ensures.wrote t);
  alone = search rules;
  costs = search rules;
  wears = search rules;
  faults = search rules;
}

pub returns-clause-begun : goal.returns-clause-begun
unfolding length_bytes
returns-clause-begun g c = record {
  draft_of = record {
    has = same_cards c.program_piece.ensures.writes.alone.cards c.requires.stands.has;
    held = λ t. drafted_now c.args.journal c.args.len c.requires.some c.requires.fits _ (c.requires.stands.held t) _ c.to_be_bytes.ensures (c.in_ok-program_piece.ensures.wrote t) _ _;
  };
  on = refl;
  holds = refl;
  len_is = refl;
  put = refl;
  kind = refl;
  empty = λ image. refl;
  same = λ t. same_reading c.args.journal c.args.len c.requires.some c.requires.fits _ (c.requires.stands.held t) _ c.to_be_bytes.ensures (c.in_ok-program_piece.ensures.wrote t);
}

pub returns-clause-writes : goal.returns-clause-writes
unfolding length_bytes
returns-clause-writes g c = record {
  any_moment = λ t. any_moment c.args.journal c.args.len c.requires.some c.requires.fits _ (c.requires.stands.held t) _ c.to_be_bytes.ensures (c.program_piece.ensures.wrote t);
  alone = search rules;
  costs = search rules;
  wears = search rules;
  faults = search rules;
}

pub returns-clause-rest : goal.returns-clause-rest
returns-clause-rest g c t = rest_left c.args.journal c.args.len c.requires.some c.requires.fits (g.H.Host.outside c.args.host.now).now (c.requires.stands.held t)
