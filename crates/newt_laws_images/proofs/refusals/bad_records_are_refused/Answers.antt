use Rattle.newt_laws_images.proofs.Refused.{bad-record, not-given, stands-twice}
use Rattle.newt_laws_images.proofs.refusals.bad_records_are_refused.Goals as goal

pub returns-clause-unreadable : goal.returns-clause-unreadable
returns-clause-unreadable c = λ graph_of version objects blocks id bytes at odd none s h. bad-record graph_of version objects blocks s h id bytes at odd none

pub returns-clause-not_given : goal.returns-clause-not_given
returns-clause-not_given c = λ graph_of version objects blocks id zero bytes d sig e first is at odd read given s h.
    not-given graph_of version objects blocks s h id zero bytes d sig e first is at odd read given

pub returns-clause-twice : goal.returns-clause-twice
returns-clause-twice c = λ graph_of version objects blocks id other bytes others sig e k at there n m apart read also uid s h.
    stands-twice graph_of version objects blocks s h id other bytes others sig e k at there n m apart read also uid
