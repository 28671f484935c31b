-- A journal stays what it is while other units are touched, and the input and the output.
use Rattle.std.proofs.Common.{IsTrue, Bool, ◌≡◌, List, sym, subst}
use Rattle.newt_host.specs.Moments.{Change, changes}
use Rattle.newt_host.specs.Outside.{Outside, SameCards}
use Rattle.newt_host.proofs.Outside.{same_cards}
use Rattle.newt_journal.specs.Journal.{HeldBy, Stands}
use Rattle.newt_journal.specs.declared.journal.Journal.{Journal}

pub stands_elsewhere : (told : Bool) (j : Journal) (old new : Outside) → SameCards old new → (IsTrue told → changes j.unit new.now ≡ changes j.unit old.now) → Stands told j old → Stands told j new
stands_elsewhere told j old new cards same stands = record {
  has = same_cards cards stands.has;
  held = λ t. subst (λ (done : List Change). HeldBy j done) (sym (same t)) (stands.held t);
}
