-- The entry is read where it is asked for.
use Rattle.std.proofs.Common.{arith, ◌≡◌, refl, Bool, true, false, Option}
use Rattle.std.specs.Prelude.{slice_get}
use Rattle.std.proofs.lemmas.Result.{IfOk-weaker}
use Rattle.newt_host.proofs.Outside.{NoFault-refl}
use Rattle.newt_spec_world.specs.World.{flat}
use Rattle.newt_store_change.specs.Entries.{entry_said}
use Rattle.newt_store_change.specs.declared.entry.Entry.{Entry}
use Rattle.newt_engine_units.specs.Stands.{world_of}
use Rattle.newt_engine_hits.specs.Present.{entry_there}
use Rattle.newt_engine_hits.proofs.Reading.{asked-read, is-read, not-read}
use Rattle.newt_engine_cursors.specs.Reached.{IsAtHand}
use Rattle.newt_engine_cursors.proofs.settling.entry_if_asked.Goals as goal

both-ways : {b : Bool} → b ≡ true → b ≡ false → ⊥
both-ways e f = cc

pub returns-then-asks_any-clause-entry : goal.returns-then-asks_any-clause-entry
returns-then-asks_any-clause-entry g c t =
    let w = world_of g.C.Card.reads c.args.units.now (g.H.Host.outside c.args.host.now) in
    IfOk-weaker c.read_entry.result (λ (found : Option Entry). entry_said found ≡ entry_there w c.args.store c.args.soup c.args.uid)
    (λ (found : Option Entry). (n : Rattle.std.proofs.Common.ℕ) → IsAtHand w c.args.store c.args.soup c.args.uid found (flat (slice_get c.args.desk.now n)))
    (λ found e n asks. e) (c.read_entry.ensures.entry t)

pub returns-else-asks_any-clause-entry : goal.returns-else-asks_any-clause-entry
returns-else-asks_any-clause-entry g c t n asks = absurd (both-ways asks (c.if-asks_any.ensures.none refl n))

pub returns-else-asks_any-clause-reading : goal.returns-else-asks_any-clause-reading
returns-else-asks_any-clause-reading g c = is-read (not-read c.requires.stands) (NoFault-refl _) (asked-read refl)

pub returns-else-asks_any-clause-fetches : goal.returns-else-asks_any-clause-fetches
returns-else-asks_any-clause-fetches g c t u = omega arith

pub returns-then-asks_any-clause-unread : goal.returns-then-asks_any-clause-unread
returns-then-asks_any-clause-unread g c none = absurd (both-ways refl (c.if-asks_any.ensures.some none))

pub returns-else-asks_any-clause-unread : goal.returns-else-asks_any-clause-unread
returns-else-asks_any-clause-unread g c none u = omega arith
