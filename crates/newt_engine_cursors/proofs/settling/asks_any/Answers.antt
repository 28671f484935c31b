-- One cursor after another.
use Rattle.std.proofs.Common.{arith, ◌∙◌, ap, sym, inl, inr, ℕ, Option, length}
use Rattle.std.specs.Prelude.{slice_get}
use Rattle.newt_spec_query.specs.Cursor.{Cursor}
use Rattle.newt_spec_world.specs.World.{flat}
use Rattle.newt_engine_cursors.specs.Reached.{asks_on}
use Rattle.newt_engine_cursors.proofs.Cursors.{next-or-before, none-after, one-or-after}
use Rattle.newt_engine_cursors.proofs.settling.asks_any.Goals as goal

pub loop-cursor-init : goal.loop-cursor-init
loop-cursor-init c = record { none = λ n h. absurd (omega (arith, h)) }

pub loop-cursor-preserved : goal.loop-cursor-preserved
loop-cursor-preserved c = record {
  none = λ n h. elim (next-or-before n c.loop-cursor.cursor h) [
    | inl less ↦ c.loop-cursor.invariant.none n less
    | inr same ↦ ap (λ (k : ℕ). asks_on c.args.store c.args.soup c.args.uid (flat (slice_get c.args.desk.now k))) same ∙ sym c.if-asks.ensures
  ];
}

pub returns-then-asks-clause-some : goal.returns-then-asks-clause-some
returns-then-asks-clause-some c none = c.if-asks.ensures ∙ none c.loop-cursor.cursor

pub returns-clause-none : goal.returns-clause-none
returns-clause-none c says n =
    let test = c.loop-cursor-test.false in
    let places = c.requires.places in
    elim (one-or-after n (length c.args.desk.now)) [
      | inl less ↦ c.loop-cursor.invariant.none n (omega (arith, less, test, places))
      | inr after ↦ ap (λ (k : Option Cursor). asks_on c.args.store c.args.soup c.args.uid k) (none-after c.args.desk.now n after)
    ]
