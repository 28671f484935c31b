-- One place after another.
use Rattle.std.proofs.Common.{arith, ◌∙◌, ap, sym, subst, ◌≤◌, length, List, Option}
use Rattle.std.specs.Prelude.{slice_get}
use Rattle.newt_spec_query.specs.Cursor.{Cursor}
use Rattle.newt_spec_world.specs.World.{flat}
use Rattle.newt_engine_cursors.specs.Reached.{IsAtHand}
use Rattle.newt_laws_reach.specs.Reach.{on_entry, settle_where}
use Rattle.newt_engine_units.specs.Stands.{world_of}
use Rattle.newt_engine_cursors.proofs.Cursors.{below-none, below-more, below-all, below-at}
use Rattle.newt_engine_cursors.proofs.settling.give_keys.Goals as goal

pub loop-cursor-init : goal.loop-cursor-init
loop-cursor-init g c = record { desk = c.requires; keys = λ o eight stand apart read. sym (below-none _ c.args.desk.now) }

pub give_key-requires : goal.give_key-requires
give_key-requires g c = c.loop-cursor.invariant.desk

pub loop-cursor-preserved : goal.loop-cursor-preserved
loop-cursor-preserved g c = record {
  desk = c.give_key.ensures.desk;
  keys = λ o eight stand apart read.
      let w = world_of g.C.Card.reads c.args.units.now o in
      let was = c.loop-cursor.invariant.keys o eight stand apart read in
      c.in_ok-give_key.ensures.keys o eight stand apart
      (subst (λ (k : Option Cursor). IsAtHand w c.args.store c.args.soup c.args.uid c.args.entry.now k)
      (sym (ap (λ (ks : List (Option Cursor)). flat (slice_get ks c.loop-cursor.cursor)) was ∙ below-at c.loop-cursor.cursor (settle_where (on_entry c.args.store c.args.soup c.args.uid) w) c.args.desk.now))
      (read c.loop-cursor.cursor))
      ∙ below-more c.loop-cursor.cursor (settle_where (on_entry c.args.store c.args.soup c.args.uid) (world_of g.C.Card.reads c.args.units.now o)) c.args.desk.now c.loop-cursor.desk
      was;
}

pub returns-clause-desk : goal.returns-clause-desk
returns-clause-desk g c = c.loop-cursor.invariant.desk

pub returns-clause-keys : goal.returns-clause-keys
returns-clause-keys g c o eight stand apart read =
    let test = c.loop-cursor-test.false in
    let places = c.requires.places in
    let all : length c.args.desk.now ≤ c.loop-cursor.cursor = omega (arith, test, places) in
    c.loop-cursor.invariant.keys o eight stand apart read
    ∙ below-all c.loop-cursor.cursor (settle_where (on_entry c.args.store c.args.soup c.args.uid) (world_of g.C.Card.reads c.args.units.now o)) c.args.desk.now all
