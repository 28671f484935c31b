-- One unit after another.
use Rattle.std.proofs.Common.{arith, ◌∙◌, ap, sym, subst, List, [], ◌∷◌, ◌++◌, ◌+◌, ◌≤◌, drop, length}
use Rattle.std.specs.Prelude.{filter_map}
use Rattle.newt_cursor.specs.Seen.{query_of}
use Rattle.newt_spec_world.specs.First.{unit_numbers}
use Rattle.newt_union.specs.Merged.{Member}
use Rattle.std.proofs.lemmas.List.{length-append}
use Rattle.newt_engine_units.specs.Stands.{card_count, world_of}
use Rattle.newt_engine_units.proofs.Few.{ahead-less, ahead-some}
use Rattle.newt_engine_units.proofs.Known.{Laws}
use Rattle.newt_engine_hits.specs.Searched.{AreMembers, seen_member}
use Rattle.newt_engine_hits.proofs.Searching.{unit_member, no-members, one-member, member-none, member-more, members-all, unit-members}
use Rattle.newt_engine_hits.proofs.search.members.Goals as goal
use Rattle.newt_engine_hits.proofs.search.members.Goals.{in-Some, in_default}

pub loop-number-init : goal.loop-number-init
loop-number-init g c = record {
  few = subst (λ (ms : List Member). length ms + card_count c.args.units.now.slots.items ≤ 4) (sym c.new-members.ensures) (let few = c.requires in omega (arith, few));
  are = subst (AreMembers c.args.query.now.spec.index) (sym c.new-members.ensures) (no-members c.args.query.now.spec.index);
  all = λ outside eight stands.
      ap (λ (ms : List Member). ms ++ filter_map (unit_member (query_of c.args.query.now) (world_of g.C.Card.reads c.args.units.now outside)) unit_numbers) c.new-members.ensures;
}

pub add-requires : goal.add-requires
add-requires g c =
    let here = ahead-some c.args.units.now.slots.items c.loop-number.number c.in-Some.ensures.mounted in
    let few = c.loop-number.invariant.few in
    omega (arith, few, here)

pub loop-number-preserved : goal.loop-number-preserved
loop-number-preserved g c = elim c.match-member_on.branch [
  | in-Some w ↦
      let m : Member = seen_member w.in-Some.member in
      let is = w.members-is ∙ w.add.ensures in
      record {
        few =
            let here = ahead-some c.args.units.now.slots.items c.loop-number.number w.in-Some.ensures.mounted in
            subst (λ (ms : List Member). length ms + card_count (drop (c.loop-number.number + 1) c.args.units.now.slots.items) ≤ 4) (sym is)
            (let more = length-append c.loop-number.members (m ∷ []) in let few = c.loop-number.invariant.few in omega (arith, few, here, more));
        are = subst (AreMembers c.args.query.now.spec.index) (sym is)
            (one-member c.args.query.now.spec.index c.loop-number.members m c.loop-number.invariant.are w.in-Some.ensures.sorted.1 w.in-Some.ensures.sorted.0);
        all = λ outside eight stands.
            let f = unit_member (query_of c.args.query.now) (world_of g.C.Card.reads c.args.units.now outside) in
            ap (λ (ms : List Member). ms ++ filter_map f (drop (c.loop-number.number + 1) unit_numbers)) is
            ∙ member-more f c.loop-number.members m c.loop-number.number c.loop-number-test.true (c.loop-number.invariant.all outside eight stands)
            (sym (w.in-Some.ensures.found outside eight stands));
      }
  | in_default w ↦ record {
    few =
        subst (λ (ms : List Member). length ms + card_count (drop (c.loop-number.number + 1) c.args.units.now.slots.items) ≤ 4) (sym w.members-is)
        (let less = ahead-less c.args.units.now.slots.items c.loop-number.number in let few = c.loop-number.invariant.few in omega (arith, few, less));
    are = subst (AreMembers c.args.query.now.spec.index) (sym w.members-is) c.loop-number.invariant.are;
    all = λ outside eight stands.
        let f = unit_member (query_of c.args.query.now) (world_of g.C.Card.reads c.args.units.now outside) in
        ap (λ (ms : List Member). ms ++ filter_map f (drop (c.loop-number.number + 1) unit_numbers)) w.members-is
        ∙ member-none f c.loop-number.members c.loop-number.number c.loop-number-test.true (c.loop-number.invariant.all outside eight stands)
        (sym (w.in_default.ensures.found outside eight stands));
  }
]

pub returns-clause-are : goal.returns-clause-are
returns-clause-are g c = c.loop-number.invariant.are

pub returns-clause-all : goal.returns-clause-all
returns-clause-all g c outside eight stands =
    let laws : Laws g.C.Card.reads g.C.Card.place g.C.Card.soups g.C.Card.stands = record { formed = g.met.C.Card.formed; plain = g.met.C.Card.plain; durable = g.met.C.Card.durable; banks = g.met.C.Card.banks; kept = g.met.C.Card.kept } in
    members-all (unit_member (query_of c.args.query.now) (world_of g.C.Card.reads c.args.units.now outside)) c.loop-number.members c.loop-number.number
    (omega (arith, c.loop-number-test.false, c.loop-number.auto.number-end)) (c.loop-number.invariant.all outside eight stands)
    ∙ unit-members laws c.args.units.now outside eight stands (query_of c.args.query.now)
