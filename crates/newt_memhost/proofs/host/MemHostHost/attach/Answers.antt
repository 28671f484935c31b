use Rattle.std.proofs.Common.{◌≡◌, ℕ, ◌+◌, ◌<◌, ◌≤◌, List, ◌∷◌, length, get_or, Vec, Global, vec_len, vec_capacity, refl, sym, ◌∙◌, ap, subst, arith}
use Rattle.std.proofs.lemmas.Bool.{false≢true}
use Rattle.newt_host.specs.Moments.{Attached, On, output}
use Rattle.newt_host.proofs.Outside.{SameCards-refl}
use Rattle.newt_memhost.specs.Calls.{HasMoved, IsPlaceOf}
use Rattle.newt_memhost.specs.Cards.{free_device}
use Rattle.newt_memhost.specs.Log.{now_of}
use Rattle.newt_memhost.specs.Outside.{outside_of}
use Rattle.newt_memhost.specs.declared.card.Device.{Device}
use Rattle.newt_memhost.proofs.Cards.{eight-set, read-free, told-attach}
use Rattle.newt_memhost.proofs.Devices.{unknown, found, attaches, attach_call}
use Rattle.newt_memhost.proofs.Quiet.{same-counts}
use Rattle.newt_memhost.proofs.host.MemHostHost.attach.Goals as goal

pub returns-in_default : goal.returns-in_default
returns-in_default c = record {
  known = unknown c.args.name.now c.args.self.now.cards c.args.self.now.shelf.items c.requires.once
      (ap (λ (n : List ℕ). free_device n c.args.self.now.shelf.items) (sym c.as_bytes.ensures.value) ∙ ap (λ (s : List Device). free_device c.as_bytes.result.now s) (sym c.deref.ensures.value) ∙ c.in_default.ensures);
  attached = λ so. absurd (false≢true so);
  refused = λ no. (SameCards-refl (outside_of c.args.self.now), refl);
  call = record { input = refl; counts = same-counts c.args.self.now.cards c.args.self.now.shelf.items c.args.self.now.shelf.items; in_faults = refl; out_faults = refl };
  kept = record { room = λ calls more has. has; numbers = refl; plan = record { failing = refl; most = refl } };
}

pub remove-device-requires : goal.remove-device-requires
remove-device-requires c = omega (arith, c.in-Some.ensures.inside, c.deref.ensures.len, c.args.self.now.shelf.ok.0)

pub listed : goal.listed
listed c = subst (λ (k : ℕ). k < length c.args.self.now.cards) (sym c.unit.view_is) (subst (λ (n : ℕ). c.args.unit < n) (sym c.args.self.now.eight) c.requires.unit)

pub bounds-self-unit-inside : goal.bounds-self-unit-inside
bounds-self-unit-inside c = subst (λ (k : ℕ). k < 8) (sym c.unit.view_is) c.requires.unit

pub give-requires : goal.give-requires
give-requires c = omega (arith, c.args.self.now.waits.entries_fit, c.remove-device.ensures.len)

pub invariant_of-self-3-clause-inside : goal.invariant_of-self-3-clause-inside
invariant_of-self-3-clause-inside c = c.args.self.now.inside

pub invariant_of-self-3-clause-some : goal.invariant_of-self-3-clause-some
invariant_of-self-3-clause-some c = c.args.self.now.some

pub invariant_of-self-3-clause-waits : goal.invariant_of-self-3-clause-waits
invariant_of-self-3-clause-waits c = record {
  entries_fit = omega (arith, c.args.self.now.waits.entries_fit, c.remove-device.ensures.len, c.give.ensures.logs.entries, c.give.ensures.logs.more_entries);
  bytes_fit = subst (λ (s : Vec ℕ Global). vec_len s + 0 ≤ vec_capacity s) (sym c.give.ensures.logs.store) c.args.self.now.waits.bytes_fit;
}

pub invariant_of-self-3-clause-told : goal.invariant_of-self-3-clause-told
invariant_of-self-3-clause-told c =
    let cards = c.args.self.now.cards in
    let shelf = c.args.self.now.shelf.items in
    let d = c.remove-device.result in
    let there = read-free cards c.unit.inside.0 c.args.unit c.index-self-unit.result c.unit.view_is c.requires.unit c.args.self.now.eight c.requires.free in
    let place : IsPlaceOf c.args.name.now shelf c.in-Some.place = subst (λ (n : List ℕ). IsPlaceOf n shelf c.in-Some.place) c.as_bytes.ensures.value (subst (λ (s : List Device). IsPlaceOf c.as_bytes.result.now s c.in-Some.place) c.deref.ensures.value c.in-Some.ensures) in
    let moved : HasMoved (get_or shelf c.in-Some.place d) (get_or cards c.unit.inside.0 c.index-self-unit.result) c.give.new.card = subst (λ (x : Device). HasMoved x (get_or cards c.unit.inside.0 c.index-self-unit.result) c.give.new.card) c.remove-device.ensures.value c.give.ensures.card in
    told-attach cards _ c.args.unit _ c.give.new.card c.unit.view_is there.0 d.first.items (now_of c.args.self.now.log) (now_of c.give.new.log) c.args.self.now.told there.1 c.give.ensures.logs.moment c.give.ensures.card.attached c.give.ensures.card.first c.give.ensures.card.held

pub invariant_of-self-3-clause-eight : goal.invariant_of-self-3-clause-eight
invariant_of-self-3-clause-eight c = eight-set c.args.self.now.cards _ _ c.args.self.now.eight

pub invariant_of-self-3-clause-out : goal.invariant_of-self-3-clause-out
invariant_of-self-3-clause-out c = ap output c.give.ensures.logs.moment ∙ c.args.self.now.out

pub returns : goal.returns
returns c =
    let cards = c.args.self.now.cards in
    let shelf = c.args.self.now.shelf.items in
    let d = c.remove-device.result in
    let there = read-free cards c.unit.inside.0 c.args.unit c.index-self-unit.result c.unit.view_is c.requires.unit c.args.self.now.eight c.requires.free in
    let place : IsPlaceOf c.args.name.now shelf c.in-Some.place = subst (λ (n : List ℕ). IsPlaceOf n shelf c.in-Some.place) c.as_bytes.ensures.value (subst (λ (s : List Device). IsPlaceOf c.as_bytes.result.now s c.in-Some.place) c.deref.ensures.value c.in-Some.ensures) in
    let moved : HasMoved (get_or shelf c.in-Some.place d) (get_or cards c.unit.inside.0 c.index-self-unit.result) c.give.new.card = subst (λ (x : Device). HasMoved x (get_or cards c.unit.inside.0 c.index-self-unit.result) c.give.new.card) c.remove-device.ensures.value c.give.ensures.card in
    let event : now_of c.give.new.log ≡ On c.args.unit (Attached (get_or shelf c.in-Some.place d).first.items) ∷ now_of c.args.self.now.log = c.give.ensures.logs.moment ∙ ap (λ (x : Device). On c.args.unit (Attached x.first.items) ∷ now_of c.args.self.now.log) c.remove-device.ensures.value in
    record {
      known = found c.args.name.now cards shelf _ c.unit.inside.0 c.args.unit c.in-Some.place _ _ d c.unit.view_is there.0 there.1 c.requires.once place moved c.remove-device.ensures.items (now_of c.args.self.now.log) (now_of c.give.new.log) event;
      attached = λ so. attaches c.args.name.now cards shelf _ c.unit.inside.0 c.args.unit c.in-Some.place _ _ d c.unit.view_is there.0 there.1 c.requires.once place moved c.remove-device.ensures.items (now_of c.args.self.now.log) (now_of c.give.new.log) event _ _ _;
      refused = λ no. absurd (false≢true (sym no));
      call = attach_call c.args.name.now cards shelf _ c.unit.inside.0 c.args.unit c.in-Some.place _ _ d c.unit.view_is there.0 there.1 c.requires.once place moved c.remove-device.ensures.items (now_of c.args.self.now.log) (now_of c.give.new.log) event _ _ _;
      kept = record {
        room = λ calls more has. record {
          log_fits = record {
            entries_fit = omega (arith, has.log_fits.entries_fit, c.remove-device.ensures.len, c.give.ensures.logs.entries, c.give.ensures.logs.more_entries);
            bytes_fit = subst (λ (s : Vec ℕ Global). vec_len s + more ≤ vec_capacity s) (sym c.give.ensures.logs.store) has.log_fits.bytes_fit;
          };
          output_fits = has.output_fits;
        };
        numbers = c.give.ensures.logs.calls;
        plan = record { failing = refl; most = refl };
      };
    }
