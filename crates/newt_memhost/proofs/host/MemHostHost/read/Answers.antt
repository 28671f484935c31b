use Rattle.std.proofs.Common.{ℕ, List, eqb, refl, ◌∙◌, ap, arith, Some, ◌≡◌, ◌+◌, ◌<◌, length, take, drop, OnOk, sym, subst}
use Rattle.std.specs.List.{list_any}
use Rattle.newt_host.specs.Moments.{output}
use Rattle.newt_memhost.specs.Log.{HasRoom}
use Rattle.newt_memhost.proofs.Rooms.{kept-host}
use Rattle.newt_memhost.proofs.Cards.{eight-set, read-there, told-reads, unit-call, counted, card-inside, holds-end, image-held}
use Rattle.newt_memhost.proofs.host.MemHostHost.read.Goals as goal

pub returns-clause-call : goal.returns-clause-call
returns-clause-call c =
    let there = read-there c.args.self.now.cards _ c.args.unit c.index-self-unit.result c.unit.view_is c.requires.attached in
    unit-call c.args.self.now.cards _ c.args.unit _ _ c.unit.view_is there.0 c.read.ensures.card _ _ _ _ _ _

pub invariant_of-self-3-clause-told : goal.invariant_of-self-3-clause-told
invariant_of-self-3-clause-told c =
    let there = read-there c.args.self.now.cards _ c.args.unit c.index-self-unit.result c.unit.view_is c.requires.attached in
    told-reads c.args.self.now.cards _ c.args.unit _ _ c.unit.view_is there.0 c.args.self.now.told there.1 c.read.ensures.card.attached c.read.ensures.card.first c.read.ensures.held c.read.ensures.moment

pub invariant_of-self-3-clause-out : goal.invariant_of-self-3-clause-out
invariant_of-self-3-clause-out c = ap output c.read.ensures.moment ∙ c.args.self.now.out

pub invariant_of-self-3-clause-eight : goal.invariant_of-self-3-clause-eight
invariant_of-self-3-clause-eight c = eight-set c.args.self.now.cards _ _ c.args.self.now.eight

pub returns-clause-kept : goal.returns-clause-kept
returns-clause-kept c =
    let calls = c.args.self.now.log.calls in
    let there = read-there c.args.self.now.cards _ c.args.unit c.index-self-unit.result c.unit.view_is c.requires.attached in
    record {
      counted = counted c.args.self.now.cards _ c.args.unit _ _ c.unit.view_is there.0 c.read.ensures.card _ _ _ _ _ _;
      kept = kept-host 0 c.len-waiting.result (Some c.args.unit) c.fails-fails.result _ c.read.result c.read.result c.args.self.now _ c.len-waiting.ensures
          (c.fails-fails.ensures ∙ ap (λ (l : List ℕ). list_any (λ listed. eqb listed calls) l) c.deref.ensures.value) c.read.ensures.kept
          (λ has. record { entries_fit = omega (arith, has.log_fits.entries_fit, c.len-waiting.ensures); bytes_fit = has.log_fits.bytes_fit }) refl
          (record { shelf = refl; plan = record { failing = refl; most = refl }; output_used = omega arith; output_left = omega arith });
    }

pub listed : goal.listed
listed c = card-inside c.args.self.now.cards _ c.args.unit c.unit.view_is c.requires.attached

pub bounds-self-unit-inside : goal.bounds-self-unit-inside
bounds-self-unit-inside c = subst (λ (n : ℕ). c.unit.inside.0 < n) c.args.self.now.eight (card-inside c.args.self.now.cards _ c.args.unit c.unit.view_is c.requires.attached)

pub read-requires-clause-inside : goal.read-requires-clause-inside
read-requires-clause-inside c = holds-end c.args.self.now.cards _ c.args.unit c.index-self-unit.result (c.args.at + length c.args.buf.now) c.unit.view_is c.requires.attached c.requires.inside

pub read-requires-clause-waits : goal.read-requires-clause-waits
read-requires-clause-waits c = subst (λ (n : ℕ). HasRoom n 0 c.args.self.now.log) (sym c.len-waiting.ensures) c.args.self.now.waits

pub invariant_of-self-3-clause-inside : goal.invariant_of-self-3-clause-inside
invariant_of-self-3-clause-inside c = c.args.self.now.inside

pub invariant_of-self-3-clause-some : goal.invariant_of-self-3-clause-some
invariant_of-self-3-clause-some c = c.args.self.now.some

pub invariant_of-self-3-clause-waits : goal.invariant_of-self-3-clause-waits
invariant_of-self-3-clause-waits c = subst (λ (n : ℕ). HasRoom n 0 c.read.new.log) c.len-waiting.ensures c.read.ensures.kept.waits

pub returns-clause-bytes : goal.returns-clause-bytes
returns-clause-bytes c =
    let there = read-there c.args.self.now.cards _ c.args.unit c.index-self-unit.result c.unit.view_is c.requires.attached in
    let held = image-held c.args.self.now.cards _ c.args.unit _ c.read.new.card c.unit.view_is there.0 _ c.args.self.now.told there.1 in
    subst (λ (l : List ℕ). OnOk c.read.result (c.read.new.buf ≡ take (length c.args.buf.now) (drop c.args.at l))) (sym held) c.read.ensures.bytes

pub returns-clause-moment : goal.returns-clause-moment
returns-clause-moment c = c.read.ensures.moment
