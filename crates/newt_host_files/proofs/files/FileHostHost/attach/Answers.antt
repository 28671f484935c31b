use Rattle.std.proofs.Common.{ℕ, ◌<◌, length, sym, subst}
use Rattle.std.proofs.lemmas.Option.{slice_get-get_or}
use Rattle.newt_host_files.specs.Laws.{untold}
use Rattle.newt_host_files.proofs.Units.{attaches, attach-call, not-attached}
use Rattle.newt_host_files.proofs.files.FileHostHost.attach.Goals as goal

pub listed : goal.listed
listed g c = subst (λ (k : ℕ). k < length c.args.self.now.cards) (sym c.unit.view_is) (subst (λ (n : ℕ). c.args.unit < n) (sym c.args.self.now.eight) c.requires.unit)

pub bounds-self-unit-inside : goal.bounds-self-unit-inside
bounds-self-unit-inside g c = subst (λ (k : ℕ). k < 8) (sym c.unit.view_is) c.requires.unit

pub returns : goal.returns
returns g c =
    let cards = c.args.self.now.cards in
    let low : c.unit.inside.0 < length cards = subst (λ (k : ℕ). k < length cards) (sym c.unit.view_is) (subst (λ (n : ℕ). c.args.unit < n) (sym c.args.self.now.eight) c.requires.unit) in
    let there = slice_get-get_or cards c.unit.inside.0 c.index-self-unit.result low in
    record {
      known = λ tells. untold tells;
      attached = λ so. attaches cards _ c.args.unit _ _ c.unit.view_is there c.args.name.now (c.attach.ensures.attached so) _ _;
      refused = λ no. (not-attached cards _ c.args.unit _ _ c.unit.view_is there (c.attach.ensures.refused no) _ _, λ tells. untold tells);
      call = attach-call cards _ c.args.unit _ _ c.unit.view_is there c.attach.ensures.counts _ _;
    }
