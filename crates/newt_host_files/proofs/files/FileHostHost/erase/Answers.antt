use Rattle.std.proofs.Common.{ℕ, ◌<◌, subst}
use Rattle.newt_host_files.specs.Laws.{untold}
use Rattle.newt_host_files.proofs.Units.{card-inside, read-there, unit-call}
use Rattle.newt_host_files.proofs.files.FileHostHost.erase.Goals as goal

pub listed : goal.listed
listed g c = card-inside c.args.self.now.cards _ c.args.unit c.unit.view_is c.requires.attached

pub bounds-self-unit-inside : goal.bounds-self-unit-inside
bounds-self-unit-inside g c = subst (λ (n : ℕ). c.unit.inside.0 < n) c.args.self.now.eight (card-inside c.args.self.now.cards _ c.args.unit c.unit.view_is c.requires.attached)

pub returns : goal.returns
returns g c =
    let cards = c.args.self.now.cards in
    let there = read-there cards _ c.args.unit c.index-self-unit.result c.unit.view_is c.requires.attached in
    record {
      wrote = λ tells. untold tells;
      call = unit-call cards _ c.args.unit _ _ c.unit.view_is there c.erased.ensures.card _ _ c.erased.result c.erased.ensures.faults;
    }
