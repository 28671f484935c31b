use Rattle.std.proofs.Common.{◌≡◌, ◌∙◌, false, refl}
use Rattle.std.specs.Prelude.{nat_eq}
use Rattle.std.specs.List.{list_any}
use Rattle.newt_spec_nsof.proofs.Numbered.{has_none}
use Rattle.newt_nsof_write.proofs.given.Numbers.give.Goals as goal

pub returns : goal.returns
returns c =
    let none : list_any (nat_eq c.args.node) c.args.self.now ≡ false = has_none c.args.node c.args.self.now c.requires.new in
    c.in_ok-insert.ensures.keys ∙ rw (c.self.view_is, none) refl
