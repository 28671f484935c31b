-- No unit before has the soup.
use Rattle.std.proofs.Common.{◌≡◌, true, drop}
use Rattle.std.specs.Prelude.{is_some}
use Rattle.std.specs.List.{list_any}
use Rattle.newt_host.specs.Outside.{Outside}
use Rattle.newt_spec_world.specs.First.{unit_numbers}
use Rattle.newt_spec_world.specs.World.{mounted, soup_in}
use Rattle.newt_engine_units.specs.Stands.{Eight, Stands, world_of}
use Rattle.newt_engine_cursors.proofs.opening.has_soup.Given as goal

abbrev pub invariant-loop-number : goal.invariant-loop-number
invariant-loop-number g l = (outside : Outside) → Eight outside → Stands g.C.Card.place g.C.Card.stands true l.units outside →
    let w = world_of g.C.Card.reads l.units outside in
    list_any (λ u. is_some (soup_in w u l.name)) (drop l.number unit_numbers) ≡ list_any (λ m. is_some (soup_in w m.0 l.name)) (mounted w)
