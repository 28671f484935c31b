use Rattle.std.proofs.Common.{◌≡◌, ◌≤◌, map, length, true}
use Rattle.std.specs.List.{list_all}
use Rattle.newt_base.specs.Names.{is_identifier}
use Rattle.newt_path.proofs.path.Path.read.Given as goal

-- the names so far are kept, and are few and well formed
abbrev pub invariant-loop-name : goal.invariant-loop-name
invariant-loop-name l =
    (goal.iterator-loop-name).can_next l.name-iterator × (goal.iterator-loop-name).is_finite l.name-iterator
    × (l.items.items ≡ map (λ x. x.now) l.yielded) × (length l.items.items ≤ 8) × (list_all is_identifier l.items.items ≡ true)
