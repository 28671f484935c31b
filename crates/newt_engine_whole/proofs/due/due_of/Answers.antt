-- Each arm has the notes of its command.
use Rattle.std.proofs.Common.{◌≡◌, ap, refl, subst, sym, ◌∙◌, ℕ, Option, unwrap_or}
use Rattle.newt_notify.specs.declared.note.Kind.TheVariants.{Change, Gone, Remove}
use Rattle.newt_spec_whole.specs.Events.{add_event, entry_event, events}
use Rattle.newt_spec_world.specs.World.{default_unit}
use Rattle.newt_spec_world.specs.declared.command.Command.TheVariants as command
use Rattle.newt_engine_units.specs.Stands.{world_of}
use Rattle.newt_engine_whole.specs.Told.{event_of}
use Rattle.newt_engine_whole.proofs.Dues.{no-due, no-events, one-due, soup-due, two-due}
use Rattle.newt_engine_whole.proofs.due.due_of.Goals as goal

pub returns-in_ok-copy-in-Soup-clause-due : goal.returns-in_ok-copy-in-Soup-clause-due
returns-in_ok-copy-in-Soup-clause-due g c o eight stand =
    soup-due (world_of g.C.Card.reads c.args.units.now o) c.in-Soup.unit c.in_ok-copy-in-Soup.field-0 (c.in-Soup.is ∙ ap (command.Soup c.in-Soup.unit) (sym c.in_ok-copy-in-Soup.ensures))

pub returns-in_ok-told_of-in-Drop-clause-due : goal.returns-in_ok-told_of-in-Drop-clause-due
unfolding events
returns-in_ok-told_of-in-Drop-clause-due g c o eight stand =
    let w = world_of g.C.Card.reads c.args.units.now o in
    one-due w (command.Drop c.in-Drop.unit c.in-Drop.name) (entry_event w Gone c.in-Drop.unit c.in-Drop.name 0) c.in-Drop.is refl
    c.in_ok-told_of-in-Drop.field-0 (c.in_ok-told_of-in-Drop.ensures o eight stand)

pub returns-in_ok-added-in-Add-clause-due : goal.returns-in_ok-added-in-Add-clause-due
unfolding events
returns-in_ok-added-in-Add-clause-due g c o eight stand =
    let w = world_of g.C.Card.reads c.args.units.now o in
    one-due w (command.Add c.in-Add.unit c.in-Add.name _) (add_event w c.in-Add.unit c.in-Add.name) c.in-Add.is refl
    c.in_ok-added-in-Add.field-0 (c.in_ok-added-in-Add.ensures o eight stand)

pub returns-in_ok-added-in-Addx-clause-due : goal.returns-in_ok-added-in-Addx-clause-due
unfolding events
returns-in_ok-added-in-Addx-clause-due g c o eight stand =
    let w = world_of g.C.Card.reads c.args.units.now o in
    one-due w (command.Addx c.in-Addx.unit c.in-Addx.name _) (add_event w c.in-Addx.unit c.in-Addx.name) c.in-Addx.is refl
    c.in_ok-added-in-Addx.field-0 (c.in_ok-added-in-Addx.ensures o eight stand)

pub returns-in_ok-added-in-Addu-clause-due : goal.returns-in_ok-added-in-Addu-clause-due
unfolding events
returns-in_ok-added-in-Addu-clause-due g c o eight stand =
    let w = world_of g.C.Card.reads c.args.units.now o in
    one-due w (command.Addu c.in-Addu.name _) (add_event w (default_unit w) c.in-Addu.name) c.in-Addu.is refl
    c.in_ok-added-in-Addu.field-0 (subst (λ (u : ℕ). event_of c.in_ok-added-in-Addu.field-0 ≡ add_event w u c.in-Addu.name)
    (c.unwrap_or-unit.ensures ∙ ap (λ (u : Option ℕ). unwrap_or u 8) c.default_unit.ensures) (c.in_ok-added-in-Addu.ensures o eight stand))

pub returns-in_default-clause-due : goal.returns-in_default-clause-due
returns-in_default-clause-due g c o eight stand =
    let d = c.in_default in
    let w = world_of g.C.Card.reads c.args.units.now o in
    no-due w c.args.command.now refl (no-events w c.args.command.now d.not-Soup d.not-Drop d.not-Add d.not-Addx d.not-Addu d.not-Copy d.not-Set d.not-Change d.not-Vwrite d.not-Remove d.not-Move)

pub returns-in_ok-added-in-Copy-clause-due : goal.returns-in_ok-added-in-Copy-clause-due
unfolding events
returns-in_ok-added-in-Copy-clause-due g c o eight stand =
    let w = world_of g.C.Card.reads c.args.units.now o in
    one-due w (command.Copy _ _ _ c.in-Copy.to c.in-Copy.target) (add_event w c.in-Copy.to c.in-Copy.target) c.in-Copy.is refl
    c.in_ok-added-in-Copy.field-0 (c.in_ok-added-in-Copy.ensures o eight stand)

pub returns-in_ok-told_of-in-Set-clause-due : goal.returns-in_ok-told_of-in-Set-clause-due
unfolding events
returns-in_ok-told_of-in-Set-clause-due g c o eight stand =
    let w = world_of g.C.Card.reads c.args.units.now o in
    one-due w (command.Set c.in-Set.unit c.in-Set.name c.in-Set.uid _ _) (entry_event w Change c.in-Set.unit c.in-Set.name c.in-Set.uid) c.in-Set.is refl
    c.in_ok-told_of-in-Set.field-0 (c.in_ok-told_of-in-Set.ensures o eight stand)

pub returns-in_ok-told_of-in-Change-clause-due : goal.returns-in_ok-told_of-in-Change-clause-due
unfolding events
returns-in_ok-told_of-in-Change-clause-due g c o eight stand =
    let w = world_of g.C.Card.reads c.args.units.now o in
    one-due w (command.Change c.in-Change.unit c.in-Change.name c.in-Change.uid _) (entry_event w Change c.in-Change.unit c.in-Change.name c.in-Change.uid) c.in-Change.is refl
    c.in_ok-told_of-in-Change.field-0 (c.in_ok-told_of-in-Change.ensures o eight stand)

pub returns-in_ok-told_of-in-Vwrite-clause-due : goal.returns-in_ok-told_of-in-Vwrite-clause-due
unfolding events
returns-in_ok-told_of-in-Vwrite-clause-due g c o eight stand =
    let w = world_of g.C.Card.reads c.args.units.now o in
    one-due w (command.Vwrite c.in-Vwrite.unit c.in-Vwrite.name c.in-Vwrite.uid _ _ _) (entry_event w Change c.in-Vwrite.unit c.in-Vwrite.name c.in-Vwrite.uid) c.in-Vwrite.is refl
    c.in_ok-told_of-in-Vwrite.field-0 (c.in_ok-told_of-in-Vwrite.ensures o eight stand)

pub returns-in_ok-told_of-in-Remove-clause-due : goal.returns-in_ok-told_of-in-Remove-clause-due
unfolding events
returns-in_ok-told_of-in-Remove-clause-due g c o eight stand =
    let w = world_of g.C.Card.reads c.args.units.now o in
    one-due w (command.Remove c.in-Remove.unit c.in-Remove.name c.in-Remove.uid) (entry_event w Remove c.in-Remove.unit c.in-Remove.name c.in-Remove.uid) c.in-Remove.is refl
    c.in_ok-told_of-in-Remove.field-0 (c.in_ok-told_of-in-Remove.ensures o eight stand)

pub returns-in_ok-told_of-in-Move-clause-due : goal.returns-in_ok-told_of-in-Move-clause-due
unfolding events
returns-in_ok-told_of-in-Move-clause-due g c o eight stand =
    let w = world_of g.C.Card.reads c.args.units.now o in
    two-due w (command.Move c.in-Move.unit c.in-Move.name c.in-Move.uid c.in-Move.to c.in-Move.target)
    (add_event w c.in-Move.to c.in-Move.target) (entry_event w Remove c.in-Move.unit c.in-Move.name c.in-Move.uid) c.in-Move.is refl
    c.in_ok-added-in-Move.field-0 c.in_ok-told_of-in-Move.field-0 (c.in_ok-added-in-Move.ensures o eight stand) (c.in_ok-told_of-in-Move.ensures o eight stand)
