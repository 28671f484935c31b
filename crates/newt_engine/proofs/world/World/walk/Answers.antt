-- A cursor is moved or shown.
use Rattle.std.proofs.Common.{rules, ap, refl, sym, ◌∙◌, ℤ, w32, SFits}
use Rattle.std.proofs.lemmas.Int.{to_z-of_z}
use Rattle.newt_spec_world.specs.declared.command.Command.TheVariants as command
use Rattle.newt_engine.proofs.Groups.{on_places}
use Rattle.newt_engine.proofs.Keeping.{shown_never}
use Rattle.newt_engine.proofs.Obeying.{handed_walked, shown_quiet}
use Rattle.newt_engine.proofs.world.World.walk.Goals as goal

pub returns-in-Entry : goal.returns-in-Entry
returns-in-Entry g c =
    let call = c.entry.ensures in
    handed_walked c.shown.ensures c.in-Entry.is refl refl refl shown_never shown_quiet call

pub returns-in-Next : goal.returns-in-Next
returns-in-Next g c =
    let call = c.next.ensures in
    handed_walked c.shown-in-Next.ensures c.in-Next.is refl refl refl shown_never shown_quiet call

pub returns-in-Prev : goal.returns-in-Prev
returns-in-Prev g c =
    let call = c.prev.ensures in
    handed_walked c.shown-in-Prev.ensures c.in-Prev.is refl refl refl shown_never shown_quiet call

pub returns-in-Reset : goal.returns-in-Reset
returns-in-Reset g c =
    let call = c.reset.ensures in
    handed_walked c.shown-in-Reset.ensures c.in-Reset.is refl refl refl shown_never shown_quiet call

pub returns-in-End : goal.returns-in-End
returns-in-End g c =
    let call = c.end.ensures in
    handed_walked c.shown-in-End.ensures c.in-End.is refl refl refl shown_never shown_quiet call

pub returns-in-Moveby : goal.returns-in-Moveby
returns-in-Moveby g c =
    let call = c.moveby.ensures in
    let fits : SFits w32 c.in-Moveby.by = search rules in
    let same = c.in-Moveby.is ∙ ap {A = ℤ} (λ z. command.Moveby c.in-Moveby.cursor z) (sym (to_z-of_z w32 c.in-Moveby.by fits)) in
    handed_walked c.shown-in-Moveby.ensures same refl refl refl shown_never shown_quiet call

pub returns-in-Goto : goal.returns-in-Goto
returns-in-Goto g c =
    let call = c.go_to.ensures in
    handed_walked c.shown-in-Goto.ensures c.in-Goto.is refl refl refl shown_never shown_quiet call

pub returns-in-Gotokey : goal.returns-in-Gotokey
returns-in-Gotokey g c =
    let call = c.go_to_key.ensures in
    handed_walked c.shown-in-Gotokey.ensures c.in-Gotokey.is refl refl refl shown_never shown_quiet call

pub change_places-requires : goal.change_places-requires
change_places-requires g c =
    let d = c.in_default in record {
      desk = c.requires.desk;
      stands = c.requires.stands;
      on_place = on_places c.args.command.now c.requires.on_cursor d.not-Entry d.not-Next d.not-Prev d.not-Reset d.not-End d.not-Moveby d.not-Goto d.not-Gotokey;
    }

pub returns-in_default : goal.returns-in_default
returns-in_default g c = c.change_places.ensures
