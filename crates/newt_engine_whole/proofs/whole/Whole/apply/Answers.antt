-- A command is of watches, of copies or of the world.
use Rattle.std.proofs.Common.{ap, refl, sym, ◌∙◌}
use Rattle.newt_laws_world.specs.Worlds.{has_form, is_plain}
use Rattle.newt_engine_whole.proofs.Apart.{applied-as, apart-applied}
use Rattle.newt_engine_whole.proofs.Groups.{plain-others, watch-form}
use Rattle.newt_engine_whole.proofs.whole.Whole.apply.Goals as goal

pub watch-requires : goal.watch-requires
watch-requires g c =
    let form = watch-form c.in-Watch.name c.in-Watch.most (sym (ap has_form c.in-Watch.is) ∙ c.requires.form) in
    record { some = form.0; few = form.1 }

pub returns-in-Watch : goal.returns-in-Watch
unfolding is_plain
returns-in-Watch g c =
    applied-as c.in-Watch.is (apart-applied refl c.requires.stands c.watch.ensures)

pub returns-in-Notes : goal.returns-in-Notes
unfolding is_plain
returns-in-Notes g c =
    applied-as c.in-Notes.is (apart-applied refl c.requires.stands c.take_notes.ensures)

pub returns-in-Unwatch : goal.returns-in-Unwatch
unfolding is_plain
returns-in-Unwatch g c =
    applied-as c.in-Unwatch.is (apart-applied refl c.requires.stands c.unwatch.ensures)

pub returns-in-Open : goal.returns-in-Open
returns-in-Open g c = applied-as c.in-Open.is c.open.ensures

pub returns-in-Draft : goal.returns-in-Draft
unfolding is_plain
returns-in-Draft g c =
    applied-as c.in-Draft.is (apart-applied refl c.requires.stands c.draft.ensures)

pub returns-in-Edit : goal.returns-in-Edit
unfolding is_plain
returns-in-Edit g c =
    applied-as c.in-Edit.is (apart-applied refl c.requires.stands c.edit.ensures)

pub returns-in-Save : goal.returns-in-Save
returns-in-Save g c = applied-as c.in-Save.is c.save.ensures

pub returns-in-Revert : goal.returns-in-Revert
returns-in-Revert g c = applied-as c.in-Revert.is c.revert.ensures

pub returns-in-Discard : goal.returns-in-Discard
unfolding is_plain
returns-in-Discard g c =
    applied-as c.in-Discard.is (apart-applied refl c.requires.stands c.discard.ensures)

pub ask-requires : goal.ask-requires
ask-requires g c =
    let d = c.in_default in record {
      stands = c.requires.stands;
      form = c.requires.form;
      of_world = plain-others c.args.command d.not-Watch d.not-Notes d.not-Unwatch d.not-Open d.not-Draft d.not-Edit d.not-Save d.not-Revert d.not-Discard;
    }

pub returns-in_default : goal.returns-in_default
returns-in_default g c = c.ask.ensures
