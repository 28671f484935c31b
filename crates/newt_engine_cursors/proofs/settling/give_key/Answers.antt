-- The cursor takes the key of the entry, if it stands on it.
use Rattle.std.proofs.Common.{◌∙◌, ap, sym, subst, Option, option_and_then}
use Rattle.std.specs.Prelude.{IfSome}
use Rattle.newt_keys.specs.KeyForm.{IsKeyOf}
use Rattle.newt_spec_store.specs.Keys.{Key}
use Rattle.newt_cursor.specs.Desk.{keyed}
use Rattle.newt_laws_reach.specs.Reach.{on_entry, settle_where}
use Rattle.newt_engine_units.specs.Stands.{world_of}
use Rattle.newt_engine_cursors.specs.Fits.{DeskFits}
use Rattle.newt_engine_cursors.specs.Keyed.{key_where}
use Rattle.newt_engine_cursors.proofs.Cursors.{change-one, change-none, change-fits, keyed-fits}
use Rattle.newt_engine_cursors.proofs.Reaches.{where-none, where-one}
use Rattle.newt_engine_cursors.proofs.settling.give_key.Goals as goal

pub returns-in-Some-clause-desk : goal.returns-in-Some-clause-desk
returns-in-Some-clause-desk g c = subst DeskFits (sym c.changed.ensures) (change-fits (keyed c.in-Some.key) c.args.desk.now c.args.cursor c.requires
    (λ k e. keyed-fits k c.in-Some.key (subst (λ (o : Option Key). IfSome o (IsKeyOf k.query.spec.index)) c.in-Some.is (c.in_ok-key.ensures.key k e))))

pub returns-in-Some-clause-keys : goal.returns-in-Some-clause-keys
returns-in-Some-clause-keys g c o eight stand apart read =
    let w = world_of g.C.Card.reads c.args.units.now o in
    let r = on_entry c.args.store c.args.soup c.args.uid in
    c.changed.ensures ∙ sym (change-one (settle_where r w) (keyed c.in-Some.key) c.args.desk.now c.args.cursor
    (λ k e. where-one r w k c.in-Some.key (sym (sym c.in-Some.is ∙ c.in_ok-key.ensures.found o eight stand apart read ∙ ap (option_and_then (key_where r w)) e))))

pub returns-in_default-clause-keys : goal.returns-in_default-clause-keys
returns-in_default-clause-keys g c o eight stand apart read =
    let w = world_of g.C.Card.reads c.args.units.now o in
    let r = on_entry c.args.store c.args.soup c.args.uid in
    sym (change-none (settle_where r w) c.args.desk.now c.args.cursor
    (λ k e. where-none r w k (sym (sym c.in_default.is ∙ c.in_ok-key.ensures.found o eight stand apart read ∙ ap (option_and_then (key_where r w)) e))))
