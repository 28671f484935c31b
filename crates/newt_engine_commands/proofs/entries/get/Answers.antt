-- The soup is looked up, and its card reads the entry.
use Rattle.std.proofs.Common.{refl, subst}
use Rattle.newt_engine_units.specs.Looks.{known_checks}
use Rattle.std.proofs.lemmas.Result.{err_from_is_err_and}
use Rattle.newt_engine_units.specs.Stands.{Stands, world_of}
use Rattle.newt_spec_world.specs.Reply.{Reply}
use Rattle.newt_spec_world.specs.declared.command.Command.TheVariants as command
use Rattle.std.specs.Option.{option_and_then}
use Rattle.newt_spec_store.specs.Store.{entry_of}
use Rattle.newt_store_change.specs.Entries.{ReadsEntry}
use Rattle.newt_laws_answers.proofs.Entries.{no-soup, get-refused, getx-refused}
use Rattle.newt_engine_commands.proofs.Commands.{get-answers, getx-answers}
use Rattle.newt_engine_commands.proofs.Costing.{get-few}
use Rattle.newt_engine_units.proofs.Obeying.{none-refused, read-obeys, refused-obeys}
use Rattle.newt_engine_units.proofs.Settings.{Setting, soup-refused, has-soup}
use Rattle.newt_engine_commands.proofs.entries.get.Given.{Over}
use Rattle.newt_engine_commands.proofs.entries.get.Goals as goal

-- where it begins
begins : (g : Over) {units : _} {host : _} → Stands g.C.Card.place g.C.Card.stands g.H.Host.told units (g.H.Host.outside host)
    → Setting g.C.Card.reads g.C.Card.place g.C.Card.soups g.C.Card.stands g.H.Host.told units (g.H.Host.outside host)
begins g {units} {host} stand = record {
  laws = record { formed = g.met.C.Card.formed; plain = g.met.C.Card.plain; durable = g.met.C.Card.durable; banks = g.met.C.Card.banks; kept = g.met.C.Card.kept };
  eight = record { eight = g.met.H.Host.eight host; none = g.met.H.Host.none host };
  stand = stand;
}

pub returns-in_err-soup-clause-obeyed : goal.returns-in_err-soup-clause-obeyed
returns-in_err-soup-clause-obeyed g c =
    let at = begins g c.requires in
    let w = world_of g.C.Card.reads c.args.units.now (g.H.Host.outside c.args.host.now) in
    refused-obeys at (command.Get c.args.unit c.args.name.now c.args.uid) (λ e. Reply.timed e.time e.graph) _ (none-refused (known_checks g.C.Card.soups c.args.units.now.slots.items c.args.unit c.args.name.now) _ c.in_err-soup.ensures) _ (err_from_is_err_and c.from_residual.result c.from_residual.ensures.1)
    (λ t. soup-refused at t c.args.unit c.args.name.now _ _ (λ r k. get-refused w c.args.unit c.args.name.now c.args.uid r (no-soup w c.args.unit c.args.name.now c.args.uid r k)) _ c.in_err-soup.ensures _ (err_from_is_err_and c.from_residual.result c.from_residual.ensures.1))

pub returns-clause-obeyed : goal.returns-clause-obeyed
returns-clause-obeyed g c =
    let at = begins g c.requires in
    let w = world_of g.C.Card.reads c.args.units.now (g.H.Host.outside c.args.host.now) in
    let e = c.read_entry.ensures in
    read-obeys at (command.Get c.args.unit c.args.name.now c.args.uid) (λ e. Reply.timed e.time e.graph) e.looks (λ t means. let h = has-soup at t c.args.unit c.args.name.now c.in_ok-soup.soup c.in_ok-soup.ensures in get-few h c.args.uid (g.H.Host.outside c.args.host.now) (g.H.Host.outside c.read_entry.new.host) (e.fetches t h.blocks h.store h.on)) _ e.ends (λ t.
    let h = has-soup at t c.args.unit c.args.name.now c.in_ok-soup.soup c.in_ok-soup.ensures in
    get-answers w _ c.args.unit h.blocks h.store c.args.name.now h.soup c.args.uid h.on h.named refl (e.looks.world t) _
    (subst (λ p. ReadsEntry (option_and_then (entry_of c.args.uid) p) c.read_entry.result) h.by_sig (e.read t h.blocks h.store h.on)))

pub returns-in_err-soup-clause-as_stream : goal.returns-in_err-soup-clause-as_stream
returns-in_err-soup-clause-as_stream g c =
    let at = begins g c.requires in
    let w = world_of g.C.Card.reads c.args.units.now (g.H.Host.outside c.args.host.now) in
    refused-obeys at (command.Getx c.args.unit c.args.name.now c.args.uid) (λ e. Reply.timed_nsof e.time e.graph) _ (none-refused (known_checks g.C.Card.soups c.args.units.now.slots.items c.args.unit c.args.name.now) _ c.in_err-soup.ensures) _ (err_from_is_err_and c.from_residual.result c.from_residual.ensures.1)
    (λ t. soup-refused at t c.args.unit c.args.name.now _ _ (λ r k. getx-refused w c.args.unit c.args.name.now c.args.uid r (no-soup w c.args.unit c.args.name.now c.args.uid r k)) _ c.in_err-soup.ensures _ (err_from_is_err_and c.from_residual.result c.from_residual.ensures.1))

pub returns-clause-as_stream : goal.returns-clause-as_stream
returns-clause-as_stream g c =
    let at = begins g c.requires in
    let w = world_of g.C.Card.reads c.args.units.now (g.H.Host.outside c.args.host.now) in
    let e = c.read_entry.ensures in
    read-obeys at (command.Getx c.args.unit c.args.name.now c.args.uid) (λ e. Reply.timed_nsof e.time e.graph) e.looks (λ t means. let h = has-soup at t c.args.unit c.args.name.now c.in_ok-soup.soup c.in_ok-soup.ensures in get-few h c.args.uid (g.H.Host.outside c.args.host.now) (g.H.Host.outside c.read_entry.new.host) (e.fetches t h.blocks h.store h.on)) _ e.ends (λ t.
    let h = has-soup at t c.args.unit c.args.name.now c.in_ok-soup.soup c.in_ok-soup.ensures in
    getx-answers w _ c.args.unit h.blocks h.store c.args.name.now h.soup c.args.uid h.on h.named refl (e.looks.world t) _
    (subst (λ p. ReadsEntry (option_and_then (entry_of c.args.uid) p) c.read_entry.result) h.by_sig (e.read t h.blocks h.store h.on)))
