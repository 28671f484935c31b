-- The units do it.
use Rattle.std.proofs.Common.{◌≡◌, ap, map, refl, subst, sym, ◌∙◌}
use Rattle.std.proofs.lemmas.Result.{err_from_is_err_and}
use Rattle.std.specs.Prelude.{IfErr, IfOk}
use Rattle.newt_reply.specs.Said.{said, store_row}
use Rattle.newt_spec_graph.proofs.Lists.{both-ways}
use Rattle.newt_spec_world.specs.Reply.{Reply as plain}
use Rattle.newt_spec_world.specs.Answer.{answer}
use Rattle.newt_laws_answers.proofs.Stores.{apart-done, quit-done}
use Rattle.newt_store_change.specs.Faults.{NoDevice}
use Rattle.newt_engine_units.specs.Answers.{Answers}
use Rattle.newt_engine_units.specs.Stands.{world_of}
use Rattle.newt_engine.specs.Calls.{IsNotThrown}
use Rattle.newt_engine.specs.Ends.{takes_memory}
use Rattle.newt_engine.specs.Kept.{leaves_all}
use Rattle.newt_engine.proofs.Groups.{no_other}
use Rattle.newt_engine.proofs.Handed.{answered_on, blameless, err_on, for_memory, quiet_on}
use Rattle.newt_engine.proofs.Keeping.{err_refused, refused_back}
use Rattle.newt_engine.proofs.Obeying.{nil_quiet}
use Rattle.newt_engine.proofs.world.World.obey_in_memory.Goals as goal

pub returns-in-Time : goal.returns-in-Time
returns-in-Time g c =
    let call = c.set_minute.ensures in record {
      stands = call.stands;
      answered = λ outside eight stand. subst (λ x. answer (world_of g.C.Card.reads c.args.self.now.units outside) x ≡ (world_of g.C.Card.reads c.set_minute.new.self outside, plain.done)) (sym c.in-Time.is) (call.answered outside);
      desk = refl;
      kept = λ idle. absurd (both-ways (sym (ap (λ x. leaves_all x plain.done) c.in-Time.is) ∙ idle));
      device = tt;
      quiet = λ u. refl;
      ends = λ none. tt;
    }

pub returns-in-Quit : goal.returns-in-Quit
returns-in-Quit g c = record {
  stands = λ told outside h. h;
  answered = λ outside eight stand. let w = world_of g.C.Card.reads c.args.self.now.units outside in subst (λ x. answer w x ≡ (w, plain.done)) (sym c.in-Quit.is) (quit-done w refl);
  desk = refl;
  kept = λ idle. refl;
  device = tt;
  quiet = λ u. refl;
  ends = λ none. tt;
}

pub returns-in-Unmount : goal.returns-in-Unmount
returns-in-Unmount g c =
    let call = c.unmount.ensures in
    let on = c.done.ensures in record {
      stands = call.stands;
      answered = λ outside eight stand. answered_on on _ _ c.in-Unmount.is (call.answered outside eight stand);
      desk = refl;
      kept = λ idle. err_refused _ _ call.kept (refused_back on (λ x r k. cc) c.in-Unmount.is refl idle);
      device = err_on on _ (blameless _ call.only);
      quiet = quiet_on on (λ x u. refl);
      ends = λ none. err_on on _ call.only;
    }

pub returns-in_ok-stores-in-Stores : goal.returns-in_ok-stores-in-Stores
returns-in_ok-stores-in-Stores g c =
    let rows = c.in_ok-stores-in-Stores.field-0 in record {
      stands = λ told outside h. h;
      answered = λ outside eight stand.
          let w = world_of g.C.Card.reads c.args.self.now.units outside in
          subst (λ x. answer w x ≡ (w, plain.stores (map store_row rows))) (sym c.in-Stores.is) (c.in_ok-stores-in-Stores.ensures.answered outside eight stand);
      desk = refl;
      kept = λ idle. refl;
      device = tt;
      quiet = λ u. refl;
      ends = λ none. tt;
    }

pub returns-in_err-stores-in-Stores : goal.returns-in_err-stores-in-Stores
returns-in_err-stores-in-Stores g c =
    let memory = err_from_is_err_and c.from_residual.result c.from_residual.ensures.1 in record {
      stands = λ told outside h. h;
      answered = λ outside eight stand.
          let w = world_of g.C.Card.reads c.args.self.now.units outside in
          for_memory (λ r. Answers w w c.args.command.now said r) _ memory tt;
      desk = refl;
      kept = λ idle. refl;
      device = for_memory (λ r. IfErr r (λ fault. NoDevice fault)) _ memory tt;
      quiet = for_memory (λ r. IfOk r (λ it. IsNotThrown it)) _ memory tt;
      ends = λ none. absurd (both-ways (sym none ∙ ap takes_memory c.in-Stores.is));
    }

pub returns-in-Default : goal.returns-in-Default
returns-in-Default g c =
    let call = c.set_default.ensures in
    let on = c.done-in-Default.ensures in record {
      stands = call.stands;
      answered = λ outside eight stand. answered_on on _ _ c.in-Default.is (call.answered outside eight stand);
      desk = refl;
      kept = λ idle. err_refused _ _ call.kept (refused_back on (λ x r k. cc) c.in-Default.is refl idle);
      device = err_on on _ (blameless _ call.only);
      quiet = quiet_on on (λ x u. refl);
      ends = λ none. err_on on _ call.only;
    }

pub returns-in-Soups : goal.returns-in-Soups
returns-in-Soups g c =
    let call = c.soups.ensures in
    let on = c.soup_rows.ensures in record {
      stands = λ told outside h. h;
      answered = λ outside eight stand. answered_on on _ _ c.in-Soups.is (call.answered outside eight stand);
      desk = refl;
      kept = λ idle. refl;
      device = err_on on _ call.only;
      quiet = quiet_on on (λ x u. refl);
      ends = λ none. absurd (both-ways (sym none ∙ ap takes_memory c.in-Soups.is));
    }

pub returns-in-Indexes : goal.returns-in-Indexes
returns-in-Indexes g c =
    let call = c.indexes.ensures in
    let on = c.spec_rows.ensures in record {
      stands = λ told outside h. h;
      answered = λ outside eight stand. answered_on on _ _ c.in-Indexes.is (call.answered outside eight stand);
      desk = refl;
      kept = λ idle. refl;
      device = err_on on _ call.only;
      quiet = quiet_on on (λ x u. refl);
      ends = λ none. absurd (both-ways (sym none ∙ ap takes_memory c.in-Indexes.is));
    }

pub returns-in-Tags : goal.returns-in-Tags
returns-in-Tags g c =
    let call = c.tags.ensures in
    let on = c.tag_row.ensures in record {
      stands = λ told outside h. h;
      answered = λ outside eight stand. answered_on on _ _ c.in-Tags.is (call.answered outside eight stand);
      desk = refl;
      kept = λ idle. refl;
      device = err_on on _ call.only;
      quiet = quiet_on on (λ x u. refl);
      ends = λ none. absurd (both-ways (sym none ∙ ap takes_memory c.in-Tags.is));
    }

pub returns-in-Info : goal.returns-in-Info
returns-in-Info g c =
    let call = c.info.ensures in
    let on = c.literal.ensures in record {
      stands = λ told outside h. h;
      answered = λ outside eight stand. answered_on on _ _ c.in-Info.is (call.answered outside eight stand);
      desk = refl;
      kept = λ idle. refl;
      device = err_on on _ call.only;
      quiet = quiet_on on (λ x u. nil_quiet plain.literal_of x u (λ y. refl));
      ends = λ none. absurd (both-ways (sym none ∙ ap takes_memory c.in-Info.is));
    }

pub returns-in-Alias : goal.returns-in-Alias
returns-in-Alias g c =
    let call = c.alias.ensures in
    let on = c.alias_of.ensures in record {
      stands = λ told outside h. h;
      answered = λ outside eight stand. answered_on on _ _ c.in-Alias.is (call.answered outside eight stand);
      desk = refl;
      kept = λ idle. refl;
      device = err_on on _ (blameless _ call.only);
      quiet = quiet_on on (λ x u. refl);
      ends = λ none. err_on on _ call.only;
    }

pub returns-in-Resolve : goal.returns-in-Resolve
returns-in-Resolve g c =
    let call = c.resolve.ensures in
    let on = c.place.ensures in record {
      stands = λ told outside h. h;
      answered = λ outside eight stand. answered_on on _ _ c.in-Resolve.is (call.answered outside eight stand);
      desk = refl;
      kept = λ idle. refl;
      device = err_on on _ call.only;
      quiet = quiet_on on (λ x u. nil_quiet (λ y. plain.where_is y.0 y.1 y.2) x u (λ y. refl));
      ends = λ none. absurd (both-ways (sym none ∙ ap takes_memory c.in-Resolve.is));
    }

pub returns-in_default : goal.returns-in_default
returns-in_default g c =
    let d = c.in_default in
    let apart = no_other c.args.command.now c.requires.not_shown c.requires.no_device c.requires.no_cursor d.not-Time d.not-Quit d.not-Unmount d.not-Stores d.not-Default d.not-Soups d.not-Indexes d.not-Tags d.not-Info d.not-Alias d.not-Resolve in
    record {
      stands = λ told outside h. h;
      answered = λ outside eight stand. apart-done (world_of g.C.Card.reads c.args.self.now.units outside) refl c.args.command.now apart;
      desk = refl;
      kept = λ idle. refl;
      device = tt;
      quiet = λ u. refl;
      ends = λ none. tt;
    }
