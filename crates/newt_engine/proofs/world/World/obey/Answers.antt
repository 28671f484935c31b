-- The units do it, or a graph is shown.
use Rattle.std.proofs.Common.{◌≡◌, ap, refl, subst, sym, ◌∙◌}
use Rattle.newt_host.proofs.Outside.{NoFault-refl, OnDevices-refl}
use Rattle.newt_engine_units.proofs.Costs.{alone-refl, idle-fetches}
use Rattle.newt_reply.specs.Said.{said}
use Rattle.newt_reply.specs.declared.reply.Reply.TheVariants as reply
use Rattle.newt_spec_graph.proofs.Lists.{both-ways}
use Rattle.newt_spec_world.specs.Answer.{answer}
use Rattle.newt_spec_world.specs.Step.{is_format_of, looks_at}
use Rattle.newt_spec_world.specs.declared.command.Command.{Command}
use Rattle.newt_laws_answers.proofs.Stores.{nsof-done, lit-done}
use Rattle.std.specs.Prelude.{IfErr}
use Rattle.newt_engine_units.specs.Answers.{Answers}
use Rattle.newt_engine_units.specs.Breaks.{AtDevice}
use Rattle.newt_engine_units.specs.Calls.{BreaksIn}
use Rattle.newt_engine_units.specs.Kept.{KeepsUnits}
use Rattle.newt_engine_units.specs.Stands.{Eight, world_of}
use Rattle.newt_engine_units.proofs.Broken.{none-devices}
use Rattle.newt_engine_units.proofs.Keeping.{keeps-refl}
use Rattle.newt_laws_steps.specs.StandsFor.{seen}
use Rattle.newt_engine.specs.Ends.{takes_memory, uses_device}
use Rattle.newt_engine.specs.Laws.{laws_of}
use Rattle.newt_engine.proofs.Costing.{format_costs, still_costs}
use Rattle.newt_engine.proofs.Forming.{format-fresh, memory-unformed}
use Rattle.newt_engine.proofs.Groups.{format_form, in_memory}
use Rattle.newt_engine.proofs.Handed.{answered_on, err_on, goes_back, has_cause, moments_same, quiet, quiet_on, seen_in_memory, told_stands}
use Rattle.newt_engine.proofs.Keeping.{idle_back}
use Rattle.newt_engine.proofs.Obeying.{handed_obeyed}
use Rattle.newt_engine.proofs.world.World.obey.Goals as goal

pub returns-in-Nsof : goal.returns-in-Nsof
returns-in-Nsof g c =
    let o = g.H.Host.outside c.args.host.now in
    let w = world_of g.C.Card.reads c.args.self.now.units o in record {
      stands = λ goes. c.requires.stands;
      answered = λ t. subst (λ x. answer (seen g.C.Card.reads w o.now x) x ≡ (w, said (reply.Nsof c.in-Nsof.graph))) (sym c.in-Nsof.is) (nsof-done w refl c.in-Nsof.graph);
      moments = λ t. quiet (laws_of g.met.C.Card.formed g.met.C.Card.plain g.met.C.Card.durable g.met.C.Card.banks g.met.C.Card.kept) g.H.Host.told c.args.self.now.units o (record { eight = g.met.H.Host.eight c.args.host.now; none = g.met.H.Host.none c.args.host.now }) c.requires.stands t c.args.command _;
      desk = refl;
      kept = λ idle. keeps-refl c.args.self.now.units;
      costs = λ t. still_costs (λ u. alone-refl u _) (λ means. idle-fetches _ _ o);
      fresh = λ t u is. absurd (both-ways (sym (ap (λ x. is_format_of x u) c.in-Nsof.is) ∙ is));
      alone = OnDevices-refl o;
      broke = tt;
      ends = record {
        cause = tt;
        no_fault = λ goes. NoFault-refl o;
        memory = λ none. tt;
        device = λ none. tt;
        quiet = λ u. refl;
      };
    }

pub returns-in-Lit : goal.returns-in-Lit
returns-in-Lit g c =
    let o = g.H.Host.outside c.args.host.now in
    let w = world_of g.C.Card.reads c.args.self.now.units o in record {
      stands = λ goes. c.requires.stands;
      answered = λ t. subst (λ x. answer (seen g.C.Card.reads w o.now x) x ≡ (w, said (reply.Literal c.in-Lit.graph))) (sym c.in-Lit.is) (lit-done w refl c.in-Lit.graph);
      moments = λ t. quiet (laws_of g.met.C.Card.formed g.met.C.Card.plain g.met.C.Card.durable g.met.C.Card.banks g.met.C.Card.kept) g.H.Host.told c.args.self.now.units o (record { eight = g.met.H.Host.eight c.args.host.now; none = g.met.H.Host.none c.args.host.now }) c.requires.stands t c.args.command _;
      desk = refl;
      kept = λ idle. keeps-refl c.args.self.now.units;
      costs = λ t. still_costs (λ u. alone-refl u _) (λ means. idle-fetches _ _ o);
      fresh = λ t u is. absurd (both-ways (sym (ap (λ x. is_format_of x u) c.in-Lit.is) ∙ is));
      alone = OnDevices-refl o;
      broke = tt;
      ends = record {
        cause = tt;
        no_fault = λ goes. NoFault-refl o;
        memory = λ none. tt;
        device = λ none. tt;
        quiet = λ u. refl;
      };
    }

pub format-requires-clause-sig : goal.format-requires-clause-sig
format-requires-clause-sig g c = format_form c.args.command _ _ _ c.in-Format.is c.requires.form

pub returns-in-Format : goal.returns-in-Format
returns-in-Format g c =
    let call = c.format.ensures in
    let o = g.H.Host.outside c.args.host.now in
    let p = g.H.Host.outside c.format.new.host in
    let w = world_of g.C.Card.reads c.args.self.now.units o in
    let on = c.done.ensures in record {
      stands = λ goes. call.stands (goes_back on goes);
      answered = λ t. subst (λ x. Answers (seen g.C.Card.reads w o.now x) (world_of g.C.Card.reads c.format.new.self p) x said c.done.result) (sym c.in-Format.is) (answered_on on _ _ refl (call.answered t));
      moments = λ t. moments_same g.C.Card.reads _ _ _ _ c.args.command _ c.in-Format.is (call.moments t);
      desk = refl;
      kept = λ idle. subst (λ (x : Command). KeepsUnits (looks_at x) c.args.self.now.units c.format.new.self) (sym c.in-Format.is) (call.kept (idle_back on (λ x r k. cc) c.in-Format.is idle));
      costs = λ t. format_costs c.in-Format.is call.costs (λ goes. call.open_after t (goes_back on goes));
      fresh = λ t u is. format-fresh p on c.in-Format.is u is (call.fresh t);
      alone = call.ends.alone;
      broke = subst (λ x. IfErr c.done.result (AtDevice (BreaksIn g.C.Card.reads g.C.Card.place g.C.Card.stands g.H.Host.told x c.args.self.now.units c.format.new.self o p))) (sym c.in-Format.is) (err_on on _ call.broke);
      ends = record {
        cause = err_on on _ call.ends.cause;
        no_fault = λ goes. call.ends.no_fault (goes_back on goes);
        memory = λ none. absurd (both-ways (sym none ∙ ap takes_memory c.in-Format.is));
        device = λ none. absurd (both-ways (sym none ∙ ap uses_device c.in-Format.is));
        quiet = quiet_on on (λ x u. refl);
      };
    }

pub returns-in-Get : goal.returns-in-Get
returns-in-Get g c = handed_obeyed c.timed.ensures c.in-Get.is refl refl refl (λ x r k. cc) (λ x u. refl) c.get.ensures.obeyed refl

pub returns-in-Getx : goal.returns-in-Getx
returns-in-Getx g c = handed_obeyed c.timed_nsof.ensures c.in-Getx.is refl refl refl (λ x r k. cc) (λ x u. refl) c.get-in-Getx.ensures.as_stream refl

pub returns-in-Vread : goal.returns-in-Vread
returns-in-Vread g c = handed_obeyed c.hex.ensures c.in-Vread.is refl refl refl (λ x r k. cc) (λ x u. refl) c.vread.ensures refl

pub obey_in_memory-obeyed-requires : goal.obey_in_memory-obeyed-requires
obey_in_memory-obeyed-requires g c =
    let d = c.in_default in
    let is = in_memory c.args.command c.requires.no_cursor c.requires.no_change c.requires.no_mount d.not-Nsof d.not-Lit d.not-Format d.not-Get d.not-Getx d.not-Vread in
    record { not_shown = is.0; no_device = is.1; no_cursor = c.requires.no_cursor }

pub returns-in_default : goal.returns-in_default
returns-in_default g c =
    let o = g.H.Host.outside c.args.host.now in
    let eight : Eight o = record { eight = g.met.H.Host.eight c.args.host.now; none = g.met.H.Host.none c.args.host.now } in
    let d = c.in_default in
    let is = in_memory c.args.command c.requires.no_cursor c.requires.no_change c.requires.no_mount d.not-Nsof d.not-Lit d.not-Format d.not-Get d.not-Getx d.not-Vread in
    let no_device = is.1 in
    let call = c.obey_in_memory-obeyed.ensures in record {
      stands = λ goes. call.stands g.H.Host.told o c.requires.stands;
      answered = λ t. subst (λ x. Answers x (world_of g.C.Card.reads c.obey_in_memory-obeyed.new.self.units o) c.args.command said c.obey_in_memory-obeyed.result)
          (sym (seen_in_memory g.C.Card.reads (world_of g.C.Card.reads c.args.self.now.units o) o.now c.args.command no_device)) (call.answered o eight (told_stands g.H.Host.told c.args.self.now.units o c.requires.stands t));
      moments = λ t. quiet (laws_of g.met.C.Card.formed g.met.C.Card.plain g.met.C.Card.durable g.met.C.Card.banks g.met.C.Card.kept) g.H.Host.told c.args.self.now.units o eight c.requires.stands t c.args.command _;
      desk = call.desk;
      kept = λ idle. subst (λ x. KeepsUnits (looks_at c.args.command) c.args.self.now.units x) (sym (call.kept idle)) (keeps-refl c.args.self.now.units);
      costs = λ t. still_costs (λ u. alone-refl u _) (λ means. idle-fetches _ _ o);
      fresh = λ t u is. absurd (both-ways (sym (memory-unformed c.args.command u no_device) ∙ is));
      alone = OnDevices-refl o;
      broke = none-devices _ _ call.device;
      ends = record {
        cause = has_cause _ _ _ (NoFault-refl o) call.device;
        no_fault = λ goes. NoFault-refl o;
        memory = call.ends;
        device = λ uses_none. call.device;
        quiet = call.quiet;
      };
    }
