use Rattle.std.proofs.Common.{◌≡◌, true, ◌*◌, ◌≤◌, ◌<◌, ℕ, List, length, IsSome, Result, Ok, Err, sym, ◌∙◌, ap, subst, Option}
use Rattle.newt_host.specs.Moments.{image}
use Rattle.newt_spec_image.specs.Objects.{Extent}
use Rattle.newt_spec_image.specs.Pages.{cap}
use Rattle.newt_objects.specs.Held.{held}
use Rattle.newt_spec_graph.specs.Lists.{Among}
use Rattle.newt_spec_store.specs.Cost.{cost}
use Rattle.newt_spec_store.specs.Lies.{Places}
use Rattle.newt_spec_store.specs.OfImage.{blocks_of}
use Rattle.newt_spec_store.specs.Valid.{well_formed}
use Rattle.newt_soupdir.specs.Bare.{bare_store}
use Rattle.newt_soupdir.specs.declared.rows.Directory.{Directory}
use Rattle.newt_laws_changes.specs.Written.{Names}
use Rattle.newt_objects_commit.specs.Commit.{AreKept}
use Rattle.newt_objects_commit.specs.Names.{names_of}
use Rattle.newt_objects_commit.specs.Places.{place_of}
use Rattle.newt_store_catalog.specs.Stands.{Describes}
use Rattle.newt_store_change.specs.declared.fault.StoreFault.{StoreFault}
use Rattle.newt_store.specs.Next.{WritesNext, all_gone, directory_after}
use Rattle.newt_store.proofs.Unanswered.{IsMemory, memory-as, memory-none}
use Rattle.newt_store.proofs.Writing.{full-refused, goes-refused, the-fault}
use Rattle.newt_store.proofs.Reading.{same-cap, keeps-all}
use Rattle.newt_store.proofs.Carrying.{AreGone, table-next, sound-next, sound-fewer, new-stays, place-goes, names-next, names-sound-next, names-same, fewer-back, same-back, described-by, cost-after}
use Rattle.newt_store.proofs.Leaving.{leaves-memory, makes-memory, unit-same, can-planned, unit-turns}
use Rattle.newt_store.proofs.carry.carry_out.Goals as goal

pub returns-in_err-gathered : goal.returns-in_err-gathered
returns-in_err-gathered g c =
    let p = g.P.PageBook in
    let o = g.H.Host.outside c.args.host.now in
    let book = c.args.book.now in
    let r : Result ℕ StoreFault = c.from_residual.result in
    let memory : IsMemory r = c.from_residual.ensures.1 in
    record {
      leaves = leaves-memory p.place p.numbers p.stands g.H.Host.told c.args.catalog.now book o r memory;
      makes = makes-memory g.H.Host.told (p.place book) c.args.next c.args.catalog.now c.args.catalog.now o r memory;
      unit = unit-same g.H.Host.told (p.place book) c.args.next c.args.catalog.now o (λ tells. (g.met.P.PageBook.tells g.H.Host.told book o c.requires.stands tells).1);
    }

pub returns-in_err-prepare_names : goal.returns-in_err-prepare_names
returns-in_err-prepare_names g c =
    let p = g.P.PageBook in
    let o = g.H.Host.outside c.args.host.now in
    let book = c.args.book.now in
    let r : Result ℕ StoreFault = c.from_residual-in_err-prepare_names.result in
    let memory : IsMemory r = c.from_residual-in_err-prepare_names.ensures.1 in
    record {
      leaves = leaves-memory p.place p.numbers p.stands g.H.Host.told _ book o r memory;
      makes = makes-memory g.H.Host.told (p.place book) c.args.next c.args.catalog.now _ o r memory;
      unit = unit-same g.H.Host.told (p.place book) c.args.next c.args.catalog.now o (λ tells. (g.met.P.PageBook.tells g.H.Host.told book o c.requires.stands tells).1);
    }

pub returns-in_err-keep_new : goal.returns-in_err-keep_new
returns-in_err-keep_new g c =
    let p = g.P.PageBook in
    let o = g.H.Host.outside c.args.host.now in
    let book = c.args.book.now in
    let r : Result ℕ StoreFault = c.from_residual-in_err-keep_new.result in
    let memory : IsMemory r = c.from_residual-in_err-keep_new.ensures.1 in
    record {
      leaves = leaves-memory p.place p.numbers p.stands g.H.Host.told _ book o r memory;
      makes = makes-memory g.H.Host.told (p.place book) c.args.next c.args.catalog.now _ o r memory;
      unit = unit-same g.H.Host.told (p.place book) c.args.next c.args.catalog.now o (λ tells. (g.met.P.PageBook.tells g.H.Host.told book o c.requires.stands tells).1);
    }

pub write_next-requires-clause-can : goal.write_next-requires-clause-can
write_next-requires-clause-can g c =
    let p = g.P.PageBook in
    let e = c.in_ok-gathered.ensures in
    let records : List ℕ = c.in_ok-gathered.gathered.records.items in
    let are : AreGone (place_of c.args.catalog.now.places) c.args.next.gone records = record { real = e.real; all = e.all } in
    can-planned g.H.Host.told c.args.catalog.now c.args.next records c.deref.result.now p.place p.numbers p.stands c.args.book.now (g.H.Host.outside c.args.host.now) c.requires.sound c.requires.next are e.once (c.deref.ensures.value ∙ e.gone)

pub write_next-requires-clause-formed : goal.write_next-requires-clause-formed
write_next-requires-clause-formed g c = λ d is. subst (λ (o : Option Directory). well_formed (bare_store (directory_after c.args.catalog.now.directory o)) ≡ true) is c.requires.next.formed

pub follow_written-answer-requires : goal.follow_written-answer-requires
follow_written-answer-requires g c =
    let old : Places = place_of c.args.catalog.now.places in
    let records : List ℕ = c.in_ok-gathered.gathered.records.items in
    let are : AreGone old c.args.next.gone records = record { real = c.in_ok-gathered.ensures.real; all = c.in_ok-gathered.ensures.all } in
    record {
      ready = c.in_ok-prepare_names.ensures.ready;
      stays = λ e is m. new-stays c.args.catalog.now c.args.next records c.requires.sound.places c.requires.sound.names c.requires.next are e is (are.real e.id m);
    }

pub returns-in-Ok : goal.returns-in-Ok
returns-in-Ok g c =
    let p = g.P.PageBook in
    let told = g.H.Host.told in
    let o = g.H.Host.outside in
    let cat = c.args.catalog.now in
    let next = c.args.next in
    let u : ℕ = p.place c.args.book.now in
    let now : List ℕ = image u (o c.args.host.now).now in
    let old : Places = place_of cat.places in
    let mid : Places = place_of c.keep_new.new.places in
    let new : Places = place_of c.follow_written-answer.new.places in
    let records : List ℕ = c.in_ok-gathered.gathered.records.items in
    let e = c.in_ok-gathered.ensures in
    let are : AreGone old next.gone records = record { real = e.real; all = e.all } in
    let ids : List ℕ = all_gone (names_of cat.names) records next.entry in
    let ids-are : c.deref.result.now ≡ ids = c.deref.ensures.value ∙ e.gone in
    let places = c.requires.sound.places in
    let names = c.requires.sound.names in
    let is = c.requires.next in
    let w = c.in-Ok.ensures.writes in
    let k = c.in-Ok.ensures.commits in
    let f = c.follow_written-answer.ensures in
    let next-names = names-next cat next records places names is are (names_of c.prepare_names.new.names) f.names.between (names_of c.follow_written-answer.new.names) c.prepare_names.ensures.same f.names.forgotten f.names.others (λ x new-is. f.names.names x new-is ∙ e.named x new-is) f.names.stay in
    record {
      leaves = record {
        book = k.stands;
        sound = λ goes. record {
          kept = subst (λ (v : ℕ). AreKept told c.write_next.new.objects (p.numbers c.write_next.new.book) v (o c.write_next.new.host)) (sym k.same_place) (k.kept tt);
          places = sound-next next old mid new c.in_ok-keep_new.ensures.kept c.in_ok-keep_new.ensures.others f.places.gone f.places.others
              c.deref.result.now (λ sig uid id at m. place-goes cat next records places names is are sig uid id at (subst (λ (l : List ℕ). Among l id) ids-are m))
              (held cat.objects) (held c.write_next.new.objects) places is.free is.ids w.new w.there;
          names = names-sound-next cat next records places names is are (names_of c.follow_written-answer.new.names) next-names (held c.write_next.new.objects) w.new w.new_larges
              (λ id some out. w.there id some (λ m. out (subst (λ (l : List ℕ). Among l id) ids-are m)));
          formed = subst (λ (d : Directory). well_formed (bare_store d) ≡ true) (sym f.directory) is.formed;
        };
        same_place = k.same_place;
        nothing_done = λ refused. absurd refused;
        unchanged = λ wanting. absurd (memory-none wanting);
        open_after = k.open_after;
        alone = k.alone;
        ends = record { cause = tt; no_fault = λ goes. k.no_fault tt };
      };
      makes = record {
        answer = f.answer;
        changed = λ tells s t stands turns.
            let later : List ℕ = image u (o c.write_next.new.host).now in
            let h = w.holds tells stands.texts stands.holds in
            let wrote : WritesNext next ids stands.texts h.0 = subst (λ (l : List ℕ). WritesNext next l stands.texts h.0) ids-are h.2 in
            let low : cost t ≤ cap (blocks_of now) = subst (λ (n : ℕ). n ≤ cap (blocks_of now)) (cost-after cat next records places names is are s t now stands turns h.0 wrote) h.3 in
            let size : length later ≡ length now = g.met.H.Host.sized c.write_next.new.host u tells ∙ ap (λ (b : ℕ). b * 4096) (k.alone.cards.blocks u) ∙ sym (g.met.H.Host.sized c.args.host.now u tells) in
            record {
              texts = h.0;
              holds = h.1;
              describes = subst (λ (d : Directory). Describes d new (names_of c.follow_written-answer.new.names) h.0 t) (sym f.directory) (described-by cat next records places names is are s t now stands turns new (names_of c.follow_written-answer.new.names) h.0
                  (table-next next old mid new c.in_ok-keep_new.ensures.kept c.in_ok-keep_new.ensures.others f.places.gone f.places.others (turns.stays stands.texts stands.describes)) next-names wrote);
              fits = same-cap now later (cost t) size low;
              keeps = keeps-all later t h.4;
            };
        fits = λ tells s t stands turns.
            let h = w.holds tells stands.texts stands.holds in
            let wrote : WritesNext next ids stands.texts h.0 = subst (λ (l : List ℕ). WritesNext next l stands.texts h.0) ids-are h.2 in
            subst (λ (n : ℕ). n ≤ cap (blocks_of now)) (cost-after cat next records places names is are s t now stands turns h.0 wrote) h.3;
        full = λ refused. absurd refused;
        only = tt;
        still = λ refused. absurd refused;
      };
      unit = unit-turns told cat next records c.deref.result.now p.place p.numbers p.stands c.args.book.now (o c.args.host.now) c.requires.sound is are e.once ids-are c.write_next.new.book c.write_next.new.objects (o c.write_next.new.host) (Ok tt) k w;
    }

pub returns-in-Err : goal.returns-in-Err
returns-in-Err g c =
    let p = g.P.PageBook in
    let told = g.H.Host.told in
    let o = g.H.Host.outside in
    let cat = c.args.catalog.now in
    let next = c.args.next in
    let u : ℕ = p.place c.args.book.now in
    let now : List ℕ = image u (o c.args.host.now).now in
    let old : Places = place_of cat.places in
    let mid : Places = place_of c.keep_new.new.places in
    let new : Places = place_of c.forget_new.new.places in
    let records : List ℕ = c.in_ok-gathered.gathered.records.items in
    let e = c.in_ok-gathered.ensures in
    let are : AreGone old next.gone records = record { real = e.real; all = e.all } in
    let ids-are : c.deref.result.now ≡ all_gone (names_of cat.names) records next.entry = c.deref.ensures.value ∙ e.gone in
    let places = c.requires.sound.places in
    let names = c.requires.sound.names in
    let is = c.requires.next in
    let w = c.in-Err.ensures.writes in
    let k = c.in-Err.ensures.commits in
    let f = c.forget_new.ensures in
    record {
      leaves = record {
        book = λ goes. k.stands goes;
        sound = λ goes.
            let there : (id : ℕ) → IsSome (held cat.objects id) → IsSome (held c.write_next.new.objects id) = λ id some. subst (λ (x : Option Extent). IsSome x) (sym (w.still (goes-refused c.in-Err.fault goes) id)) some in
            record {
              kept = subst (λ (v : ℕ). AreKept told c.write_next.new.objects (p.numbers c.write_next.new.book) v (o c.write_next.new.host)) (sym k.same_place) (k.kept goes);
              places = sound-fewer (held cat.objects) (held c.write_next.new.objects) old new there
                  (fewer-back next old mid new c.is_placed-was_placed.result c.in_ok-keep_new.ensures.kept c.in_ok-keep_new.ensures.others c.is_placed-was_placed.ensures.placed f.gone f.stays f.others) places;
              names = names-same (held cat.objects) (held c.write_next.new.objects) (names_of cat.names) (names_of c.prepare_names.new.names) there c.prepare_names.ensures.same names;
              formed = c.requires.sound.formed;
            };
        same_place = k.same_place;
        nothing_done = λ refused. k.nothing_done refused;
        unchanged = λ wanting. k.unchanged (memory-as c.in-Err.fault wanting);
        open_after = λ tells. tt;
        alone = k.alone;
        ends = record { cause = k.cause; no_fault = λ goes. k.no_fault goes };
      };
      makes = record {
        answer = tt;
        changed = λ tells s t stands turns. tt;
        fits = λ tells s t stands turns. tt;
        full = λ refused tells s t stands turns.
            let h = w.full (the-fault (full-refused c.in-Err.fault w.only refused)) tells stands.texts stands.holds in
            subst (λ (n : ℕ). cap (blocks_of now) < n) (cost-after cat next records places names is are s t now stands turns h.0 (subst (λ (l : List ℕ). WritesNext next l stands.texts h.0) ids-are h.1)) h.2;
        only = w.only;
        still = λ refused tells s t stands turns.
            let same : new ≡ old = same-back next old mid new c.is_placed-was_placed.result c.in_ok-keep_new.ensures.kept c.in_ok-keep_new.ensures.others c.is_placed-was_placed.ensures.placed f.gone f.stays f.others
            c.is_placed-was_placed.ensures.not_placed (turns.fresh stands.texts stands.describes) in
            let same-names : names_of c.prepare_names.new.names ≡ names_of cat.names = λ i r. c.prepare_names.ensures.same r i in
            record {
              texts = stands.texts;
              holds = stands.holds;
              describes = subst (λ (names : Names). Describes cat.directory new names stands.texts s) (sym same-names)
                  (subst (λ (pl : Places). Describes cat.directory pl (names_of cat.names) stands.texts s) (sym same) stands.describes);
              fits = stands.fits;
              keeps = stands.keeps;
            };
      };
      unit = unit-turns told cat next records c.deref.result.now p.place p.numbers p.stands c.args.book.now (o c.args.host.now) c.requires.sound is are e.once ids-are c.write_next.new.book c.write_next.new.objects (o c.write_next.new.host) (Err c.in-Err.fault) k w;
    }
