use Rattle.std.proofs.Common.{rules, ◌≡◌, ℕ, List, Result, true, false, sym, ◌∙◌, ap, subst, map}
use Rattle.newt_graph.specs.Graph.{RawGraph}
use Rattle.newt_host.specs.Moments.{image}
use Rattle.newt_host.proofs.Outside.{NoFault-append}
use Rattle.newt_pagebook.specs.declared.book.BookFault.{BookFault}
use Rattle.newt_pagebook.specs.declared.book.BookFault.TheVariants.{Memory}
use Rattle.newt_soupdir.specs.declared.rows.Directory.{Directory}
use Rattle.newt_soupdir.specs.Bare.{bare_store}
use Rattle.newt_spec_store.specs.Store.{Store}
use Rattle.newt_spec_store.specs.Valid.{well_formed}
use Rattle.newt_store_catalog.specs.Stands.{StandsFor}
use Rattle.newt_store_catalog.proofs.Exits.{looks-on, broke-on, search-value, search-memory, search-device, search-after}
use Rattle.newt_store_catalog.proofs.Opening.{same-image}
use Rattle.newt_backup.specs.Backup.{IsKept, backup}
use Rattle.newt_entries.specs.Full.{told}
use Rattle.newt_store_backup.proofs.Kept.{store-valid, the-store, no-backup}
use Rattle.newt_store_backup.proofs.backup.backup_of.Goals as goal

pub is_store-requires : goal.is_store-requires
is_store-requires g c = subst (λ (d : Directory). well_formed (bare_store d) ≡ true) (sym c.directory.ensures) c.in-Ok.ensures.reads.is_open.sound.formed

pub returns-in_err-store : goal.returns-in_err-store
returns-in_err-store g c =
    let o = g.H.Host.outside in
    let r : Result RawGraph BookFault = c.from_residual.result in
    no-backup g.H.Host.told c.args.unit (o c.args.host.now) (o c.open.new.host) r c.in_err-store.field-0.0 c.from_residual.ensures.1 c.in_err-store.ensures.looks c.in_err-store.ensures.ends

-- ---- where bytes are told, the unit shows a store, and it is what was read

pub lies-requires : goal.lies-requires
lies-requires g c = λ tells.
    let o = g.H.Host.outside in
    let place = g.P.PageBook.place in
    let opened = c.in_ok-store.ensures in
    let found = opened.found tells in
    let s : Store = found.0 in
    let store = c.in_ok-store.store in
    let img : List ℕ = image c.args.unit (o c.args.host.now).now in
    let there = same-image c.args.unit (place store.book) (o c.args.host.now).now (o c.open.new.host).now opened.place_is opened.looks.moment in
    let shows = subst (λ (i : List ℕ). StandsFor store.catalog s i) (sym there) found.2 in
    let v = store-valid store.catalog s img _ found.2 (g.met.H.Host.sized c.args.host.now c.args.unit tells) c.requires.not_too_many in
    let read = c.in-Ok.ensures.all tells s shows in
    let b = found.2.describes.bare_is ∙ ap (λ catalog. bare_store catalog.directory) (sym c.in-Ok.ensures.reads.catalog) ∙ ap bare_store (sym c.directory.ensures) in
    let xs = sym read ∙ ap (λ es. map told es) (sym c.deref.ensures.value) in
    let no : c.in_ok-is_store.field-0 ≡ false = search rules in
    c.in_ok-is_store.ensures.no no s v b xs

-- ---- the exits

pub returns-in-Err-Memory : goal.returns-in-Err-Memory
returns-in-Err-Memory g c =
    let opened = c.in_ok-store.ensures in
    record { backup_is = λ tells. tt; looks = looks-on opened.place_is opened.looks c.entries_of.ensures.reads.looks; ends = search-memory (NoFault-append (opened.ends.no_fault tt) (rw c.in-Err-Memory.field-0-is at c.in-Err-Memory.ensures.ends.cause)) }

pub returns-in-Err-Device : goal.returns-in-Err-Device
returns-in-Err-Device g c =
    let o = g.H.Host.outside in
    let opened = c.in_ok-store.ensures in
    let at = rw c.in-Err-Device.field-0-is at c.in-Err-Device.ensures.ends.cause in
    record {
      backup_is = λ tells. tt;
      looks = looks-on opened.place_is opened.looks c.entries_of.ensures.reads.looks;
      ends = search-device (broke-on (o c.entries_of.new.host) opened.place_is (opened.ends.no_fault tt) at.1);
    }

pub returns-in_err-is_store : goal.returns-in_err-is_store
returns-in_err-is_store g c =
    let o = g.H.Host.outside in
    let opened = c.in_ok-store.ensures in
    let r : Result RawGraph BookFault = c.from_residual-in_err-is_store.result in
    no-backup g.H.Host.told c.args.unit (o c.args.host.now) (o c.entries_of.new.host) {T = RawGraph} r Memory c.from_residual-in_err-is_store.ensures.1
    (looks-on opened.place_is opened.looks c.in-Ok.ensures.reads.looks) (search-memory (NoFault-append (opened.ends.no_fault tt) c.in-Ok.ensures.ends.no_fault))

pub returns-then-not-branch : goal.returns-then-not-branch
returns-then-not-branch g c =
    let o = g.H.Host.outside in
    let opened = c.in_ok-store.ensures in
    rw c.lies.ensures (record { backup_is = λ tells. tt; looks = looks-on opened.place_is opened.looks c.in-Ok.ensures.reads.looks; ends = search-memory (NoFault-append (opened.ends.no_fault tt) c.in-Ok.ensures.ends.no_fault) })

pub returns-in_err-pack_backup : goal.returns-in_err-pack_backup
returns-in_err-pack_backup g c =
    let o = g.H.Host.outside in
    let opened = c.in_ok-store.ensures in
    let r : Result RawGraph BookFault = c.from_residual-in_err-pack_backup.result in
    no-backup g.H.Host.told c.args.unit (o c.args.host.now) (o c.entries_of.new.host) {T = RawGraph} r Memory c.from_residual-in_err-pack_backup.ensures.1
    (looks-on opened.place_is opened.looks c.in-Ok.ensures.reads.looks) (search-memory (NoFault-append (opened.ends.no_fault tt) c.in-Ok.ensures.ends.no_fault))

pub returns : goal.returns
returns g c =
    let o = g.H.Host.outside in
    let place = g.P.PageBook.place in
    let opened = c.in_ok-store.ensures in
    let store = c.in_ok-store.store in
    record {
      backup_is = λ tells.
          let found = opened.found tells in
          let s : Store = found.0 in
          let img : List ℕ = image c.args.unit (o c.args.host.now).now in
          let there = same-image c.args.unit (place store.book) (o c.args.host.now).now (o c.open.new.host).now opened.place_is opened.looks.moment in
          let shows = subst (λ (i : List ℕ). StandsFor store.catalog s i) (sym there) found.2 in
          let v = store-valid store.catalog s img _ found.2 (g.met.H.Host.sized c.args.host.now c.args.unit tells) c.requires.not_too_many in
          let read = c.in-Ok.ensures.all tells s shows in
          let b = found.2.describes.bare_is ∙ ap (λ catalog. bare_store catalog.directory) (sym c.in-Ok.ensures.reads.catalog) in
          let yes : c.in_ok-is_store.field-0 ≡ true = search rules in
          let tested = the-store c.directory.result.now c.deref.result.now s v (b ∙ ap bare_store (sym c.directory.ensures)) (sym read ∙ ap (λ es. map told es) (sym c.deref.ensures.value)) in
          let packed = the-store c.directory-2.result.now c.deref-2.result.now s v (b ∙ ap bare_store (sym c.directory-2.ensures)) (sym read ∙ ap (λ es. map told es) (sym c.deref-2.ensures.value)) in
          (s, found.1, subst IsKept tested (c.in_ok-is_store.ensures.yes yes).kept, c.in_ok-pack_backup.ensures ∙ ap backup packed);
      looks = looks-on opened.place_is opened.looks c.in-Ok.ensures.reads.looks;
      ends = search-after opened.place_is opened.looks (opened.ends.no_fault tt) (search-value c.in-Ok.ensures.ends.no_fault);
    }
