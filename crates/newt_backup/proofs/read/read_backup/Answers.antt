use Rattle.std.proofs.Common.{rules, ◌≡◌, true, false, sym, ◌∙◌, ap, [], map}
use Rattle.newt_soupdir.specs.Bare.{bare_store}
use Rattle.newt_spec_store.specs.Valid.{well_formed}
use Rattle.newt_backup.specs.Backup.{backup}
use Rattle.newt_backup.specs.Texts.{texts_from}
use Rattle.newt_backup.specs.Contents.{store_in}
use Rattle.newt_entries.specs.Full.{told}
use Rattle.newt_backup.proofs.Back.{the-store, found-store, read-formed}
use Rattle.newt_backup.proofs.read.read_backup.Goals as goal

pub is_store-requires : goal.is_store-requires
is_store-requires c =
    let formed : well_formed (bare_store c.in_ok-directory.directory) ≡ true
    = read-formed (texts_from [] c.args.graph.now.nodes) (bare_store c.in_ok-directory.directory) (map told c.in_ok-directory.entries.items) c.in_ok-directory.ensures.found in
    search (rules, formed)

pub returns-then-not-branch-clause-bad : goal.returns-then-not-branch-clause-bad
returns-then-not-branch-clause-bad c = λ is s k e.
    let r = the-store c.args.graph.now c.in_ok-directory.directory c.in_ok-directory.entries.items s c.in_ok-directory.ensures.found k e in
    let no : c.in_ok-is_store.field-0 ≡ false = search rules in
    c.in_ok-is_store.ensures.no no s k.valid r.0 (r.1 ∙ ap (λ es. map told es) (sym c.deref.ensures.value))

pub returns-then-not-branch-2-clause-bad : goal.returns-then-not-branch-2-clause-bad
returns-then-not-branch-2-clause-bad c = λ is s k e.
    let d = c.in_ok-directory.directory in
    let es = c.in_ok-directory.entries.items in
    let r = the-store c.args.graph.now d es s c.in_ok-directory.ensures.found k e in
    let no : c.in_ok-are_same.field-0 ≡ false = search rules in
    let again : c.in_ok-again.again ≡ backup (store_in d c.deref-2.result.now) = search rules in
    c.in_ok-are_same.ensures.no no (again ∙ ap (λ es. backup (store_in d es)) c.deref-2.ensures.value ∙ ap (λ s. backup s) (found-store s d es k r.0 r.1).1 ∙ e)
