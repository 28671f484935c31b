use Rattle.std.proofs.Common.{rules, ◌≡◌, ◌+◌, true, false, sym, ◌∙◌, ap, subst, map, length, nat_le}
use Rattle.std.specs.Option.{IfSome}
use Rattle.std.specs.List.{sum_by}
use Rattle.std.proofs.lemmas.Bool.{false≢true}
use Rattle.newt_entries.specs.declared.full.FullEntry.{FullEntry}
use Rattle.newt_spec_image.specs.Objects.{pages_for}
use Rattle.newt_graph.specs.Graph.{IsGraph}
use Rattle.newt_soupdir.specs.Bare.{bare_soup, bare_store}
use Rattle.newt_spec_graph.specs.Lists.{Each}
use Rattle.newt_spec_store.specs.Store.{Soup}
use Rattle.newt_spec_store.specs.Cost.{directory_bytes, entry_pages}
use Rattle.newt_spec_store.specs.Valid.{well_formed}
use Rattle.newt_backup.specs.Checks.{are_of}
use Rattle.newt_entries.specs.Full.{told, as_entry}
use Rattle.newt_backup.proofs.Back.{kept-yes, kept-passes, kept-fits, store-theirs}
use Rattle.newt_backup.proofs.checks.is_store.Goals as goal

pub returns-then-not-are_of-clause-no : goal.returns-then-not-are_of-clause-no
returns-then-not-are_of-clause-no c = λ no s v b xs.
    let infos = subst (λ rows. Each (λ (p : Soup). IfSome p.info IsGraph) (map bare_soup rows)) c.list.ensures c.know_infos.ensures in
    let k = store-theirs c.args.directory.now c.args.entries.now s infos c.know_entries.ensures v b xs in
    let passes = kept-passes c.args.directory.now c.args.entries.now k in
    let fails : are_of (bare_store c.args.directory.now).soups (map told c.args.entries.now) ≡ false = search rules in
    false≢true (sym fails ∙ passes)

pub returns-clause-yes : goal.returns-clause-yes
returns-clause-yes c = λ yes.
    let infos = subst (λ rows. Each (λ (p : Soup). IfSome p.info IsGraph) (map bare_soup rows)) c.list.ensures c.know_infos.ensures in
    let formed : well_formed (bare_store c.args.directory.now) ≡ true = search rules in
    let passes : are_of (bare_store c.args.directory.now).soups (map told c.args.entries.now) ≡ true = search rules in
    let size : c.len.result ≡ length (directory_bytes (bare_store c.args.directory.now)) = search rules in
    let fits = ap (λ n. nat_le (pages_for n + sum_by (λ (e : FullEntry). entry_pages (as_entry e)) c.args.entries.now) 15978) (sym size) ∙ sym c.fit.ensures ∙ yes in
    kept-yes c.args.directory.now c.args.entries.now formed infos c.know_entries.ensures passes fits

pub returns-clause-no : goal.returns-clause-no
returns-clause-no c = λ no s v b xs.
    let infos = subst (λ rows. Each (λ (p : Soup). IfSome p.info IsGraph) (map bare_soup rows)) c.list.ensures c.know_infos.ensures in
    let k = store-theirs c.args.directory.now c.args.entries.now s infos c.know_entries.ensures v b xs in
    let size : c.len.result ≡ length (directory_bytes (bare_store c.args.directory.now)) = search rules in
    let fits = kept-fits c.args.directory.now c.args.entries.now k in
    let fails = ap (λ n. nat_le (pages_for n + sum_by (λ (e : FullEntry). entry_pages (as_entry e)) c.args.entries.now) 15978) (sym size) ∙ sym c.fit.ensures ∙ no in
    false≢true (sym fails ∙ fits)
