use Rattle.std.proofs.Common.{rules, ◌≡◌, ℕ, List, [], ◌++◌, map, ◌∙◌, ap}
use Rattle.newt_host.specs.Moments.{image}
use Rattle.newt_soupdir.specs.declared.rows.Directory.{Directory}
use Rattle.newt_soupdir.specs.declared.rows.SoupRow.{SoupRow}
use Rattle.newt_entries.specs.declared.full.FullEntry.{FullEntry}
use Rattle.newt_entries.specs.Full.{told}
use Rattle.newt_store_backup.specs.Listed.{soups_listed}
use Rattle.newt_store_backup.proofs.Kept.{directory-lists}
use Rattle.newt_store_backup.proofs.gather.entries_of.Goals as goal

pub returns-clause-all : goal.returns-clause-all
returns-clause-all g c = λ tells s shows.
    let sigs : c.deref.result.now ≡ map (λ (row : SoupRow). row.sig) c.args.store.now.catalog.directory.soups
    = c.deref.ensures.value ∙ c.in_ok-soups.ensures ∙ ap (λ (rows : List SoupRow). map (λ (row : SoupRow). row.sig) rows) (c.list.ensures ∙ ap (λ (d : Directory). d.soups) c.directory.ensures) in
    let none : c.new-entries.result.items ≡ [] = search rules in
    c.in_ok-put_soups.ensures.put tells s shows ∙ ap (λ (es : List FullEntry). map told es ++ soups_listed s c.deref.result.now) none ∙ ap (λ (ns : List ℕ). soups_listed s ns) sigs
    ∙ directory-lists c.args.store.now.catalog s (image (g.P.PageBook.place c.args.store.now.book) (g.H.Host.outside c.args.host.now).now) shows
