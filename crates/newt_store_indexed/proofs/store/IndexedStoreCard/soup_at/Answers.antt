use Rattle.std.proofs.Common.{◌≡◌, ℕ, List, map, Option, Some, None, option_map, refl, sym, ◌∙◌, ap}
use Rattle.std.specs.List.{slice_get}
use Rattle.std.proofs.lemmas.Option.{slice_get-map, slice_get_read, slice_get_past}
use Rattle.newt_soupdir.specs.Bare.{bare_soup}
use Rattle.newt_soupdir.specs.declared.rows.Directory.{Directory}
use Rattle.newt_soupdir.specs.declared.rows.SoupRow.{SoupRow}
use Rattle.newt_spec_store.specs.Store.{Soup}
use Rattle.newt_store_indexed.proofs.store.IndexedStoreCard.soup_at.Goals as goal

-- the name and the signature of what is found at a place
abbrev said : Option Soup → Option (List ℕ × ℕ)
said found = option_map (λ p. (p.name, p.sig)) found

row-said : (rows soups : List SoupRow) (at : ℕ) (found : Option SoupRow) → rows ≡ soups → slice_get rows at ≡ found → said (option_map bare_soup found) ≡ said (slice_get (map bare_soup soups) at)
row-said rows soups at found same is =
    ap (λ (o : Option SoupRow). said (option_map bare_soup o)) (sym is) ∙ ap (λ (l : List SoupRow). said (option_map bare_soup (slice_get l at))) same ∙ ap said (sym (slice_get-map bare_soup soups at))

pub returns-in-Some : goal.returns-in-Some
returns-in-Some g c =
    let rows = c.list.result.now in
    let same : rows ≡ c.args.self.now.store.catalog.directory.soups = c.list.ensures ∙ ap (λ (d : Directory). d.soups) c.directory.ensures in
    let found = c.in-Some.ensures.lookup in
    row-said rows c.args.self.now.store.catalog.directory.soups c.args.at (Some c.in-Some.row.now) same (slice_get_read rows _ c.args.at c.in-Some.row.now refl found.3.0 found.1)

pub returns-in-None : goal.returns-in-None
returns-in-None g c =
    let rows = c.list.result.now in
    let same : rows ≡ c.args.self.now.store.catalog.directory.soups = c.list.ensures ∙ ap (λ (d : Directory). d.soups) c.directory.ensures in
    row-said rows c.args.self.now.store.catalog.directory.soups c.args.at None same (slice_get_past rows c.args.at c.in-None.ensures.lookup.3)
