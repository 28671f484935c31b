-- A directory as a store without its entries.
use Rattle.std.specs.Prelude.{[], ◌<◌, ◌^◌, length, map, IfSome}
use Rattle.newt_spec_nsof.specs.Flat.{flat}
use Rattle.newt_spec_store.specs.Store.{Soup, Store}
use Rattle.newt_soupdir.specs.declared.rows.SoupRow.{SoupRow}
use Rattle.newt_soupdir.specs.declared.rows.Directory.{Directory}

-- a row as a soup without entries
abbrev pub bare_soup : SoupRow → Soup
bare_soup row = record { name = row.name; sig = row.sig; next_uid = row.next_uid; specs = row.specs; tags = row.tags; info = row.info; entries = [] }

-- a directory as a store without entries
abbrev pub bare_store : Directory → Store
bare_store d = record { name = d.name; sig = d.sig; next_soup = d.next_soup; soups = map bare_soup d.soups }

-- the numbers of a row fit in their bytes
abbrev pub fits : SoupRow → Type 0
fits row = (row.sig < 2 ^ 16) × (length row.specs < 256) × IfSome row.info (λ g. length (flat g) < 2 ^ 16)
