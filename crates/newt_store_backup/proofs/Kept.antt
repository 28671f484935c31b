-- The store that a unit shows is one of some unit, and what each exit says.
use Rattle.std.proofs.Common.{◌≡◌, ℕ, ◌*◌, ◌≤◌, Bool, true, List, [], ◌∷◌, length, map, Result, Err, Some, refl, sym, ◌∙◌, ap, subst}
use Rattle.std.proofs.lemmas.Bool.{and_parts}
use Rattle.newt_graph.specs.Graph.{RawGraph}
use Rattle.newt_host.specs.Moments.{image}
use Rattle.newt_host.specs.Outside.{Outside, OnlyReads}
use Rattle.newt_pagebook.specs.declared.book.BookFault.{BookFault}
use Rattle.newt_spec_image.specs.Pages.{cap}
use Rattle.newt_objects_commit.proofs.Committing.{blocks-are}
use Rattle.newt_soupdir.specs.declared.rows.Directory.{Directory}
use Rattle.newt_soupdir.specs.declared.rows.SoupRow.{SoupRow}
use Rattle.newt_soupdir.specs.Bare.{bare_soup, bare_store}
use Rattle.newt_spec_store.specs.Cost.{cost}
use Rattle.newt_spec_store.specs.Image.{all_entries}
use Rattle.newt_spec_store.specs.Laid.{bare}
use Rattle.newt_spec_store.specs.Store.{Soup, Store}
use Rattle.newt_spec_store.specs.Valid.{valid, well_formed, fits}
use Rattle.newt_store_catalog.specs.Readable.{readable}
use Rattle.newt_store_catalog.specs.Reading.{SearchEnds}
use Rattle.newt_store_catalog.specs.Stands.{StandsFor}
use Rattle.newt_store_catalog.specs.declared.catalog.Catalog.{Catalog}
use Rattle.newt_store_catalog.proofs.Exits.{Fails, no-value, search-fails}
use Rattle.newt_store.proofs.Reading.{is-valid}
use Rattle.newt_entries.specs.declared.full.FullEntry.{FullEntry}
use Rattle.newt_backup.specs.Backup.{IsKept, backup}
use Rattle.newt_backup.specs.Contents.{store_in}
use Rattle.newt_entries.specs.Full.{told}
use Rattle.newt_backup.proofs.Kept.{valid-most}
use Rattle.newt_backup.proofs.Together.{store-together}
use Rattle.newt_backup.specs.Together.{together}
use Rattle.newt_store_backup.specs.Backed.{BacksUp}
use Rattle.newt_store_backup.specs.Listed.{soups_listed}
use Rattle.newt_store_backup.proofs.Listed.{all-listed}

-- what a unit shows is valid on the largest one
pub store-valid : (catalog : Catalog) (s : Store) (now : List ℕ) (blocks : ℕ) → StandsFor catalog s now → length now ≡ blocks * 4096 → blocks ≤ 4099 → valid 4099 s ≡ true
store-valid catalog s now blocks at size few =
    valid-most blocks s few (is-valid blocks s at.describes.formed (subst (λ n. cost s ≤ cap n) (blocks-are now blocks size) at.fits))

-- the signatures of its soups are those of its directory
sigs-same : (ps : List Soup) → map (λ (p : Soup). p.sig) (map (λ (p : Soup). record p { entries = [] }) ps) ≡ map (λ (p : Soup). p.sig) ps
sigs-same [] = refl
sigs-same (p ∷ ps) = ap (λ (l : List ℕ). p.sig ∷ l) (sigs-same ps)

sigs-rows : (rows : List SoupRow) → map (λ (row : SoupRow). row.sig) rows ≡ map (λ (p : Soup). p.sig) (map bare_soup rows)
sigs-rows [] = refl
sigs-rows (row ∷ rows) = ap (λ (l : List ℕ). row.sig ∷ l) (sigs-rows rows)

-- so all its entries are listed by its directory
pub directory-lists : (catalog : Catalog) (s : Store) (now : List ℕ) → StandsFor catalog s now → soups_listed s (map (λ (row : SoupRow). row.sig) catalog.directory.soups) ≡ all_entries s
directory-lists catalog s now at =
    ap (λ (ns : List ℕ). soups_listed s ns) (sigs-rows catalog.directory.soups)
    ∙ ap (λ (t : Store). soups_listed s (map (λ (p : Soup). p.sig) t.soups)) (sym at.describes.bare_is) ∙ ap (λ (ns : List ℕ). soups_listed s ns) (sigs-same s.soups) ∙ all-listed s at.describes.formed

-- a store that directory and entries are is the one that has them
pub the-store : (d : Directory) (es : List FullEntry) (s : Store) → valid 4099 s ≡ true → bare s ≡ bare_store d → all_entries s ≡ map told es → store_in d es ≡ s
the-store d es s v b xs =
    ap (λ (t : Store). together t (map told es)) (sym b) ∙ ap (λ ys. together (bare s) ys) (sym xs) ∙ store-together s (and_parts (well_formed s) (fits 4099 s) v).0

module _ (tells : Bool) (unit : ℕ) (before after : Outside) where
  -- there is no backup
  pub no-backup : {T : Type 0} (r : Result RawGraph BookFault) (f : BookFault) → Fails r f → OnlyReads unit before after → SearchEnds {T = T} tells unit before after (Err f) → BacksUp tells unit before after r
  no-backup r f fails looks ends = record {
    backup_is = λ told. no-value r f (λ g. (s : Store) × (readable (image unit before.now) ≡ Some s) × IsKept s × (g ≡ backup s)) fails;
    looks = looks;
    ends = search-fails r f fails ends;
  }
