-- A directory and entries that a backup has, as a unit gets them.
use Rattle.std.proofs.Common.{◌≡◌, true, ℕ, ◌≤◌, List, arith}
use Rattle.newt_spec_image.specs.Pages.{cap}
use Rattle.newt_spec_store.specs.Valid.{fits, well_formed}
use Rattle.newt_soupdir.specs.declared.rows.Directory.{Directory}
use Rattle.newt_entries.specs.declared.full.FullEntry.{FullEntry}
use Rattle.newt_backup.specs.Contents.{AreKept, store_in}
use Rattle.newt_backup.proofs.Kept.{kept-formed}
use Rattle.newt_backup.proofs.Contents.{bare-same, entries-same}
use Rattle.newt_store.specs.Fill.{AreStore}
use Rattle.newt_store.proofs.Reading.{join}

-- they are its store where it fits
pub are-store : (blocks : ℕ) (d : Directory) (es : List FullEntry) → AreKept d es → fits blocks (store_in d es) ≡ true → AreStore blocks (store_in d es) d es
are-store blocks d es k f = record {
  is_valid = join (well_formed (store_in d es)) (fits blocks (store_in d es)) (kept-formed (store_in d es) k.kept) f;
  directory = bare-same d es;
  entries = entries-same d es k.in_order;
  infos = k.kept.infos;
  graphs = k.kept.graphs;
}

-- no unit takes more pages
pub most-pages : (blocks : ℕ) → blocks ≤ 4099 → cap blocks ≤ 15978
most-pages blocks few = omega (arith, few)
