-- What the host over files tells: names, numbers of blocks and counts, and no bytes.
use Rattle.std.specs.Prelude.{ℕ, List, [], None, slice_get}
use Rattle.newt_host.specs.Outside.{Outside}
use Rattle.newt_host_files.specs.Cards.{name_of, blocks_of, faults_of, programmed_of, fetched_of, erased_of, synced_of, broken_of}
use Rattle.newt_host_files.specs.declared.card.Card.{Card}

-- what the units and the two counts of faults tell
abbrev pub told_by : List Card → ℕ → ℕ → Outside
told_by cards in_faults out_faults = record {
  now = [];
  input = [];
  devices = λ name. None;
  card = λ u. name_of (slice_get cards u);
  blocks = λ u. blocks_of (slice_get cards u);
  in_faults = in_faults;
  out_faults = out_faults;
  dev_faults = λ u. faults_of (slice_get cards u);
  programmed = λ u. programmed_of (slice_get cards u);
  fetched = λ u. fetched_of (slice_get cards u);
  erased = λ u. erased_of (slice_get cards u);
  synced = λ u. synced_of (slice_get cards u);
  broken = λ u. broken_of (slice_get cards u);
}
