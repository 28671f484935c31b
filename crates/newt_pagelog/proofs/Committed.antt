-- What the pages are once a record is committed.
use Rattle.std.proofs.Common.{◌≡◌, ℕ, ◌<◌, List, [], ◌∷◌, length, Some, sym, ◌∙◌, ap, arith}
use Rattle.std.specs.List.{filter}
use Rattle.std.specs.Option.{option_map}
use Rattle.newt_spec_image.specs.Records.{records}
use Rattle.newt_spec_image.specs.Pages.{Pages, Change, pages, after, change_in, written_change}
use Rattle.newt_journal.specs.Journal.{appended}
use Rattle.newt_pagebook.specs.Batch.{IsBatch}
use Rattle.newt_pagebook.specs.Book.{ReadsChanged}
use Rattle.newt_pagelog.specs.Kept.{Entries, AreSound, map_of, needed, is_kept, all_of}
use Rattle.newt_pagelog.proofs.Spelling.{written-says, fewer_deletes}
use Rattle.newt_pagelog.proofs.Changing.{read-appended, read-alone, needed-after, all-after, all_is_batch}

-- once a batch is appended, the pages are those after the batch
pub appended-reads : (entries : Entries) (batch : Change) (old new : List ℕ) → IsBatch batch → length batch.puts < 65536 → length (filter (is_kept entries) batch.deletes) < 65536 → pages old ≡ Some (map_of entries)
    → records new ≡ appended (records old) (written_change (needed entries batch)) → ReadsChanged batch old new
appended-reads entries batch old new is few low holds added =
    let says : change_in (written_change (needed entries batch)) ≡ Some (needed entries batch) = written-says (needed entries batch) (fewer_deletes (is_kept entries) batch is) few low in
    read-appended (records old) (written_change (needed entries batch)) (map_of entries) (needed entries batch) new added holds says ∙ ap (λ (m : Pages). Some m) (needed-after entries batch is.distinct)
    ∙ sym (ap (option_map (after batch)) holds)

-- once all pages after a batch are the one record, the pages are those after the batch
pub alone-reads : (entries : Entries) (batch : Change) (live : Pages) (old new : List ℕ) → AreSound entries → map_of entries ≡ after batch live → pages old ≡ Some live
    → records new ≡ Some (written_change (all_of entries) ∷ []) → ReadsChanged batch old new
alone-reads entries batch live old new sound is holds alone =
    let says : change_in (written_change (all_of entries)) ≡ Some (all_of entries) = written-says (all_of entries) (all_is_batch entries sound) sound.few (omega arith) in
    read-alone (written_change (all_of entries)) (all_of entries) new alone says ∙ ap (λ (m : Pages). Some m) (all-after entries sound.unique ∙ is) ∙ sym (ap (option_map (after batch)) holds)
