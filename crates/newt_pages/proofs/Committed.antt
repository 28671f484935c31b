-- Where the pages stand once a record is committed after the others.
use Rattle.std.proofs.Common.{IsTrue, ◌≡◌, ℕ, ◌+◌, ◌*◌, ◌<◌, ◌≤◌, Bool, true, false, nat_eq, List, [], ◌∷◌, ◌++◌, length, Option, Some, refl, sym, ◌∙◌, ap, arith}
use Rattle.std.specs.List.{filter}
use Rattle.std.specs.Map.{lookup}
use Rattle.std.specs.Option.{option_map}
use Rattle.newt_host.specs.Moments.{image}
use Rattle.newt_host.specs.Outside.{Outside}
use Rattle.newt_spec_image.specs.Records.{records}
use Rattle.newt_spec_image.specs.Pages.{Pages, Change, after, change_in, written_change}
use Rattle.newt_journal.specs.Journal.{records_bytes, Stands, appended}
use Rattle.newt_journal.specs.Places.{first_place}
use Rattle.newt_journal.specs.declared.journal.Journal.{Journal}
use Rattle.newt_journal.proofs.Recorded.{recorded-front, recorded-last, recorded-moved, end-told}
use Rattle.newt_pagebook.specs.Batch.{IsBatch}
use Rattle.newt_pagebook.specs.Book.{ReadsChanged}
use Rattle.newt_pagelog.specs.Kept.{map_of, needed, is_kept}
use Rattle.newt_pagelog.specs.Placed.{Places, lifted, page_of, ArePlaced, HoldsAt}
use Rattle.newt_pagelog.proofs.Maps.{no_put}
use Rattle.newt_pagelog.proofs.Payloads.{page-put}
use Rattle.newt_pagelog.proofs.Spelling.{written-says, fewer_deletes}
use Rattle.newt_pagelog.proofs.Committed.{appended-reads}
use Rattle.newt_pagelog.proofs.Placing.{lifted-same}
use Rattle.newt_pages.specs.Disk.{StandAt}
use Rattle.newt_pages.proofs.Tables.{needed-lifted}

-- the payloads of the records, where bytes are told
pub payloads_of : (told : Bool) (j : Journal) (places : Places) (o : Outside) → (IsTrue told → HoldsAt j (image j.unit o.now) places) → (payloads : List (List ℕ)) × (IsTrue told → records (image j.unit o.now) ≡ Some payloads)
payloads_of true j places o holds = ((holds refl).payloads, λ _. (holds refl).read)
payloads_of false j places o holds = ([], λ tells. absurd (cc))

-- where the pages of a record stand that is after others
pub stand-appended : (j : Journal) (passed : List (List ℕ)) (payload : List ℕ) (change : Change) (first : ℕ) → change_in payload ≡ Some change → first ≡ first_place j + length (records_bytes passed) + 13
    → StandAt (page_of j (passed ++ payload ∷ [])) first change.puts
stand-appended j passed payload change first says place i low =
    recorded-last j passed payload (first + 516 * i) 512 (8 + 516 * i) (omega (arith, place)) ∙ page-put payload change says i no_put low

-- the pages that stood there before
pub front-same : (j : Journal) (passed : List (List ℕ)) (payload : List ℕ) (places : Places) (end : ℕ) → end ≡ first_place j + length (records_bytes passed)
    → ((q at : ℕ) → lookup (nat_eq q) places ≡ Some at → (first_place j ≤ at) × (at + 512 ≤ end)) → map_of (lifted (page_of j (passed ++ payload ∷ [])) places) ≡ map_of (lifted (page_of j passed) places)
front-same j passed payload places end end_is placed =
    lifted-same (page_of j (passed ++ payload ∷ [])) (page_of j passed) places (λ q at there. let p = placed q at there in recorded-front j passed payload at 512 p.0 (omega (arith, p.1, end_is)))

pub moved-same : (j k : Journal) → first_place j ≡ first_place k → (payloads : List (List ℕ)) (places : Places) → map_of (lifted (page_of j payloads) places) ≡ map_of (lifted (page_of k payloads) places)
moved-same j k same payloads places = lifted-same (page_of j payloads) (page_of k payloads) places (λ q at there. recorded-moved j k same payloads at 512)

-- more records after them
pub placed-wider : (j k : Journal) (places : Places) → first_place k ≡ first_place j → j.end ≤ k.end → ArePlaced j places → ArePlaced k places
placed-wider j k places same more placed q at there = let p = placed q at there in record { small = p.small; low = omega (arith, same, p.low); high = omega (arith, more, p.high) }

-- all of it together: the places after a batch was appended
pub holds-appended : (told : Bool) (j k : Journal) (o : Outside) (now : List ℕ) (old new : Places) (batch : Change) → Stands told j o → IsTrue told → IsBatch batch → length batch.puts < 65536 → length (filter (is_kept old) batch.deletes) < 65536
    → first_place k ≡ first_place j → ArePlaced j old → HoldsAt j (image j.unit o.now) old → records now ≡ appended (records (image j.unit o.now)) (written_change (needed old batch))
    → ((page : ℕ → List ℕ) → StandAt page (j.end + 13) batch.puts → map_of (lifted page new) ≡ after batch (map_of (lifted page old)))
    → HoldsAt k now new × ReadsChanged batch (image j.unit o.now) now
holds-appended told j k o now old new batch stands tells is few low same placed h added moved =
    let img = image j.unit o.now in
    let f = page_of j h.payloads in
    let entries = lifted f old in
    let payload = written_change (needed old batch) in
    let same_needed : needed old batch ≡ needed entries batch = sym (needed-lifted f old batch) in
    let low_entries : length (filter (is_kept entries) batch.deletes) < 65536 = omega (arith, low, ap (λ (ch : Change). length ch.deletes) same_needed) in
    let added_entries : records now ≡ appended (records img) (written_change (needed entries batch)) = added ∙ ap (λ (ch : Change). appended (records img) (written_change ch)) same_needed in
    let reads : ReadsChanged batch img now = appended-reads entries batch img now is few low_entries h.holds added_entries in
    let says : change_in payload ≡ Some (needed old batch) = written-says (needed old batch) (fewer_deletes (is_kept old) batch is) few low in
    let end = end-told told j o stands tells h.payloads h.read in
    let all : List (List ℕ) = h.payloads ++ payload ∷ [] in
    let stand : StandAt (page_of j all) (j.end + 13) batch.puts = stand-appended j h.payloads payload (needed old batch) (j.end + 13) says (omega (arith, end)) in
    let front : map_of (lifted (page_of j all) old) ≡ map_of entries = front-same j h.payloads payload old j.end end (λ q at there. ((placed q at there).low, (placed q at there).high)) in (
      record {
        payloads = all;
        read = added ∙ ap (λ (r : Option (List (List ℕ))). appended r payload) h.read;
        holds = reads ∙ ap (option_map (after batch)) h.holds ∙ ap (λ (m : Pages). Some m) (ap (after batch) (sym front) ∙ sym (moved (page_of j all) stand) ∙ sym (moved-same k j same all new));
      },
      reads,
    )
