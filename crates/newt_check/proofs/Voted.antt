-- The first four rows of an image, by its chosen bank.
use Rattle.std.proofs.Common.{◌≡◌, ◌≢◌, ◌⊎◌, inl, inr, ℕ, ◌+◌, ◌-◌, ◌*◌, ◌≤◌, ◌==◌, if◌then◌else◌, Bool, true, false, List, [], ◌∷◌, ◌++◌, length, take, drop, Option, Some, None, option_map, option_and_then, refl, sym, ◌∙◌, ap, subst, arith, IsTrue, append_assoc}
use Rattle.std.proofs.lemmas.List.{drop-drop, drop-take}
use Rattle.std.proofs.lemmas.Bool.{cases_eq}
use Rattle.std.proofs.lemmas.Bool.Decides.{nat_tests}
use Rattle.std.specs.Option.{unwrap_or}
use Rattle.newt_nsof_flat.specs.Stream.{stream_graph}
use Rattle.newt_host.specs.Moments.{image as image_of}
use Rattle.newt_host.specs.Outside.{Outside}
use Rattle.newt_spec_image.specs.Pages.{pages}
use Rattle.newt_spec_image.specs.Records.{bank_size, bank_start, bank_bytes, chosen_bank, header, without, versioned, versioned_body, after_header, and_then, has_banks, body, records, IsVersion}
use Rattle.newt_journal.specs.Bank.{bank_number, start_of, limit_of}
use Rattle.newt_journal.specs.Journal.{Holds, Stands, written, records_bytes}
use Rattle.newt_journal.specs.Places.{first_place}
use Rattle.newt_journal.specs.Scan.{between}
use Rattle.newt_journal.specs.declared.bank.Bank.{Bank}
use Rattle.newt_journal.specs.declared.journal.Journal.{Journal}
use Rattle.newt_journal.proofs.Opened as opened
use Rattle.newt_journal.proofs.Steps.{holds-body, version-2}
use Rattle.newt_spec_graph.proofs.Lists.{none-some}
use Rattle.newt_spec_store.specs.OfImage.{blocks_of}
use Rattle.newt_spec_check.specs.declared.Layer.{Layer}
use Rattle.newt_spec_check.specs.declared.Layer.TheVariants as layer
use Rattle.newt_spec_check.specs.Damage.{damage, first_row, if_missing, start_of as start_in, versioned_in, no_bank, no_header, gates, gates_after, bank_gates, first_gate, leaves_bank, is_unformed, bad_payload}
use Rattle.newt_spec_check.proofs.Finds.{skip}
use Rattle.newt_spec_check.proofs.Journal.{whole-pages, whole-records}
use Rattle.newt_spec_check.proofs.Law.{is_cost, no-store}
use Rattle.newt_check.specs.Gates.{first_from, unformed_in}
use Rattle.newt_check.specs.Reports.{HasRecords, IsDamaged}

pub hit : (at : Layer) (o : Option ℕ) (place : ℕ) (rows : List (Layer × Option ℕ)) → o ≡ Some place → first_row ((at, o) ∷ rows) ≡ Some (record { layer = at; place = place })
hit at o place rows h = ap (λ o. first_row ((at, o) ∷ rows)) h

-- a row that is not of the cost is said of no store
pub no-store-at : (image : List ℕ) (at : Layer) (place : ℕ) → is_cost at ≡ false → damage stream_graph image ≡ Some (record { layer = at; place = place }) → IsDamaged at place image
no-store-at image at place other h = record { no_store = no-store stream_graph image (record { layer = at; place = place }) other h; first = h }

without-cases : (front bytes : List ℕ) → length front ≤ length bytes → (without front bytes ≡ None) ⊎ (take (length front) bytes ≡ front)
without-cases [] bytes long = inr refl
without-cases (x ∷ front) [] long = absurd (omega arith)
without-cases (x ∷ front) (y ∷ bytes) long = elim (cases_eq x y) [
  | inl same ↦ elim (without-cases front bytes (omega (arith, long))) [
    | inl none ↦ inl (let e : (if x == y then without front bytes else None) ≡ without front bytes = grind (arith, nat_tests) in e ∙ none)
    | inr is ↦ inr (λ i. sym same i ∷ is i)
  ]
  | inr differ ↦ inl (grind (arith, nat_tests))
]

module _ (image : List ℕ) (blocks : ℕ) (size : length image ≡ blocks * 4096) (enough : 13 ≤ blocks) (few : blocks ≤ 4099) where
  pub many : blocks_of image ≡ blocks
  many = omega (arith, size)

  pub banks : has_banks image ≡ true
  banks = grind (arith, nat_tests, many)

  pub no-votes : chosen_bank image ≡ None → IsDamaged layer.Votes 0 image
  no-votes h = no-store-at image layer.Votes 0 refl (hit layer.Votes _ 0 _ (ap (if_missing 0) h))

  module _ (bank : Bank) (voted : chosen_bank image ≡ Some (bank_number bank)) where
    abbrev start : ℕ
    start = start_of blocks bank

    abbrev limit : ℕ
    limit = limit_of blocks bank

    votes : no_bank image ≡ None
    votes = ap (if_missing 0) voted

    header-row : no_header image ≡ if_missing start (versioned (bank_bytes blocks (bank_number bank) image))
    header-row = ap (option_and_then (λ bank. if_missing (start_in image bank) (versioned_in image bank))) voted
        ∙ ap (λ n. if_missing (bank_start n (bank_number bank)) (versioned (bank_bytes n (bank_number bank) image))) many

    -- what stands after the header is known
    module _ (version : ℕ) (rest : List ℕ) (is_body : versioned_body image ≡ Some (version, rest)) where
      after-is : versioned (bank_bytes blocks (bank_number bank) image) ≡ Some (version, rest)
      after-is = sym (ap (λ (b : Bool). if b then and_then (chosen_bank image) (versioned_in image) else None) banks
          ∙ ap (λ (o : Option ℕ). and_then o (versioned_in image)) voted
          ∙ ap (λ (n : ℕ). versioned (bank_bytes n (bank_number bank) image)) many) ∙ is_body

      header-none : no_header image ≡ None
      header-none = header-row ∙ ap (if_missing start) after-is

      body-is : body image ≡ Some rest
      body-is = ap (λ (o : Option (ℕ × List ℕ)). and_then o (λ found. Some found.1)) is_body

      pub gates-are : gates image ≡ gates_after (start + 16) 0 rest
      gates-are = ap (λ (o : Option ℕ). unwrap_or (option_and_then (λ bank. option_map (bank_gates (start_in image bank)) (body image)) o) []) voted
          ∙ ap (λ (o : Option (List ℕ)). unwrap_or (option_map (bank_gates (start_in image (bank_number bank))) o) []) body-is
          ∙ ap (λ n. gates_after (bank_start n (bank_number bank) + 16) 0 rest) many

    pub bad-header : ((version : ℕ) → IsVersion version → take 16 (drop start image) ≢ header version) → IsDamaged layer.Header start image
    bad-header differ =
        let bytes = bank_bytes blocks (bank_number bank) image in
        let other_header = opened.other_header blocks image size enough few bank voted in
        let none : versioned bytes ≡ None =
        ap (λ (o : Option (ℕ × List ℕ)). elim o as (λ _. Option (ℕ × List ℕ)) [ Some found ↦ Some found | None ↦ after_header 2 bytes ]) (other_header 1 (differ 1 (omega arith, omega arith)))
        ∙ other_header 2 (differ 2 version-2) in
        no-store-at image layer.Header start refl (skip layer.Votes _ _ votes ∙ hit layer.Header _ start _ (header-row ∙ ap (if_missing start) none))

    module _ (version : ℕ) (is_version : IsVersion version) (headed : take 16 (drop start image) ≡ header version) where
      abbrev rest : List ℕ
      rest = between (start + 16) limit image

      is-body : versioned_body image ≡ Some (version, rest)
      is-body = holds-body blocks bank enough few version is_version rest image
          (record { size = size; votes = voted; bank_is = opened.in_two blocks image size enough few bank voted ∙ ap (λ (l : List ℕ). l ++ rest) headed })

      pub long : (place : ℕ) → first_from leaves_bank (start + 16) limit image ≡ Some place → IsDamaged layer.RecordPlace place image
      long place h = no-store-at image layer.RecordPlace place refl (skip layer.Votes _ _ votes ∙ skip layer.Header _ _ (header-none version rest is-body)
          ∙ hit layer.RecordPlace _ place _ (ap (first_gate leaves_bank) (gates-are version rest is-body) ∙ h))

      pub has-records : first_from leaves_bank (start + 16) limit image ≡ None → HasRecords image
      has-records h = record {
        votes = votes;
        header_is = header-none version rest is-body;
        record_is = ap (first_gate leaves_bank) (gates-are version rest is-body) ∙ h;
      }

-- ---- an image that has records

module _ (image : List ℕ) (banks : has_banks image ≡ true) (h : HasRecords image) where
  pub some-records : records image ≡ None → ⊥
  some-records none = let r = whole-records image banks h.votes h.header_is h.record_is in none-some r.0 (sym none ∙ r.1)

  pub bad : (place : ℕ) → bad_payload image ≡ Some place → IsDamaged layer.Payload place image
  bad place k = no-store-at image layer.Payload place refl (skip layer.Votes _ _ h.votes ∙ skip layer.Header _ _ h.header_is ∙ skip layer.RecordPlace _ _ h.record_is ∙ hit layer.Payload _ place _ k)

  pub some-payload : bad_payload image ≡ None → pages image ≡ None → ⊥
  some-payload k none =
      let r = whole-pages image banks (record { votes = h.votes; header_is = h.header_is; record_is = h.record_is; payload = k }) in
      none-some r.0 (sym none ∙ r.1)

-- ---- a journal that stands for a unit

header-long : (version : ℕ) → length (header version) ≡ 16
unfolding header
header-long version = refl

drop-front : (front bytes : List ℕ) (n : ℕ) → length front ≡ n → drop n (front ++ bytes) ≡ bytes
drop-front [] bytes n e = ap (λ m. drop m bytes) (sym e)
drop-front (x ∷ front) bytes n e = ap (λ m. drop m (x ∷ (front ++ bytes))) (sym e) ∙ drop-front front bytes (length front) refl

-- what a journal finds of payloads is the row of the image
pub journal-payload : (told : Bool) (j : Journal) (outside : Outside) → Stands told j outside → IsTrue told → bad_payload (image_of j.unit outside.now) ≡ unformed_in j (image_of j.unit outside.now)
unfolding written
journal-payload told j outside stands tells =
    let image = image_of j.unit outside.now in
    let held = stands.held tells in
    let rest : List ℕ = records_bytes held.payloads ++ held.after_records in
    let holds : Holds j.blocks (bank_number j.bank) (header j.version ++ rest) image =
    subst (λ (l : List ℕ). Holds j.blocks (bank_number j.bank) l image) (append_assoc (header j.version) (records_bytes held.payloads) held.after_records) held.bank in
    let body = holds-body j.blocks j.bank j.enough j.not_too_many j.version j.known rest image holds in
    let parts : bank_size j.blocks ≡ 16 + (limit_of j.blocks j.bank - first_place j) = omega (arith, j.low, j.high) in
    let same : rest ≡ between (first_place j) (limit_of j.blocks j.bank) image =
    sym (drop-front (header j.version) rest 16 (header-long j.version))
    ∙ ap (drop 16) (sym holds.bank_is)
    ∙ ap (λ n. drop 16 (take n (drop (start_of j.blocks j.bank) image))) parts
    ∙ drop-take 16 (limit_of j.blocks j.bank - first_place j) (drop (start_of j.blocks j.bank) image)
    ∙ ap (take (limit_of j.blocks j.bank - first_place j)) (drop-drop 16 (start_of j.blocks j.bank) image) in
    ap (first_gate is_unformed) (gates-are image j.blocks holds.size j.enough j.not_too_many j.bank holds.votes j.version rest body
    ∙ ap (gates_after (first_place j) 0) same)

-- what is found over a journal is said of its unit
module _ (told : Bool) (j : Journal) (outside : Outside) (unit : ℕ) (of_unit : j.unit ≡ unit) (stands : Stands told j outside) (tells : IsTrue told) (banks : has_banks (image_of unit outside.now) ≡ true)
    (whole : HasRecords (image_of unit outside.now)) where
  row-is : bad_payload (image_of unit outside.now) ≡ unformed_in j (image_of j.unit outside.now)
  row-is = ap (λ (u : ℕ). bad_payload (image_of u outside.now)) (sym of_unit) ∙ journal-payload told j outside stands tells

  pub found-bad : (place : ℕ) → unformed_in j (image_of j.unit outside.now) ≡ Some place → IsDamaged layer.Payload place (image_of unit outside.now)
  found-bad place k = bad (image_of unit outside.now) banks whole place (row-is ∙ k)

  pub found-none : unformed_in j (image_of j.unit outside.now) ≡ None → pages (image_of unit outside.now) ≡ None → ⊥
  found-none k none = some-payload (image_of unit outside.now) banks whole (row-is ∙ k) none
