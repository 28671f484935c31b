-- A journal is opened.
use Rattle.std.proofs.Common.{◌≡◌, ◌≢◌, ◌⊎◌, inl, inr, ℕ, ◌+◌, ◌-◌, ◌*◌, ◌/◌, ◌^◌, ◌<◌, ◌≤◌, ◌==◌, if◌then◌else◌, Bool, true, false, List, [], ◌∷◌, ◌++◌, length, get_or, take, drop, replicate, Option, Some, None, IfSome, IsSome, MatchOption, not, refl, sym, ◌∙◌, ap, subst, arith, append_assoc, length-append, length-take, length-drop}
use Rattle.std.proofs.lemmas.List.{take_at, drop-drop, drop-take, take-take, take-replicate, drop-replicate, replicate-append-replicate, get_or-drop}
use Rattle.std.proofs.Math.Seq.{take-add}
use Rattle.std.proofs.lemmas.Bool.{cases_eq}
use Rattle.std.proofs.lemmas.Bool.Decides.{nat_tests}
use Rattle.std.specs.List.{flat_map}
use Rattle.newt_host.specs.Outside.{Outside, HasBlocks}
use Rattle.newt_host.specs.Moments.{Change, Moment, image, bytes_after, LeftBy}
use Rattle.newt_spec_image.specs.Records.{bank_size, bank_bytes, chosen_bank, header, without, versioned, versioned_body, after_header, payloads_after, and_then, has_banks, records, record_bytes, IsVersion}
use Rattle.newt_journal.specs.Bank.{bank_number, start_of, limit_of}
use Rattle.newt_journal.specs.Journal.{Holds, written, Reading, HeldBy}
use Rattle.newt_journal.specs.Scan.{IsEnd, between}
use Rattle.newt_journal.specs.declared.bank.Bank.{Bank}
use Rattle.newt_journal.specs.declared.journal.Journal.{Journal}
use Rattle.newt_journal.proofs.Steps.{bank-fits, length-written, holds-body, holds-reading, version-2}
use Rattle.newt_journal.proofs.Scanning.{rest_is, long_rest}

pub blank_more : (image : List ℕ) (from at n : ℕ) → from ≤ at → between from at image ≡ replicate (at - from) 255 → take n (drop at image) ≡ replicate n 255 → between from (at + n) image ≡ replicate (at + n - from) 255
blank_more image from at n low blank next =
    let m = at - from in
    let all : at + n - from ≡ m + n = omega (arith, low) in
    let there : from + m ≡ at = omega (arith, low) in
    ap (λ (k : ℕ). take k (drop from image)) all ∙ take-add m n (drop from image)
    ∙ ap (λ (l : List ℕ). l ++ take n (drop m (drop from image))) blank
    ∙ ap (λ (l : List ℕ). replicate m 255 ++ take n l) (drop-drop m from image ∙ ap (λ (k : ℕ). drop k image) there)
    ∙ ap (λ (l : List ℕ). replicate m 255 ++ l) next ∙ replicate-append-replicate m n 255 ∙ ap (λ (k : ℕ). replicate k 255) (sym all)

without-cases : (front bytes : List ℕ) → length front ≤ length bytes → (without front bytes ≡ None) ⊎ (take (length front) bytes ≡ front)
without-cases [] bytes long = inr refl
without-cases (x ∷ front) [] long = absurd (omega arith)
without-cases (x ∷ front) (y ∷ bytes) long = elim (cases_eq x y) [
  | inl same ↦ elim (without-cases front bytes (omega (arith, long))) [
    | inl none ↦ inl (let e : (if x == y then without front bytes else None) ≡ without front bytes = grind (arith, nat_tests) in e ∙ none)
    | inr is ↦ inr (λ i. sym same i ∷ is i)
  ]
  | inr differ ↦ inl (grind (arith, nat_tests))
]

module _ (blocks : ℕ) (image : List ℕ) (size : length image ≡ blocks * 4096) (enough : 13 ≤ blocks) (few : blocks ≤ 4099) where
  many : length image / 4096 ≡ blocks
  many = omega (arith, size)

  yes : has_banks image ≡ true
  yes = grind (arith, nat_tests, many)

  body_is : versioned_body image ≡ and_then (chosen_bank image) (λ bank. versioned (bank_bytes blocks bank image))
  body_is = ap (λ (b : Bool). if b then and_then (chosen_bank image) (λ bank. versioned (bank_bytes (length image / 4096) bank image)) else None) yes
      ∙ ap (λ (n : ℕ). and_then (chosen_bank image) (λ bank. versioned (bank_bytes n bank image))) many

  -- the records that a body has
  records_in : {found : Option (ℕ × List ℕ)} → versioned_body image ≡ found → records image ≡ and_then (and_then found (λ b. Some b.1)) (payloads_after 0)
  records_in is = ap (λ (o : Option (ℕ × List ℕ)). and_then (and_then o (λ b. Some b.1)) (payloads_after 0)) is

  pub no_bank : chosen_bank image ≡ None → records image ≡ None
  no_bank none = records_in (body_is ∙ ap (λ (o : Option ℕ). and_then o (λ bank. versioned (bank_bytes blocks bank image))) none)

  module _ (bank : Bank) (voted : chosen_bank image ≡ Some (bank_number bank)) where
    abbrev start : ℕ
    start = start_of blocks bank

    abbrev limit : ℕ
    limit = limit_of blocks bank

    wide : 16 ≤ bank_size blocks
    wide = omega (arith, enough)

    pub in_two : bank_bytes blocks (bank_number bank) image ≡ take 16 (drop start image) ++ between (start + 16) limit image
    in_two =
        let parts : bank_size blocks ≡ 16 + (limit - (start + 16)) = omega (arith, wide) in
        ap (λ (n : ℕ). take n (drop start image)) parts ∙ take-add 16 (limit - (start + 16)) (drop start image)
        ∙ ap (λ (l : List ℕ). take 16 (drop start image) ++ take (limit - (start + 16)) l) (drop-drop 16 start image)

    body_of : versioned_body image ≡ versioned (bank_bytes blocks (bank_number bank) image)
    body_of = body_is ∙ ap (λ (o : Option ℕ). and_then o (λ bank. versioned (bank_bytes blocks bank image))) voted

    -- a bank that begins with no header of a version has no records of it
    pub other_header : (version : ℕ) → take 16 (drop start image) ≢ header version → after_header version (bank_bytes blocks (bank_number bank) image) ≡ None
    unfolding header
    other_header version differ =
        let long : length (take 16 (drop start image)) ≡ 16 = omega (arith, length-take 16 (drop start image), length-drop start image, size, bank-fits blocks bank enough, wide) in
        let more : 16 ≤ length (bank_bytes blocks (bank_number bank) image) = omega (arith, ap length in_two, length-append (take 16 (drop start image)) (between (start + 16) limit image), long) in
        let none : without (header version) (bank_bytes blocks (bank_number bank) image) ≡ None = elim (without-cases (header version) (bank_bytes blocks (bank_number bank) image) more) [
          | inl none ↦ none
          | inr is ↦ absurd (differ (sym (take_at (take 16 (drop start image)) (between (start + 16) limit image) 16 long) ∙ ap (λ (l : List ℕ). take 16 l) (sym in_two) ∙ is))
        ] in
        ap (λ (o : Option (List ℕ)). and_then o (λ rest. Some (version, rest))) none

    pub no_header : ((version : ℕ) → IsVersion version → take 16 (drop start image) ≢ header version) → records image ≡ None
    no_header differ =
        let bytes = bank_bytes blocks (bank_number bank) image in
        records_in (body_of
        ∙ ap (λ (o : Option (ℕ × List ℕ)). elim o as (λ _. Option (ℕ × List ℕ)) [ Some found ↦ Some found | None ↦ after_header 2 bytes ]) (other_header 1 (differ 1 (omega arith, omega arith)))
        ∙ other_header 2 (differ 2 version-2))

    module _ (version : ℕ) (is_version : IsVersion version) (headed : take 16 (drop start image) ≡ header version) where
      holds : Holds blocks (bank_number bank) (header version ++ between (start + 16) limit image) image
      holds = record { size = size; votes = voted; bank_is = in_two ∙ ap (λ (l : List ℕ). l ++ between (start + 16) limit image) headed }

      pub no_end : payloads_after 0 (between (start + 16) limit image) ≡ None → records image ≡ None
      no_end none = records_in (holds-body blocks bank enough few version is_version (between (start + 16) limit image) image holds) ∙ none

pub opened : (j : Journal) (done : List Change) → length (bytes_after done) ≡ j.blocks * 4096 → chosen_bank (bytes_after done) ≡ Some (bank_number j.bank)
    → take 16 (drop (start_of j.blocks j.bank) (bytes_after done)) ≡ header j.version → IsEnd (start_of j.blocks j.bank + 16) j.end (between (start_of j.blocks j.bank + 16) (limit_of j.blocks j.bank) (bytes_after done))
    → limit_of j.blocks j.bank < 2 ^ 32
    → (j.closed ≡ false → between j.end (limit_of j.blocks j.bank) (bytes_after done) ≡ replicate (limit_of j.blocks j.bank - j.end) 255) → (j.version ≡ 2 → between j.end (limit_of j.blocks j.bank) (bytes_after done) ≡ replicate (limit_of j.blocks j.bank - j.end) 255 → j.closed ≡ false) → ((left : List ℕ) → LeftBy done left → left ≡ bytes_after done) → HeldBy j done
unfolding written
opened j done size voted headed found small blank not_closed durable =
    let image = bytes_after done in
    let s = found.scanned in
    let inside : limit_of j.blocks j.bank ≤ length image = omega (arith, size, bank-fits j.blocks j.bank j.enough) in
    let order : start_of j.blocks j.bank + 16 ≤ limit_of j.blocks j.bank = omega (arith, j.low, j.high) in
    let rest = rest_is image (start_of j.blocks j.bank + 16) j.end (limit_of j.blocks j.bank) inside small order s j.high in
    let long = long_rest image (start_of j.blocks j.bank + 16) j.end (limit_of j.blocks j.bank) inside small order s j.high in
    record {
      payloads = s.payloads;
      after_records = s.rest;
      bank = subst (λ (l : List ℕ). Holds j.blocks (bank_number j.bank) l image) (ap (λ (l : List ℕ). header j.version ++ l) s.is ∙ sym (append_assoc (header j.version) (flat_map record_bytes s.payloads) s.rest)) (holds j.blocks image size j.enough j.not_too_many j.bank voted j.version j.known headed);
      end = omega (arith, s.place, length-written j.version s.payloads);
      ends = found.ends;
      blank = λ is_open. rest ∙ blank is_open ∙ ap (λ (n : ℕ). replicate n 255) (sym long);
      not_closed = λ new is_blank. not_closed new (sym rest ∙ is_blank ∙ ap (λ (n : ℕ). replicate n 255) long);
      durable = durable;
    }

first_byte : (bytes : List ℕ) (x : ℕ) → take 1 bytes ≡ x ∷ [] → get_or bytes 0 0 ≡ x
first_byte [] x is = cc
first_byte (y ∷ []) x is = cc
first_byte (y ∷ z ∷ bytes) x is = cc

-- a byte that was read is the one of the image
pub byte_at : (image : List ℕ) (at x : ℕ) → take 1 (drop at image) ≡ x ∷ [] → get_or image at 0 ≡ x
byte_at image at x is = let there : at + 0 ≡ at = omega arith in ap (λ (k : ℕ). get_or image k 0) (sym there) ∙ sym (get_or-drop at image 0 0) ∙ first_byte (drop at image) x is

pub at_none : {A : Type 0} (P : Type 0) (Q : A → Type 0) (o : Option A) → MatchOption o P Q → ((x : A) → o ≡ Some x → ⊥) → P
at_none P Q None m never = m
at_none P Q (Some x) m never = absurd (never x refl)

pub at_some : {A : Type 0} (P : Type 0) (Q : A → Type 0) {o : Option A} {x : A} → o ≡ Some x → MatchOption o P Q → Q x
at_some {A = A} P Q is m = subst (λ (o : Option A). MatchOption o P Q) is m

pub of_some : {A : Type 0} (P : A → Type 0) {o : Option A} {x : A} → o ≡ Some x → IfSome o P → P x
of_some {A = A} P is m = subst (λ (o : Option A). IfSome o P) is m

-- a bank is closed where something stands after its records, or else where it has version 1
pub closed_where : (blank closed : Bool) (version : ℕ) → ((blank ≡ false) × (closed ≡ not blank)) ⊎ ((blank ≡ true) × (closed ≡ (version == 1)))
    → (closed ≡ false → blank ≡ true) × (version ≡ 2 → (blank ≡ false → ⊥) → closed ≡ false)
closed_where blank closed version (inl shut) = (λ is_open. absurd (let clash : true ≡ false = ap not (sym shut.0) ∙ sym shut.1 ∙ is_open in cc), λ new never. absurd (never shut.0))
closed_where blank closed version (inr old) = (λ is_open. old.0, λ new never. old.1 ∙ ap (λ (v : ℕ). v == 1) new)

-- what was said of the bytes of a later moment, at places that have names
module _ (P : List ℕ → Type 0) where
  pub moved : (u : ℕ) {m now : Moment} {from from2 to to2 : ℕ} → m ≡ now → from ≡ from2 → to ≡ to2 → P (between from to (image u m)) → P (between from2 to2 (image u now))
  moved u same is_from is_to p = subst P (λ i. between (is_from i) (is_to i) (image u (same i))) p

  pub moved_back : (u : ℕ) {m now : Moment} {from from2 to to2 : ℕ} → m ≡ now → from ≡ from2 → to ≡ to2 → P (between from2 to2 (image u now)) → P (between from to (image u m))
  moved_back u same is_from is_to p = moved u (sym same) (sym is_from) (sym is_to) p

pub opened_later : (j : Journal) (done last : List Change) → last ≡ done → length (bytes_after done) ≡ j.blocks * 4096 → chosen_bank (bytes_after done) ≡ Some (bank_number j.bank)
    → take 16 (drop (start_of j.blocks j.bank) (bytes_after done)) ≡ header j.version → IsEnd (start_of j.blocks j.bank + 16) j.end (between (start_of j.blocks j.bank + 16) (limit_of j.blocks j.bank) (bytes_after done))
    → (j.closed ≡ false → between j.end (limit_of j.blocks j.bank) (bytes_after done) ≡ replicate (limit_of j.blocks j.bank - j.end) 255) → (j.version ≡ 2 → between j.end (limit_of j.blocks j.bank) (bytes_after done) ≡ replicate (limit_of j.blocks j.bank - j.end) 255 → j.closed ≡ false) → ((left : List ℕ) → LeftBy done left → left ≡ bytes_after done) → HeldBy j last
opened_later j done last same size voted headed found blank not_closed durable =
    let few = j.not_too_many in
    subst (λ (d : List Change). HeldBy j d) (sym same) (opened j done size voted headed found (omega (arith, few, bank-fits j.blocks j.bank j.enough)) blank not_closed durable)

-- where a piece is not blank, the whole is not
pub not_blank : (image : List ℕ) (from at n to : ℕ) → from ≤ at → at + n ≤ to → take n (drop at image) ≢ replicate n 255 → between from to image ≢ replicate (to - from) 255
not_blank image from at n to low high differ blank =
    let m = at - from in
    let k = to - at in
    let all : to - from ≡ m + k = omega (arith, low, high) in
    let there : from + m ≡ at = omega (arith, low) in
    let within : n ≤ k = omega (arith, high) in
    let after_records : take k (drop at image) ≡ replicate k 255 =
    ap (λ (p : ℕ). take k (drop p image)) (sym there) ∙ ap (λ (l : List ℕ). take k l) (sym (drop-drop m from image)) ∙ sym (drop-take m k (drop from image))
    ∙ ap (λ (p : ℕ). drop m (take p (drop from image))) (sym all) ∙ ap (λ (l : List ℕ). drop m l) blank ∙ drop-replicate m (to - from) 255
    ∙ (let left : to - from - m ≡ k = omega (arith, all) in ap (λ (p : ℕ). replicate p 255) left) in
    differ (sym (take-take n k (drop at image) within) ∙ ap (λ (l : List ℕ). take n l) after_records ∙ take-replicate n k 255 within)

is_there : {A : Type 0} (o : Option A) (n : ℕ) → (o ≡ None → n ≡ 0) → 13 ≤ n → IsSome o
is_there None n none some = absurd (omega (arith, none refl))
is_there (Some x) n none some = refl

-- a unit with banks has a device
pub has_blocks : (unit blocks : ℕ) (outside : Outside) → (outside.card unit ≡ None → outside.blocks unit ≡ 0) → blocks ≡ outside.blocks unit → 13 ≤ blocks → HasBlocks unit blocks outside
has_blocks unit blocks outside none is enough = record {
  attached = is_there (outside.card unit) blocks (λ no_card. is ∙ none no_card) enough;
  count = sym is;
}

pub holds-some : (j : Journal) (done : List Change) → HeldBy j done → IsSome (records (bytes_after done))
holds-some j done held = subst (λ (o : Option (List (List ℕ))). IsSome o)
    (ap (λ (r : Reading). r.1) (sym (holds-reading j.blocks j.bank j.enough j.not_too_many j.version j.known held.payloads held.after_records (bytes_after done) held.bank held.ends))) refl
