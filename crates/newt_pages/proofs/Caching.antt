-- The cache: what is in it is what stands on the device.
use Rattle.std.proofs.Common.{IsTrue, Bool, ◌≡◌, ◌⊎◌, inl, inr, ℕ, ◌≤◌, true, false, if◌then◌else◌, cond, nat_eq, List, [], ◌∷◌, ◌++◌, Contains, Option, Some, None, Result, Ok, Err, IfOk, refl, sym, ◌∙◌, ap, subst, arith, ⊎_elim}
use Rattle.std.specs.Cmp.{nat_eq_equiv}
use Rattle.std.specs.Map.{lookup, lookup_entry, remove_entry}
use Rattle.std.specs.Option.{option_map, option_map_or, is_some}
use Rattle.std.specs.FinMap as map
use Rattle.newt_host.specs.Moments.{Moment, image}
use Rattle.newt_host.specs.Outside.{Outside, Touches, Spends}
use Rattle.newt_spec_image.specs.Pages.{Pages}
use Rattle.newt_pagebook.specs.Book.{HasPage}
use Rattle.newt_spec_image.specs.Records.{records}
use Rattle.newt_journal.specs.Journal.{Stands, appended}
use Rattle.newt_journal.specs.Places.{first_place}
use Rattle.newt_journal.specs.declared.journal.Journal.{Journal}
use Rattle.newt_journal.proofs.Recorded.{recorded-front, recorded-moved, end-told}
use Rattle.newt_pagebook.proofs.Tests.{is_same, some_inj}
use Rattle.newt_pagelog.specs.Kept.{map_of, get_map}
use Rattle.newt_pagelog.specs.Placed.{Places, lifted, page_of, ArePlaced, HoldsAt}
use Rattle.newt_pagelog.proofs.Placing.{lookup-lifted}
use Rattle.newt_pagelog.proofs.Replaying.{stands-on}
use Rattle.newt_pages.specs.Disk.{EachIsPageAtPlace, StandsWith, is_cached, bytes_fetched}
use Rattle.lru.specs.LruCache.{LruCache, lru_cache, promoted, put_entries}
use Rattle.lru.proofs.Splits.{Contains-nil}
use Rattle.lru.proofs.CallerLemmas.{Contains-lookup_entry, Contains-lookup, Contains-promoted, Contains-put_entries, lookup-put_entries}

-- after a page was put
pub put-found : (old new : LruCache ℕ (List ℕ)) (at : ℕ) (page : List ℕ) → new ≡ lru_cache (put_entries nat_eq old at page) old.cap → lookup (nat_eq at) new.entries ≡ Some page
put-found old new at page is = ap (λ (c : LruCache ℕ (List ℕ)). lookup (nat_eq at) c.entries) is ∙ lookup-put_entries nat_eq old at page nat_eq_equiv

pub put-cached : (old new : LruCache ℕ (List ℕ)) (at : ℕ) (page : List ℕ) → new ≡ lru_cache (put_entries nat_eq old at page) old.cap → (e : ℕ × List ℕ) → Contains new.entries e → Contains old.entries e ⊎ ((e.0 ≡ at) × (e.1 ≡ page))
put-cached old new at page is e there = ⊎_elim
    (λ (was : Contains old.entries e). inl was)
    (λ put. inr (⊎_elim (λ (same : e.0 ≡ at). same) (λ key. sym (is_same at e.0 key.2)) put.1, put.0))
    (Contains-put_entries nat_eq old at page e (subst (λ (c : LruCache ℕ (List ℕ)). Contains c.entries e) is there))

-- a page that was found, and goes first
found_first : (t : ℕ → Bool) (es : List (ℕ × List ℕ)) (o : Option (ℕ × List ℕ)) → lookup_entry t es ≡ o → is_some (lookup t es) ≡ true → is_some (lookup t (option_map_or (λ e. e ∷ remove_entry t es) o es)) ≡ true
found_first t es None is there = there
found_first t es (Some e) is there = ap (λ (b : Bool). is_some (cond b (Some e.1) (lookup t (remove_entry t es)))) (Contains-lookup_entry t es e is).1

pub promoted-found : (t : ℕ → Bool) (es : List (ℕ × List ℕ)) → is_some (lookup t es) ≡ true → is_some (lookup t (promoted t es)) ≡ true
promoted-found t es there = found_first t es (lookup_entry t es) refl there

-- what is found is the page of its place
pub cached-at : (j : Journal) (img : List ℕ) (cached : List (ℕ × List ℕ)) (payloads : List (List ℕ)) (at : ℕ) (page : List ℕ) → EachIsPageAtPlace j img cached → records img ≡ Some payloads → lookup (nat_eq at) cached ≡ Some page → page ≡ page_of j payloads at
cached-at j img cached payloads at page are is there =
    let found = Contains-lookup (nat_eq at) cached page there in
    (are payloads is (found.0, page) found.1).is ∙ ap (page_of j payloads) (sym (is_same at found.0 found.2))

pub cached-promoted : (j : Journal) (img : List ℕ) (t : ℕ → Bool) (old new : List (ℕ × List ℕ)) → new ≡ promoted t old → EachIsPageAtPlace j img old → EachIsPageAtPlace j img new
cached-promoted j img t old new is are payloads all e there = are payloads all e (Contains-promoted t old e (subst (λ (es : List (ℕ × List ℕ)). Contains es e) is there))

-- more records after those that were cached
pub cached-appended : (told : Bool) (j k : Journal) (o : Outside) (now : List ℕ) (payload : List ℕ) → Stands told j o → IsTrue told → first_place k ≡ first_place j → j.end ≤ k.end → records now ≡ appended (records (image j.unit o.now)) payload
    → (payloads : List (List ℕ)) → records (image j.unit o.now) ≡ Some payloads → (cached : List (ℕ × List ℕ)) → EachIsPageAtPlace j (image j.unit o.now) cached → EachIsPageAtPlace k now cached
cached-appended told j k o now payload stands tells same more added payloads is cached are others all e there =
    let c = are payloads is e there in
    let end = end-told told j o stands tells payloads is in
    let others_are : others ≡ payloads ++ payload ∷ [] = some_inj others (payloads ++ payload ∷ []) (sym all ∙ added ∙ ap (λ (r : Option (List (List ℕ))). appended r payload) is) in
    record {
      low = omega (arith, same, c.low);
      high = omega (arith, more, c.high);
      is = c.is ∙ sym (recorded-front j payloads payload e.0 512 c.low (omega (arith, c.high, end))) ∙ ap (λ (ps : List (List ℕ)). page_of j ps e.0) (sym others_are) ∙ sym (recorded-moved k j same others e.0 512);
    }

-- a page that is not cached is fetched whole
pub fetch-costs : (unit size at : ℕ) (cached : List (ℕ × List ℕ)) (a b : Outside) → is_cached at cached ≡ false → size ≡ 512 → Spends unit 0 size a b → Spends unit 0 (bytes_fetched at cached) a b
fetch-costs unit size at cached a b missed size_is s =
    let all : size ≡ bytes_fetched at cached = size_is ∙ sym (ap (λ (b : Bool). if b then 0 else 512) missed) in
    subst (λ (n : ℕ). Spends unit 0 n a b) all s

-- an empty cache
pub cached-none : (j : Journal) (img : List ℕ) (cached : List (ℕ × List ℕ)) → cached ≡ [] → EachIsPageAtPlace j img cached
cached-none j img cached is payloads all e there = absurd (Contains-nil e (subst (λ (es : List (ℕ × List ℕ)). Contains es e) is there))

pub all-ok : {T E : Type 0} {P : T → Type 0} (r : Result T E) → ((x : T) → P x) → IfOk r P
all-ok (Ok x) all = all x
all-ok (Err e) all = tt

-- what a book's journal is known by
module _ (told : Bool) (unit : ℕ) (journal : Option Journal) (places : Places) (cached : List (ℕ × List ℕ)) (o : Outside) (s : StandsWith told unit journal places cached o) (j : Journal) (is : journal ≡ Some j) where
  same_journal : s.its ≡ j
  same_journal = some_inj s.its j (sym s.is ∙ is)

  pub its-stands : Stands told j o
  its-stands = subst (λ (k : Journal). Stands told k o) same_journal s.stands

  pub its-on : j.unit ≡ unit
  its-on = ap (λ (k : Journal). k.unit) (sym same_journal) ∙ s.on

  pub its-placed : ArePlaced j places
  its-placed = subst (λ (k : Journal). ArePlaced k places) same_journal s.placed

  pub its-holds : IsTrue told → HoldsAt j (image unit o.now) places
  its-holds tells = subst (λ (k : Journal). HoldsAt k (image unit o.now) places) same_journal (s.holds tells)

  pub its-caches : IsTrue told → EachIsPageAtPlace j (image unit o.now) cached
  its-caches tells = subst (λ (k : Journal). EachIsPageAtPlace k (image unit o.now) cached) same_journal (s.caches tells)

  pub its-caches-on : IsTrue told → EachIsPageAtPlace j (image j.unit o.now) cached
  its-caches-on tells = subst (λ (u : ℕ). EachIsPageAtPlace j (image u o.now) cached) (sym its-on) (its-caches tells)

  -- the page of a number
  pub has-page : (number at : ℕ) (shown : Option (List ℕ)) → lookup (nat_eq number) places ≡ Some at → is_some shown ≡ true
      → (IsTrue told → (payloads : List (List ℕ)) → records (image unit o.now) ≡ Some payloads → shown ≡ Some (page_of j payloads at)) → HasPage told (image unit o.now) number shown
  has-page number at shown there found is_page = record {
    at_hand = found;
    is_page = λ tells live of_image.
        let h = its-holds tells in
        let page = page_of j h.payloads in
        ap (λ (m : Pages). map.get m number) (some_inj live (map_of (lifted page places)) (sym of_image ∙ h.holds)) ∙ get_map (lifted page places) number ∙ lookup-lifted page places number ∙ ap (option_map page) there ∙ sym (is_page tells h.payloads h.read);
  }

  -- after a page of it was brought to hand
  pub stands-brought : (after : List (ℕ × List ℕ)) (new : Outside) → new.now ≡ o.now → Touches j.unit o new → (IsTrue told → EachIsPageAtPlace j (image j.unit o.now) after) → StandsWith told unit journal places after new
  stands-brought after new moment alone caches =
      let still : image unit o.now ≡ image unit new.now = ap (λ (m : Moment). image unit m) (sym moment) in
      record {
        its = j;
        is = is;
        stands = stands-on told j o new alone moment its-stands;
        on = its-on;
        placed = its-placed;
        holds = λ tells. subst (λ (l : List ℕ). HoldsAt j l places) still (its-holds tells);
        caches = λ tells. subst (λ (l : List ℕ). EachIsPageAtPlace j l after) (ap (λ (u : ℕ). image u o.now) its-on ∙ still) (caches tells);
      }

-- no more than a page is fetched
pub few-fetched : (at : ℕ) (cached : List (ℕ × List ℕ)) → bytes_fetched at cached ≤ 512
few-fetched at cached = by (is_cached at cached) where
  by : (b : Bool) → (if b then 0 else 512) ≤ 512
  by true = omega arith
  by false = omega arith
