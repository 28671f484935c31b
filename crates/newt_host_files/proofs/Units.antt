-- One unit of several changes.
use Rattle.std.proofs.Common.{◌≡◌, ◌≢◌, ℕ, zero, suc, ◌+◌, ◌<◌, ◌≤◌, false, List, [], ◌∷◌, length, get_or, Option, Some, None, IsSome, option_map, IsFalse, Result, Ok, Err, OnOk, slice_get, slice_set, refl, sym, ◌∙◌, ap, subst, arith}
use Rattle.std.proofs.lemmas.Bool.{false≢true}
use Rattle.std.proofs.lemmas.Option.{get_or_from_slice_get}
use Rattle.std.proofs.Math.ListN.{length-set}
use Rattle.newt_host.specs.Outside.{AttachCall, Attaches, SameCards, StopsAtFault, Touches, UnitCall, Work}
use Rattle.newt_host_files.specs.Cards.{CardStops, HasFile, CountsOnCard, SameCard, name_of, blocks_of, faults_of, programmed_of, fetched_of, erased_of, synced_of, broken_of}
use Rattle.newt_host_files.specs.Laws.{untold}
use Rattle.newt_host_files.specs.Outside.{told_by}
use Rattle.newt_host_files.specs.declared.card.Card.{Card}

get-set-same : (cards : List Card) (i : ℕ) (b c : Card) → slice_get cards i ≡ Some b → slice_get (slice_set cards i c) i ≡ Some c
get-set-same [] i b c is = absurd (let no = is in cc)
get-set-same (x ∷ cards) zero b c is = refl
get-set-same (x ∷ cards) (suc i) b c is = get-set-same cards i b c is

get-set-other : (cards : List Card) (i u : ℕ) (c : Card) → (u ≡ i → ⊥) → slice_get (slice_set cards i c) u ≡ slice_get cards u
get-set-other [] i u c other = refl
get-set-other (x ∷ cards) zero zero c other = absurd (other refl)
get-set-other (x ∷ cards) zero (suc u) c other = refl
get-set-other (x ∷ cards) (suc i) zero c other = refl
get-set-other (x ∷ cards) (suc i) (suc u) c other = get-set-other cards i u c (λ e. other (ap suc e))

pub eight-set : (cards : List Card) (i : ℕ) (c : Card) → length cards ≡ 8 → length (slice_set cards i c) ≡ 8
eight-set cards i c eight = length-set cards i c ∙ eight

-- what the card before and the card afterwards agree on, all units agree on
same-field : {A : Type 0} (f : Option Card → A) (b c : Card) → f (Some c) ≡ f (Some b) → (cards : List Card) (i : ℕ) → slice_get cards i ≡ Some b → (u : ℕ) → f (slice_get (slice_set cards i c) u) ≡ f (slice_get cards u)
same-field f b c same [] i is u = refl
same-field f b c same (x ∷ cards) zero is zero = same ∙ ap f (sym is)
same-field f b c same (x ∷ cards) zero is (suc u) = refl
same-field f b c same (x ∷ cards) (suc i) is zero = refl
same-field f b c same (x ∷ cards) (suc i) is (suc u) = same-field f b c same cards i is u

-- a unit that has a file has a card
card-there : (cards : List Card) (u : ℕ) → IsSome (name_of (slice_get cards u)) → (b : Card) × (slice_get cards u ≡ Some b)
card-there [] u some = absurd (false≢true some)
card-there (x ∷ cards) zero some = (x, refl)
card-there (x ∷ cards) (suc u) some = card-there cards u some

-- the card that was read there
pub read-there : (cards : List Card) (i u : ℕ) (d : Card) → i ≡ u → IsSome (name_of (slice_get cards u)) → slice_get cards i ≡ Some (get_or cards i d)
read-there cards i u d same some =
    let there = card-there cards u some in
    let at_i : slice_get cards i ≡ Some there.0 = ap (λ (k : ℕ). slice_get cards k) same ∙ there.1 in
    let is : get_or cards i d ≡ there.0 = get_or_from_slice_get cards i there.0 d at_i in
    at_i ∙ ap Some (sym is)

-- it is one of the cards
pub card-inside : (cards : List Card) (i u : ℕ) → i ≡ u → IsSome (name_of (slice_get cards u)) → i < length cards
card-inside cards i u same some = subst (λ (k : ℕ). k < length cards) (sym same) (inside cards u some)
  where
    inside : (cards : List Card) (u : ℕ) → IsSome (name_of (slice_get cards u)) → u < length cards
    inside [] u some = absurd (false≢true some)
    inside (x ∷ cards) zero some = omega arith
    inside (x ∷ cards) (suc u) some = let less = inside cards u some in omega (arith, less)

-- a name goes with an open file
named-by : {F A : Type 0} (file : Option F) (x : A) → IsSome file → option_map (λ (f : F). x) file ≡ Some x
named-by None x some = absurd (false≢true some)
named-by (Some f) x some = refl

same-name : (b c : Card) → c.file ≡ b.file → c.name.items ≡ b.name.items → name_of (Some c) ≡ name_of (Some b)
same-name b c file name = ap (λ o. option_map (λ f. c.name.items) o) file ∙ ap (λ (l : List ℕ). option_map (λ f. l) b.file) name

module _ (cards : List Card) (i unit : ℕ) (b c : Card) (same : i ≡ unit) (is : slice_get cards i ≡ Some b) where
  at-old : slice_get cards unit ≡ Some b
  at-old = ap (λ (k : ℕ). slice_get cards k) (sym same) ∙ is

  at-new : slice_get (slice_set cards i c) unit ≡ Some c
  at-new = ap (λ (k : ℕ). slice_get (slice_set cards i c) k) (sym same) ∙ get-set-same cards i b c is

  elsewhere : {A : Type 0} (g : Option Card → A) (u : ℕ) → u ≢ unit → g (slice_get (slice_set cards i c) u) ≡ g (slice_get cards u)
  elsewhere g u other = ap g (get-set-other cards i u c (λ e. other (e ∙ same)))

  -- a count of the unit that is one of the card
  count-later : (g : Option Card → ℕ) → g (Some b) ≤ g (Some c) → g (slice_get cards unit) ≤ g (slice_get (slice_set cards i c) unit)
  count-later g later = omega (arith, later, ap g at-old, ap g at-new)

  count-most : (g : Option Card → ℕ) (more : ℕ) → g (Some c) ≤ g (Some b) + more → g (slice_get (slice_set cards i c) unit) ≤ g (slice_get cards unit) + more
  count-most g more most = omega (arith, most, ap g at-old, ap g at-new)

  broken-at : c.broken ≡ broken_of (slice_get (slice_set cards i c) unit)
  broken-at = sym (ap broken_of at-new)

  stops-at : {T E : Type 0} (r : Result T E) → CardStops r b c → (in_faults out_faults : ℕ) → StopsAtFault unit r (told_by cards in_faults out_faults) (told_by (slice_set cards i c) in_faults out_faults)
      × OnOk r (IsFalse (broken_of (slice_get (slice_set cards i c) unit)))
  stops-at (Ok x) stops in_faults out_faults = (
    record { later = count-later faults_of stops.later; cause = tt; no_fault = ap faults_of at-new ∙ stops.no_fault ∙ ap faults_of (sym at-old) },
    sym broken-at ∙ stops.broken,
  )
  stops-at (Err e) stops in_faults out_faults = (
    record {
      later = count-later faults_of stops.later;
      cause = record { count = omega (arith, stops.cause, ap faults_of at-old, ap faults_of at-new); last = sym broken-at ∙ stops.broken };
      no_fault = tt;
    },
    tt,
  )

  module _ {work : Work} (on : CountsOnCard work b c) (in_faults out_faults : ℕ) where
    touches : Touches unit (told_by cards in_faults out_faults) (told_by (slice_set cards i c) in_faults out_faults)
    touches = record {
      input = refl;
      cards = record {
        devices = λ name. refl;
        card = λ u. same-field name_of b c (same-name b c on.file on.name) cards i is u;
        blocks = λ u. same-field blocks_of b c on.blocks cards i is u;
      };
      in_faults = refl;
      out_faults = refl;
      dev_faults = λ u other. elsewhere faults_of u other;
      others = λ u other. record {
        programmed = elsewhere programmed_of u other;
        fetched = elsewhere fetched_of u other;
        erased = elsewhere erased_of u other;
        synced = elsewhere synced_of u other;
        broken = elsewhere broken_of u other;
      };
      faults_later = count-later faults_of on.faults;
      later = record {
        programmed = count-later programmed_of on.programmed;
        fetched = count-later fetched_of on.fetched;
        erased = count-later erased_of on.erased;
        synced = count-later synced_of on.synced;
      };
    }

    -- what every call on a unit promises
    pub unit-call : {T E : Type 0} (r : Result T E) → CardStops r b c → UnitCall unit work r (told_by cards in_faults out_faults) (told_by (slice_set cards i c) in_faults out_faults)
    unit-call r stops = record {
      alone = touches;
      costs = record {
        programmed = count-most programmed_of work.programs on.programmed_most;
        fetched = count-most fetched_of work.fetches on.fetched_most;
      };
      wears = record {
        erased = count-most erased_of work.erases on.erased_most;
        synced = count-most synced_of work.syncs on.synced_most;
      };
      faults = (stops-at r stops in_faults out_faults).0;
      answered = (stops-at r stops in_faults out_faults).1;
    }

  module _ (name : List ℕ) (has : HasFile name c) (in_faults out_faults : ℕ) where
    pub attaches : Attaches false unit name (told_by cards in_faults out_faults) (told_by (slice_set cards i c) in_faults out_faults)
    attaches = record {
      devices = λ n. refl;
      card = ap name_of at-new ∙ named-by c.file c.name.items has.file ∙ ap Some has.name;
      other_cards = λ u other. elsewhere name_of u other;
      other_blocks = λ u other. elsewhere blocks_of u other;
      moment = λ told. untold told;
    }

  -- what every attach promises
  pub attach-call : SameCard b c → (in_faults out_faults : ℕ) → AttachCall (told_by cards in_faults out_faults) (told_by (slice_set cards i c) in_faults out_faults)
  attach-call same in_faults out_faults = record {
    input = refl;
    counts = record {
      dev_faults = λ u. same-field faults_of b c same.faults cards i is u;
      work = λ u. record {
        programmed = same-field programmed_of b c same.programmed cards i is u;
        fetched = same-field fetched_of b c same.fetched cards i is u;
        erased = same-field erased_of b c same.erased cards i is u;
        synced = same-field synced_of b c same.synced cards i is u;
        broken = same-field broken_of b c same.broken cards i is u;
      };
    };
    in_faults = refl;
    out_faults = refl;
  }

  -- one that changed nothing of its unit
  pub not-attached : c ≡ b → (in_faults out_faults : ℕ) → SameCards (told_by cards in_faults out_faults) (told_by (slice_set cards i c) in_faults out_faults)
  not-attached same in_faults out_faults = record {
    devices = λ name. refl;
    card = λ u. same-field name_of b c (ap (λ (x : Card). name_of (Some x)) same) cards i is u;
    blocks = λ u. same-field blocks_of b c (ap (λ (x : Card). blocks_of (Some x)) same) cards i is u;
  }
