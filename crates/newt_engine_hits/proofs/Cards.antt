-- What a card that is mounted knows of its store.
use Rattle.std.proofs.Common.{◌≡◌, refl, ap, sym, ◌∙◌, subst, ℕ, List, [], ◌∷◌, Bool, true, false, ◌||◌, cond, map, find, Option, Some, None, option_map, option_and_then, ◌==◌}
use Rattle.std.specs.Prelude.{is_some}
use Rattle.std.specs.List.{list_any}
use Rattle.newt_host.specs.Moments.{image}
use Rattle.newt_host.specs.Outside.{Outside}
use Rattle.newt_spec_graph.proofs.Lists.{some-same, none-some}
use Rattle.newt_spec_store.specs.Keys.{IndexSpec, same_spec}
use Rattle.newt_spec_store.specs.Laid.{bare, bare_soup}
use Rattle.newt_spec_store.specs.Store.{Store, Soup, soup_of}
use Rattle.newt_spec_query.specs.Hits.{carries}
use Rattle.newt_index_ranges.specs.Range.{range_in, range_of_soup}
use Rattle.newt_index.specs.Range.{range_of}
use Rattle.newt_laws_hits.specs.Taking.{declared}
use Rattle.newt_laws_answers.specs.There.{OnUnit}
use Rattle.newt_engine_units.specs.declared.units.Units.{Units}
use Rattle.newt_engine_units.specs.Stands.{Stands, Eight, card_at, world_of}
use Rattle.newt_engine_units.proofs.Known.{Laws, on-known}

module _ {Y : Type 0} (f : Soup → Option Y) (same : (p : Soup) → f (bare_soup p) ≡ f p) (sig : ℕ) where
  bare-list : (ps : List Soup) → option_and_then f (find (λ p. p.sig == sig) (map bare_soup ps)) ≡ option_and_then f (find (λ p. p.sig == sig) ps)
  bare-list [] = refl
  bare-list (p ∷ ps) = go (p.sig == sig) (bare-list ps)
    where
      go : (b : Bool) → option_and_then f (find (λ p. p.sig == sig) (map bare_soup ps)) ≡ option_and_then f (find (λ p. p.sig == sig) ps)
          → option_and_then f (cond b (Some (bare_soup p)) (find (λ p. p.sig == sig) (map bare_soup ps))) ≡ option_and_then f (cond b (Some p) (find (λ p. p.sig == sig) ps))
      go true h = same p
      go false h = h

  -- what a soup has but for its entries is known
  pub bare-has : (s t : Store) → bare s ≡ t → option_and_then f (soup_of sig t) ≡ option_and_then f (soup_of sig s)
  bare-has s t known = ap (λ (t : Store). option_and_then f (soup_of sig t)) (sym known) ∙ bare-list s.soups

-- the store of a card that stands
pub card-bare : {C : Type 0} {reads : List ℕ → Option Store} {place : C → ℕ} {soups : C → Store} {stands : Bool → C → Outside → Type 0} → Laws reads place soups stands
    → (card : C) (o : Outside) (s : Store) → stands true card o → reads (image (place card) o.now) ≡ Some s → bare s ≡ soups card
card-bare {reads = reads} {place} {soups} l card o s stands is =
    let k = l.plain card o stands in
    subst (λ (t : Store). bare t ≡ soups card) (some-same k.0 s (sym k.1 ∙ is)) k.2

-- ---- whether a soup takes part

range-some : (index : IndexSpec) (p : Soup) → is_some (range_of_soup (declared index) p) ≡ carries index p
range-some [] p = refl
range-some (i ∷ index) p = go p.specs
  where
    by : (d : IndexSpec) (ds : List IndexSpec) (b : Bool)
        → is_some (option_map (λ d. range_of (Some d) p.entries) (find (same_spec (i ∷ index)) ds)) ≡ list_any (same_spec (i ∷ index)) ds
        → is_some (option_map (λ d. range_of (Some d) p.entries) (cond b (Some d) (find (same_spec (i ∷ index)) ds))) ≡ (b || list_any (same_spec (i ∷ index)) ds)
    by d ds true h = refl
    by d ds false h = h

    go : (ds : List IndexSpec) → is_some (option_map (λ d. range_of (Some d) p.entries) (find (same_spec (i ∷ index)) ds)) ≡ list_any (same_spec (i ∷ index)) ds
    go [] = refl
    go (d ∷ ds) = by d ds (same_spec (i ∷ index) d) (go ds)

pub some-map : {X Y : Type 0} (f : X → Y) (o : Option X) → is_some o ≡ is_some (option_map f o)
some-map f None = refl
some-map f (Some x) = refl

pub carried : (soup : ℕ) (index : IndexSpec) (s : Store) (p : Soup) → soup_of soup s ≡ Some p → is_some (range_in soup (declared index) s) ≡ carries index p
carried soup index s p at = ap (λ (o : Option Soup). is_some (option_and_then (range_of_soup (declared index)) o)) at ∙ range-some index p

pub name-known : (soup : ℕ) (s t : Store) (p : Soup) (name : List ℕ) → bare s ≡ t → soup_of soup s ≡ Some p → Some name ≡ option_map (λ p. p.name) (soup_of soup t) → name ≡ p.name
name-known soup s t p name known at e =
    some-same name p.name (e ∙ mapped (soup_of soup t) ∙ bare-has (λ p. Some p.name) (λ p. refl) soup s t known ∙ ap (λ (o : Option Soup). option_and_then (λ p. Some p.name) o) at)
  where
    mapped : (o : Option Soup) → option_map (λ p. p.name) o ≡ option_and_then (λ p. Some p.name) o
    mapped None = refl
    mapped (Some p) = refl

pub no-name : (soup : ℕ) (s t : Store) (p : Soup) → bare s ≡ t → soup_of soup s ≡ Some p → None ≡ option_map (λ p. p.name) (soup_of soup t) → ⊥
no-name soup s t p known at e =
    none-some p.name (e ∙ mapped (soup_of soup t) ∙ bare-has (λ p. Some p.name) (λ p. refl) soup s t known ∙ ap (λ (o : Option Soup). option_and_then (λ p. Some p.name) o) at)
  where
    mapped : (o : Option Soup) → option_map (λ p. p.name) o ≡ option_and_then (λ p. Some p.name) o
    mapped None = refl
    mapped (Some p) = refl

-- ---- the card of a unit

module _ {C : Type 0} {reads : List ℕ → Option Store} {place : C → ℕ} {soups : C → Store} {stands : Bool → C → Outside → Type 0} (l : Laws reads place soups stands)
    (units : Units C) (o : Outside) (e : Eight o) (s : Stands place stands true units o) (u blocks : ℕ) (t : Store) (on : OnUnit (world_of reads units o) u blocks t) where
  pub on-card : (card : C) → Some card ≡ card_at units.slots.items u → stands true card o × (reads (image (place card) o.now) ≡ Some t) × (bare t ≡ soups card)
  on-card card is =
      let k = on-known l units o e s u blocks t on in
      let c = s.cards u card (sym is) in
      let r = ap (λ n. reads (image n o.now)) c.1 ∙ k.3 in
      (c.0, r, card-bare l card o t c.0 r)

  pub no-card : None ≡ card_at units.slots.items u → ⊥
  no-card is = let k = on-known l units o e s u blocks t on in none-some k.0 (is ∙ k.1)
