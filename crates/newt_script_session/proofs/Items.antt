-- Items up to a quit.
use Rattle.std.proofs.Common.{◌≡◌, true, false, cond, List, [], ◌∷◌, ◌++◌, refl, sym, ◌∙◌, ap, append-nil}
use Rattle.newt_spec_script.specs.Script.{Item, is_quit, up_to_quit}
use Rattle.newt_spec_script.specs.Runs.{quits_among}

-- the first items do not quit
pub up_to_go : (a b : List Item) → quits_among a ≡ false → up_to_quit (a ++ b) ≡ a ++ up_to_quit b
unfolding quits_among
up_to_go [] b h = refl
up_to_go (item ∷ a) b h =
    elim (is_quit item) as (λ v. cond v true (quits_among a) ≡ false → ◌≡◌ {A = List Item} (elim v [ true ↦ item ∷ [] | false ↦ item ∷ up_to_quit (a ++ b) ]) (item ∷ (a ++ up_to_quit b))) [
      | true ↦ λ e. cc
      | false ↦ λ e. ap (λ t. item ∷ t) (up_to_go a b e)
    ] h

-- they do
pub up_to_stop : (a b : List Item) → quits_among a ≡ true → up_to_quit (a ++ b) ≡ up_to_quit a
unfolding quits_among
up_to_stop [] b h = cc
up_to_stop (item ∷ a) b h =
    elim (is_quit item) as (λ v. cond v true (quits_among a) ≡ true
    → ◌≡◌ {A = List Item} (elim v [ true ↦ item ∷ [] | false ↦ item ∷ up_to_quit (a ++ b) ]) (elim v [ true ↦ item ∷ [] | false ↦ item ∷ up_to_quit a ])) [
      | true ↦ λ e. refl
      | false ↦ λ e. ap (λ t. item ∷ t) (up_to_stop a b e)
    ] h

pub among_go : (a b : List Item) → quits_among a ≡ false → quits_among (a ++ b) ≡ quits_among b
unfolding quits_among
among_go [] b h = refl
among_go (item ∷ a) b h =
    elim (is_quit item) as (λ v. cond v true (quits_among a) ≡ false → cond v true (quits_among (a ++ b)) ≡ quits_among b) [
      | true ↦ λ e. cc
      | false ↦ λ e. among_go a b e
    ] h

pub among_stop : (a b : List Item) → quits_among a ≡ true → quits_among (a ++ b) ≡ true
unfolding quits_among
among_stop [] b h = cc
among_stop (item ∷ a) b h =
    elim (is_quit item) as (λ v. cond v true (quits_among a) ≡ true → cond v true (quits_among (a ++ b)) ≡ true) [
      | true ↦ λ e. refl
      | false ↦ λ e. among_stop a b e
    ] h

-- where none quits
pub up_to_same : (a : List Item) → quits_among a ≡ false → up_to_quit a ≡ a
up_to_same a h = ap up_to_quit (sym (append-nil a)) ∙ (up_to_go a [] h ∙ append-nil a)

pub up_to_one : (item : Item) → up_to_quit (item ∷ []) ≡ item ∷ []
up_to_one item = elim (is_quit item) as (λ v. ◌≡◌ {A = List Item} (elim v [ true ↦ item ∷ [] | false ↦ item ∷ [] ]) (item ∷ [])) [ true ↦ refl | false ↦ refl ]

pub quits_one : (item : Item) → quits_among (item ∷ []) ≡ is_quit item
unfolding quits_among
quits_one item = elim (is_quit item) as (λ v. cond v true false ≡ v) [ true ↦ refl | false ↦ refl ]
