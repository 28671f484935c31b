-- Devices by their names.
use Rattle.std.proofs.Common.{◌≡◌, ◌≢◌, inl, inr, ℕ, zero, suc, ◌+◌, ◌<◌, ◌&&◌, Bool, true, false, cond, List, [], ◌∷◌, ◌++◌, length, get_or, drop, remove, Option, Some, None, is_some, slice_get, slice_set, refl, sym, ◌∙◌, ap, arith}
use Rattle.std.proofs.lemmas.Bool.{cases_Bool, false≢true}
use Rattle.std.proofs.lemmas.List.{at_drop_more}
use Rattle.std.proofs.lemmas.Option.{same_Some}
use Rattle.std.proofs.lemmas.Slice.Eq.{bytes_eq-Decides}
use Rattle.std.specs.Str.{bytes_eq}
use Rattle.newt_memhost.specs.Calls.{HasMoved, IsPlaceOf}
use Rattle.newt_memhost.specs.Cards.{name_of, blocks_of, faults_of, programmed_of, fetched_of, erased_of, synced_of, broken_of, attached_device, free_device, or_else, device_of}
use Rattle.newt_host.specs.Moments.{Attached, On, Moment}
use Rattle.newt_host.specs.Outside.{AttachCall, Attaches}
use Rattle.newt_memhost.proofs.Cards.{told-by, get-set-same, get-set-other, same-field}
use Rattle.newt_memhost.specs.declared.card.Card.{Card}
use Rattle.newt_memhost.specs.declared.card.Device.{Device}

same_there : {A : Type 0} (xs : List A) (i : ℕ) (d e : A) → i < length xs → get_or xs i d ≡ get_or xs i e
same_there [] i d e low = absurd (omega (arith, low))
same_there (x ∷ xs) zero d e low = refl
same_there (x ∷ xs) (suc i) d e low = same_there xs i d e (omega (arith, low))

pub place-found : (name : List ℕ) (shelf : List Device) (i : ℕ) (r : Device) → i < length shelf → free_device name shelf ≡ free_device name (drop i shelf) → bytes_eq (get_or shelf i r).name.items name ≡ true
    → IsPlaceOf name shelf i
place-found name shelf i r low so_far test = record {
  inside = low;
  named = λ d. ap (λ (x : Device). x.name.items) (same_there shelf i d r low) ∙ (bytes_eq-Decides (get_or shelf i r).name.items name).0 test;
  found = λ d.
      so_far ∙ at_drop_more (free_device name) shelf i d low
      ∙ ap (λ (t : Bool). cond t (Some (get_or shelf i d).first.items) (free_device name (drop (i + 1) shelf))) (ap (λ (x : Device). bytes_eq x.name.items name) (same_there shelf i d r low) ∙ test);
}

-- no unit has a device of a name that is on no card
pub none-attached : (name : List ℕ) (cards : List Card) → ((u : ℕ) → name_of (slice_get cards u) ≡ Some name → ⊥) → attached_device name cards ≡ None
none-attached name [] none = refl
none-attached name (x ∷ cards) none =
    ap (λ (t : Bool). cond t (Some x.first.items) (attached_device name cards)) (other x.attached (bytes_eq x.name.items name) refl refl)
    ∙ none-attached name cards (λ u is. none (suc u) is)
  where
    other : (s t : Bool) → x.attached ≡ s → bytes_eq x.name.items name ≡ t → (x.attached && bytes_eq x.name.items name) ≡ false
    other false t attached same = ap (λ (b : Bool). b && bytes_eq x.name.items name) attached
    other true false attached same = ap (λ (b : Bool). b && bytes_eq x.name.items name) attached ∙ same
    other true true attached same = absurd (none 0 (ap (λ (b : Bool). cond b (Some x.name.items) None) attached ∙ ap Some ((bytes_eq-Decides x.name.items name).0 same)))

not_both : {A : Type 0} (t : Bool) (x : A) (o : Option A) → cond t (Some x) o ≡ None → (t ≡ false) × (o ≡ None)
not_both true x o none = absurd (false≢true (sym (ap is_some none)))
not_both false x o none = (refl, none)

-- a device of another name is on no other card
put-same : (name : List ℕ) (cards : List Card) (i : ℕ) (b c : Card) → slice_get cards i ≡ Some b → c.attached ≡ true → bytes_eq c.name.items name ≡ true → attached_device name cards ≡ None
    → attached_device name (slice_set cards i c) ≡ Some c.first.items
put-same name [] i b c is held same none = absurd (let no = is in cc)
put-same name (x ∷ cards) zero b c is held same none = ap (λ (t : Bool). cond (t && bytes_eq c.name.items name) (Some c.first.items) (attached_device name cards)) held ∙ ap (λ (t : Bool). cond t (Some c.first.items) (attached_device name cards)) same
put-same name (x ∷ cards) (suc i) b c is held same none =
    let parts = not_both (x.attached && bytes_eq x.name.items name) x.first.items (attached_device name cards) none in
    ap (λ (t : Bool). cond t (Some x.first.items) (attached_device name (slice_set cards i c))) parts.0 ∙ put-same name cards i b c is held same parts.1

and_false : (t : Bool) → (t && false) ≡ false
and_false true = refl
and_false false = refl

put-other : (name : List ℕ) (cards : List Card) (i : ℕ) (b c : Card) → slice_get cards i ≡ Some b → b.attached ≡ false → bytes_eq c.name.items name ≡ false → attached_device name (slice_set cards i c) ≡ attached_device name cards
put-other name [] i b c is free other = refl
put-other name (x ∷ cards) zero b c is free other =
    let x_free : x.attached ≡ false = ap (λ (y : Card). y.attached) (same_Some x b is) ∙ free in
    ap (λ (t : Bool). cond (c.attached && t) (Some c.first.items) (attached_device name cards)) other ∙ ap (λ (t : Bool). cond t (Some c.first.items) (attached_device name cards)) (and_false c.attached)
    ∙ sym (ap (λ (t : Bool). cond (t && bytes_eq x.name.items name) (Some x.first.items) (attached_device name cards)) x_free)
put-other name (x ∷ cards) (suc i) b c is free other = ap (λ (o : Option (List ℕ)). cond (x.attached && bytes_eq x.name.items name) (Some x.first.items) o) (put-other name cards i b c is free other)

taken-other : (name : List ℕ) (shelf : List Device) (k : ℕ) (d : Device) → k < length shelf → bytes_eq (get_or shelf k d).name.items name ≡ false → free_device name (remove shelf k) ≡ free_device name shelf
taken-other name [] k d low other = absurd (omega (arith, low))
taken-other name (x ∷ shelf) zero d low other = sym (ap (λ (t : Bool). cond t (Some x.first.items) (free_device name shelf)) other)
taken-other name (x ∷ shelf) (suc k) d low other =
    ap (λ (o : Option (List ℕ)). cond (bytes_eq x.name.items name) (Some x.first.items) o) (taken-other name shelf k d (omega (arith, low)) other)

-- The devices are those that there were, when one has moved from the shelf to a card.
pub devices-moved : (name : List ℕ) (cards : List Card) (shelf : List Device) (i k : ℕ) (b c : Card) (d : Device) → slice_get cards i ≡ Some b → b.attached ≡ false → attached_device name cards ≡ None → IsPlaceOf name shelf k
    → HasMoved (get_or shelf k d) b c → (n : List ℕ) → device_of (slice_set cards i c) (remove shelf k) n ≡ device_of cards shelf n
devices-moved name cards shelf i k b c d is free none place moved n = elim (cases_Bool (bytes_eq name n)) [
  | inl same ↦
      let n_is : name ≡ n = (bytes_eq-Decides name n).0 same in
      let none_n : attached_device n cards ≡ None = ap (λ (m : List ℕ). attached_device m cards) (sym n_is) ∙ none in
      let c_named : bytes_eq c.name.items n ≡ true = ap (λ (l : List ℕ). bytes_eq l n) (moved.name ∙ place.named d) ∙ same in
      let found_n : free_device n shelf ≡ Some (get_or shelf k d).first.items = ap (λ (m : List ℕ). free_device m shelf) (sym n_is) ∙ place.found d in
      ap (λ (o : Option (List ℕ)). or_else o (free_device n (remove shelf k))) (put-same n cards i b c is moved.attached c_named none_n) ∙ ap Some moved.first
      ∙ sym (ap (λ (o : Option (List ℕ)). or_else o (free_device n shelf)) none_n ∙ found_n)
  | inr other ↦
      let c_other : bytes_eq c.name.items n ≡ false = ap (λ (l : List ℕ). bytes_eq l n) (moved.name ∙ place.named d) ∙ other in
      let d_other : bytes_eq (get_or shelf k d).name.items n ≡ false = ap (λ (l : List ℕ). bytes_eq l n) (place.named d) ∙ other in
      ap (λ (o : Option (List ℕ)). or_else o (free_device n (remove shelf k))) (put-other n cards i b c is free c_other)
      ∙ ap (λ (o : Option (List ℕ)). or_else (attached_device n cards) o) (taken-other n shelf k d place.inside d_other)
]

-- what an attach that answers true does to what the host tells
module _ (name : List ℕ) (cards : List Card) (shelf left : List Device) (i unit k : ℕ) (b c : Card) (d : Device) (same : i ≡ unit) (is : slice_get cards i ≡ Some b) (free : b.attached ≡ false)
    (once : (u : ℕ) → name_of (slice_get cards u) ≡ Some name → ⊥) (place : IsPlaceOf name shelf k) (moved : HasMoved (get_or shelf k d) b c) (rest : left ≡ remove shelf k)
    (old now : Moment) (event : now ≡ On unit (Attached (get_or shelf k d).first.items) ∷ old) where
  unheld : attached_device name cards ≡ None
  unheld = none-attached name cards once

  known_is : device_of cards shelf name ≡ Some (get_or shelf k d).first.items
  known_is = ap (λ (o : Option (List ℕ)). or_else o (free_device name shelf)) unheld ∙ place.found d

  name_is : name_of (slice_get (slice_set cards i c) unit) ≡ Some name
  name_is = ap (λ (u : ℕ). name_of (slice_get (slice_set cards i c) u)) (sym same) ∙ ap name_of (get-set-same cards i b c is)
      ∙ ap (λ (t : Bool). cond t (Some c.name.items) None) moved.attached ∙ ap Some (moved.name ∙ place.named d)

  pub found : true ≡ is_some (device_of cards shelf name)
  found = sym (ap is_some known_is)

  module _ (input : List ℕ) (in_faults out_faults : ℕ) where
    pub attaches : Attaches true unit name (told-by cards old input shelf in_faults out_faults) (told-by (slice_set cards i c) now input left in_faults out_faults)
    attaches = record {
      devices = λ n. ap (λ (l : List Device). device_of (slice_set cards i c) l n) rest ∙ devices-moved name cards shelf i k b c d is free unheld place moved n;
      card = name_is;
      other_cards = λ u other. ap name_of (get-set-other cards i u c (λ e. other (e ∙ same)));
      other_blocks = λ u other. ap blocks_of (get-set-other cards i u c (λ e. other (e ∙ same)));
      moment = λ told. ((get_or shelf k d).first.items, known_is, event);
    }

    pub attach_call : AttachCall (told-by cards old input shelf in_faults out_faults) (told-by (slice_set cards i c) now input left in_faults out_faults)
    attach_call = record {
      input = refl;
      counts = record {
        dev_faults = λ u. same-field faults_of b c moved.faults cards i is u;
        work = λ u. record {
          programmed = same-field programmed_of b c moved.programmed cards i is u;
          fetched = same-field fetched_of b c moved.fetched cards i is u;
          erased = same-field erased_of b c moved.erased cards i is u;
          synced = same-field synced_of b c moved.synced cards i is u;
          broken = same-field broken_of b c moved.broken cards i is u;
        };
      };
      in_faults = refl;
      out_faults = refl;
    }

pub unknown : (name : List ℕ) (cards : List Card) (shelf : List Device) → ((u : ℕ) → name_of (slice_get cards u) ≡ Some name → ⊥) → free_device name shelf ≡ None → false ≡ is_some (device_of cards shelf name)
unknown name cards shelf once none =
    sym (ap (λ (o : Option (List ℕ)). is_some (or_else o (free_device name shelf))) (none-attached name cards once) ∙ ap is_some none)

neither : (a b : Option (List ℕ)) → or_else a b ≡ None → (a ≡ None) × (b ≡ None)
neither None b none = (refl, none)
neither (Some x) b none = absurd (false≢true (sym (ap is_some none)))

push-same : (name : List ℕ) (shelf : List Device) (d : Device) → free_device name shelf ≡ None → d.name.items ≡ name → free_device name (shelf ++ d ∷ []) ≡ Some d.first.items
push-same name [] d none named = ap (λ (t : Bool). cond t (Some d.first.items) None) ((bytes_eq-Decides d.name.items name).1 named)
push-same name (x ∷ shelf) d none named =
    let parts = not_both (bytes_eq x.name.items name) x.first.items (free_device name shelf) none in
    ap (λ (t : Bool). cond t (Some x.first.items) (free_device name (shelf ++ d ∷ []))) parts.0 ∙ push-same name shelf d parts.1 named

not_true : (t : Bool) → (t ≡ true → ⊥) → t ≡ false
not_true true never = absurd (never refl)
not_true false never = refl

push-other : (name : List ℕ) (shelf : List Device) (d : Device) → bytes_eq d.name.items name ≡ false → free_device name (shelf ++ d ∷ []) ≡ free_device name shelf
push-other name [] d other = ap (λ (t : Bool). cond t (Some d.first.items) None) other
push-other name (x ∷ shelf) d other = ap (λ (o : Option (List ℕ)). cond (bytes_eq x.name.items name) (Some x.first.items) o) (push-other name shelf d other)

-- a device more on the shelf
module _ (name bytes : List ℕ) (cards : List Card) (shelf more : List Device) (d : Device) (is : more ≡ shelf ++ d ∷ []) (named : d.name.items ≡ name) (first : d.first.items ≡ bytes) where
  pub device-added : device_of cards shelf name ≡ None → device_of cards more name ≡ Some bytes
  device-added none =
      let parts = neither (attached_device name cards) (free_device name shelf) none in
      ap (λ (o : Option (List ℕ)). or_else o (free_device name more)) parts.0 ∙ ap (free_device name) is ∙ push-same name shelf d parts.1 named ∙ ap Some first

  pub others-stay : (other : List ℕ) → other ≢ name → device_of cards more other ≡ device_of cards shelf other
  others-stay other differ =
      let apart : bytes_eq d.name.items other ≡ false = not_true (bytes_eq d.name.items other) (λ so. differ (sym ((bytes_eq-Decides d.name.items other).0 so) ∙ named)) in
      ap (λ (o : Option (List ℕ)). or_else (attached_device other cards) o) (ap (free_device other) is ∙ push-other other shelf d apart)
