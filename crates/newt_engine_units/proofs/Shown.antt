-- What all the stores that are mounted show.
use Rattle.std.proofs.Common.{arith, ◌≡◌, refl, ap, sym, ◌∙◌, ℕ, zero, suc, ◌+◌, ◌<◌, ◌≤◌, ◌⊎◌, inl, inr, length, List, [], ◌∷◌, ◌++◌, Bool, true, false, ◌||◌, cond, drop, map, append_assoc, Option, Some, None, option_map}
use Rattle.std.specs.Prelude.{is_some, slice_get, Result, Ok, Err, IfOk}
use Rattle.std.specs.declared.alloc.AllocError.{AllocError}
use Rattle.std.proofs.lemmas.List.{map-append}
use Rattle.std.specs.List.{list_any, position_from, cons_option}
use Rattle.newt_host.specs.Outside.{Outside}
use Rattle.newt_reply.specs.Said.{store_row}
use Rattle.newt_reply.specs.declared.rows.StoreLine.{StoreLine}
use Rattle.newt_spec_graph.proofs.Lists.{some-same, none-some}
use Rattle.newt_laws_world.proofs.Units.{same-or-not}
use Rattle.newt_spec_store.specs.Store.{Store}
use Rattle.newt_spec_world.specs.First.{unit_numbers}
use Rattle.newt_spec_world.specs.declared.command.Command.TheVariants as command
use Rattle.newt_spec_world.specs.Reply.{Reply}
use Rattle.newt_spec_world.specs.World.{World, mounted_store}
use Rattle.newt_laws_answers.specs.Faces.{Face, face_of, faces, shows, shown_count, face_rows}
use Rattle.newt_spec_world.specs.Answer.{answer}
use Rattle.newt_laws_answers.specs.WorldAt.{device_at}
use Rattle.newt_laws_answers.proofs.Faces.{rows-is}
use Rattle.newt_laws_answers.proofs.Stores.{stores-done}
use Rattle.newt_laws_answers.proofs.Units.{is-mounted}
use Rattle.newt_engine_units.specs.declared.units.Slot.{Slot}
use Rattle.newt_engine_units.specs.declared.units.Units.{Units}
use Rattle.newt_engine_units.specs.Faces.{card_face, card_faces}
use Rattle.newt_engine_units.specs.Stands.{card_at, due_in, mounted_in, world_of, Stands, Eight}
use Rattle.newt_engine_units.proofs.Known.{Laws, at-device, card-known, none-mounted}

-- ---- the faces of the world are those of the cards

map-alike : {X Y : Type 0} (f g : X → Y) → ((x : X) → f x ≡ g x) → (xs : List X) → map f xs ≡ map g xs
map-alike f g same [] = refl
map-alike f g same (x ∷ xs) = ap {B = List _} (λ y. y ∷ map f xs) (same x) ∙ ap {A = List _} (λ ys. g x ∷ ys) (map-alike f g same xs)

map-twice : {X Y Z : Type 0} (f : Y → Z) (g : X → Y) (xs : List X) → map f (map g xs) ≡ map (λ x. f (g x)) xs
map-twice f g [] = refl
map-twice f g (x ∷ xs) = ap {A = List _} (λ ys. f (g x) ∷ ys) (map-twice f g xs)

module _ {C : Type 0} {reads : List ℕ → Option Store} {place : C → ℕ} {soups : C → Store} {stands : Bool → C → Outside → Type 0} (l : Laws reads place soups stands)
    (units : Units C) (o : Outside) (e : Eight o) (s : Stands place stands true units o) where
  face-known : (u : ℕ) → face_of (device_at reads (due_in units.slots.items) (mounted_in units.slots.items) o u) ≡ card_face soups (card_at units.slots.items u)
  face-known u = ap face_of (sym (at-device l units o e s u)) ∙ go (card_at units.slots.items u) refl
    where
      shown : Option Store → Face
      shown m = option_map (λ (t : Store). (t.sig, t.name)) m

      go : (c : Option C) → card_at units.slots.items u ≡ c → shown (mounted_store (world_of reads units o) u) ≡ card_face soups c
      go None h = ap shown (none-mounted l units o e s u h)
      go (Some card) h =
          let k = card-known l units o e s u card h in
          ap shown (is-mounted (world_of reads units o) u (o.blocks u) k.store k.on) ∙ ap {A = Store} {B = Face} (λ t. Some (t.sig, t.name)) k.known

  pub faces-known : faces (world_of reads units o) ≡ card_faces soups units.slots.items
  faces-known = map-twice face_of (device_at reads (due_in units.slots.items) (mounted_in units.slots.items) o) unit_numbers ∙ map-alike _ _ face-known unit_numbers

-- ---- the list of stores

pub stores-answers : {C : Type 0} {reads : List ℕ → Option Store} {place : C → ℕ} {soups : C → Store} {stands : Bool → C → Outside → Type 0} → Laws reads place soups stands → (units : Units C) (o : Outside) → Eight o
    → Stands place stands true units o → (rows : List (ℕ × ℕ × List ℕ)) → rows ≡ face_rows 0 (card_faces soups units.slots.items)
    → answer (world_of reads units o) command.Stores ≡ (world_of reads units o, Reply.stores rows)
stores-answers {reads = reads} l units o e s rows h =
    stores-done (world_of reads units o) refl
    ∙ ap {A = List (ℕ × ℕ × List ℕ)} {B = World × Reply} (λ x. (world_of reads units o, Reply.stores x)) (rows-is (world_of reads units o) ∙ ap (face_rows 0) (faces-known l units o e s) ∙ sym h)

pub stores-if-ok : {C : Type 0} {reads : List ℕ → Option Store} {place : C → ℕ} {soups : C → Store} {stands : Bool → C → Outside → Type 0} → Laws reads place soups stands → (units : Units C) (o : Outside) → Eight o
    → Stands place stands true units o → (result : Result (List StoreLine) AllocError) → IfOk result (λ rows. map store_row rows ≡ face_rows 0 (card_faces soups units.slots.items))
    → IfOk result (λ rows. answer (world_of reads units o) command.Stores ≡ (world_of reads units o, Reply.stores (map store_row rows)))
stores-if-ok l units o e s (Ok rows) h = stores-answers l units o e s (map store_row rows) h
stores-if-ok l units o e s (Err error) h = h

-- ---- one unit after another

pub low-or-high : (u n : ℕ) → (u < n) ⊎ (n ≤ u)
low-or-high u zero = inr (omega arith)
low-or-high zero (suc n) = inl (omega arith)
low-or-high (suc u) (suc n) = elim (low-or-high u n) [ inl h ↦ inl (omega (arith, h)) | inr h ↦ inr (omega (arith, h)) ]

pub past-end : {X : Type 0} (xs : List X) (u : ℕ) → length xs ≤ u → slice_get xs u ≡ None
past-end [] u h = refl
past-end (x ∷ xs) zero h = absurd (omega (arith, h))
past-end (x ∷ xs) (suc u) h = past-end xs u (omega (arith, h))

-- the next of the eight
pub drop-step : {X : Type 0} (g : ℕ → X) (n : ℕ) → n < 8 → drop n (map g unit_numbers) ≡ g n ∷ drop (n + 1) (map g unit_numbers)
drop-step g zero h = refl
drop-step g (suc zero) h = refl
drop-step g (suc (suc zero)) h = refl
drop-step g (suc (suc (suc zero))) h = refl
drop-step g (suc (suc (suc (suc zero)))) h = refl
drop-step g (suc (suc (suc (suc (suc zero))))) h = refl
drop-step g (suc (suc (suc (suc (suc (suc zero)))))) h = refl
drop-step g (suc (suc (suc (suc (suc (suc (suc zero))))))) h = refl
drop-step g (suc (suc (suc (suc (suc (suc (suc (suc n)))))))) h = absurd (omega arith)

module _ {X : Type 0} (test : X → Bool) (g : ℕ → X) (n : ℕ) (h : n < 8) where
  step : position_from test n (drop n (map g unit_numbers)) ≡ cond (test (g n)) (Some n) (position_from test (n + 1) (drop (n + 1) (map g unit_numbers)))
  step = ap (position_from test n) (drop-step g n h)

  pub position-here : test (g n) ≡ true → position_from test n (drop n (map g unit_numbers)) ≡ Some n
  position-here t = step ∙ ap (λ b. cond b (Some n) (position_from test (n + 1) (drop (n + 1) (map g unit_numbers)))) t

  pub position-past : test (g n) ≡ false → position_from test n (drop n (map g unit_numbers)) ≡ position_from test (n + 1) (drop (n + 1) (map g unit_numbers))
  position-past t = step ∙ ap (λ b. cond b (Some n) (position_from test (n + 1) (drop (n + 1) (map g unit_numbers)))) t

module _ {C : Type 0} (soups : C → Store) where
  -- a card has a face
  pub face-some : (card : Option C) → is_some (card_face soups card) ≡ is_some card
  face-some None = refl
  face-some (Some card) = refl

  module _ (slots : List (Slot C)) (n : ℕ) (h : n < 8) where
    abbrev here : Face
    here = card_face soups (card_at slots n)

    abbrev rest : ℕ → List Face
    rest k = drop k (card_faces soups slots)

    pub count-step : (b : Bool) → is_some (card_at slots n) ≡ b → shown_count (rest n) ≡ cond b (1 + shown_count (rest (n + 1))) (shown_count (rest (n + 1)))
    count-step b is = ap shown_count (drop-step (λ u. card_face soups (card_at slots u)) n h)
        ∙ ap (λ b. cond b (1 + shown_count (rest (n + 1))) (shown_count (rest (n + 1)))) (face-some (card_at slots n) ∙ is)

    rows-step : (card : Option C) → card_at slots n ≡ card → face_rows n (rest n) ≡ cons_option (option_map (λ (x : ℕ × List ℕ). (n, x.0, x.1)) (card_face soups card)) (face_rows (n + 1) (rest (n + 1)))
    rows-step card is = ap (face_rows n) (drop-step (λ u. card_face soups (card_at slots u)) n h)
        ∙ ap (λ c. cons_option (option_map (λ (x : ℕ × List ℕ). (n, x.0, x.1)) (card_face soups c)) (face_rows (n + 1) (rest (n + 1)))) is

    -- the lines so far, and that of a unit that has a card
    pub line-next : (lines more : List StoreLine) (line : StoreLine) (total : List (ℕ × ℕ × List ℕ)) (card : C) → more ≡ lines ++ line ∷ [] → map store_row lines ++ face_rows n (rest n) ≡ total → card_at slots n ≡ Some card
        → ◌≡◌ {A = ℕ × ℕ × List ℕ} (store_row line) (n, (soups card).sig, (soups card).name) → map store_row more ++ face_rows (n + 1) (rest (n + 1)) ≡ total
    line-next lines more line total card pushed so_far there is =
        ap (λ xs. map store_row xs ++ face_rows (n + 1) (rest (n + 1))) pushed
        ∙ ap (λ xs. xs ++ face_rows (n + 1) (rest (n + 1))) (map-append store_row lines (line ∷ []))
        ∙ append_assoc (map store_row lines) (store_row line ∷ []) (face_rows (n + 1) (rest (n + 1)))
        ∙ ap {A = ℕ × ℕ × List ℕ} {B = List (ℕ × ℕ × List ℕ)} (λ x. map store_row lines ++ x ∷ face_rows (n + 1) (rest (n + 1))) is
        ∙ ap {A = List (ℕ × ℕ × List ℕ)} (λ xs. map store_row lines ++ xs) (sym (rows-step (Some card) there))
        ∙ so_far

    -- and of one that has none
    pub line-past : (lines : List StoreLine) (total : List (ℕ × ℕ × List ℕ)) → map store_row lines ++ face_rows n (rest n) ≡ total → card_at slots n ≡ None → map store_row lines ++ face_rows (n + 1) (rest (n + 1)) ≡ total
    line-past lines total so_far none = ap {A = List (ℕ × ℕ × List ℕ)} (λ xs. map store_row lines ++ xs) (sym (rows-step None none)) ∙ so_far

-- whether there is one, and the first
pub any-first : (sig k : ℕ) (fs : List Face) → list_any (shows sig) fs ≡ is_some (position_from (shows sig) k fs)
any-first sig k [] = refl
any-first sig k (f ∷ fs) = go (shows sig f) (any-first sig (k + 1) fs)
  where
    go : (b : Bool) → list_any (shows sig) fs ≡ is_some (position_from (shows sig) (k + 1) fs) → (b || list_any (shows sig) fs) ≡ is_some (cond b (Some k) (position_from (shows sig) (k + 1) fs))
    go true h = refl
    go false h = h

-- ---- the first that passes a test

abbrev from : ℕ → ℕ → List ℕ
from k zero = []
from k (suc n) = k ∷ from (k + 1) n

pub position-passes : {X : Type 0} (test : X → Bool) (g : ℕ → X) (k n u : ℕ) → position_from test k (map g (from k n)) ≡ Some u → test (g u) ≡ true
position-passes test g k zero u h = absurd (none-some u h)
position-passes test g k (suc n) u h = go (test (g k)) refl h (position-passes test g (k + 1) n u)
  where
    go : (b : Bool) → test (g k) ≡ b → cond b (Some k) (position_from test (k + 1) (map g (from (k + 1) n))) ≡ Some u → (position_from test (k + 1) (map g (from (k + 1) n)) ≡ Some u → test (g u) ≡ true) → test (g u) ≡ true
    go true e h more = ap (λ j. test (g j)) (sym (some-same k u h)) ∙ e
    go false e h more = more h

-- and where none passes, each fails
pub position-fails : {X : Type 0} (test : X → Bool) (g : ℕ → X) (k n : ℕ) → position_from test k (map g (from k n)) ≡ None → (u : ℕ) → k ≤ u → u < k + n → test (g u) ≡ false
position-fails test g k zero h u low high = absurd (omega (arith, low, high))
position-fails test g k (suc n) h u low high = go (test (g k)) refl h (same-or-not u k) (λ rest above. position-fails test g (k + 1) n rest u above (omega (arith, high)))
  where
    above : (u k : ℕ) → k ≤ u → (u ≡ k → ⊥) → k + 1 ≤ u
    above u k low other = elim (low-or-high k u) [ inl lt ↦ omega (arith, lt) | inr le ↦ absurd (other (omega (arith, le, low))) ]

    go : (b : Bool) → test (g k) ≡ b → cond b (Some k) (position_from test (k + 1) (map g (from (k + 1) n))) ≡ None → (u ≡ k) ⊎ (u ≡ k → ⊥)
        → (position_from test (k + 1) (map g (from (k + 1) n)) ≡ None → k + 1 ≤ u → test (g u) ≡ false) → test (g u) ≡ false
    go true e h is later = absurd (none-some k (sym h))
    go false e h (inl is) later = ap (λ j. test (g j)) is ∙ e
    go false e h (inr other) later = later h (above u k low other)
