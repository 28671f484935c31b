-- The stores that are mounted, as the units know them.
use Rattle.std.proofs.Common.{◌≡◌, refl, ap, sym, ◌∙◌, subst, ℕ, ◌+◌, ◌≤◌, List, [], ◌∷◌, Bool, true, false, cond, map, find, length, Option, Some, None, option_map, IsTrue, ◌==◌, if◌then◌else◌}
use Rattle.std.specs.Prelude.{filter_map}
use Rattle.std.specs.List.{enumerate_from, cons_option}
use Rattle.std.proofs.lemmas.Bool.{eqb-true}
use Rattle.newt_host.specs.Moments.{image}
use Rattle.newt_host.specs.Outside.{Outside}
use Rattle.newt_spec_graph.specs.Lists.{Each}
use Rattle.newt_spec_graph.proofs.Lists.{some-same, none-some}
use Rattle.newt_spec_store.specs.Store.{Store}
use Rattle.newt_spec_store.specs.Valid.{well_formed}
use Rattle.newt_spec_world.specs.First.{media_of, unit_numbers}
use Rattle.newt_spec_world.specs.World.{World, Device, lost, on_unit, mounted, mounted_stores, store_of}
use Rattle.newt_laws_images.proofs.Chosen.{find-passes}
use Rattle.newt_laws_answers.specs.Faces.{first_showing}
use Rattle.newt_laws_answers.specs.There.{OnUnit}
use Rattle.newt_laws_answers.specs.WorldAt.{device_at}
use Rattle.newt_laws_answers.proofs.Faces.{find-none, find-found}
use Rattle.newt_laws_answers.proofs.Units.{is-mounted}
use Rattle.newt_laws_hits.proofs.Numbers.{chosen-length}
use Rattle.newt_engine_units.specs.declared.units.Units.{Units}
use Rattle.newt_engine_units.specs.Faces.{card_faces}
use Rattle.newt_engine_units.specs.Stands.{Stands, Eight, due_in, mounted_in, world_of}
use Rattle.newt_engine_units.proofs.Known.{Laws, card-known}
use Rattle.newt_engine_units.proofs.Resolving.{showing-card}
use Rattle.newt_engine_units.proofs.Shown.{faces-known}

-- ---- lists

chosen-each : {X Y : Type 0} (P : Y → Type 0) (f : X → Option Y) (xs : List X) → ((x : X) (y : Y) → f x ≡ Some y → P y) → Each P (filter_map f xs)
chosen-each P f [] h = tt
chosen-each P f (x ∷ xs) h = go (f x) refl (chosen-each P f xs h)
  where
    go : (o : Option _) → f x ≡ o → Each P (filter_map f xs) → Each P (cons_option o (filter_map f xs))
    go None e more = more
    go (Some y) e more = (h x y e, more)

pub chosen-map : {X Y Z : Type 0} (f : Y → Option Z) (g : X → Y) (xs : List X) → filter_map f (map g xs) ≡ filter_map (λ x. f (g x)) xs
chosen-map f g [] = refl
chosen-map f g (x ∷ xs) = ap (cons_option (f (g x))) (chosen-map f g xs)

abbrev rest_from : ℕ → List (Option Device) → List (ℕ × Store)
rest_from n ds = filter_map (λ d. option_map (λ s. (d.0, s)) (on_unit d.1)) (enumerate_from (n + 1) ds)

-- the store of a signature, with its unit and without
pub find-store : (sig n : ℕ) (ds : List (Option Device))
    → find (λ t. t.sig == sig) (filter_map on_unit ds) ≡ option_map (λ (m : ℕ × Store). m.1) (find (λ m. m.1.sig == sig) (filter_map (λ d. option_map (λ s. (d.0, s)) (on_unit d.1)) (enumerate_from n ds)))
find-store sig n [] = refl
find-store sig n (d ∷ ds) = go (on_unit d) (find-store sig (n + 1) ds)
  where
    at : (t : Store) (b : Bool) → find (λ t. t.sig == sig) (filter_map on_unit ds) ≡ option_map (λ (m : ℕ × Store). m.1) (find (λ m. m.1.sig == sig) (rest_from n ds))
        → cond b (Some t) (find (λ t. t.sig == sig) (filter_map on_unit ds)) ≡ option_map (λ (m : ℕ × Store). m.1) (cond b (Some (n, t)) (find (λ m. m.1.sig == sig) (rest_from n ds)))
    at t true h = refl
    at t false h = h

    go : (o : Option Store) → find (λ t. t.sig == sig) (filter_map on_unit ds) ≡ option_map (λ (m : ℕ × Store). m.1) (find (λ m. m.1.sig == sig) (rest_from n ds))
        → find (λ t. t.sig == sig) (cons_option o (filter_map on_unit ds)) ≡ option_map (λ (m : ℕ × Store). m.1) (find (λ m. m.1.sig == sig) (cons_option (option_map (λ s. (n, s)) o) (rest_from n ds)))
    go None h = h
    go (Some t) h = at t (t.sig == sig) h

-- ---- the world of the units

module _ {C : Type 0} {reads : List ℕ → Option Store} {place : C → ℕ} {soups : C → Store} {stands : Bool → C → Outside → Type 0} (l : Laws reads place soups stands)
    (units : Units C) (o : Outside) (e : Eight o) (s : Stands place stands true units o) where
  abbrev w : World
  w = world_of reads units o

  abbrev device : ℕ → Option Device
  device u = device_at reads (due_in units.slots.items) (mounted_in units.slots.items) o u

  formed : (u : ℕ) (t : Store) → on_unit (device u) ≡ Some t → IsTrue (well_formed t)
  formed u t h = go (o.card u) h
    where
      by : (b due : Bool) (r : Option Store) → reads (image u o.now) ≡ r → cond b (store_of (if due then lost else media_of r)) None ≡ Some t → IsTrue (well_formed t)
      by false due r k h = absurd (none-some t h)
      by true true r k h = absurd (none-some t h)
      by true false None k h = absurd (none-some t h)
      by true false (Some x) k h = subst (λ x. IsTrue (well_formed x)) (some-same x t h) (l.formed (image u o.now) x k)

      go : (c : Option (List ℕ)) → on_unit (option_map (λ name. record { blocks = o.blocks u; media = if due_in units.slots.items u then lost else media_of (reads (image u o.now)); mounted = mounted_in units.slots.items u }) c) ≡ Some t
          → IsTrue (well_formed t)
      go None h = absurd (none-some t h)
      go (Some name) h = by (mounted_in units.slots.items u) (due_in units.slots.items u) (reads (image u o.now)) refl h

  pub stores-formed : Each (λ t. IsTrue (well_formed t)) (mounted_stores w)
  stores-formed =
      subst (λ (ts : List Store). Each (λ t. IsTrue (well_formed t)) ts) (sym (chosen-map on_unit device unit_numbers))
      (chosen-each (λ t. IsTrue (well_formed t)) (λ u. on_unit (device u)) unit_numbers formed)

  pub stores-few : length (mounted_stores w) ≤ 8
  stores-few = chosen-length on_unit w.units

  -- the unit that shows a signature, and its store
  pub record Shows (sig u : ℕ) : Type 0 where
    pub store : Store
    pub blocks : ℕ
    pub on : OnUnit w u blocks store
    pub sig_is : store.sig ≡ sig
    pub found : find (λ t. t.sig == sig) (mounted_stores w) ≡ Some store
    pub found_with : find (λ m. m.1.sig == sig) (mounted w) ≡ Some (u, store)

  pub shows-some : (sig u : ℕ) → first_showing sig (card_faces soups units.slots.items) ≡ Some u → Shows sig u
  shows-some sig u h =
      let c = showing-card soups units.slots.items sig u h in
      let k = card-known l units o e s u c.0 c.1 in
      let with : find (λ m. m.1.sig == sig) (mounted w) ≡ Some (u, k.store) =
      find-found w sig u k.store (ap (first_showing sig) (faces-known l units o e s) ∙ h) (is-mounted w u (o.blocks u) k.store k.on) in
      let only : find (λ t. t.sig == sig) (mounted_stores w) ≡ Some k.store = find-store sig 0 w.units ∙ ap (option_map (λ (m : ℕ × Store). m.1)) with in
      record {
        store = k.store;
        blocks = o.blocks u;
        on = k.on;
        sig_is = eqb-true k.store.sig sig (find-passes (λ (t : Store). t.sig == sig) (mounted_stores w) k.store only).0;
        found = only;
        found_with = with;
      }

  pub shows-none : (sig : ℕ) → first_showing sig (card_faces soups units.slots.items) ≡ None
      → (find (λ t. t.sig == sig) (mounted_stores w) ≡ None) × (find (λ m. m.1.sig == sig) (mounted w) ≡ None)
  shows-none sig h =
      let with = find-none w sig (ap (first_showing sig) (faces-known l units o e s) ∙ h) in
      (find-store sig 0 w.units ∙ ap (option_map (λ (m : ℕ × Store). m.1)) with, with)
