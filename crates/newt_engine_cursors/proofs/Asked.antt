-- What a query asks: its frame, its index and its keys.
use Rattle.std.proofs.Common.{◌≡◌, refl, ap, sym, ◌∙◌, ℕ, ◌+◌, ◌<◌, List, Bool, true, false, cond, drop, Option, Some, None, option_map, option_and_then}
use Rattle.std.specs.Prelude.{Result, Ok, Err, filter_map}
use Rattle.std.specs.List.{cons_option}
use Rattle.newt_base.specs.Refusals.{Checks, first_of}
use Rattle.newt_spec_graph.proofs.Lists.{none-some}
use Rattle.newt_spec_store.specs.Keys.{IndexSpec, Path}
use Rattle.newt_spec_query.specs.Hits.{Query}
use Rattle.newt_spec_world.specs.World.{World}
use Rattle.newt_cursor.specs.declared.query.Query as code
use Rattle.newt_store_change.specs.declared.fault.StoreFault.{StoreFault}
use Rattle.newt_store_change.specs.declared.fault.StoreFault.TheVariants.{Refused, Stop}
use Rattle.newt_host.specs.Outside.{Outside}
use Rattle.newt_spec_store.specs.Store.{Store, Soup, soup_named}
use Rattle.newt_spec_query.specs.Hits.{in_scope}
use Rattle.newt_spec_world.specs.Changed.{first_of_list, index_for, index_in_soup}
use Rattle.newt_spec_world.specs.First.{unit_numbers}
use Rattle.newt_spec_world.specs.World.{mounted_store, mounted_stores, on_unit}
use Rattle.newt_laws_answers.specs.WorldAt.{device_at}
use Rattle.newt_engine_units.specs.declared.units.Units.{Units}
use Rattle.newt_engine_units.specs.Stands.{Stands, Eight, due_in, mounted_in, world_of}
use Rattle.newt_engine_units.proofs.Known.{Laws, at-device}
use Rattle.newt_engine_units.proofs.Shown.{drop-step}
use Rattle.newt_engine_hits.proofs.Searching.{chosen-kept, chosen-twice}
use Rattle.newt_engine_hits.proofs.Stores.{chosen-map}
use Rattle.newt_engine_cursors.specs.Opening.{index_in}
use Rattle.newt_engine_cursors.specs.Opening.{Binds}

-- ---- the tests

pub binds-same : (xs ys : Checks) (p q : Query) → first_of xs ≡ first_of ys → p ≡ q → (r : Result code.Query StoreFault) → Binds xs p r → Binds ys q r
binds-same xs ys p q e is (Ok query) h = (sym e ∙ h.0, h.1 ∙ is)
binds-same xs ys p q e is (Err (Refused refusal)) h = sym e ∙ h
binds-same xs ys p q e is (Err (Stop stop)) h = tt

-- ---- the index of the soups

-- the index of a unit
abbrev pub unit_index : Option ℕ → List ℕ → List Path → World → ℕ → Option IndexSpec
unit_index scope name paths w u = option_and_then (index_in scope name paths) (mounted_store w u)

module _ {C : Type 0} {reads : List ℕ → Option Store} {place : C → ℕ} {soups : C → Store} {stands : Bool → C → Outside → Type 0} (l : Laws reads place soups stands)
    (units : Units C) (o : Outside) (e : Eight o) (s : Stands place stands true units o) where
  -- the first of all units is that of the mounted stores
  pub unit-indexes : (scope : Option ℕ) (name : List ℕ) (paths : List Path)
      → first_of_list (filter_map (unit_index scope name paths (world_of reads units o)) unit_numbers) ≡ index_for (world_of reads units o) scope name paths
  unit-indexes scope name paths = ap first_of_list (
      (λ i. filter_map (λ u. option_and_then (index_in scope name paths) (on_unit (at-device l units o e s u i))) unit_numbers)
      ∙ sym (ap (filter_map (index_in scope name paths)) (chosen-map on_unit (device_at reads (due_in units.slots.items) (mounted_in units.slots.items) o) unit_numbers)
      ∙ chosen-twice (index_in scope name paths) (λ u. on_unit (device_at reads (due_in units.slots.items) (mounted_in units.slots.items) o u)) unit_numbers)
      ∙ sym (chosen-kept (λ (s : Store). index_in_soup paths (soup_named name s)) (in_scope scope) (mounted_stores (world_of reads units o))))

-- a unit more
module _ (f : ℕ → Option IndexSpec) (all : Option IndexSpec) (n : ℕ) (h : first_of_list (filter_map f (drop n unit_numbers)) ≡ all) where
  next-unit : (o : Option IndexSpec) → n < 8 → f n ≡ o → first_of_list (cons_option o (filter_map f (drop (n + 1) unit_numbers))) ≡ all
  next-unit o lt e = sym (ap (λ (us : List ℕ). first_of_list (filter_map f us)) (drop-step (λ u. u) n lt) ∙ ap (λ o. first_of_list (cons_option o (filter_map f (drop (n + 1) unit_numbers)))) e) ∙ h

  pub index-none : n < 8 → f n ≡ None → first_of_list (filter_map f (drop (n + 1) unit_numbers)) ≡ all
  index-none lt e = next-unit None lt e

  pub index-some : (x : IndexSpec) → n < 8 → f n ≡ Some x → Some x ≡ all
  index-some x lt e = next-unit (Some x) lt e

-- a store without the soup
pub no-soup-index : (scope : Option ℕ) (name : List ℕ) (paths : List Path) (o : Option Store) → None ≡ option_map (λ p. p.sig) (option_and_then (soup_named name) o)
    → None ≡ option_and_then (index_in scope name paths) o
no-soup-index scope name paths None e = refl
no-soup-index scope name paths (Some s) e = go (soup_named name s) (in_scope scope s) e
  where
    go : (p : Option Soup) (b : Bool) → None ≡ option_map (λ p. p.sig) p → None ≡ cond b (index_in_soup paths p) None
    go None true e = refl
    go None false e = refl
    go (Some p) b e = absurd (none-some p.sig e)

-- a store that is in scope or is not
pub scoped-index : (scope : Option ℕ) (name : List ℕ) (paths : List Path) (s : Store) (b : Bool) → b ≡ in_scope scope s → (o : Option Store) → o ≡ Some s
    → option_and_then (index_in scope name paths) o ≡ cond b (index_in_soup paths (soup_named name s)) None
scoped-index scope name paths s b e o is = ap (option_and_then (index_in scope name paths)) is ∙ ap (λ b. cond b (index_in_soup paths (soup_named name s)) None) (sym e)
