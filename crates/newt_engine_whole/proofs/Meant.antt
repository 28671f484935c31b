-- What is mounted is the same in each world that is stood for, and is what the cards have.
use Rattle.std.proofs.Common.{◌≡◌, refl, ap, sym, ◌∙◌, subst, ℕ, List, Bool, true, Option, option_map, option_and_then}
use Rattle.newt_base.specs.Refusals.{first_of}
use Rattle.newt_host.specs.Outside.{Outside}
use Rattle.newt_spec_query.specs.Cursor.{Cursor}
use Rattle.newt_spec_store.specs.Store.{Soup, Store, soup_named}
use Rattle.newt_spec_world.specs.Alias.{Alias, resolved}
use Rattle.newt_spec_world.specs.World.{Media, World, mounted_store, soup_in}
use Rattle.newt_laws_world.specs.Worlds.{OnMedia}
use Rattle.newt_laws_world.proofs.Kept.{Wf}
use Rattle.newt_laws_world.proofs.Units.{has-mounted}
use Rattle.newt_spec_world.specs.Refused.{checks}
use Rattle.newt_spec_world.specs.declared.command.Command.TheVariants as command
use Rattle.newt_laws_whole.specs.Runs.{AllFormed}
use Rattle.newt_laws_whole.proofs.Reading.{entry_tests}
use Rattle.newt_laws_steps.specs.Meant.{MountedSure, media_on}
use Rattle.newt_laws_steps.specs.StandsFor.{StandsFor, known}
use Rattle.newt_laws_steps.proofs.Held.{stands-sure}
use Rattle.newt_laws_steps.proofs.Meant.{store-m}
use Rattle.newt_laws_steps.proofs.MeantRows.{first-m, resolved-m}
use Rattle.newt_laws_steps.proofs.StoodFor.{known-stands, stood-for-meant}
use Rattle.newt_engine_units.specs.Looks.{next_uid_on}
use Rattle.newt_engine_units.specs.Stands.{world_of}
use Rattle.newt_engine_units.specs.declared.units.Units.{Units}
use Rattle.newt_engine_units.proofs.Known.{Laws, uid-is}
use Rattle.newt_engine.specs.Laws.{units_kept}
use Rattle.newt_engine.specs.Standing.{Standing, marks_with}
use Rattle.newt_engine.proofs.Applying.{known-formed}

module _ {C : Type 0} {reads : List ℕ → Option Store} {place : C → ℕ} {soups : C → Store} {stands : Bool → C → Outside → Type 0} (laws : Laws reads place soups stands)
    (units : Units C) (cursors : List (Option Cursor)) (o : Outside) (s : Standing reads place stands true units cursors o) where
  abbrev known_world : World
  known_world = known reads (marks_with units cursors) o

  known_sure : MountedSure known_world
  known_sure = stands-sure reads (marks_with units cursors) o known_world
      (known-stands reads (marks_with units cursors) o (units_kept laws units cursors o s))

  module _ (w : World) (means : StandsFor reads (marks_with units cursors) o w) where
    pub mounted-same : (u : ℕ) → mounted_store w u ≡ mounted_store (world_of reads units o) u
    mounted-same u = ap (λ (x : World). mounted_store x u) (stood-for-meant reads (marks_with units cursors) o w means)
        ∙ store-m (media_on w) known_world known_sure u

    pub soup-same : (u : ℕ) (name : List ℕ) → soup_in w u name ≡ soup_in (world_of reads units o) u name
    soup-same u name = ap (option_and_then (soup_named name)) (mounted-same u)

    pub uid-on : (u : ℕ) (name : List ℕ) → option_map (λ p. p.next_uid) (soup_in w u name) ≡ next_uid_on soups units u name
    uid-on u name = ap (option_map (λ (p : Soup). p.next_uid)) (soup-same u name) ∙ uid-is laws units o s.eight s.stand u name

    -- each store that is mounted is well formed
    pub all-formed : AllFormed w
    all-formed u t on =
        let r = has-mounted (world_of reads units o) u t (sym (mounted-same u) ∙ on) in
        subst (λ (m : Media). OnMedia Wf r.1.on.blocks m) r.1.has (known-formed laws units cursors o s u tt r.1.on r.1.is)

    -- an alias is resolved as it is there
    pub resolved-same : (a : Alias) → resolved w a ≡ resolved (world_of reads units o) a
    resolved-same a = ap (λ (x : World). resolved x a) (stood-for-meant reads (marks_with units cursors) o w means) ∙ resolved-m (media_on w) known_world known_sure a

    -- and an entry is refused for the same
    pub tests-same : (u uid : ℕ) (name : List ℕ) → first_of (entry_tests w u name uid) ≡ first_of (entry_tests (world_of reads units o) u name uid)
    unfolding checks
    tests-same u uid name = ap (λ (x : World). first_of (entry_tests x u name uid)) (stood-for-meant reads (marks_with units cursors) o w means)
        ∙ first-m (media_on w) known_world known_sure (command.Alias u name uid) refl
