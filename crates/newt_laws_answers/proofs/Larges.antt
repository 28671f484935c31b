-- Large binaries of entries, read and written over.
use Rattle.std.proofs.Common.{◌≡◌, refl, ap, ◌∙◌, ℕ, ◌+◌, List, [], ◌∷◌, Option, Some, None, option_and_then, length, replicate, drop, nat_lt}
use Rattle.std.specs.Prelude.{slice_get}
use Rattle.std.specs.Option.{is_none}
use Rattle.newt_base.specs.Refusals.{Checks, first_of}
use Rattle.newt_base.specs.declared.Refusal.{Refusal}
use Rattle.newt_base.specs.declared.Refusal.TheVariants.{Path as NoPath, Range}
use Rattle.newt_spec_store.specs.Keys.{Path}
use Rattle.newt_spec_store.specs.Store.{Store, Soup, Entry, soup_named, entry_of}
use Rattle.newt_spec_world.specs.declared.command.Command.TheVariants as command
use Rattle.newt_spec_world.specs.World.{World, entry_in}
use Rattle.newt_spec_world.specs.Reply.{Reply}
use Rattle.newt_spec_graph.specs.Larges.{bytes_of_large, large_at, large_bytes}
use Rattle.newt_spec_world.specs.Changed.{changed}
use Rattle.newt_spec_world.specs.Refused.{checks, on_some}
use Rattle.newt_host.specs.Moments.{bytes_from}
use Rattle.newt_spec_world.specs.Answer.{answer, fields, or_nil}
use Rattle.newt_laws_answers.specs.Tests.{entry_checks}
use Rattle.newt_laws_answers.proofs.Tests.{patch_tests}
use Rattle.newt_store_change.specs.Entries.{large_checks}
use Rattle.newt_laws_answers.specs.There.{OnUnit}
use Rattle.newt_laws_answers.proofs.Firsts.{first-false}
use Rattle.newt_laws_answers.proofs.Answers.{done, refused, refused-early, entry-named}
use Rattle.newt_laws_answers.proofs.Replaces.{there-passes}

-- ---- refused before

module _ (w : World) (u : ℕ) (name : List ℕ) (uid : ℕ) (r : Refusal) (h : first_of (entry_checks w u name uid) ≡ Some r) (path : Path) (at : ℕ) where
  pub vread-not-found : (many : ℕ) → answer w (command.Vread u name uid path at many) ≡ (w, Reply.refused r)
  unfolding checks
  vread-not-found many = refused-early w (command.Vread u name uid path at many) (entry_checks w u name uid) (drop 4 (checks w (command.Vread u name uid path at many))) r refl h

-- ---- the entry is there

module _ (w : World) (u blocks : ℕ) (s : Store) (name : List ℕ) (p : Soup) (uid : ℕ) (h : OnUnit w u blocks s) (f : soup_named name s ≡ Some p) (e : Entry) (here : entry_of uid p ≡ Some e)
    (path : Path) (at : ℕ) where
  there : entry_in w u name uid ≡ Some e
  there = entry-named w u blocks s name p uid h f ∙ here

  -- the tests after the entry's, by the entry
  abbrev tests : ℕ → Option Entry → Checks
  tests upto o =
      (NoPath, on_some o (λ e. is_none (large_at e.graph path)))
      ∷ (Range, on_some o (λ e. nat_lt (length (large_bytes e.graph path)) upto)) ∷ []

  -- ---- vread

  vread-tests : (many : ℕ) → first_of (checks w (command.Vread u name uid path at many)) ≡ first_of (large_checks path (at + many) (Some e))
  unfolding checks
  vread-tests many = there-passes w u blocks s name p uid h f e here (drop 4 (checks w (command.Vread u name uid path at many))) ∙ ap (λ o. first_of (tests (at + many) o)) there

  pub vread-refused : (many : ℕ) (r : Refusal) → first_of (large_checks path (at + many) (Some e)) ≡ Some r → answer w (command.Vread u name uid path at many) ≡ (w, Reply.refused r)
  vread-refused many r k = refused w (command.Vread u name uid path at many) r (vread-tests many ∙ k)

  pub vread-done : (many : ℕ) → first_of (large_checks path (at + many) (Some e)) ≡ None → w.cursors ≡ replicate 32 None
      → answer w (command.Vread u name uid path at many) ≡ (w, Reply.hex (bytes_from at many (large_bytes e.graph path)))
  unfolding changed fields
  vread-done many k none = done w (command.Vread u name uid path at many) (vread-tests many ∙ k) none
      ∙ ap {B = World × Reply} (λ o. (w, or_nil (λ e. Reply.hex (bytes_from at many (large_bytes e.graph path))) o)) there

  -- ---- vwrite

  vwrite-tests : (bytes : List ℕ) → first_of (checks w (command.Vwrite u name uid path at bytes)) ≡ first_of (large_checks path (at + length bytes) (Some e))
  unfolding checks
  vwrite-tests bytes = there-passes w u blocks s name p uid h f e here (drop 4 (checks w (command.Vwrite u name uid path at bytes))) ∙ ap (λ o. first_of (tests (at + length bytes) o)) there

  -- the node of one is reached
  module _ (node : ℕ) (is : large_at e.graph path ≡ Some node) (bytes : List ℕ) where
    pub patch-checks : first_of (checks w (command.Vwrite u name uid path at bytes)) ≡ first_of (patch_tests node at (length bytes) e)
    patch-checks = vwrite-tests bytes ∙ first-false NoPath _ (drop 1 (large_checks path (at + length bytes) (Some e))) (ap is_none is)
        ∙ ap (λ o. first_of ((Range, nat_lt (length (bytes_of_large (option_and_then (slice_get e.graph.nodes) o))) (at + length bytes)) ∷ [])) is
