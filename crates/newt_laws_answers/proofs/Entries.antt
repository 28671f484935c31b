-- Entries that are shown and removed, and their aliases.
use Rattle.std.proofs.Common.{◌≡◌, ap, ◌∙◌, ℕ, List, [], ◌∷◌, Some, None, replicate}
use Rattle.std.specs.Option.{is_none}
use Rattle.newt_base.specs.Refusals.{Checks, first_of}
use Rattle.newt_base.specs.declared.Refusal.{Refusal}
use Rattle.newt_base.specs.declared.Refusal.TheVariants.{Entry as NoEntry}
use Rattle.newt_spec_store.specs.Store.{Store, Soup, Entry, soup_named, entry_of}
use Rattle.newt_spec_world.specs.declared.command.Command.TheVariants as command
use Rattle.newt_spec_world.specs.World.{World, soup_in}
use Rattle.newt_spec_world.specs.Reply.{Reply}
use Rattle.newt_spec_world.specs.Changed.{changed}
use Rattle.newt_spec_world.specs.Refused.{checks, no_entry}
use Rattle.newt_spec_world.specs.Answer.{answer, fields, or_nil}
use Rattle.newt_laws_answers.specs.Tests.{entry_checks, soup_checks}
use Rattle.newt_laws_answers.proofs.Firsts.{first-true, first-false, first-found}
use Rattle.newt_laws_answers.specs.There.{OnUnit}
use Rattle.newt_laws_answers.proofs.Units.{is-mounted, soup-named}
use Rattle.newt_laws_answers.proofs.Answers.{done, refused, all-pass, entry-named}

-- ---- the tests of an entry

module _ (w : World) (u blocks : ℕ) (s : Store) (name : List ℕ) (p : Soup) (uid : ℕ) (h : OnUnit w u blocks s) (f : soup_named name s ≡ Some p) where
  pub entry-passes : (e : Entry) → entry_of uid p ≡ Some e → (rest : Checks) → first_of (no_entry w u name uid ∷ rest) ≡ first_of rest
  entry-passes e k rest = first-false NoEntry _ rest (ap is_none (entry-named w u blocks s name p uid h f ∙ k))

  pub entry-fails : entry_of uid p ≡ None → (rest : Checks) → first_of (no_entry w u name uid ∷ rest) ≡ Some NoEntry
  entry-fails k rest = first-true NoEntry _ rest (ap is_none (entry-named w u blocks s name p uid h f ∙ k))

  pub no-entry : entry_of uid p ≡ None → first_of (entry_checks w u name uid) ≡ Some NoEntry
  no-entry k = all-pass w u blocks s name p (no_entry w u name uid ∷ []) h f ∙ entry-fails k []

  pub all-there : (e : Entry) → entry_of uid p ≡ Some e → first_of (entry_checks w u name uid) ≡ None
  all-there e k = all-pass w u blocks s name p (no_entry w u name uid ∷ []) h f ∙ entry-passes e k []

  pub get-done : (e : Entry) → entry_of uid p ≡ Some e → w.cursors ≡ replicate 32 None → answer w (command.Get u name uid) ≡ (w, Reply.timed e.time e.graph)
  unfolding checks changed fields
  get-done e k none = done w (command.Get u name uid) (all-there e k) none
      ∙ ap {B = World × Reply} (λ o. (w, or_nil (λ e. Reply.timed e.time e.graph) o)) (entry-named w u blocks s name p uid h f ∙ k)

  pub getx-done : (e : Entry) → entry_of uid p ≡ Some e → w.cursors ≡ replicate 32 None → answer w (command.Getx u name uid) ≡ (w, Reply.timed_nsof e.time e.graph)
  unfolding checks changed fields
  getx-done e k none = done w (command.Getx u name uid) (all-there e k) none
      ∙ ap {B = World × Reply} (λ o. (w, or_nil (λ e. Reply.timed_nsof e.time e.graph) o)) (entry-named w u blocks s name p uid h f ∙ k)

  pub alias-done : (e : Entry) → entry_of uid p ≡ Some e → w.cursors ≡ replicate 32 None → answer w (command.Alias u name uid) ≡ (w, Reply.alias s.sig p.sig uid)
  unfolding checks changed fields
  alias-done e k none = done w (command.Alias u name uid) (all-there e k) none
      ∙ ap {B = World × Reply} (λ o. (w, or_nil (λ (t : Store). or_nil (λ (p : Soup). Reply.alias t.sig p.sig uid) (soup_in w u name)) o)) (is-mounted w u blocks s h)
      ∙ ap {B = World × Reply} (λ o. (w, or_nil (λ (p : Soup). Reply.alias s.sig p.sig uid) o)) (soup-named w u blocks s name h ∙ f)

-- ---- refused

-- a command on an entry is refused where its soup is not there, or the entry is not
module _ (w : World) (u : ℕ) (name : List ℕ) (uid : ℕ) (r : Refusal) (h : first_of (entry_checks w u name uid) ≡ Some r) where
  pub get-refused : answer w (command.Get u name uid) ≡ (w, Reply.refused r)
  unfolding checks
  get-refused = refused w (command.Get u name uid) r h

  pub getx-refused : answer w (command.Getx u name uid) ≡ (w, Reply.refused r)
  unfolding checks
  getx-refused = refused w (command.Getx u name uid) r h

  pub alias-refused : answer w (command.Alias u name uid) ≡ (w, Reply.refused r)
  unfolding checks
  alias-refused = refused w (command.Alias u name uid) r h

-- where the soup is not there, no entry is
pub no-soup : (w : World) (u : ℕ) (name : List ℕ) (uid : ℕ) (r : Refusal) → first_of (soup_checks w u name) ≡ Some r → first_of (entry_checks w u name uid) ≡ Some r
no-soup w u name uid r h = first-found (soup_checks w u name) (no_entry w u name uid ∷ []) r h
